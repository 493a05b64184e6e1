-- Files by name, and what a read of one answers.
use Rattle.std.specs.Prelude.{◌≡◌, ℕ, Bool, true, false, List, [], ◌∷◌, nat_lt, length, map, string_bytes, Option, None, Some, Result, Ok, Err, if◌then◌else◌, ⊤}
use Rattle.std.specs.Str.{bytes_eq}
use Rattle.std.specs.Global.{Global, Vec}
use Rattle.std.specs.declared.string.String.{String}
use Rattle.vax_outside.specs.declared.traits.FilesFault.{FilesFault}
use Rattle.vax_outside.specs.declared.traits.FilesFault.TheVariants.{Missing, Large, Failed, NoMemory}

-- names with the bytes of their files
abbrev pub Directory : Type 0
Directory = List (List ℕ × List ℕ)

-- the directory that a program's list of names and bytes gives
abbrev pub directory : List (String Global × Vec ℕ) → Directory
directory files = map (λ file. (string_bytes file.0, file.1.items)) files

-- the bytes of the file of this name, of two such files those of the first
abbrev pub bytes_of : Directory → List ℕ → Option (List ℕ)
bytes_of [] name = None
bytes_of (file ∷ files) name = if bytes_eq file.0 name then Some file.1 else bytes_of files name

-- a file's bytes, if it is there and has at most so many
abbrev pub within_limit : Option (List ℕ) → ℕ → Result (List ℕ) FilesFault
within_limit None limit = Err Missing
within_limit (Some bytes) limit = if nat_lt limit (length bytes) then Err Large else Ok bytes

-- what a read answers that neither fails nor wants memory
abbrev pub read_result : Directory → List ℕ → ℕ → Result (List ℕ) FilesFault
read_result files name limit = within_limit (bytes_of files name) limit

-- the answer is the one that is due, but for a failure and want of memory
abbrev pub IsDue : Result (Vec ℕ) FilesFault → Result (List ℕ) FilesFault → Type 0
IsDue (Ok bytes) due = due ≡ Ok bytes.items
IsDue (Err Missing) due = due ≡ Err Missing
IsDue (Err Large) due = due ≡ Err Large
IsDue (Err Failed) due = ⊤
IsDue (Err NoMemory) due = ⊤

-- where the files are told, the answer is that of a read of this name
abbrev pub AnswersRead : Result (Vec ℕ) FilesFault → Option Directory → List ℕ → ℕ → Type 0
AnswersRead result None name limit = ⊤
AnswersRead result (Some files) name limit = IsDue result (read_result files name limit)

-- the call failed
abbrev pub is_failed : Result (Vec ℕ) FilesFault → Bool
is_failed (Ok bytes) = false
is_failed (Err Missing) = false
is_failed (Err Large) = false
is_failed (Err Failed) = true
is_failed (Err NoMemory) = false
