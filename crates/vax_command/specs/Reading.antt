-- The files that a call reads, and when a file ends it.
use Rattle.std.specs.Prelude.{◌≡◌, ◌≢◌, ◌≤◌, ℕ, Bool, ◌||◌, if◌then◌else◌, codes, map, IsErrOf, OnOk, List, [], ◌∷◌, ◌++◌, length, take, drop, Option, None, Some, IfSome, unwrap_or, Result, Ok, Err, ⊤}
use Rattle.std.specs.Str.{bytes_eq}
use Rattle.vax_outside.specs.Directory.{Directory, bytes_of, read_result}
use Rattle.vax_outside.specs.declared.traits.FilesFault.{FilesFault}
use Rattle.vax_outside.specs.declared.traits.FilesFault.TheVariants as faults
use Rattle.vax_cli.specs.Words.{Options, Text}
use Rattle.vax_command.specs.Around.{Change, HasFailed}
use Rattle.vax_command.specs.declared.load.Role.{Role}
use Rattle.vax_command.specs.declared.load.Role.TheVariants as roles
use Rattle.vax_command.specs.declared.status.Status.{Status}
use Rattle.vax_command.specs.declared.status.Status.TheVariants.{Done, Usage, Missing, Large, Refused, Macros, Link, Schedule, Image, Turns, PageFault, ReadFault, WriteFault, NoMemory, Saved, Order, NotHalted, Unsuccessful, Unfinished, LineFault, Told}

-- the most bytes of a source, of the console's input, and of any file that the next limit isn't for
abbrev pub file_limit : ℕ
file_limit = 4194304

-- the most bytes of a linked program and of a schedule, which programs write
abbrev pub large_limit : ℕ
large_limit = 67108864

-- a file begins as an image, or as an executable
abbrev pub is_linked : Text → Bool
is_linked bytes = bytes_eq (take 4 bytes) (codes "VAXI") || bytes_eq (take 4 bytes) (0x7F ∷ codes "ELF")

-- a file that is wanted, and what for
pub record Sought : Type 0 where
  pub role : Role
  pub name : Text

abbrev pub wanted_as : Role → Text → Sought
wanted_as role name = record { role = role; name = name }

-- these files, each for this
abbrev pub all_sought : Role → List Text → List Sought
all_sought role names = map (λ name. wanted_as role name) names

-- the files of programs, and those of macros
abbrev pub of_programs : List Text → List Sought
of_programs names = all_sought roles.Program names

abbrev pub of_macros : List Text → List Sought
of_macros names = all_sought roles.Other names

-- the one file of this name
abbrev pub one_sought : Role → Text → List Sought
one_sought role name = wanted_as role name ∷ []

-- the most bytes that a file of these bytes may have, if it is wanted for this
abbrev pub limit_for : Role → Text → ℕ
limit_for roles.Program bytes = if is_linked bytes then large_limit else file_limit
limit_for roles.Schedule bytes = large_limit
limit_for roles.Other bytes = file_limit

-- the file of an option, if it is given
abbrev pub sought : Role → Option Text → List Sought
sought role None = []
sought role (Some name) = one_sought role name

-- the bytes of an option's file, if it is given
abbrev pub given : Option Text → List Text
given None = []
given (Some bytes) = bytes ∷ []

-- the files of a run's options and of a session's script, in order: the system, the input, the schedule, the script
abbrev pub of_options : Options → Option Text → List Sought
of_options options script =
    (sought roles.Program options.system ++ sought roles.Other options.input) ++ (sought roles.Schedule options.schedule ++ sought roles.Other script)

-- the bytes of a file and of those behind it, or the first name that can't be read, and why
abbrev pub joined_reads : Text → Result Text FilesFault → Result (List Text) (Text × FilesFault) → Result (List Text) (Text × FilesFault)
joined_reads name (Err fault) rest = Err (name, fault)
joined_reads name (Ok bytes) (Ok rest) = Ok (bytes ∷ rest)
joined_reads name (Ok bytes) (Err e) = Err e

-- what the read of the file of a name gives that is wanted for this: its bytes, if it is there and has no more than it may
abbrev pub read_as : Role → Directory → Text → Result Text FilesFault
read_as role files name = read_result files name (limit_for role (unwrap_or (bytes_of files name) []))

abbrev pub read_files : Directory → List Sought → Result (List Text) (Text × FilesFault)
read_files files [] = Ok []
read_files files (one ∷ others) = joined_reads one.name (read_as one.role files one.name) (read_files files others)

-- reading these files gives this, where the files are told
abbrev pub Reads : Option Directory → List Sought → Result (List Text) (Text × FilesFault) → Type 0
Reads contents wanted given = IfSome contents (λ files. read_files files wanted ≡ given)

-- When a read ends the call with this answer: the first argument says that the files' count of faults rose, the second which names are missing or too large.
abbrev pub EndsBy : Type 0 → (Text × FilesFault → Type 0) → Status → Type 0
EndsBy rose fails Done = ⊥
EndsBy rose fails Usage = ⊥
EndsBy rose fails (Missing name) = fails (name, faults.Missing)
EndsBy rose fails (Large name) = fails (name, faults.Large)
EndsBy rose fails (Refused file line kind) = ⊥
EndsBy rose fails (Macros file line kind) = ⊥
EndsBy rose fails (Link kind name place) = ⊥
EndsBy rose fails (Schedule line kind) = ⊥
EndsBy rose fails (Image place kind) = ⊥
EndsBy rose fails Turns = ⊥
EndsBy rose fails PageFault = ⊥
EndsBy rose fails ReadFault = rose
EndsBy rose fails WriteFault = ⊥
EndsBy rose fails NoMemory = ⊤
EndsBy rose fails (Saved place kind) = ⊥
EndsBy rose fails (Order line kind) = ⊥
EndsBy rose fails (Told which) = ⊥
EndsBy rose fails NotHalted = ⊥
EndsBy rose fails Unsuccessful = ⊥
EndsBy rose fails Unfinished = ⊥
EndsBy rose fails LineFault = ⊥

-- when reading these files ends the call
abbrev pub ReadEndsFrom : Type 0 → Option Directory → List Sought → Status → Type 0
ReadEndsFrom rose contents wanted status = EndsBy rose (λ why. Reads contents wanted (Err why)) status

abbrev pub ReadEnds : Change Directory → List Sought → Status → Type 0
ReadEnds files wanted status = ReadEndsFrom (HasFailed files) files.before.told wanted status

-- The files are as they were, and each call that failed was counted and is told.
pub record ReadsOnly {T : Type 0} (files : Change Directory) (result : Result T Status) : Type 0 where
  pub same : files.after.told ≡ files.before.told
  pub later : files.before.faults.count ≤ files.after.faults.count
  pub quiet : OnOk result (files.after.faults.count ≡ files.before.faults.count)
  pub failed : files.after.faults.count ≢ files.before.faults.count → IsErrOf result ReadFault
  pub once : files.after.faults.count ≢ files.before.faults.count → HasFailed files

-- the bytes of an option's file, if it is given
abbrev pub option_of : Option Text → List Text → Option Text
option_of None files = None
option_of (Some name) [] = None
option_of (Some name) (bytes ∷ files) = Some bytes

-- the bytes of an option's file, none where it isn't given, and the files behind it
abbrev pub first_of : Option Text → List Text → Text
first_of None files = []
first_of (Some name) [] = []
first_of (Some name) (bytes ∷ files) = bytes

abbrev pub behind : Option Text → List Text → List Text
behind None files = files
behind (Some name) [] = []
behind (Some name) (bytes ∷ files) = files

-- the texts of a run: those of its programs, of its system if it is given, of its input, its schedule and its script
pub record Texts : Type 0 where
  pub programs : List Text
  pub system : Option Text
  pub input : Text
  pub schedule : Text
  pub script : Text

abbrev pub texts_behind : List Text → Options → Option Text → List Text → Texts
texts_behind programs options script files = record {
  programs = programs;
  system = option_of options.system files;
  input = first_of options.input (behind options.system files);
  schedule = first_of options.schedule (behind options.input (behind options.system files));
  script = first_of script (behind options.schedule (behind options.input (behind options.system files)));
}

-- the files of a run, of which so many are its programs
abbrev pub texts_of : ℕ → Options → Option Text → List Text → Texts
texts_of count options script files = texts_behind (take count files) options script (drop count files)

-- reading the programs of these names, the files of the options and that of the script gives these texts
pub record HasTexts (contents : Option Directory) (names : List Text) (options : Options) (script : Option Text) (texts : Texts) : Type 0 where
  pub files : List Text
  pub read : Reads contents (of_programs names ++ of_options options script) (Ok files)
  pub are : texts_of (length names) options script files ≡ texts
