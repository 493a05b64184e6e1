-- What is wrong with an executable, by numbers, and what reading gives.
use Rattle.std.specs.Prelude.{◌≡◌, ℕ, Result, Ok, Err}
use Rattle.vax_elf.specs.declared.faults.ElfFault.{ElfFault}
use Rattle.vax_elf.specs.declared.faults.ElfFault.TheVariants.{Class, Order, Version, Kind, Machine, Sizes, Count, Short, Interpreter, Length, Alignment, Outside, Overlap, Entry}
use Rattle.vax_elf.specs.declared.faults.ElfError.{ElfError}
use Rattle.vax_elf.specs.declared.faults.ElfError.TheVariants.{Fault, NoMemory}

-- the numbers behind those of an image's faults
abbrev pub code_of : ElfFault → ℕ
code_of Class = 20
code_of Order = 21
code_of Version = 22
code_of Kind = 23
code_of Machine = 24
code_of Sizes = 25
code_of Count = 26
code_of Short = 27
code_of Interpreter = 28
code_of Length = 29
code_of Alignment = 30
code_of Outside = 31
code_of Overlap = 32
code_of Entry = 33

infixl 10 ◌>>=◌
abbrev pub ◌>>=◌ : {A B : Type 0} → Result A ElfError → (A → Result B ElfError) → Result B ElfError
(Ok x) >>= f = f x
(Err e) >>= f = Err e

-- memory may be refused at any time; another fault is the one that reading gives
abbrev pub Fails : {Y : Type 0} → ElfError → Result Y ElfError → Type 0
Fails NoMemory read = Unit {0}
Fails (Fault place kind) read = read ≡ Err (Fault place kind)

-- what a function returned, seen by view, is what reading gives, unless memory was refused
abbrev pub Gives : {X Y : Type 0} → (X → Y) → Result X ElfError → Result Y ElfError → Type 0
Gives view (Ok x) read = read ≡ Ok (view x)
Gives view (Err e) read = Fails e read
