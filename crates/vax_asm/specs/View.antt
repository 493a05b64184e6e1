-- What the assembler answers.
use Rattle.std.specs.Global.{Vec}
use Rattle.std.specs.Prelude.{◌≡◌, ℕ, List, map, Option, Result, Ok, Err}
use Rattle.vax_asm.specs.Placing.{Stands, placed, waiting_in}
use Rattle.vax_asm.specs.Walk.{Assembly, Next, said}
use Rattle.vax_asm.specs.declared.error.AsmError.{AsmError}
use Rattle.vax_asm.specs.declared.error.AsmError.TheVariants as errors
use Rattle.vax_asm_second.specs.declared.types.Fault.{Fault}
use Rattle.vax_asm_second.specs.declared.types.FillError.{FillError}
use Rattle.vax_asm_second.specs.declared.types.FillError.TheVariants as fill_errors
use Rattle.vax_asm_labels.specs.Naming.{with_waiting}
use Rattle.vax_module.specs.declared.Module.{Module}
use Rattle.vax_asm_first.specs.View.{assignment_of, standing_of}
use Rattle.vax_asm_first.specs.declared.types.Assignment.{Assignment}
use Rattle.vax_asm_first.specs.declared.types.Origin.{Origin}
use Rattle.vax_asm_first.specs.declared.types.Standing.{Standing}

-- The module or the fault that is meant; memory may be refused at any time.
abbrev pub Answers : Result Module AsmError → Result Module Fault → Type 0
Answers (Ok m) meant = meant ≡ Ok m
Answers (Err (errors.Fault line kind)) meant = (place : ℕ) × (meant ≡ Err (record { origin = record { line = line; place = place }; kind = kind }))
Answers (Err errors.NoMemory) meant = Unit {0}

-- what the code's types mean
abbrev pub assembly_of : Standing → Vec Assignment → Assembly
assembly_of s assignments = record { standing = standing_of s; assignments = map assignment_of assignments.items }

-- A statement was carried out, or ends the walk with a fault; memory may be refused at any time.
abbrev pub Says : Result Unit FillError → Origin → (text : List ℕ) → (before after : Assembly) → (met now : Option Fault) → Type 0
Says (Ok done) origin text before after met now = (next : Next) → said origin text before met next ≡ next after now
Says (Err (fill_errors.Fault f)) origin text before after met now = (next : Next) → said origin text before met next ≡ Err f
Says (Err fill_errors.NoMemory) origin text before after met now = Unit {0}

-- The statement stands, and this is what it leaves.
abbrev pub Stood : Origin → (text : List ℕ) → (before after : Assembly) → Type 0
Stood origin text before after =
    let p = placed origin text before.standing in
    (p ≡ Stands after.standing (waiting_in p)) × (after.assignments ≡ with_waiting (waiting_in p) before.assignments)
