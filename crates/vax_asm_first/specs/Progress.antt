-- A statement, part by part (VAX MACRO and Instruction Set Reference Manual, "VAX MACRO source statement format").
use Rattle.std.specs.Prelude.{ℕ, List, Option, Some, None, Result, Ok, Err}
use Rattle.vax_asm_sections.specs.Layout.{Part, put}
use Rattle.vax_lex.specs.Grammar.{symbols_of}
use Rattle.vax_lex.specs.declared.token.Token.{Token}
use Rattle.vax_lex.specs.declared.value.Value.{Value}
use Rattle.vax_macro.specs.declared.error.FaultKind.{FaultKind}
use Rattle.vax_asm_first.specs.Faults.{lowest, number_of}
use Rattle.vax_asm_first.specs.Fixups.{Fixup}
use Rattle.vax_dialect.specs.declared.Dialect.{Dialect}
use Rattle.vax_asm_first.specs.Standing.{Standing, here_in, told, with_sections}
use Rattle.vax_asm_first.specs.declared.types.Origin.{Origin}
use Rattle.vax_asm_scope.specs.Scope.{Scope}

-- the statement: where it comes from, its line, and what `.` is worth in it
pub record Site : Type 0 where
  pub dialect : Dialect
  pub origin : Origin
  pub line : List ℕ
  pub here : Value

-- the statement that comes next
abbrev pub site_of : Origin → List ℕ → Standing → Site
site_of origin line s = record { dialect = s.dialect; origin = origin; line = line; here = here_in s.sections }

-- What the parts of a statement so far leave: the fault that counts, if one has any, and all that stands.
pub record Progress : Type 0 where
  pub fault : Option FaultKind
  pub standing : Standing

abbrev pub begun : Standing → Progress
begun s = record { fault = None; standing = s }

-- a change that is a part of a statement; where it is a fault, all is as before
abbrev pub after_change : Standing → Result Standing FaultKind → Progress
after_change s (Ok t) = record { fault = None; standing = t }
after_change s (Err kind) = record { fault = Some kind; standing = s }

-- one more part
abbrev pub joined : Option FaultKind → Progress → Progress
joined before p = record { fault = lowest before p.fault; standing = p.standing }

abbrev pub done_by : Option FaultKind → Standing → Result Standing FaultKind
done_by None s = Ok s
done_by (Some kind) s = Err kind

-- the statement has no fault, or its lowest
abbrev pub done : Progress → Result Standing FaultKind
done p = done_by p.fault p.standing

-- so many bytes more
abbrev pub added : ℕ → Part Fixup → Standing → Progress
added n part s = after_change s (with_sections s (put n part s.sections))

-- A number that must be known where it stands; 1 where none is written.
pub record Counted : Type 0 where
  pub number : Result ℕ FaultKind
  pub scope : Scope

abbrev pub counted : Site → Option (List Token) → Scope → Counted
counted site None s = record { number = Ok 1; scope = s }
counted site (Some tokens) s =
    let t = told site.dialect site.here (symbols_of site.line tokens) s in
    record { number = number_of t.value; scope = t.scope }
