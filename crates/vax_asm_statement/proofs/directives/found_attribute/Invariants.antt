use Rattle.std.proofs.Common.{◌≡◌, drop}
use Rattle.vax_asm_statement.specs.Directives.{first_attribute}
use Rattle.vax_asm_statement.proofs.directives.found_attribute.Given as goal

-- the names so far are others
abbrev pub invariant-loop-entry : goal.invariant-loop-entry
invariant-loop-entry l = first_attribute l.all l.name ≡ first_attribute (drop l.entry-index l.all) l.name
