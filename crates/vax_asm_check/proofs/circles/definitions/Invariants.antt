use Rattle.std.proofs.Common.{◌≡◌, ◌++◌, drop, map}
use Rattle.vax_asm_values.specs.declared.types.Meaning.{Meaning}
use Rattle.vax_asm_check.proofs.circles.definitions.Given as goal

abbrev pub invariant-loop-meaning : goal.invariant-loop-meaning
invariant-loop-meaning l = l.list.items ++ map (λ (m : Meaning). m.definition) (drop l.meaning-index l.names) ≡ map (λ (m : Meaning). m.definition) l.names
