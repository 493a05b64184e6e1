use Rattle.std.proofs.Common.{◌≡◌, ◌++◌, drop, map}
use Rattle.vax_asm_values.specs.View.{meaning_of}
use Rattle.vax_asm_values.proofs.copies.copied.Given as goal

abbrev pub invariant-loop-meaning : goal.invariant-loop-meaning
invariant-loop-meaning l = map meaning_of l.names.items ++ map meaning_of (drop l.meaning-index l.meanings) ≡ map meaning_of l.meanings
