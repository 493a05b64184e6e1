use Rattle.std.proofs.Common.{drop}
use Rattle.vax_space.specs.Lookup.{Maps}
use Rattle.vax_space.proofs.codes.code_table.Given as goal

abbrev pub invariant-loop-i : goal.invariant-loop-i
invariant-loop-i l = Maps l.codes.items (drop l.i l.areas)
