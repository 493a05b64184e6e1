use Rattle.std.proofs.Common.{◌≡◌, ◌+◌, drop}
use Rattle.std.specs.List.{prefix_len}
use Rattle.vax_macro.specs.Conditions.{ends_by}
use Rattle.vax_macro.proofs.conditions.ending_by.Given as goal

abbrev pub invariant-loop-count : goal.invariant-loop-count
invariant-loop-count l = prefix_len (ends_by l.place) l.pieces ≡ l.count + prefix_len (ends_by l.place) (drop l.count l.pieces)
