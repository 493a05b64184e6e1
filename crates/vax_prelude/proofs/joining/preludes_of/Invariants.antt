use Rattle.std.proofs.Common.{◌≡◌, ◌++◌, drop, map}
use Rattle.vax_prelude.specs.Preludes.{preludes_of}
use Rattle.vax_prelude.specs.View.{preludes_seen}
use Rattle.vax_prelude.proofs.joining.preludes_of.Given as goal

abbrev pub invariant-loop-i : goal.invariant-loop-i
invariant-loop-i l =
    preludes_seen l.all.items ++ preludes_of (map (λ name. name.now) (drop l.i l.names)) (map (λ v. v.items) (drop l.i l.texts))
    ≡ preludes_of (map (λ name. name.now) l.names) (map (λ v. v.items) l.texts)
