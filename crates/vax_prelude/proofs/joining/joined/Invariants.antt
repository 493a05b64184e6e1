use Rattle.std.proofs.Common.{◌≡◌, ◌++◌, drop}
use Rattle.std.specs.List.{flat_map}
use Rattle.vax_prelude.specs.View.{preludes_seen}
use Rattle.vax_prelude.proofs.joining.joined.Given as goal

abbrev pub invariant-loop-prelude : goal.invariant-loop-prelude
invariant-loop-prelude l =
    l.all.items ++ flat_map (λ p. p.text) (preludes_seen (drop l.prelude-index l.preludes)) ≡ flat_map (λ p. p.text) (preludes_seen l.preludes)
