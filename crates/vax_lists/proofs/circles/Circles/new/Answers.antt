use Rattle.std.proofs.Common.{ap, refl, ◌+◌, ℕ, List, slice_set}
use Rattle.vax_lists.proofs.Frames.{new_linked, new_value}
use Rattle.vax_lists.proofs.circles.Circles.new.Goals as goal

pub invariant_of-result : goal.invariant_of-result
invariant_of-result c =
    let set : List ℕ → List ℕ = λ z. slice_set z (c.args.limit + 1) (c.args.limit + 1) in
    new_linked c.args.limit (c.args.limit + 2) _ _ c.requires.few refl (ap set (c.in_ok-next.ensures.items_if_clones_equal (λ y e. e))) (ap set (c.in_ok-before.ensures.items_if_clones_equal (λ y e. e)))

pub returns : goal.returns
returns c = new_value _ _
