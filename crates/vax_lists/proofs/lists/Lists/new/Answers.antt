use Rattle.std.proofs.Common.{refl}
use Rattle.vax_lists.proofs.Moves.{new_pages, new_value}
use Rattle.vax_lists.proofs.lists.Lists.new.Goals as goal

pub invariant_of-result : goal.invariant_of-result
invariant_of-result c = new_pages _ _ _ _ _ c.in_ok-held.ensures c.in_ok-modified.ensures (c.in_ok-pages.ensures.items_if_clones_equal (λ y e. e)) refl

pub returns : goal.returns
returns c = new_value _ _ _ _ _ c.in_ok-held.ensures c.in_ok-modified.ensures (c.in_ok-pages.ensures.items_if_clones_equal (λ y e. e)) refl
