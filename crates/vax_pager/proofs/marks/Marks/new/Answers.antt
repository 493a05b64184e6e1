use Rattle.vax_pager.proofs.Bits.{no_marks_in, no_marks_length}
use Rattle.vax_pager.proofs.marks.Marks.new.Goals as goal

pub invariant_of-result : goal.invariant_of-result
invariant_of-result c = no_marks_length _ (c.in_ok-words.ensures.items_if_clones_equal (λ y e. e))

pub returns : goal.returns
returns c = no_marks_in 1088 _ (c.in_ok-words.ensures.items_if_clones_equal (λ y e. e))
