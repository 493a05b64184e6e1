use Rattle.std.proofs.Common.{arith, length-set, sym, ◌∙◌}
use Rattle.vax_pager.proofs.Bits.{marks_set}
use Rattle.vax_pager.proofs.marks.Marks.set.Goals as goal

pub index_mut-requires : goal.index_mut-requires
index_mut-requires c = omega (arith, c.self.invariant, c.requires, c.self.inside.words.ok.0)

pub invariant_of-self : goal.invariant_of-self
invariant_of-self c = length-set _ _ _ ∙ c.self.invariant

pub returns : goal.returns
returns c = rw (sym c.self.view_is) (marks_set _ c.args.number _ c.index_mut.ensures.value (omega (arith, c.self.invariant, c.requires)))
