use Rattle.std.proofs.Common.{arith, sym}
use Rattle.vax_pager.proofs.Bits.{has_is}
use Rattle.vax_pager.proofs.marks.Marks.has.Goals as goal

pub index-requires : goal.index-requires
index-requires c = omega (arith, c.self.invariant, c.requires, c.self.inside.words.ok.0)

pub returns : goal.returns
returns c = rw (sym c.self.view_is) (has_is _ c.args.number _ c.index.ensures (omega (arith, c.self.invariant, c.requires)))
