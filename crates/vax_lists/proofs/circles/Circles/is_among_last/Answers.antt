use Rattle.std.proofs.Common.{arith, sym, ◌∙◌}
use Rattle.vax_lists.proofs.Frames.{came_back, end_within, left_all, left_here, left_more, left_none}
use Rattle.vax_lists.proofs.circles.Circles.is_among_last.Goals as goal

pub loop-init : goal.loop-init
loop-init c = record {
  within = end_within _ _ _ _ _ c.self.invariant;
  left = left_all _ _ _ _ _ c.args.frame c.args.count _ c.self.view_is c.self.invariant c.requires.few;
}

pub index-requires : goal.index-requires
index-requires c = omega (arith, c.loop.invariant.within, c.self.inside.links.before.ok.0)

pub returns-then-at-frame : goal.returns-then-at-frame
returns-then-at-frame c =
    sym (left_here _ _ _ _ _ (came_back _ _ _ _ c.from-at.ensures c.index.ensures c.loop.invariant.within) c.loop-test.true c.if-at-frame.true) ∙ c.loop.invariant.left

pub loop-preserved : goal.loop-preserved
loop-preserved c =
    let was = came_back _ _ _ _ c.from-at.ensures c.index.ensures c.loop.invariant.within in
    record {
      within = omega (arith, was, c.self.invariant.before_within c.loop.at, c.self.invariant.before_size);
      left = left_more _ _ _ _ _ _ was c.loop-test.true c.if-at-frame.false ∙ c.loop.invariant.left;
    }

pub returns : goal.returns
returns c = sym (left_none _ _ _ _ _ c.loop-test.false) ∙ c.loop.invariant.left
