use Rattle.vax_lists.proofs.Frames.{low_first, no_first, some_first}
use Rattle.vax_lists.proofs.circles.Circles.first.Goals as goal

pub returns-then-self-eq0-clause-first : goal.returns-then-self-eq0-clause-first
returns-then-self-eq0-clause-first c = no_first _ _ _ _ _ c.self.view_is c.if-self-eq0.true

pub returns-clause-first : goal.returns-clause-first
returns-clause-first c = some_first _ _ _ _ _ _ _ _ c.from.ensures c.index.ensures c.self.view_is c.if-self-eq0.false c.self.invariant

pub returns-clause-below : goal.returns-clause-below
returns-clause-below c = low_first _ _ _ _ _ _ _ _ c.from.ensures c.index.ensures c.self.view_is c.if-self-eq0.false c.self.invariant
