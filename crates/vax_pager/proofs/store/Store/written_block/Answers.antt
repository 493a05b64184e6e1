use Rattle.std.proofs.Common.{sym, ◌∙◌}
use Rattle.vax_pager.proofs.Told.{block_is, written_is}
use Rattle.vax_pager.proofs.store.Store.written_block.Goals as goal

pub returns-in-None-clause-blocked : goal.returns-in-None-clause-blocked
returns-in-None-clause-blocked c = written_is c.args.self.now c.args.page _ (sym c.in-None.is ∙ c.block_of.ensures.rank)

pub returns-then-has-clause-blocked : goal.returns-then-has-clause-blocked
returns-then-has-clause-blocked c = sym c.if-has.true ∙ c.has.ensures ∙ written_is c.args.self.now c.args.page _ c.in-Some.ensures.rank

pub returns-then-has-clause-block : goal.returns-then-has-clause-block
returns-then-has-clause-block c = block_is c.args.self.now c.args.page c.in-Some.block (sym c.in-Some.ensures.rank)

pub returns-else-has-clause-blocked : goal.returns-else-has-clause-blocked
returns-else-has-clause-blocked c = sym c.if-has.false ∙ c.has.ensures ∙ written_is c.args.self.now c.args.page _ c.in-Some.ensures.rank
