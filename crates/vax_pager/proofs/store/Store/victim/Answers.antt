use Rattle.std.proofs.Common.{sym, ◌∙◌}
use Rattle.vax_pager.proofs.Told.{victim_is, some_first}
use Rattle.vax_pager.proofs.store.Store.victim.Goals as goal

pub unreachable-requires : goal.unreachable-requires
unreachable-requires c = some_first c.args.self.now (sym c.in-None.is ∙ c.first.ensures.first) c.requires.pins

pub returns-clause-value : goal.returns-clause-value
returns-clause-value c = (victim_is c.args.self.now c.in-Some.placed (sym c.in-Some.is ∙ c.first.ensures.first) c.first.ensures.once c.requires.sound c.requires.pins).value

pub returns-clause-resident : goal.returns-clause-resident
returns-clause-resident c = (victim_is c.args.self.now c.in-Some.placed (sym c.in-Some.is ∙ c.first.ensures.first) c.first.ensures.once c.requires.sound c.requires.pins).resident

pub returns-clause-unpinned : goal.returns-clause-unpinned
returns-clause-unpinned c = (victim_is c.args.self.now c.in-Some.placed (sym c.in-Some.is ∙ c.first.ensures.first) c.first.ensures.once c.requires.sound c.requires.pins).unpinned
