use Rattle.std.proofs.Common.{arith, ◌∙◌}
use Rattle.vax_pager.proofs.Told.{residents_count, residents_pages}
use Rattle.vax_pager.proofs.store.Store.residents.Goals as goal

pub residents-requires : goal.residents-requires
residents-requires c = record { room = let h = c.requires.sound in omega (arith, h.lengths, h.used, h.few, c.requires.room) }

pub returns-clause-count : goal.returns-clause-count
returns-clause-count c = c.residents.ensures.count ∙ residents_count c.args.self.now

pub returns-clause-few : goal.returns-clause-few
returns-clause-few c = let h = c.requires.sound in omega (arith, c.residents.ensures.count, h.lengths, h.used, h.few)

pub returns-clause-pages : goal.returns-clause-pages
returns-clause-pages c = c.residents.ensures.pages ∙ residents_pages c.args.self.now
