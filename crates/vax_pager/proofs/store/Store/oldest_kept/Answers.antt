use Rattle.vax_pager.proofs.Told.{oldest_page, oldest_there}
use Rattle.vax_pager.proofs.store.Store.oldest_kept.Goals as goal

pub returns-clause-page : goal.returns-clause-page
returns-clause-page c = oldest_page c.args.self.now _ c.oldest.ensures

pub returns-clause-there : goal.returns-clause-there
returns-clause-there c = oldest_there c.args.self.now _ c.oldest.ensures
