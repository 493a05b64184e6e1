use Rattle.std.proofs.Common.{refl}
use Rattle.vax_pager.proofs.Keeping.{lies_by, lies_there}
use Rattle.vax_pager.proofs.store.Store.frame_of_code.Goals as goal

pub returns-in-Some-clause-lies : goal.returns-in-Some-clause-lies
returns-in-Some-clause-lies c = lies_by c.args.self.now c.args.self.now c.args.addr c.args.mode _ c.ranges.addr.fits refl c.in-Some.ensures

pub returns-clause-lies : goal.returns-clause-lies
returns-clause-lies c = lies_there c.args.self.now _ c.args.addr c.args.mode _ c.ranges.addr.fits c.frame_by_walk.ensures.paging c.frame_by_walk.ensures.frame
