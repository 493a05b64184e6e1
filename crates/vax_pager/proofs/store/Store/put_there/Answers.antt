use Rattle.vax_pager.proofs.Poking.{never_stopped, one_written, unstopped}
use Rattle.vax_pager.specs.Store.{paging}
use Rattle.vax_pager.proofs.store.Store.put_there.Goals as goal

pub unreachable-requires : goal.unreachable-requires
unreachable-requires c =
    never_stopped c.write_run.result _ _ c.in-Err.is c.write_run.ensures.answer
    (unstopped (paging c.args.self.now) (paging c.args.self.now) c.args.addr c.args.bytes.now c.ranges.addr.fits c.requires.one_page c.requires.allowed c.requires.resident)

pub returns-clause-writes : goal.returns-clause-writes
returns-clause-writes c = one_written _ _ c.args.addr c.args.bytes.now c.ranges.addr.fits c.requires.one_page c.requires.allowed c.requires.resident c.write_run.ensures.stored c.write_run.ensures.only
