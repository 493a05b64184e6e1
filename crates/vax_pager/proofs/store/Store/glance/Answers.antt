use Rattle.std.proofs.Common.{sym}
use Rattle.vax_pager.specs.Paging.{view_of}
use Rattle.vax_pager.specs.Store.{paging}
use Rattle.vax_pager.proofs.Keeping.{readable}
use Rattle.vax_pager.proofs.Views.{read_value}
use Rattle.vax_pager.proofs.store.Store.glance.Goals as goal

pub returns-clause-answer : goal.returns-clause-answer
returns-clause-answer c =
    let view = view_of (paging c.args.self.now) in
    sym (read_value view c.args.addr c.args.n c.args.mode _ (readable view c.args.addr c.args.n c.args.mode c.args.access c.in_ok-frame.ensures.free) c.number_in.ensures)
