use Rattle.std.proofs.Common.{Option, sym, ap}
use Rattle.vax_space.specs.declared.Access.TheVariants.{Read}
use Rattle.vax_flat.specs.declared.Stop.{Stop}
use Rattle.vax_flat.specs.Memory.{number}
use Rattle.vax_flat.specs.Port.{loaded_by}
use Rattle.vax_undo.proofs.Accesses.{fine, gone}
use Rattle.vax_pager.specs.Paging.{view_of}
use Rattle.vax_pager.specs.Store.{paging}
use Rattle.vax_pager.proofs.Views.{number_same, read_value}
use Rattle.vax_pager.proofs.store.Store.read_slowly.Goals as goal

pub returns-in-Some-clause-answer : goal.returns-in-Some-clause-answer
returns-in-Some-clause-answer c =
    let free = fine (view_of (paging c.args.self.now)) c.args.addr c.args.n c.args.mode Read c.in_default.ensures c.ranges.addr.fits c.if-addr-n-gt-PAGE_BYTES.false (sym c.in-Some.ensures.resident) in
    read_value (view_of (paging c.args.self.now)) c.args.addr c.args.n c.args.mode _ free (number_same _ _ c.args.addr c.args.n _ c.in-Some.ensures.paging c.number_in.ensures)

pub returns-in-None-clause-answer : goal.returns-in-None-clause-answer
returns-in-None-clause-answer c =
    sym (ap (λ (s : Option Stop). loaded_by s (number (view_of (paging c.args.self.now)).byte c.args.addr c.args.n)) (gone (view_of (paging c.args.self.now)) c.args.addr c.args.n c.args.mode Read c.in_default.ensures c.requires.some (sym c.in-None.ensures.resident)))
