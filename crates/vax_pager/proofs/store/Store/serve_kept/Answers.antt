use Rattle.std.proofs.Common.{◌∙◌, ap, inr, refl}
use Rattle.vax_pager.specs.Store.{paging}
use Rattle.vax_pager.specs.Steps.{brought}
use Rattle.vax_pager.proofs.Told.{within_prot, kept_gone}
use Rattle.vax_pager.proofs.Effects.{on_err, own_brought, own_comes, keeps_in_kept, forgotten_areas, forgotten_order, forgotten_unkept}
use Rattle.vax_pager.proofs.store.Store.serve_kept.Goals as goal

pub bring-requires-clause-within : goal.bring-requires-clause-within
bring-requires-clause-within g c = within_prot c.forget.new.self c.args.page (rw (c.forget.ensures.paging, forgotten_areas) c.requires.within)

pub bring-requires-clause-absent : goal.bring-requires-clause-absent
bring-requires-clause-absent g c = rw (c.forget.ensures.paging, forgotten_order) c.requires.absent

pub bring-requires-clause-unkept : goal.bring-requires-clause-unkept
bring-requires-clause-unkept g c = rw c.forget.ensures.paging (forgotten_unkept c.args.page c.args.old.page (paging c.args.self.now) c.requires.unkept)

pub returns-clause-ok : goal.returns-clause-ok
returns-clause-ok g c =
    let e = c.bring.ensures.paging ∙ ap (brought c.args.page _) c.forget.ensures.paging in
    own_brought _ _ _ _ e

pub returns-clause-bytes : goal.returns-clause-bytes
returns-clause-bytes g c =
    let e = c.bring.ensures.paging ∙ ap (brought c.args.page _) c.forget.ensures.paging in
    own_comes c.args.page _ _ _ _ _ e c.in_ok-bytes.ensures.bytes

pub returns-clause-keeps : goal.returns-clause-keeps
returns-clause-keeps g c =
    let e = c.bring.ensures.paging ∙ ap (brought c.args.page _) c.forget.ensures.paging in
    keeps_in_kept c.args.page c.args.old.page _ _ _ _ _ e c.in_ok-bytes.ensures.read c.requires.within c.requires.absent (kept_gone _ _ _ c.requires.sound c.requires.kept) c.in_ok-bytes.ensures.bytes

pub returns-in_err-bytes-clause-err : goal.returns-in_err-bytes-clause-err
returns-in_err-bytes-clause-err g c = on_err c.from_residual.result (inr (c.in_err-bytes.ensures.needed, refl, c.in_err-bytes.ensures.err))
