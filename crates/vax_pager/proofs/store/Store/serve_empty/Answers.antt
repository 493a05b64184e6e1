use Rattle.std.proofs.Common.{◌∙◌, ap, inr, refl}
use Rattle.vax_pager.specs.Steps.{brought}
use Rattle.vax_pager.proofs.Told.{within_prot}
use Rattle.vax_pager.proofs.Effects.{on_err, own_brought, own_comes, keeps_brought}
use Rattle.vax_pager.proofs.store.Store.serve_empty.Goals as goal

pub bring-requires-clause-within : goal.bring-requires-clause-within
bring-requires-clause-within g c = within_prot c.grow-frame.new.self c.args.page (rw c.grow-frame.ensures.paging c.requires.within)

pub bring-requires-clause-absent : goal.bring-requires-clause-absent
bring-requires-clause-absent g c = rw c.grow-frame.ensures.paging c.requires.absent

pub bring-requires-clause-unkept : goal.bring-requires-clause-unkept
bring-requires-clause-unkept g c = rw c.grow-frame.ensures.paging c.requires.unkept

pub returns-clause-ok : goal.returns-clause-ok
returns-clause-ok g c = own_brought _ _ _ _ (c.bring.ensures.paging ∙ ap (brought c.args.page _) c.grow-frame.ensures.paging)

pub returns-clause-bytes : goal.returns-clause-bytes
returns-clause-bytes g c = own_comes c.args.page _ _ _ _ _ (c.bring.ensures.paging ∙ ap (brought c.args.page _) c.grow-frame.ensures.paging) c.in_ok-bytes.ensures.bytes

pub returns-clause-keeps : goal.returns-clause-keeps
returns-clause-keeps g c =
    keeps_brought c.args.page _ _ _ _ _ (c.bring.ensures.paging ∙ ap (brought c.args.page _) c.grow-frame.ensures.paging) c.in_ok-bytes.ensures.read c.requires.within c.requires.absent c.in_ok-bytes.ensures.bytes

pub returns-in_err-bytes-clause-err : goal.returns-in_err-bytes-clause-err
returns-in_err-bytes-clause-err g c = on_err c.from_residual.result (inr (c.in_err-bytes.ensures.needed, refl, c.in_err-bytes.ensures.err))
