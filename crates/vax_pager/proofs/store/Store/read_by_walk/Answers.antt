use Rattle.std.proofs.Common.{refl, sym, ◌∙◌}
use Rattle.std.proofs.lemmas.Bool.{false≢true}
use Rattle.vax_pager.specs.Paging.{view_of}
use Rattle.vax_pager.specs.Store.{paging}
use Rattle.vax_pager.proofs.Views.{number_same, read_value}
use Rattle.vax_pager.proofs.store.Store.read_by_walk.Goals as goal

pub returns-in-Some-clause-answer : goal.returns-in-Some-clause-answer
returns-in-Some-clause-answer c =
    read_value (view_of (paging c.args.self.now)) c.args.addr c.args.n c.args.mode _ c.in-Some.ensures.frame.free (number_same _ _ c.args.addr c.args.n _ c.in-Some.ensures.paging c.number_in.ensures)

pub returns-in-Some-clause-hits : goal.returns-in-Some-clause-hits
returns-in-Some-clause-hits c = λ within there. absurd (false≢true (sym (c.in-Some.ensures.missed refl) ∙ there))
