use Rattle.std.proofs.Common.{◌≡◌, ◌∙◌, List, ℕ, Option, ap, length, rules, subst, sym}
use Rattle.std.specs.Prelude.{IfSome, is_some}
use Rattle.vax_pager.specs.Meaning.{pages}
use Rattle.vax_pager.specs.Poking.{IsPage}
use Rattle.vax_pager.proofs.Told.{space_is}
use Rattle.vax_machine.proofs.Showing.{page_found}
use Rattle.vax_machine.specs.Meaning.{engine}
use Rattle.vax_machine.proofs.machine.Machine.page.Goals as goal

pub returns-in-Some-clause-bytes : goal.returns-in-Some-clause-bytes
returns-in-Some-clause-bytes g c =
    let m = engine c.args.self.now in
    let len : length c.in-Some.bytes ≡ 512 = search rules in
    page_found m _ c.args.page c.in-Some.bytes (space_is m.pager) (sym c.in_ok-page.ensures.none ∙ ap is_some c.in-Some.is) len
    (subst (λ (z : Option (List ℕ)). IfSome z (IsPage (pages m.pager) (g.F.PageFile.contents c.args.file.now) c.args.page)) c.in-Some.is c.in_ok-page.ensures.bytes)
