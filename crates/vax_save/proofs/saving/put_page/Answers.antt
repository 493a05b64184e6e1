use Rattle.std.proofs.Common.{List, [], ℕ, Option, subst}
use Rattle.std.specs.Prelude.{IfSome}
use Rattle.std.proofs.lemmas.Result.{on_err_weaker, on_ok_weaker}
use Rattle.vax_outside.proofs.Growth.{on_err}
use Rattle.vax_flat.specs.Parts.{machine_at}
use Rattle.vax_machine.specs.Console.{ShowsPage}
use Rattle.vax_machine.specs.Meaning.{engine}
use Rattle.vax_save.specs.Saved.{content_field, page_field}
use Rattle.vax_save.specs.Stream.{Cuts, Puts, stream}
use Rattle.vax_save.proofs.Streaming.{given_up, leaves_same}
use Rattle.vax_save.proofs.saving.put_page.Goals as goal

pub returns-in_err-page-clause-cut : goal.returns-in_err-page-clause-cut
returns-in_err-page-clause-cut g c = on_err c.from_residual.result (λ place means. given_up (page_field (machine_at place).memory c.args.page) (stream (g.K.Sink.contents c.args.sink.now) c.args.held.now.items))

pub returns-in-Some-clause-ok : goal.returns-in-Some-clause-ok
returns-in-Some-clause-ok g c =
    let shows = subst (λ (z : Option (List ℕ)). IfSome z (ShowsPage (engine c.args.machine.now) (g.F.PageFile.contents c.args.file.now) c.args.page)) c.in-Some.is c.in_ok-page.ensures.bytes in
    on_ok_weaker c.put_content.result (λ h place means. subst (λ (z : List ℕ). Puts (content_field c.args.page z) (stream (g.K.Sink.contents c.args.sink.now) c.args.held.now.items) (stream (g.K.Sink.contents c.put_content.new.sink) c.put_content.new.held.items)) (shows place means) h) c.put_content.ensures.ok

pub returns-in-Some-clause-cut : goal.returns-in-Some-clause-cut
returns-in-Some-clause-cut g c =
    let shows = subst (λ (z : Option (List ℕ)). IfSome z (ShowsPage (engine c.args.machine.now) (g.F.PageFile.contents c.args.file.now) c.args.page)) c.in-Some.is c.in_ok-page.ensures.bytes in
    on_err_weaker c.put_content.result (λ h place means. subst (λ (z : List ℕ). Cuts (content_field c.args.page z) (stream (g.K.Sink.contents c.args.sink.now) c.args.held.now.items) (g.K.Sink.contents c.put_content.new.sink)) (shows place means) h) c.put_content.ensures.cut

pub returns-in_err-page-clause-some_cut : goal.returns-in_err-page-clause-some_cut
returns-in_err-page-clause-some_cut g c = on_err c.from_residual.result ([], given_up [] (stream (g.K.Sink.contents c.args.sink.now) c.args.held.now.items))

pub returns-in-None-clause-some : goal.returns-in-None-clause-some
returns-in-None-clause-some g c = ([], leaves_same [] (stream (g.K.Sink.contents c.args.sink.now) c.args.held.now.items))

pub returns-in-Some-clause-some : goal.returns-in-Some-clause-some
returns-in-Some-clause-some g c = on_ok_weaker c.put_content.result (λ h. (_, h)) c.put_content.ensures.ok

pub returns-in-Some-clause-some_cut : goal.returns-in-Some-clause-some_cut
returns-in-Some-clause-some_cut g c = on_err_weaker c.put_content.result (λ h. (_, h)) c.put_content.ensures.cut
