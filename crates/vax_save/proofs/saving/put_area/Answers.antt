use Rattle.std.proofs.Common.{◌≡◌, ◌∙◌, ◌++◌, List, ℕ, ap, subst}
use Rattle.std.proofs.lemmas.Result.{on_err_weaker}
use Rattle.vax_save.specs.Saved.{area_field}
use Rattle.vax_save.specs.Stream.{Cuts, stream}
use Rattle.vax_save.proofs.saving.put_area.Goals as goal

pub returns-clause-cut : goal.returns-clause-cut
returns-clause-cut g c =
    let all : c.deref.result.now ≡ area_field c.args.area.now = c.deref.ensures.0 ∙ (c.push_area.ensures.exact ∙ ap (λ (z : List ℕ). z ++ area_field c.args.area.now) c.new-fields.ensures) in
    on_err_weaker c.put.result (λ h. subst (λ (z : List ℕ). Cuts z (stream (g.K.Sink.contents c.args.sink.now) c.args.held.now.items) (g.K.Sink.contents c.put.new.sink)) all h) c.put.ensures.cut
