use Rattle.std.proofs.Common.{◌++◌, ap, ◌∙◌, append_assoc}
use Rattle.std.proofs.lemmas.Result.{on_ok_weaker}
use Rattle.std.specs.Prelude.{codes}
use Rattle.vax_check.proofs.refusal.push_unknown.Goals as goal

pub returns : goal.returns
returns c =
    on_ok_weaker c.push-2.result
    (λ h. h ∙ ap (λ l. l ++ c.args.name.now) c.in_ok-push.ensures ∙ append_assoc c.args.out.now.items (codes "nothing defines the name ") c.args.name.now)
    c.push-2.ensures
