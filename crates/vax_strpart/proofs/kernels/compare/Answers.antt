use Rattle.std.proofs.Common.{◌==◌, not, ◌∙◌, ◌<◌, ℕ, subst}
use Rattle.std.specs.Prelude.{IfSome}
use Rattle.std.specs.List.{zip}
use Rattle.vax_strpart.proofs.MarkLaws.{position-map, length-differ}
use Rattle.vax_strpart.proofs.kernels.compare.Goals as goal

pub returns-clause-exact : goal.returns-clause-exact
returns-clause-exact c = c.first.ensures.exact ∙ position-map {A = ℕ × ℕ} (λ p. not (p.0 == p.1)) (zip c.args.a.now c.args.b.now)

pub returns-clause-within : goal.returns-clause-within
returns-clause-within c =
    let P : ℕ → Type 0 = λ n. IfSome c.first.result (λ i. i < n) in
    subst P (length-differ c.args.a.now c.args.b.now c.requires) c.first.ensures.within
