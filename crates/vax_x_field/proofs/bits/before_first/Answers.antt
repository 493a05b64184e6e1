use Rattle.std.proofs.Common.{◌≤◌, ◌∙◌, ap, sym, subst, true, false}
use Rattle.vax_flat.specs.Field.{bits_of, before_first}
use Rattle.vax_x_field.proofs.BitLaws.{first_clear, before_within}
use Rattle.vax_x_field.proofs.bits.before_first.Goals as goal

pub returns-then-set-clause-exact : goal.returns-then-set-clause-exact
returns-then-set-clause-exact c = c.before_one.ensures ∙ ap (λ set. before_first set (bits_of c.args.size c.args.field)) (sym c.if-set.true)

pub returns-then-set-clause-within : goal.returns-then-set-clause-within
returns-then-set-clause-within c = subst (λ n. n ≤ c.args.size) (sym c.before_one.ensures) (before_within true c.args.size c.args.field)

pub returns-else-set-clause-exact : goal.returns-else-set-clause-exact
returns-else-set-clause-exact c =
    c.before_one-else-set.ensures ∙ first_clear c.args.size c.args.field _ c.ones.ensures c.requires.fits ∙ ap (λ set. before_first set (bits_of c.args.size c.args.field)) (sym c.if-set.false)

pub returns-else-set-clause-within : goal.returns-else-set-clause-within
returns-else-set-clause-within c = subst (λ n. n ≤ c.args.size) (sym c.before_one-else-set.ensures) (before_within true c.args.size _)
