use Rattle.std.proofs.Common.{◌≡◌, ◌++◌, ◌∙◌, ℕ, ap}
use Rattle.std.specs.Prelude.{codes, decimal}
use Rattle.vax_debug_replies.proofs.Pushing.{pushed_behind}
use Rattle.vax_debug_replies.proofs.frames.push_count.Goals as goal

pub returns-clause-exact : goal.returns-clause-exact
returns-clause-exact c =
    let same : c.from.result ≡ c.args.count = c.from.ensures in
    let counted : c.push_decimal.new.self ≡ c.push.new.self ++ decimal c.args.count = c.push_decimal.ensures.exact ∙ ap (λ (n : ℕ). c.push.new.self ++ decimal n) same in
    pushed_behind c.args.text.now c.push.new.self (decimal c.args.count ++ codes ":") c.push-2.new.self (codes "  ARGUMENTS ") c.push.ensures.exact
    (pushed_behind c.push.new.self c.push_decimal.new.self (codes ":") c.push-2.new.self (decimal c.args.count) counted c.push-2.ensures.exact)
