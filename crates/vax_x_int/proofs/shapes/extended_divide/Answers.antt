use Rattle.std.proofs.Common.{◌≡◌, ℕ, sym, ap, ◌∙◌, ◌==◌}
use Rattle.vax_word.specs.declared.Codes.{Codes}
use Rattle.vax_flat.specs.declared.Flow.{Flow}
use Rattle.vax_flat.specs.State.{State}
use Rattle.vax_flat.specs.Accesses.{Accesses, Leaf}
use Rattle.vax_flat.specs.Integer.{extended_divide}
use Rattle.vax_flat.specs.Rows.{answered, stored}
use Rattle.vax_operand.proofs.Working.{onward}
use Rattle.vax_x_int.proofs.shapes.extended_divide.Goals as goal

pub returns-clause-exact : goal.returns-clause-exact
unfolding extended_divide answered
returns-clause-exact g c =
    let by_zero = c.in_ok-divisor.divisor == 0 in
    let chain : g.W.Worker.holds c.store.new.self → (rest : g.W.Worker.Rest) (next : Flow → State → Accesses Leaf)
    → g.W.Worker.reading c.args.w.now (extended_divide (g.W.Worker.state c.args.w.now rest) next)
    ≡ g.W.Worker.reading c.store.new.self (answered 4 c.in_ok-remainder.remainder by_zero c.divided-made.result.1 (g.W.Worker.state c.store.new.self rest) next)
    = λ h rest next.
    let h4 = c.store.ensures.reads.seen h in
    let h3 = c.place-2.ensures.reads.seen h4 in
    let h2 = c.place.ensures.reads.seen h3 in
    let h1 = c.value-2.ensures.reads.seen h2 in
    c.in_ok-divisor.ensures.exact h1 rest _ ∙ (c.in_ok-dividend.ensures.exact h2 rest _ ∙ (c.in_ok-quotient.ensures.exact h3 rest _ ∙ (c.in_ok-remainder.ensures.exact h4 rest _
    ∙ (ap (λ (p : ℕ × (ℕ × Codes)). g.W.Worker.reading c.place-2.new.self (stored 4 c.in_ok-quotient.quotient p.0 (g.W.Worker.state c.place-2.new.self rest) (λ s. answered 4 c.in_ok-remainder.remainder by_zero p.1 s next))) (sym c.divided-made.ensures.exact)
    ∙ c.in_ok-store.ensures.exact h rest _)))) in
    onward g.W.Worker.state g.W.Worker.reading g.W.Worker.stops g.W.Worker.holds extended_divide
    (answered 4 c.in_ok-remainder.remainder by_zero c.divided-made.result.1)
    c.answered.result c.args.w.now c.store.new.self c.answered.new.self c.answered.ensures.moves.seen chain c.answered.ensures.exact
