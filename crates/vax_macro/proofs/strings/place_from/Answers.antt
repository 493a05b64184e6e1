use Rattle.std.proofs.Common.{◌≡◌, ℕ, true, false, List, length, take, drop, ap, sym, ◌∙◌, arith}
use Rattle.std.specs.Str.{bytes_eq}
use Rattle.vax_macro.proofs.Places.{found_here, found_later}
use Rattle.vax_macro.proofs.strings.place_from.Goals as goal

pub returns-then-begins-clause-value : goal.returns-then-begins-clause-value
returns-then-begins-clause-value c =
    let wanted : List ℕ = c.args.wanted.now in
    let text : List ℕ = c.args.text.now in
    let e : bytes_eq wanted (take (length wanted) (drop c.loop-at.at text)) ≡ true =
    ap (λ (t : List ℕ). bytes_eq wanted (take (length wanted) t)) (sym c.behind.ensures) ∙ sym c.begins.ensures ∙ c.if-begins.true in
    sym (found_here c.loop-at.at wanted text (let less = c.loop-at-test.true in omega (arith, less)) e) ∙ c.loop-at.invariant.same

pub loop-at-preserved : goal.loop-at-preserved
loop-at-preserved c =
    let wanted : List ℕ = c.args.wanted.now in
    let text : List ℕ = c.args.text.now in
    let e : bytes_eq wanted (take (length wanted) (drop c.loop-at.at text)) ≡ false =
    ap (λ (t : List ℕ). bytes_eq wanted (take (length wanted) t)) (sym c.behind.ensures) ∙ sym c.begins.ensures ∙ c.if-begins.false in
    record {
      same = sym (found_later c.loop-at.at wanted text (let less = c.loop-at-test.true in omega (arith, less)) e) ∙ c.loop-at.invariant.same;
      bound = let less = c.loop-at-test.true in omega (arith, less);
    }
