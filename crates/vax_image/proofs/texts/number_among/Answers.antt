use Rattle.std.proofs.Common.{◌≡◌, ◌+◌, ◌<◌, length, sym, ap, ◌∙◌, add-zero, arith}
use Rattle.std.proofs.lemmas.Bool.{eqb-false}
use Rattle.vax_image.specs.Views.{texts}
use Rattle.vax_image.proofs.SecondVersion.{with_some}
use Rattle.vax_image.proofs.Taking.{place_here, place_there}
use Rattle.vax_image.proofs.texts.number_among.Goals as goal

pub returns-then-is_shared : goal.returns-then-is_shared
returns-then-is_shared c =
    let full : length c.args.bytes.now ≡ 0 → ⊥ = eqb-false (length c.args.bytes.now) 0 (sym c.if-is_empty.ensures) in
    let some : 0 < length c.args.bytes.now = omega arith in
    let here = place_here c.args.taken.now c.args.bytes.now c.args.prot c.loop-number.number _ c.loop-number-test.true (sym c.if-is_shared.ensures) in
    sym (with_some (texts c.args.taken.now) c.args.bytes.now c.args.prot some ∙ c.loop-number.invariant ∙ ap (λ k. c.loop-number.number + k) here ∙ add-zero c.loop-number.number)

pub loop-number-preserved : goal.loop-number-preserved
loop-number-preserved c =
    let there = place_there c.args.taken.now c.args.bytes.now c.args.prot c.loop-number.number _ c.loop-number-test.true (sym c.if-is_shared.ensures) in
    omega (arith, there, c.loop-number.invariant)
