use Rattle.std.proofs.Common.{◌≡◌, ◌∙◌, rules, true, arith, ap, sym, subst, length, List, ℕ}
use Rattle.std.specs.Prelude.{is_some}
use Rattle.vax_space.specs.declared.Area.{Area}
use Rattle.vax_space.specs.Areas.{area_of}
use Rattle.vax_outside.proofs.Counting.{counts_then}
use Rattle.vax_pager.proofs.Marking.{then_none}
use Rattle.vax_pager.proofs.Told.{is_paging}
use Rattle.vax_pager.proofs.Poking.{both_here, first_out, pins_in, second_out, then_alike, third_out, three_come}
use Rattle.vax_pager.proofs.Effects.{on_err}
use Rattle.vax_pager.proofs.store.Store.bring_both.Goals as goal

pub bring_in-requires-clause-pins : goal.bring_in-requires-clause-pins
bring_in-requires-clause-pins g c = let e = ap (length {A = ℕ}) c.requires.unpinned in let f = c.requires.frames in omega (arith, e, f)

pub bring_in-requires-2-clause-within : goal.bring_in-requires-2-clause-within
bring_in-requires-2-clause-within g c = subst (λ (z : List Area). is_some (area_of z c.args.high) ≡ true) (sym c.bring_in.ensures.alike.areas) c.requires.high

pub bring_in-requires-2-clause-pins : goal.bring_in-requires-2-clause-pins
bring_in-requires-2-clause-pins g c =
    let e = ap (length {A = ℕ}) c.requires.unpinned in
    let f = c.requires.frames in
    let a = pins_in c.args.low _ _ c.in_ok-bring_in.ensures.brings in
    let b = c.bring_in.ensures.alike.frames in
    omega (arith, e, f, a, b)

pub returns-in_err-bring_in-2-clause-alike : goal.returns-in_err-bring_in-2-clause-alike
returns-in_err-bring_in-2-clause-alike g c = then_alike _ _ _ c.bring_in.ensures.alike c.bring_in-2.ensures.alike

pub returns-in_err-bring_in-2-clause-counts : goal.returns-in_err-bring_in-2-clause-counts
returns-in_err-bring_in-2-clause-counts g c = counts_then (search rules) c.in_ok-bring_in.ensures.counts.quiet c.in_err-bring_in-2.ensures.counts

pub returns-in_err-bring_in-2-clause-keeps : goal.returns-in_err-bring_in-2-clause-keeps
returns-in_err-bring_in-2-clause-keeps g c = λ memory st. c.bring_in-2.ensures.keeps memory (c.bring_in.ensures.keeps memory st)

pub bring_in-requires-3-clause-within : goal.bring_in-requires-3-clause-within
bring_in-requires-3-clause-within g c =
    let e = then_alike _ _ _ c.bring_in.ensures.alike c.bring_in-2.ensures.alike in
    subst (λ (z : List Area). is_some (area_of z c.args.low) ≡ true) (sym e.areas) c.requires.low

pub bring_in-requires-3-clause-pins : goal.bring_in-requires-3-clause-pins
bring_in-requires-3-clause-pins g c =
    let e = ap (length {A = ℕ}) c.requires.unpinned in
    let f = c.requires.frames in
    let a = pins_in c.args.low _ _ c.in_ok-bring_in.ensures.brings in
    let b = c.bring_in.ensures.alike.frames in
    let h = pins_in c.args.high _ _ c.in_ok-bring_in-2.ensures.brings in
    let k = c.bring_in-2.ensures.alike.frames in
    omega (arith, e, f, a, b, h, k)

pub returns-in_err-bring_in-3-clause-alike : goal.returns-in_err-bring_in-3-clause-alike
returns-in_err-bring_in-3-clause-alike g c = then_alike _ _ _ (then_alike _ _ _ c.bring_in.ensures.alike c.bring_in-2.ensures.alike) c.bring_in-3.ensures.alike

pub returns-in_err-bring_in-3-clause-counts : goal.returns-in_err-bring_in-3-clause-counts
returns-in_err-bring_in-3-clause-counts g c =
    counts_then (search rules) (c.in_ok-bring_in-2.ensures.counts.quiet ∙ c.in_ok-bring_in.ensures.counts.quiet) c.in_err-bring_in-3.ensures.counts

pub returns-in_err-bring_in-3-clause-keeps : goal.returns-in_err-bring_in-3-clause-keeps
returns-in_err-bring_in-3-clause-keeps g c = λ memory st. c.bring_in-3.ensures.keeps memory (c.bring_in-2.ensures.keeps memory (c.bring_in.ensures.keeps memory st))

pub returns-clause-alike : goal.returns-clause-alike
returns-clause-alike g c = then_alike _ _ _ (then_alike _ _ _ c.bring_in.ensures.alike c.bring_in-2.ensures.alike) c.bring_in-3.ensures.alike

pub returns-clause-low : goal.returns-clause-low
returns-clause-low g c = c.in_ok-bring_in-3.ensures.brings.here

pub returns-clause-high : goal.returns-clause-high
returns-clause-high g c = both_here c.args.low c.args.high _ _ _ _ c.in_ok-bring_in.ensures.brings c.in_ok-bring_in-2.ensures.brings c.in_ok-bring_in-3.ensures.brings (is_paging _ c.bring_in-3.ensures.sound)

pub returns-clause-keeps : goal.returns-clause-keeps
returns-clause-keeps g c = λ memory st. c.bring_in-3.ensures.keeps memory (c.bring_in-2.ensures.keeps memory (c.bring_in.ensures.keeps memory st))

pub returns-in_err-bring_in-2-clause-marks : goal.returns-in_err-bring_in-2-clause-marks
returns-in_err-bring_in-2-clause-marks g c = then_none _ _ _ _ _ _ c.bring_in.ensures.marks c.bring_in-2.ensures.marks

pub returns-in_err-bring_in-3-clause-marks : goal.returns-in_err-bring_in-3-clause-marks
returns-in_err-bring_in-3-clause-marks g c = then_none _ _ _ _ _ _ (then_none _ _ _ _ _ _ c.bring_in.ensures.marks c.bring_in-2.ensures.marks) c.bring_in-3.ensures.marks

pub returns-clause-marks : goal.returns-clause-marks
returns-clause-marks g c = then_none _ _ _ _ _ _ (then_none _ _ _ _ _ _ c.bring_in.ensures.marks c.bring_in-2.ensures.marks) c.bring_in-3.ensures.marks

pub returns-clause-comes : goal.returns-clause-comes
returns-clause-comes g c = three_come c.args.low c.args.high c.args.low _ _ _ _ c.in_ok-bring_in.ensures.comes c.in_ok-bring_in-2.ensures.comes c.in_ok-bring_in-3.ensures.comes

pub returns-in_err-bring_in-clause-out : goal.returns-in_err-bring_in-clause-out
returns-in_err-bring_in-clause-out g c = on_err c.from_residual.result (first_out c.args.low c.args.high c.args.low _ _ c.in_err-bring_in.ensures.out)

pub returns-in_err-bring_in-2-clause-out : goal.returns-in_err-bring_in-2-clause-out
returns-in_err-bring_in-2-clause-out g c = on_err c.from_residual-in_err-bring_in-2.result (second_out c.args.low c.args.high c.args.low _ _ _ c.in_ok-bring_in.ensures.comes c.in_err-bring_in-2.ensures.out)

pub returns-in_err-bring_in-3-clause-out : goal.returns-in_err-bring_in-3-clause-out
returns-in_err-bring_in-3-clause-out g c = on_err c.from_residual-in_err-bring_in-3.result (third_out c.args.low c.args.high c.args.low _ _ _ _ c.in_ok-bring_in.ensures.comes c.in_ok-bring_in-2.ensures.comes c.in_err-bring_in-3.ensures.out)
