use Rattle.std.proofs.Common.{◌+◌, ◌-◌, ◌<◌, ◌∙◌, length, take, List, ℕ, Ok, ap, arith}
use Rattle.std.proofs.lemmas.List.{length-set, take_all, take_more_set}
use Rattle.std.proofs.lemmas.Result.{err_from_is_err_and}
use Rattle.vax_save.specs.Restoring.{longwords_at}
use Rattle.vax_save.specs.Views.{cursor}
use Rattle.vax_save.proofs.Loops.{longwords_done, longwords_end, longwords_go_on, with_front}
use Rattle.vax_save.proofs.registers.fill.Goals as goal

pub returns-in_err-n-clause-gives : goal.returns-in_err-n-clause-gives
returns-in_err-n-clause-gives c =
    let p = err_from_is_err_and c.from_residual.result c.from_residual.ensures.1 in
    let lt : c.loop-i.i < length c.args.numbers.now = let t = c.loop-i-test.true in let k = c.loop-i.invariant.len in omega (arith, t, k) in
    rw (p.1, p.2) (longwords_end c.in_err-n.field-0.0 (take c.loop-i.i c.loop-i.numbers) (length c.args.numbers.now) c.loop-i.i (cursor c.loop-i.rest) (longwords_at (length c.args.numbers.now) (cursor c.args.from)) lt c.in_err-n.ensures.gives c.loop-i.invariant.so_far)

pub loop-i-preserved : goal.loop-i-preserved
loop-i-preserved c =
    let len = c.loop-i.invariant.len in
    let t = c.loop-i-test.true in
    let lt : c.loop-i.i < length c.args.numbers.now = omega (arith, t, len) in
    let there : c.loop-i.i < length c.loop-i.numbers = omega (arith, lt, len) in
    record {
      len = length-set c.loop-i.numbers c.loop-i.i c.in_ok-n.n ∙ len;
      so_far = ap (λ (z : List ℕ). with_front z (longwords_at (length c.args.numbers.now - (c.loop-i.i + 1)) (cursor c.in_ok-n.after))) (take_more_set c.loop-i.numbers c.loop-i.i c.in_ok-n.n there)
          ∙ longwords_go_on (take c.loop-i.i c.loop-i.numbers) (length c.args.numbers.now) c.loop-i.i c.in_ok-n.n (cursor c.loop-i.rest) (cursor c.in_ok-n.after) (longwords_at (length c.args.numbers.now) (cursor c.args.from)) lt c.in_ok-n.ensures.gives c.loop-i.invariant.so_far;
    }

pub returns-clause-gives : goal.returns-clause-gives
returns-clause-gives c =
    let le = c.loop-i-test.false in
    let len = c.loop-i.invariant.len in
    longwords_done (take c.loop-i.i c.loop-i.numbers) (length c.args.numbers.now) c.loop-i.i (cursor c.loop-i.rest) (longwords_at (length c.args.numbers.now) (cursor c.args.from)) le c.loop-i.invariant.so_far
    ∙ ap (λ (z : List ℕ). Ok (z, cursor c.loop-i.rest)) (take_all c.loop-i.i c.loop-i.numbers (omega (arith, le, len)))
