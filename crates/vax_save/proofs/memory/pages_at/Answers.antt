use Rattle.std.proofs.Common.{◌≡◌, ◌∙◌, ◌+◌, ◌-◌, List, ℕ, Ok, ap, arith}
use Rattle.std.proofs.lemmas.Result.{err_from_is_err_and}
use Rattle.vax_save.specs.Restoring.{pages_at}
use Rattle.vax_save.specs.Views.{cursor, filled_to, or_zeros}
use Rattle.vax_save.proofs.Loops.{pages_done, pages_end, pages_go_on, with_front}
use Rattle.vax_save.proofs.memory.pages_at.Goals as goal

pub returns-in_err-page : goal.returns-in_err-page
returns-in_err-page c =
    let p = err_from_is_err_and c.from_residual.result c.from_residual.ensures.1 in
    record { gives = rw (p.1, p.2) (pages_end c.in_err-page.field-0.0 c.args.first (filled_to c.loop-count.count c.loop-count.bytes.items) c.args.pages c.loop-count.count (cursor c.loop-count.rest) (pages_at c.args.first c.args.pages (cursor c.args.from)) c.loop-count-test.true c.in_err-page.ensures.gives c.loop-count.invariant.so_far) }

pub loop-count-preserved : goal.loop-count-preserved
loop-count-preserved c = record {
  so_far = ap (λ (z : List ℕ). with_front z (pages_at (c.args.first + (c.loop-count.count + 1)) (c.args.pages - (c.loop-count.count + 1)) (cursor c.in_ok-page.after))) c.in_ok-append.ensures.filled
      ∙ pages_go_on c.args.first (filled_to c.loop-count.count c.loop-count.bytes.items) c.args.pages c.loop-count.count (cursor c.loop-count.rest) (or_zeros c.in_ok-page.page) (cursor c.in_ok-page.after) (pages_at c.args.first c.args.pages (cursor c.args.from)) c.loop-count-test.true c.in_ok-page.ensures.gives c.loop-count.invariant.so_far;
  short = c.in_ok-append.ensures.short;
}

pub returns : goal.returns
returns c =
    let over = c.loop-count-test.false in
    let within = c.loop-count.auto.count-end in
    let all : c.loop-count.count ≡ c.args.pages = omega (arith, over, within) in
    record {
      gives = pages_done c.args.first (filled_to c.loop-count.count c.loop-count.bytes.items) c.args.pages c.loop-count.count (cursor c.loop-count.rest) (pages_at c.args.first c.args.pages (cursor c.args.from)) c.loop-count-test.false c.loop-count.invariant.so_far
          ∙ ap (λ (n : ℕ). Ok (filled_to n c.loop-count.bytes.items, cursor c.loop-count.rest)) all;
    }
