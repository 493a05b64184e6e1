use Rattle.std.proofs.Common.{◌≡◌, ◌++◌, arith}
use Rattle.std.proofs.lemmas.Result.{err_from_is_err_and}
use Rattle.std.specs.Prelude.{option_to_list}
use Rattle.vax_image.specs.Image.{first_page}
use Rattle.vax_elf.specs.Reading.{areas_at, behind}
use Rattle.vax_elf.proofs.Images.{loaded_is, small}
use Rattle.vax_elf.proofs.Loops.{At, done, end_here, go_on}
use Rattle.vax_elf.proofs.segments.areas_at.Goals as goal

pub returns-in_err-next : goal.returns-in_err-next
returns-in_err-next c =
    let p = err_from_is_err_and c.from_residual.result c.from_residual.ensures.1 in
    let at : At = record { base = c.args.base; low = c.loop.low; file = c.args.file.now; place = c.loop.place } in
    rw (p.1, p.2) (end_here c.in_err-next.field-0.0 at c.loop.areas.items c.args.count c.loop.counter (areas_at c.args.base (first_page c.args.base) c.args.file.now c.args.place c.args.count) c.loop-test.true c.in_err-next.ensures c.loop.invariant.so_far)

pub take-requires : goal.take-requires
take-requires c = small c.args.base c.loop.low c.in_ok-next.next (loaded_is c.args.base c.loop.low c.args.file.now c.loop.place c.in_ok-next.next c.in_ok-next.ensures)

pub loop-preserved : goal.loop-preserved
loop-preserved c =
    let at : At = record { base = c.args.base; low = c.loop.low; file = c.args.file.now; place = c.loop.place } in
    let low : c.in_ok-low.low ≡ behind c.loop.low c.in_ok-next.next = c.in_ok-low.ensures.low in
    let items : c.take.new.areas.items ≡ c.loop.areas.items ++ option_to_list c.in_ok-next.next = c.in_ok-low.ensures.items in
    record {
      so_far = rw (low, items) (go_on at c.loop.areas.items c.args.count c.loop.counter c.in_ok-next.next (areas_at c.args.base (first_page c.args.base) c.args.file.now c.args.place c.args.count) c.loop-test.true c.in_ok-next.ensures c.loop.invariant.so_far);
      place = omega (arith, c.loop.invariant.place);
    }

pub returns : goal.returns
returns c =
    let at : At = record { base = c.args.base; low = c.loop.low; file = c.args.file.now; place = c.loop.place } in
    done at c.loop.areas.items c.args.count c.loop.counter (areas_at c.args.base (first_page c.args.base) c.args.file.now c.args.place c.args.count) c.loop-test.false c.loop.invariant.so_far
