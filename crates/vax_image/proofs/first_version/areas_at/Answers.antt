use Rattle.std.proofs.Common.{◌≡◌, ◌++◌, ◌∷◌, [], arith}
use Rattle.std.proofs.lemmas.Result.{err_from_is_err_and}
use Rattle.vax_image.specs.Image.{first_page}
use Rattle.vax_image.specs.Reading.{areas_at}
use Rattle.vax_image.specs.Views.{cursor}
use Rattle.vax_image.proofs.Loops.{areas_go_on, areas_end, areas_done}
use Rattle.vax_image.proofs.first_version.areas_at.Goals as goal

pub returns-in_err-area : goal.returns-in_err-area
returns-in_err-area c =
    let p = err_from_is_err_and c.from_residual.result c.from_residual.ensures.1 in
    rw (p.1, p.2) (areas_end c.in_err-area.field-0.0 c.args.base c.loop.low c.loop.areas.items c.args.count c.loop.counter (cursor c.loop.rest) (areas_at c.args.base (first_page c.args.base) c.args.count (cursor c.args.from)) c.loop-test.true c.in_err-area.ensures.gives c.loop.invariant.so_far)

pub loop-preserved : goal.loop-preserved
loop-preserved c =
    let n = c.in_ok-area.area in
    let e : c.push.new.self.items ≡ c.loop.areas.items ++ n ∷ [] = c.in_ok-push.ensures.items in
    record {
      so_far = rw e (areas_go_on c.args.base c.loop.low c.loop.areas.items c.args.count c.loop.counter (cursor c.loop.rest) n (cursor c.in_ok-area.after) (areas_at c.args.base (first_page c.args.base) c.args.count (cursor c.args.from)) c.loop-test.true c.in_ok-area.ensures.gives c.loop.invariant.so_far);
      early = omega (arith, c.in_ok-area.ensures.moved, c.in_ok-area.ensures.behind);
      low = c.in_ok-area.ensures.within;
    }

pub returns : goal.returns
returns c = areas_done c.args.base c.loop.low c.loop.areas.items c.args.count c.loop.counter (cursor c.loop.rest) (areas_at c.args.base (first_page c.args.base) c.args.count (cursor c.args.from)) c.loop-test.false c.loop.invariant.so_far
