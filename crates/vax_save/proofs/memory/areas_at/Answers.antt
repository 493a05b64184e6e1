use Rattle.std.proofs.Common.{◌∙◌, ◌+◌, ◌-◌, ◌≤◌, List, ap, sym, subst}
use Rattle.std.specs.Prelude.{All}
use Rattle.vax_space.specs.declared.Area.{Area}
use Rattle.vax_space.specs.Areas.{end_of}
use Rattle.std.proofs.lemmas.List.Elements.{All-push}
use Rattle.std.proofs.lemmas.Result.{err_from_is_err_and}
use Rattle.vax_save.specs.Restoring.{areas_at}
use Rattle.vax_save.specs.Views.{cursor}
use Rattle.vax_save.proofs.Loops.{areas_done, areas_end, areas_go_on, with_front}
use Rattle.vax_save.proofs.memory.areas_at.Goals as goal

pub returns-in_err-area-clause-gives : goal.returns-in_err-area-clause-gives
returns-in_err-area-clause-gives c =
    let p = err_from_is_err_and c.from_residual.result c.from_residual.ensures.1 in
    rw (p.1, p.2) (areas_end c.in_err-area.field-0.0 c.loop.low c.loop.areas.items c.args.count c.loop.counter (cursor c.loop.rest) (areas_at 0 c.args.count (cursor c.args.from)) c.loop-test.true c.in_err-area.ensures.gives c.loop.invariant.so_far)

pub returns-clause-gives : goal.returns-clause-gives
returns-clause-gives c = areas_done c.loop.low c.loop.areas.items c.args.count c.loop.counter (cursor c.loop.rest) (areas_at 0 c.args.count (cursor c.args.from)) c.loop-test.false c.loop.invariant.so_far

pub loop-preserved : goal.loop-preserved
loop-preserved c =
    let n = c.in_ok-area.area in
    record {
      so_far = ap (λ (z : List Area). with_front z (areas_at (end_of n) (c.args.count - (c.loop.counter + 1)) (cursor c.in_ok-area.after))) c.in_ok-push.ensures.items
          ∙ areas_go_on c.loop.low c.loop.areas.items c.args.count c.loop.counter (cursor c.loop.rest) n (cursor c.in_ok-area.after) (areas_at 0 c.args.count (cursor c.args.from)) c.loop-test.true c.in_ok-area.ensures.gives c.loop.invariant.so_far;
      small = subst (λ (z : List Area). All (λ area. end_of area ≤ 0x401000) z) (sym c.in_ok-push.ensures.items) (All-push (λ (area : Area). end_of area ≤ 0x401000) c.loop.areas.items n c.loop.invariant.small c.in_ok-area.ensures.small);
    }
