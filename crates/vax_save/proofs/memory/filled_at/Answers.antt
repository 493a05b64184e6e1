use Rattle.std.proofs.Common.{◌∙◌, ◌+◌, List, ap, drop, arith}
use Rattle.std.proofs.lemmas.Result.{err_from_is_err_and}
use Rattle.vax_space.specs.declared.Area.{Area}
use Rattle.vax_flat.specs.Start.{start_memory}
use Rattle.vax_save.specs.Restoring.{filled_at}
use Rattle.vax_save.specs.Views.{cursor, filled_to}
use Rattle.vax_save.proofs.Loops.{filled_done, filled_end, filled_go_on, no_front, with_front}
use Rattle.vax_save.proofs.Filling.{start_next, start_none}
use Rattle.vax_save.proofs.memory.filled_at.Goals as goal

pub loop-area-init : goal.loop-area-init
loop-area-init c = record {
  so_far = ap (λ (z : List Area). with_front z (filled_at c.args.areas.now (cursor c.args.from))) (ap start_memory c.new-filled.ensures.items ∙ start_none) ∙ no_front (filled_at c.args.areas.now (cursor c.args.from));
}

pub returns-in_err-bytes : goal.returns-in_err-bytes
returns-in_err-bytes c =
    let p = err_from_is_err_and c.from_residual.result c.from_residual.ensures.1 in
    rw (p.1, p.2) (filled_end c.in_err-bytes.field-0.0 (start_memory c.loop-area.filled.items) c.args.areas.now c.loop-area.area-index c.area-item.result (cursor c.loop-area.rest) (filled_at c.args.areas.now (cursor c.args.from)) (omega arith) c.area-item.is c.in_err-bytes.ensures.gives c.loop-area.invariant.so_far)

pub loop-area-preserved : goal.loop-area-preserved
loop-area-preserved c =
    let area = c.area-item.result in
    let whole = start_next c.push.new.self.items c.loop-area.filled.items area c.into.result c.in_ok-bytes.bytes.items c.in_ok-push.ensures.items c.into.ensures in
    record {
      so_far = ap (λ (z : List Area). with_front z (filled_at (drop (c.loop-area.area-index + 1) c.args.areas.now) (cursor c.in_ok-bytes.after))) whole
          ∙ filled_go_on (start_memory c.loop-area.filled.items) c.args.areas.now c.loop-area.area-index area (filled_to area.pages c.in_ok-bytes.bytes.items) (cursor c.loop-area.rest) (cursor c.in_ok-bytes.after) (filled_at c.args.areas.now (cursor c.args.from)) (omega arith) c.area-item.is c.in_ok-bytes.ensures.gives c.loop-area.invariant.so_far;
    }

pub returns : goal.returns
returns c = filled_done (start_memory c.loop-area.filled.items) c.args.areas.now c.loop-area.area-index (cursor c.loop-area.rest) (filled_at c.args.areas.now (cursor c.args.from)) (omega arith) c.loop-area.invariant.so_far
