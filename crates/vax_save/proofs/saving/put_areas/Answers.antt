use Rattle.std.proofs.Common.{◌∙◌, ◌+◌, ◌<◌, List, arith, drop, length, subst}
use Rattle.std.specs.List.{flat_map}
use Rattle.vax_space.specs.declared.Area.{Area}
use Rattle.vax_space.proofs.Extents.{rest_at}
use Rattle.vax_outside.proofs.Growth.{on_err}
use Rattle.vax_save.specs.Saved.{area_field, areas_field, longword}
use Rattle.vax_save.specs.Stream.{Leaves, stream}
use Rattle.vax_save.proofs.Streaming.{cuts_first, cuts_next, leaves_next}
use Rattle.vax_save.proofs.saving.put_areas.Goals as goal

pub returns-in_err-put_longword-clause-cut : goal.returns-in_err-put_longword-clause-cut
returns-in_err-put_longword-clause-cut g c =
    on_err c.from_residual.result (cuts_first (longword (length c.args.areas.now)) (flat_map area_field c.args.areas.now) (stream (g.K.Sink.contents c.args.sink.now) c.args.held.now.items) _ c.in_err-put_longword.ensures.cut)

pub loop-area-preserved : goal.loop-area-preserved
loop-area-preserved g c =
    let areas : List Area = c.args.areas.now in
    let i = c.loop-area.area-index in
    let lt : i < length areas = omega arith in
    let area : Area = c.area-item.result in
    let start = stream (g.K.Sink.contents c.args.sink.now) c.args.held.now.items in
    let before = stream (g.K.Sink.contents c.loop-area.sink) c.loop-area.held.items in
    record {
      quiet = c.in_ok-put_area.ensures.counts.quiet ∙ c.loop-area.invariant.quiet;
      leaves = leaves_next (areas_field areas) (area_field area) (flat_map area_field (drop (i + 1) areas)) start before (stream (g.K.Sink.contents c.put_area.new.sink) c.put_area.new.held.items)
          (subst (λ (z : List Area). Leaves (areas_field areas) (flat_map area_field z) start before) (rest_at areas i area lt c.area-item.is) c.loop-area.invariant.leaves) c.in_ok-put_area.ensures.ok;
    }

pub returns-in_err-put_area-clause-cut : goal.returns-in_err-put_area-clause-cut
returns-in_err-put_area-clause-cut g c =
    let areas : List Area = c.args.areas.now in
    let i = c.loop-area.area-index in
    let lt : i < length areas = omega arith in
    let area : Area = c.area-item.result in
    let start = stream (g.K.Sink.contents c.args.sink.now) c.args.held.now.items in
    let before = stream (g.K.Sink.contents c.loop-area.sink) c.loop-area.held.items in
    on_err c.from_residual-in_err-put_area.result
    (cuts_next (areas_field areas) (area_field area) (flat_map area_field (drop (i + 1) areas)) start before _
    (subst (λ (z : List Area). Leaves (areas_field areas) (flat_map area_field z) start before) (rest_at areas i area lt c.area-item.is) c.loop-area.invariant.leaves) c.in_err-put_area.ensures.cut)
