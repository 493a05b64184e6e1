use Rattle.std.proofs.Common.{◌≡◌, ◌∙◌, List, OnErr, OnOk, subst}
use Rattle.std.specs.List.{flat_map}
use Rattle.vax_space.specs.declared.Area.{Area}
use Rattle.vax_outside.specs.Channels.{Grew, GrewByPrefix, only}
use Rattle.vax_outside.specs.declared.traits.Chan.TheVariants.{Report}
use Rattle.vax_outside.proofs.Growth.{on_err, report_first}
use Rattle.vax_machine.specs.Meaning.{engine}
use Rattle.vax_debug.specs.Pages.{pages_at}
use Rattle.vax_debug_replies.specs.Pages.{frames_line}
use Rattle.vax_debug_replies.proofs.Telling.{err_last}
use Rattle.vax_debug_views.specs.Pages.{area_shown, pages_shown}
use Rattle.vax_debug_views.proofs.Paging.{ok_last}
use Rattle.vax_debug_views.proofs.pages.write_pages.Goals as goal

pub returns-in_err-write_frames-clause-prefix : goal.returns-in_err-write_frames-clause-prefix
unfolding pages_shown
returns-in_err-write_frames-clause-prefix g c =
    let p = pages_at (engine c.args.machine.now) in
    on_err c.from_residual.result (report_first (g.K.Sink.contents c.args.sink.now) (g.K.Sink.contents c.write_frames.new.sink) (frames_line p.frames) (flat_map (area_shown c.args.legend.now p) p.areas) c.in_err-write_frames.ensures.prefix)

pub returns-clause-ok : goal.returns-clause-ok
unfolding pages_shown
returns-clause-ok g c =
    let p = pages_at (engine c.args.machine.now) in
    let is : c.areas.result.now ≡ p.areas = c.areas.ensures.areas ∙ c.space.ensures in
    ok_last c.write_areas.result (g.K.Sink.contents c.args.sink.now) (g.K.Sink.contents c.write_frames.new.sink) (g.K.Sink.contents c.write_areas.new.sink) (frames_line p.frames) (flat_map (area_shown c.args.legend.now p) p.areas) c.in_ok-write_frames.ensures.ok
    (subst (λ (z : List Area). OnOk c.write_areas.result (Grew (g.K.Sink.contents c.write_frames.new.sink) (g.K.Sink.contents c.write_areas.new.sink) (only Report (flat_map (area_shown c.args.legend.now p) z)))) is c.write_areas.ensures.ok)

pub returns-clause-prefix : goal.returns-clause-prefix
unfolding pages_shown
returns-clause-prefix g c =
    let p = pages_at (engine c.args.machine.now) in
    let is : c.areas.result.now ≡ p.areas = c.areas.ensures.areas ∙ c.space.ensures in
    err_last c.write_areas.result (g.K.Sink.contents c.args.sink.now) (g.K.Sink.contents c.write_frames.new.sink) (g.K.Sink.contents c.write_areas.new.sink) (frames_line p.frames) (flat_map (area_shown c.args.legend.now p) p.areas) c.in_ok-write_frames.ensures.ok
    (subst (λ (z : List Area). OnErr c.write_areas.result (GrewByPrefix (g.K.Sink.contents c.write_frames.new.sink) (g.K.Sink.contents c.write_areas.new.sink) (only Report (flat_map (area_shown c.args.legend.now p) z)))) is c.write_areas.ensures.prefix)
