use Rattle.std.proofs.Common.{◌<◌, ◌≤◌, ◌+◌, ◌-◌, ◌∙◌, [], Option, Err, refl, sym, ap, arith}
use Rattle.vax_flat.specs.Step.{Flat}
use Rattle.vax_machine.specs.Meaning.{engine}
use Rattle.vax_console.specs.Ends.{scene}
use Rattle.vax_debug.proofs.Arriving.{counts_then}
use Rattle.vax_debug_replies.specs.declared.frames.Frame.{Frame}
use Rattle.vax_debug_views.specs.Showing.{with_sink}
use Rattle.vax_debug_views.specs.Views.{caller, frame_shown, frames_from, if_any}
use Rattle.vax_debug_views.proofs.Telling.{fault_counts, showing_cut, showing_done, showing_first, showing_line, showing_lost, showing_next}
use Rattle.vax_debug_views.proofs.Lines.{frames_first, frames_last, frames_next}
use Rattle.vax_debug_views.proofs.frames.show_frames_from.Goals as goal

pub loop-number-init : goal.loop-number-init
loop-number-init g c = record {
  shows = showing_first (scene (engine c.args.machine.now) (g.F.PageFile.contents c.args.file.now) (g.K.Sink.contents c.args.sink.now)) (frames_from c.args.legend.now 64 0 c.args.frame) (frames_from c.args.legend.now (64 - 0) 0 c.args.frame) (λ m. frames_first c.args.legend.now 64 c.args.frame m);
  quiet = refl;
  written = refl;
}

pub loop-number-preserved : goal.loop-number-preserved
loop-number-preserved g c =
    let below : c.loop-number.number < 64 = omega arith in
    record {
      shows = showing_next (scene (engine c.args.machine.now) (g.F.PageFile.contents c.args.file.now) (g.K.Sink.contents c.args.sink.now)) (scene (engine c.show_frame.new.machine) (g.F.PageFile.contents c.show_frame.new.file) (g.K.Sink.contents c.show_frame.new.sink)) (scene (engine c.caller.new.machine) (g.F.PageFile.contents c.caller.new.file) (g.K.Sink.contents c.show_frame.new.sink)) (frames_from c.args.legend.now 64 0 c.args.frame) (λ (m : Flat). if_any (λ (next : Frame). frames_from c.args.legend.now (64 - (c.loop-number.number + 1)) (c.loop-number.number + 1) next m) (caller c.loop-number.frame m)) (frames_from c.args.legend.now (64 - (c.loop-number.number + 1)) (c.loop-number.number + 1) c.in-Ok-Some.next) (showing_line (scene (engine c.args.machine.now) (g.F.PageFile.contents c.args.file.now) (g.K.Sink.contents c.args.sink.now)) (scene (engine c.loop-number.machine) (g.F.PageFile.contents c.loop-number.file) (g.K.Sink.contents c.loop-number.sink)) (scene (engine c.show_frame.new.machine) (g.F.PageFile.contents c.show_frame.new.file) (g.K.Sink.contents c.show_frame.new.sink)) tt (frames_from c.args.legend.now 64 0 c.args.frame) (frames_from c.args.legend.now (64 - c.loop-number.number) c.loop-number.number c.loop-number.frame) (frame_shown c.args.legend.now c.loop-number.number c.loop-number.frame) (λ (m : Flat). if_any (λ (next : Frame). frames_from c.args.legend.now (64 - (c.loop-number.number + 1)) (c.loop-number.number + 1) next m) (caller c.loop-number.frame m)) c.loop-number.invariant.shows c.in-Ok.ensures.shows (λ m. frames_next c.args.legend.now 64 c.loop-number.number c.loop-number.frame m below)) c.caller.ensures.stays
          (λ sink o s replies here. ap (λ (k : Option Frame). if_any (λ (next : Frame). frames_from c.args.legend.now (64 - (c.loop-number.number + 1)) (c.loop-number.number + 1) next s.machine) k) (sym ((rw c.in-Ok-Some.field-0-is at c.in-Ok-Some.ensures.tells) sink o s replies here)));
      quiet = c.in-Ok-Some.ensures.counts.quiet ∙ (c.in-Ok.ensures.counts.0 ∙ c.loop-number.invariant.quiet);
      written = c.in-Ok.ensures.counts.1 ∙ c.loop-number.invariant.written;
    }

pub returns-in-Err-clause-shows : goal.returns-in-Err-clause-shows
returns-in-Err-clause-shows g c =
    let below : c.loop-number.number < 64 = omega arith in
    showing_lost (scene (engine c.args.machine.now) (g.F.PageFile.contents c.args.file.now) (g.K.Sink.contents c.args.sink.now)) (scene (engine c.loop-number.machine) (g.F.PageFile.contents c.loop-number.file) (g.K.Sink.contents c.loop-number.sink)) (scene (engine c.show_frame.new.machine) (g.F.PageFile.contents c.show_frame.new.file) (g.K.Sink.contents c.show_frame.new.sink)) c.in-Err.failure (frames_from c.args.legend.now 64 0 c.args.frame) (frames_from c.args.legend.now (64 - c.loop-number.number) c.loop-number.number c.loop-number.frame) (frame_shown c.args.legend.now c.loop-number.number c.loop-number.frame) (λ (m : Flat). if_any (λ (next : Frame). frames_from c.args.legend.now (64 - (c.loop-number.number + 1)) (c.loop-number.number + 1) next m) (caller c.loop-number.frame m)) c.loop-number.invariant.shows c.in-Err.ensures.shows (λ m. frames_next c.args.legend.now 64 c.loop-number.number c.loop-number.frame m below)

pub returns-in-Ok-None-clause-shows : goal.returns-in-Ok-None-clause-shows
returns-in-Ok-None-clause-shows g c =
    let below : c.loop-number.number < 64 = omega arith in
    showing_done (scene (engine c.args.machine.now) (g.F.PageFile.contents c.args.file.now) (g.K.Sink.contents c.args.sink.now)) (with_sink (g.K.Sink.contents c.show_frame.new.sink) (scene (engine c.caller.new.machine) (g.F.PageFile.contents c.caller.new.file) (g.K.Sink.contents c.show_frame.new.sink))) (frames_from c.args.legend.now 64 0 c.args.frame) (λ m. [])
    (showing_next (scene (engine c.args.machine.now) (g.F.PageFile.contents c.args.file.now) (g.K.Sink.contents c.args.sink.now)) (scene (engine c.show_frame.new.machine) (g.F.PageFile.contents c.show_frame.new.file) (g.K.Sink.contents c.show_frame.new.sink)) (scene (engine c.caller.new.machine) (g.F.PageFile.contents c.caller.new.file) (g.K.Sink.contents c.show_frame.new.sink)) (frames_from c.args.legend.now 64 0 c.args.frame) (λ (m : Flat). if_any (λ (next : Frame). frames_from c.args.legend.now (64 - (c.loop-number.number + 1)) (c.loop-number.number + 1) next m) (caller c.loop-number.frame m)) (λ m. []) (showing_line (scene (engine c.args.machine.now) (g.F.PageFile.contents c.args.file.now) (g.K.Sink.contents c.args.sink.now)) (scene (engine c.loop-number.machine) (g.F.PageFile.contents c.loop-number.file) (g.K.Sink.contents c.loop-number.sink)) (scene (engine c.show_frame.new.machine) (g.F.PageFile.contents c.show_frame.new.file) (g.K.Sink.contents c.show_frame.new.sink)) tt (frames_from c.args.legend.now 64 0 c.args.frame) (frames_from c.args.legend.now (64 - c.loop-number.number) c.loop-number.number c.loop-number.frame) (frame_shown c.args.legend.now c.loop-number.number c.loop-number.frame) (λ (m : Flat). if_any (λ (next : Frame). frames_from c.args.legend.now (64 - (c.loop-number.number + 1)) (c.loop-number.number + 1) next m) (caller c.loop-number.frame m)) c.loop-number.invariant.shows c.in-Ok.ensures.shows (λ m. frames_next c.args.legend.now 64 c.loop-number.number c.loop-number.frame m below)) c.caller.ensures.stays
    (λ sink o s replies here. ap (λ (k : Option Frame). if_any (λ (next : Frame). frames_from c.args.legend.now (64 - (c.loop-number.number + 1)) (c.loop-number.number + 1) next s.machine) k) (sym ((rw c.in-Ok-None.field-0-is at c.in-Ok-None.ensures.tells) sink o s replies here)))) (λ m. refl)

pub returns-in-Ok-None-clause-counts : goal.returns-in-Ok-None-clause-counts
returns-in-Ok-None-clause-counts g c = (c.in-Ok-None.ensures.counts.quiet ∙ (c.in-Ok.ensures.counts.0 ∙ c.loop-number.invariant.quiet), c.in-Ok.ensures.counts.1 ∙ c.loop-number.invariant.written)

pub returns-in-Err-caller-clause-shows : goal.returns-in-Err-caller-clause-shows
returns-in-Err-caller-clause-shows g c =
    let below : c.loop-number.number < 64 = omega arith in
    showing_cut (scene (engine c.args.machine.now) (g.F.PageFile.contents c.args.file.now) (g.K.Sink.contents c.args.sink.now)) (scene (engine c.show_frame.new.machine) (g.F.PageFile.contents c.show_frame.new.file) (g.K.Sink.contents c.show_frame.new.sink)) (scene (engine c.caller.new.machine) (g.F.PageFile.contents c.caller.new.file) (g.K.Sink.contents c.show_frame.new.sink)) (frames_from c.args.legend.now 64 0 c.args.frame) (λ (m : Flat). if_any (λ (next : Frame). frames_from c.args.legend.now (64 - (c.loop-number.number + 1)) (c.loop-number.number + 1) next m) (caller c.loop-number.frame m)) (showing_line (scene (engine c.args.machine.now) (g.F.PageFile.contents c.args.file.now) (g.K.Sink.contents c.args.sink.now)) (scene (engine c.loop-number.machine) (g.F.PageFile.contents c.loop-number.file) (g.K.Sink.contents c.loop-number.sink)) (scene (engine c.show_frame.new.machine) (g.F.PageFile.contents c.show_frame.new.file) (g.K.Sink.contents c.show_frame.new.sink)) tt (frames_from c.args.legend.now 64 0 c.args.frame) (frames_from c.args.legend.now (64 - c.loop-number.number) c.loop-number.number c.loop-number.frame) (frame_shown c.args.legend.now c.loop-number.number c.loop-number.frame) (λ (m : Flat). if_any (λ (next : Frame). frames_from c.args.legend.now (64 - (c.loop-number.number + 1)) (c.loop-number.number + 1) next m) (caller c.loop-number.frame m)) c.loop-number.invariant.shows c.in-Ok.ensures.shows (λ m. frames_next c.args.legend.now 64 c.loop-number.number c.loop-number.frame m below)) c.caller.ensures.stays

pub returns-clause-shows : goal.returns-clause-shows
returns-clause-shows g c =
    let all : 64 ≤ c.loop-number.number = omega arith in
    showing_done (scene (engine c.args.machine.now) (g.F.PageFile.contents c.args.file.now) (g.K.Sink.contents c.args.sink.now)) (scene (engine c.loop-number.machine) (g.F.PageFile.contents c.loop-number.file) (g.K.Sink.contents c.loop-number.sink)) (frames_from c.args.legend.now 64 0 c.args.frame) (frames_from c.args.legend.now (64 - c.loop-number.number) c.loop-number.number c.loop-number.frame) c.loop-number.invariant.shows (λ m. frames_last c.args.legend.now 64 c.loop-number.number c.loop-number.frame m all)

pub returns-in-Err-clause-counts : goal.returns-in-Err-clause-counts
returns-in-Err-clause-counts g c = counts_then (Err c.in-Err.failure) (g.F.PageFile.faults c.args.file.now) (g.F.PageFile.faults c.loop-number.file) (g.F.PageFile.faults c.show_frame.new.file) (g.K.Sink.faults c.args.sink.now) (g.K.Sink.faults c.loop-number.sink) (g.K.Sink.faults c.show_frame.new.sink) c.loop-number.invariant.quiet c.loop-number.invariant.written c.in-Err.ensures.counts

pub returns-in-Err-caller-clause-counts : goal.returns-in-Err-caller-clause-counts
returns-in-Err-caller-clause-counts g c = fault_counts (g.F.PageFile.faults c.args.file.now) (g.F.PageFile.faults c.show_frame.new.file) (g.F.PageFile.faults c.caller.new.file) (g.K.Sink.faults c.args.sink.now) (g.K.Sink.faults c.show_frame.new.sink) (c.in-Ok.ensures.counts.0 ∙ c.loop-number.invariant.quiet) (c.in-Ok.ensures.counts.1 ∙ c.loop-number.invariant.written) c.in-Err-caller.ensures.counts
