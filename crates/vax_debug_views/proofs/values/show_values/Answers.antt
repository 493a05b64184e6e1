use Rattle.std.proofs.Common.{◌<◌, ◌≤◌, ◌+◌, ◌-◌, ◌∙◌, Err, refl, ap, arith}
use Rattle.vax_flat.specs.Step.{Flat}
use Rattle.vax_machine.specs.Console.{memory_from}
use Rattle.vax_machine.specs.Meaning.{engine}
use Rattle.vax_console.specs.Ends.{scene}
use Rattle.vax_debug.proofs.Arriving.{counts_then}
use Rattle.vax_debug_replies.specs.Values.{value_line}
use Rattle.vax_debug_views.specs.Views.{beyond, values_shown}
use Rattle.vax_debug_views.proofs.Telling.{showing_done, showing_first, showing_line, showing_lost}
use Rattle.vax_debug_views.proofs.Lines.{values_first, values_last, values_next}
use Rattle.vax_debug_views.proofs.values.show_values.Goals as goal

pub loop-init : goal.loop-init
loop-init g c = record {
  shows = showing_first (scene (engine c.args.machine.now) (g.F.PageFile.contents c.args.file.now) (g.K.Sink.contents c.args.sink.now)) (values_shown c.args.legend.now c.args.size c.args.count c.args.address) (values_shown c.args.legend.now c.args.size (c.args.count - 0) c.args.address) (λ m. values_first c.args.legend.now c.args.size c.args.count c.args.address m);
  quiet = refl;
  written = refl;
}

pub loop-preserved : goal.loop-preserved
loop-preserved g c =
    let below : c.loop.counter < c.args.count = omega arith in
    record {
      shows = showing_line (scene (engine c.args.machine.now) (g.F.PageFile.contents c.args.file.now) (g.K.Sink.contents c.args.sink.now)) (scene (engine c.loop.machine) (g.F.PageFile.contents c.loop.file) (g.K.Sink.contents c.loop.sink)) (scene (engine c.show_value.new.machine) (g.F.PageFile.contents c.show_value.new.file) (g.K.Sink.contents c.show_value.new.sink)) tt (values_shown c.args.legend.now c.args.size c.args.count c.args.address) (values_shown c.args.legend.now c.args.size (c.args.count - c.loop.counter) c.loop.address) (λ (m : Flat). value_line c.args.legend.now c.loop.address (memory_from m.memory c.loop.address c.args.size)) (values_shown c.args.legend.now c.args.size (c.args.count - (c.loop.counter + 1)) _) c.loop.invariant.shows c.in-Ok.ensures.shows (λ m. values_next c.args.legend.now c.args.size c.args.count c.loop.counter c.loop.address _ m below (ap (beyond c.loop.address) c.from-address.ensures));
      quiet = c.in-Ok.ensures.counts.0 ∙ c.loop.invariant.quiet;
      written = c.in-Ok.ensures.counts.1 ∙ c.loop.invariant.written;
    }

pub returns-in-Err-clause-shows : goal.returns-in-Err-clause-shows
returns-in-Err-clause-shows g c =
    let below : c.loop.counter < c.args.count = omega arith in
    showing_lost (scene (engine c.args.machine.now) (g.F.PageFile.contents c.args.file.now) (g.K.Sink.contents c.args.sink.now)) (scene (engine c.loop.machine) (g.F.PageFile.contents c.loop.file) (g.K.Sink.contents c.loop.sink)) (scene (engine c.show_value.new.machine) (g.F.PageFile.contents c.show_value.new.file) (g.K.Sink.contents c.show_value.new.sink)) c.in-Err.failure (values_shown c.args.legend.now c.args.size c.args.count c.args.address) (values_shown c.args.legend.now c.args.size (c.args.count - c.loop.counter) c.loop.address) (λ (m : Flat). value_line c.args.legend.now c.loop.address (memory_from m.memory c.loop.address c.args.size)) (values_shown c.args.legend.now c.args.size (c.args.count - (c.loop.counter + 1)) (beyond c.loop.address c.args.size)) c.loop.invariant.shows c.in-Err.ensures.shows (λ m. values_next c.args.legend.now c.args.size c.args.count c.loop.counter c.loop.address (beyond c.loop.address c.args.size) m below refl)

pub returns-clause-shows : goal.returns-clause-shows
returns-clause-shows g c =
    let all : c.args.count ≤ c.loop.counter = omega arith in
    showing_done (scene (engine c.args.machine.now) (g.F.PageFile.contents c.args.file.now) (g.K.Sink.contents c.args.sink.now)) (scene (engine c.loop.machine) (g.F.PageFile.contents c.loop.file) (g.K.Sink.contents c.loop.sink)) (values_shown c.args.legend.now c.args.size c.args.count c.args.address) (values_shown c.args.legend.now c.args.size (c.args.count - c.loop.counter) c.loop.address) c.loop.invariant.shows (λ m. values_last c.args.legend.now c.args.size c.args.count c.loop.counter c.loop.address m all)

pub returns-in-Err-clause-counts : goal.returns-in-Err-clause-counts
returns-in-Err-clause-counts g c = counts_then (Err c.in-Err.failure) (g.F.PageFile.faults c.args.file.now) (g.F.PageFile.faults c.loop.file) (g.F.PageFile.faults c.show_value.new.file) (g.K.Sink.faults c.args.sink.now) (g.K.Sink.faults c.loop.sink) (g.K.Sink.faults c.show_value.new.sink) c.loop.invariant.quiet c.loop.invariant.written c.in-Err.ensures.counts
