use Rattle.std.proofs.Common.{◌<◌, ◌≤◌, ◌+◌, ◌-◌, ◌∙◌, ℕ, Err, refl, sym, ap, arith}
use Rattle.vax_flat.specs.Step.{Flat}
use Rattle.vax_machine.specs.Meaning.{engine}
use Rattle.vax_console.specs.Ends.{scene}
use Rattle.vax_debug.proofs.Arriving.{counts_then}
use Rattle.vax_debug_views.specs.Views.{behind_instruction, instruction_shown, instructions_shown}
use Rattle.vax_debug_views.proofs.Telling.{fault_counts, showing_cut, showing_done, showing_first, showing_line, showing_lost, showing_next}
use Rattle.vax_debug_views.proofs.Lines.{instructions_first, instructions_last, instructions_next}
use Rattle.vax_debug_views.proofs.instructions.show_instructions.Goals as goal

pub loop-init : goal.loop-init
loop-init g c = record {
  shows = showing_first (scene (engine c.args.machine.now) (g.F.PageFile.contents c.args.file.now) (g.K.Sink.contents c.args.sink.now)) (instructions_shown c.args.legend.now c.args.count c.args.address) (instructions_shown c.args.legend.now (c.args.count - 0) c.args.address) (λ m. instructions_first c.args.legend.now c.args.count c.args.address m);
  quiet = refl;
  written = refl;
}

pub loop-preserved : goal.loop-preserved
loop-preserved g c =
    let below : c.loop.counter < c.args.count = omega arith in
    record {
      shows = showing_next (scene (engine c.args.machine.now) (g.F.PageFile.contents c.args.file.now) (g.K.Sink.contents c.args.sink.now)) (scene (engine c.show_instruction.new.machine) (g.F.PageFile.contents c.show_instruction.new.file) (g.K.Sink.contents c.show_instruction.new.sink)) (scene (engine c.behind_instruction.new.machine) (g.F.PageFile.contents c.behind_instruction.new.file) (g.K.Sink.contents c.show_instruction.new.sink)) (instructions_shown c.args.legend.now c.args.count c.args.address) (λ (m : Flat). instructions_shown c.args.legend.now (c.args.count - (c.loop.counter + 1)) (behind_instruction c.loop.address m) m) (instructions_shown c.args.legend.now (c.args.count - (c.loop.counter + 1)) c.in-Ok-behind_instruction.next) (showing_line (scene (engine c.args.machine.now) (g.F.PageFile.contents c.args.file.now) (g.K.Sink.contents c.args.sink.now)) (scene (engine c.loop.machine) (g.F.PageFile.contents c.loop.file) (g.K.Sink.contents c.loop.sink)) (scene (engine c.show_instruction.new.machine) (g.F.PageFile.contents c.show_instruction.new.file) (g.K.Sink.contents c.show_instruction.new.sink)) tt (instructions_shown c.args.legend.now c.args.count c.args.address) (instructions_shown c.args.legend.now (c.args.count - c.loop.counter) c.loop.address) (instruction_shown c.args.legend.now c.loop.address) (λ (m : Flat). instructions_shown c.args.legend.now (c.args.count - (c.loop.counter + 1)) (behind_instruction c.loop.address m) m) c.loop.invariant.shows c.in-Ok.ensures.shows (λ m. instructions_next c.args.legend.now c.args.count c.loop.counter c.loop.address m below)) c.behind_instruction.ensures.stays
          (λ sink o s replies here. ap (λ (k : ℕ). instructions_shown c.args.legend.now (c.args.count - (c.loop.counter + 1)) k s.machine) (sym (c.in-Ok-behind_instruction.ensures.tells sink o s replies here)));
      quiet = c.in-Ok-behind_instruction.ensures.counts.quiet ∙ (c.in-Ok.ensures.counts.0 ∙ c.loop.invariant.quiet);
      written = c.in-Ok.ensures.counts.1 ∙ c.loop.invariant.written;
    }

pub returns-in-Err-clause-shows : goal.returns-in-Err-clause-shows
returns-in-Err-clause-shows g c =
    let below : c.loop.counter < c.args.count = omega arith in
    showing_lost (scene (engine c.args.machine.now) (g.F.PageFile.contents c.args.file.now) (g.K.Sink.contents c.args.sink.now)) (scene (engine c.loop.machine) (g.F.PageFile.contents c.loop.file) (g.K.Sink.contents c.loop.sink)) (scene (engine c.show_instruction.new.machine) (g.F.PageFile.contents c.show_instruction.new.file) (g.K.Sink.contents c.show_instruction.new.sink)) c.in-Err.failure (instructions_shown c.args.legend.now c.args.count c.args.address) (instructions_shown c.args.legend.now (c.args.count - c.loop.counter) c.loop.address) (instruction_shown c.args.legend.now c.loop.address) (λ (m : Flat). instructions_shown c.args.legend.now (c.args.count - (c.loop.counter + 1)) (behind_instruction c.loop.address m) m) c.loop.invariant.shows c.in-Err.ensures.shows (λ m. instructions_next c.args.legend.now c.args.count c.loop.counter c.loop.address m below)

pub returns-in-Err-behind_instruction-clause-shows : goal.returns-in-Err-behind_instruction-clause-shows
returns-in-Err-behind_instruction-clause-shows g c =
    let below : c.loop.counter < c.args.count = omega arith in
    showing_cut (scene (engine c.args.machine.now) (g.F.PageFile.contents c.args.file.now) (g.K.Sink.contents c.args.sink.now)) (scene (engine c.show_instruction.new.machine) (g.F.PageFile.contents c.show_instruction.new.file) (g.K.Sink.contents c.show_instruction.new.sink)) (scene (engine c.behind_instruction.new.machine) (g.F.PageFile.contents c.behind_instruction.new.file) (g.K.Sink.contents c.show_instruction.new.sink)) (instructions_shown c.args.legend.now c.args.count c.args.address) (λ (m : Flat). instructions_shown c.args.legend.now (c.args.count - (c.loop.counter + 1)) (behind_instruction c.loop.address m) m) (showing_line (scene (engine c.args.machine.now) (g.F.PageFile.contents c.args.file.now) (g.K.Sink.contents c.args.sink.now)) (scene (engine c.loop.machine) (g.F.PageFile.contents c.loop.file) (g.K.Sink.contents c.loop.sink)) (scene (engine c.show_instruction.new.machine) (g.F.PageFile.contents c.show_instruction.new.file) (g.K.Sink.contents c.show_instruction.new.sink)) tt (instructions_shown c.args.legend.now c.args.count c.args.address) (instructions_shown c.args.legend.now (c.args.count - c.loop.counter) c.loop.address) (instruction_shown c.args.legend.now c.loop.address) (λ (m : Flat). instructions_shown c.args.legend.now (c.args.count - (c.loop.counter + 1)) (behind_instruction c.loop.address m) m) c.loop.invariant.shows c.in-Ok.ensures.shows (λ m. instructions_next c.args.legend.now c.args.count c.loop.counter c.loop.address m below)) c.behind_instruction.ensures.stays

pub returns-clause-shows : goal.returns-clause-shows
returns-clause-shows g c =
    let all : c.args.count ≤ c.loop.counter = omega arith in
    showing_done (scene (engine c.args.machine.now) (g.F.PageFile.contents c.args.file.now) (g.K.Sink.contents c.args.sink.now)) (scene (engine c.loop.machine) (g.F.PageFile.contents c.loop.file) (g.K.Sink.contents c.loop.sink)) (instructions_shown c.args.legend.now c.args.count c.args.address) (instructions_shown c.args.legend.now (c.args.count - c.loop.counter) c.loop.address) c.loop.invariant.shows (λ m. instructions_last c.args.legend.now c.args.count c.loop.counter c.loop.address m all)

pub returns-in-Err-clause-counts : goal.returns-in-Err-clause-counts
returns-in-Err-clause-counts g c = counts_then (Err c.in-Err.failure) (g.F.PageFile.faults c.args.file.now) (g.F.PageFile.faults c.loop.file) (g.F.PageFile.faults c.show_instruction.new.file) (g.K.Sink.faults c.args.sink.now) (g.K.Sink.faults c.loop.sink) (g.K.Sink.faults c.show_instruction.new.sink) c.loop.invariant.quiet c.loop.invariant.written c.in-Err.ensures.counts

pub returns-in-Err-behind_instruction-clause-counts : goal.returns-in-Err-behind_instruction-clause-counts
returns-in-Err-behind_instruction-clause-counts g c = fault_counts (g.F.PageFile.faults c.args.file.now) (g.F.PageFile.faults c.show_instruction.new.file) (g.F.PageFile.faults c.behind_instruction.new.file) (g.K.Sink.faults c.args.sink.now) (g.K.Sink.faults c.show_instruction.new.sink) ((c.in-Ok.ensures.counts.0 ∙ c.loop.invariant.quiet)) (c.in-Ok.ensures.counts.1 ∙ c.loop.invariant.written) c.in-Err-behind_instruction.ensures.counts
