use Rattle.std.proofs.Common.{◌<◌, ◌≤◌, ◌+◌, ◌-◌, ◌∙◌, ℕ, [], Option, Err, refl, sym, ap, arith}
use Rattle.vax_flat.specs.Step.{Flat}
use Rattle.vax_machine.specs.Console.{memory_from}
use Rattle.vax_machine.specs.Meaning.{engine}
use Rattle.vax_console.specs.Ends.{scene}
use Rattle.vax_debug.proofs.Arriving.{counts_then}
use Rattle.vax_debug_replies.specs.Values.{value_line}
use Rattle.vax_debug_views.specs.Showing.{with_sink}
use Rattle.vax_debug_views.specs.Views.{entries_from, if_any, next_entry}
use Rattle.vax_debug_views.proofs.Telling.{fault_counts, showing_cut, showing_done, showing_first, showing_line, showing_lost, showing_next}
use Rattle.vax_debug_views.proofs.Lines.{entries_first, entries_last, entries_next}
use Rattle.vax_debug_views.proofs.queues.show_entries.Goals as goal

pub loop-init : goal.loop-init
loop-init g c = record {
  shows = showing_first (scene (engine c.args.machine.now) (g.F.PageFile.contents c.args.file.now) (g.K.Sink.contents c.args.sink.now)) (entries_from c.args.legend.now c.args.head 64 c.args.head) (entries_from c.args.legend.now c.args.head (64 - 0) c.args.head) (λ m. entries_first c.args.legend.now c.args.head 64 c.args.head m);
  quiet = refl;
  written = refl;
}

pub loop-preserved : goal.loop-preserved
loop-preserved g c =
    let below : c.loop.counter < 64 = omega arith in
    record {
      shows = showing_next (scene (engine c.args.machine.now) (g.F.PageFile.contents c.args.file.now) (g.K.Sink.contents c.args.sink.now)) (scene (engine c.show_value.new.machine) (g.F.PageFile.contents c.show_value.new.file) (g.K.Sink.contents c.show_value.new.sink)) (scene (engine c.next_entry.new.machine) (g.F.PageFile.contents c.next_entry.new.file) (g.K.Sink.contents c.show_value.new.sink)) (entries_from c.args.legend.now c.args.head 64 c.args.head) (λ (m : Flat). if_any (λ (next : ℕ). entries_from c.args.legend.now c.args.head (64 - (c.loop.counter + 1)) next m) (next_entry c.args.head c.loop.entry m)) (entries_from c.args.legend.now c.args.head (64 - (c.loop.counter + 1)) c.in-Ok-Some.next) (showing_line (scene (engine c.args.machine.now) (g.F.PageFile.contents c.args.file.now) (g.K.Sink.contents c.args.sink.now)) (scene (engine c.loop.machine) (g.F.PageFile.contents c.loop.file) (g.K.Sink.contents c.loop.sink)) (scene (engine c.show_value.new.machine) (g.F.PageFile.contents c.show_value.new.file) (g.K.Sink.contents c.show_value.new.sink)) tt (entries_from c.args.legend.now c.args.head 64 c.args.head) (entries_from c.args.legend.now c.args.head (64 - c.loop.counter) c.loop.entry) (λ (m : Flat). value_line c.args.legend.now c.loop.entry (memory_from m.memory c.loop.entry 4)) (λ (m : Flat). if_any (λ (next : ℕ). entries_from c.args.legend.now c.args.head (64 - (c.loop.counter + 1)) next m) (next_entry c.args.head c.loop.entry m)) c.loop.invariant.shows c.in-Ok.ensures.shows (λ m. entries_next c.args.legend.now c.args.head 64 c.loop.counter c.loop.entry m below)) c.next_entry.ensures.stays
          (λ sink o s replies here. ap (λ (k : Option ℕ). if_any (λ (next : ℕ). entries_from c.args.legend.now c.args.head (64 - (c.loop.counter + 1)) next s.machine) k) (sym ((rw c.in-Ok-Some.field-0-is at c.in-Ok-Some.ensures.tells) sink o s replies here)));
      quiet = c.in-Ok-Some.ensures.counts.quiet ∙ (c.in-Ok.ensures.counts.0 ∙ c.loop.invariant.quiet);
      written = c.in-Ok.ensures.counts.1 ∙ c.loop.invariant.written;
    }

pub returns-in-Err-clause-shows : goal.returns-in-Err-clause-shows
returns-in-Err-clause-shows g c =
    let below : c.loop.counter < 64 = omega arith in
    showing_lost (scene (engine c.args.machine.now) (g.F.PageFile.contents c.args.file.now) (g.K.Sink.contents c.args.sink.now)) (scene (engine c.loop.machine) (g.F.PageFile.contents c.loop.file) (g.K.Sink.contents c.loop.sink)) (scene (engine c.show_value.new.machine) (g.F.PageFile.contents c.show_value.new.file) (g.K.Sink.contents c.show_value.new.sink)) c.in-Err.failure (entries_from c.args.legend.now c.args.head 64 c.args.head) (entries_from c.args.legend.now c.args.head (64 - c.loop.counter) c.loop.entry) (λ (m : Flat). value_line c.args.legend.now c.loop.entry (memory_from m.memory c.loop.entry 4)) (λ (m : Flat). if_any (λ (next : ℕ). entries_from c.args.legend.now c.args.head (64 - (c.loop.counter + 1)) next m) (next_entry c.args.head c.loop.entry m)) c.loop.invariant.shows c.in-Err.ensures.shows (λ m. entries_next c.args.legend.now c.args.head 64 c.loop.counter c.loop.entry m below)

pub returns-in-Ok-None-clause-shows : goal.returns-in-Ok-None-clause-shows
returns-in-Ok-None-clause-shows g c =
    let below : c.loop.counter < 64 = omega arith in
    showing_done (scene (engine c.args.machine.now) (g.F.PageFile.contents c.args.file.now) (g.K.Sink.contents c.args.sink.now)) (with_sink (g.K.Sink.contents c.show_value.new.sink) (scene (engine c.next_entry.new.machine) (g.F.PageFile.contents c.next_entry.new.file) (g.K.Sink.contents c.show_value.new.sink))) (entries_from c.args.legend.now c.args.head 64 c.args.head) (λ m. [])
    (showing_next (scene (engine c.args.machine.now) (g.F.PageFile.contents c.args.file.now) (g.K.Sink.contents c.args.sink.now)) (scene (engine c.show_value.new.machine) (g.F.PageFile.contents c.show_value.new.file) (g.K.Sink.contents c.show_value.new.sink)) (scene (engine c.next_entry.new.machine) (g.F.PageFile.contents c.next_entry.new.file) (g.K.Sink.contents c.show_value.new.sink)) (entries_from c.args.legend.now c.args.head 64 c.args.head) (λ (m : Flat). if_any (λ (next : ℕ). entries_from c.args.legend.now c.args.head (64 - (c.loop.counter + 1)) next m) (next_entry c.args.head c.loop.entry m)) (λ m. []) (showing_line (scene (engine c.args.machine.now) (g.F.PageFile.contents c.args.file.now) (g.K.Sink.contents c.args.sink.now)) (scene (engine c.loop.machine) (g.F.PageFile.contents c.loop.file) (g.K.Sink.contents c.loop.sink)) (scene (engine c.show_value.new.machine) (g.F.PageFile.contents c.show_value.new.file) (g.K.Sink.contents c.show_value.new.sink)) tt (entries_from c.args.legend.now c.args.head 64 c.args.head) (entries_from c.args.legend.now c.args.head (64 - c.loop.counter) c.loop.entry) (λ (m : Flat). value_line c.args.legend.now c.loop.entry (memory_from m.memory c.loop.entry 4)) (λ (m : Flat). if_any (λ (next : ℕ). entries_from c.args.legend.now c.args.head (64 - (c.loop.counter + 1)) next m) (next_entry c.args.head c.loop.entry m)) c.loop.invariant.shows c.in-Ok.ensures.shows (λ m. entries_next c.args.legend.now c.args.head 64 c.loop.counter c.loop.entry m below)) c.next_entry.ensures.stays
    (λ sink o s replies here. ap (λ (k : Option ℕ). if_any (λ (next : ℕ). entries_from c.args.legend.now c.args.head (64 - (c.loop.counter + 1)) next s.machine) k) (sym ((rw c.in-Ok-None.field-0-is at c.in-Ok-None.ensures.tells) sink o s replies here)))) (λ m. refl)

pub returns-in-Ok-None-clause-counts : goal.returns-in-Ok-None-clause-counts
returns-in-Ok-None-clause-counts g c = (c.in-Ok-None.ensures.counts.quiet ∙ (c.in-Ok.ensures.counts.0 ∙ c.loop.invariant.quiet), c.in-Ok.ensures.counts.1 ∙ c.loop.invariant.written)

pub returns-in-Err-next_entry-clause-shows : goal.returns-in-Err-next_entry-clause-shows
returns-in-Err-next_entry-clause-shows g c =
    let below : c.loop.counter < 64 = omega arith in
    showing_cut (scene (engine c.args.machine.now) (g.F.PageFile.contents c.args.file.now) (g.K.Sink.contents c.args.sink.now)) (scene (engine c.show_value.new.machine) (g.F.PageFile.contents c.show_value.new.file) (g.K.Sink.contents c.show_value.new.sink)) (scene (engine c.next_entry.new.machine) (g.F.PageFile.contents c.next_entry.new.file) (g.K.Sink.contents c.show_value.new.sink)) (entries_from c.args.legend.now c.args.head 64 c.args.head) (λ (m : Flat). if_any (λ (next : ℕ). entries_from c.args.legend.now c.args.head (64 - (c.loop.counter + 1)) next m) (next_entry c.args.head c.loop.entry m)) (showing_line (scene (engine c.args.machine.now) (g.F.PageFile.contents c.args.file.now) (g.K.Sink.contents c.args.sink.now)) (scene (engine c.loop.machine) (g.F.PageFile.contents c.loop.file) (g.K.Sink.contents c.loop.sink)) (scene (engine c.show_value.new.machine) (g.F.PageFile.contents c.show_value.new.file) (g.K.Sink.contents c.show_value.new.sink)) tt (entries_from c.args.legend.now c.args.head 64 c.args.head) (entries_from c.args.legend.now c.args.head (64 - c.loop.counter) c.loop.entry) (λ (m : Flat). value_line c.args.legend.now c.loop.entry (memory_from m.memory c.loop.entry 4)) (λ (m : Flat). if_any (λ (next : ℕ). entries_from c.args.legend.now c.args.head (64 - (c.loop.counter + 1)) next m) (next_entry c.args.head c.loop.entry m)) c.loop.invariant.shows c.in-Ok.ensures.shows (λ m. entries_next c.args.legend.now c.args.head 64 c.loop.counter c.loop.entry m below)) c.next_entry.ensures.stays

pub returns-clause-shows : goal.returns-clause-shows
returns-clause-shows g c =
    let all : 64 ≤ c.loop.counter = omega arith in
    showing_done (scene (engine c.args.machine.now) (g.F.PageFile.contents c.args.file.now) (g.K.Sink.contents c.args.sink.now)) (scene (engine c.loop.machine) (g.F.PageFile.contents c.loop.file) (g.K.Sink.contents c.loop.sink)) (entries_from c.args.legend.now c.args.head 64 c.args.head) (entries_from c.args.legend.now c.args.head (64 - c.loop.counter) c.loop.entry) c.loop.invariant.shows (λ m. entries_last c.args.legend.now c.args.head 64 c.loop.counter c.loop.entry m all)

pub returns-in-Err-clause-counts : goal.returns-in-Err-clause-counts
returns-in-Err-clause-counts g c = counts_then (Err c.in-Err.failure) (g.F.PageFile.faults c.args.file.now) (g.F.PageFile.faults c.loop.file) (g.F.PageFile.faults c.show_value.new.file) (g.K.Sink.faults c.args.sink.now) (g.K.Sink.faults c.loop.sink) (g.K.Sink.faults c.show_value.new.sink) c.loop.invariant.quiet c.loop.invariant.written c.in-Err.ensures.counts

pub returns-in-Err-next_entry-clause-counts : goal.returns-in-Err-next_entry-clause-counts
returns-in-Err-next_entry-clause-counts g c = fault_counts (g.F.PageFile.faults c.args.file.now) (g.F.PageFile.faults c.show_value.new.file) (g.F.PageFile.faults c.next_entry.new.file) (g.K.Sink.faults c.args.sink.now) (g.K.Sink.faults c.show_value.new.sink) ((c.in-Ok.ensures.counts.0 ∙ c.loop.invariant.quiet)) (c.in-Ok.ensures.counts.1 ∙ c.loop.invariant.written) c.in-Err-next_entry.ensures.counts
