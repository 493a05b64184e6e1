use Rattle.std.proofs.Common.{◌≡◌, ◌+◌, length, take}
use Rattle.vax_pager.specs.Meaning.{pages}
use Rattle.vax_sched.specs.Due.{due}
use Rattle.vax_machine.specs.Delivery.{Delivers}
use Rattle.vax_machine.specs.Events.{KeepsRun}
use Rattle.vax_machine.specs.Machine.{IsSound}
use Rattle.vax_machine.specs.Paged.{Paged, all_evicted, all_named}
use Rattle.vax_machine.specs.Turn.{Follows, Still}
use Rattle.vax_machine.specs.Writing.{Origin, StillWrites}
use Rattle.vax_machine.proofs.engine.Engine.evict_due.Given as goal

abbrev pub invariant-loop-target : goal.invariant-loop-target
invariant-loop-target g l = record {
  sound : IsSound l.self;
  follows : KeepsRun l.fn.self (g.F.PageFile.contents l.fn.file) l.self (g.F.PageFile.contents l.file);
  still : Still l.fn.self l.self;
  writes : StillWrites l.fn.held l.held (g.K.Sink.contents l.fn.sink) (g.K.Sink.contents l.sink);
  at : (o : Origin) → (p : Paged) → Follows o p l.fn.self (g.F.PageFile.contents l.fn.file) (g.K.Sink.contents l.fn.sink) l.fn.held → Follows o (all_evicted (all_named (pages l.fn.self.pager).areas (take (length l.yielded) (due l.fn.schedule (l.fn.self.turns + 1)))) p) l.self (g.F.PageFile.contents l.file) (g.K.Sink.contents l.sink) l.held;
  quiet : (g.F.PageFile.faults l.file).count ≡ (g.F.PageFile.faults l.fn.file).count;
  written : (g.K.Sink.faults l.sink).count ≡ (g.K.Sink.faults l.fn.sink).count;
  delivers : Delivers l.fn.self.steps l.self.steps l.fn.held l.held (g.K.Sink.contents l.fn.sink) (g.K.Sink.contents l.sink);
}
