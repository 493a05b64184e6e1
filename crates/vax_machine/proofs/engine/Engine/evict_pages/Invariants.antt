use Rattle.std.proofs.Common.{◌≡◌, take}
use Rattle.vax_machine.specs.Delivery.{Delivers}
use Rattle.vax_machine.specs.Events.{KeepsRun}
use Rattle.vax_machine.specs.Machine.{IsSound}
use Rattle.vax_machine.specs.Paged.{Paged, all_evicted}
use Rattle.vax_machine.specs.Turn.{Follows, Still}
use Rattle.vax_machine.specs.Writing.{Origin, StillWrites}
use Rattle.vax_machine.proofs.engine.Engine.evict_pages.Given as goal

abbrev pub invariant-loop-page : goal.invariant-loop-page
invariant-loop-page g l = record {
  sound : IsSound l.self;
  follows : KeepsRun l.fn.self (g.F.PageFile.contents l.fn.file) l.self (g.F.PageFile.contents l.file);
  still : Still l.fn.self l.self;
  writes : StillWrites l.fn.held l.held (g.K.Sink.contents l.fn.sink) (g.K.Sink.contents l.sink);
  at : (o : Origin) → (p : Paged) → Follows o p l.fn.self (g.F.PageFile.contents l.fn.file) (g.K.Sink.contents l.fn.sink) l.fn.held → Follows o (all_evicted (take l.page-index l.pages) p) l.self (g.F.PageFile.contents l.file) (g.K.Sink.contents l.sink) l.held;
  quiet : (g.F.PageFile.faults l.file).count ≡ (g.F.PageFile.faults l.fn.file).count;
  written : (g.K.Sink.faults l.sink).count ≡ (g.K.Sink.faults l.fn.sink).count;
  delivers : Delivers l.fn.self.steps l.self.steps l.fn.held l.held (g.K.Sink.contents l.fn.sink) (g.K.Sink.contents l.sink);
}
