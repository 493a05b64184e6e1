use Rattle.std.proofs.Common.{◌≡◌, ◌≤◌, ◌-◌}
use Rattle.vax_pager.specs.Meaning.{pages}
use Rattle.vax_machine.specs.Console.{MayGoOn}
use Rattle.vax_machine.specs.Delivery.{Delivers}
use Rattle.vax_machine.specs.Events.{KeepsRun}
use Rattle.vax_machine.specs.Machine.{IsSound}
use Rattle.vax_machine.specs.Paged.{Paged}
use Rattle.vax_machine.specs.Touched.{PinsTouched}
use Rattle.vax_machine.specs.Turn.{Follows, Reached}
use Rattle.vax_machine.specs.Writing.{Origin, StillWrites}
use Rattle.vax_machine.proofs.engine.Engine.go_on.Given as goal

abbrev pub invariant-loop-end : goal.invariant-loop-end
invariant-loop-end g l = record {
  sound : IsSound l.self;
  areas : (pages l.self.pager).areas ≡ (pages l.fn.self.pager).areas;
  at : (o : Origin) → (p : Paged) → Follows o p l.fn.self (g.F.PageFile.contents l.fn.file) (g.K.Sink.contents l.fn.sink) l.fn.held → PinsTouched p.residence p.place → Reached l.limits o (pages l.fn.self.pager).areas l.schedule p l.self (g.F.PageFile.contents l.file) (g.K.Sink.contents l.sink) l.held;
  follows : KeepsRun l.fn.self (g.F.PageFile.contents l.fn.file) l.self (g.F.PageFile.contents l.file);
  goes_on : MayGoOn l.limits.steps l.fn.self → MayGoOn l.limits.steps l.self;
  turns : l.fn.self.turns ≤ l.self.turns;
  low : l.fn.self.turns ≤ l.limits.turns → l.self.turns ≤ l.limits.turns;
  few : l.fn.self.steps ≤ l.limits.steps → l.self.steps ≤ l.limits.steps;
  quiet : (g.F.PageFile.faults l.file).count ≡ (g.F.PageFile.faults l.fn.file).count;
  written : (g.K.Sink.faults l.sink).count ≡ (g.K.Sink.faults l.fn.sink).count;
  writes : StillWrites l.fn.held l.held (g.K.Sink.contents l.fn.sink) (g.K.Sink.contents l.sink);
  delivers : Delivers l.fn.self.steps l.self.steps l.fn.held l.held (g.K.Sink.contents l.fn.sink) (g.K.Sink.contents l.sink);
}

abbrev pub decreases-loop-end : goal.decreases-loop-end
decreases-loop-end g l = l.limits.turns - l.self.turns
