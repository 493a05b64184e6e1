use Rattle.std.proofs.Common.{◌≡◌, ◌-◌, ℕ, List, Option}
use Rattle.std.specs.Prelude.{Some}
use Rattle.vax_outside.specs.Channels.{Channels}
use Rattle.vax_machine.specs.Meaning.{engine}
use Rattle.vax_console.specs.Ends.{scene}
use Rattle.vax_console.specs.Transcript.{Session}
use Rattle.vax_debug.specs.Sessions.{IsHere, Origin, StaysHere}
use Rattle.vax_debug.specs.Values.{through}
use Rattle.vax_debug.proofs.values.through.Given as goal

-- so many longwords were read
abbrev pub invariant-loop : goal.invariant-loop
invariant-loop g l = record {
  leads : (sink : Option Channels) (o : Origin) (s : Session) (replies : List ℕ) → IsHere o s replies (scene (engine l.fn.machine) (g.F.PageFile.contents l.fn.file) sink) →
      through l.count s.machine (Some l.fn.address) ≡ through (l.count - l.counter) s.machine (Some l.address);
  stays : (sink : Option Channels) → StaysHere (scene (engine l.fn.machine) (g.F.PageFile.contents l.fn.file) sink) (scene (engine l.machine) (g.F.PageFile.contents l.file) sink);
  quiet : (g.F.PageFile.faults l.file).count ≡ (g.F.PageFile.faults l.fn.file).count;
}
