use Rattle.std.proofs.Common.{◌≡◌, ◌≤◌, ◌+◌, ◌*◌, ℕ, List, length, Option}
use Rattle.vax_outside.specs.Channels.{Channels}
use Rattle.vax_machine.specs.Meaning.{engine}
use Rattle.vax_console.specs.Ends.{scene}
use Rattle.vax_console.specs.Transcript.{Session}
use Rattle.vax_debug.specs.Sessions.{IsHere, Origin, StaysHere}
use Rattle.vax_debug_views.specs.Views.{saved_below}
use Rattle.vax_debug_views.proofs.contents.saved_registers.Given as goal

-- the registers so far were read, the value of the next lies behind theirs, and the session stays
abbrev pub invariant-loop-number : goal.invariant-loop-number
invariant-loop-number g l = record {
  few : length l.registers ≤ l.number;
  at : l.offset ≡ 20 + 4 * length l.registers;
  told : (sink : Option Channels) (o : Origin) (s : Session) (replies : List ℕ) → IsHere o s replies (scene (engine l.fn.machine) (g.F.PageFile.contents l.fn.file) sink) →
      l.registers ≡ saved_below l.number l.mask l.frame s.machine;
  stays : (sink : Option Channels) → StaysHere (scene (engine l.fn.machine) (g.F.PageFile.contents l.fn.file) sink) (scene (engine l.machine) (g.F.PageFile.contents l.file) sink);
  quiet : (g.F.PageFile.faults l.file).count ≡ (g.F.PageFile.faults l.fn.file).count;
}
