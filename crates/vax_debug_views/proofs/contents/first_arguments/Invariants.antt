use Rattle.std.proofs.Common.{◌≡◌, ◌≤◌, ℕ, List, length, Option}
use Rattle.vax_outside.specs.Channels.{Channels}
use Rattle.vax_machine.specs.Meaning.{engine}
use Rattle.vax_console.specs.Ends.{scene}
use Rattle.vax_console.specs.Transcript.{Session}
use Rattle.vax_debug.specs.Sessions.{IsHere, Origin, StaysHere}
use Rattle.vax_debug_views.specs.Views.{first_arguments}
use Rattle.vax_debug_views.proofs.contents.first_arguments.Given as goal

-- the arguments so far were read, and the session stays
abbrev pub invariant-loop-place : goal.invariant-loop-place
invariant-loop-place g l = record {
  few : length l.arguments ≤ l.place;
  told : (sink : Option Channels) (o : Origin) (s : Session) (replies : List ℕ) → IsHere o s replies (scene (engine l.fn.machine) (g.F.PageFile.contents l.fn.file) sink) →
      l.arguments ≡ first_arguments l.place l.frame s.machine;
  stays : (sink : Option Channels) → StaysHere (scene (engine l.fn.machine) (g.F.PageFile.contents l.fn.file) sink) (scene (engine l.machine) (g.F.PageFile.contents l.file) sink);
  quiet : (g.F.PageFile.faults l.file).count ≡ (g.F.PageFile.faults l.fn.file).count;
}
