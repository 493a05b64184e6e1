use Rattle.std.proofs.Common.{◌≡◌, ◌≤◌, ℕ, List, length, take, Option}
use Rattle.vax_outside.specs.Channels.{Channels}
use Rattle.vax_machine.specs.Meaning.{engine}
use Rattle.vax_console.specs.Ends.{scene}
use Rattle.vax_console.specs.Transcript.{Session}
use Rattle.vax_debug.specs.Sessions.{IsHere, Origin, StaysHere}
use Rattle.vax_debug.specs.Watches.{seen_in}
use Rattle.vax_debug.proofs.watches.look.Given as goal

-- the watches so far were looked at, and the session stays
abbrev pub invariant-loop-watch : goal.invariant-loop-watch
invariant-loop-watch g l = record {
  few : length l.seen ≤ l.watch-index;
  saw : (sink : Option Channels) (o : Origin) (s : Session) (replies : List ℕ) → IsHere o s replies (scene (engine l.fn.machine) (g.F.PageFile.contents l.fn.file) sink) →
      l.seen ≡ seen_in (take l.watch-index l.watches) s.machine;
  stays : (sink : Option Channels) → StaysHere (scene (engine l.fn.machine) (g.F.PageFile.contents l.fn.file) sink) (scene (engine l.machine) (g.F.PageFile.contents l.file) sink);
  quiet : (g.F.PageFile.faults l.file).count ≡ (g.F.PageFile.faults l.fn.file).count;
}
