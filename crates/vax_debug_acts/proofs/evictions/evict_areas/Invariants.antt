use Rattle.std.proofs.Common.{◌≡◌, Option}
use Rattle.vax_outside.specs.Channels.{Channels}
use Rattle.vax_machine.specs.Meaning.{engine}
use Rattle.vax_console.specs.Ends.{scene}
use Rattle.vax_debug.specs.Sessions.{StaysHere}
use Rattle.vax_debug_acts.proofs.evictions.evict_areas.Given as goal

-- some pages were made absent, and the session stays
abbrev pub invariant-loop-i : goal.invariant-loop-i
invariant-loop-i g l = record {
  stays : (sink : Option Channels) → StaysHere (scene (engine l.fn.machine) (g.F.PageFile.contents l.fn.file) sink) (scene (engine l.machine) (g.F.PageFile.contents l.file) sink);
  quiet : (g.F.PageFile.faults l.file).count ≡ (g.F.PageFile.faults l.fn.file).count;
}
