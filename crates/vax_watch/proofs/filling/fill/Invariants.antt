use Rattle.std.proofs.Common.{◌≡◌, ◌-◌, ◌<◌, length, take}
use Rattle.vax_space.specs.Reference.{byte_after}
use Rattle.vax_flat.specs.Parts.{Place, machine_at}
use Rattle.vax_machine.specs.Console.{ShowsMemory}
use Rattle.vax_machine.specs.Machine.{Means}
use Rattle.vax_machine.specs.Meaning.{engine}
use Rattle.vax_watch.specs.Filling.{IsPageAt}
use Rattle.vax_watch.specs.Plans.{IsLookedAt}
use Rattle.vax_watch.proofs.filling.fill.Given as goal

-- the cells so far, and the page at hand
abbrev pub invariant-loop-place : goal.invariant-loop-place
invariant-loop-place g l = record {
  looked : IsLookedAt (engine l.fn.machine) (g.F.PageFile.contents l.fn.file) (engine l.machine) (g.F.PageFile.contents l.file);
  len : length l.cells ≡ length l.fn.cells;
  bytes : ShowsMemory (engine l.fn.machine) (g.F.PageFile.contents l.fn.file) l.address l.place (take l.place l.cells);
  held : 0 < l.place → (place : Place) → Means (engine l.fn.machine) (g.F.PageFile.contents l.fn.file) place → IsPageAt (machine_at place).memory (byte_after l.address (l.place - 1)) l.page;
  quiet : (g.F.PageFile.faults l.file).count ≡ (g.F.PageFile.faults l.fn.file).count;
}
