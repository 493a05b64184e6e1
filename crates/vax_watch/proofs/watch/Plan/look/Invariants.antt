use Rattle.std.proofs.Common.{◌≡◌, drop, take}
use Rattle.vax_machine.specs.Meaning.{engine}
use Rattle.vax_watch.specs.Plans.{AreLookedAt, IsLookedAt}
use Rattle.vax_watch.proofs.watch.Plan.look.Given as goal

-- the watches so far
abbrev pub invariant-loop-seen : goal.invariant-loop-seen
invariant-loop-seen g l = record {
  seen : AreLookedAt (engine l.fn.machine) (g.F.PageFile.contents l.fn.file) (take l.seen-index l.fn.self.seen.items) (take l.seen-index l.seen-items);
  rest : drop l.seen-index l.seen-items ≡ drop l.seen-index l.fn.self.seen.items;
  looked : IsLookedAt (engine l.fn.machine) (g.F.PageFile.contents l.fn.file) (engine l.machine) (g.F.PageFile.contents l.file);
  quiet : (g.F.PageFile.faults l.file).count ≡ (g.F.PageFile.faults l.fn.file).count;
}
