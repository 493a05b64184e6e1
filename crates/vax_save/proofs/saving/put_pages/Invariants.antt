use Rattle.std.proofs.Common.{◌≡◌, length, drop}
use Rattle.std.specs.List.{flat_map}
use Rattle.vax_space.specs.Areas.{pages_of}
use Rattle.vax_flat.specs.Parts.{Place, machine_at}
use Rattle.vax_machine.specs.Machine.{Means, keeping}
use Rattle.vax_machine.specs.Meaning.{engine}
use Rattle.vax_save.specs.Saved.{page_field, pages_field}
use Rattle.vax_save.specs.Saving.{IsKept}
use Rattle.vax_save.specs.Stream.{HasPut, Leaves, stream}
use Rattle.vax_save.proofs.saving.put_pages.Given as goal

-- the pages of the areas so far were put
abbrev pub invariant-loop-i : goal.invariant-loop-i
invariant-loop-i g l = record {
  kept : IsKept (engine l.fn.machine) (g.F.PageFile.contents l.fn.file) (engine l.machine) (g.F.PageFile.contents l.file);
  leaves : (place : Place) → Means (engine l.fn.machine) (g.F.PageFile.contents l.fn.file) place →
      Leaves (pages_field (machine_at place).memory (keeping (engine l.fn.machine)).areas)
      (flat_map (page_field (machine_at place).memory) (flat_map pages_of (drop l.i (keeping (engine l.fn.machine)).areas)))
      (stream (g.K.Sink.contents l.fn.sink) l.fn.held.items) (stream (g.K.Sink.contents l.sink) l.held.items);
  total : l.count ≡ length (keeping (engine l.fn.machine)).areas;
  some : HasPut (stream (g.K.Sink.contents l.fn.sink) l.fn.held.items) (stream (g.K.Sink.contents l.sink) l.held.items);
  unread : (g.F.PageFile.faults l.file).count ≡ (g.F.PageFile.faults l.fn.file).count;
  quiet : (g.K.Sink.faults l.sink).count ≡ (g.K.Sink.faults l.fn.sink).count;
}
