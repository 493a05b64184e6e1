use Rattle.std.proofs.Common.{◌≡◌, ◌+◌, ◌-◌}
use Rattle.std.specs.List.{flat_map, range_with_len}
use Rattle.vax_flat.specs.Parts.{Place, machine_at}
use Rattle.vax_machine.specs.Machine.{Means}
use Rattle.vax_machine.specs.Meaning.{engine}
use Rattle.vax_save.specs.Saved.{page_field}
use Rattle.vax_save.specs.Saving.{IsKept}
use Rattle.vax_save.specs.Stream.{HasPut, Leaves, stream}
use Rattle.vax_save.proofs.saving.put_extent.Given as goal

-- the pages so far were put
abbrev pub invariant-loop-count : goal.invariant-loop-count
invariant-loop-count g l = record {
  kept : IsKept (engine l.fn.machine) (g.F.PageFile.contents l.fn.file) (engine l.machine) (g.F.PageFile.contents l.file);
  leaves : (place : Place) → Means (engine l.fn.machine) (g.F.PageFile.contents l.fn.file) place →
      Leaves (flat_map (page_field (machine_at place).memory) (range_with_len l.extent.first l.extent.pages))
      (flat_map (page_field (machine_at place).memory) (range_with_len (l.extent.first + l.count) (l.extent.pages - l.count)))
      (stream (g.K.Sink.contents l.fn.sink) l.fn.held.items) (stream (g.K.Sink.contents l.sink) l.held.items);
  some : HasPut (stream (g.K.Sink.contents l.fn.sink) l.fn.held.items) (stream (g.K.Sink.contents l.sink) l.held.items);
  unread : (g.F.PageFile.faults l.file).count ≡ (g.F.PageFile.faults l.fn.file).count;
  quiet : (g.K.Sink.faults l.sink).count ≡ (g.K.Sink.faults l.fn.sink).count;
}
