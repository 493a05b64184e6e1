use Rattle.std.proofs.Common.{◌≡◌, ◌≤◌, [], ◌+◌, ◌-◌, ◌++◌, All, length, map, vec_capacity, vec_len}
use Rattle.vax_flat.specs.Parts.{Place, machine_at}
use Rattle.vax_pager.specs.Poking.{OnlyRead, ReadsAtMost}
use Rattle.vax_machine.specs.Machine.{KeepsPlace, Means, keeping}
use Rattle.vax_machine.specs.Meaning.{engine}
use Rattle.vax_cli.specs.Said.{IsDump}
use Rattle.vax_command.specs.Room.{items_of, pages_shown}
use Rattle.vax_command.specs.Went.{shown}
use Rattle.vax_command.proofs.dump.fill.Given as goal

-- the dumps so far, and room for the others
abbrev pub invariant-blanks : goal.invariant-blanks
invariant-blanks g l = record {
  room : length l.blanks.items + vec_len l.dumps ≤ vec_capacity l.dumps;
  small : All IsDump (items_of l.blanks.items);
  shows : (place : Place) → Means (engine l.fn.machine) (g.F.PageFile.contents l.fn.pages) place → l.dumps.items ++ map (shown (machine_at place).memory) (items_of l.blanks.items) ≡ map (shown (machine_at place).memory) (items_of l.fn.room.blanks.items);
  cpu : (engine l.machine).cpu ≡ (engine l.fn.machine).cpu;
  keeps : keeping (engine l.machine) ≡ keeping (engine l.fn.machine);
  stands : KeepsPlace (engine l.fn.machine) (g.F.PageFile.contents l.fn.pages) (engine l.machine) (g.F.PageFile.contents l.pages);
  reads : OnlyRead (g.F.PageFile.contents l.fn.pages) (g.F.PageFile.contents l.pages);
  once : ReadsAtMost (pages_shown (items_of l.fn.room.blanks.items) - pages_shown (items_of l.blanks.items)) (g.F.PageFile.contents l.fn.pages) (g.F.PageFile.contents l.pages);
  fewer : pages_shown (items_of l.blanks.items) ≤ pages_shown (items_of l.fn.room.blanks.items);
  unread : items_of l.fn.room.blanks.items ≡ [] → (l.blanks.items ≡ []) × (g.F.PageFile.contents l.pages ≡ g.F.PageFile.contents l.fn.pages);
  quiet : (g.F.PageFile.faults l.pages).count ≡ (g.F.PageFile.faults l.fn.pages).count;
}

abbrev pub decreases-blanks : goal.decreases-blanks
decreases-blanks g l = length l.blanks.items
