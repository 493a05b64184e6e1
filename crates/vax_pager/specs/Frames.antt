-- The frames that page tables tell.
use Rattle.std.specs.Prelude.{ℕ, true, false, Option, Some, None}
use Rattle.vax_table.specs.declared.Walk.{Walk}
use Rattle.vax_table.specs.declared.Walk.TheVariants.{Resident, Absent, Outside}

-- the frame that has a page: it is in it, or was kept in it
abbrev pub held_by : Walk → Option ℕ → Option ℕ
held_by (Resident frame prot modified) left = Some frame
held_by (Absent prot) left = left
held_by (Outside past) left = left

-- the frame of a resident page that is modified
abbrev pub dirty_frame : Walk → Option ℕ
dirty_frame (Resident frame prot true) = Some frame
dirty_frame (Resident frame prot false) = None
dirty_frame (Absent prot) = None
dirty_frame (Outside past) = None
