-- A state that was read whole.
use Rattle.std.proofs.Common.{◌≡◌, ◌==◌, ℕ, true, false, List, length, take, Option, Some, None, Ok, Err, refl, ap}
use Rattle.std.specs.Prelude.{◌&&◌, ◌||◌, is_some, nat_lt}
use Rattle.vax_word.specs.declared.Core.{Core}
use Rattle.vax_word.specs.Status.{mode_of}
use Rattle.vax_space.specs.declared.Access.{Access}
use Rattle.vax_space.specs.declared.Access.TheVariants.{Read, Write}
use Rattle.vax_space.specs.declared.Area.{Area}
use Rattle.vax_strpart.specs.Packing.{unpacked}
use Rattle.vax_flat.specs.Start.{start_memory}
use Rattle.vax_flat.specs.StringMove.{moved_count}
use Rattle.vax_flat.proofs.Alike.{violation-alike}
use Rattle.vax_undo.proofs.PlainMemory.{layout_start}
use Rattle.vax_cpu.specs.declared.cpu.Open.{Open}
use Rattle.vax_save.specs.declared.SaveError.TheVariants.{Fault}
use Rattle.vax_save.specs.Kinds.{wrong_open}
use Rattle.vax_save.specs.Restoring.{Contents, contents_at, ended, fails, is_overdone, is_translating, is_writing, opcode_place, restored, state_of, units_in, written_in}

fails_start : (areas : List Area) (core : Core) (addr len : ℕ) (access : Access) → fails (start_memory areas) core addr len access ≡ fails areas core addr len access
fails_start areas core addr len access = ap is_some (violation-alike (start_memory areas) areas addr len (mode_of core.psl) access (layout_start areas))

-- what is wrong with a string instruction doesn't depend on the bytes of memory
pub overdone_start : (latch : Option Open) (areas : List Area) (core : Core) → is_overdone latch (start_memory areas) core ≡ is_overdone latch areas core
overdone_start None areas core = refl
overdone_start (Some latched) areas core =
    let p = unpacked latched.opcode (take 6 core.regs) in
    let source = fails_start areas core p.addr1 (moved_count p) Read in
    let table = fails_start areas core p.table 256 Read in
    let target = fails_start areas core p.addr2 (written_in p) Write in
    λ i. nat_lt (units_in p) p.done || (is_writing p && (source i || ((is_translating p && (nat_lt 0 (moved_count p) && table i)) || target i)))

pub restored_by : (bytes : List ℕ) (c : Contents) → contents_at (record { place = 0; rest = bytes }) ≡ Ok c → restored bytes ≡ ended c
unfolding restored
restored_by bytes c e = rw e refl

pub ended_well : (c : Contents) → (length c.end.rest == 0) ≡ true → is_overdone c.latch c.memory c.core ≡ false → ended c ≡ Ok (state_of c)
unfolding ended
ended_well c none sound = rw (none, sound) refl

pub ended_overdone : (c : Contents) → (length c.end.rest == 0) ≡ true → is_overdone c.latch c.memory c.core ≡ true → ended c ≡ Err (Fault opcode_place wrong_open)
unfolding ended
ended_overdone c none wrong = rw (none, wrong) refl
