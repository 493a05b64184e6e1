-- What the code keeps of a file, without where it lies in memory.
use Rattle.std.specs.Prelude.{ℕ, ◌≡◌, ◌<◌, ◌⊎◌, ◌-◌, ◌*◌, List, ◌++◌, length, replicate, Option, Some, None}
use Rattle.std.specs.Borrow.{Bor}
use Rattle.vax_save.specs.declared.cursor.Cursor.{Cursor as Kept}
use Rattle.vax_save.specs.declared.registers.Behind.{Behind as Read}
use Rattle.vax_save.specs.declared.contents.Contents.{Contents as Found}
use Rattle.vax_flat.specs.Start.{start_memory}
use Rattle.vax_save.specs.Saved.{no_opcode}
use Rattle.vax_save.specs.Restoring.{Behind, Contents, Cursor}

abbrev pub cursor : Kept → Cursor
cursor c = record { place = c.place; rest = c.rest.now }

abbrev pub behind : Read → Behind
behind b = record { sisr = b.sisr; iccs = b.iccs; clock = b.clock; opcode = b.opcode }

-- the bytes of so many pages, of which the last zeros may be left out
abbrev pub filled_to : ℕ → List ℕ → List ℕ
filled_to pages bytes = bytes ++ replicate (512 * pages - length bytes) 0

-- the bytes of a page, or zeros
abbrev pub or_zeros : Option (Bor (List ℕ)) → List ℕ
or_zeros None = replicate 512 0
or_zeros (Some bytes) = bytes.now

-- an opcode, or what stands for none
abbrev pub IsOpcode : ℕ → Type 0
IsOpcode n = (n < 256) ⊎ (n ≡ no_opcode)

abbrev pub contents : Found → Contents
contents c = record {
  steps = c.steps;
  core = c.core;
  latch = c.latch;
  taken = c.taken;
  input = c.input.now;
  memory = start_memory c.areas.items;
  end = cursor c.end;
}
