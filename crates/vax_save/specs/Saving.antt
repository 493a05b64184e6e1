-- What saving does to a machine, its page file and the channels.
use Rattle.std.specs.Prelude.{◌≡◌, ℕ, Bool, true, false, Option, Result, Ok, Err, List, ◌++◌, length}
use Rattle.vax_outside.specs.Blocks.{BlockFile}
use Rattle.vax_outside.specs.Channels.{Channels, Grew, GrewByPrefix, kept_state, only}
use Rattle.vax_outside.specs.declared.traits.Chan.TheVariants.{State}
use Rattle.vax_pager.specs.Meaning.{pages}
use Rattle.vax_pager.specs.Poking.{OnlyRead}
use Rattle.vax_machine.specs.Machine.{KeepsPlace, keeping}
use Rattle.vax_machine.specs.declared.engine.Engine.{Engine}
use Rattle.vax_save.specs.declared.fault.Fault.{Fault}
use Rattle.vax_save.specs.declared.fault.Fault.TheVariants.{Page, Write}
use Rattle.vax_save.specs.declared.saving.SaveEnd.{SaveEnd}
use Rattle.vax_save.specs.declared.saving.SaveEnd.TheVariants.{Written, PageFault, WriteFault}
use Rattle.vax_save.specs.Saved.{areas_field, heading, longword, registers_field}

-- the machine is as before, and its page file was only read
pub record IsKept (old : Engine) (before : Option BlockFile) (new : Engine) (after : Option BlockFile) : Type 0 where
  pub cpu : new.cpu ≡ old.cpu
  pub keeps : keeping new ≡ keeping old
  pub pages : pages new.pager ≡ pages old.pager
  pub means : KeepsPlace old before new after
  pub reads : OnlyRead before after

-- a call of the page file failed
abbrev pub is_page_fault : Result (Unit {0}) Fault → Bool
is_page_fault (Ok x) = false
is_page_fault (Err Page) = true
is_page_fault (Err Write) = false

-- a write failed
abbrev pub is_write_fault : Result (Unit {0}) Fault → Bool
is_write_fault (Ok x) = false
is_write_fault (Err Page) = false
is_write_fault (Err Write) = true

-- the same of how saving ended
abbrev pub has_page_fault : SaveEnd → Bool
has_page_fault Written = false
has_page_fault PageFault = true
has_page_fault WriteFault = false

abbrev pub has_write_fault : SaveEnd → Bool
has_write_fault Written = false
has_write_fault PageFault = false
has_write_fault WriteFault = true

-- these bytes were written and kept as the state, or a prefix of them was written and nothing was kept
abbrev pub Saves : SaveEnd → List ℕ → Option Channels → Option Channels → Type 0
Saves Written bytes old now = Grew old now (kept_state bytes)
Saves PageFault bytes old now = GrewByPrefix old now (only State bytes)
Saves WriteFault bytes old now = GrewByPrefix old now (only State bytes)

-- so it went with some bytes, whatever they are
abbrev pub HasSaved : SaveEnd → Option Channels → Option Channels → Type 0
HasSaved end old now = (bytes : List ℕ) × Saves end bytes old now

-- the fields of a machine that stand before its input's bytes
abbrev pub first_fields : Engine → List ℕ
first_fields m =
    heading m.steps ++ (registers_field m.cpu.core m.cpu.latch ++ (longword m.cpu.term.place ++ longword (length m.cpu.term.input.items)))

-- and those that stand before its pages
abbrev pub front_fields : Engine → List ℕ
front_fields m = first_fields m ++ (m.cpu.term.input.items ++ areas_field (keeping m).areas)
