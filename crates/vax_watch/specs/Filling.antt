-- Memory that is read by whole pages.
use Rattle.std.specs.Prelude.{ℕ, ◌≡◌, Bool, false, IfSome, is_some, Option, List}
use Rattle.vax_space.specs.declared.Area.{Area}
use Rattle.vax_space.specs.Areas.{area_of}
use Rattle.vax_space.specs.Reference.{page_of}
use Rattle.vax_outside.specs.Blocks.{BlockFile}
use Rattle.vax_flat.specs.Parts.{Place, machine_at}
use Rattle.vax_machine.specs.Console.{IsPageOf}
use Rattle.vax_machine.specs.Machine.{Means}
use Rattle.vax_machine.specs.declared.engine.Engine.{Engine}

-- these are the bytes of the page of an address, none where no area has it
pub record IsPageAt (memory : List Area) (address : ℕ) (page : Option (List ℕ)) : Type 0 where
  pub there : is_some page ≡ is_some (area_of memory (page_of address))
  pub bytes : IfSome page (IsPageOf memory (page_of address))

-- so they are in each place for which the machine stands, where they were before or another page was read
abbrev pub TurnsPage : Engine → Option BlockFile → (is_other : Bool) → ℕ → (old new : Option (List ℕ)) → Type 0
TurnsPage m file is_other address old new =
    (place : Place) → Means m file place → (is_other ≡ false → IsPageAt (machine_at place).memory address old)
    → IsPageAt (machine_at place).memory address new
