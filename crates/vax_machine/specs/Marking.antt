-- Which pages a console's deposit leaves modified.
use Rattle.std.specs.Prelude.{ℕ, ◌≡◌, ◌||◌, Bool, true, false, Result, Ok, Err}
use Rattle.vax_flat.specs.Port.{is_in}
use Rattle.vax_pager.specs.declared.calls.PageFault.{PageFault}
use Rattle.vax_machine.specs.Machine.{modified_of}
use Rattle.vax_machine.specs.declared.engine.Engine.{Engine}

-- those of the bytes, and no others that weren't
pub record HasMarked (addr count : ℕ) (old new : Engine) : Type 0 where
  pub marked : (page : ℕ) → is_in addr count page ≡ true → modified_of new page ≡ true
  pub only : (page : ℕ) → modified_of new page ≡ true → (modified_of old page || is_in addr count page) ≡ true

-- none that wasn't
abbrev pub MarksNoOther : Engine → Engine → Type 0
MarksNoOther old new = (page : ℕ) → modified_of new page ≡ true → modified_of old page ≡ true

-- by the answer of a deposit of so many bytes
abbrev pub Marks : Result Bool PageFault → (addr count : ℕ) → Engine → Engine → Type 0
Marks (Ok true) addr count old new = HasMarked addr count old new
Marks (Ok false) addr count old new = MarksNoOther old new
Marks (Err e) addr count old new = MarksNoOther old new
