-- The areas of pages, one for each, with no bytes.
use Rattle.std.specs.Prelude.{◌≡◌, ℕ, Bool, true, false, ◌==◌, if◌then◌else◌, List, [], ◌∷◌}
use Rattle.vax_space.specs.declared.Area.{Area}
use Rattle.vax_space.specs.Reference.{page_of}
use Rattle.vax_flat.specs.Port.{View}
use Rattle.vax_vectors.specs.declared.vector.Cell.{Cell}
use Rattle.vax_vectors.specs.declared.vector.Page.{Page}
use Rattle.vax_vectors.specs.Truth.{told}

-- a page with its protection code
abbrev pub guarded : Page → Area
guarded page = record { first = page.number; pages = 1; prot = page.prot; bytes = [] }

-- a page to which every mode may do all
abbrev pub unguarded : Page → Area
unguarded page = record { first = page.number; pages = 1; prot = 4; bytes = [] }

-- one of these pages has the number
unfoldable pub has_number : List Page → ℕ → Bool
has_number [] number = false
has_number (page ∷ pages) number = if number == page.number then true else has_number pages number

-- a byte is there, and is this
pub record Holds (view : View) (addr byte : ℕ) : Type 0 where
  pub there : view.resident (page_of addr) ≡ true
  pub is : view.byte addr ≡ byte

-- these pages have the bytes of these cells, and 0 elsewhere
pub record HaveBytes (pages : List Page) (ram : List Cell) (view : View) : Type 0 where
  pub bytes : (addr : ℕ) → has_number pages (page_of addr) ≡ true → Holds view addr (told ram addr)

-- a page is resident with zeros, and others hold what they did
pub record IsCleared (page : ℕ) (old new : View) : Type 0 where
  pub here : (addr : ℕ) → page_of addr ≡ page → Holds new addr 0
  pub others : (addr : ℕ) → Holds old addr 0 → Holds new addr 0
