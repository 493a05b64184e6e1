-- Cells behind one another, and what they tell.
use Rattle.std.proofs.Common.{◌≡◌, ◌<◌, ℕ, ◌==◌, if◌then◌else◌, List, [], ◌∷◌, ◌++◌, refl, ap, ◌∙◌, append_assoc, arith}
use Rattle.std.proofs.lemmas.Bool.{eq-eqb, ne_eqb}
use Rattle.vax_vectors.specs.Truth.{told}
use Rattle.vax_vectors.specs.declared.vector.Cell.{Cell}

-- cells tell nothing of an address
abbrev pub TellsNothing : List Cell → ℕ → Type 0
TellsNothing cells addr = (more : List Cell) → told (cells ++ more) addr ≡ told more addr

pub nothing_told : (addr : ℕ) → TellsNothing [] addr
nothing_told addr = λ more. refl

told_past : (cell : Cell) (more : List Cell) (addr : ℕ) → (addr ≡ cell.addr → ⊥) → told (cell ∷ more) addr ≡ told more addr
unfolding told
told_past cell more addr other = rw (ne_eqb addr cell.addr other) refl

pub nothing_more : (cells : List Cell) (cell : Cell) (addr : ℕ) → cell.addr < addr → TellsNothing cells addr → TellsNothing (cells ++ cell ∷ []) addr
nothing_more cells cell addr below none =
    λ more. ap (λ (cs : List Cell). told cs addr) (append_assoc cells (cell ∷ []) more) ∙ (none (cell ∷ more) ∙ told_past cell more addr (λ e. absurd (omega (arith, e, below))))

pub told_here : (cells : List Cell) (cell : Cell) (addr : ℕ) → addr ≡ cell.addr → TellsNothing cells addr → told (cells ++ cell ∷ []) addr ≡ cell.byte
unfolding told
told_here cells cell addr is none = none (cell ∷ []) ∙ rw (eq-eqb addr cell.addr is) refl

told_push : (cells : List Cell) (cell : Cell) (addr : ℕ) → addr < cell.addr → told (cells ++ cell ∷ []) addr ≡ told cells addr
unfolding told
told_push [] cell addr below = rw (ne_eqb addr cell.addr (λ e. absurd (omega (arith, e, below)))) refl
told_push (c ∷ cs) cell addr below = ap (λ (n : ℕ). if addr == c.addr then c.byte else n) (told_push cs cell addr below)

pub told_still : (cells : List Cell) (cell : Cell) (addr byte : ℕ) → addr < cell.addr → told cells addr ≡ byte → told (cells ++ cell ∷ []) addr ≡ byte
told_still cells cell addr byte below is = told_push cells cell addr below ∙ is
