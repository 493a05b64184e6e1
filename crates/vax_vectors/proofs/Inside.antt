-- Bytes that lie in pages.
use Rattle.std.proofs.Common.{◌≡◌, ◌<◌, ◌+◌, ℕ, suc, ◌==◌, Bool, true, false, if◌then◌else◌, List, [], ◌∷◌, ◌++◌, length, get_or, drop, refl, sym, ap, ◌∙◌, append_assoc, true≢false, arith}
use Rattle.std.proofs.Math.Seq.{drop-cons}
use Rattle.std.proofs.lemmas.Bool.{ne_eqb}
use Rattle.vax_vectors.specs.Truth.{lies_in, told}
use Rattle.vax_vectors.specs.declared.vector.Cell.{Cell}
use Rattle.vax_vectors.specs.declared.vector.Page.{Page}

-- two lists tell the same of each address in these pages
abbrev pub TellsTheSame : List Page → List Cell → List Cell → Type 0
TellsTheSame pages some all = (addr : ℕ) → lies_in pages addr ≡ true → told some addr ≡ told all addr

told_without : (cells rest : List Cell) (cell : Cell) (addr : ℕ) → (addr ≡ cell.addr → ⊥) → told (cells ++ cell ∷ rest) addr ≡ told (cells ++ rest) addr
unfolding told
told_without [] rest cell addr other = rw (ne_eqb addr cell.addr other) refl
told_without (c ∷ cs) rest cell addr other = ap (λ (n : ℕ). if addr == c.addr then c.byte else n) (told_without cs rest cell addr other)

other_address : (pages : List Page) (addr place : ℕ) → lies_in pages addr ≡ true → lies_in pages place ≡ false → addr ≡ place → ⊥
other_address pages addr place here there is = absurd (true≢false (sym (sym (ap (lies_in pages) is) ∙ here) ∙ there))

pub one_kept : (pages : List Page) (cells ram all : List Cell) (i : ℕ) (cell d : Cell) → i < length ram → cell ≡ get_or ram i d
    → TellsTheSame pages (cells ++ drop i ram) all → TellsTheSame pages ((cells ++ cell ∷ []) ++ drop (i + 1) ram) all
one_kept pages cells ram all i cell d below is same =
    let e : drop i ram ≡ cell ∷ drop (suc i) ram = drop-cons ram i d below ∙ ap (λ (c : Cell). c ∷ drop (suc i) ram) (sym is) in
    let n : i + 1 ≡ suc i = omega arith in
    λ addr here. ap (λ (cs : List Cell). told cs addr) (append_assoc cells (cell ∷ []) (drop (i + 1) ram) ∙ (ap (λ (k : ℕ). cells ++ cell ∷ drop k ram) n ∙ ap (λ (cs : List Cell). cells ++ cs) (sym e))) ∙ same addr here

pub one_dropped : (pages : List Page) (cells ram all : List Cell) (i : ℕ) (cell d : Cell) → i < length ram → cell ≡ get_or ram i d → lies_in pages cell.addr ≡ false
    → TellsTheSame pages (cells ++ drop i ram) all → TellsTheSame pages (cells ++ drop (i + 1) ram) all
one_dropped pages cells ram all i cell d below is out same =
    let e : drop i ram ≡ cell ∷ drop (suc i) ram = drop-cons ram i d below ∙ ap (λ (c : Cell). c ∷ drop (suc i) ram) (sym is) in
    let n : i + 1 ≡ suc i = omega arith in
    λ addr here.
    ap (λ (k : ℕ). told (cells ++ drop k ram) addr) n
    ∙ (sym (told_without cells (drop (suc i) ram) cell addr (other_address pages addr cell.addr here out))
    ∙ (ap (λ (cs : List Cell). told (cells ++ cs) addr) (sym e) ∙ same addr here))
