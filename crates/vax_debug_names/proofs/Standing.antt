-- One statement after the other.
use Rattle.std.proofs.Common.{◌≡◌, ◌<◌, ◌≤◌, ◌+◌, ◌==◌, ℕ, suc, add-one, List, ◌∷◌, length, drop, get_or, Bool, true, false, if◌then◌else◌, None, Some, sym, ap, ◌∙◌, drop-cons}
use Rattle.std.proofs.lemmas.List.{drop_all}
use Rattle.vax_debug_names.specs.Names.{line_at}
use Rattle.vax_debug_names.specs.declared.SourceLine.{SourceLine}

here : (lines : List SourceLine) (i : ℕ) (l : SourceLine) → i < length lines → l ≡ get_or lines i l → drop i lines ≡ l ∷ drop (i + 1) lines
here lines i l h at = rw add-one (drop-cons lines i l h ∙ ap (λ (x : SourceLine). x ∷ drop (suc i) lines) (sym at))

line_next : (lines : List SourceLine) (address i : ℕ) (l : SourceLine) → i < length lines → l ≡ get_or lines i l →
    line_at (drop i lines) address ≡ (if l.address == address then Some l else line_at (drop (i + 1) lines) address)
unfolding line_at
line_next lines address i l h at = ap (λ (xs : List SourceLine). line_at xs address) (here lines i l h at)

pub line_last : (lines : List SourceLine) (address i : ℕ) → length lines ≤ i → line_at (drop i lines) address ≡ None
unfolding line_at
line_last lines address i h = ap (λ (xs : List SourceLine). line_at xs address) (drop_all i lines h)

pub line_here : (lines : List SourceLine) (address i : ℕ) (l : SourceLine) → i < length lines → l ≡ get_or lines i l → (l.address == address) ≡ true →
    line_at (drop i lines) address ≡ Some l
line_here lines address i l h at is = line_next lines address i l h at ∙ ap (λ (b : Bool). if b then Some l else line_at (drop (i + 1) lines) address) is

pub line_not_here : (lines : List SourceLine) (address i : ℕ) (l : SourceLine) → i < length lines → l ≡ get_or lines i l → (l.address == address) ≡ false →
    line_at (drop i lines) address ≡ line_at (drop (i + 1) lines) address
line_not_here lines address i l h at is = line_next lines address i l h at ∙ ap (λ (b : Bool). if b then Some l else line_at (drop (i + 1) lines) address) is
