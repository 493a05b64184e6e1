-- Lines, a byte at a time.
use Rattle.std.proofs.Common.{◌≡◌, ◌<◌, ◌≤◌, ◌+◌, ℕ, suc, add-one, List, [], ◌∷◌, ◌++◌, length, map, drop, append-nil, append_assoc, sym, ap, ◌∙◌, drop-cons}
use Rattle.std.proofs.lemmas.List.{drop_all}
use Rattle.std.specs.Prelude.{slice_index_or}
use Rattle.vax_asm_errors.specs.Errors.{shown, under}

here : (bytes : List ℕ) (i b : ℕ) → i < length bytes → b ≡ slice_index_or bytes i b → drop i bytes ≡ b ∷ drop (i + 1) bytes
here bytes i b h at = rw add-one (drop-cons bytes i b h ∙ ap (λ (x : ℕ). x ∷ drop (suc i) bytes) (sym at))

pub byte_shown : (bytes : List ℕ) (i b : ℕ) (before after all : List ℕ) → i < length bytes → b ≡ slice_index_or bytes i b → after ≡ before ++ shown b ∷ []
    → before ++ map shown (drop i bytes) ≡ all → after ++ map shown (drop (i + 1) bytes) ≡ all
byte_shown bytes i b before after all h at more same =
    ap (λ (l : List ℕ). l ++ map shown (drop (i + 1) bytes)) more
    ∙ append_assoc before (shown b ∷ []) (map shown (drop (i + 1) bytes))
    ∙ ap (λ (l : List ℕ). before ++ map shown l) (sym (here bytes i b h at))
    ∙ same

pub all_shown : (bytes : List ℕ) (i : ℕ) (before all : List ℕ) → length bytes ≤ i → before ++ map shown (drop i bytes) ≡ all → before ≡ all
all_shown bytes i before all h same = sym (append-nil before) ∙ ap (λ (l : List ℕ). before ++ map shown l) (sym (drop_all i bytes h)) ∙ same

pub byte_under : (bytes : List ℕ) (i b : ℕ) (before after all : List ℕ) → i < length bytes → b ≡ slice_index_or bytes i b → after ≡ before ++ under b ∷ []
    → before ++ map under (drop i bytes) ≡ all → after ++ map under (drop (i + 1) bytes) ≡ all
byte_under bytes i b before after all h at more same =
    ap (λ (l : List ℕ). l ++ map under (drop (i + 1) bytes)) more
    ∙ append_assoc before (under b ∷ []) (map under (drop (i + 1) bytes))
    ∙ ap (λ (l : List ℕ). before ++ map under l) (sym (here bytes i b h at))
    ∙ same

pub all_under : (bytes : List ℕ) (i : ℕ) (before all : List ℕ) → length bytes ≤ i → before ++ map under (drop i bytes) ≡ all → before ≡ all
all_under bytes i before all h same = sym (append-nil before) ∙ ap (λ (l : List ℕ). before ++ map under l) (sym (drop_all i bytes h)) ∙ same
