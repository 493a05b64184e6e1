-- Meanings are copied one behind another.
use Rattle.std.proofs.Common.{◌≡◌, ◌<◌, ◌+◌, ℕ, suc, add-one, List, [], ◌∷◌, ◌++◌, length, map, drop, sym, ap, ◌∙◌, drop-cons, append_assoc}
use Rattle.std.proofs.lemmas.List.{map-append}
use Rattle.std.specs.Prelude.{slice_index_or}
use Rattle.vax_asm_values.specs.Values as specs
use Rattle.vax_asm_values.specs.View.{meaning_of}
use Rattle.vax_asm_values.specs.declared.types.Meaning.{Meaning}

pub meaning_added : (ms : List Meaning) (m : Meaning) → map meaning_of (ms ++ m ∷ []) ≡ map meaning_of ms ++ meaning_of m ∷ []
meaning_added ms m = map-append meaning_of ms (m ∷ [])

split_at : (ms : List Meaning) (i : ℕ) (m : Meaning) → i < length ms → m ≡ slice_index_or ms i m → map meaning_of (drop i ms) ≡ meaning_of m ∷ map meaning_of (drop (i + 1) ms)
split_at ms i m h at =
    let split : drop i ms ≡ m ∷ drop (i + 1) ms = rw add-one (drop-cons ms i m h ∙ ap (λ (x : Meaning). x ∷ drop (suc i) ms) (sym at)) in
    ap (map meaning_of) split

pub copied_step : (before after all : List specs.Meaning) (ms : List Meaning) (i : ℕ) (m : Meaning) → i < length ms → m ≡ slice_index_or ms i m
    → after ≡ before ++ meaning_of m ∷ [] → before ++ map meaning_of (drop i ms) ≡ all → after ++ map meaning_of (drop (i + 1) ms) ≡ all
copied_step before after all ms i m h at more same =
    let rest = map meaning_of (drop (i + 1) ms) in
    ap (λ (l : List specs.Meaning). l ++ rest) more
    ∙ append_assoc before (meaning_of m ∷ []) rest
    ∙ ap (λ (l : List specs.Meaning). before ++ l) (sym (split_at ms i m h at))
    ∙ same
