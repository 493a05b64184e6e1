-- Texts that are taken one after the other.
use Rattle.std.proofs.Common.{◌≡◌, ℕ, ◌+◌, ◌<◌, ◌≤◌, true, false, List, [], ◌∷◌, ◌++◌, length, drop, get_or, sym, ap, ◌∙◌, arith, inl, inr}
use Rattle.std.specs.Prelude.{not}
use Rattle.std.proofs.lemmas.List.{length-map, get_or-map}
use Rattle.std.proofs.lemmas.List.Sums.{prefix_len-drop_yes, prefix_len-drop_no}
use Rattle.vax_image.specs.Texts.{no_text}
use Rattle.vax_image.specs.declared.texts.Text.{Text as Kept}
use Rattle.vax_image.specs.Texts.{Text, is_constant, is_shared, place_among, number_among, texts_with}
use Rattle.vax_image.specs.Views.{text, texts}
use Rattle.vax_image.proofs.SecondVersion.{nothing, some_or_none, with_none, with_some, with_new, with_old}

pub text_at_place : (ts : List Kept) (i : ℕ) (d : Kept) → i < length ts → get_or (texts ts) i nothing ≡ text (get_or ts i d)
text_at_place ts i d lt = get_or-map text ts i d nothing lt

len_is : (ts : List Kept) → length (texts ts) ≡ length ts
len_is ts = length-map ts text

-- the first text that is shared stands at i
pub place_here : (ts : List Kept) (bytes : List ℕ) (prot i : ℕ) (d : Kept) → i < length ts → is_shared bytes prot (text (get_or ts i d)) ≡ true → place_among (drop i (texts ts)) bytes prot ≡ 0
place_here ts bytes prot i d lt shared =
    let len = len_is ts in
    prefix_len-drop_no (λ t. not (is_shared bytes prot t)) (texts ts) i nothing (omega arith) (ap (λ t. not (is_shared bytes prot t)) (text_at_place ts i d lt) ∙ ap not shared)

-- or behind it
pub place_there : (ts : List Kept) (bytes : List ℕ) (prot i : ℕ) (d : Kept) → i < length ts → is_shared bytes prot (text (get_or ts i d)) ≡ false → place_among (drop i (texts ts)) bytes prot ≡ 1 + place_among (drop (i + 1) (texts ts)) bytes prot
place_there ts bytes prot i d lt shared =
    let len = len_is ts in
    prefix_len-drop_yes (λ t. not (is_shared bytes prot t)) (texts ts) i nothing (omega arith) (ap (λ t. not (is_shared bytes prot t)) (text_at_place ts i d lt) ∙ ap not shared)

pub taken_new : (ts : List Text) (bytes : List ℕ) (prot number : ℕ) → number ≡ number_among ts bytes prot → number ≡ length ts → length ts ≤ 64 → texts_with ts bytes prot ≡ ts ++ record { bytes = bytes; constant = is_constant prot } ∷ []
taken_new ts bytes prot number is new few =
    elim (some_or_none bytes) [
      | inl none ↦ let no : number ≡ no_text = is ∙ (with_none ts bytes prot none).0 in absurd (omega arith)
      | inr some ↦ with_new ts bytes prot some (sym (with_some ts bytes prot some) ∙ sym is ∙ new)
    ]

pub taken_old : (ts : List Text) (bytes : List ℕ) (prot number : ℕ) → number ≡ number_among ts bytes prot → (number ≡ length ts → ⊥) → texts_with ts bytes prot ≡ ts
taken_old ts bytes prot number is old =
    elim (some_or_none bytes) [
      | inl none ↦ (with_none ts bytes prot none).1
      | inr some ↦ with_old ts bytes prot some (λ e. old (is ∙ with_some ts bytes prot some ∙ e))
    ]
