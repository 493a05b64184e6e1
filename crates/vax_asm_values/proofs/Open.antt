-- Whether one of some names means a definition that is still to come, one name at a time.
use Rattle.std.proofs.Common.{◌≡◌, ◌<◌, ◌≤◌, ◌+◌, ℕ, suc, add-one, Bool, true, false, List, ◌∷◌, length, map, drop, sym, ap, ◌∙◌, drop-cons}
use Rattle.std.proofs.lemmas.List.{drop_all}
use Rattle.std.specs.List.{list_any}
use Rattle.std.specs.Prelude.{◌||◌, slice_index_or}
use Rattle.vax_asm_values.specs.Values.{Source, source_at, is_to_come}
use Rattle.vax_asm_values.specs.View.{meaning_of}
use Rattle.vax_asm_values.specs.declared.types.Meaning.{Meaning}

-- whether one of the names from a place on does
abbrev pub any_from : List Source → List Meaning → ℕ → Bool
any_from sources names i = list_any (λ m. is_to_come (source_at sources m.definition)) (map meaning_of (drop i names))

split : (sources : List Source) (names : List Meaning) (i : ℕ) (m : Meaning) → i < length names → m ≡ slice_index_or names i m
    → any_from sources names i ≡ (is_to_come (source_at sources m.definition) || any_from sources names (i + 1))
split sources names i m h at =
    let here : drop i names ≡ m ∷ drop (i + 1) names = rw add-one (drop-cons names i m h ∙ ap (λ (x : Meaning). x ∷ drop (suc i) names) (sym at)) in
    ap (λ (l : List Meaning). list_any (λ x. is_to_come (source_at sources x.definition)) (map meaning_of l)) here

either : (b c d : Bool) → b ≡ true → d ≡ (b || c) → d ≡ true
either b c d e f = rw e at f

neither : (b c d : Bool) → b ≡ false → d ≡ (b || c) → c ≡ d
neither b c d e f = sym (rw e at f)

pub name_found : (sources : List Source) (names : List Meaning) (i : ℕ) (m : Meaning) (all : Bool) → i < length names → m ≡ slice_index_or names i m
    → is_to_come (source_at sources m.definition) ≡ true → any_from sources names i ≡ all → true ≡ all
name_found sources names i m all h at e same = sym (either (is_to_come (source_at sources m.definition)) (any_from sources names (i + 1)) (any_from sources names i) e (split sources names i m h at)) ∙ same

pub name_passed : (sources : List Source) (names : List Meaning) (i : ℕ) (m : Meaning) (all : Bool) → i < length names → m ≡ slice_index_or names i m
    → is_to_come (source_at sources m.definition) ≡ false → any_from sources names i ≡ all → any_from sources names (i + 1) ≡ all
name_passed sources names i m all h at e same = neither (is_to_come (source_at sources m.definition)) (any_from sources names (i + 1)) (any_from sources names i) e (split sources names i m h at) ∙ same

pub names_passed : (sources : List Source) (names : List Meaning) (i : ℕ) (all : Bool) → length names ≤ i → any_from sources names i ≡ all → false ≡ all
names_passed sources names i all h same = sym (ap (λ (l : List Meaning). list_any (λ x. is_to_come (source_at sources x.definition)) (map meaning_of l)) (drop_all i names h)) ∙ same
