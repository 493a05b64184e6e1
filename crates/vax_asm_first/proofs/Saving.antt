-- Sections that are put aside.
use Rattle.std.proofs.Common.{◌≡◌, ◌-◌, ℕ, List, [], ◌∷◌, ◌++◌, length, map, take, Option, Some, None, refl, sym, ap, ◌∙◌}
use Rattle.std.proofs.lemmas.List.{length-map, map-append, take-map}
use Rattle.std.specs.Prelude.{option_map, option_to_list}
use Rattle.vax_asm_first.specs.Standing as standing
use Rattle.vax_asm_first.specs.Standing.{last_of}
use Rattle.vax_asm_first.specs.View.{saved_of}
use Rattle.vax_asm_first.specs.declared.types.Saved.{Saved}

pub one_more : (xs : List Saved) (c : Saved) → map saved_of (xs ++ c ∷ []) ≡ map saved_of xs ++ saved_of c ∷ []
one_more xs c = map-append saved_of xs (c ∷ [])

pub count_seen : (xs : List Saved) → length (map saved_of xs) ≡ length xs
count_seen xs = length-map xs saved_of

last_behind : (xs : List standing.Saved) (c : standing.Saved) → last_of (xs ++ c ∷ []) ≡ Some c
last_behind [] c = refl
last_behind (x ∷ []) c = refl
last_behind (x ∷ y ∷ xs) c = last_behind (y ∷ xs) c

pub last_seen : (xs ys : List Saved) (o : Option Saved) → xs ≡ ys ++ option_to_list o → (o ≡ None → ys ≡ []) → option_map saved_of o ≡ last_of (map saved_of xs)
last_seen xs ys (Some c) e none = sym (ap (λ (l : List Saved). last_of (map saved_of l)) e ∙ ap last_of (one_more ys c) ∙ last_behind (map saved_of ys) (saved_of c))
last_seen xs ys None e none = let empty : ys ≡ [] = none refl in sym (ap (λ (l : List Saved). last_of (map saved_of l)) (e ∙ ap (λ (l : List Saved). l ++ []) empty))

pub rest_seen : (xs ys : List Saved) → ys ≡ take (length xs - 1) xs → map saved_of ys ≡ take (length (map saved_of xs) - 1) (map saved_of xs)
rest_seen xs ys e = ap (map saved_of) e ∙ sym (take-map saved_of (length xs - 1) xs) ∙ ap (λ (n : ℕ). take (n - 1) (map saved_of xs)) (sym (count_seen xs))
