-- Assignments become steps one behind another.
use Rattle.std.proofs.Common.{◌≡◌, ◌<◌, ◌+◌, ℕ, suc, add-one, List, [], ◌∷◌, ◌++◌, length, map, drop, refl, sym, ap, ◌∙◌, drop-cons, append_assoc, Option, Some, None}
use Rattle.std.proofs.lemmas.List.{map-append}
use Rattle.std.proofs.lemmas.Option.{slice_get-map}
use Rattle.std.specs.Prelude.{slice_get, slice_index_or, option_map}
use Rattle.vax_asm_circles.specs.Circles as circles
use Rattle.vax_asm_circles.specs.View.{step_of}
use Rattle.vax_asm_circles.specs.declared.steps.Step.{Step}
use Rattle.vax_asm_first.specs.Circles.{origin_at, step_by, steps_by}
use Rattle.vax_asm_first.specs.View.{assignment_of}
use Rattle.vax_asm_first.specs.declared.types.Assignment.{Assignment}
use Rattle.vax_asm_values.specs.View.{meaning_of}
use Rattle.vax_asm_values.specs.declared.types.Meaning.{Meaning}

-- an item behind others, by what each means
behind_all : {A B : Type 0} (f : A → B) (before after : List B) (xs : List A) (i : ℕ) (x : A) → i < length xs → x ≡ slice_index_or xs i x
    → after ≡ before ++ f x ∷ [] → before ++ map f (drop i xs) ≡ map f xs → after ++ map f (drop (i + 1) xs) ≡ map f xs
behind_all f before after xs i x h at more same =
    let split : drop i xs ≡ x ∷ drop (i + 1) xs = rw add-one (drop-cons xs i x h ∙ ap (λ y. y ∷ drop (suc i) xs) (sym at)) in
    let rest = map f (drop (i + 1) xs) in
    ap (λ l. l ++ rest) more
    ∙ append_assoc before (f x ∷ []) rest
    ∙ ap (λ l. before ++ map f l) (sym split)
    ∙ same

pub definition_added : (before after : List ℕ) (names : List Meaning) (i : ℕ) (m : Meaning) → i < length names → m ≡ slice_index_or names i m
    → after ≡ before ++ m.definition ∷ [] → before ++ map (λ n. n.definition) (drop i names) ≡ map (λ n. n.definition) names
    → after ++ map (λ n. n.definition) (drop (i + 1) names) ≡ map (λ n. n.definition) names
definition_added before after names i m h at more same = behind_all (λ (n : Meaning). n.definition) before after names i m h at more same

pub same_definitions : (names : List Meaning) → map (λ m. m.definition) (map meaning_of names) ≡ map (λ m. m.definition) names
same_definitions [] = refl
same_definitions (m ∷ names) = ap (λ (l : List ℕ). m.definition ∷ l) (same_definitions names)

pub step_added : (steps : List Step) (s : Step) → map step_of (steps ++ s ∷ []) ≡ map step_of steps ++ step_of s ∷ []
step_added steps s = map-append step_of steps (s ∷ [])

pub steps_step : (before after all : List circles.Step) (assignments : List Assignment) (i : ℕ) (a : Assignment) → i < length assignments → a ≡ slice_index_or assignments i a
    → after ≡ before ++ step_by (assignment_of a) ∷ [] → before ++ steps_by (map assignment_of (drop i assignments)) ≡ all
    → after ++ steps_by (map assignment_of (drop (i + 1) assignments)) ≡ all
steps_step before after all assignments i a h at more same =
    let split : drop i assignments ≡ a ∷ drop (i + 1) assignments = rw add-one (drop-cons assignments i a h ∙ ap (λ (x : Assignment). x ∷ drop (suc i) assignments) (sym at)) in
    let rest = steps_by (map assignment_of (drop (i + 1) assignments)) in
    ap (λ (l : List circles.Step). l ++ rest) more
    ∙ append_assoc before (step_by (assignment_of a) ∷ []) rest
    ∙ ap (λ (l : List Assignment). before ++ steps_by (map assignment_of l)) (sym split)
    ∙ same

-- the statement at a place
pub origin_found : (assignments : List Assignment) (i : ℕ) → origin_at (map assignment_of assignments) (Some i) ≡ option_map (λ (a : Assignment). a.origin) (slice_get assignments i)
origin_found assignments i = ap (λ o. option_map (λ a. a.origin) o) (slice_get-map assignment_of assignments i) ∙ same (slice_get assignments i)
  where
    same : (o : Option Assignment) → option_map (λ a. a.origin) (option_map assignment_of o) ≡ option_map (λ (a : Assignment). a.origin) o
    same (Some a) = refl
    same None = refl
