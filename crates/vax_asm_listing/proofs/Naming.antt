-- The names of a scope as the code keeps them.
use Rattle.std.proofs.Common.{◌≡◌, ℕ, List, [], ◌∷◌, map, refl, ap, ◌∙◌, length, take, ◌≤◌}
use Rattle.std.proofs.lemmas.List.{take_all}
use Rattle.vax_asm_listing.specs.Rows.{label_of}
use Rattle.vax_asm_listing.specs.declared.types.Label.{Label}
use Rattle.vax_asm_names.specs.Names as specs
use Rattle.vax_asm_names.specs.View.{name_of}
use Rattle.vax_asm_names.specs.declared.types.Name.{Name}
use Rattle.vax_asm_scope.specs.Scope.{Scope}

twice : (s : Scope) (names : List Name) → map (λ (n : Name). label_of s (name_of n)) names ≡ map (label_of s) (map name_of names)
twice s [] = refl
twice s (n ∷ names) = ap (λ (l : List Label). label_of s (name_of n) ∷ l) (twice s names)

pub labels_seen : (s : Scope) (names : List Name) (all : List specs.Name) → map name_of names ≡ all → map (λ (n : Name). label_of s (name_of n)) names ≡ map (label_of s) all
labels_seen s names all e = twice s names ∙ ap (map (label_of s)) e

pub labels_done : (s : Scope) (labels : List Label) (names : List Name) (i : ℕ) (all : List specs.Name) → length names ≤ i → labels ≡ map (λ (n : Name). label_of s (name_of n)) (take i names)
    → map name_of names ≡ all → labels ≡ map (label_of s) all
labels_done s labels names i all h same e = same ∙ (ap (map (λ (n : Name). label_of s (name_of n))) (take_all i names h) ∙ labels_seen s names all e)
