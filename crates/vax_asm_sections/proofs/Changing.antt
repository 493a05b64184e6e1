-- One section of many is changed.
use Rattle.std.proofs.Common.{◌≡◌, ℕ, ◌<◌, List, length, map, slice_index_or, slice_set, sym, ap, ◌∙◌, ◌++◌, ◌∷◌, []}
use Rattle.std.proofs.lemmas.List.{map-set, get_or-map, map-append}
use Rattle.vax_asm_sections.specs.declared.types.Building.{Building}
use Rattle.vax_asm_sections.specs.Layout.{Part, longer, raised, set_back, unnamed}
use Rattle.vax_asm_sections.specs.View.{section_of}

pub current_seen : {F : Type 0} (xs : List (Building F)) (i : ℕ) (d : Building F) → i < length xs → slice_index_or (map section_of xs) i unnamed ≡ section_of (slice_index_or xs i d)
current_seen xs i d h = get_or-map section_of xs i d unnamed h

pub part_added : {F : Type 0} (xs : List (Building F)) (i n : ℕ) (part : Part F) (d b : Building F) → i < length xs → section_of b ≡ longer n part (section_of (slice_index_or xs i d)) →
    map section_of (slice_set xs i b) ≡ slice_set (map section_of xs) i (longer n part (slice_index_or (map section_of xs) i unnamed))
part_added xs i n part d b h e =
    map-set section_of xs i b ∙ ap (λ s. slice_set (map section_of xs) i s) (e ∙ ap (longer n part) (sym (current_seen xs i d h)))

pub alignment_raised : {F : Type 0} (xs : List (Building F)) (i k : ℕ) (d b : Building F) → i < length xs → section_of b ≡ raised k (section_of (slice_index_or xs i d)) →
    map section_of (slice_set xs i b) ≡ slice_set (map section_of xs) i (raised k (slice_index_or (map section_of xs) i unnamed))
alignment_raised xs i k d b h e =
    map-set section_of xs i b ∙ ap (λ s. slice_set (map section_of xs) i s) (e ∙ ap (raised k) (sym (current_seen xs i d h)))

pub back_seen : {F : Type 0} (xs : List (Building F)) (i to : ℕ) (d b : Building F) → i < length xs → section_of b ≡ set_back to (section_of (slice_index_or xs i d)) →
    map section_of (slice_set xs i b) ≡ slice_set (map section_of xs) i (set_back to (slice_index_or (map section_of xs) i unnamed))
back_seen xs i to d b h e =
    map-set section_of xs i b ∙ ap (λ s. slice_set (map section_of xs) i s) (e ∙ ap (set_back to) (sym (current_seen xs i d h)))

pub chosen_seen : {F : Type 0} (xs : List (Building F)) (i : ℕ) (d : Building F) → i < length xs → slice_index_or (map section_of xs) i unnamed ≡ section_of (slice_index_or xs i d)
chosen_seen xs i d h = current_seen xs i d h

pub section_begun : {F : Type 0} (xs : List (Building F)) (b : Building F) → map section_of (xs ++ b ∷ []) ≡ map section_of xs ++ section_of b ∷ []
section_begun xs b = map-append section_of xs (b ∷ [])
