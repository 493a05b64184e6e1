-- Areas with the bytes of their pages.
use Rattle.std.proofs.Common.{◌≡◌, ℕ, ◌-◌, ◌+◌, ◌*◌, ◌≤◌, List, [], ◌∷◌, ◌++◌, length, replicate, refl, sym, ap, ◌∙◌, append_assoc, arith}
use Rattle.std.proofs.lemmas.List.{replicate-append-replicate}
use Rattle.vax_space.specs.declared.Area.{Area}
use Rattle.vax_flat.specs.Start.{filled, start_memory}
use Rattle.vax_save.specs.Views.{filled_to}

pub start_none : start_memory [] ≡ []
unfolding start_memory
start_none = refl

pub start_more : (areas : List Area) (area : Area) → start_memory (areas ++ area ∷ []) ≡ start_memory areas ++ record area { bytes = filled area } ∷ []
unfolding start_memory
start_more [] area = refl
start_more (first ∷ areas) area = ap (λ (z : List Area). record first { bytes = filled first } ∷ z) (start_more areas area)

-- a page of zeros
pub zeros_more : (count : ℕ) (bytes : List ℕ) → length bytes ≤ 512 * count → filled_to (count + 1) bytes ≡ filled_to count bytes ++ replicate 512 0
zeros_more count bytes short =
    let e : 512 * (count + 1) - length bytes ≡ (512 * count - length bytes) + 512 = omega (arith, short) in
    ap (λ (n : ℕ). bytes ++ replicate n 0) e
    ∙ (ap (λ (z : List ℕ). bytes ++ z) (sym (replicate-append-replicate (512 * count - length bytes) 512 0))
    ∙ sym (append_assoc bytes (replicate (512 * count - length bytes) 0) (replicate 512 0)))

-- an area behind the areas before it
pub start_next : (all front : List Area) (area : Area) (from bytes : List ℕ) → all ≡ front ++ record area { bytes = from } ∷ [] → from ≡ bytes → start_memory all ≡ start_memory front ++ record area { bytes = filled_to area.pages bytes } ∷ []
start_next all front area from bytes e same =
    ap start_memory e ∙ (start_more front (record area { bytes = from }) ∙ ap (λ (z : List ℕ). start_memory front ++ record area { bytes = filled_to area.pages z } ∷ []) same)
