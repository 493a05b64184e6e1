-- The areas of a space, each behind the one before it.
use Rattle.std.proofs.Common.{◌≡◌, ℕ, zero, suc, ◌+◌, ◌<◌, ◌≤◌, true, List, [], ◌∷◌, length, drop, get_or, sym, subst, arith}
use Rattle.std.proofs.lemmas.List.{drop_all, get_or_default}
use Rattle.vax_space.specs.declared.Area.{Area}
use Rattle.vax_space.specs.Areas.{end_of}
use Rattle.vax_space.specs.Faults.{IsSpace, end_before, is_placed, is_protection}
use Rattle.vax_space.proofs.Extents.{end_at, fits_at, rest_at}
use Rattle.vax_save.specs.Restoring.{placed}

-- an area at page `low` or behind it, in one of the regions
pub record IsBehind (low : ℕ) (area : Area) : Type 0 where
  pub order : low ≤ area.first
  pub is_in_region : is_placed area ≡ true
  pub protection : is_protection area.prot ≡ true

-- areas at page `low` or behind it, each behind the one before it
unfoldable pub Ascend : ℕ → List Area → Type 0
Ascend low [] = Unit {0}
Ascend low (area ∷ areas) = IsBehind low area × Ascend (end_of area) areas

no_area : Area
no_area = placed 0 0 0

ascend_from : (areas : List Area) (count i : ℕ) → IsSpace areas → i + count ≡ length areas → Ascend (end_before areas i) (drop i areas)
unfolding Ascend
ascend_from areas zero i space e = subst (λ (t : List Area). Ascend (end_before areas i) t) (sym (drop_all i areas (omega (arith, e)))) tt
ascend_from areas (suc count) i space e =
    let area : Area = get_or areas i no_area in
    let below : i < length areas = omega (arith, e) in
    let is : area ≡ get_or areas i area = get_or_default areas i no_area area below in
    let fits = fits_at areas i area space below is in
    let here : IsBehind (end_before areas i) area = record { order = fits.order; is_in_region = fits.placed; protection = fits.prot } in
    let next = ascend_from areas count (i + 1) space (omega (arith, e)) in
    let rest : Ascend (end_of area) (drop (i + 1) areas) = subst (λ (n : ℕ). Ascend n (drop (i + 1) areas)) (end_at areas i area below is) next in
    subst (λ (t : List Area). Ascend (end_before areas i) t) (sym (rest_at areas i area below is)) (here, rest)

pub space_ascends : (areas : List Area) → IsSpace areas → Ascend 0 areas
space_ascends areas space = ascend_from areas (length areas) 0 space (omega arith)
