-- The table of protection codes agrees with the areas.
use Rattle.std.proofs.Common.{◌≡◌, ◌≢◌, ℕ, zero, suc, ◌+◌, ◌-◌, ◌<◌, ◌≤◌, true, false, ◌&&◌, Option, Some, None, List, length, refl, ◌∙◌, ap, sym, arith, inl, inr, cond, get_or, nat_lt, nat_le}
use Rattle.std.proofs.Common.{[], ◌∷◌, set, drop, take, ◌++◌, get_or-set_same, get_or-set_other, replicate}
use Rattle.std.proofs.lemmas.List.{get_or-replicate, get_or_past, length-replicate}
use Rattle.std.proofs.Math.Seq.{drop-cons, take-append_seam}
use Rattle.std.proofs.lemmas.Option.{none-some, same_Some, slice_get_read}
use Rattle.std.proofs.lemmas.Bool.{cases_eq, cases_lt, cases_Bool, cases_cond}
use Rattle.std.proofs.lemmas.Bool.Decides.{nat_tests}
use Rattle.vax_space.specs.declared.Area.{Area}
use Rattle.vax_space.specs.Areas.{has_page, area_of, prot_of}
use Rattle.vax_space.specs.Faults.{is_placed, is_protection, IsSpace}
use Rattle.vax_space.specs.Lookup.{slot, place_of, IsPainted, Maps}
use Rattle.std.specs.Prelude.{unwrap_or}
use Rattle.vax_space.specs.declared.Access.{Access}
use Rattle.vax_space.specs.Protection.{allows}
use Rattle.vax_space.specs.Reference.{may_access, permitted}
use Rattle.vax_space.proofs.Protections.{allows_reserved}
use Rattle.vax_space.proofs.AreaFaults.{placed_some, placed_low, placed_high, placed_end, fits_here}

slot_place : (page place : ℕ) → slot page ≡ Some place → place ≡ place_of page
unfolding slot
slot_place page place h = grind (arith, nat_tests)

slot_there : (page place : ℕ) → slot page ≡ Some place → 0x8000 ≤ page → 0x3F8000 ≤ page
unfolding slot
slot_there page place h high = grind (arith, nat_tests)

test_same : (area : Area) (page place : ℕ) → is_placed area ≡ true → slot page ≡ Some place → has_page area page ≡ (nat_le (place_of area.first) place && nat_lt place (place_of area.first + area.pages))
unfolding has_page
test_same area page place h s =
    let at = slot_place page place s in
    let there = slot_there page place s in
    let low = placed_low area h in
    let high = placed_high area h in
    grind (arith, nat_tests)

permitted_by : (prot : Option ℕ) (mode : ℕ) (access : Access) → allows (unwrap_or prot 1) mode access ≡ permitted prot mode access
permitted_by None mode access = allows_reserved mode access
permitted_by (Some code) mode access = refl

pub may_access_by : (areas : List Area) (page mode : ℕ) (access : Access) → allows (unwrap_or (prot_of areas page) 1) mode access ≡ may_access areas page mode access
unfolding may_access
may_access_by areas page mode access = permitted_by (prot_of areas page) mode access

-- one more place is painted
painted_test : (from place k : ℕ) → (k ≡ place → ⊥) → (nat_le from k && nat_lt k (place + 1)) ≡ (nat_le from k && nat_lt k place)
painted_test from place k ne = grind (arith, nat_tests)

pub painted_more : (old codes : List ℕ) (from place prot : ℕ) → from ≤ place → place < length codes → ((k : ℕ) → get_or codes k 0 ≡ cond (nat_le from k && nat_lt k place) prot (get_or old k 0)) → (k : ℕ) → get_or (set codes place prot) k 0 ≡ cond (nat_le from k && nat_lt k (place + 1)) prot (get_or old k 0)
painted_more old codes from place prot low below painted k =
    elim (cases_eq k place) [
      | inl e ↦
          let t : (nat_le from k && nat_lt k (place + 1)) ≡ true = grind (arith, nat_tests) in
          rw (t, e) (get_or-set_same codes place prot 0 below)
      | inr ne ↦ rw (painted_test from place k ne) (get_or-set_other codes place k prot 0 ne ∙ painted k)
    ]

prot_none : (page : ℕ) → prot_of [] page ≡ None
unfolding prot_of area_of
prot_none page = refl

prot_here : (area : Area) (areas : List Area) (page : ℕ) → has_page area page ≡ true → prot_of (area ∷ areas) page ≡ Some area.prot
unfolding prot_of area_of
prot_here area areas page h = rw h refl

prot_later : (area : Area) (areas : List Area) (page : ℕ) → has_page area page ≡ false → prot_of (area ∷ areas) page ≡ prot_of areas page
unfolding prot_of area_of
prot_later area areas page h = rw h refl

slot_below : (page place : ℕ) → slot page ≡ Some place → place < 69632
unfolding slot
slot_below page place h = grind (arith, nat_tests)

no_slot : (area : Area) (page : ℕ) → is_placed area ≡ true → slot page ≡ None → has_page area page ≡ false
unfolding slot has_page
no_slot area page placed none =
    let low = placed_low area placed in
    let high = placed_high area placed in
    let end = placed_end area placed in
    grind (arith, nat_tests)

protection_small : (code : ℕ) → is_protection code ≡ true → code ≤ 15
unfolding is_protection
protection_small code h = grind (arith, nat_tests)

protection_named : (code : ℕ) → is_protection code ≡ true → code ≡ 1 → ⊥
unfolding is_protection
protection_named code h e = grind (arith, nat_tests)

get_one : (n k : ℕ) → get_or (replicate n 1) k 0 ≤ 15
get_one n k = elim (cases_lt k n) [
  | inl below ↦ rw (get_or-replicate {A = ℕ} n k 1 0 below) (omega arith)
  | inr past ↦ rw (get_or_past (replicate {A = ℕ} n 1) k 0 (rw (length-replicate {A = ℕ} n 1) past)) (omega arith)
]

pub maps_none : (codes : List ℕ) (n : ℕ) → n ≡ 69632 → codes ≡ replicate n 1 → Maps codes []
maps_none codes n size is = record {
  size = rw is (length-replicate {A = ℕ} n 1 ∙ size);
  code = λ page place h. rw (is, prot_none page) (get_or-replicate {A = ℕ} n place 1 0 (omega (arith, slot_below page place h)));
  outside = λ page h. prot_none page;
  valid = λ place. rw is (get_one n place);
  named = λ page h. none-some 1 (sym (prot_none page) ∙ h);
}

code_painted : (area : Area) (areas : List Area) (old new : List ℕ) (page place : ℕ) → is_placed area ≡ true → IsPainted area old new → slot page ≡ Some place → get_or old place 0 ≡ unwrap_or (prot_of areas page) 1 → get_or new place 0 ≡ unwrap_or (prot_of (area ∷ areas) page) 1
code_painted area areas old new page place placed painted s e =
    elim (cases_Bool (has_page area page)) [
      | inl here ↦ rw (prot_here area areas page here) (painted.code place ∙ rw (sym (test_same area page place placed s) ∙ here) refl)
      | inr later ↦ rw (prot_later area areas page later) (painted.code place ∙ rw (sym (test_same area page place placed s) ∙ later) e)
    ]

valid_painted : (area : Area) (old new : List ℕ) (place : ℕ) → IsPainted area old new → area.prot ≤ 15 → get_or old place 0 ≤ 15 → get_or new place 0 ≤ 15
valid_painted area old new place painted prot h =
    elim (cases_cond _ _ _ _ (painted.code place)) [ inl e ↦ rw e prot | inr e ↦ rw e h ]

named_later : (area : Area) (areas : List Area) (page : ℕ) → is_protection area.prot ≡ true → prot_of areas page ≢ Some 1 → prot_of (area ∷ areas) page ≢ Some 1
named_later area areas page prot named =
    elim (cases_Bool (has_page area page)) [
      | inl here ↦ λ h. protection_named area.prot prot (same_Some _ _ (sym (prot_here area areas page here) ∙ h))
      | inr later ↦ λ h. named (sym (prot_later area areas page later) ∙ h)
    ]

pub maps_painted : (area : Area) (areas : List Area) (old new : List ℕ) → is_placed area ≡ true → is_protection area.prot ≡ true → length new ≡ 69632 → IsPainted area old new → Maps old areas → Maps new (area ∷ areas)
maps_painted area areas old new placed prot size painted maps = record {
  size = size;
  code = λ page place s. code_painted area areas old new page place placed painted s (maps.code page place s);
  outside = λ page s. prot_later area areas page (no_slot area page placed s) ∙ maps.outside page s;
  valid = λ place. valid_painted area old new place painted (protection_small area.prot prot) (maps.valid place);
  named = λ page. named_later area areas page prot (maps.named page);
}

-- the table of the areas from a place on, from that of those behind it
pub maps_more : (areas : List Area) (i : ℕ) (area : Area) (old new : List ℕ) → 0 < i → i ≤ length areas → area ≡ get_or areas (i - 1) area → IsSpace areas → length new ≡ 69632 → IsPainted area old new → Maps old (drop i areas) → Maps new (drop (i - 1) areas)
maps_more areas zero area old new some below is space size painted maps = absurd (omega arith)
maps_more areas (suc i) area old new some below is space size painted maps =
    let e : suc i - 1 ≡ i = omega arith in
    let is' : area ≡ get_or areas i area = rw e at is in
    let lt : i < length areas = omega arith in
    let fits = fits_here areas i area space (slice_get_read areas (length areas) i area refl lt is') in
    let parts : drop i areas ≡ area ∷ drop (suc i) areas = drop-cons areas i area lt ∙ ap (λ a. a ∷ drop (suc i) areas) (sym is') in
    rw (e, parts) (maps_painted area (drop (suc i) areas) old new fits.placed fits.prot size painted maps)

-- what a write through the whole of a vector leaves
pub written_back : (len : ℕ) (xs ys : List ℕ) → length xs ≡ len → take len (xs ++ ys) ≡ xs
written_back len xs ys e = rw (← e) (take-append_seam xs ys)

-- an area's places are in the table
pub painted_end : (area : Area) (from : ℕ) → is_placed area ≡ true → from ≡ place_of area.first → from + area.pages ≤ 69632
painted_end area from placed e =
    let some = placed_some area placed in
    let low = placed_low area placed in
    let high = placed_high area placed in
    let end = placed_end area placed in
    grind (arith, nat_tests)
