-- A space's blocks are numbered below its number of pages.
use Rattle.std.proofs.Common.{◌≡◌, ◌<◌, ℕ, ◌+◌, ◌-◌, List, [], ◌∷◌, Option, Some, None, length, drop, get_or, refl, sym, ap, ◌∙◌, arith, inl, inr, add-one}
use Rattle.std.specs.Prelude.{unwrap_or}
use Rattle.std.specs.Option.{option_map}
use Rattle.std.proofs.Math.Seq.{drop-cons}
use Rattle.std.proofs.lemmas.Bool.{cases_Bool}
use Rattle.std.proofs.lemmas.List.{length-drop}
use Rattle.vax_space.specs.declared.Area.{Area}
use Rattle.vax_space.specs.Areas.{block_of, has_page, is_writable}
use Rattle.vax_space.specs.Faults.{IsSpace, end_before}
use Rattle.vax_space.proofs.Blocks.{block_here, block_later, block_none, block_skipped}
use Rattle.vax_space.proofs.Extents.{has_first, has_last, reach, reach_at}

some_is : (x y : ℕ) → Some x ≡ Some y → x ≡ y
some_is x y e = ap (λ o. unwrap_or o x) e

none_some : {A : Type 0} (n : ℕ) → None ≡ Some n → A
none_some n e = absurd (cc)

-- the rank in the areas behind one
later : (pages n bound : ℕ) (o : Option ℕ) → option_map (λ m. pages + m) o ≡ Some n → ((m : ℕ) → o ≡ Some m → bound + pages + m < 69632) → bound + n < 69632
later pages n bound None e h = none_some n e
later pages n bound (Some m) e h = omega (arith, some_is (pages + m) n e, h m refl)

few_from : (all areas : List Area) (k page n : ℕ) → IsSpace all → drop k all ≡ areas → block_of areas page ≡ Some n → reach (end_before all k) + n < 69632
few_from all [] k page n space e b = none_some n (sym (block_none page) ∙ b)
few_from all (area ∷ areas) k page n space e b =
    let within : k < length all = omega (arith, length-drop k all, ap length e) in
    let split : get_or all k area ∷ drop (k + 1) all ≡ area ∷ areas = rw add-one (sym (drop-cons all k area within) ∙ e) in
    let here : area ≡ get_or all k area = cc in
    let rest : drop (k + 1) all ≡ areas = cc in
    let r = reach_at all k area space within here in
    elim (cases_Bool (is_writable area)) [
      | inl so ↦ elim (cases_Bool (has_page area page)) [
        | inl has ↦
            let is : page - area.first ≡ n = some_is _ _ (sym (block_here area areas page so has) ∙ b) in
            let first = has_first area page has in
            let last = has_last area page has in
            omega (arith, is, first, last, r.more, r.end)
        | inr not_there ↦ later area.pages n (reach (end_before all k)) (block_of areas page) (sym (block_later area areas page so not_there) ∙ b)
            (λ m is. let more = few_from all areas (k + 1) page m space rest is in omega (arith, more, r.more))
      ]
      | inr not_so ↦ let more = few_from all areas (k + 1) page n space rest (sym (block_skipped area areas page not_so) ∙ b) in omega (arith, more, r.more)
    ]

pub few_blocks : (areas : List Area) (page n : ℕ) → IsSpace areas → block_of areas page ≡ Some n → n < 69632
few_blocks areas page n space b = let more = few_from areas areas 0 page n space refl b in omega (arith, more)
