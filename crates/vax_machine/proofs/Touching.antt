-- Which pages an attempt touches, and that few are pinned.
use Rattle.std.proofs.Common.{ℕ, zero, suc, ◌≡◌, ◌^◌, ◌<◌, ◌≤◌, Bool, true, false, ◌==◌, List, [], ◌∷◌, length, refl, ap, sym, ◌∙◌, subst, arith, inl, inr, Option, Some, None}
use Rattle.std.specs.Prelude.{◌||◌, is_some}
use Rattle.std.specs.Option.{option_map}
use Rattle.std.proofs.lemmas.Bool.{cases_Bool, cases_eq, cases_lt, eq-eqb, ne_eqb}
use Rattle.vax_space.specs.declared.Area.{Area}
use Rattle.vax_space.specs.Areas.{area_of, prot_of}
use Rattle.vax_space.specs.Faults.{IsSpace}
use Rattle.vax_space.specs.Reference.{page_of}
use Rattle.vax_space.proofs.PastRegions.{tables_have_none}
use Rattle.vax_space.proofs.References.{after_more}
use Rattle.vax_flat.specs.Bound as bound
use Rattle.vax_flat.specs.Bound.{AreOn, IsOneOf}
use Rattle.vax_flat.specs.Memory.{after}
use Rattle.vax_flat.specs.Outcome.{Range, first_missing, or_else}
use Rattle.vax_flat.specs.Parts.{Place, touches_at}
use Rattle.vax_flat.specs.Port.{first_absent, is_in}
use Rattle.vax_flat.proofs.Attempts.{attempt_is_few}
use Rattle.vax_pager.specs.Listing.{AreOnce, is_listed}
use Rattle.vax_machine.proofs.Lists.{fits}
use Rattle.vax_machine.specs.Residence.{Residence, is_resident}
use Rattle.vax_machine.specs.Touched.{PinsTouched, is_touched}

or_true : (b : Bool) → (b || true) ≡ true
or_true true = refl
or_true false = refl

-- the page that is missed first is touched, and absent

absent_in : (resident : ℕ → Bool) (addr len page : ℕ) → first_absent resident addr len ≡ Some page → (is_in addr len page ≡ true) × (resident page ≡ false)
unfolding first_absent is_in
absent_in resident addr zero page e = cc
absent_in resident addr (suc len) page e = elim (cases_Bool (resident (page_of addr))) [
  | inl t ↦
      let r = absent_in resident (after addr) len page (rw t at e) in
      (rw r.0 (or_true (page == page_of addr)), r.1)
  | inr f ↦
      let k : Some (page_of addr) ≡ Some page = rw f at e in
      let q : page_of addr ≡ page = cc in
      (rw (eq-eqb page (page_of addr) (sym q)) refl, ap resident (sym q) ∙ f)
]

missed_step : (resident : ℕ → Bool) (range : Range) (ranges : List Range) (page : ℕ) (here : Option ℕ) → first_absent resident range.addr range.len ≡ here → or_else here (first_missing resident ranges) ≡ Some page → (first_missing resident ranges ≡ Some page → (is_touched page ranges ≡ true) × (resident page ≡ false)) → ((is_in range.addr range.len page || is_touched page ranges) ≡ true) × (resident page ≡ false)
missed_step resident range ranges page (Some other) a e more =
    let same : other ≡ page = cc in
    let r = absent_in resident range.addr range.len page (a ∙ ap (λ (z : ℕ). Some z) same) in
    (rw r.0 refl, r.1)
missed_step resident range ranges page None a e more =
    let r = more e in
    (rw r.0 (or_true (is_in range.addr range.len page)), r.1)

pub missed : (resident : ℕ → Bool) (ranges : List Range) (page : ℕ) → first_missing resident ranges ≡ Some page → (is_touched page ranges ≡ true) × (resident page ≡ false)
unfolding first_missing is_touched
missed resident [] page e = cc
missed resident (range ∷ ranges) page e =
    missed_step resident range ranges page (first_absent resident range.addr range.len) refl e (λ r. missed resident ranges page r)

-- a page that is touched is one of the few

shifted : (addr k : ℕ) → bound.place (after addr) k ≡ bound.place addr (suc k)
shifted addr zero = refl
shifted addr (suc k) = after_more addr (suc k)

record IsByte (addr len page : ℕ) : Type 0 where
  pub count : ℕ
  pub within : count < len
  pub is : page ≡ page_of (bound.place addr count)

in_range : (addr len page : ℕ) → is_in addr len page ≡ true → IsByte addr len page
unfolding is_in
in_range addr zero page h = cc
in_range addr (suc len) page h = elim (cases_eq page (page_of addr)) [
  | inl e ↦ record { count = 0; within = omega arith; is = e }
  | inr o ↦
      let r = in_range (after addr) len page (rw (ne_eqb page (page_of addr) o) at h) in
      record { count = suc r.count; within = let low = r.within in omega (arith, low); is = r.is ∙ ap page_of (shifted addr r.count) }
]

one_of : (pages : List ℕ) (page : ℕ) → IsOneOf pages page → is_listed page pages ≡ true
unfolding is_listed
one_of [] page h = absurd h
one_of (p ∷ pages) page (inl e) = rw (eq-eqb p page (sym e)) refl
one_of (p ∷ pages) page (inr h) = rw (one_of pages page h) (or_true (p == page))

touched_step : (pages : List ℕ) (range : Range) (page : ℕ) → ((k : ℕ) → k < range.len → page_of (bound.place range.addr k) < 2 ^ 23 → IsOneOf pages (page_of (bound.place range.addr k))) → page < 2 ^ 23 → is_in range.addr range.len page ≡ true → is_listed page pages ≡ true
touched_step pages range page on low h =
    let r = in_range range.addr range.len page h in
    ap (λ (z : ℕ). is_listed z pages) r.is ∙ one_of pages (page_of (bound.place range.addr r.count)) (on r.count r.within (subst (λ (z : ℕ). z < 2 ^ 23) r.is low))

touched_on : (pages : List ℕ) (ranges : List Range) (page : ℕ) → AreOn pages ranges → page < 2 ^ 23 → is_touched page ranges ≡ true → is_listed page pages ≡ true
unfolding is_touched
touched_on pages [] page on low h = cc
touched_on pages (range ∷ ranges) page on low h = elim (cases_Bool (is_in range.addr range.len page)) [
  | inl here ↦ touched_step pages range page on.0 low here
  | inr other ↦ touched_on pages ranges page on.1 low (rw other at h)
]

-- a page of an area has a number of 23 bits

some_prot : (area : Option Area) → is_some area ≡ true → option_map (λ a. a.prot) area ≡ None → ⊥
some_prot (Some area) h e = cc
some_prot None h e = cc

pub page_small : (areas : List Area) (page : ℕ) → IsSpace areas → is_some (area_of areas page) ≡ true → page < 2 ^ 23
unfolding prot_of
page_small areas page space h = elim (cases_lt page 0x401000) [
  | inl low ↦ omega (arith, low)
  | inr high ↦ absurd (some_prot (area_of areas page) h (tables_have_none areas page space (omega (arith, high))))
]

-- where the attempt that comes touches each page that is pinned, and misses one, fewer than 40 are pinned
pub fewer_pins : (r : Residence) (place : Place) (page : ℕ) → AreOnce r.pinned → ((p : ℕ) → is_listed p r.pinned ≡ true → is_listed p r.order ≡ true) → ((p : ℕ) → is_listed p r.order ≡ true → p < 2 ^ 23) → page < 2 ^ 23 → PinsTouched r place → first_missing (is_resident r) (touches_at place) ≡ Some page → length r.pinned < 40
unfolding AreOnce is_listed
fewer_pins r place page once resident small low pins e =
    let few = attempt_is_few place in
    let m = missed (is_resident r) (touches_at place) page e in
    let away : is_listed page r.pinned ≡ false = elim (cases_Bool (is_listed page r.pinned)) [
      | inl t ↦ let no : false ≡ true = sym m.1 ∙ resident page t in cc
      | inr f ↦ f
    ] in
    let count = fits (page ∷ r.pinned) few.pages (away, once) (λ p h. elim (cases_eq page p) [
      | inl same ↦ ap (λ (z : ℕ). is_listed z few.pages) (sym same) ∙ touched_on few.pages (touches_at place) page few.on low m.0
      | inr o ↦
          let there : is_listed p r.pinned ≡ true = rw (ne_eqb page p o) at h in
          touched_on few.pages (touches_at place) p few.on (small p (resident p there)) (pins.touched p there)
    ]) in
    let most = few.few_pages in
    omega (arith, count, most)

-- where the attempt that comes touches each page that is pinned, at most 40 are
pub few_pins : (r : Residence) (place : Place) → AreOnce r.pinned → ((p : ℕ) → is_listed p r.pinned ≡ true → is_listed p r.order ≡ true) → ((p : ℕ) → is_listed p r.order ≡ true → p < 2 ^ 23) → PinsTouched r place → length r.pinned ≤ 40
few_pins r place once resident small pins =
    let few = attempt_is_few place in
    let count = fits r.pinned few.pages once (λ p h. touched_on few.pages (touches_at place) p few.on (small p (resident p h)) (pins.touched p h)) in
    let most = few.few_pages in
    omega (arith, count, most)
