-- The pages that a step touches, in order, from the pages for which attempts at it stop.
use Rattle.std.proofs.Common.{◌≡◌, ◌⊎◌, inl, inr, ℕ, zero, suc, Bool, true, false, Option, Some, None, List, [], ◌∷◌, ◌++◌, refl, sym, ap, ◌∙◌, if◌then◌else◌, ◌==◌, arith}
use Rattle.std.proofs.lemmas.Bool.{cases_Bool}
use Rattle.std.proofs.Math.Path.{fun_ext}
use Rattle.vax_space.specs.Reference.{page_of}
use Rattle.vax_flat.specs.Memory.{after}
use Rattle.vax_flat.specs.Outcome.{Range, first_missing, or_else}
use Rattle.vax_flat.specs.Port.{first_absent}
use Rattle.vax_vectors.specs.Truth.{first_out, is_among}

abbrev pub Covers : (ℕ → Bool) → (ℕ → Bool) → Type 0
Covers more few = (page : ℕ) → few page ≡ true → more page ≡ true

-- where more pages are resident, a range whose first absent page still is has the same one
absent_more : (few more : ℕ → Bool) (addr len page : ℕ) → Covers more few → first_absent few addr len ≡ Some page → more page ≡ false → first_absent more addr len ≡ Some page
unfolding first_absent
absent_more few more addr zero page covers e out = absurd (cc)
absent_more few more addr (suc len) page covers e out =
    elim (cases_Bool (few (page_of addr))) [
      | inl here ↦
          let rest : first_absent few (after addr) len ≡ Some page = rw here at e in
          let there = covers (page_of addr) here in
          rw there (absent_more few more (after addr) len page covers rest out)
      | inr gone ↦
          let is : Some (page_of addr) ≡ Some page = rw gone at e in
          let same : page_of addr ≡ page = cc in
          let there : more (page_of addr) ≡ false = ap more same ∙ out in
          rw there is
    ]

absent_none : (few more : ℕ → Bool) (addr len : ℕ) → Covers more few → first_absent few addr len ≡ None → first_absent more addr len ≡ None
unfolding first_absent
absent_none few more addr zero covers e = refl
absent_none few more addr (suc len) covers e =
    elim (cases_Bool (few (page_of addr))) [
      | inl here ↦
          let rest : first_absent few (after addr) len ≡ None = rw here at e in
          let there = covers (page_of addr) here in
          rw there (absent_none few more (after addr) len covers rest)
      | inr gone ↦
          let is : Some (page_of addr) ≡ None = rw gone at e in
          absurd (cc)
    ]

either : (a b : Option ℕ) (page : ℕ) → or_else a b ≡ Some page → (a ≡ Some page) ⊎ ((a ≡ None) × (b ≡ Some page))
either (Some p) b page e = inl e
either None b page e = inr (refl, e)

neither : (a b : Option ℕ) → or_else a b ≡ None → (a ≡ None) × (b ≡ None)
neither (Some p) b e = absurd (cc)
neither None b e = (refl, e)

missing_more : (few more : ℕ → Bool) (ranges : List Range) (page : ℕ) → Covers more few → first_missing few ranges ≡ Some page → more page ≡ false → first_missing more ranges ≡ Some page
unfolding first_missing
missing_more few more [] page covers e out = absurd (cc)
missing_more few more (r ∷ rs) page covers e out =
    elim (either (first_absent few r.addr r.len) (first_missing few rs) page e) [
      | inl here ↦ ap (λ (o : Option ℕ). or_else o (first_missing more rs)) (absent_more few more r.addr r.len page covers here out)
      | inr later ↦
          ap (λ (o : Option ℕ). or_else o (first_missing more rs)) (absent_none few more r.addr r.len covers later.0)
          ∙ missing_more few more rs page covers later.1 out
    ]

missing_none : (few more : ℕ → Bool) (ranges : List Range) → Covers more few → first_missing few ranges ≡ None → first_missing more ranges ≡ None
unfolding first_missing
missing_none few more [] covers e = refl
missing_none few more (r ∷ rs) covers e =
    let both = neither (first_absent few r.addr r.len) (first_missing few rs) e in
    ap (λ (o : Option ℕ). or_else o (first_missing more rs)) (absent_none few more r.addr r.len covers both.0)
    ∙ missing_none few more rs covers both.1

-- the pages found so far come in order, and are the first for which a step stops
pub record IsBegun (ranges : List Range) (pages : List ℕ) : Type 0 where
  pub stops : (resident : ℕ → Bool) (page : ℕ) → first_out resident pages ≡ Some page → first_missing resident ranges ≡ Some page

pub begun_none : (ranges : List Range) → IsBegun ranges []
unfolding first_out
begun_none ranges = record { stops = λ resident page e. absurd (cc) }

-- where all of these pages are resident
covered : (resident : ℕ → Bool) (pages : List ℕ) → first_out resident pages ≡ None → Covers resident (is_among pages)
unfolding first_out is_among
covered resident [] e page h = absurd (cc)
covered resident (p ∷ ps) e page h =
    elim (cases_Bool (resident p)) [
      | inl here ↦
          let rest : first_out resident ps ≡ None = rw here at e in
          elim (cases_Bool (page == p)) [
            | inl same ↦ let is : page ≡ p = grind (arith, same) in ap resident is ∙ here
            | inr other ↦ let inside : is_among ps page ≡ true = rw other at h in covered resident ps rest page inside
          ]
      | inr gone ↦ let wrong : Some p ≡ None = rw gone at e in absurd (cc)
    ]

last_out : (resident : ℕ → Bool) (pages : List ℕ) (p page : ℕ) → first_out resident (pages ++ p ∷ []) ≡ Some page
    → (first_out resident pages ≡ Some page) ⊎ ((first_out resident pages ≡ None) × (p ≡ page) × (resident page ≡ false))
unfolding first_out
last_out resident [] p page e =
    elim (cases_Bool (resident p)) [
      | inl here ↦ let wrong : None ≡ Some page = rw here at e in absurd (cc)
      | inr gone ↦ let is : Some p ≡ Some page = rw gone at e in let same : p ≡ page = cc in inr (refl, same, ap resident (sym same) ∙ gone)
    ]
last_out resident (q ∷ qs) p page e =
    elim (cases_Bool (resident q)) [
      | inl here ↦ let rest : first_out resident (qs ++ p ∷ []) ≡ Some page = rw here at e in rw here (last_out resident qs p page rest)
      | inr gone ↦ let is : Some q ≡ Some page = rw gone at e in inl (rw gone is)
    ]

-- one page more
pub begun_more : (ranges : List Range) (pages : List ℕ) (p : ℕ) → IsBegun ranges pages → first_missing (is_among pages) ranges ≡ Some p → IsBegun ranges (pages ++ p ∷ [])
begun_more ranges pages p begun e = record {
  stops = λ resident page out. elim (last_out resident pages p page out) [
    | inl before ↦ begun.stops resident page before
    | inr here ↦
        missing_more (is_among pages) resident ranges page (covered resident pages here.0) (e ∙ ap (λ (x : ℕ). Some x) here.1) here.2
  ];
}

-- these are all
pub begun_all : (ranges : List Range) (pages : List ℕ) → IsBegun ranges pages → first_missing (is_among pages) ranges ≡ None → (resident : ℕ → Bool) → first_missing resident ranges ≡ first_out resident pages
begun_all ranges pages begun e resident = by (first_out resident pages) refl
  where
    by : (o : Option ℕ) → first_out resident pages ≡ o → first_missing resident ranges ≡ first_out resident pages
    by (Some page) is = begun.stops resident page is ∙ sym is
    by None is = missing_none (is_among pages) resident ranges (covered resident pages is) e ∙ sym is

swap : (a b r : Bool) → (if a then true else (if b then true else r)) ≡ (if b then true else (if a then true else r))
swap true true r = refl
swap true false r = refl
swap false true r = refl
swap false false r = refl

among-last : (p : ℕ) (ps : List ℕ) (page : ℕ) → is_among (ps ++ p ∷ []) page ≡ (if page == p then true else is_among ps page)
unfolding is_among
among-last p [] page = refl
among-last p (q ∷ qs) page = ap (λ (r : Bool). if page == q then true else r) (among-last p qs page) ∙ swap (page == q) (page == p) (is_among qs page)

-- a page more is resident
pub among-push : (pages : List ℕ) (p : ℕ) → is_among (pages ++ p ∷ []) ≡ (λ page. if page == p then true else is_among pages page)
among-push pages p = fun_ext (among-last p pages)
