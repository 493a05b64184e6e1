-- Where the entries lie: the translation through the system page table finds a page's own place.
use Rattle.std.proofs.Common.{◌≡◌, ℕ, ◌+◌, ◌-◌, ◌*◌, ◌/◌, ◌%◌, ◌<◌, ◌≤◌, ◌^◌, true, false, refl, ◌∙◌, ap, sym, arith, nat_lt, nat_le, inl, inr, ◌⊎◌, List, Some, None}
use Rattle.std.proofs.lemmas.Bool.{cases_lt, ltb-true, leb-true}
use Rattle.std.proofs.lemmas.Bool.Decides.{nat_tests}
use Rattle.std.proofs.lemmas.Option.{cond_some}
use Rattle.vax_table.specs.Entry.{entry_at, frame_in}
use Rattle.vax_table.specs.Layout.{wired_frame, p0_base, p1_base, physical, p0_tables, p1_first, p1_place, total, place_of, frame_at, table_entry, table_page}
use Rattle.vax_table.proofs.Entries.{frame_made}

-- an address in the page of a table that lies in a frame of the wired memory
translated : (bytes : List ℕ) (address page frame : ℕ) → (address - 2 ^ 31) / 512 ≡ page → entry_at bytes page ≡ table_entry (wired_frame + frame) → frame < 2 ^ 20 → (physical bytes address - 512 * wired_frame) / 4 ≡ 128 * frame + address % 512 / 4
translated bytes address page frame at entry small =
    let made : frame_in (entry_at bytes page) ≡ wired_frame + frame = ap frame_in entry ∙ frame_made true 1 false (wired_frame + frame) (omega arith) in
    rw (at, made) (omega arith)

table_p0 : (p0 p1 n : ℕ) → n < 256 → n < p0_tables p0 → table_page p0 p1 n ≡ table_entry (wired_frame + (36 + n))
unfolding table_page
table_p0 p0 p1 n low there =
    let t : nat_lt n 256 ≡ true = grind (arith, nat_tests) in
    let u : nat_lt n (p0_tables p0) ≡ true = grind (arith, nat_tests) in
    let e : frame_at (4608 + 128 * n) ≡ wired_frame + (36 + n) = omega arith in
    rw (t, u, e) refl

table_p1 : (p0 p1 n : ℕ) → p1_first p1 ≤ 0x3F8000 + 128 * n → table_page p0 p1 (256 + n) ≡ table_entry (wired_frame + (p1_place p0 + (0x3F8000 + 128 * n - p1_first p1)) / 128)
unfolding table_page
table_p1 p0 p1 n there =
    let t : nat_lt (256 + n) 256 ≡ false = grind (arith, nat_tests) in
    let e : 256 + n - 256 ≡ n = omega arith in
    let u : nat_le (p1_first p1) (0x3F8000 + 128 * n) ≡ true = grind (arith, nat_tests) in
    rw (t, e, u) refl

pub found_p0 : (bytes : List ℕ) (p0 p1 page : ℕ) → p0 ≤ 0x8000 → ((n : ℕ) → n < 512 → entry_at bytes (4096 + n) ≡ table_page p0 p1 n) → page < p0 → (physical bytes (p0_base + 4 * page) - 512 * wired_frame) / 4 ≡ 4608 + page
found_p0 bytes p0 p1 page high tables below =
    let n : ℕ = page / 128 in
    let at : (p0_base + 4 * page - 2 ^ 31) / 512 ≡ 4096 + page / 128 = omega arith in
    let entry = tables (page / 128) (omega arith) ∙ table_p0 p0 p1 (page / 128) (omega arith) (omega arith) in
    translated bytes (p0_base + 4 * page) (4096 + page / 128) (36 + page / 128) at entry (omega arith) ∙ omega arith

p1_at : (p0 p1 page : ℕ) → 0x3F8000 ≤ p1 → p1 ≤ page → 128 * ((p1_place p0 + (0x3F8000 + 128 * ((page - 0x3F8000) / 128) - p1_first p1)) / 128) + (p1_base + 4 * (page - 0x200000)) % 512 / 4 ≡ p1_place p0 + (page - p1_first p1)
p1_at p0 p1 page low there = omega arith

pub found_p1 : (bytes : List ℕ) (p0 p1 page : ℕ) → p0 ≤ 0x8000 → 0x3F8000 ≤ p1 → ((n : ℕ) → n < 512 → entry_at bytes (4096 + n) ≡ table_page p0 p1 n) → p1 ≤ page → page < 0x400000 → (physical bytes (p1_base + 4 * (page - 0x200000)) - 512 * wired_frame) / 4 ≡ p1_place p0 + (page - p1_first p1)
found_p1 bytes p0 p1 page high low tables there below =
    let at : (p1_base + 4 * (page - 0x200000) - 2 ^ 31) / 512 ≡ 4096 + (256 + (page - 0x3F8000) / 128) = omega arith in
    let entry = tables (256 + (page - 0x3F8000) / 128) (omega arith) ∙ table_p1 p0 p1 ((page - 0x3F8000) / 128) (omega arith) in
    translated bytes (p1_base + 4 * (page - 0x200000)) (4096 + (256 + (page - 0x3F8000) / 128)) ((p1_place p0 + (0x3F8000 + 128 * ((page - 0x3F8000) / 128) - p1_first p1)) / 128) at entry (omega arith)
    ∙ p1_at p0 p1 page low there

-- each page's place, region by region
pub place_p0 : (p0 p1 page : ℕ) → page < 0x200000 → page < p0 → place_of p0 p1 page ≡ Some (4608 + page)
unfolding place_of
place_p0 p0 p1 page low within =
    let t : nat_lt page 0x200000 ≡ true = grind (arith, nat_tests) in
    let u : nat_lt page p0 ≡ true = grind (arith, nat_tests) in
    rw (t, u) refl

pub place_p0_past : (p0 p1 page : ℕ) → page < 0x200000 → p0 ≤ page → place_of p0 p1 page ≡ None
unfolding place_of
place_p0_past p0 p1 page low past =
    let t : nat_lt page 0x200000 ≡ true = grind (arith, nat_tests) in
    let u : nat_lt page p0 ≡ false = grind (arith, nat_tests) in
    rw (t, u) refl

pub place_p1 : (p0 p1 page : ℕ) → 0x200000 ≤ page → page < 0x400000 → p1 ≤ page → place_of p0 p1 page ≡ Some (p1_place p0 + (page - p1_first p1))
unfolding place_of
place_p1 p0 p1 page low high within =
    let t : nat_lt page 0x200000 ≡ false = grind (arith, nat_tests) in
    let u : nat_lt page 0x400000 ≡ true = grind (arith, nat_tests) in
    let w : nat_le p1 page ≡ true = grind (arith, nat_tests) in
    rw (t, u, w) refl

pub place_p1_past : (p0 p1 page : ℕ) → 0x200000 ≤ page → page < 0x400000 → page < p1 → place_of p0 p1 page ≡ None
unfolding place_of
place_p1_past p0 p1 page low high past =
    let t : nat_lt page 0x200000 ≡ false = grind (arith, nat_tests) in
    let u : nat_lt page 0x400000 ≡ true = grind (arith, nat_tests) in
    let w : nat_le p1 page ≡ false = grind (arith, nat_tests) in
    rw (t, u, w) refl

pub place_system : (p0 p1 page : ℕ) → 0x400000 ≤ page → page < 0x401200 → place_of p0 p1 page ≡ Some (page - 0x400000)
unfolding place_of
place_system p0 p1 page low high =
    let t : nat_lt page 0x200000 ≡ false = grind (arith, nat_tests) in
    let u : nat_lt page 0x400000 ≡ false = grind (arith, nat_tests) in
    let w : nat_lt page 0x401200 ≡ true = grind (arith, nat_tests) in
    rw (t, u, w) refl

pub place_past : (p0 p1 page : ℕ) → 0x401200 ≤ page → place_of p0 p1 page ≡ None
unfolding place_of
place_past p0 p1 page past =
    let t : nat_lt page 0x200000 ≡ false = grind (arith, nat_tests) in
    let u : nat_lt page 0x400000 ≡ false = grind (arith, nat_tests) in
    let w : nat_lt page 0x401200 ≡ false = grind (arith, nat_tests) in
    rw (t, u, w) refl

-- the three ways in which a page has a place
pub record InP0 (p0 page place : ℕ) : Type 0 where
  pub within : page < p0
  pub is : place ≡ 4608 + page

pub record InP1 (p0 p1 page place : ℕ) : Type 0 where
  pub low : p1 ≤ page
  pub high : page < 0x400000
  pub is : place ≡ p1_place p0 + (page - p1_first p1)

pub record InSystem (page place : ℕ) : Type 0 where
  pub low : 0x400000 ≤ page
  pub high : page < 0x401200
  pub is : page ≡ 0x400000 + place

pub place_cases : (p0 p1 page place : ℕ) → place_of p0 p1 page ≡ Some place → InP0 p0 page place ⊎ (InP1 p0 p1 page place ⊎ InSystem page place)
unfolding place_of
place_cases p0 p1 page place h = elim (cases_lt page 0x200000) [
  | inl first ↦
      let t : nat_lt page 0x200000 ≡ true = grind (arith, nat_tests) in
      let found = cond_some (nat_lt page p0) (4608 + page) place (rw t at h) in
      inl (record { within = ltb-true _ _ found.0; is = sym found.1 })
  | inr later ↦
      let t : nat_lt page 0x200000 ≡ false = grind (arith, nat_tests) in
      elim (cases_lt page 0x400000) [
        | inl second ↦
            let u : nat_lt page 0x400000 ≡ true = grind (arith, nat_tests) in
            let found = cond_some (nat_le p1 page) (p1_place p0 + (page - p1_first p1)) place (rw (t, u) at h) in
            inr (inl (record { low = leb-true _ _ found.0; high = second; is = sym found.1 }))
        | inr third ↦
            let u : nat_lt page 0x400000 ≡ false = grind (arith, nat_tests) in
            let found = cond_some (nat_lt page 0x401200) (page - 0x400000) place (rw (t, u) at h) in
            let low = found.1 in
            inr (inr (record { low = third; high = ltb-true _ _ found.0; is = omega arith }))
      ]
]

-- where a place is within the tables, and what pages have it
pub place_within : (p0 p1 page place : ℕ) → p0 ≤ 0x8000 → 0x3F8000 ≤ p1 → place_of p0 p1 page ≡ Some place → place < total p0 p1
place_within p0 p1 page place high low h = elim (place_cases p0 p1 page place h) [
  | inl a ↦ omega (arith, a.within, a.is)
  | inr r ↦ elim r [ inl b ↦ omega (arith, b.low, b.high, b.is) | inr c ↦ omega (arith, c.low, c.high, c.is) ]
]

pub InP0_apart : (p0 p1 page place q : ℕ) → p0 ≤ 0x8000 → InP0 p0 page place → place_of p0 p1 q ≡ Some place → q ≡ page
InP0_apart p0 p1 page place q high a h = elim (place_cases p0 p1 q place h) [
  | inl d ↦ omega (arith, a.within, a.is, d.within, d.is)
  | inr r ↦ elim r [ inl d ↦ absurd (omega (arith, a.within, a.is, d.low, d.high, d.is)) | inr d ↦ absurd (omega (arith, a.within, a.is, d.low, d.high, d.is)) ]
]

pub InP1_apart : (p0 p1 page place q : ℕ) → p0 ≤ 0x8000 → InP1 p0 p1 page place → place_of p0 p1 q ≡ Some place → q ≡ page
InP1_apart p0 p1 page place q high a h = elim (place_cases p0 p1 q place h) [
  | inl d ↦ absurd (omega (arith, a.low, a.high, a.is, d.within, d.is))
  | inr r ↦ elim r [ inl d ↦ omega (arith, a.low, a.high, a.is, d.low, d.high, d.is) | inr d ↦ absurd (omega (arith, a.low, a.high, a.is, d.low, d.high, d.is)) ]
]

pub InSystem_apart : (p0 p1 page place q : ℕ) → InSystem page place → place_of p0 p1 q ≡ Some place → q ≡ page
InSystem_apart p0 p1 page place q a h = elim (place_cases p0 p1 q place h) [
  | inl d ↦ absurd (omega (arith, a.low, a.high, a.is, d.within, d.is))
  | inr r ↦ elim r [ inl d ↦ absurd (omega (arith, a.low, a.high, a.is, d.low, d.high, d.is)) | inr d ↦ omega (arith, a.low, a.high, a.is, d.low, d.high, d.is) ]
]

-- no two pages have one place
pub place_apart : (p0 p1 page place q : ℕ) → p0 ≤ 0x8000 → place_of p0 p1 page ≡ Some place → place_of p0 p1 q ≡ Some place → q ≡ page
place_apart p0 p1 page place q high h = elim (place_cases p0 p1 page place h) [
  | inl a ↦ InP0_apart p0 p1 page place q high a
  | inr r ↦ elim r [ inl b ↦ InP1_apart p0 p1 page place q high b | inr c ↦ InSystem_apart p0 p1 page place q c ]
]

pub bytes_within : (p0 p1 page place size : ℕ) → p0 ≤ 0x8000 → 0x3F8000 ≤ p1 → size ≡ 4 * total p0 p1 → place_of p0 p1 page ≡ Some place → 4 * place + 4 ≤ size
bytes_within p0 p1 page place size high low e h = omega (arith, place_within p0 p1 page place high low h)
