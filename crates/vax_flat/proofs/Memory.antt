-- What is written to the flat memory.
use Rattle.std.proofs.Common.{◌≡◌, ℕ, suc, zero, ◌+◌, ◌-◌, ◌*◌, ◌/◌, ◌%◌, ◌<◌, ◌≤◌, true, cond, eqb, Some, None, List, [], ◌∷◌, length, refl, sym, ap, ◌∙◌, arith, inl, inr, leb, ltb, length-set}
use Rattle.std.proofs.lemmas.Bool.{cases_Bool, eq-eqb, ne_eqb, cases_eq, true≢false, and_parts, leb-true, ltb-true}
use Rattle.std.proofs.lemmas.List.{get_or-set_same, get_or-set_other}
use Rattle.vax_space.specs.declared.Access.{Access}
use Rattle.vax_space.specs.declared.Area.{Area}
use Rattle.vax_space.specs.Areas.{has_page, area_of, prot_of}
use Rattle.vax_space.specs.Reference.{page_of, may_access, permitted, violation, violation_at}
use Rattle.vax_flat.specs.Memory.{after, byte_at, with_byte, written, written_run, is_mapped, IsWhole}
use Rattle.vax_flat.specs.Port.{layout, put, put_run}

pub place_within : (area : Area) (addr : ℕ) → has_page area (page_of addr) ≡ true → (512 * area.first ≤ addr) × (addr - 512 * area.first < 512 * area.pages)
unfolding has_page
place_within area addr h =
    let p = and_parts (leb area.first (addr / 512)) (ltb (addr / 512) (area.first + area.pages)) h in
    let low : area.first ≤ addr / 512 = leb-true _ _ p.0 in
    let high : addr / 512 < area.first + area.pages = ltb-true _ _ p.1 in
    (omega arith, omega arith)

has_page-bytes : (area : Area) (bytes : List ℕ) (page : ℕ) → has_page (record area { bytes = bytes }) page ≡ has_page area page
unfolding has_page
has_page-bytes area bytes page = refl

-- a write of a byte changes this byte alone
pub byte_at-with_byte : (areas : List Area) (addr byte place : ℕ) → IsWhole areas → is_mapped areas (page_of addr) ≡ true → byte_at (with_byte areas addr byte) place ≡ cond (eqb place addr) byte (byte_at areas place)
unfolding byte_at with_byte IsWhole is_mapped
byte_at-with_byte [] addr byte place w h = cc
byte_at-with_byte (area ∷ areas) addr byte place w h =
    elim (cases_Bool (has_page area (page_of addr))) [
      | inl at ↦
          let pa = place_within area addr at in
          elim (cases_Bool (has_page area (page_of place))) [
            | inl pt ↦
                let pp = place_within area place pt in
                elim (cases_eq place addr) [
                  | inl e ↦ rw (at, has_page-bytes area _ (page_of place), pt, eq-eqb place addr e) (rw e (get_or-set_same area.bytes (addr - 512 * area.first) byte 0 (omega arith)))
                  | inr n ↦ rw (at, has_page-bytes area _ (page_of place), pt, ne_eqb place addr n) (get_or-set_other area.bytes (addr - 512 * area.first) (place - 512 * area.first) byte 0 (λ e. n (omega arith)))
                ]
            | inr pf ↦ rw (at, has_page-bytes area _ (page_of place), pf, ne_eqb place addr (λ e. true≢false (sym at ∙ (ap (λ y. has_page area (page_of y)) (sym e) ∙ pf))))
          ]
      | inr af ↦
          let rest : is_mapped areas (page_of addr) ≡ true = rw af at h in
          elim (cases_Bool (has_page area (page_of place))) [
            | inl pt ↦ rw (af, pt, ne_eqb place addr (λ e. true≢false (sym pt ∙ (ap (λ y. has_page area (page_of y)) e ∙ af))))
            | inr pf ↦ rw (af, pf) (byte_at-with_byte areas addr byte place w.1 rest)
          ]
    ]

pub layout-with_byte : (areas : List Area) (addr byte : ℕ) → layout (with_byte areas addr byte) ≡ layout areas
unfolding layout with_byte
layout-with_byte [] addr byte = refl
layout-with_byte (area ∷ areas) addr byte =
    elim (cases_Bool (has_page area (page_of addr))) [
      | inl at ↦ rw at refl
      | inr af ↦ rw (af, layout-with_byte areas addr byte) refl
    ]

pub whole_with_byte : (areas : List Area) (addr byte : ℕ) → IsWhole areas → IsWhole (with_byte areas addr byte)
unfolding IsWhole with_byte
whole_with_byte [] addr byte w = w
whole_with_byte (area ∷ areas) addr byte w =
    elim (cases_Bool (has_page area (page_of addr))) [
      | inl at ↦ rw at (simp length-set w)
      | inr af ↦ rw af (w.0, whole_with_byte areas addr byte w.1)
    ]

pub is_mapped-layout : (areas : List Area) (page : ℕ) → is_mapped (layout areas) page ≡ is_mapped areas page
unfolding is_mapped layout has_page
is_mapped-layout [] page = refl
is_mapped-layout (area ∷ areas) page = ap (cond (has_page area page) true) (is_mapped-layout areas page)

-- numbers
pub layout-written : (memory : List Area) (addr len value : ℕ) → layout (written memory addr len value) ≡ layout memory
unfolding written
layout-written memory addr zero value = refl
layout-written memory addr (suc len) value = layout-with_byte _ _ _ ∙ layout-written memory (after addr) len (value / 256)

pub whole_written : (memory : List Area) (addr len value : ℕ) → IsWhole memory → IsWhole (written memory addr len value)
unfolding written
whole_written memory addr zero value w = w
whole_written memory addr (suc len) value w = whole_with_byte _ _ _ (whole_written memory (after addr) len (value / 256) w)

-- a page that may be accessed is in an area
pub mapped_where_accessible : (areas : List Area) (page mode : ℕ) (access : Access) → may_access areas page mode access ≡ true → is_mapped areas page ≡ true
unfolding is_mapped may_access prot_of area_of
mapped_where_accessible [] page mode access h = cc
mapped_where_accessible (area ∷ areas) page mode access h =
    elim (cases_Bool (has_page area page)) [
      | inl at ↦ rw at refl
      | inr af ↦ let rest : permitted (prot_of areas page) mode access ≡ true = rw af at h in rw af (mapped_where_accessible areas page mode access rest)
    ]

-- the first byte of an allowed range, and the others
pub allowed_first : (areas : List Area) (addr len mode : ℕ) (access : Access) → violation areas addr (suc len) mode access ≡ None → (may_access areas (page_of addr) mode access ≡ true) × (violation areas (after addr) len mode access ≡ None)
unfolding violation
allowed_first areas addr len mode access h =
    elim (cases_Bool (may_access areas (page_of addr) mode access)) [
      | inl good ↦ let rest : violation areas (after addr) len mode access ≡ None = rw good at h in (good, rest)
      | inr bad ↦ let no : Some (violation_at areas addr access) ≡ None = rw bad at h in cc
    ]

pub is_mapped-written : (memory : List Area) (addr len value page : ℕ) → is_mapped (written memory addr len value) page ≡ is_mapped memory page
is_mapped-written memory addr len value page =
    sym (is_mapped-layout (written memory addr len value) page) ∙ (ap (λ areas. is_mapped areas page) (layout-written memory addr len value) ∙ is_mapped-layout memory page)

mapped_after : (memory : List Area) (addr len value page : ℕ) → is_mapped memory page ≡ true → is_mapped (written memory addr len value) page ≡ true
mapped_after memory addr len value page h =
    sym (is_mapped-layout (written memory addr len value) page) ∙ (ap (λ areas. is_mapped areas page) (layout-written memory addr len value) ∙ (is_mapped-layout memory page ∙ h))

pub byte_at-written : (memory : List Area) (addr len value place mode : ℕ) (access : Access) → IsWhole memory → violation memory addr len mode access ≡ None → byte_at (written memory addr len value) place ≡ put (byte_at memory) addr len value place
unfolding written put
byte_at-written memory addr zero value place mode access w h = refl
byte_at-written memory addr (suc len) value place mode access w h =
    let g = allowed_first memory addr len mode access h in
    let rest = written memory (after addr) len (value / 256) in
    byte_at-with_byte rest addr (value % 256) place (whole_written memory (after addr) len (value / 256) w)
    (mapped_after memory (after addr) len (value / 256) (page_of addr) (mapped_where_accessible memory (page_of addr) mode access g.0))
    ∙ ap (cond (eqb place addr) (value % 256)) (byte_at-written memory (after addr) len (value / 256) place mode access w g.1)

-- runs of bytes
pub layout-written_run : (memory : List Area) (addr : ℕ) (bytes : List ℕ) → layout (written_run memory addr bytes) ≡ layout memory
unfolding written_run
layout-written_run memory addr [] = refl
layout-written_run memory addr (b ∷ bs) = layout-with_byte _ _ _ ∙ layout-written_run memory (after addr) bs

pub whole_written_run : (memory : List Area) (addr : ℕ) (bytes : List ℕ) → IsWhole memory → IsWhole (written_run memory addr bytes)
unfolding written_run
whole_written_run memory addr [] w = w
whole_written_run memory addr (b ∷ bs) w = whole_with_byte _ _ _ (whole_written_run memory (after addr) bs w)

pub is_mapped-written_run : (memory : List Area) (addr : ℕ) (bytes : List ℕ) (page : ℕ) → is_mapped (written_run memory addr bytes) page ≡ is_mapped memory page
is_mapped-written_run memory addr bytes page =
    sym (is_mapped-layout (written_run memory addr bytes) page) ∙ (ap (λ areas. is_mapped areas page) (layout-written_run memory addr bytes) ∙ is_mapped-layout memory page)

mapped_after_run : (memory : List Area) (addr : ℕ) (bytes : List ℕ) (page : ℕ) → is_mapped memory page ≡ true → is_mapped (written_run memory addr bytes) page ≡ true
mapped_after_run memory addr bytes page h =
    sym (is_mapped-layout (written_run memory addr bytes) page) ∙ (ap (λ areas. is_mapped areas page) (layout-written_run memory addr bytes) ∙ (is_mapped-layout memory page ∙ h))

pub byte_at-written_run : (memory : List Area) (addr : ℕ) (bytes : List ℕ) (place mode : ℕ) (access : Access) → IsWhole memory → violation memory addr (length bytes) mode access ≡ None → byte_at (written_run memory addr bytes) place ≡ put_run (byte_at memory) addr bytes place
unfolding written_run put_run
byte_at-written_run memory addr [] place mode access w h = refl
byte_at-written_run memory addr (b ∷ bs) place mode access w h =
    let g = allowed_first memory addr (length bs) mode access h in
    byte_at-with_byte (written_run memory (after addr) bs) addr b place (whole_written_run memory (after addr) bs w)
    (mapped_after_run memory (after addr) bs (page_of addr) (mapped_where_accessible memory (page_of addr) mode access g.0))
    ∙ ap (cond (eqb place addr) b) (byte_at-written_run memory (after addr) bs place mode access w g.1)
