-- New tables: every page of an area is absent, with its protection.
use Rattle.std.proofs.Common.{◌≡◌, ℕ, ◌+◌, ◌-◌, ◌*◌, ◌<◌, ◌≤◌, ◌^◌, Bool, true, false, refl, ◌∙◌, ap, sym, arith, nat_lt, nat_le, nat_eq, inl, inr, List, Option, Some, None, length}
use Rattle.std.specs.Prelude.{if◌then◌else◌, unwrap_or}
use Rattle.std.proofs.Math.Path.{fun_ext}
use Rattle.std.proofs.lemmas.Bool.{cases_lt, cases_eq}
use Rattle.std.proofs.lemmas.Bool.Decides.{nat_tests}
use Rattle.std.proofs.lemmas.Option.{none-some}
use Rattle.vax_space.specs.declared.Area.{Area}
use Rattle.vax_space.specs.Areas.{prot_of}
use Rattle.vax_space.specs.Faults.{IsSpace}
use Rattle.vax_space.specs.Reference.{program_end, control_start, is_past_region}
use Rattle.vax_space.proofs.PastRegions.{past_has_none, tables_have_none, prot_valid, prot_bounds}
use Rattle.vax_table.specs.declared.Walk.TheVariants.{Resident, Absent, Outside}
use Rattle.vax_table.specs.declared.memory.Memory.{Memory}
use Rattle.vax_table.specs.Entry.{entry_at, said_by, kept_by, entry_with, prot_in}
use Rattle.vax_table.specs.Layout.{walked_in, kept_in, frame_at, place_of, table_page, absent_entry, first_entry, p0_tables, p1_first, p1_place, total, IsFilled, IsSound}
use Rattle.vax_table.specs.Mapping.{changed, mapped, all_absent, none_kept, inside}
use Rattle.vax_table.proofs.Entries.{prot_made, valid_made, modified_made, frame_made, valid_keeps_none, cleared_keeps_none}
use Rattle.vax_table.proofs.Places.{place_cases, place_within, place_p0, place_p0_past, place_p1, place_p1_past, place_system, place_past}
use Rattle.vax_table.proofs.Walks.{said_at, walked_at, kept_at, kept_is, said_outside, table_says, changed_here, changed_other}

pub filled_more : (areas : List Area) (p0 p1 place entry : ℕ) (old new : List ℕ) → length new ≡ length old → ((n : ℕ) → entry_at new n ≡ changed (entry_at old) place entry n) → entry ≡ first_entry areas p0 p1 place → IsFilled areas p0 p1 place old → IsFilled areas p0 p1 (place + 1) new
filled_more areas p0 p1 place entry old new size put is filled = record {
  size = size ∙ filled.size;
  entries = λ n below. elim (cases_eq n place) [
    | inl e ↦ put n ∙ changed_here _ place entry n e ∙ is ∙ ap (first_entry areas p0 p1) (sym e)
    | inr ne ↦ put n ∙ changed_other _ place entry n ne ∙ filled.entries n (omega arith)
  ];
}

first_table : (areas : List Area) (p0 p1 n : ℕ) → n < 512 → first_entry areas p0 p1 (4096 + n) ≡ table_page p0 p1 n
unfolding first_entry
first_table areas p0 p1 n few =
    let t : nat_lt (4096 + n) 4096 ≡ false = grind (arith, nat_tests) in
    let u : nat_lt (4096 + n) 4608 ≡ true = grind (arith, nat_tests) in
    let e : 4096 + n - 4096 ≡ n = omega arith in
    rw (t, u, e) refl

first_system : (areas : List Area) (p0 p1 page place : ℕ) → place < 4096 → page ≡ 0x400000 + place → first_entry areas p0 p1 place ≡ absent_entry areas page
unfolding first_entry
first_system areas p0 p1 page place low e =
    let t : nat_lt place 4096 ≡ true = grind (arith, nat_tests) in
    rw (t, e) refl

first_p0 : (areas : List Area) (p0 p1 page place : ℕ) → page < p0 → place ≡ 4608 + page → first_entry areas p0 p1 place ≡ absent_entry areas page
unfolding first_entry
first_p0 areas p0 p1 page place within e =
    let t : nat_lt (4608 + page) 4096 ≡ false = grind (arith, nat_tests) in
    let u : nat_lt (4608 + page) 4608 ≡ false = grind (arith, nat_tests) in
    let low : 4608 + page < p1_place p0 = omega arith in
    let w : nat_lt (4608 + page) (p1_place p0) ≡ true = grind (arith, nat_tests) in
    let at : 4608 + page - 4608 ≡ page = omega arith in
    rw (e, t, u, w, at) refl

first_p1 : (areas : List Area) (p0 p1 page place : ℕ) → p1 ≤ page → place ≡ p1_place p0 + (page - p1_first p1) → first_entry areas p0 p1 place ≡ absent_entry areas page
unfolding first_entry
first_p1 areas p0 p1 page place within e =
    let t : nat_lt place 4096 ≡ false = grind (arith, nat_tests) in
    let u : nat_lt place 4608 ≡ false = grind (arith, nat_tests) in
    let past : p1_place p0 ≤ place = omega arith in
    let w : nat_lt place (p1_place p0) ≡ false = grind (arith, nat_tests) in
    let at : p1_first p1 + (place - p1_place p0) ≡ page = omega arith in
    rw (t, u, w, at) refl

-- a page has a place exactly where it is not past its region
past_when : (areas : List Area) (page : ℕ) → place_of (program_end areas) (control_start areas) page ≡ None → is_past_region areas page ≡ true
unfolding is_past_region
past_when areas page none = elim (cases_lt page 0x200000) [
  | inl first ↦ elim (cases_lt page (program_end areas)) [
    | inl within ↦ absurd (none-some _ (sym none ∙ place_p0 _ _ page first within))
    | inr past ↦ grind (arith, nat_tests)
  ]
  | inr later ↦ elim (cases_lt page 0x400000) [
    | inl second ↦ elim (cases_lt page (control_start areas)) [
      | inl past ↦ grind (arith, nat_tests)
      | inr within ↦ absurd (none-some _ (sym none ∙ place_p1 _ _ page later second within))
    ]
    | inr third ↦ elim (cases_lt page 0x401200) [
      | inl within ↦ absurd (none-some _ (sym none ∙ place_system _ _ page third within))
      | inr past ↦ grind (arith, nat_tests)
    ]
  ]
]

not_past : (areas : List Area) (page place : ℕ) → place_of (program_end areas) (control_start areas) page ≡ Some place → is_past_region areas page ≡ false
unfolding is_past_region
not_past areas page place some = elim (cases_lt page 0x200000) [
  | inl first ↦ elim (cases_lt page (program_end areas)) [
    | inl within ↦ grind (arith, nat_tests)
    | inr past ↦ absurd (none-some _ (sym (place_p0_past _ _ page first past) ∙ some))
  ]
  | inr later ↦ elim (cases_lt page 0x400000) [
    | inl second ↦ elim (cases_lt page (control_start areas)) [
      | inl past ↦ absurd (none-some _ (sym (place_p1_past _ _ page later second past) ∙ some))
      | inr within ↦ grind (arith, nat_tests)
    ]
    | inr third ↦ elim (cases_lt page 0x401200) [
      | inl within ↦ grind (arith, nat_tests)
      | inr past ↦ absurd (none-some _ (sym (place_past _ _ page past) ∙ some))
    ]
  ]
]

pub said_made : (valid : Bool) (prot : ℕ) (modified : Bool) (frame : ℕ) → prot ≤ 15 → (prot ≡ 1 → ⊥) → frame < 2 ^ 21 → said_by (entry_with valid prot modified frame) ≡ (if valid then Resident frame prot modified else Absent prot)
unfolding said_by
said_made valid prot modified frame few named small =
    let p = prot_made valid prot modified frame few small in
    let t : nat_eq (prot_in (entry_with valid prot modified frame)) 1 ≡ false = rw p (grind (arith, nat_tests)) in
    let v = valid_made valid prot modified frame few small in
    let m = modified_made valid prot modified frame few small in
    let f = frame_made valid prot modified frame small in
    rw (t, v, p, f, m) refl

absent_says : (areas : List Area) (page : ℕ) (prot : Option ℕ) → IsSpace areas → prot_of areas page ≡ prot → said_by (entry_with false (unwrap_or prot 1) false 0) ≡ inside prot false None
absent_says areas page None space e = said_outside (entry_with false 1 false 0) (prot_made false 1 false 0 (omega arith) (omega arith))
absent_says areas page (Some code) space e =
    let bounds = prot_bounds code (prot_valid areas page code space e) in
    said_made false code false 0 bounds.0 bounds.1 (omega arith)

absent_mapped : (areas : List Area) (page place : ℕ) → IsSpace areas → place_of (program_end areas) (control_start areas) page ≡ Some place → said_by (absent_entry areas page) ≡ mapped areas all_absent page
unfolding mapped
absent_mapped areas page place space found =
    rw (not_past areas page place found) (absent_says areas page (prot_of areas page) space refl)

outside_mapped : (areas : List Area) (page : ℕ) (past : Bool) → prot_of areas page ≡ None → is_past_region areas page ≡ past → Outside past ≡ mapped areas all_absent page
unfolding mapped
outside_mapped areas page past none e = rw (none, e) refl

entry_mapped : (areas : List Area) (page place : ℕ) → IsSpace areas → program_end areas ≤ 0x8000 → place_of (program_end areas) (control_start areas) page ≡ Some place → said_by (first_entry areas (program_end areas) (control_start areas) place) ≡ mapped areas all_absent page
entry_mapped areas page place space high found = elim (place_cases (program_end areas) (control_start areas) page place found) [
  | inl a ↦ ap said_by (first_p0 areas _ _ page place a.within a.is) ∙ absent_mapped areas page place space found
  | inr r ↦ elim r [
    | inl b ↦ ap said_by (first_p1 areas _ _ page place b.low b.is) ∙ absent_mapped areas page place space found
    | inr c ↦ elim (cases_lt place 4096) [
      | inl low ↦ ap said_by (first_system areas _ _ page place low c.is) ∙ absent_mapped areas page place space found
      | inr table ↦
          let n : ℕ = place - 4096 in
          let few : place - 4096 < 512 = omega (arith, c.high, c.is) in
          let e : place ≡ 4096 + (place - 4096) = omega arith in
          ap (λ p. said_by (first_entry areas (program_end areas) (control_start areas) p)) e
          ∙ ap said_by (first_table areas _ _ (place - 4096) few) ∙ table_says (program_end areas) (control_start areas) (place - 4096) high few
          ∙ outside_mapped areas page false (tables_have_none areas page space (omega (arith, c.is))) (not_past areas page place found)
    ]
  ]
]

place_mapped : (areas : List Area) (bytes : List ℕ) (page : ℕ) (place : Option ℕ) → IsSpace areas → program_end areas ≤ 0x8000 → 0x3F8000 ≤ control_start areas → IsFilled areas (program_end areas) (control_start areas) (total (program_end areas) (control_start areas)) bytes → place_of (program_end areas) (control_start areas) page ≡ place → said_at bytes place ≡ mapped areas all_absent page
place_mapped areas bytes page None space high low filled found =
    let past = past_when areas page found in
    outside_mapped areas page true (past_has_none areas page space past) past
place_mapped areas bytes page (Some place) space high low filled found =
    ap said_by (filled.entries place (place_within _ _ page place high low found)) ∙ entry_mapped areas page place space high found

pub sound_new : (areas : List Area) (memory : Memory) → memory.p0_end ≤ 0x8000 → 0x3F8000 ≤ memory.p1_start → memory.p1_start ≤ 0x400000 → IsFilled areas memory.p0_end memory.p1_start (total memory.p0_end memory.p1_start) memory.bytes.items → IsSound memory
sound_new areas memory high low end filled = record {
  p0_high = high;
  p1_low = low;
  p1_high = end;
  size = filled.size;
  tables = λ n few. filled.entries (4096 + n) (omega arith) ∙ first_table areas memory.p0_end memory.p1_start n few;
}

pub walked_new : (areas : List Area) (memory : Memory) → IsSpace areas → memory.p0_end ≡ program_end areas → memory.p1_start ≡ control_start areas → memory.p0_end ≤ 0x8000 → 0x3F8000 ≤ memory.p1_start → memory.p1_start ≤ 0x400000 → IsFilled areas memory.p0_end memory.p1_start (total memory.p0_end memory.p1_start) memory.bytes.items → walked_in memory ≡ mapped areas all_absent
walked_new areas memory space e0 e1 high low end filled =
    let sound = sound_new areas memory high low end filled in
    let filled' : IsFilled areas (program_end areas) (control_start areas) (total (program_end areas) (control_start areas)) memory.bytes.items = rw (e0, e1) at filled in
    fun_ext (λ page. walked_at memory page sound ∙ rw (e0, e1)
    (place_mapped areas memory.bytes.items page (place_of (program_end areas) (control_start areas) page) space (rw e0 at high) (rw e1 at low) filled' refl))

-- new tables remember no frame
keeps_either : (test : Bool) (x y : ℕ) → kept_by x ≡ None → kept_by y ≡ None → kept_by (if test then x else y) ≡ None
keeps_either true x y a b = a
keeps_either false x y a b = b

table_keeps : (p0 p1 n : ℕ) → p0 ≤ 0x8000 → n < 512 → kept_by (table_page p0 p1 n) ≡ None
unfolding table_page
table_keeps p0 p1 n high few =
    let none : kept_by (entry_with false 1 false 0) ≡ None = cleared_keeps_none 1 0 (omega arith) (omega arith) in
    keeps_either (nat_lt n 256) _ _
    (keeps_either (nat_lt n (p0_tables p0)) _ _ (valid_keeps_none 1 false (frame_at (4608 + 128 * n)) (omega arith) (omega arith)) none)
    (keeps_either (nat_le (p1_first p1) (0x3F8000 + 128 * (n - 256))) _ _ (valid_keeps_none 1 false (frame_at (p1_place p0 + (0x3F8000 + 128 * (n - 256) - p1_first p1))) (omega arith) (omega arith)) none)

unwrapped : (areas : List Area) (page : ℕ) (prot : Option ℕ) → IsSpace areas → prot_of areas page ≡ prot → unwrap_or prot 1 ≤ 15
unwrapped areas page None space e = omega arith
unwrapped areas page (Some code) space e = (prot_bounds code (prot_valid areas page code space e)).0

absent_keeps : (areas : List Area) (page : ℕ) → IsSpace areas → kept_by (absent_entry areas page) ≡ None
absent_keeps areas page space = cleared_keeps_none (unwrap_or (prot_of areas page) 1) 0 (unwrapped areas page (prot_of areas page) space refl) (omega arith)

first_keeps : (areas : List Area) (p0 p1 place : ℕ) → IsSpace areas → p0 ≤ 0x8000 → kept_by (first_entry areas p0 p1 place) ≡ None
unfolding first_entry
first_keeps areas p0 p1 place space high =
    elim (cases_lt place 4096) [
      | inl low ↦ let t : nat_lt place 4096 ≡ true = grind (arith, nat_tests) in rw t (absent_keeps areas (0x400000 + place) space)
      | inr up ↦
          let t : nat_lt place 4096 ≡ false = grind (arith, nat_tests) in
          rw t (elim (cases_lt place 4608) [
            | inl low ↦ let u : nat_lt place 4608 ≡ true = grind (arith, nat_tests) in rw u (table_keeps p0 p1 (place - 4096) high (omega arith))
            | inr past ↦
                let u : nat_lt place 4608 ≡ false = grind (arith, nat_tests) in
                rw u (keeps_either (nat_lt place (p1_place p0)) _ _ (absent_keeps areas (place - 4608) space) (absent_keeps areas (p1_first p1 + (place - p1_place p0)) space))
          ])
    ]

place_keeps : (areas : List Area) (p0 p1 page : ℕ) (bytes : List ℕ) (place : Option ℕ) → IsSpace areas → p0 ≤ 0x8000 → 0x3F8000 ≤ p1 → IsFilled areas p0 p1 (total p0 p1) bytes → place_of p0 p1 page ≡ place → kept_at bytes place ≡ None
place_keeps areas p0 p1 page bytes None space high low filled found = refl
place_keeps areas p0 p1 page bytes (Some place) space high low filled found =
    ap kept_by (filled.entries place (place_within _ _ page place high low found)) ∙ first_keeps areas p0 p1 place space high

pub kept_new : (areas : List Area) (memory : Memory) → IsSpace areas → memory.p0_end ≤ 0x8000 → 0x3F8000 ≤ memory.p1_start → memory.p1_start ≤ 0x400000 → IsFilled areas memory.p0_end memory.p1_start (total memory.p0_end memory.p1_start) memory.bytes.items → kept_in memory ≡ none_kept
kept_new areas memory space high low end filled =
    let sound = sound_new areas memory high low end filled in
    fun_ext (λ page. kept_is memory page sound ∙ place_keeps areas memory.p0_end memory.p1_start page memory.bytes.items (place_of memory.p0_end memory.p1_start page) space high low filled refl)
