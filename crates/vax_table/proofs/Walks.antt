-- What a walk says of each page, by the entries at the pages' places.
use Rattle.std.proofs.Common.{◌≡◌, ℕ, ◌+◌, ◌-◌, ◌*◌, ◌<◌, ◌≤◌, Bool, true, false, refl, ◌∙◌, ap, sym, arith, nat_lt, nat_le, nat_eq, inl, inr, List, Option, Some, None, length}
use Rattle.std.specs.Prelude.{option_map, option_and_then, if◌then◌else◌}
use Rattle.std.proofs.Math.Path.{fun_ext}
use Rattle.std.proofs.lemmas.Bool.{cases_lt, cases_eq, false≢true}
use Rattle.std.proofs.lemmas.Bool.Decides.{nat_tests}
use Rattle.vax_table.specs.declared.Walk.{Walk}
use Rattle.vax_table.specs.declared.Walk.TheVariants.{Outside}
use Rattle.vax_table.specs.declared.memory.Memory.{Memory}
use Rattle.vax_table.specs.Entry.{entry_at, said_by, kept_by, entry_with, prot_in}
use Rattle.vax_table.specs.Layout.{entry_of, said_or_past, walked_in, kept_in, place_of, table_page, frame_at, p0_tables, p1_first, p1_place, IsSound}
use Rattle.vax_table.specs.Mapping.{changed, is_inside}
use Rattle.vax_table.proofs.Entries.{prot_made}
use Rattle.vax_table.proofs.Places.{found_p0, found_p1, place_apart}

-- the translation finds the entry at the page's place
entry_found : (memory : Memory) (page : ℕ) → IsSound memory → entry_of memory page ≡ option_map (entry_at memory.bytes.items) (place_of memory.p0_end memory.p1_start page)
unfolding entry_of place_of
entry_found memory page sound = elim (cases_lt page 0x200000) [
  | inl first ↦
      let t : nat_lt page 0x200000 ≡ true = grind (arith, nat_tests) in
      rw t (elim (cases_lt page memory.p0_end) [
        | inl below ↦
            let u : nat_lt page memory.p0_end ≡ true = grind (arith, nat_tests) in
            rw u (ap (λ n. Some (entry_at memory.bytes.items n)) (found_p0 memory.bytes.items memory.p0_end memory.p1_start page sound.p0_high sound.tables below))
        | inr past ↦ let u : nat_lt page memory.p0_end ≡ false = grind (arith, nat_tests) in rw u refl
      ])
  | inr later ↦
      let t : nat_lt page 0x200000 ≡ false = grind (arith, nat_tests) in
      rw t (elim (cases_lt page 0x400000) [
        | inl second ↦
            let u : nat_lt page 0x400000 ≡ true = grind (arith, nat_tests) in
            rw u (elim (cases_lt page memory.p1_start) [
              | inl before ↦ let w : nat_le memory.p1_start page ≡ false = grind (arith, nat_tests) in rw w refl
              | inr there ↦
                  let w : nat_le memory.p1_start page ≡ true = grind (arith, nat_tests) in
                  rw w (ap (λ n. Some (entry_at memory.bytes.items n)) (found_p1 memory.bytes.items memory.p0_end memory.p1_start page sound.p0_high sound.p1_low sound.tables there second))
            ])
        | inr third ↦
            let u : nat_lt page 0x400000 ≡ false = grind (arith, nat_tests) in
            rw u (elim (cases_lt page 0x401200) [
              | inl below ↦ let w : nat_lt page 0x401200 ≡ true = grind (arith, nat_tests) in rw w refl
              | inr past ↦ let w : nat_lt page 0x401200 ≡ false = grind (arith, nat_tests) in rw w refl
            ])
      ])
]

-- what the entry at a place, if there is one, says
abbrev pub said_at : List ℕ → Option ℕ → Walk
said_at bytes place = said_or_past (option_map (entry_at bytes) place)

pub walked_at : (memory : Memory) (page : ℕ) → IsSound memory → walked_in memory page ≡ said_at memory.bytes.items (place_of memory.p0_end memory.p1_start page)
unfolding walked_in
walked_at memory page sound = ap said_or_past (entry_found memory page sound)

pub changed_here : {X : Type 0} (f : ℕ → X) (page : ℕ) (x : X) (q : ℕ) → q ≡ page → changed f page x q ≡ x
unfolding changed
changed_here f page x q e = let t : nat_eq q page ≡ true = grind (arith, nat_tests) in rw t refl

pub changed_other : {X : Type 0} (f : ℕ → X) (page : ℕ) (x : X) (q : ℕ) → (q ≡ page → ⊥) → changed f page x q ≡ f q
unfolding changed
changed_other f page x q ne = let t : nat_eq q page ≡ false = grind (arith, nat_tests) in rw t refl

-- the entries of the tables' own pages say that they are in no area
pub said_outside : (entry : ℕ) → prot_in entry ≡ 1 → said_by entry ≡ Outside false
unfolding said_by
said_outside entry e = let t : nat_eq (prot_in entry) 1 ≡ true = grind (arith, nat_tests) in rw t refl

prot_either : (test : Bool) (x y : ℕ) → prot_in x ≡ 1 → prot_in y ≡ 1 → prot_in (if test then x else y) ≡ 1
prot_either true x y a b = a
prot_either false x y a b = b

table_prot : (p0 p1 n : ℕ) → p0 ≤ 0x8000 → n < 512 → prot_in (table_page p0 p1 n) ≡ 1
unfolding table_page
table_prot p0 p1 n high few =
    let none : prot_in (entry_with false 1 false 0) ≡ 1 = prot_made false 1 false 0 (omega arith) (omega arith) in
    prot_either (nat_lt n 256) _ _
    (prot_either (nat_lt n (p0_tables p0)) _ _ (prot_made true 1 false (frame_at (4608 + 128 * n)) (omega arith) (omega arith)) none)
    (prot_either (nat_le (p1_first p1) (0x3F8000 + 128 * (n - 256))) _ _ (prot_made true 1 false (frame_at (p1_place p0 + (0x3F8000 + 128 * (n - 256) - p1_first p1))) (omega arith) (omega arith)) none)

pub table_says : (p0 p1 n : ℕ) → p0 ≤ 0x8000 → n < 512 → said_by (table_page p0 p1 n) ≡ Outside false
table_says p0 p1 n high few = said_outside (table_page p0 p1 n) (table_prot p0 p1 n high few)

-- a page in an area has its entry elsewhere
inside_apart : (memory : Memory) (page place n : ℕ) → IsSound memory → n < 512 → place_of memory.p0_end memory.p1_start page ≡ Some place → is_inside (walked_in memory page) ≡ true → 4096 + n ≡ place → ⊥
inside_apart memory page place n sound few found inside e =
    let is : walked_in memory page ≡ Outside false =
    walked_at memory page sound ∙ ap (said_at memory.bytes.items) found
    ∙ ap said_by (rw (← e) (sound.tables n few)) ∙ table_says memory.p0_end memory.p1_start n sound.p0_high few in
    false≢true (sym (ap is_inside is) ∙ inside)

pub sound_put : (memory after : Memory) (page place entry : ℕ) → IsSound memory → after.p0_end ≡ memory.p0_end → after.p1_start ≡ memory.p1_start → length after.bytes.items ≡ length memory.bytes.items → ((n : ℕ) → entry_at after.bytes.items n ≡ changed (entry_at memory.bytes.items) place entry n) → place_of memory.p0_end memory.p1_start page ≡ Some place → is_inside (walked_in memory page) ≡ true → IsSound after
sound_put memory after page place entry sound e0 e1 size put found inside = record {
  p0_high = rw e0 sound.p0_high;
  p1_low = rw e1 sound.p1_low;
  p1_high = rw e1 sound.p1_high;
  size = rw (e0, e1) (size ∙ sound.size);
  tables = λ n few. rw (e0, e1) (put (4096 + n) ∙ changed_other _ place entry (4096 + n) (inside_apart memory page place n sound few found inside) ∙ sound.tables n few);
}

said_changed : (memory after : Memory) (place entry : ℕ) (q : Option ℕ) → ((n : ℕ) → entry_at after.bytes.items n ≡ changed (entry_at memory.bytes.items) place entry n) → (q ≡ Some place → ⊥) → said_at after.bytes.items q ≡ said_at memory.bytes.items q
said_changed memory after place entry None put ne = refl
said_changed memory after place entry (Some n) put ne = ap said_by (put n ∙ changed_other _ place entry n (λ e. ne (ap Some e)))

pub walked_put : (memory after : Memory) (page place entry : ℕ) → IsSound memory → after.p0_end ≡ memory.p0_end → after.p1_start ≡ memory.p1_start → length after.bytes.items ≡ length memory.bytes.items → ((n : ℕ) → entry_at after.bytes.items n ≡ changed (entry_at memory.bytes.items) place entry n) → place_of memory.p0_end memory.p1_start page ≡ Some place → is_inside (walked_in memory page) ≡ true → walked_in after ≡ changed (walked_in memory) page (said_by entry)
walked_put memory after page place entry sound e0 e1 size put found inside =
    let sound' = sound_put memory after page place entry sound e0 e1 size put found inside in
    fun_ext (λ q. elim (cases_eq q page) [
      | inl e ↦
          let at : place_of after.p0_end after.p1_start q ≡ Some place = rw (e0, e1, e) found in
          walked_at after q sound' ∙ ap (said_at after.bytes.items) at ∙ ap said_by (put place ∙ changed_here _ place entry place refl) ∙ sym (changed_here _ page _ q e)
      | inr ne ↦
          let other : place_of memory.p0_end memory.p1_start q ≡ Some place → ⊥ = λ h. ne (place_apart memory.p0_end memory.p1_start page place q sound.p0_high found h) in
          walked_at after q sound' ∙ rw (e0, e1) (said_changed memory after place entry (place_of memory.p0_end memory.p1_start q) put other) ∙ sym (walked_at memory q sound) ∙ sym (changed_other _ page _ q ne)
    ])

-- what the entry at a place, if there is one, remembers
abbrev pub kept_at : List ℕ → Option ℕ → Option ℕ
kept_at bytes place = option_and_then kept_by (option_map (entry_at bytes) place)

pub kept_is : (memory : Memory) (page : ℕ) → IsSound memory → kept_in memory page ≡ kept_at memory.bytes.items (place_of memory.p0_end memory.p1_start page)
unfolding kept_in
kept_is memory page sound = ap (option_and_then kept_by) (entry_found memory page sound)

kept_changed : (memory after : Memory) (place entry : ℕ) (q : Option ℕ) → ((n : ℕ) → entry_at after.bytes.items n ≡ changed (entry_at memory.bytes.items) place entry n) → (q ≡ Some place → ⊥) → kept_at after.bytes.items q ≡ kept_at memory.bytes.items q
kept_changed memory after place entry None put ne = refl
kept_changed memory after place entry (Some n) put ne = ap kept_by (put n ∙ changed_other _ place entry n (λ e. ne (ap Some e)))

pub kept_put : (memory after : Memory) (page place entry : ℕ) → IsSound memory → after.p0_end ≡ memory.p0_end → after.p1_start ≡ memory.p1_start → length after.bytes.items ≡ length memory.bytes.items → ((n : ℕ) → entry_at after.bytes.items n ≡ changed (entry_at memory.bytes.items) place entry n) → place_of memory.p0_end memory.p1_start page ≡ Some place → is_inside (walked_in memory page) ≡ true → kept_in after ≡ changed (kept_in memory) page (kept_by entry)
kept_put memory after page place entry sound e0 e1 size put found inside =
    let sound' = sound_put memory after page place entry sound e0 e1 size put found inside in
    fun_ext (λ q. elim (cases_eq q page) [
      | inl e ↦
          let at : place_of after.p0_end after.p1_start q ≡ Some place = rw (e0, e1, e) found in
          kept_is after q sound' ∙ ap (kept_at after.bytes.items) at ∙ ap kept_by (put place ∙ changed_here _ place entry place refl) ∙ sym (changed_here _ page _ q e)
      | inr ne ↦
          let other : place_of memory.p0_end memory.p1_start q ≡ Some place → ⊥ = λ h. ne (place_apart memory.p0_end memory.p1_start page place q sound.p0_high found h) in
          kept_is after q sound' ∙ rw (e0, e1) (kept_changed memory after place entry (place_of memory.p0_end memory.p1_start q) put other) ∙ sym (kept_is memory q sound) ∙ sym (changed_other _ page _ q ne)
    ])
