-- Memory that is filled anew, page by page and byte by byte.
use Rattle.std.proofs.Common.{◌≡◌, ◌⊎◌, ◌<◌, ◌≤◌, ◌^◌, ℕ, suc, ◌+◌, ◌*◌, ◌-◌, ◌%◌, Bool, true, false, ◌==◌, if◌then◌else◌, Option, Some, None, Ok, Err, List, [], ◌∷◌, ◌++◌, length, get_or, take, drop, map, replicate, refl, sym, ap, subst, ◌∙◌, arith, inl, inr, add-one}
use Rattle.std.specs.Prelude.{is_some}
use Rattle.std.specs.List.{range_with_len}
use Rattle.std.proofs.Math.Path.{fun_ext}
use Rattle.std.proofs.Math.Seq.{drop-cons}
use Rattle.std.proofs.lemmas.Bool.{cases_Bool, cases_eq, eq-eqb, ne_eqb}
use Rattle.std.proofs.lemmas.List.{get_or-replicate, get_or_append_left, length-append, length-replicate, take_more}
use Rattle.std.proofs.lemmas.List.FromFn.{get_or-map-range_with_len, length-map-range_with_len}
use Rattle.vax_space.specs.declared.Access.TheVariants.{Write}
use Rattle.vax_space.specs.declared.Area.{Area}
use Rattle.vax_space.specs.declared.Violation.{Violation}
use Rattle.vax_space.specs.Areas.{area_of as area_with, has_page}
use Rattle.vax_space.specs.Reference.{page_of, violation}
use Rattle.vax_flat.specs.declared.Stop.{Stop}
use Rattle.vax_flat.specs.Memory.{IsWhole, byte_at}
use Rattle.vax_flat.specs.Port.{View, first_absent, layout, loaded_by, put, put_run, stop, stop_of, stored_run, unless_cut, with_number, with_run}
use Rattle.vax_flat.specs.Start.{start_memory}
use Rattle.vax_undo.specs.declared.block.Block.{Block}
use Rattle.vax_undo.specs.Blocks.{IsPlain, memory_of as blocks_memory, owner_of}
use Rattle.vax_undo.specs.Plain.{with_page}
use Rattle.vax_undo.proofs.PlainMemory.{area_some}
use Rattle.vax_undo.proofs.Ranges.{run_outside, run_within}
use Rattle.vax_vectors.specs.declared.vector.Cell.{Cell}
use Rattle.vax_vectors.specs.declared.vector.Page.{Page}
use Rattle.vax_vectors.specs.Truth.{is_among, memory_of, page_bytes, told}
use Rattle.vax_vector_memory.specs.Pages.{HaveBytes, IsCleared, guarded, has_number, unguarded}
use Rattle.vax_vector_memory.specs.Seen.{seen}
use Rattle.vax_vector_memory.proofs.Guarding.{mapped, one_page}

-- nothing stops an access
none_stops : (v : Option Violation) (absent : Option ℕ) → stop_of v absent ≡ None → absent ≡ None
none_stops (Some v) absent e = absurd (cc)
none_stops None (Some page) e = absurd (cc)
none_stops None None e = refl

first_there : (resident : ℕ → Bool) (addr len : ℕ) → first_absent resident addr (suc len) ≡ None → resident (page_of addr) ≡ true
unfolding first_absent
first_there resident addr len e =
    elim (cases_Bool (resident (page_of addr))) [
      | inl here ↦ here
      | inr gone ↦ let wrong : Some (page_of addr) ≡ None = rw gone at e in absurd (cc)
    ]

-- zeros in a page
zeros_here : (f : ℕ → ℕ) (addr place : ℕ) → addr < 2 ^ 32 → addr % 512 ≡ 0 → page_of place ≡ page_of addr → put_run f addr (replicate 512 0) place ≡ 0
zeros_here f addr place small even same =
    let size : length {A = ℕ} (replicate 512 0) ≡ 512 = length-replicate {A = ℕ} 512 0 in
    let low : addr ≤ place = omega (arith, even, same) in
    let high : place < addr + length {A = ℕ} (replicate 512 0) = rw size (omega (arith, even, same)) in
    let one : addr % 512 + length {A = ℕ} (replicate 512 0) ≤ 512 = rw (size, even) (omega arith) in
    let near : place - addr < 512 = omega (arith, even, same) in
    run_within f addr (replicate 512 0) place small one low high ∙ get_or-replicate 512 (place - addr) 0 0 near

zeros_there : (f : ℕ → ℕ) (addr place : ℕ) → addr < 2 ^ 32 → addr % 512 ≡ 0 → (page_of place ≡ page_of addr → ⊥) → put_run f addr (replicate 512 0) place ≡ f place
zeros_there f addr place small even other =
    let size : length {A = ℕ} (replicate 512 0) ≡ 512 = length-replicate {A = ℕ} 512 0 in
    let one : addr % 512 + length {A = ℕ} (replicate 512 0) ≤ 512 = rw (size, even) (omega arith) in
    run_outside f addr (replicate 512 0) place small one (λ low high.
    let below : place < addr + 512 = rw size at high in
    other (omega (arith, even, low, below)))

-- a page is shown, and zeros are written there
pub cleared : (page : ℕ) (there : Bool) (zeros : List ℕ) (v0 v1 v2 : View) → zeros ≡ replicate 512 0 → page < 0x800000 → v1 ≡ with_page v0 page there
    → None ≡ stop v1 (512 * page) (length zeros) 3 Write → v2 ≡ stored_run v1 (512 * page) zeros 3 → IsCleared page v0 v2
cleared page there zeros v0 v1 v2 are small shown none stored =
    let addr = 512 * page in
    let size : length zeros ≡ suc 511 = ap length are ∙ length-replicate {A = ℕ} 512 0 in
    let few : addr < 2 ^ 32 = omega (arith, small) in
    let whose : page_of addr ≡ page = omega arith in
    let even : addr % 512 ≡ 0 = omega arith in
    let now : v2 ≡ with_run v1 addr (replicate 512 0) = stored ∙ (ap (λ s. unless_cut s v1 (with_run v1 addr zeros)) (sym none) ∙ ap (with_run v1 addr) are) in
    let free : first_absent v1.resident addr (length zeros) ≡ None = none_stops (violation v1.areas addr (length zeros) 3 Write) (first_absent v1.resident addr (length zeros)) (sym none) in
    let first : first_absent v1.resident addr (suc 511) ≡ None = ap (first_absent v1.resident addr) (sym size) ∙ free in
    let here : v1.resident page ≡ true = ap v1.resident (sym whose) ∙ first_there v1.resident addr 511 first in
    let resident : (p : ℕ) → v2.resident p ≡ v1.resident p = λ p. ap (λ (v : View). v.resident p) now in
    let byte : (a : ℕ) → v2.byte a ≡ put_run v1.byte addr (replicate 512 0) a = λ a. ap (λ (v : View). v.byte a) now in
    let was : (a : ℕ) → v1.byte a ≡ v0.byte a = λ a. ap (λ (v : View). v.byte a) shown in
    let seen_by : (p : ℕ) → v1.resident p ≡ (if p == page then there else v0.resident p) = λ p. ap (λ (v : View). v.resident p) shown in
    record {
      here = λ a on. record { there = resident (page_of a) ∙ (ap v1.resident on ∙ here); is = byte a ∙ zeros_here v1.byte addr a few even (on ∙ sym whose) };
      others = λ a h. elim (cases_eq (page_of a) page) [
        | inl on ↦ record { there = resident (page_of a) ∙ (ap v1.resident on ∙ here); is = byte a ∙ zeros_here v1.byte addr a few even (on ∙ sym whose) }
        | inr off ↦
            let same : v1.resident (page_of a) ≡ v0.resident (page_of a) = seen_by (page_of a) ∙ rw (ne_eqb (page_of a) page off) refl in record {
              there = resident (page_of a) ∙ (same ∙ h.there);
              is = byte a ∙ (zeros_there v1.byte addr a few even (λ e. off (e ∙ whose)) ∙ (was a ∙ h.is));
            }
      ];
    }

number_last : (pages : List Page) (page : Page) (n : ℕ) → has_number (pages ++ page ∷ []) n ≡ true → (has_number pages n ≡ true) ⊎ (n ≡ page.number)
unfolding has_number
number_last [] page n h =
    elim (cases_eq n page.number) [
      | inl e ↦ inr e
      | inr other ↦ let wrong : false ≡ true = rw (ne_eqb n page.number other) at h in absurd (cc)
    ]
number_last (p ∷ pages) page n h =
    elim (cases_Bool (n == p.number)) [
      | inl e ↦ inl (rw e refl)
      | inr other ↦ let rest : has_number (pages ++ page ∷ []) n ≡ true = rw other at h in rw other (number_last pages page n rest)
    ]

pub none_cleared : (view : View) → HaveBytes [] [] view
unfolding has_number
none_cleared view = record { bytes = λ addr h. absurd (cc) }

-- one page more is cleared
pub more_cleared : (pages : List Page) (i : ℕ) (d : Page) (v w : View) → i < length pages → IsCleared (get_or pages i d).number v w → HaveBytes (take i pages) [] v → HaveBytes (take (i + 1) pages) [] w
unfolding told
more_cleared pages i d v w below cleared have = record {
  bytes = λ addr h.
      let e : take (i + 1) pages ≡ take i pages ++ get_or pages i d ∷ [] = take_more pages i d below in
      elim (number_last (take i pages) (get_or pages i d) (page_of addr) (sym (ap (λ (ps : List Page). has_number ps (page_of addr)) e) ∙ h)) [
        | inl before ↦ cleared.others addr (have.bytes addr before)
        | inr on ↦ cleared.here addr on
      ];
}

-- one byte is written
loaded_none : (s : Option Stop) (x old : ℕ) → Ok old ≡ loaded_by s x → None ≡ s
loaded_none (Some s) x old e = absurd (cc)
loaded_none None x old e = refl

pub cell_put : (pages : List Page) (ram : List Cell) (cell : Cell) (v w : View) (value : ℕ) (s : Option Stop) (x old : ℕ) → cell.byte < 256 → value ≡ cell.byte → Ok old ≡ loaded_by s x
    → w ≡ unless_cut s v (with_number v cell.addr 1 value) → HaveBytes pages ram v → HaveBytes pages (cell ∷ ram) w
unfolding told put
cell_put pages ram cell v w value (Some s) x old small is answer stored have = absurd (cc)
cell_put pages ram cell v w value None x old small is answer stored have = record {
  bytes = λ addr h.
      let was = have.bytes addr h in
      let resident : w.resident (page_of addr) ≡ v.resident (page_of addr) = ap (λ (u : View). u.resident (page_of addr)) stored in
      let low : value % 256 ≡ cell.byte = omega (arith, is, small) in
      let byte : w.byte addr ≡ (if addr == cell.addr then value % 256 else v.byte addr) = ap (λ (u : View). u.byte addr) stored in
      record { there = resident ∙ was.there; is = byte ∙ by addr was.is low };
}
  where
    by : (addr : ℕ) → v.byte addr ≡ told ram addr → value % 256 ≡ cell.byte → (if addr == cell.addr then value % 256 else v.byte addr) ≡ (if addr == cell.addr then cell.byte else told ram addr)
    by addr is low = rw (is, low) refl

-- nothing is written where a write is stopped
pub kept_by : (v w new : View) (s : Option Stop) (x : ℕ) (error : Stop) → Err error ≡ loaded_by s x → w ≡ unless_cut s v new → w ≡ v
kept_by v w new (Some s) x error answer stored = stored
kept_by v w new None x error answer stored = absurd (cc)

-- one that no page has
pub cell_past : (pages : List Page) (ram : List Cell) (cell : Cell) (v w : View) → has_number pages (page_of cell.addr) ≡ false → w ≡ v → HaveBytes pages ram v → HaveBytes pages (cell ∷ ram) w
unfolding told
cell_past pages ram cell v w gone same have = record {
  bytes = λ addr h.
      let was = have.bytes addr h in
      record {
        there = ap (λ (u : View). u.resident (page_of addr)) same ∙ was.there;
        is = ap (λ (u : View). u.byte addr) same ∙ (was.is ∙ sym (by addr h));
      };
}
  where
    by : (addr : ℕ) → has_number pages (page_of addr) ≡ true → (if addr == cell.addr then cell.byte else told ram addr) ≡ told ram addr
    by addr h = elim (cases_eq addr cell.addr) [
      | inl e ↦ let wrong : true ≡ false = sym h ∙ (ap (λ (a : ℕ). has_number pages (page_of a)) e ∙ gone) in absurd (cc)
      | inr other ↦ rw (ne_eqb addr cell.addr other) refl
    ]

-- one more of the cells from the last on
pub more_put : (pages : List Page) (ram : List Cell) (i : ℕ) (cell : Cell) (w : View) → i < length ram → cell ≡ get_or ram i cell → HaveBytes pages (cell ∷ drop (i + 1) ram) w → HaveBytes pages (drop i ram) w
more_put pages ram i cell w below is have =
    let e : drop i ram ≡ cell ∷ drop (i + 1) ram = rw add-one (drop-cons ram i cell below ∙ ap (λ (c : Cell). c ∷ drop (suc i) ram) (sym is)) in
    subst (λ (cells : List Cell). HaveBytes pages cells w) (sym e) have

-- a page that is resident is one of the pages
pub resident_mapped : (pages : List Page) (areas : List Area) (blocks : List Block) (owners : List (Option ℕ)) → IsPlain areas blocks owners → areas ≡ map unguarded pages
    → (page : ℕ) → is_some (owner_of owners page) ≡ true → has_number pages page ≡ true
resident_mapped pages areas blocks owners sound is page here = by (owner_of owners page) refl here
  where
    by : (o : Option ℕ) → owner_of owners page ≡ o → is_some o ≡ true → has_number pages page ≡ true
    by None e h = absurd (cc)
    by (Some n) e h =
        let some : is_some (area_with areas page) ≡ true = sym (area_some 0 areas page) ∙ ap is_some (sound.owned page n e) in
        sym (mapped pages page) ∙ (sym (ap (λ (list : List Area). is_some (area_with list page)) is) ∙ some)

-- past the areas there are zeros
byte_past : (areas : List Area) (blocks : List Block) (addr : ℕ) → is_some (area_with areas (page_of addr)) ≡ false → byte_at (blocks_memory areas blocks) addr ≡ 0
unfolding area_with blocks_memory byte_at has_page
byte_past [] blocks addr h = refl
byte_past (area ∷ areas) [] addr h = refl
byte_past (area ∷ areas) (block ∷ blocks) addr h =
    elim (cases_Bool (has_page area (page_of addr))) [
      | inl here ↦ let wrong : true ≡ false = rw here at h in absurd (cc)
      | inr other ↦ let rest : is_some (area_with areas (page_of addr)) ≡ false = rw other at h in rw other (byte_past areas blocks addr rest)
    ]

in_page : (ram : List Cell) (number addr : ℕ) → page_of addr ≡ number → get_or (page_bytes ram number ++ replicate (512 * 1 - length (page_bytes ram number)) 0) (addr - 512 * number) 0 ≡ told ram addr
unfolding page_bytes
in_page ram number addr on =
    let f : ℕ → ℕ = λ k. told ram (512 * number + k) in
    let size : length (map f (range_with_len 0 512)) ≡ 512 = length-map-range_with_len f 0 512 in
    let near : addr - 512 * number < 512 = omega (arith, on) in
    let inside : addr - 512 * number < length (map f (range_with_len 0 512)) = rw size near in
    let back : 512 * number + (addr - 512 * number) ≡ addr = omega (arith, on) in
    let zero_on : 0 + (addr - 512 * number) ≡ addr - 512 * number = omega arith in
    get_or_append_left (map f (range_with_len 0 512)) (replicate (512 * 1 - length (map f (range_with_len 0 512))) 0) 0 (addr - 512 * number) inside
    ∙ (get_or-map-range_with_len f 0 512 (addr - 512 * number) (addr - 512 * number) 0 near zero_on ∙ ap (told ram) back)

-- the bytes of the pages' memory
memory_byte : (pages : List Page) (ram : List Cell) (addr : ℕ) → byte_at (memory_of pages ram) addr ≡ (if has_number pages (page_of addr) then told ram addr else 0)
unfolding memory_of start_memory byte_at has_number has_page
memory_byte [] ram addr = refl
memory_byte (page ∷ pages) ram addr =
    elim (cases_eq (page_of addr) page.number) [
      | inl on ↦ rw (one_page page.number (page_of addr), eq-eqb (page_of addr) page.number on) (in_page ram page.number addr on)
      | inr off ↦ rw (one_page page.number (page_of addr), ne_eqb (page_of addr) page.number off) (memory_byte pages ram addr)
    ]

-- each area of it has all its bytes
pub memory_whole : (pages : List Page) (ram : List Cell) → IsWhole (memory_of pages ram)
unfolding memory_of start_memory IsWhole page_bytes
memory_whole [] ram = tt
memory_whole (page ∷ pages) ram = (full (λ k. told ram (512 * page.number + k)), memory_whole pages ram)
  where
    full : (f : ℕ → ℕ) → length (map f (range_with_len 0 512) ++ replicate (512 * 1 - length (map f (range_with_len 0 512))) 0) ≡ 512 * 1
    full f = let size : length (map f (range_with_len 0 512)) ≡ 512 = length-map-range_with_len f 0 512 in
        length-append (map f (range_with_len 0 512)) (replicate (512 * 1 - length (map f (range_with_len 0 512))) 0) ∙ rw size refl

-- its areas are the pages'
pub memory_areas : (pages : List Page) (ram : List Cell) → layout (memory_of pages ram) ≡ layout (map guarded pages)
unfolding memory_of start_memory layout
memory_areas [] ram = refl
memory_areas (page ∷ pages) ram = ap (λ (areas : List Area). guarded page ∷ areas) (memory_areas pages ram)

-- the memory that is filled shows just these bytes
pub filled_so : (pages : List Page) (ram : List Cell) (areas : List Area) (blocks : List Block) (v w : View) → areas ≡ map unguarded pages → v.byte ≡ byte_at (blocks_memory areas blocks)
    → v.marked ≡ (λ page. true) → HaveBytes pages ram v → w ≡ record v { resident = λ page. false } → record w { areas = map guarded pages } ≡ seen (map guarded pages) (memory_of pages ram) []
unfolding is_among
filled_so pages ram areas blocks v w is bytes marks have now =
    let byte : w.byte ≡ byte_at (memory_of pages ram) = ap (λ (u : View). u.byte) now ∙ fun_ext (λ addr. by addr (cases_Bool (has_number pages (page_of addr)))) in
    let none : w.resident ≡ is_among [] = ap (λ (u : View). u.resident) now ∙ fun_ext (λ page. refl) in
    let marked : w.marked ≡ (λ page. true) = ap (λ (u : View). u.marked) now ∙ marks in
    ap (λ (f : ℕ → ℕ). record { areas = map guarded pages; resident = w.resident; byte = f; marked = w.marked }) byte
    ∙ (ap (λ (r : ℕ → Bool). record { areas = map guarded pages; resident = r; byte = byte_at (memory_of pages ram); marked = w.marked }) none
    ∙ ap (λ (k : ℕ → Bool). record { areas = map guarded pages; resident = is_among []; byte = byte_at (memory_of pages ram); marked = k }) marked)
  where
    by : (addr : ℕ) → (has_number pages (page_of addr) ≡ true) ⊎ (has_number pages (page_of addr) ≡ false) → v.byte addr ≡ byte_at (memory_of pages ram) addr
    by addr (inl here) = (have.bytes addr here).is ∙ sym (memory_byte pages ram addr ∙ rw here refl)
    by addr (inr gone) =
        let past : is_some (area_with areas (page_of addr)) ≡ false = ap (λ (list : List Area). is_some (area_with list (page_of addr))) is ∙ (mapped pages (page_of addr) ∙ gone) in
        ap (λ (f : ℕ → ℕ). f addr) bytes ∙ (byte_past areas blocks addr past ∙ sym (memory_byte pages ram addr ∙ rw gone refl))
