-- Plain memory: where the bytes of a resident page are, what a write leaves, and how it begins.
use Rattle.std.proofs.Common.{◌≡◌, ℕ, suc, zero, ◌+◌, ◌-◌, ◌*◌, ◌%◌, ◌^◌, ◌<◌, ◌≤◌, Bool, true, false, cond, eqb, Option, Some, None, Result, Ok, Err, List, [], ◌∷◌, ◌++◌, length, get_or, take, drop, set, refl, sym, ap, subst, ◌∙◌, arith, inl, inr, length-set, length-append, length-drop, nat_lt}
use Rattle.std.specs.Prelude.{is_some, is_ok, is_err, slice_get}
use Rattle.std.proofs.lemmas.Bool.{cases_Bool, cases_eq, cases_lt, eq-eqb, ne_eqb}
use Rattle.std.proofs.lemmas.Bool.Decides.{nat_tests}
use Rattle.std.proofs.lemmas.List.{get_or-set_same, get_or-set_other, get_or_append_left, get_or-append_right, length-take-le, take_more}
use Rattle.std.proofs.Math.Path.{fun_ext}
use Rattle.std.specs.Vec.{with_items}
use borrow.Rule.Slice.PartMut.{put_mid}
use Rattle.vax_space.specs.declared.Area.{Area}
use Rattle.vax_space.specs.Areas.{has_page, area_of, end_of}
use Rattle.vax_space.specs.Faults.{IsSpace, end_before, is_placed}
use Rattle.vax_space.specs.Lookup.{slot}
use Rattle.vax_space.specs.Reference.{page_of}
use Rattle.vax_space.proofs.AreaFaults.{placed_some, placed_low, placed_high, placed_end, fits_here, end_here}
use Rattle.vax_space.proofs.Tables.{written_back}
use Rattle.vax_flat.specs.Memory.{byte_at, IsWhole}
use Rattle.vax_flat.specs.Port.{put_run, layout}
use Rattle.vax_flat.specs.Start.{start_memory}
use Rattle.vax_undo.specs.declared.block.Block.{Block}
use Rattle.vax_undo.specs.Blocks.{memory_of, number_of_area, at_slot, owner_of, IsPlain, IsStart, AreStarts, IsFull}
use Rattle.vax_undo.proofs.Ranges.{run_bytes}
use Rattle.vax_undo.proofs.Blocks.{IsAt, AreBlocks, are_blocks, starts_are, sizes_are, at_number, lies, shape_set, run_written, overwritten, overwritten-length, slots_differ}

pub shape_of : (areas : List Area) (blocks : List Block) (owners : List (Option ℕ)) → IsPlain areas blocks owners → AreBlocks areas blocks
shape_of areas blocks owners p = are_blocks areas blocks p.starts p.sizes

pub at_owner : (areas : List Area) (blocks : List Block) (owners : List (Option ℕ)) (page i : ℕ) → IsPlain areas blocks owners → owner_of owners page ≡ Some i → IsAt areas page i
at_owner areas blocks owners page i p h = at_number areas page i (p.owned page i h)

pub below_at : (areas : List Area) (blocks : List Block) (page i : ℕ) → AreBlocks areas blocks → IsAt areas page i → i < length blocks
unfolding AreBlocks IsAt
below_at [] blocks page i shape at = absurd at
below_at (area ∷ areas) [] page i shape at = absurd shape
below_at (area ∷ areas) (block ∷ blocks) page zero shape at = omega arith
below_at (area ∷ areas) (block ∷ blocks) page (suc i) shape at = omega (arith, below_at areas blocks page i shape.2 at.1)

pub below_owner : (areas : List Area) (blocks : List Block) (owners : List (Option ℕ)) (page i : ℕ) → IsPlain areas blocks owners → owner_of owners page ≡ Some i → i < length blocks
below_owner areas blocks owners page i p h = below_at areas blocks page i (shape_of areas blocks owners p) (at_owner areas blocks owners page i p h)

-- a range within a page lies in its area's block
pub room_at : (areas : List Area) (blocks : List Block) (addr n i : ℕ) (block : Block) → AreBlocks areas blocks → IsAt areas (page_of addr) i → addr % 512 + n ≤ 512 → block ≡ get_or blocks i block → (block.start ≤ addr) × ((addr - block.start) + n ≤ length block.bytes.items)
room_at areas blocks addr n i block shape at within is =
    let l = lies areas blocks (page_of addr) i block shape at in
    let start : block.start ≡ (get_or blocks i block).start = ap (λ (b : Block). b.start) is in
    let size : length block.bytes.items ≡ length (get_or blocks i block).bytes.items = ap (λ (b : Block). length b.bytes.items) is in
    (omega (arith, l.1.low), omega (arith, l.1.low, l.1.high))

pub room : (areas : List Area) (blocks : List Block) (owners : List (Option ℕ)) (addr n i : ℕ) (block : Block) → IsPlain areas blocks owners → owner_of owners (page_of addr) ≡ Some i → addr % 512 + n ≤ 512 → block ≡ get_or blocks i block → (block.start ≤ addr) × ((addr - block.start) + n ≤ length block.bytes.items)
room areas blocks owners addr n i block p h within is =
    room_at areas blocks addr n i block (shape_of areas blocks owners p) (at_owner areas blocks owners (page_of addr) i p h) within is

-- a write of a run to a block, as the code does it
pub record IsWritten (addr : ℕ) (xs : List ℕ) (old new : Block) : Type 0 where
  pub start : new.start ≡ old.start
  pub items : new.bytes.items ≡ overwritten (addr - old.start) xs old.bytes.items

pub written_by : (addr : ℕ) (xs : List ℕ) (old new : Block) (m : ℕ) (was now : List ℕ) → new.start ≡ old.start → m ≡ length xs → was ≡ old.bytes.items → now ≡ xs → new.bytes.items ≡ take (addr - old.start) was ++ (now ++ drop m (drop (addr - old.start) was)) → IsWritten addr xs old new
written_by addr xs old new m was now start count before after is = record {
  start = start;
  items = is ∙ rw (before, after, count) refl;
}

pub view_written : (areas : List Area) (blocks : List Block) (owners : List (Option ℕ)) (addr i : ℕ) (xs : List ℕ) (old new : Block) → IsPlain areas blocks owners → owner_of owners (page_of addr) ≡ Some i → addr < 2 ^ 32 → addr % 512 + length xs ≤ 512 → old ≡ get_or blocks i old → IsWritten addr xs old new → byte_at (memory_of areas (set blocks i new)) ≡ put_run (byte_at (memory_of areas blocks)) addr xs
view_written areas blocks owners addr i xs old new p h small within is w =
    run_written areas blocks addr i xs old new (shape_of areas blocks owners p) (at_owner areas blocks owners (page_of addr) i p h) small within is w.start w.items

pub plain_written : (areas : List Area) (blocks : List Block) (owners : List (Option ℕ)) (addr i : ℕ) (xs : List ℕ) (old new : Block) → IsPlain areas blocks owners → owner_of owners (page_of addr) ≡ Some i → addr < 2 ^ 32 → addr % 512 + length xs ≤ 512 → old ≡ get_or blocks i old → IsWritten addr xs old new → ((k : ℕ) → get_or xs k 0 < 256) → IsPlain areas (set blocks i new) owners
plain_written areas blocks owners addr i xs old new p h small within is w bytes =
    let shape = shape_of areas blocks owners p in
    let at = at_owner areas blocks owners (page_of addr) i p h in
    let r = room_at areas blocks addr (length xs) i old shape at within is in
    let size : length new.bytes.items ≡ length old.bytes.items = ap length w.items ∙ overwritten-length (addr - old.start) xs old.bytes.items r.1 in
    let shape' = shape_set areas blocks i new old shape (below_at areas blocks (page_of addr) i shape at) (w.start ∙ ap (λ (b : Block). b.start) is) (size ∙ ap (λ (b : Block). length b.bytes.items) is) in
    record {
      size = p.size;
      owned = p.owned;
      starts = starts_are areas (set blocks i new) shape';
      sizes = sizes_are areas (set blocks i new) shape';
      bytes = record { below = λ place. rw (view_written areas blocks owners addr i xs old new p h small within is w) (run_bytes (byte_at (memory_of areas blocks)) addr xs p.bytes bytes place) };
    }

-- the block after a write to a part of it, as the code does it
abbrev pub with_part : Block → ℕ → ℕ → List ℕ → List ℕ → Block
with_part old k m was now = record old { bytes = with_items old.bytes (put_mid k m was now) }

part_items : (k : ℕ) (xs : List ℕ) (old : Block) (m : ℕ) (was now : List ℕ) → k + length xs ≤ length old.bytes.items → m ≡ length xs → was ≡ old.bytes.items → now ≡ xs → (with_part old k m was now).bytes.items ≡ take k was ++ (now ++ drop m (drop k was))
part_items k xs old m was now h count before after =
    let mid : List ℕ = take k was ++ (now ++ drop m (drop k was)) in
    let same : mid ≡ overwritten k xs old.bytes.items = rw (before, after, count) refl in
    written_back old.bytes.len mid _ (ap length same ∙ (overwritten-length k xs old.bytes.items h ∙ sym old.bytes.ok.0))

pub plain_put : (areas : List Area) (blocks : List Block) (owners : List (Option ℕ)) (addr i : ℕ) (xs : List ℕ) (old : Block) (m : ℕ) (was now : List ℕ) → IsPlain areas blocks owners → owner_of owners (page_of addr) ≡ Some i → addr < 2 ^ 32 → addr % 512 + length xs ≤ 512 → old ≡ get_or blocks i old → m ≡ length xs → was ≡ old.bytes.items → now ≡ xs → ((k : ℕ) → get_or xs k 0 < 256) → IsPlain areas (set blocks i (with_part old (addr - old.start) m was now)) owners
plain_put areas blocks owners addr i xs old m was now p h small within is count before after bytes =
    let new = with_part old (addr - old.start) m was now in
    let r = room areas blocks owners addr (length xs) i old p h within is in
    plain_written areas blocks owners addr i xs old new p h small within is (written_by addr xs old new m was now refl count before after (part_items (addr - old.start) xs old m was now r.1 count before after)) bytes

pub view_put : (areas : List Area) (blocks : List Block) (owners : List (Option ℕ)) (addr i : ℕ) (xs : List ℕ) (old : Block) (m : ℕ) (was now : List ℕ) → IsPlain areas blocks owners → owner_of owners (page_of addr) ≡ Some i → addr < 2 ^ 32 → addr % 512 + length xs ≤ 512 → old ≡ get_or blocks i old → m ≡ length xs → was ≡ old.bytes.items → now ≡ xs → byte_at (memory_of areas (set blocks i (with_part old (addr - old.start) m was now))) ≡ put_run (byte_at (memory_of areas blocks)) addr xs
view_put areas blocks owners addr i xs old m was now p h small within is count before after =
    let new = with_part old (addr - old.start) m was now in
    let r = room areas blocks owners addr (length xs) i old p h within is in
    view_written areas blocks owners addr i xs old new p h small within is (written_by addr xs old new m was now refl count before after (part_items (addr - old.start) xs old m was now r.1 count before after))

pub part_length : (k m n : ℕ) (was items : List ℕ) → m ≡ n → was ≡ items → k + n ≤ length items → length (take m (drop k was)) ≡ n
part_length k m n was items e f h = rw (e, f) (length-take-le n (drop k items) (simp length-drop (omega arith)))

-- the owner of one page is changed
at_other : (owners : List (Option ℕ)) (place : ℕ) (v o : Option ℕ) → (o ≡ Some place → ⊥) → at_slot (set owners place v) o ≡ at_slot owners o
at_other owners place v None ne = refl
at_other owners place v (Some q) ne = get_or-set_other owners place q v None (λ e. ne (ap Some e))

at_same : (owners : List (Option ℕ)) (place : ℕ) (v o : Option ℕ) → place < length owners → o ≡ Some place → at_slot (set owners place v) o ≡ v
at_same owners place v o h e = rw e (get_or-set_same owners place v None h)

pub owner_set : (owners : List (Option ℕ)) (page place : ℕ) (v : Option ℕ) (other : ℕ) → length owners ≡ 69632 → place < 69632 → Some place ≡ slot page → owner_of (set owners place v) other ≡ cond (eqb other page) v (owner_of owners other)
owner_set owners page place v other size below s = elim (cases_eq other page) [
  | inl e ↦ rw (eq-eqb other page e) (at_same owners place v (slot other) (omega arith) (ap slot e ∙ sym s))
  | inr ne ↦ rw (ne_eqb other page ne) (at_other owners place v (slot other) (λ e. ne (slots_differ other page place e (sym s))))
]

some_cond : (b : Bool) (v o : Option ℕ) → is_some (cond b v o) ≡ cond b (is_some v) (is_some o)
some_cond true v o = refl
some_cond false v o = refl

pub resident_set : (owners : List (Option ℕ)) (page place : ℕ) (v : Option ℕ) → length owners ≡ 69632 → place < 69632 → Some place ≡ slot page → ◌≡◌ {A = ℕ → Bool} (λ other. is_some (owner_of (set owners place v) other)) (λ other. cond (eqb other page) (is_some v) (is_some (owner_of owners other)))
resident_set owners page place v size below s = fun_ext λ other. ap is_some (owner_set owners page place v other size below s) ∙ some_cond (eqb other page) v (owner_of owners other)

no_owner : (owners : List (Option ℕ)) (o : Option ℕ) → None ≡ o → is_some (at_slot owners o) ≡ false
no_owner owners o e = rw (← e) refl

pub resident_kept : (owners : List (Option ℕ)) (page : ℕ) (there : Bool) → None ≡ slot page → there ≡ false → ◌≡◌ {A = ℕ → Bool} (λ other. is_some (owner_of owners other)) (λ other. cond (eqb other page) there (is_some (owner_of owners other)))
resident_kept owners page there none gone = fun_ext λ other. elim (cases_eq other page) [
  | inl e ↦ rw (eq-eqb other page e, gone) (no_owner owners (slot other) (none ∙ ap slot (sym e)))
  | inr ne ↦ rw (ne_eqb other page ne) refl
]

owned_set : (areas : List Area) (owners : List (Option ℕ)) (page : ℕ) (v : Option ℕ) (other n : ℕ) (b : Bool) → (b ≡ true → other ≡ page) → ((n : ℕ) → v ≡ Some n → number_of_area 0 areas page ≡ Some n) → ((n : ℕ) → owner_of owners other ≡ Some n → number_of_area 0 areas other ≡ Some n) → cond b v (owner_of owners other) ≡ Some n → number_of_area 0 areas other ≡ Some n
owned_set areas owners page v other n true same right owned h = ap (number_of_area 0 areas) (same refl) ∙ right n h
owned_set areas owners page v other n false same right owned h = owned n h

pub plain_set : (areas : List Area) (blocks : List Block) (owners : List (Option ℕ)) (page place : ℕ) (v : Option ℕ) → IsPlain areas blocks owners → place < 69632 → Some place ≡ slot page → ((n : ℕ) → v ≡ Some n → number_of_area 0 areas page ≡ Some n) → IsPlain areas blocks (set owners place v)
plain_set areas blocks owners page place v p below s right = record {
  size = length-set owners place v ∙ p.size;
  owned = λ other n h. owned_set areas owners page v other n (eqb other page) (λ e. elim (cases_eq other page) [ inl same ↦ same | inr ne ↦ let bad : true ≡ false = sym e ∙ ne_eqb other page ne in absurd (let x : ⊥ = cc in x) ]) right (p.owned other) (sym (owner_set owners page place v other p.size below s) ∙ h);
  starts = p.starts;
  sizes = p.sizes;
  bytes = p.bytes;
}

-- the search for an area
pub area_some : (m : ℕ) (areas : List Area) (page : ℕ) → is_some (number_of_area m areas page) ≡ is_some (area_of areas page)
unfolding number_of_area area_of
area_some m [] page = refl
area_some m (area ∷ areas) page = elim (cases_Bool (has_page area page)) [
  | inl here ↦ rw here refl
  | inr not_here ↦ rw not_here (area_some (m + 1) areas page)
]

area_at : (areas : List Area) (i : ℕ) → i < length areas → (area : Area) × (slice_get areas i ≡ Some area)
area_at [] i h = absurd (omega arith)
area_at (area ∷ areas) zero h = (area, refl)
area_at (area ∷ areas) (suc i) h = area_at areas i (omega arith)

counted : (areas : List Area) (i : ℕ) → IsSpace areas → i ≤ length areas → (i ≤ end_before areas i) × (end_before areas i ≤ 0x401000)
counted areas zero space h = (omega arith, omega arith)
counted areas (suc i) space h =
    let c = counted areas i space (omega arith) in
    let a = area_at areas i (omega arith) in
    let fits = fits_here areas i a.0 space a.1 in
    let some = placed_some a.0 fits.placed in
    let last = placed_end a.0 fits.placed in
    let order = fits.order in
    let end : end_before areas (suc i) ≡ end_of a.0 = end_here areas i a.0 a.1 in
    (omega (arith, c.0), omega arith)

pub pushed_on : {E : Type 0} {A : Type 0} {X : Type 0} (r : Result A E) (was now : List X) (x : X) → is_err r ≡ false → now ≡ cond (is_ok r) (was ++ x ∷ []) was → now ≡ was ++ x ∷ []
pushed_on (Ok a) was now x on e = e
pushed_on (Err b) was now x on e = cc

pub number_small : (areas : List Area) (i : ℕ) → IsSpace areas → i < length areas → i < 2 ^ 32
number_small areas i space h = let c = counted areas i space (omega arith) in omega (arith, c.0, c.1)

pub number_here : (m : ℕ) (area : Area) (areas : List Area) (page : ℕ) → has_page area page ≡ true → number_of_area m (area ∷ areas) page ≡ Some m
unfolding number_of_area
number_here m area areas page h = rw h refl

pub number_later : (m : ℕ) (area : Area) (areas : List Area) (page : ℕ) → has_page area page ≡ false → number_of_area m (area ∷ areas) page ≡ number_of_area (m + 1) areas page
unfolding number_of_area
number_later m area areas page h = rw h refl

pub number_none : (m page : ℕ) → number_of_area m [] page ≡ None
unfolding number_of_area
number_none m page = refl

-- the blocks at the start
starts_append : (areas : List Area) (blocks : List Block) (area : Area) (block : Block) → AreStarts areas blocks → IsStart area block → AreStarts (areas ++ area ∷ []) (blocks ++ block ∷ [])
unfolding AreStarts
starts_append [] [] area block all one = (one, tt)
starts_append [] (b ∷ blocks) area block all one = absurd all
starts_append (a ∷ areas) [] area block all one = absurd all
starts_append (a ∷ areas) (b ∷ blocks) area block all one = (all.0, starts_append areas blocks area block all.1 one)

pub starts_more : (areas : List Area) (blocks : List Block) (i : ℕ) (area : Area) (block : Block) → i < length areas → area ≡ get_or areas i area → AreStarts (take i areas) blocks → IsStart area block → AreStarts (take (i + 1) areas) (blocks ++ block ∷ [])
starts_more areas blocks i area block below is all one =
    let e : take (i + 1) areas ≡ take i areas ++ area ∷ [] = take_more areas i area below ∙ ap (λ a. take i areas ++ a ∷ []) (sym is) in
    rw e (starts_append (take i areas) blocks area block all one)

pub starts_none : AreStarts [] []
unfolding AreStarts
starts_none = tt

pub start_shape : (areas : List Area) (blocks : List Block) → AreStarts areas blocks → AreBlocks areas blocks
unfolding AreStarts AreBlocks
start_shape [] [] all = tt
start_shape [] (b ∷ blocks) all = absurd all
start_shape (a ∷ areas) [] all = absurd all
start_shape (a ∷ areas) (b ∷ blocks) all = (all.0.start, all.0.size, start_shape areas blocks all.1)

pub start_is : (areas : List Area) (blocks : List Block) → AreStarts areas blocks → memory_of areas blocks ≡ start_memory areas
unfolding AreStarts memory_of start_memory
start_is [] [] all = refl
start_is [] (b ∷ blocks) all = absurd all
start_is (a ∷ areas) [] all = absurd all
start_is (a ∷ areas) (b ∷ blocks) all = rw (all.0.bytes, start_is areas blocks all.1) refl

start_bytes : (areas : List Area) (blocks : List Block) (addr : ℕ) → AreStarts areas blocks → byte_at (memory_of areas blocks) addr < 256
unfolding AreStarts memory_of byte_at has_page
start_bytes [] [] addr all = omega arith
start_bytes [] (b ∷ blocks) addr all = absurd all
start_bytes (a ∷ areas) [] addr all = absurd all
start_bytes (a ∷ areas) (b ∷ blocks) addr all = elim (cases_Bool (has_page a (page_of addr))) [
  | inl here ↦ rw here (all.0.small (addr - 512 * a.first))
  | inr not_here ↦ rw not_here (start_bytes areas blocks addr all.1)
]

pub layout_start : (areas : List Area) → layout (start_memory areas) ≡ layout areas
unfolding layout start_memory
layout_start [] = refl
layout_start (a ∷ areas) = rw (layout_start areas) refl

pub start_whole : (areas : List Area) (blocks : List Block) → AreStarts areas blocks → IsWhole (start_memory areas)
unfolding AreStarts start_memory IsWhole
start_whole [] [] all = tt
start_whole [] (b ∷ blocks) all = absurd all
start_whole (a ∷ areas) [] all = absurd all
start_whole (a ∷ areas) (b ∷ blocks) all = (ap length (sym all.0.bytes) ∙ all.0.size, start_whole areas blocks all.1)

pub plain_start : (areas : List Area) (blocks : List Block) (owners : List (Option ℕ)) → AreStarts areas blocks → IsFull areas owners → IsPlain areas blocks owners
plain_start areas blocks owners starts full = record {
  size = full.size;
  owned = λ page n h. sym (full.owned page) ∙ h;
  starts = starts_are areas blocks (start_shape areas blocks starts);
  sizes = sizes_are areas blocks (start_shape areas blocks starts);
  bytes = record { below = λ addr. start_bytes areas blocks addr starts };
}

-- the table of owners, filled from its first place on
abbrev pub page_at : ℕ → ℕ
page_at place = cond (nat_lt place 0x8000) place (place + 0x3F0000)

pub record AreOwners (areas : List Area) (owners : List (Option ℕ)) (count : ℕ) : Type 0 where
  pub size : length owners ≡ count
  pub each : (place : ℕ) → place < count → get_or owners place None ≡ number_of_area 0 areas (page_at place)

pub owners_none : (areas : List Area) → AreOwners areas [] 0
owners_none areas = record { size = refl; each = λ place h. absurd (omega arith) }

pub owners_more : (areas : List Area) (owners : List (Option ℕ)) (count page : ℕ) (o : Option ℕ) → AreOwners areas owners count → page ≡ page_at count → o ≡ number_of_area 0 areas page → AreOwners areas (owners ++ o ∷ []) (count + 1)
owners_more areas owners count page o all e is = record {
  size = simp length-append (omega (arith, all.size));
  each = λ place h. elim (cases_lt place count) [
    | inl below ↦ get_or_append_left owners (o ∷ []) None place (omega (arith, all.size)) ∙ all.each place below
    | inr last ↦
        let same : place ≡ count = omega arith in
        let z : place - count ≡ 0 = omega arith in
        get_or-append_right owners (o ∷ []) count place None all.size last ∙ (rw z (is ∙ ap (number_of_area 0 areas) (e ∙ ap page_at (sym same))))
  ];
}

slot_page : (page place : ℕ) → slot page ≡ Some place → (place < 69632) × (page_at place ≡ page)
unfolding slot
slot_page page place h = (grind (arith, nat_tests), grind (arith, nat_tests))

no_slot : (area : Area) (page : ℕ) → is_placed area ≡ true → slot page ≡ None → has_page area page ≡ false
unfolding slot has_page
no_slot area page placed none =
    let low = placed_low area placed in
    let high = placed_high area placed in
    let end = placed_end area placed in
    grind (arith, nat_tests)

none_placed : (m : ℕ) (areas : List Area) (page : ℕ) → slot page ≡ None → ((k : ℕ) (area : Area) → slice_get areas k ≡ Some area → is_placed area ≡ true) → number_of_area m areas page ≡ None
unfolding number_of_area
none_placed m [] page none placed = refl
none_placed m (area ∷ areas) page none placed = rw (no_slot area page (placed 0 area refl) none) (none_placed (m + 1) areas page none (λ k a h. placed (suc k) a h))

owner_cases : (areas : List Area) (owners : List (Option ℕ)) (page : ℕ) (o : Option ℕ) → IsSpace areas → AreOwners areas owners 69632 → slot page ≡ o → at_slot owners o ≡ number_of_area 0 areas page
owner_cases areas owners page None space all e = sym (none_placed 0 areas page e (λ k area h. (fits_here areas k area space h).placed))
owner_cases areas owners page (Some place) space all e =
    let p = slot_page page place e in
    all.each place p.0 ∙ ap (number_of_area 0 areas) p.1

pub owners_full : (areas : List Area) (owners : List (Option ℕ)) (count : ℕ) → IsSpace areas → count ≡ 69632 → AreOwners areas owners count → IsFull areas owners
owners_full areas owners count space e all =
    let all' : AreOwners areas owners 69632 = subst (AreOwners areas owners) e all in
    record {
      size = all'.size;
      owned = λ page. owner_cases areas owners page (slot page) space all' refl;
    }

pub page_low : (page place : ℕ) → place < 0x8000 → page ≡ place → page ≡ page_at place
page_low page place h e = grind (arith, nat_tests)

pub page_high : (page place : ℕ) → 0x8000 ≤ place → page ≡ place + 0x3F0000 → page ≡ page_at place
page_high page place h e = grind (arith, nat_tests)

-- the byte of an area's page
pub some_byte : (areas : List Area) (page i v w : ℕ) → Some i ≡ number_of_area 0 areas page → v ≡ w → Some v ≡ cond (is_some (area_of areas page)) (Some w) None
some_byte areas page i v w h e = rw (← area_some 0 areas page, ← h) (ap Some e)

pub no_byte : (areas : List Area) (page w : ℕ) → None ≡ number_of_area 0 areas page → None ≡ cond (is_some (area_of areas page)) (Some w) None
no_byte areas page w h = rw (← area_some 0 areas page, ← h) refl

pub no_area : (areas : List Area) (page : ℕ) → IsSpace areas → None ≡ slot page → is_some (area_of areas page) ≡ false
no_area areas page space h = sym (area_some 0 areas page) ∙ ap is_some (none_placed 0 areas page (sym h) (λ k area e. (fits_here areas k area space e).placed))
