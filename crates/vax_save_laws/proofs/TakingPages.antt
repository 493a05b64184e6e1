-- The memory that was read is the bytes that it took.
use Rattle.std.proofs.Common.{◌≡◌, ℕ, zero, suc, ◌+◌, ◌*◌, ◌≤◌, Bool, true, false, cond, List, [], ◌∷◌, ◌++◌, length, take, drop, replicate, Ok, refl, sym, ap, subst, ◌∙◌, append_assoc, arith}
use Rattle.std.specs.Prelude.{not, nat_lt, ◌||◌, ◌==◌}
use Rattle.std.specs.List.{flat_map, range_with_len}
use Rattle.std.proofs.lemmas.Bool.{ltb-false, eqb-true}
use Rattle.std.proofs.lemmas.Grind.{flat_map-append}
use Rattle.std.proofs.lemmas.List.{take_at, drop_at, length-append, length-replicate}
use Rattle.vax_space.specs.declared.Area.{Area}
use Rattle.vax_space.specs.Areas.{end_of, pages_of}
use Rattle.vax_space.specs.Faults.{is_placed, is_protection}
use Rattle.vax_flat.specs.Memory.{IsWhole, bytes_from, byte_at}
use Rattle.vax_save.specs.Restoring.{Cursor, area_at, areas_at, count_at, extent_at, filled_at, is_placed_so, mark_at, memory_at, page_at, page_or_zeros, pages_at, placed}
use Rattle.vax_save.specs.Saved.{area_field, content_field, end_mark, is_blank, longword, memory_field, page_field}
use Rattle.vax_save_laws.proofs.Ascending.{Ascend, IsBehind}
use Rattle.vax_save_laws.proofs.Bytes.{HasFrom, Holds, area_holds, byte_behind, bytes_then, holds_behind, holds_here}
use Rattle.vax_save_laws.proofs.Pages.{length_from, placed_low}
use Rattle.vax_save_laws.specs.Saveable.{IsBytes}
use Rattle.vax_save_laws.proofs.Taking.{Takes, bind_ok, bytes_take, not_false, number_takes, ok_is, or_false, sound_takes, takes_none, takes_then, unless_ok, wide4}

-- ---- pages

-- what a page took, by its bytes
record IsPage (page : ℕ) (c : Cursor) (x : List ℕ × Cursor) : Type 0 where
  takes : Takes c (content_field page x.0) x.1
  length_is : length x.0 ≡ 512

page_takes : (c : Cursor) (x : List ℕ × Cursor) → IsBytes c.rest → page_at c ≡ Ok x → Takes c x.0 x.1 × ((length x.0 ≡ 512) × (is_blank x.0 ≡ false))
unfolding page_at
page_takes c x fits e =
    let a = bind_ok _ _ x e in
    let t = bytes_take 512 c a.0 fits a.1 in
    let g = unless_ok (is_blank a.0.0) _ _ a.0 x a.2 in
    subst (λ (y : List ℕ × Cursor). Takes c y.0 y.1 × ((length y.0 ≡ 512) × (is_blank y.0 ≡ false))) g.1 (t.0, (t.1, g.0))

here_or_zeros : (b : Bool) (page number : ℕ) (c next : Cursor) (x : List ℕ × Cursor) → IsBytes c.rest → (number == page) ≡ b → Takes c (longword number) next → cond b (page_at next) (Ok (replicate 512 0, c)) ≡ Ok x → IsPage page c x
here_or_zeros true page number c next x fits is took e =
    let t = page_takes next x took.rest_fits e in
    let same : number ≡ page = eqb-true number page is in
    let first : Takes c (longword page) next = subst (λ (n : ℕ). Takes c (longword n) next) same took in
    record { takes = rw t.1.1 (takes_then c (longword page) next x.0 x.1 first t.0); length_is = t.1.0 }
here_or_zeros false page number c next x fits is took e =
    subst (λ (y : List ℕ × Cursor). IsPage page c y) (ok_is (replicate 512 0, c) x e) (record { takes = takes_none c fits; length_is = length-replicate {A = ℕ} 512 0 })

page_or_zeros_takes : (page : ℕ) (c : Cursor) (x : List ℕ × Cursor) → IsBytes c.rest → page_or_zeros page c ≡ Ok x → IsPage page c x
unfolding page_or_zeros
page_or_zeros_takes page c x fits e =
    let a = bind_ok _ _ x e in
    let t = number_takes 4 wide4 c a.0 fits a.1 in
    here_or_zeros (a.0.0 == page) page a.0.0 c a.0.1 x fits refl t.0 a.2

-- the pages that these bytes are
abbrev pub blocks_of : ℕ → ℕ → List ℕ → List ℕ
blocks_of page zero bytes = []
blocks_of page (suc count) bytes = content_field page (take 512 bytes) ++ blocks_of (page + 1) count (drop 512 bytes)

pub record ArePages (page count : ℕ) (c : Cursor) (x : List ℕ × Cursor) : Type 0 where
  pub takes : Takes c (blocks_of page count x.0) x.1
  pub length_is : length x.0 ≡ 512 * count

pub pages_take : (page count : ℕ) (c : Cursor) (x : List ℕ × Cursor) → IsBytes c.rest → pages_at page count c ≡ Ok x → ArePages page count c x
unfolding pages_at
pages_take page zero c x fits e = subst (λ (y : List ℕ × Cursor). ArePages page 0 c y) (ok_is ([], c) x e) (record { takes = takes_none c fits; length_is = refl })
pages_take page (suc count) c x fits e =
    let a = bind_ok _ _ x e in
    let b = bind_ok _ _ x a.2 in
    let p = page_or_zeros_takes page c a.0 fits a.1 in
    let q = pages_take (page + 1) count a.0.1 b.0 p.takes.rest_fits b.1 in
    let text = takes_then c (content_field page a.0.0) a.0.1 (blocks_of (page + 1) count b.0.0) b.0.1 p.takes q.takes in
    let first : take 512 (a.0.0 ++ b.0.0) ≡ a.0.0 = take_at a.0.0 b.0.0 512 p.length_is in
    let rest : drop 512 (a.0.0 ++ b.0.0) ≡ b.0.0 = drop_at a.0.0 b.0.0 512 p.length_is in
    let same : content_field page a.0.0 ++ blocks_of (page + 1) count b.0.0 ≡ blocks_of page (suc count) (a.0.0 ++ b.0.0) = λ i. content_field page (sym first i) ++ blocks_of (page + 1) count (sym rest i) in
    subst (λ (y : List ℕ × Cursor). ArePages page (suc count) c y) (ok_is (a.0.0 ++ b.0.0, b.0.1) x b.2) (record {
      takes = subst (λ (t : List ℕ). Takes c t b.0.1) same text;
      length_is = omega (arith, length-append a.0.0 b.0.0, p.length_is, q.length_is);
    })

-- the pages of an area from one of them on
blocks_are : (byte : ℕ → ℕ) (first : ℕ) (bytes : List ℕ) (start count : ℕ) → Holds byte (512 * first) bytes (512 * start) (512 * count)
    → blocks_of first count (drop (512 * start) bytes) ≡ flat_map (λ (page : ℕ). content_field page (bytes_from byte (512 * page) 512)) (range_with_len first count)
blocks_are byte first bytes start zero h = refl
blocks_are byte first bytes start (suc count) h =
    let all = bytes_then byte (512 * first) bytes (512 * start) 512 (holds_here byte first bytes start count h) in
    let len = length_from byte (512 * first) 512 in
    let page : take 512 (drop (512 * start) bytes) ≡ bytes_from byte (512 * first) 512 = ap (take 512) (sym all) ∙ take_at (bytes_from byte (512 * first) 512) (drop (512 * start + 512) bytes) 512 len in
    let end : 512 * start + 512 ≡ 512 * (start + 1) = omega arith in
    let rest : drop 512 (drop (512 * start) bytes) ≡ drop (512 * (start + 1)) bytes =
    ap (drop 512) (sym all) ∙ (drop_at (bytes_from byte (512 * first) 512) (drop (512 * start + 512) bytes) 512 len ∙ ap (λ (n : ℕ). drop n bytes) end) in
    let next = ap (blocks_of (first + 1) count) rest ∙ blocks_are byte (first + 1) bytes (start + 1) count (holds_behind byte first bytes start count h) in
    λ i. content_field first (page i) ++ next i

-- the pages of areas, by the areas' own bytes
abbrev texts : List Area → List ℕ
texts [] = []
texts (area ∷ areas) = blocks_of area.first area.pages area.bytes ++ texts areas

texts_are : (memory : List Area) (low : ℕ) (areas : List Area) → HasFrom low areas memory → Ascend low areas → IsWhole areas → texts areas ≡ flat_map (page_field memory) (flat_map pages_of areas)
unfolding Ascend IsWhole
texts_are memory low [] has ascend whole = refl
texts_are memory low (area ∷ areas) has ascend whole =
    let top = placed_low area ascend.0.is_in_region in
    let order = ascend.0.order in
    let here = blocks_are (byte_at memory) area.first area.bytes 0 area.pages (area_holds memory area areas low has order (omega (arith, top)) whole.0) in
    let behind : HasFrom (end_of area) areas memory = λ addr above. has addr (omega (arith, above, order)) ∙ byte_behind area areas addr above in
    let next = texts_are memory (end_of area) areas behind ascend.1 whole.1 in
    (λ i. here i ++ next i) ∙ sym (flat_map-append (page_field memory) (pages_of area) (flat_map pages_of areas))

-- ---- areas

extent_takes : (low : ℕ) (c : Cursor) (x : (ℕ × ℕ) × Cursor) → IsBytes c.rest → extent_at low c ≡ Ok x → Takes c (longword x.0.0 ++ longword x.0.1) x.1 × ((low ≤ x.0.0) × (is_placed_so x.0.0 x.0.1 ≡ true))
unfolding extent_at
extent_takes low c x fits e =
    let a = bind_ok _ _ x e in
    let b = bind_ok _ _ x a.2 in
    let t = number_takes 4 wide4 c a.0 fits a.1 in
    let u = number_takes 4 wide4 a.0.1 b.0 t.0.rest_fits b.1 in
    let g = unless_ok (nat_lt a.0.0 low || not (is_placed_so a.0.0 b.0.0)) _ _ ((a.0.0, b.0.0), b.0.1) x b.2 in
    let s = or_false (nat_lt a.0.0 low) (not (is_placed_so a.0.0 b.0.0)) g.0 in
    subst (λ (y : (ℕ × ℕ) × Cursor). Takes c (longword y.0.0 ++ longword y.0.1) y.1 × ((low ≤ y.0.0) × (is_placed_so y.0.0 y.0.1 ≡ true))) g.1
    (takes_then c (longword a.0.0) a.0.1 (longword b.0.0) b.0.1 t.0 u.0, (ltb-false _ _ s.0, not_false _ s.1))

placed_any : (first pages prot : ℕ) → is_placed_so first pages ≡ true → is_placed (placed first pages prot) ≡ true
unfolding is_placed
placed_any first pages prot is = is

area_takes : (low : ℕ) (c : Cursor) (x : Area × Cursor) → IsBytes c.rest → area_at low c ≡ Ok x → Takes c (area_field x.0) x.1 × IsBehind low x.0
unfolding area_at
area_takes low c x fits e =
    let a = bind_ok _ _ x e in
    let b = bind_ok _ _ x a.2 in
    let t = extent_takes low c a.0 fits a.1 in
    let u = sound_takes 4 wide4 _ _ a.0.1 b.0 t.0.rest_fits b.1 in
    let area : Area = placed a.0.0.0 a.0.0.1 b.0.0 in
    let text = takes_then c (longword area.first ++ longword area.pages) a.0.1 (longword area.prot) b.0.1 t.0 u.takes in
    let behind : IsBehind low area = record { order = t.1.0; is_in_region = placed_any area.first area.pages area.prot t.1.1; protection = not_false (is_protection b.0.0) u.sound } in
    subst (λ (y : Area × Cursor). Takes c (area_field y.0) y.1 × IsBehind low y.0) (ok_is (area, b.0.1) x b.2)
    (subst (λ (z : List ℕ). Takes c z b.0.1) (append_assoc (longword area.first) (longword area.pages) (longword area.prot)) text, behind)

record AreAreas (low count : ℕ) (c : Cursor) (x : List Area × Cursor) : Type 0 where
  takes : Takes c (flat_map area_field x.0) x.1
  count_is : length x.0 ≡ count
  ascend : Ascend low x.0

areas_take : (low count : ℕ) (c : Cursor) (x : List Area × Cursor) → IsBytes c.rest → areas_at low count c ≡ Ok x → AreAreas low count c x
unfolding areas_at Ascend
areas_take low zero c x fits e = subst (λ (y : List Area × Cursor). AreAreas low 0 c y) (ok_is ([], c) x e) (record { takes = takes_none c fits; count_is = refl; ascend = tt })
areas_take low (suc count) c x fits e =
    let a = bind_ok _ _ x e in
    let b = bind_ok _ _ x a.2 in
    let t = area_takes low c a.0 fits a.1 in
    let u = areas_take (end_of a.0.0) count a.0.1 b.0 t.0.rest_fits b.1 in
    subst (λ (y : List Area × Cursor). AreAreas low (suc count) c y) (ok_is (a.0.0 ∷ b.0.0, b.0.1) x b.2) (record {
      takes = takes_then c (area_field a.0.0) a.0.1 (flat_map area_field b.0.0) b.0.1 t.0 u.takes;
      count_is = ap suc u.count_is;
      ascend = (t.1, u.ascend);
    })

-- ---- areas with their bytes

in_region : (area : Area) (bytes : List ℕ) → is_placed area ≡ true → is_placed (record area { bytes = bytes }) ≡ true
unfolding is_placed
in_region area bytes is = is

record AreFilled (low : ℕ) (areas : List Area) (c : Cursor) (x : List Area × Cursor) : Type 0 where
  takes : Takes c (texts x.0) x.1
  whole : IsWhole x.0
  ascend : Ascend low x.0
  fields : flat_map area_field x.0 ≡ flat_map area_field areas
  count_is : length x.0 ≡ length areas

filled_take : (low : ℕ) (areas : List Area) (c : Cursor) (x : List Area × Cursor) → Ascend low areas → IsBytes c.rest → filled_at areas c ≡ Ok x → AreFilled low areas c x
unfolding filled_at Ascend IsWhole
filled_take low [] c x ascend fits e = subst (λ (y : List Area × Cursor). AreFilled low [] c y) (ok_is ([], c) x e) (record { takes = takes_none c fits; whole = tt; ascend = tt; fields = refl; count_is = refl })
filled_take low (area ∷ areas) c x ascend fits e =
    let a = bind_ok _ _ x e in
    let b = bind_ok _ _ x a.2 in
    let p = pages_take area.first area.pages c a.0 fits a.1 in
    let q = filled_take (end_of area) areas a.0.1 b.0 ascend.1 p.takes.rest_fits b.1 in
    let here : IsBehind low (record area { bytes = a.0.0 }) = record { order = ascend.0.order; is_in_region = in_region area a.0.0 ascend.0.is_in_region; protection = ascend.0.protection } in
    subst (λ (y : List Area × Cursor). AreFilled low (area ∷ areas) c y) (ok_is (record area { bytes = a.0.0 } ∷ b.0.0, b.0.1) x b.2) (record {
      takes = takes_then c (blocks_of area.first area.pages a.0.0) a.0.1 (texts b.0.0) b.0.1 p.takes q.takes;
      whole = (p.length_is, q.whole);
      ascend = (here, q.ascend);
      fields = ap (λ (t : List ℕ). area_field area ++ t) q.fields;
      count_is = ap suc q.count_is;
    })

pub memory_takes : (c : Cursor) (x : List Area × Cursor) → IsBytes c.rest → memory_at c ≡ Ok x → Takes c (memory_field x.0) x.1
unfolding memory_at memory_field count_at mark_at
memory_takes c x fits e =
    let a = bind_ok _ _ x e in
    let b = bind_ok _ _ x a.2 in
    let d = bind_ok _ _ x b.2 in
    let f = bind_ok _ _ x d.2 in
    let t = sound_takes 4 wide4 _ _ c a.0 fits a.1 in
    let u = areas_take 0 a.0.0 a.0.1 b.0 t.takes.rest_fits b.1 in
    let v = filled_take 0 b.0.0 b.0.1 d.0 u.ascend u.takes.rest_fits d.1 in
    let w = sound_takes 4 wide4 _ _ d.0.1 f.0 v.takes.rest_fits f.1 in
    let memory : List Area = d.0.0 in
    let mark : f.0.0 ≡ end_mark = eqb-true f.0.0 end_mark (not_false (f.0.0 == end_mark) w.sound) in
    let last : Takes d.0.1 (longword end_mark) f.0.1 = subst (λ (n : ℕ). Takes d.0.1 (longword n) f.0.1) mark w.takes in
    let pages : Takes b.0.1 (flat_map (page_field memory) (flat_map pages_of memory)) d.0.1 = subst (λ (z : List ℕ). Takes b.0.1 z d.0.1) (texts_are memory 0 memory (λ addr above. refl) v.ascend v.whole) v.takes in
    let areas : Takes a.0.1 (flat_map area_field memory) b.0.1 = subst (λ (z : List ℕ). Takes a.0.1 z b.0.1) (sym v.fields) u.takes in
    let count : Takes c (longword (length memory)) a.0.1 = subst (λ (n : ℕ). Takes c (longword n) a.0.1) (sym (v.count_is ∙ u.count_is)) t.takes in
    let front = takes_then c (longword (length memory)) a.0.1 (flat_map area_field memory) b.0.1 count areas in
    let back = takes_then b.0.1 (flat_map (page_field memory) (flat_map pages_of memory)) d.0.1 (longword end_mark) f.0.1 pages last in
    subst (λ (y : List Area × Cursor). Takes c (memory_field y.0) y.1) (ok_is (memory, f.0.1) x f.2)
    (takes_then c (longword (length memory) ++ flat_map area_field memory) b.0.1 (flat_map (page_field memory) (flat_map pages_of memory) ++ longword end_mark) f.0.1 front back)
