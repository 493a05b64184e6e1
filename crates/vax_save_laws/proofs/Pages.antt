-- The pages of a memory are read again.
use Rattle.std.proofs.Common.{◌≡◌, ℕ, zero, suc, ◌+◌, ◌*◌, ◌^◌, ◌<◌, ◌≤◌, Bool, true, false, List, [], ◌∷◌, ◌++◌, length, replicate, Ok, refl, sym, ap, subst, ◌∙◌, append_assoc, arith, inl, inr}
use Rattle.std.specs.Prelude.{not, ◌&&◌, ◌==◌}
use Rattle.std.specs.List.{flat_map, range_with_len}
use Rattle.std.proofs.lemmas.Bool.Decides.{nat_tests}
use Rattle.std.proofs.lemmas.Bool.{cases_Bool, le-ltb, ne_eqb, eqb-true, eq-eqb}
use Rattle.std.proofs.lemmas.Grind.{flat_map-append}
use Rattle.vax_space.specs.declared.Area.{Area}
use Rattle.vax_space.specs.Areas.{end_of, pages_of}
use Rattle.vax_space.specs.Faults.{is_placed, is_protection}
use Rattle.vax_flat.specs.Memory.{IsWhole, after, bytes_from, byte_at}
use Rattle.vax_machine.specs.Paged.{page_bytes}
use Rattle.vax_save.specs.Restoring.{area_at, areas_at, count_at, extent_at, filled_at, mark_at, memory_at, page_at, page_or_zeros, pages_at, placed}
use Rattle.vax_save.specs.Saved.{area_field, content_field, end_mark, is_blank, longword, memory_field, page_field}
use Rattle.vax_save_laws.proofs.Ascending.{Ascend, IsBehind}
use Rattle.vax_save_laws.proofs.Bytes.{HasFrom, area_bytes, byte_behind}
use Rattle.vax_save_laws.proofs.Fields.{at, Reads, bytes_again, number_again}

-- ---- pages

-- a number stands first, of this page or of one behind it, or the mark
pub record Begins (low : ℕ) (text : List ℕ) : Type 0 where
  pub number : ℕ
  pub tail : List ℕ
  pub is : text ≡ longword number ++ tail
  pub behind : low ≤ number
  pub long : number < 256 ^ 4

begins_lower : (low high : ℕ) (text : List ℕ) → low ≤ high → Begins high text → Begins low text
begins_lower low high text le b = record { number = b.number; tail = b.tail; is = b.is; behind = omega (arith, le, b.behind); long = b.long }

abbrev blocks : (ℕ → List ℕ) → ℕ → ℕ → List ℕ
blocks f page count = flat_map (λ (p : ℕ). content_field p (f p)) (range_with_len page count)

pub pages_begin : (f : ℕ → List ℕ) (page count : ℕ) (rest : List ℕ) → page + count < 2 ^ 32 → Begins (page + count) rest → Begins page (blocks f page count ++ rest)
pages_begin f page zero rest low b = begins_lower page (page + 0) rest (omega arith) b
pages_begin f page (suc count) rest low b = elim (cases_Bool (is_blank (f page))) [
  | inl blank ↦
      let same : blocks f page (suc count) ++ rest ≡ blocks f (page + 1) count ++ rest = rw blank refl in
      let behind : page + suc count ≡ page + 1 + count = omega arith in
      let next = pages_begin f (page + 1) count rest (omega (arith, low)) (subst (λ (n : ℕ). Begins n rest) behind b) in
      begins_lower page (page + 1) (blocks f page (suc count) ++ rest) (omega arith) (subst (λ (t : List ℕ). Begins (page + 1) t) (sym same) next)
  | inr some ↦ record {
    number = page;
    tail = f page ++ (blocks f (page + 1) count ++ rest);
    is = rw some (simp append_assoc refl);
    behind = omega arith;
    long = omega (arith, low);
  }
]

zeros_again : (bytes : List ℕ) → is_blank bytes ≡ true → bytes ≡ replicate (length bytes) 0
zeros_again [] blank = refl
zeros_again (b ∷ bytes) blank = elim (cases_Bool (b == 0)) [
  | inl zero_is ↦
      let first : b ≡ 0 = eqb-true b 0 zero_is in
      let rest : bytes ≡ replicate (length bytes) 0 = zeros_again bytes (sym (ap (λ (c : Bool). c && is_blank bytes) zero_is) ∙ blank) in
      λ i. first i ∷ rest i
  | inr other ↦ absurd (let no : false ≡ true = sym (ap (λ (c : Bool). c && is_blank bytes) other) ∙ blank in cc)
]

blank_page : (page : ℕ) (bytes rest : List ℕ) (place : ℕ) → length bytes ≡ 512 → is_blank bytes ≡ true → Begins (page + 1) rest → page_or_zeros page (at place rest) ≡ Ok (bytes, at place rest)
unfolding page_or_zeros
blank_page page bytes rest place len blank b =
    let zeros : replicate 512 0 ≡ bytes = ap (λ (n : ℕ). replicate n 0) (sym len) ∙ sym (zeros_again bytes blank) in
    let other : (b.number == page) ≡ false = ne_eqb b.number page (λ e. omega (arith, e, b.behind)) in
    let read = ap (λ (t : List ℕ). page_or_zeros page (at place t)) b.is in
    let there : page_or_zeros page (at place (longword b.number ++ b.tail)) ≡ Ok (replicate 512 0, at place (longword b.number ++ b.tail)) = rw (number_again 4 b.number b.tail place b.long, other) refl in
    read ∙ (there ∙ λ i. Ok (zeros i, at place (sym b.is i)))

some_page : (page : ℕ) (bytes rest : List ℕ) (place : ℕ) → page < 256 ^ 4 → length bytes ≡ 512 → is_blank bytes ≡ false → page_or_zeros page (at place (longword page ++ (bytes ++ rest))) ≡ Ok (bytes, at (place + 4 + 512) rest)
unfolding page_or_zeros page_at
some_page page bytes rest place long len some =
    rw (number_again 4 page (bytes ++ rest) place long, eq-eqb page page refl, bytes_again 512 bytes rest (place + 4) len, some) refl

pub record IsPaged (f : ℕ → List ℕ) : Type 0 where
  pub length_is : (page : ℕ) → length (f page) ≡ 512

pub pages_again : (f : ℕ → List ℕ) (page count : ℕ) (rest : List ℕ) (place : ℕ) → IsPaged f → page + count < 2 ^ 32 → Begins (page + count) rest
    → Reads (pages_at page count (at place (blocks f page count ++ rest))) (flat_map f (range_with_len page count)) rest
unfolding pages_at
pages_again f page zero rest place paged low b = record { behind = place; is = refl }
pages_again f page (suc count) rest place paged low b =
    let behind : page + suc count ≡ page + 1 + count = omega arith in
    let c = subst (λ (n : ℕ). Begins n rest) behind b in
    let next : List ℕ = blocks f (page + 1) count ++ rest in
    elim (cases_Bool (is_blank (f page))) [
      | inl blank ↦
          let r = pages_again f (page + 1) count rest place paged (omega (arith, low)) c in
          let same : blocks f page (suc count) ++ rest ≡ next = rw blank refl in
          let here = blank_page page (f page) next place (paged.length_is page) blank (pages_begin f (page + 1) count rest (omega (arith, low)) c) in
          record { behind = r.behind; is = rw (same, here, r.is) refl }
      | inr some ↦
          let r = pages_again f (page + 1) count rest (place + 4 + 512) paged (omega (arith, low)) c in
          let same : blocks f page (suc count) ++ rest ≡ longword page ++ (f page ++ next) = rw some (simp append_assoc refl) in
          let here = some_page page (f page) next place (omega (arith, low)) (paged.length_is page) some in
          record { behind = r.behind; is = rw (same, here, r.is) refl }
    ]

pub length_from : (byte : ℕ → ℕ) (addr count : ℕ) → length (bytes_from byte addr count) ≡ count
unfolding bytes_from
length_from byte addr zero = refl
length_from byte addr (suc count) = ap suc (length_from byte (after addr) count)

page_whole : (memory : List Area) → IsPaged (page_bytes memory)
page_whole memory = record { length_is = λ page. length_from (byte_at memory) (512 * page) 512 }

-- ---- areas

abbrev unfilled : List Area → List Area
unfilled [] = []
unfilled (area ∷ areas) = placed area.first area.pages area.prot ∷ unfilled areas

pub placed_low : (area : Area) → is_placed area ≡ true → end_of area ≤ 0x401000
unfolding is_placed
placed_low area is = grind (arith, nat_tests)

prot_low : (code : ℕ) → is_protection code ≡ true → code < 256 ^ 4
unfolding is_protection
prot_low code is = grind arith

placed_so : (area : Area) → is_placed area ≡ true → is_placed (placed area.first area.pages 0) ≡ true
unfolding is_placed
placed_so area is = is

extent_again : (low : ℕ) (area : Area) (rest : List ℕ) (place : ℕ) → IsBehind low area → extent_at low (at place (longword area.first ++ (longword area.pages ++ rest))) ≡ Ok ((area.first, area.pages), at (place + 4 + 4) rest)
unfolding extent_at
extent_again low area rest place is =
    let top = placed_low area is.is_in_region in
    rw (number_again 4 area.first (longword area.pages ++ rest) place (omega (arith, top)), number_again 4 area.pages rest (place + 4) (omega (arith, top)), le-ltb area.first low is.order, placed_so area is.is_in_region) refl

area_again : (low : ℕ) (area : Area) (rest : List ℕ) (place : ℕ) → IsBehind low area → area_at low (at place (area_field area ++ rest)) ≡ Ok (placed area.first area.pages area.prot, at (place + 4 + 4 + 4) rest)
unfolding area_at
area_again low area rest place is =
    let parts : area_field area ++ rest ≡ longword area.first ++ (longword area.pages ++ (longword area.prot ++ rest)) = simp append_assoc refl in
    let sound : not (is_protection area.prot) ≡ false = ap not is.protection in
    rw (parts, extent_again low area (longword area.prot ++ rest) place is, number_again 4 area.prot rest (place + 4 + 4) (prot_low area.prot is.protection), sound) refl

pub areas_again : (low : ℕ) (areas : List Area) (rest : List ℕ) (place : ℕ) → Ascend low areas → Reads (areas_at low (length areas) (at place (flat_map area_field areas ++ rest))) (unfilled areas) rest
unfolding areas_at Ascend
areas_again low [] rest place ascend = record { behind = place; is = refl }
areas_again low (area ∷ areas) rest place ascend =
    let parts : flat_map area_field (area ∷ areas) ++ rest ≡ area_field area ++ (flat_map area_field areas ++ rest) = append_assoc (area_field area) (flat_map area_field areas) rest in
    let r = areas_again (end_of area) areas rest (place + 4 + 4 + 4) ascend.1 in
    let first = area_again low area (flat_map area_field areas ++ rest) place ascend.0 in
    record { behind = r.behind; is = rw (parts, first, r.is) refl }

-- ---- areas with their bytes

abbrev fields : List Area → List Area → List ℕ
fields memory areas = flat_map (page_field memory) (flat_map pages_of areas)

fields_split : (memory : List Area) (area : Area) (areas : List Area) (rest : List ℕ) → fields memory (area ∷ areas) ++ rest ≡ blocks (page_bytes memory) area.first area.pages ++ (fields memory areas ++ rest)
fields_split memory area areas rest =
    ap (λ (t : List ℕ). t ++ rest) (flat_map-append (page_field memory) (pages_of area) (flat_map pages_of areas)) ∙ append_assoc (blocks (page_bytes memory) area.first area.pages) (fields memory areas) rest

abbrev ending : List ℕ → List ℕ
ending rest = longword end_mark ++ rest

fields_begin : (memory : List Area) (low : ℕ) (areas : List Area) (rest : List ℕ) → low ≤ 0x401000 → Ascend low areas → Begins low (fields memory areas ++ ending rest)
unfolding Ascend
fields_begin memory low [] rest few ascend = record { number = end_mark; tail = rest; is = refl; behind = omega (arith, few); long = omega arith }
fields_begin memory low (area ∷ areas) rest few ascend =
    let top = placed_low area ascend.0.is_in_region in
    let next = fields_begin memory (end_of area) areas rest top ascend.1 in
    let here = pages_begin (page_bytes memory) area.first area.pages (fields memory areas ++ ending rest) (omega (arith, top)) next in
    subst (λ (t : List ℕ). Begins low t) (sym (fields_split memory area areas (ending rest))) (begins_lower low area.first (blocks (page_bytes memory) area.first area.pages ++ (fields memory areas ++ ending rest)) ascend.0.order here)

pub filled_again : (memory : List Area) (low : ℕ) (areas : List Area) (rest : List ℕ) (place : ℕ) → HasFrom low areas memory → Ascend low areas → IsWhole areas
    → Reads (filled_at (unfilled areas) (at place (fields memory areas ++ ending rest))) areas (ending rest)
unfolding filled_at Ascend IsWhole
filled_again memory low [] rest place has ascend whole = record { behind = place; is = refl }
filled_again memory low (area ∷ areas) rest place has ascend whole =
    let top = placed_low area ascend.0.is_in_region in
    let order = ascend.0.order in
    let next : List ℕ = fields memory areas ++ ending rest in
    let here = pages_again (page_bytes memory) area.first area.pages next place (page_whole memory) (omega (arith, top)) (fields_begin memory (end_of area) areas rest top ascend.1) in
    let bytes : flat_map (page_bytes memory) (pages_of area) ≡ area.bytes = area_bytes memory area areas low has order (omega (arith, top)) whole.0 in
    let behind : HasFrom (end_of area) areas memory = λ addr above. has addr (omega (arith, above, order)) ∙ byte_behind area areas addr above in
    let r = filled_again memory (end_of area) areas rest here.behind behind ascend.1 whole.1 in
    record { behind = r.behind; is = rw (fields_split memory area areas (ending rest), here.is, r.is, bytes) refl }

pub memory_again : (memory : List Area) (rest : List ℕ) (place : ℕ) → 0 < length memory → length memory ≤ 256 → Ascend 0 memory → IsWhole memory → Reads (memory_at (at place (memory_field memory ++ rest))) memory rest
unfolding memory_at memory_field count_at mark_at
memory_again memory rest place some few ascend whole =
    let parts : memory_field memory ++ rest ≡ longword (length memory) ++ (flat_map area_field memory ++ (fields memory memory ++ ending rest)) = simp append_assoc refl in
    let nonzero : (length memory == 0) ≡ false = ne_eqb (length memory) 0 (λ e. omega (arith, e, some)) in
    let areas = areas_again 0 memory (fields memory memory ++ ending rest) (place + 4) ascend in
    let filled = filled_again memory 0 memory rest areas.behind (λ addr above. refl) ascend whole in
    record {
      behind = filled.behind + 4;
      is =
          rw (
            parts,
            number_again 4 (length memory) (flat_map area_field memory ++ (fields memory memory ++ ending rest)) place (omega (arith, few)),
            nonzero,
            le-ltb 256 (length memory) few,
            areas.is,
            filled.is,
            number_again 4 end_mark rest filled.behind (omega arith),
          ) refl;
    }
