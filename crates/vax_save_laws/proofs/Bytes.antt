-- An area's bytes are those of its pages, one behind the other.
use Rattle.std.proofs.Common.{◌≡◌, ℕ, zero, suc, ◌+◌, ◌-◌, ◌*◌, ◌^◌, ◌<◌, ◌≤◌, true, false, List, ◌∷◌, ◌++◌, length, drop, get_or, refl, sym, ap, ◌∙◌, arith, drop-cons}
use Rattle.std.specs.Prelude.{nat_le, nat_lt}
use Rattle.std.specs.List.{flat_map, range_with_len}
use Rattle.std.proofs.lemmas.Bool.{le-leb, lt-ltb, le-ltb}
use Rattle.std.proofs.lemmas.List.{drop_all}
use Rattle.vax_space.specs.declared.Area.{Area}
use Rattle.vax_space.specs.Areas.{end_of, has_page, pages_of}
use Rattle.vax_space.specs.Reference.{page_of}
use Rattle.vax_flat.specs.Memory.{after, byte_at, bytes_from}
use Rattle.vax_machine.specs.Paged.{page_bytes}

-- from this address on, a memory has these bytes from this place on
pub record Holds (byte : ℕ → ℕ) (addr : ℕ) (bytes : List ℕ) (place count : ℕ) : Type 0 where
  pub fits : place + count ≤ length bytes
  pub low : addr + count < 2 ^ 32
  pub are : (k : ℕ) → k < count → byte (addr + k) ≡ get_or bytes (place + k) 0

holds_next : (byte : ℕ → ℕ) (addr : ℕ) (bytes : List ℕ) (place count : ℕ) → Holds byte addr bytes place (suc count) → Holds byte (addr + 1) bytes (place + 1) count
holds_next byte addr bytes place count h = record {
  fits = omega (arith, h.fits);
  low = omega (arith, h.low);
  are = λ k less.
      let left : addr + 1 + k ≡ addr + suc k = omega arith in
      let right : place + suc k ≡ place + 1 + k = omega arith in
      ap byte left ∙ (h.are (suc k) (omega (arith, less)) ∙ ap (λ (n : ℕ). get_or bytes n 0) right);
}

pub bytes_then : (byte : ℕ → ℕ) (addr : ℕ) (bytes : List ℕ) (place count : ℕ) → Holds byte addr bytes place count → bytes_from byte addr count ++ drop (place + count) bytes ≡ drop place bytes
unfolding bytes_from
bytes_then byte addr bytes place zero h = let e : place + 0 ≡ place = omega arith in ap (λ (n : ℕ). drop n bytes) e
bytes_then byte addr bytes place (suc count) h =
    let fits = h.fits in
    let low = h.low in
    let first : byte addr ≡ get_or bytes place 0 = (let a : addr ≡ addr + 0 = omega arith in ap byte a) ∙ (h.are 0 (omega arith) ∙ (let p : place + 0 ≡ place = omega arith in ap (λ (n : ℕ). get_or bytes n 0) p)) in
    let next : after addr ≡ addr + 1 = omega (arith, low) in
    let end : place + suc count ≡ place + 1 + count = omega arith in
    let one : place + 1 ≡ suc place = omega arith in
    let rest : bytes_from byte (after addr) count ++ drop (place + suc count) bytes ≡ drop (suc place) bytes =
    (λ i. bytes_from byte (next i) count ++ drop (end i) bytes) ∙ (bytes_then byte (addr + 1) bytes (place + 1) count (holds_next byte addr bytes place count h) ∙ ap (λ (n : ℕ). drop n bytes) one) in
    (λ i. first i ∷ rest i) ∙ sym (drop-cons bytes place 0 (omega (arith, fits)))

-- of pages, the first

pub holds_here : (byte : ℕ → ℕ) (first : ℕ) (bytes : List ℕ) (start count : ℕ) → Holds byte (512 * first) bytes (512 * start) (512 * suc count) → Holds byte (512 * first) bytes (512 * start) 512
holds_here byte first bytes start count h = record {
  fits = omega (arith, h.fits);
  low = omega (arith, h.low);
  are = λ k less. h.are k (omega (arith, less));
}

-- and those behind it
pub holds_behind : (byte : ℕ → ℕ) (first : ℕ) (bytes : List ℕ) (start count : ℕ) → Holds byte (512 * first) bytes (512 * start) (512 * suc count) → Holds byte (512 * (first + 1)) bytes (512 * (start + 1)) (512 * count)
holds_behind byte first bytes start count h = record {
  fits = omega (arith, h.fits);
  low = omega (arith, h.low);
  are = λ k less.
      let left : 512 * (first + 1) + k ≡ 512 * first + (512 + k) = omega arith in
      let right : 512 * start + (512 + k) ≡ 512 * (start + 1) + k = omega arith in
      ap byte left ∙ (h.are (512 + k) (omega (arith, less)) ∙ ap (λ (n : ℕ). get_or bytes n 0) right);
}

-- the pages of an area from one of them on
pages_then : (byte : ℕ → ℕ) (first : ℕ) (bytes : List ℕ) (start count : ℕ) → Holds byte (512 * first) bytes (512 * start) (512 * count) → length bytes ≡ 512 * (start + count)
    → flat_map (λ (page : ℕ). bytes_from byte (512 * page) 512) (range_with_len first count) ≡ drop (512 * start) bytes
pages_then byte first bytes start zero h len = sym (drop_all (512 * start) bytes (omega (arith, len)))
pages_then byte first bytes start (suc count) h len =
    let end : 512 * (start + 1) ≡ 512 * start + 512 = omega arith in
    let next = pages_then byte (first + 1) bytes (start + 1) count (holds_behind byte first bytes start count h) (omega (arith, len)) in
    ap (λ (t : List ℕ). bytes_from byte (512 * first) 512 ++ t) (next ∙ ap (λ (n : ℕ). drop n bytes) end) ∙ bytes_then byte (512 * first) bytes (512 * start) 512 (holds_here byte first bytes start count h)

byte_here : (area : Area) (areas : List Area) (k : ℕ) → k < 512 * area.pages → byte_at (area ∷ areas) (512 * area.first + k) ≡ get_or area.bytes k 0
unfolding byte_at has_page
byte_here area areas k less =
    let above : nat_le area.first (page_of (512 * area.first + k)) ≡ true = le-leb _ _ (omega arith) in
    let below : nat_lt (page_of (512 * area.first + k)) (end_of area) ≡ true = lt-ltb _ _ (omega (arith, less)) in
    let place : 512 * area.first + k - 512 * area.first ≡ k = omega arith in
    rw (above, below, place) refl

-- behind an area, the memory is that of the areas behind it
pub byte_behind : (area : Area) (areas : List Area) (addr : ℕ) → 512 * end_of area ≤ addr → byte_at (area ∷ areas) addr ≡ byte_at areas addr
unfolding byte_at has_page
byte_behind area areas addr behind =
    let above : nat_le area.first (page_of addr) ≡ true = le-leb _ _ (omega (arith, behind)) in
    let past : nat_lt (page_of addr) (end_of area) ≡ false = le-ltb _ _ (omega (arith, behind)) in
    rw (above, past) refl

-- a memory has these areas from this page on
abbrev pub HasFrom : ℕ → List Area → List Area → Type 0
HasFrom low areas memory = (addr : ℕ) → 512 * low ≤ addr → byte_at memory addr ≡ byte_at areas addr

pub area_holds : (memory : List Area) (area : Area) (areas : List Area) (low : ℕ) → HasFrom low (area ∷ areas) memory → low ≤ area.first → end_of area < 2 ^ 23 → length area.bytes ≡ 512 * area.pages
    → Holds (byte_at memory) (512 * area.first) area.bytes (512 * 0) (512 * area.pages)
area_holds memory area areas low has order top whole = record {
  fits = omega (arith, whole);
  low = omega (arith, top);
  are = λ k less.
      let same : k ≡ 512 * 0 + k = omega arith in
      has (512 * area.first + k) (omega (arith, order)) ∙ (byte_here area areas k less ∙ ap (λ (n : ℕ). get_or area.bytes n 0) same);
}

pub area_bytes : (memory : List Area) (area : Area) (areas : List Area) (low : ℕ) → HasFrom low (area ∷ areas) memory → low ≤ area.first → end_of area < 2 ^ 23 → length area.bytes ≡ 512 * area.pages
    → flat_map (page_bytes memory) (pages_of area) ≡ area.bytes
area_bytes memory area areas low has order top whole =
    pages_then (byte_at memory) area.first area.bytes 0 area.pages (area_holds memory area areas low has order top whole) (omega (arith, whole))
