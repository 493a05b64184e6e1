-- Bytes of memory that are shown.
use Rattle.std.proofs.Common.{ℕ, zero, suc, ◌≡◌, ◌≢◌, ◌+◌, ◌*◌, ◌-◌, ◌%◌, ◌^◌, ◌<◌, Bool, true, false, List, [], ◌∷◌, ◌++◌, length, take, if◌then◌else◌, refl, ap, sym, ◌∙◌, subst, arith, inl, inr, Option, Some, None, slice_index}
use Rattle.std.specs.Prelude.{IfSome, is_some}
use Rattle.std.specs.Prelude.{slice_set}
use Rattle.std.proofs.lemmas.Bool.{cases_Bool}
use Rattle.std.proofs.lemmas.List.{length-take-le, take_all, take_more_set}
use Rattle.vax_space.specs.declared.Area.{Area}
use Rattle.vax_space.specs.Areas.{area_of, has_page}
use Rattle.vax_space.specs.Reference.{byte_after, page_of}
use Rattle.vax_space.proofs.References.{after_more}
use Rattle.vax_outside.specs.Blocks.{BlockFile}
use Rattle.vax_flat.specs.Memory.{after, byte_at}
use Rattle.vax_flat.specs.Port.{layout}
use Rattle.vax_pager.specs.Paging.{Paging, StandsWith}
use Rattle.vax_pager.specs.Poking.{IsPage}
use Rattle.vax_pager.specs.Meaning.{pages}
use Rattle.vax_space.specs.Faults.{IsSpace}
use Rattle.vax_flat.specs.Memory.{bytes_from}
use Rattle.vax_flat.specs.Parts.{machine_at}
use Rattle.vax_machine.proofs.Moving.{from_bytes}
use Rattle.vax_machine.proofs.Touching.{page_small}
use Rattle.vax_machine.specs.declared.engine.Engine.{Engine}
use Rattle.vax_machine.specs.Console.{AreShown, IsPageOf, ShowsPage, cell_in, memory_at, memory_from}

-- a page that was read

pub turned : (page : Option (List ℕ)) (s : Paging) (file : Option BlockFile) (number : ℕ) (memory : List Area) → IfSome page (IsPage s file number) → StandsWith s file memory → IfSome page (IsPageOf memory number)
turned None s file number memory h st = tt
turned (Some bytes) s file number memory h st = λ k low. h memory st k low

-- areas alike have the same pages

has_layout : (areas : List Area) (page : ℕ) → is_some (area_of (layout areas) page) ≡ is_some (area_of areas page)
unfolding area_of layout has_page
has_layout [] page = refl
has_layout (area ∷ areas) page = elim (cases_Bool (has_page area page)) [
  | inl here ↦ rw here refl
  | inr other ↦ rw other (has_layout areas page)
]

has_alike : (a b : List Area) (page : ℕ) → layout a ≡ layout b → is_some (area_of a page) ≡ is_some (area_of b page)
has_alike a b page e = sym (has_layout a page) ∙ (ap (λ (z : List Area). is_some (area_of z page)) e ∙ has_layout b page)

pub has_as : (s : Paging) (file : Option BlockFile) (memory : List Area) (page : ℕ) → StandsWith s file memory → is_some (area_of memory page) ≡ is_some (area_of s.areas page)
has_as s None memory page st = absurd st
has_as s (Some file) memory page st = has_alike memory s.areas page st.areas

-- a cell of it

in_page : (addr : ℕ) → 512 * page_of addr + addr % 512 ≡ addr
in_page addr = omega arith

some_if : (b : Bool) (x : ℕ) → b ≡ true → Some x ≡ (if b then Some x else None)
some_if b x e = rw e refl

none_if : (b : Bool) (x : ℕ) → b ≡ false → None ≡ (if b then Some x else None)
none_if b x e = rw e refl

pub cell_shown : (page : Option (List ℕ)) (memory : List Area) (addr : ℕ) → is_some page ≡ is_some (area_of memory (page_of addr)) → IfSome page (IsPageOf memory (page_of addr)) → cell_in page addr ≡ memory_at memory addr
cell_shown None memory addr there h = none_if (is_some (area_of memory (page_of addr))) (byte_at memory addr) (sym there)
cell_shown (Some bytes) memory addr there h =
    let e : slice_index bytes (addr % 512) ≡ byte_at memory addr = h (addr % 512) (omega arith) ∙ ap (byte_at memory) (in_page addr) in
    ap (λ (z : ℕ). Some z) e ∙ some_if (is_some (area_of memory (page_of addr))) (byte_at memory addr) (sym there)

pub cell_there : (page : Option (List ℕ)) (addr : ℕ) → is_some (cell_in page addr) ≡ is_some page
cell_there None addr = refl
cell_there (Some bytes) addr = refl

-- one cell more

first_byte : (addr : ℕ) → addr < 2 ^ 32 → byte_after addr 0 ≡ addr
first_byte addr low = omega (arith, low)

after_low : (addr : ℕ) → after addr < 2 ^ 32
after_low addr = omega arith

pub memory_more : (memory : List Area) (addr n : ℕ) → addr < 2 ^ 32 → memory_from memory addr (n + 1) ≡ memory_from memory addr n ++ memory_at memory (byte_after addr n) ∷ []
unfolding memory_from
memory_more memory addr zero low = ap (λ (z : ℕ). memory_at memory z ∷ []) (sym (first_byte addr low))
memory_more memory addr (suc n) low =
    let e : suc n + 1 ≡ suc (n + 1) = omega arith in
    let more = memory_more memory (after addr) n (after_low addr) in
    rw e (ap (λ (zs : List (Option ℕ)). memory_at memory addr ∷ zs) (more ∙ ap (λ (z : ℕ). memory_from memory (after addr) n ++ memory_at memory z ∷ []) (after_more addr n)))

pub shown_more : (areas : List Area) (addr : ℕ) (cells : List (Option ℕ)) (n : ℕ) (cell : Option ℕ) → length cells ≡ n → addr < 2 ^ 32 → is_some cell ≡ is_some (area_of areas (page_of (byte_after addr n))) → AreShown areas addr cells → AreShown areas addr (cells ++ cell ∷ [])
unfolding AreShown
shown_more areas addr [] n cell len low there h =
    let e : byte_after addr n ≡ addr = omega (arith, len, low) in
    (subst (λ (z : ℕ). is_some cell ≡ is_some (area_of areas (page_of z))) e there, tt)
shown_more areas addr (c ∷ cells) n cell len low there h =
    let e : byte_after addr n ≡ byte_after (after addr) (length cells) = omega (arith, len) in
    (h.0, shown_more areas (after addr) cells (length cells) cell refl (after_low addr) (subst (λ (z : ℕ). is_some cell ≡ is_some (area_of areas (page_of z))) e there) h.1)

-- the cell at a place is filled

pub shown_next : (areas : List Area) (addr place : ℕ) (cells : List (Option ℕ)) (cell : Option ℕ) → place < length cells → addr < 2 ^ 32 → is_some cell ≡ is_some (area_of areas (page_of (byte_after addr place))) → AreShown areas addr (take place cells) → AreShown areas addr (take (place + 1) (slice_set cells place cell))
shown_next areas addr place cells cell low small there h =
    subst (λ (zs : List (Option ℕ)). AreShown areas addr zs) (sym (take_more_set cells place cell low))
    (shown_more areas addr (take place cells) place cell (length-take-le place cells (omega (arith, low))) small there h)

pub from_next : (memory : List Area) (addr place : ℕ) (cells : List (Option ℕ)) (cell : Option ℕ) → place < length cells → addr < 2 ^ 32 → cell ≡ memory_at memory (byte_after addr place) → take place cells ≡ memory_from memory addr place → take (place + 1) (slice_set cells place cell) ≡ memory_from memory addr (place + 1)
from_next memory addr place cells cell low small is h =
    take_more_set cells place cell low
    ∙ (ap (λ (zs : List (Option ℕ)). zs ++ cell ∷ []) h
    ∙ (ap (λ (z : Option ℕ). memory_from memory addr place ++ z ∷ []) is ∙ sym (memory_more memory addr place small)))

pub all_from : (memory : List Area) (addr place : ℕ) (cells : List (Option ℕ)) → place ≡ length cells → take place cells ≡ memory_from memory addr place → cells ≡ memory_from memory addr (length cells)
all_from memory addr place cells e h = sym (take_all place cells (omega (arith, e))) ∙ (h ∙ ap (memory_from memory addr) e)

pub all_shown : (areas : List Area) (addr place : ℕ) (cells : List (Option ℕ)) → place ≡ length cells → AreShown areas addr (take place cells) → AreShown areas addr cells
all_shown areas addr place cells e h = subst (λ (zs : List (Option ℕ)). AreShown areas addr zs) (take_all place cells (omega (arith, e))) h

pub none_shown : (areas : List Area) (addr : ℕ) → AreShown areas addr []
unfolding AreShown
none_shown areas addr = tt

pub none_from : (memory : List Area) (addr : ℕ) → [] ≡ memory_from memory addr 0
unfolding memory_from
none_from memory addr = refl

-- an address that doesn't begin a page is in the page of the one before it
pub same_page : (addr n : ℕ) → 0 < n → byte_after addr n % 512 ≢ 0 → page_of (byte_after addr n) ≡ page_of (byte_after addr (n - 1))
same_page addr n some within = omega (arith, some, within)

-- a whole page that was read

pub page_found : (m : Engine) (file : Option BlockFile) (page : ℕ) (bytes : List ℕ) → IsSpace (pages m.pager).areas → is_some (area_of (pages m.pager).areas page) ≡ true → length bytes ≡ 512 → IsPage (pages m.pager) file page bytes → ShowsPage m file page bytes
page_found m file page bytes space here len is place means =
    let small = page_small (pages m.pager).areas page space here in
    let memory = (machine_at place).memory in
    let at : (k : ℕ) → k < length bytes → slice_index bytes k ≡ byte_at memory (byte_after (512 * page) k) = λ k within.
    let b : 512 * page + k ≡ byte_after (512 * page) k = omega (arith, within, len, small) in
    is memory means.memory k (omega (arith, within, len)) ∙ ap (byte_at memory) b in
    from_bytes (byte_at memory) (512 * page) bytes (omega (arith, small)) at ∙ ap (bytes_from (byte_at memory) (512 * page)) len
