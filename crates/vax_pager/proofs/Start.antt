-- A pager at the start, and the memory that it stands for.
use Rattle.std.proofs.Common.{ℕ, zero, suc, ◌≡◌, ◌+◌, ◌-◌, ◌*◌, ◌%◌, ◌<◌, ◌≤◌, Bool, true, false, List, [], ◌∷◌, ◌++◌, length, length-append, drop, take, get_or, slice_index, slice_index_or, refl, ap, sym, ◌∙◌, arith, inl, inr, Option, Some, None, replicate}
use Rattle.std.specs.Prelude.{is_some, min, slice_get}
use Rattle.std.proofs.Math.Path.{fun_ext}
use Rattle.std.proofs.lemmas.Bool.{cases_Bool, cases_lt, false≢true}
use Rattle.std.proofs.lemmas.Bool.Decides.{nat_tests}
use Rattle.std.proofs.lemmas.List.{length-replicate, get_or_append_left, get_or-append_right, get_or-take, get_or-drop, get_or_past}
use Rattle.vax_space.specs.declared.Area.{Area}
use Rattle.vax_space.specs.Areas.{area_of, block_of, has_page, prot_of}
use Rattle.vax_space.specs.Faults.{IsSpace}
use Rattle.vax_space.specs.Reference.{page_of, is_past_region}
use Rattle.vax_space.proofs.AreaFaults.{fits_here}
use Rattle.vax_table.specs.Mapping.{all_absent, inside, mapped, none_kept}
use Rattle.vax_table.specs.Tables.{walked, kept}
use Rattle.vax_tb.specs.Buffer.{empty}
use Rattle.vax_tb.specs.Meaning.{buffered}
use Rattle.vax_space.specs.Faults.{IsSpace}
use Rattle.vax_lists.specs.Lines.{PageLists, frame_in, pages_of}
use Rattle.vax_flat.specs.Memory.{byte_at, IsWhole}
use Rattle.vax_flat.specs.Start.{start_memory}
use Rattle.vax_undo.proofs.PlainMemory.{layout_start}
use Rattle.vax_outside.specs.Blocks.{BlockFile}
use Rattle.vax_pager.specs.declared.store.Store.{Store}
use Rattle.vax_pager.specs.Marks.{has_mark, no_mark}
use Rattle.vax_pager.specs.Listing.{are_once, is_listed}
use Rattle.vax_pager.specs.Paging.{Backs, bytes_in, content, home, is_clean, start_in, start_of}
use Rattle.vax_pager.specs.Calls.{fresh}
use Rattle.vax_pager.specs.Frames.{held_by}
use Rattle.vax_pager.specs.Store.{bytes_at, flag_of, has_block, held, last_of, paging, Fits, IsSound}

fits_fresh : (prot block : Option ℕ) (past : Bool) → Fits (inside prot past None) None None None None prot block 0
fits_fresh None block past = record {
  order = refl;
  kept = refl;
  modified = refl;
  apart = λ x. refl;
  inside = λ x. absurd (false≢true x);
  writable = λ x. absurd (false≢true x);
  area = refl;
  holds = λ frame x. cc;
}
fits_fresh (Some prot) block past = record {
  order = refl;
  kept = refl;
  modified = refl;
  apart = λ x. refl;
  inside = λ x. absurd (false≢true x);
  writable = λ x. absurd (false≢true x);
  area = refl;
  holds = λ frame x. cc;
}

none_held : (prot : Option ℕ) (past : Bool) → held_by (inside prot past None) None ≡ None
none_held None past = refl
none_held (Some prot) past = refl

pub record IsNew (s : Store) (count : ℕ) : Type 0 where
  pub tables : walked s.tables ≡ mapped s.space all_absent
  pub kept : kept s.tables ≡ none_kept
  pub buffer : buffered s.buffer ≡ empty
  pub lists : s.lists ≡ record { order = []; kept = []; modified = []; limit = count }
  pub pinned : s.pinned ≡ 0
  pub frames : s.frames.items ≡ replicate count (replicate 512 0)
  pub blocked : has_mark s.blocked ≡ no_mark
  pub used : s.used ≡ 0

zero_small : (n k : ℕ) → slice_index (replicate {A = ℕ} n 0) k < 256
zero_small zero k = omega arith
zero_small (suc n) zero = omega arith
zero_small (suc n) (suc k) = zero_small n k

zeros_small : (n f k : ℕ) → slice_index (slice_index_or (replicate n (replicate {A = ℕ} 512 0)) f []) k < 256
zeros_small zero f k = omega arith
zeros_small (suc n) zero k = zero_small 512 k
zeros_small (suc n) (suc f) k = zeros_small n f k

zeros_whole : (n f : ℕ) → f < n → length (slice_index_or (replicate n (replicate {A = ℕ} 512 0)) f []) ≡ 512
zeros_whole zero f low = absurd (omega arith)
zeros_whole (suc n) zero low = length-replicate {A = ℕ} 512 0
zeros_whole (suc n) (suc f) low = zeros_whole n f (omega arith)

so_many : (s : Store) (frames : ℕ) → IsNew s frames → length s.frames.items ≡ frames
so_many s frames n = ap (length {A = List ℕ}) n.frames ∙ length-replicate {A = List ℕ} frames (replicate 512 0)

no_some : (f : ℕ) → ◌≡◌ {A = Option ℕ} None (Some f) → ⊥
no_some f e = cc

held_new : (s : Store) (frames q : ℕ) → IsNew s frames → held s q ≡ None
unfolding held mapped
held_new s frames q n = rw (n.tables, n.kept) (none_held (prot_of s.space q) (is_past_region s.space q))

pub sound_new : (s : Store) (frames : ℕ) → frames ≤ 32768 → IsSpace s.space → IsNew s frames → IsSound 0 s
unfolding mapped frame_in is_listed pages_of are_once
sound_new s frames few space n = record {
  fine = λ q. rw (n.tables, n.kept, n.lists, n.used) (fits_fresh (prot_of s.space q) (block_of s.space q) (is_past_region s.space q));
  one = λ p q f a b. let none = held_new s frames p n in let bad : None ≡ Some f = sym none ∙ a in absurd (no_some f bad);
  agrees = rw n.buffer (record { holds = λ page walk e. cc });
  lengths = rw (n.lists, n.used) refl;
  used = omega (arith, n.used);
  few = omega (arith, few, so_many s frames n);
  whole = λ f low. rw n.frames (zeros_whole frames f (omega (arith, low, so_many s frames n)));
  small = λ f k. rw n.frames (zeros_small frames f k);
  limit = ap (λ (l : PageLists). l.limit) n.lists ∙ sym (so_many s frames n);
  pins = omega (arith, n.pinned);
  once = rw n.lists refl;
  space = space;
}

no_flag : (o : Option ℕ) → flag_of (λ block. false) o ≡ false
no_flag None = refl
no_flag (Some block) = refl

pub paging_new : (s : Store) (frames : ℕ) → IsNew s frames → s.served ≡ 0 → s.evicted ≡ 0 → s.written ≡ 0 → s.spoiled ≡ 0 → paging s ≡ fresh s.space frames
unfolding paging fresh has_block pages_of
paging_new s frames n e0 e1 e2 e3 =
    let size = so_many s frames n in
    let order : pages_of s.lists.order ≡ [] = rw n.lists refl in
    let modified : pages_of s.lists.modified ≡ [] = rw n.lists refl in
    let keeps : pages_of s.lists.kept ≡ [] = rw n.lists refl in
    let pins : last_of s.pinned (pages_of s.lists.order) ≡ [] = rw (n.pinned, n.lists) refl in
    let blocks : ◌≡◌ {A = ℕ → Bool} (λ q. flag_of (has_mark s.blocked) (block_of s.space q)) (λ q. false) = fun_ext (λ q. ap (λ (z : ℕ → Bool). flag_of z (block_of s.space q)) n.blocked ∙ no_flag (block_of s.space q)) in
    let bytes : ◌≡◌ {A = ℕ → List ℕ} (λ q. bytes_at s.frames.items (held s q)) (λ q. []) = fun_ext (λ q. ap (bytes_at s.frames.items) (held_new s frames q n)) in
    cc

-- the memory at the start

zero_at : (n i : ℕ) → get_or (replicate {A = ℕ} n 0) i 0 ≡ 0
zero_at zero i = refl
zero_at (suc n) zero = refl
zero_at (suc n) (suc i) = zero_at n i

zeros_after : (xs : List ℕ) (n i : ℕ) → get_or (xs ++ replicate n 0) i 0 ≡ get_or xs i 0
zeros_after xs n i = elim (cases_lt i (length xs)) [
  | inl low ↦ get_or_append_left xs (replicate n 0) 0 i low
  | inr past ↦ get_or-append_right xs (replicate n 0) (length xs) i 0 refl past ∙ zero_at n (i - length xs) ∙ sym (get_or_past xs i 0 past)
]

page_byte : (area : Area) (page k : ℕ) → k < 512 → slice_index (bytes_in area page) k ≡ get_or area.bytes (512 * (page - area.first) + k) 0
page_byte area page k low =
    get_or-take 512 (drop (512 * (page - area.first)) area.bytes ++ replicate 512 0) k 0 low
    ∙ zeros_after (drop (512 * (page - area.first)) area.bytes) 512 k
    ∙ get_or-drop (512 * (page - area.first)) area.bytes k 0

start_byte : (areas : List Area) (addr : ℕ) → is_some (area_of areas (page_of addr)) ≡ true → slice_index (start_in (area_of areas (page_of addr)) (page_of addr)) (addr % 512) ≡ byte_at (start_memory areas) addr
unfolding area_of start_memory byte_at has_page
start_byte [] addr there = absurd (false≢true there)
start_byte (area ∷ areas) addr there = elim (cases_Bool (has_page area (page_of addr))) [
  | inl here ↦
      let low : area.first ≤ page_of addr = grind (arith, nat_tests) in
      let place : 512 * (page_of addr - area.first) + addr % 512 ≡ addr - 512 * area.first = omega arith in
      rw here (page_byte area (page_of addr) (addr % 512) (omega arith) ∙ ap (λ n. get_or area.bytes n 0) place ∙ sym (zeros_after area.bytes (512 * area.pages - length area.bytes) (addr - 512 * area.first)))
  | inr away ↦ rw away (start_byte areas addr (rw away at there))
]

whole_areas : (areas : List Area) → ((k : ℕ) (area : Area) → slice_get areas k ≡ Some area → length area.bytes ≤ 512 * area.pages) → IsWhole (start_memory areas)
unfolding start_memory IsWhole
whole_areas [] fits = tt
whole_areas (area ∷ areas) fits =
    let few = fits 0 area refl in
    (omega (arith, few, length-append area.bytes (replicate (512 * area.pages - length area.bytes) 0), length-replicate {A = ℕ} (512 * area.pages - length area.bytes) 0), whole_areas areas (λ k a h. fits (suc k) a h))

pub start_whole : (areas : List Area) → IsSpace areas → IsWhole (start_memory areas)
start_whole areas space = whole_areas areas (λ k area h. (fits_here areas k area space h).bytes)

pub backs_fresh : (areas : List Area) (frames : ℕ) (file : BlockFile) → IsSpace areas → Backs (fresh areas frames) file (start_memory areas)
unfolding fresh content home is_clean start_of is_listed
backs_fresh areas frames file space = record {
  areas = layout_start areas;
  whole = start_whole areas space;
  bytes = λ addr there. ap (λ (z : ℕ). Some z) (start_byte areas addr there);
  clean = λ page h. absurd (false≢true h);
}

-- the bytes of a page at the start

zeros_taken : (n k : ℕ) → n ≤ k → take n (replicate {A = ℕ} k 0) ≡ replicate n 0
zeros_taken zero k low = refl
zeros_taken (suc n) zero low = absurd (omega arith)
zeros_taken (suc n) (suc k) low = ap (λ (xs : List ℕ). 0 ∷ xs) (zeros_taken n k (omega arith))

zeros_then : (c : ℕ) (xs : List ℕ) (n k : ℕ) → c ≤ length xs → c ≤ n → n ≤ k → (c < n → length xs ≡ c) → take c xs ++ drop c (replicate n 0) ≡ take n (xs ++ replicate k 0)
zeros_then zero [] n k a b low all = sym (zeros_taken n k low)
zeros_then zero (x ∷ xs) zero k a b low all = refl
zeros_then zero (x ∷ xs) (suc n) k a b low all = let bad = all (omega arith) in absurd (omega arith)
zeros_then (suc c) [] n k a b low all = absurd (omega arith)
zeros_then (suc c) (x ∷ xs) zero k a b low all = absurd (omega arith)
zeros_then (suc c) (x ∷ xs) (suc n) k a b low all =
    ap (λ (ys : List ℕ). x ∷ ys) (zeros_then c xs n k (omega arith) (omega arith) (omega arith) (λ h. let e = all (omega arith) in omega arith))

drop_past : (xs : List ℕ) (p : ℕ) → length xs ≤ p → drop p xs ≡ []
drop_past [] zero low = refl
drop_past [] (suc p) low = refl
drop_past (x ∷ xs) zero low = absurd (omega arith)
drop_past (x ∷ xs) (suc p) low = drop_past xs p (omega arith)

drop_least : (xs : List ℕ) (p q : ℕ) → q ≡ min p (length xs) → drop q xs ≡ drop p xs
drop_least xs p q e = elim (cases_lt p (length xs)) [
  | inl low ↦ ap (λ n. drop n xs) (grind arith)
  | inr past ↦ drop_past xs q (grind arith) ∙ sym (drop_past xs p past)
]

pub start_bytes : (area : Area) (page place start count : ℕ) (bytes rest : List ℕ) → bytes ≡ area.bytes → place ≡ (page - area.first) * 512 → start ≡ min place (length bytes) → rest ≡ drop start bytes → count ≡ min (length rest) 512 → take count rest ++ drop count (replicate 512 0) ≡ bytes_in area page
start_bytes area page place start count bytes rest eb ep es er ec =
    let place_is : place ≡ 512 * (page - area.first) = omega arith in
    let tail : rest ≡ drop (512 * (page - area.first)) area.bytes =
    er ∙ drop_least bytes place start es ∙ ap (λ n. drop n bytes) place_is ∙ ap (λ (xs : List ℕ). drop (512 * (page - area.first)) xs) eb in
    zeros_then count rest 512 512 (grind arith) (grind arith) (omega arith) (λ h. grind arith) ∙ ap (λ (xs : List ℕ). take 512 (xs ++ replicate 512 0)) tail
