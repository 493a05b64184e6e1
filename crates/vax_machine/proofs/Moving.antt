-- What evictions and services make of the page file, and of the pages that are modified.
use Rattle.std.proofs.Common.{ℕ, zero, suc, ◌≡◌, ◌+◌, ◌*◌, ◌%◌, ◌^◌, ◌<◌, ◌≤◌, Bool, true, false, List, [], ◌∷◌, ◌++◌, append_assoc, append-nil, length, refl, ap, sym, ◌∙◌, subst, arith, inl, inr, Option, Some, None, slice_index}
use Rattle.std.specs.Prelude.{◌⊎◌, is_some}
use Rattle.std.specs.Option.{option_map}
use Rattle.std.proofs.Math.Path.{fun_ext}
use Rattle.std.proofs.lemmas.Bool.{cases_Bool, cases_eq, eq-eqb, ne_eqb}
use Rattle.std.proofs.lemmas.Grind.{flat_map-append}
use Rattle.vax_space.specs.declared.Area.{Area}
use Rattle.vax_space.specs.Areas.{area_of, block_of}
use Rattle.vax_space.specs.Faults.{IsSpace}
use Rattle.vax_space.specs.Reference.{byte_after, page_of}
use Rattle.vax_space.proofs.References.{after_more}
use Rattle.vax_outside.specs.Blocks.{BlockFile, after_read, after_write}
use Rattle.vax_outside.specs.Faults.{raised}
use Rattle.vax_flat.specs.Memory.{after, byte_at, bytes_from}
use Rattle.vax_flat.specs.Parts.{machine_at}
use Rattle.vax_pager.specs.Calls.{IsLeft, IsPaging, Source, Back, Empty, OfKept, OfVictim, Nowhere, after_evict, after_flush, came, file_after, file_begun, put_block, read_for, reads_page, takes_modified, victim_of, wrote_back}
use Rattle.vax_pager.specs.Listing.{is_listed, leave_out}
use Rattle.vax_pager.specs.Paging.{Paging, StandsWith}
use Rattle.vax_pager.specs.Steps.{brought, flushed, forgotten, released, removed, taken_back}
use Rattle.vax_pager.proofs.Effects.{peek_resident}
use Rattle.vax_pager.proofs.Listing.{in_without}
use Rattle.vax_machine.proofs.Touching.{page_small}
use Rattle.vax_machine.specs.Blocks.{HasRead, Moved, MovedFirst, read_times, write_of, write_to, writes_of}
use Rattle.vax_machine.specs.Paged.{Eviction, Paged, blocked_if, blocked_of, cleaned, cleaned_of, eviction_of, evictions_of, one_if, page_bytes, some_if}

-- the writes of evictions one behind another

pub writes_none : (areas : List Area) → writes_of areas [] ≡ []
unfolding writes_of
writes_none areas = refl

pub writes_more : (areas : List Area) (xs ys : List Eviction) → writes_of areas (xs ++ ys) ≡ writes_of areas xs ++ writes_of areas ys
unfolding writes_of
writes_more areas xs ys = flat_map-append (write_of areas) xs ys

pub writes_one : (areas : List Area) (e : Eviction) → writes_of areas (e ∷ []) ≡ write_of areas e
unfolding writes_of
writes_one areas e = append-nil (write_of areas e)

-- reads one behind another

pub read_none : (n : ℕ) → n ≡ read_times 0 n
unfolding read_times
read_none n = refl

read_one : (n : ℕ) → raised n ≡ read_times 1 n
unfolding read_times
read_one n = refl

read_more : (a b n : ℕ) → read_times b (read_times a n) ≡ read_times (a + b) n
unfolding read_times
read_more a zero n = let e : a ≡ a + 0 = omega arith in ap (λ (k : ℕ). read_times k n) e
read_more a (suc b) n =
    let e : suc (a + b) ≡ a + suc b = omega arith in
    ap (λ (k : ℕ). raised k) (read_more a b n) ∙ ap (λ (k : ℕ). read_times k n) e

read_again : (b p q : Paged) (f g h : BlockFile) → HasRead b p f g → HasRead p q g h → HasRead b q f h
read_again b p q f g h x y = record {
  count = x.count + y.count;
  counted = let a = x.counted in let c = y.counted in omega (arith, a, c);
  reads = y.reads ∙ (ap (read_times y.count) x.reads ∙ read_more x.count y.count f.reads);
}

-- one paged run after another

pub moved_same : (areas : List Area) (p q : Paged) (file : Option BlockFile) → q.evictions ≡ p.evictions → q.reads ≡ p.reads → Moved areas p q file file
moved_same areas p q file e same f told = (
  f,
  told,
  record {
    made = [];
    is = e ∙ sym (append-nil p.evictions);
    writes = sym (ap (λ (xs : List (ℕ × List ℕ)). f.writes ++ xs) (writes_none areas) ∙ append-nil f.writes);
    reads = record { count = 0; counted = omega (arith, same); reads = read_none f.reads };
  },
)

pub moved_none : (areas : List Area) (p : Paged) (file : Option BlockFile) → Moved areas p p file file
moved_none areas p file = moved_same areas p p file refl refl

pub moved_again : (areas : List Area) (b p q : Paged) (a c d : Option BlockFile) → Moved areas b p a c → Moved areas p q c d → Moved areas b q a d
moved_again areas b p q a c d x y f told =
    let m = x f told in
    let n = y m.0 m.1 in (
      n.0,
      n.1,
      record {
        made = m.2.made ++ n.2.made;
        is = n.2.is ∙ (ap (λ (xs : List Eviction). xs ++ n.2.made) m.2.is ∙ append_assoc b.evictions m.2.made n.2.made);
        writes =
            n.2.writes
            ∙ (ap (λ (xs : List (ℕ × List ℕ)). xs ++ writes_of areas n.2.made) m.2.writes
            ∙ (append_assoc f.writes (writes_of areas m.2.made) (writes_of areas n.2.made) ∙ ap (λ (xs : List (ℕ × List ℕ)). f.writes ++ xs) (sym (writes_more areas m.2.made n.2.made))));
        reads = read_again b p q f m.0 n.0 m.2.reads n.2.reads;
      },
    )

pub moved_first : (areas : List Area) (b p : Paged) (a c : Option BlockFile) → Moved areas b p a c → MovedFirst areas b p a c
moved_first areas b p a c x f told =
    let m = x f told in (
      m.0,
      m.1,
      record {
        made = m.2.made;
        rest = [];
        is = m.2.is ∙ ap (λ (xs : List Eviction). b.evictions ++ xs) (sym (append-nil m.2.made));
        writes = m.2.writes;
        less = m.2.reads.count;
        reads = m.2.reads.reads;
        few = let n = m.2.reads.counted in omega (arith, n);
      },
    )

pub first_on : (areas : List Area) (b p q : Paged) (a c : Option BlockFile) (more : List Eviction) → q.evictions ≡ p.evictions ++ more → p.reads ≤ q.reads → MovedFirst areas b p a c → MovedFirst areas b q a c
first_on areas b p q a c more e later x f told =
    let m = x f told in (
      m.0,
      m.1,
      record {
        made = m.2.made;
        rest = m.2.rest ++ more;
        is =
            e
            ∙ (ap (λ (xs : List Eviction). xs ++ more) m.2.is
            ∙ (append_assoc b.evictions (m.2.made ++ m.2.rest) more ∙ ap (λ (xs : List Eviction). b.evictions ++ xs) (append_assoc m.2.made m.2.rest more)));
        writes = m.2.writes;
        less = m.2.less;
        reads = m.2.reads;
        few = let n = m.2.few in omega (arith, n, later);
      },
    )

-- what one call makes of the file, where that tells its contents

abbrev pub FileGoes : Option BlockFile → Option BlockFile → List (ℕ × List ℕ) → ℕ → Type 0
FileGoes before after writes reads =
    (f : BlockFile) → before ≡ Some f → (g : BlockFile) × (after ≡ Some g) × (g.writes ≡ f.writes ++ writes) × (g.reads ≡ read_times reads f.reads)

pub goes_nowhere : (file : Option BlockFile) → FileGoes file file [] 0
goes_nowhere file f told = (f, told, sym (append-nil f.writes), read_none f.reads)

goes_again : (a b c : Option BlockFile) (x y : List (ℕ × List ℕ)) (m n : ℕ) → FileGoes a b x m → FileGoes b c y n → FileGoes a c (x ++ y) (m + n)
goes_again a b c x y m n h k f told =
    let p = h f told in
    let q = k p.0 p.1 in
    (q.0, q.1, q.2 ∙ (ap (λ (zs : List (ℕ × List ℕ)). zs ++ y) p.2 ∙ append_assoc f.writes x y), q.3 ∙ (ap (read_times n) p.3 ∙ read_more m n f.reads))

write_none : (block : Option ℕ) → write_to block None ≡ []
write_none None = refl
write_none (Some n) = refl

put_goes : (block : Option ℕ) (bytes : List ℕ) (file : Option BlockFile) → FileGoes file (put_block block bytes file) (write_to block (Some bytes)) 0
put_goes None bytes file f told = (f, told, sym (append-nil f.writes), read_none f.reads)
put_goes (Some n) bytes file f told = (after_write n bytes f, ap (λ (z : Option BlockFile). option_map (after_write n bytes) z) told, refl, read_none f.reads)

pub wrote_goes : (page : ℕ) (s : Paging) (file : Option BlockFile) (bytes : List ℕ) → s.frame page ≡ bytes → FileGoes file (wrote_back page s file) (write_to (block_of s.areas page) (some_if (is_listed page s.modified) bytes)) 0
unfolding wrote_back
wrote_goes page s file bytes e = elim (cases_Bool (is_listed page s.modified)) [
  | inl t ↦ rw t (subst (λ (z : List ℕ). FileGoes file (put_block (block_of s.areas page) (s.frame page) file) (write_to (block_of s.areas page) (Some z)) 0) e (put_goes (block_of s.areas page) (s.frame page) file))
  | inr o ↦ rw o (subst (λ (z : List (ℕ × List ℕ)). FileGoes file file z 0) (sym (write_none (block_of s.areas page))) (goes_nowhere file))
]

read_goes : (page : ℕ) (s : Paging) (file : Option BlockFile) → FileGoes file (read_for page s file) [] (one_if (s.blocked page))
unfolding read_for
read_goes page s file = elim (cases_Bool (s.blocked page)) [
  | inl t ↦ rw t (λ f told. (after_read f, ap (λ (z : Option BlockFile). option_map after_read z) told, sym (append-nil f.writes), read_one f.reads))
  | inr o ↦ rw o (goes_nowhere file)
]

-- the bytes of a page in its frame

first_byte : (addr : ℕ) → addr < 2 ^ 32 → byte_after addr 0 ≡ addr
first_byte addr low = omega (arith, low)

after_low : (addr : ℕ) → after addr < 2 ^ 32
after_low addr = omega arith

pub from_bytes : (byte : ℕ → ℕ) (addr : ℕ) (xs : List ℕ) → addr < 2 ^ 32 → ((k : ℕ) → k < length xs → slice_index xs k ≡ byte (byte_after addr k)) → xs ≡ bytes_from byte addr (length xs)
unfolding bytes_from
from_bytes byte addr [] low h = refl
from_bytes byte addr (x ∷ xs) low h =
    let head : x ≡ byte addr = h 0 (omega arith) ∙ ap byte (first_byte addr low) in
    let tail = from_bytes byte (after addr) xs (after_low addr) (λ k within. h (suc k) (omega (arith, within)) ∙ ap byte (sym (after_more addr k))) in
    λ i. head i ∷ tail i

pub frame_is : (s : Paging) (file : Option BlockFile) (memory : List Area) (page : ℕ) → IsPaging s → IsSpace s.areas → is_listed page s.order ≡ true → StandsWith s file memory → s.frame page ≡ page_bytes memory page
frame_is s file memory page f space here st =
    let small = page_small s.areas page space (f.inside page here) in
    let len = f.whole page here in
    let at : (k : ℕ) → k < length (s.frame page) → slice_index (s.frame page) k ≡ byte_at memory (byte_after (512 * page) k) = λ k within.
    let addr = 512 * page + k in
    let p : page_of addr ≡ page = omega (arith, within, len) in
    let o : addr % 512 ≡ k = omega (arith, within, len) in
    let b : addr ≡ byte_after (512 * page) k = omega (arith, within, len, small) in
    peek_resident s file memory addr (slice_index (s.frame page) k)
    (ap (λ (z : ℕ). is_some (area_of s.areas z)) p ∙ f.inside page here) (ap (λ (z : ℕ). is_listed z s.order) p ∙ here)
    (ap (λ (z : ℕ). slice_index (s.frame page) z) (sym o) ∙ ap (λ (z : ℕ). slice_index (s.frame z) (addr % 512)) (sym p)) st
    ∙ ap (byte_at memory) b in
    from_bytes (byte_at memory) (512 * page) (s.frame page) (omega (arith, small)) at ∙ ap (bytes_from (byte_at memory) (512 * page)) len

-- which pages are modified afterwards

cleaned_out : (page : ℕ) (xs : List ℕ) → (λ other. is_listed other (leave_out page xs)) ≡ cleaned page (λ other. is_listed other xs)
cleaned_out page xs = fun_ext λ other. in_without other page xs

cleaned_away : (page : ℕ) (xs : List ℕ) → is_listed page xs ≡ false → (λ other. is_listed other xs) ≡ cleaned page (λ other. is_listed other xs)
cleaned_away page xs away = fun_ext λ other. elim (cases_eq other page) [
  | inl same ↦ rw (eq-eqb other page same) (ap (λ (z : ℕ). is_listed z xs) same ∙ away)
  | inr o ↦ rw (ne_eqb other page o) refl
]

flush_cleans : (page : ℕ) (s : Paging) → (λ other. is_listed other (after_flush page s).modified) ≡ cleaned page (λ other. is_listed other s.modified)
unfolding after_flush flushed
flush_cleans page s = elim (cases_Bool (is_listed page s.modified)) [
  | inl t ↦ rw t (cleaned_out page s.modified)
  | inr o ↦ rw o (cleaned_away page s.modified o)
]

pub evict_cleans : (page : ℕ) (s : Paging) → is_listed page s.order ≡ true → (λ other. is_listed other (after_evict page s).modified) ≡ cleaned page (λ other. is_listed other s.modified)
unfolding after_evict released
evict_cleans page s here = rw here (flush_cleans page s)

pub came_cleans : (from : Source) (page : ℕ) (bytes : List ℕ) (s : Paging) → (λ other. is_listed other (came from page bytes s).modified) ≡ cleaned_of (victim_of from) (λ other. is_listed other s.modified)
unfolding taken_back brought forgotten removed
came_cleans Back page bytes s = refl
came_cleans Empty page bytes s = refl
came_cleans (OfKept old) page bytes s = refl
came_cleans (OfVictim victim) page bytes s = flush_cleans victim s
came_cleans Nowhere page bytes s = refl

-- and which have a block

flush_blocks : (page : ℕ) (s : Paging) → (after_flush page s).blocked ≡ blocked_if (is_listed page s.modified) page s.blocked
unfolding after_flush flushed
flush_blocks page s = elim (cases_Bool (is_listed page s.modified)) [ inl t ↦ rw t refl | inr o ↦ rw o refl ]

pub evict_blocks : (page : ℕ) (s : Paging) → is_listed page s.order ≡ true → (after_evict page s).blocked ≡ blocked_if (is_listed page s.modified) page s.blocked
unfolding after_evict released
evict_blocks page s here = rw here (flush_blocks page s)

pub came_blocks : (from : Source) (page : ℕ) (bytes : List ℕ) (s : Paging) → (came from page bytes s).blocked ≡ blocked_of (victim_of from) (λ other. is_listed other s.modified) s.blocked
unfolding taken_back brought forgotten removed
came_blocks Back page bytes s = refl
came_blocks Empty page bytes s = refl
came_blocks (OfKept old) page bytes s = refl
came_blocks (OfVictim victim) page bytes s = flush_blocks victim s
came_blocks Nowhere page bytes s = refl

-- what a service makes of the file

abbrev pub victim_write : List Area → Option ℕ → (ℕ → Bool) → List Area → List (ℕ × List ℕ)
victim_write areas None modified memory = []
victim_write areas (Some page) modified memory = write_to (block_of areas page) (some_if (modified page) (page_bytes memory page))

pub victim_writes : (areas : List Area) (turn : ℕ) (v : Option ℕ) (p : Paged) → writes_of areas (evictions_of turn v p) ≡ victim_write areas v p.modified (machine_at p.place).memory
victim_writes areas turn None p = writes_none areas
victim_writes areas turn (Some page) p = writes_one areas (eviction_of turn page p)

-- by what the source of its frame asks for
pub serve_goes : (from : Source) (page : ℕ) (s : Paging) (file : Option BlockFile) (memory : List Area) → ((v : ℕ) → victim_of from ≡ Some v → s.frame v ≡ page_bytes memory v) → FileGoes file (file_after from page s file) (victim_write s.areas (victim_of from) (λ other. is_listed other s.modified) memory) (one_if (reads_page from page s))
serve_goes Back page s file memory h = goes_nowhere file
serve_goes Empty page s file memory h = read_goes page s file
serve_goes (OfKept old) page s file memory h = read_goes page s file
serve_goes (OfVictim v) page s file memory h =
    let w = write_to (block_of s.areas v) (some_if (is_listed v s.modified) (page_bytes memory v)) in
    let n : 0 + one_if (s.blocked page) ≡ one_if (s.blocked page) = omega arith in
    let after = read_for page s (wrote_back v s file) in
    subst (λ (z : ℕ). FileGoes file after w z) n
    (subst (λ (z : List (ℕ × List ℕ)). FileGoes file after z (0 + one_if (s.blocked page))) (append-nil w)
    (goes_again file (wrote_back v s file) after w [] 0 (one_if (s.blocked page)) (wrote_goes v s file (page_bytes memory v) (h v refl)) (read_goes page s (wrote_back v s file))))
serve_goes Nowhere page s file memory h = goes_nowhere file

begun_goes : (from : Source) (s : Paging) (file : Option BlockFile) (memory : List Area) → ((v : ℕ) → victim_of from ≡ Some v → s.frame v ≡ page_bytes memory v) → FileGoes file (file_begun from s file) (victim_write s.areas (victim_of from) (λ other. is_listed other s.modified) memory) 0
begun_goes Back s file memory h = goes_nowhere file
begun_goes Empty s file memory h = goes_nowhere file
begun_goes (OfKept old) s file memory h = goes_nowhere file
begun_goes (OfVictim v) s file memory h = wrote_goes v s file (page_bytes memory v) (h v refl)
begun_goes Nowhere s file memory h = goes_nowhere file

-- a call that failed wrote nothing, or the page that was to make room
pub left_goes : (from : Source) (page : ℕ) (s t : Paging) (file after : Option BlockFile) (memory : List Area) → ((v : ℕ) → victim_of from ≡ Some v → s.frame v ≡ page_bytes memory v) → IsLeft from page s file t after →
    ((takes_modified from s ≡ true) × (after ≡ file)) ⊎ ((reads_page from page s ≡ true) × FileGoes file after (victim_write s.areas (victim_of from) (λ other. is_listed other s.modified) memory) 0)
left_goes from page s t file after memory h (inl e) = inl (e.0, e.2)
left_goes from page s t file after memory h (inr e) =
    inr (e.0, subst (λ (z : Option BlockFile). FileGoes file z (victim_write s.areas (victim_of from) (λ other. is_listed other s.modified) memory) 0) (sym e.2) (begun_goes from s file memory h))

-- a paged run that made these pages absent
pub moved_by : (areas : List Area) (p q : Paged) (before after : Option BlockFile) (made : List Eviction) (writes : List (ℕ × List ℕ)) (reads : ℕ) → q.evictions ≡ p.evictions ++ made → writes_of areas made ≡ writes → q.reads ≡ p.reads + reads → FileGoes before after writes reads → Moved areas p q before after
moved_by areas p q before after made writes reads e same counted goes f told =
    let k = goes f told in (
      k.0,
      k.1,
      record {
        made = made;
        is = e;
        writes = k.2 ∙ ap (λ (zs : List (ℕ × List ℕ)). f.writes ++ zs) (sym same);
        reads = record { count = reads; counted = counted; reads = k.3 };
      },
    )
