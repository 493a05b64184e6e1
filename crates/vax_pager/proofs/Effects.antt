-- What the calls do, and that they lose nothing.
use Rattle.std.proofs.Common.{ℕ, zero, suc, ◌≡◌, ◌≢◌, ◌+◌, ◌*◌, ◌%◌, ◌<◌, Bool, true, false, not, nat_lt, List, [], ◌∷◌, length, refl, ap, sym, ◌∙◌, subst, arith, inl, inr, Option, Some, None, slice_index, slice_index_or, get_or}
use Rattle.std.specs.Prelude.{◌&&◌, ◌||◌, IfSome, is_some, Result, Ok, Err, OnErr}
use Rattle.std.specs.Option.{option_map}
use Rattle.std.specs.FinMap.{get}
use Rattle.std.proofs.lemmas.Bool.{cases_Bool, cases_eq, eq-eqb, ne_eqb, ltb-true, ltb-false}
use Rattle.vax_space.specs.declared.Area.{Area}
use Rattle.vax_space.specs.Areas.{area_of, block_of}
use Rattle.vax_space.specs.Reference.{page_of}
use Rattle.vax_flat.specs.Memory.{byte_at}
use Rattle.vax_outside.specs.Blocks.{BlockFile, after_write, after_read, GivesBlock}
use Rattle.vax_pager.specs.Listing.{is_listed, first_outside, first}
use Rattle.vax_pager.specs.Paging.{Paging, home, content, is_clean, start_of, Backs, StandsWith, Keeps, ComesFrom}
use Rattle.vax_pager.specs.Steps.{at, flushed, released, taken_back, brought, forgotten, removed}
use Rattle.vax_pager.specs.Poking.{OnlyRead, ReadsAtMost, after_reads, without_reads}
use Rattle.vax_pager.specs.Calls.{PeekedFrom, seen, after_flush, wrote_back, after_evict, read_for, Back, Empty, OfKept, OfVictim, source}
use Rattle.vax_pager.proofs.Listing.{in_without}
use Rattle.vax_pager.proofs.Standing.{stands_flushed, stands_released, stands_taken, stands_brought, stands_forgotten, stands_removed, home_flushed, home_forgotten, home_removed}

-- the bytes of a frame that was looked up
pub frame_read : (frames : List (List ℕ)) (f : ℕ) (x y : List ℕ) → f < length frames → x ≡ get_or frames f x → slice_index_or frames f [] ≡ y → x ≡ y
frame_read [] f x y low e k = absurd (omega arith)
frame_read (z ∷ zs) zero x y low e k = e ∙ k
frame_read (z ∷ zs) (suc f) x y low e k = frame_read zs f x y (omega arith) e k

pub not_both : (b : Bool) → b ≡ true → b ≡ false → ⊥
not_both b t f = let bad : true ≡ false = sym t ∙ f in cc

-- what is so whatever the answer
pub on_err : {A E : Type 0} {P : Type 0} (r : Result A E) → P → OnErr r P
on_err (Ok x) p = tt
on_err (Err e) p = p

pub keeps_then : (s t u : Paging) (f g h : Option BlockFile) → Keeps s f t g → Keeps t g u h → Keeps s f u h
keeps_then s t u f g h a b = λ memory st. b memory (a memory st)

-- one write
pub flush_none : (p : ℕ) (s : Paging) → is_listed p s.modified ≡ false → after_flush p s ≡ s
unfolding after_flush
flush_none p s h = rw h refl

pub wrote_none : (p : ℕ) (s : Paging) (file : Option BlockFile) → is_listed p s.modified ≡ false → wrote_back p s file ≡ file
unfolding wrote_back
wrote_none p s file h = rw h refl

pub flush_one : (p : ℕ) (s : Paging) → is_listed p s.modified ≡ true → after_flush p s ≡ flushed p s
unfolding after_flush
flush_one p s h = rw h refl

pub wrote_one : (p n : ℕ) (s : Paging) (file : Option BlockFile) → is_listed p s.modified ≡ true → block_of s.areas p ≡ Some n → wrote_back p s file ≡ option_map (after_write n (s.frame p)) file
unfolding wrote_back
wrote_one p n s file h b = rw (h, b) refl

keeps_flushed : (p n : ℕ) (s : Paging) (file : Option BlockFile) → block_of s.areas p ≡ Some n → is_listed p s.order ≡ true → Keeps s file (flushed p s) (option_map (after_write n (s.frame p)) file)
keeps_flushed p n s None b r = λ memory st. st
keeps_flushed p n s (Some file) b r = λ memory st. stands_flushed s file memory p n r b st

pub keeps_flush_one : (p n : ℕ) (s t : Paging) (file after : Option BlockFile) → t ≡ flushed p s → after ≡ option_map (after_write n (s.frame p)) file → block_of s.areas p ≡ Some n → is_listed p s.order ≡ true → Keeps s file t after
keeps_flush_one p n s t file after e a b r = subst (λ (x : Option BlockFile). Keeps s file t x) (sym a) (subst (λ (x : Paging). Keeps s file x (option_map (after_write n (s.frame p)) file)) (sym e) (keeps_flushed p n s file b r))

-- what a flush leaves

pub flush_order : (p : ℕ) (s : Paging) → (after_flush p s).order ≡ s.order
unfolding after_flush flushed
flush_order p s = elim (cases_Bool (is_listed p s.modified)) [ inl t ↦ rw t refl | inr f ↦ rw f refl ]

pub flush_areas : (p : ℕ) (s : Paging) → (after_flush p s).areas ≡ s.areas
unfolding after_flush flushed
flush_areas p s = elim (cases_Bool (is_listed p s.modified)) [ inl t ↦ rw t refl | inr f ↦ rw f refl ]

pub flush_kept : (p : ℕ) (s : Paging) → (after_flush p s).kept ≡ s.kept
unfolding after_flush flushed
flush_kept p s = elim (cases_Bool (is_listed p s.modified)) [ inl t ↦ rw t refl | inr f ↦ rw f refl ]

pub flush_pinned : (p : ℕ) (s : Paging) → (after_flush p s).pinned ≡ s.pinned
unfolding after_flush flushed
flush_pinned p s = elim (cases_Bool (is_listed p s.modified)) [ inl t ↦ rw t refl | inr f ↦ rw f refl ]

pub flush_frames : (p : ℕ) (s : Paging) → (after_flush p s).frames ≡ s.frames
unfolding after_flush flushed
flush_frames p s = elim (cases_Bool (is_listed p s.modified)) [ inl t ↦ rw t refl | inr f ↦ rw f refl ]

pub flush_clean : (p : ℕ) (s : Paging) → is_listed p (after_flush p s).modified ≡ false
unfolding after_flush flushed
flush_clean p s = elim (cases_Bool (is_listed p s.modified)) [ inl t ↦ rw (t, in_without p p s.modified, eq-eqb p p refl) refl | inr f ↦ rw f f ]

pub evict_none : (p : ℕ) (s : Paging) → is_listed p s.order ≡ false → after_evict p s ≡ s
unfolding after_evict
evict_none p s h = rw h refl

pub evict_one : (p : ℕ) (s : Paging) → is_listed p s.order ≡ true → after_evict p s ≡ released p (after_flush p s)
unfolding after_evict
evict_one p s h = rw h refl

keeps_release : (p : ℕ) (s : Paging) (file : Option BlockFile) → is_listed p s.order ≡ true → is_listed p s.modified ≡ false → Keeps s file (released p s) file
keeps_release p s None r m = λ memory st. st
keeps_release p s (Some file) r m = λ memory st. stands_released s file memory p r m st

pub keeps_released : (p : ℕ) (s t : Paging) (file : Option BlockFile) → t ≡ released p s → is_listed p s.order ≡ true → is_listed p s.modified ≡ false → Keeps s file t file
keeps_released p s t file e r m = subst (λ (x : Paging). Keeps s file x file) (sym e) (keeps_release p s file r m)

-- one read

pub read_none : (p : ℕ) (s : Paging) (file : Option BlockFile) → s.blocked p ≡ false → read_for p s file ≡ file
unfolding read_for
read_none p s file h = rw h refl

pub read_one : (p : ℕ) (s : Paging) (file : Option BlockFile) → s.blocked p ≡ true → read_for p s file ≡ option_map after_read file
unfolding read_for
read_one p s file h = rw h refl

pub comes_start : (s : Paging) (file : Option BlockFile) (p : ℕ) (bytes : List ℕ) → s.blocked p ≡ false → bytes ≡ start_of s.areas p → ComesFrom s file p bytes
unfolding home
comes_start s None p bytes b e = tt
comes_start s (Some file) p bytes b e = λ x h. let k : Some (start_of s.areas p) ≡ Some x = rw b at h in cc

gives : (o : Option (List ℕ)) (bytes x : List ℕ) → IfSome o (λ block. bytes ≡ block) → o ≡ Some x → bytes ≡ x
gives None bytes x i e = cc
gives (Some y) bytes x i e = cc

pub comes_block : (s : Paging) (file : Option BlockFile) (p n : ℕ) (bytes : List ℕ) → s.blocked p ≡ true → block_of s.areas p ≡ Some n → GivesBlock file n bytes → ComesFrom s file p bytes
unfolding home
comes_block s None p n bytes b low g = tt
comes_block s (Some file) p n bytes b low g = λ x h.
    let k : get file.blocks n ≡ Some x = rw (b, low) at h in
    gives (get file.blocks n) bytes x g k

pub told_wrote : (p n : ℕ) (s : Paging) (file after : Option BlockFile) (x : List ℕ) → is_listed p s.modified ≡ true → block_of s.areas p ≡ Some n → x ≡ s.frame p → after ≡ option_map (after_write n x) file → after ≡ wrote_back p s file
told_wrote p n s file after x m b e a = a ∙ ap (λ z. option_map (after_write n z) file) e ∙ sym (wrote_one p n s file m b)

pub keeps_flush : (p n : ℕ) (s t : Paging) (file after : Option BlockFile) (x : List ℕ) → t ≡ flushed p s → after ≡ option_map (after_write n x) file → x ≡ s.frame p → block_of s.areas p ≡ Some n → is_listed p s.order ≡ true → Keeps s file t after
keeps_flush p n s t file after x e a b low r = keeps_flush_one p n s t file after e (a ∙ ap (λ z. option_map (after_write n z) file) b) low r

-- two pages
pub apart : (p q : ℕ) (xs : List ℕ) → is_listed p xs ≡ false → is_listed q xs ≡ true → p ≢ q
apart p q xs a b e = let bad : true ≡ false = sym b ∙ ap (λ z. is_listed z xs) (sym e) ∙ a in cc

-- a page that came

came_frame : (p : ℕ) (x : List ℕ) (s : Paging) → (brought p x s).frame p ≡ x
unfolding brought at
came_frame p x s = rw (eq-eqb p p refl) refl

pub own_frame : (p : ℕ) (x : List ℕ) (s t : Paging) → t ≡ brought p x s → t.frame p ≡ x
own_frame p x s t e = ap (λ (z : Paging). z.frame p) e ∙ came_frame p x s

pub own_brought : (p : ℕ) (x : List ℕ) (s t : Paging) → t ≡ brought p x s → t ≡ brought p (t.frame p) s
own_brought p x s t e = e ∙ ap (λ (b : List ℕ). brought p b s) (sym (own_frame p x s t e))

pub own_comes : (p : ℕ) (x : List ℕ) (s t u : Paging) (file : Option BlockFile) → t ≡ brought p x s → ComesFrom u file p x → ComesFrom u file p (t.frame p)
own_comes p x s t u file e c = subst (λ (b : List ℕ). ComesFrom u file p b) (sym (own_frame p x s t e)) c

some_of : (A B : Type 0) (f : A → B) (o : Option A) (b : B) → option_map f o ≡ Some b → (x : A) × (o ≡ Some x)
some_of A B f None b e = cc
some_of A B f (Some x) b e = (x, refl)

home_of_absent : (s : Paging) (file : BlockFile) (p : ℕ) → is_listed p s.order ≡ false → content s file p ≡ home s file p
unfolding content
home_of_absent s file p r = rw r refl

-- a page of an area has content
pub has_home : (s : Paging) (file : BlockFile) (memory : List Area) (p : ℕ) → is_some (area_of s.areas p) ≡ true → is_listed p s.order ≡ false → Backs s file memory → (x : List ℕ) × (home s file p ≡ Some x)
has_home s file memory p there r st =
    let page : page_of (512 * p) ≡ p = omega arith in
    let b = st.bytes (512 * p) (rw page there) in
    let k = some_of (List ℕ) ℕ (λ l. slice_index l ((512 * p) % 512)) (content s file (page_of (512 * p))) _ b in
    (k.0, sym (home_of_absent s file p r) ∙ ap (λ z. content s file z) (sym page) ∙ k.1)

keeps_bring : (p : ℕ) (x : List ℕ) (s : Paging) (file : Option BlockFile) → is_some (area_of s.areas p) ≡ true → is_listed p s.order ≡ false → ComesFrom s file p x → Keeps s file (brought p x s) file
keeps_bring p x s None low r c = λ memory st. st
keeps_bring p x s (Some file) low r c = λ memory st.
    let h = has_home s file memory p low r st in
    let e : h.0 ≡ x = sym (c h.0 h.1) in
    stands_brought s file memory p x r (h.1 ∙ ap (λ (z : List ℕ). Some z) e) st

read_stands : (s : Paging) (file : BlockFile) (memory : List Area) → Backs s file memory → Backs s (after_read file) memory
unfolding home content
read_stands s file memory st = record { areas = st.areas; whole = st.whole; bytes = st.bytes; clean = st.clean }

keeps_read : (p : ℕ) (s t : Paging) (file : Option BlockFile) → Keeps t file t (read_for p s file)
unfolding read_for
keeps_read p s t None = elim (cases_Bool (s.blocked p)) [ inl b ↦ rw b (λ memory st. st) | inr b ↦ rw b (λ memory st. st) ]
keeps_read p s t (Some file) = elim (cases_Bool (s.blocked p)) [ inl b ↦ rw b (λ memory st. read_stands t file memory st) | inr b ↦ rw b (λ memory st. st) ]

-- a read writes nothing
only_read : (p : ℕ) (s : Paging) (file : Option BlockFile) → OnlyRead file (read_for p s file)
unfolding read_for
only_read p s None = elim (cases_Bool (s.blocked p)) [ inl b ↦ rw b refl | inr b ↦ rw b refl ]
only_read p s (Some file) = elim (cases_Bool (s.blocked p)) [ inl b ↦ rw b refl | inr b ↦ rw b refl ]

pub reads_peeked : (p : ℕ) (s : Paging) (file after : Option BlockFile) → after ≡ read_for p s file → OnlyRead file after
reads_peeked p s file after e = subst (λ (z : Option BlockFile). OnlyRead file z) (sym e) (only_read p s file)

pub reads_unchanged : (file after : Option BlockFile) → after ≡ file → OnlyRead file after
reads_unchanged file after e = ap without_reads e

-- a page without a frame was looked at
pub keeps_peeked : (p : ℕ) (s : Paging) (file after : Option BlockFile) → after ≡ read_for p s file → Keeps s file s after
keeps_peeked p s file after e = subst (λ (z : Option BlockFile). Keeps s file s z) (sym e) (keeps_read p s s file)

pub keeps_unchanged : (s : Paging) (file after : Option BlockFile) → after ≡ file → Keeps s file s after
keeps_unchanged s file after e = subst (λ (z : Option BlockFile). Keeps s file s z) (sym e) (λ memory st. st)

pub keeps_brought : (p : ℕ) (x : List ℕ) (s t : Paging) (file after : Option BlockFile) → t ≡ brought p x s → after ≡ read_for p s file → is_some (area_of s.areas p) ≡ true → is_listed p s.order ≡ false → ComesFrom s file p x → Keeps s file t after
keeps_brought p x s t file after e a low r c =
    subst (λ (z : Option BlockFile). Keeps s file t z) (sym a) (subst (λ (z : Paging). Keeps s file z (read_for p s file)) (sym e)
    (keeps_then s (brought p x s) (brought p x s) file file (read_for p s file) (keeps_bring p x s file low r c) (keeps_read p s (brought p x s) file)))

-- a kept page that is kept no more

pub forgotten_order : (q : ℕ) (s : Paging) → (forgotten q s).order ≡ s.order
unfolding forgotten
forgotten_order q s = refl

pub forgotten_areas : (q : ℕ) (s : Paging) → (forgotten q s).areas ≡ s.areas
unfolding forgotten
forgotten_areas q s = refl

pub forgotten_blocked : (q : ℕ) (s : Paging) → (forgotten q s).blocked ≡ s.blocked
unfolding forgotten
forgotten_blocked q s = refl

pub forgotten_unkept : (p q : ℕ) (s : Paging) → is_listed p s.kept ≡ false → is_listed p (forgotten q s).kept ≡ false
unfolding forgotten
forgotten_unkept p q s h = in_without p q s.kept ∙ (elim (cases_eq p q) [ inl e ↦ rw (eq-eqb p q e) refl | inr o ↦ rw (ne_eqb p q o) h ])

comes_forgotten : (q p : ℕ) (s : Paging) (file : Option BlockFile) (x : List ℕ) → ComesFrom s file p x → ComesFrom (forgotten q s) file p x
comes_forgotten q p s None x c = tt
comes_forgotten q p s (Some file) x c = λ y h. c y (sym (home_forgotten s file q p) ∙ h)

keeps_forget : (q : ℕ) (s : Paging) (file : Option BlockFile) → is_listed q s.order ≡ false → Keeps s file (forgotten q s) file
keeps_forget q s None r = λ memory st. st
keeps_forget q s (Some file) r = λ memory st. stands_forgotten s file memory q r st

read_same : (p : ℕ) (s t : Paging) (file : Option BlockFile) → t.blocked ≡ s.blocked → read_for p s file ≡ read_for p t file
unfolding read_for
read_same p s t file e = rw e refl

pub keeps_in_kept : (p q : ℕ) (x : List ℕ) (s t : Paging) (file after : Option BlockFile) → t ≡ brought p x (forgotten q s) → after ≡ read_for p s file → is_some (area_of s.areas p) ≡ true → is_listed p s.order ≡ false → is_listed q s.order ≡ false → ComesFrom s file p x → Keeps s file t after
keeps_in_kept p q x s t file after e a low r k c =
    keeps_then s (forgotten q s) t file file after (keeps_forget q s file k)
    (keeps_brought p x (forgotten q s) t file after e (a ∙ read_same p s (forgotten q s) file (forgotten_blocked q s)) (rw (forgotten_areas q s) low) (rw (forgotten_order q s) r) (comes_forgotten q p s file x c))

pub forgotten_pins : (q : ℕ) (s : Paging) → length s.pinned < s.frames → length (forgotten q s).pinned < (forgotten q s).frames
unfolding forgotten
forgotten_pins q s h = h

-- a victim

pub removed_pins : (q : ℕ) (s : Paging) → length s.pinned < s.frames → length (removed q s).pinned < (removed q s).frames
unfolding removed
removed_pins q s h = h

pub removed_areas : (q : ℕ) (s : Paging) → (removed q s).areas ≡ s.areas
unfolding removed
removed_areas q s = refl

pub removed_kept : (q : ℕ) (s : Paging) → (removed q s).kept ≡ s.kept
unfolding removed
removed_kept q s = refl

pub removed_blocked : (q : ℕ) (s : Paging) → (removed q s).blocked ≡ s.blocked
unfolding removed
removed_blocked q s = refl

pub removed_absent : (p q : ℕ) (s : Paging) → is_listed p s.order ≡ false → is_listed p (removed q s).order ≡ false
unfolding removed
removed_absent p q s h = in_without p q s.order ∙ (elim (cases_eq p q) [ inl e ↦ rw (eq-eqb p q e) refl | inr o ↦ rw (ne_eqb p q o) h ])

comes_removed : (q p : ℕ) (s : Paging) (file : Option BlockFile) (x : List ℕ) → ComesFrom s file p x → ComesFrom (removed q s) file p x
comes_removed q p s None x c = tt
comes_removed q p s (Some file) x c = λ y h. c y (sym (home_removed s file q p) ∙ h)

keeps_remove : (q : ℕ) (s : Paging) (file : Option BlockFile) → is_listed q s.order ≡ true → is_listed q s.modified ≡ false → is_listed q s.kept ≡ false → Keeps s file (removed q s) file
keeps_remove q s None r m k = λ memory st. st
keeps_remove q s (Some file) r m k = λ memory st. stands_removed s file memory q r m k st

pub keeps_in_victim : (p q : ℕ) (x : List ℕ) (s t : Paging) (file after : Option BlockFile) → t ≡ brought p x (removed q s) → after ≡ read_for p s file → is_some (area_of s.areas p) ≡ true → is_listed p s.order ≡ false → is_listed q s.order ≡ true → is_listed q s.modified ≡ false → is_listed q s.kept ≡ false → ComesFrom s file p x → Keeps s file t after
keeps_in_victim p q x s t file after e a low r v m k c =
    keeps_then s (removed q s) t file file after (keeps_remove q s file v m k)
    (keeps_brought p x (removed q s) t file after e (a ∙ read_same p s (removed q s) file (removed_blocked q s)) (rw (removed_areas q s) low) (removed_absent p q s r) (comes_removed q p s file x c))

flushed_blocked : (p q : ℕ) (s : Paging) → p ≢ q → (flushed q s).blocked p ≡ s.blocked p
unfolding flushed at
flushed_blocked p q s o = rw (ne_eqb p q o) refl

pub flush_blocked : (p q : ℕ) (s : Paging) → p ≢ q → (after_flush q s).blocked p ≡ s.blocked p
flush_blocked p q s o = elim (cases_Bool (is_listed q s.modified)) [
  | inl t ↦ ap (λ (z : Paging). z.blocked p) (flush_one q s t) ∙ flushed_blocked p q s o
  | inr f ↦ ap (λ (z : Paging). z.blocked p) (flush_none q s f)
]

pub read_flushed : (p q : ℕ) (s : Paging) (file : Option BlockFile) → p ≢ q → read_for p (after_flush q s) file ≡ read_for p s file
unfolding read_for
read_flushed p q s file o = rw (flush_blocked p q s o) refl

home_after : (p q n : ℕ) (s : Paging) (file : BlockFile) → p ≢ q → block_of s.areas q ≡ Some n → home (flushed q s) (after_write n (s.frame q) file) p ≡ home s file p
home_after p q n s file o b = home_flushed s file q n p b ∙ rw (ne_eqb p q o) refl

-- what the file holds for a page before the write of another is what it holds after it
comes_flushed_one : (p q n : ℕ) (s : Paging) (file : Option BlockFile) (x : List ℕ) → p ≢ q → is_listed q s.modified ≡ true → block_of s.areas q ≡ Some n → ComesFrom (after_flush q s) (wrote_back q s file) p x → ComesFrom s file p x
comes_flushed_one p q n s None x o t b c = tt
comes_flushed_one p q n s (Some file) x o t b c = λ y h.
    let d : ComesFrom (flushed q s) (Some (after_write n (s.frame q) file)) p x =
    subst (λ (z : Option BlockFile). ComesFrom (flushed q s) z p x) (wrote_one q n s (Some file) t b)
    (subst (λ (z : Paging). ComesFrom z (wrote_back q s (Some file)) p x) (flush_one q s t) c) in
    d y (home_after p q n s file o b ∙ h)

comes_flushed_none : (p q : ℕ) (s : Paging) (file : Option BlockFile) (x : List ℕ) → is_listed q s.modified ≡ false → ComesFrom (after_flush q s) (wrote_back q s file) p x → ComesFrom s file p x
comes_flushed_none p q s file x f c =
    subst (λ (z : Option BlockFile). ComesFrom s z p x) (wrote_none q s file f)
    (subst (λ (z : Paging). ComesFrom z (wrote_back q s file) p x) (flush_none q s f) c)

some_number : (o : Option ℕ) → is_some o ≡ true → (n : ℕ) × (o ≡ Some n)
some_number None h = cc
some_number (Some n) h = (n, refl)

pub comes_flushed : (p q : ℕ) (s : Paging) (file : Option BlockFile) (x : List ℕ) → p ≢ q → (is_listed q s.modified ≡ true → is_some (block_of s.areas q) ≡ true) → ComesFrom (after_flush q s) (wrote_back q s file) p x → ComesFrom s file p x
comes_flushed p q s file x o writable c = elim (cases_Bool (is_listed q s.modified)) [
  | inl t ↦ let n = some_number (block_of s.areas q) (writable t) in comes_flushed_one p q n.0 s file x o t n.1 c
  | inr f ↦ comes_flushed_none p q s file x f c
]

-- where the frame comes from

pub source_back : (p : ℕ) (s : Paging) → is_listed p s.kept ≡ true → source p s ≡ Back
unfolding source
source_back p s k = rw k refl

pub source_empty : (p : ℕ) (s : Paging) → is_listed p s.kept ≡ false → nat_lt (length s.order + length s.kept) s.frames ≡ true → source p s ≡ Empty
unfolding source
source_empty p s k room = rw (k, room) refl

pub source_kept : (p q : ℕ) (s : Paging) → is_listed p s.kept ≡ false → nat_lt (length s.order + length s.kept) s.frames ≡ false → Some q ≡ first s.kept → source p s ≡ OfKept q
unfolding source
source_kept p q s k full e = rw (k, full, sym e) refl

pub source_victim : (p v : ℕ) (s : Paging) → is_listed p s.kept ≡ false → nat_lt (length s.order + length s.kept) s.frames ≡ false → None ≡ first s.kept → first_outside s.pinned s.order ≡ Some v → source p s ≡ OfVictim v
unfolding source
source_victim p v s k full e f = rw (k, full, sym e, f) refl

pub first_in : (xs : List ℕ) (q : ℕ) → Some q ≡ first xs → is_listed q xs ≡ true
unfolding is_listed
first_in [] q e = cc
first_in (x ∷ xs) q e = let k : q ≡ x = cc in rw (k, eq-eqb x x refl) refl

pub none_first : (xs : List ℕ) → None ≡ first xs → length xs ≡ 0
none_first [] e = refl
none_first (x ∷ xs) e = cc

keeps_taking : (p : ℕ) (s : Paging) (file : Option BlockFile) → is_listed p s.kept ≡ true → Keeps s file (taken_back p s) file
keeps_taking p s None k = λ memory st. st
keeps_taking p s (Some file) k = λ memory st. stands_taken s file memory p k st

pub keeps_taken : (p : ℕ) (s t : Paging) (file : Option BlockFile) → t ≡ taken_back p s → is_listed p s.kept ≡ true → Keeps s file t file
keeps_taken p s t file e k = subst (λ (z : Paging). Keeps s file z file) (sym e) (keeps_taking p s file k)

pub has_room : (s : Paging) → nat_lt (length s.order + length s.kept) s.frames ≡ true → length s.order + length s.kept < s.frames
has_room s h = ltb-true _ _ h

pub pins_left : (s : Paging) → nat_lt (length s.order + length s.kept) s.frames ≡ false → None ≡ first s.kept → length s.pinned < s.frames → length s.pinned < length s.order
pins_left s full e low = let a = ltb-false _ _ full in let b = none_first s.kept e in omega arith

-- a byte that is only looked at

content_resident : (s : Paging) (file : BlockFile) (p : ℕ) → is_listed p s.order ≡ true → content s file p ≡ Some (s.frame p)
unfolding content
content_resident s file p r = rw r refl

or_true : (b : Bool) → (b || true) ≡ true
or_true true = refl
or_true false = refl

kept_clean : (s : Paging) (p : ℕ) → is_listed p s.kept ≡ true → is_clean s p ≡ true
unfolding is_clean
kept_clean s p k = rw k (or_true (is_listed p s.order && not (is_listed p s.modified)))

peeked : (s : Paging) (file : BlockFile) (memory : List Area) (a : ℕ) (x : List ℕ) → is_some (area_of s.areas (page_of a)) ≡ true → content s file (page_of a) ≡ Some x → Backs s file memory → slice_index x (a % 512) ≡ byte_at memory a
peeked s file memory a x there c st =
    let b : Some (slice_index x (a % 512)) ≡ Some (byte_at memory a) = rw c at (st.bytes a there) in
    cc

pub peek_resident : (s : Paging) (file : Option BlockFile) (memory : List Area) (a b : ℕ) → is_some (area_of s.areas (page_of a)) ≡ true → is_listed (page_of a) s.order ≡ true → b ≡ slice_index (s.frame (page_of a)) (a % 512) → StandsWith s file memory → b ≡ byte_at memory a
peek_resident s None memory a b there r e st = absurd st
peek_resident s (Some file) memory a b there r e st = e ∙ peeked s file memory a _ there (content_resident s file (page_of a) r) st

pub peek_kept : (s : Paging) (file : Option BlockFile) (memory : List Area) (a b : ℕ) → is_some (area_of s.areas (page_of a)) ≡ true → is_listed (page_of a) s.order ≡ false → is_listed (page_of a) s.kept ≡ true → b ≡ slice_index (s.frame (page_of a)) (a % 512) → StandsWith s file memory → b ≡ byte_at memory a
peek_kept s None memory a b there r k e st = absurd st
peek_kept s (Some file) memory a b there r k e st = e ∙ peeked s file memory a _ there (home_of_absent s file (page_of a) r ∙ st.clean (page_of a) (kept_clean s (page_of a) k)) st

pub peek_absent : (s : Paging) (file : Option BlockFile) (memory : List Area) (a b : ℕ) (x : List ℕ) → is_some (area_of s.areas (page_of a)) ≡ true → is_listed (page_of a) s.order ≡ false → ComesFrom s file (page_of a) x → b ≡ slice_index x (a % 512) → StandsWith s file memory → b ≡ byte_at memory a
peek_absent s None memory a b x there r c e st = absurd st
peek_absent s (Some file) memory a b x there r c e st =
    let h = has_home s file memory (page_of a) there r st in
    let same : x ≡ h.0 = c h.0 h.1 in
    e ∙ ap (λ (z : List ℕ). slice_index z (a % 512)) same ∙ peeked s file memory a _ there (home_of_absent s file (page_of a) r ∙ h.1) st

same_some : (x y : List ℕ) → ◌≡◌ {A = Option (List ℕ)} (Some x) (Some y) → y ≡ x
same_some x y e = cc

pub peeked_frame : (s : Paging) (file : Option BlockFile) (a b : ℕ) → (is_listed (page_of a) s.order || is_listed (page_of a) s.kept) ≡ true → b ≡ slice_index (s.frame (page_of a)) (a % 512) → PeekedFrom s file a b
unfolding seen
peeked_frame s None a b there e = tt
peeked_frame s (Some file) a b there e = λ x h.
    let k : Some (s.frame (page_of a)) ≡ Some x = rw there at h in
    e ∙ ap (λ (z : List ℕ). slice_index z (a % 512)) (sym (same_some (s.frame (page_of a)) x k))

pub peeked_home : (s : Paging) (file : Option BlockFile) (a b : ℕ) (y : List ℕ) → (is_listed (page_of a) s.order || is_listed (page_of a) s.kept) ≡ false → ComesFrom s file (page_of a) y → b ≡ slice_index y (a % 512) → PeekedFrom s file a b
unfolding seen
peeked_home s None a b y none c e = tt
peeked_home s (Some file) a b y none c e = λ x h.
    let k : home s file (page_of a) ≡ Some x = rw none at h in
    e ∙ ap (λ (z : List ℕ). slice_index z (a % 512)) (c x k)

pub either_true : (a b : Bool) → b ≡ true → (a || b) ≡ true
either_true true b h = refl
either_true false b h = h

pub first_true : (a b : Bool) → a ≡ true → (a || b) ≡ true
first_true a b h = rw h refl

pub neither : (a b : Bool) → a ≡ false → b ≡ false → (a || b) ≡ false
neither a b h k = rw h k

-- at most one block was read

pub once_unchanged : (file after : Option BlockFile) → after ≡ file → ReadsAtMost 1 file after
unfolding after_reads
once_unchanged file after e f told = (0, omega arith, e ∙ told)

once_read : (p : ℕ) (s : Paging) (file : Option BlockFile) → ReadsAtMost 1 file (read_for p s file)
unfolding read_for after_reads
once_read p s file = elim (cases_Bool (s.blocked p)) [
  | inl b ↦ rw b (λ f told. (1, omega arith, ap (λ (z : Option BlockFile). option_map after_read z) told))
  | inr b ↦ rw b (λ f told. (0, omega arith, told))
]

pub once_peeked : (p : ℕ) (s : Paging) (file after : Option BlockFile) → after ≡ read_for p s file → ReadsAtMost 1 file after
once_peeked p s file after e = subst (λ (z : Option BlockFile). ReadsAtMost 1 file z) (sym e) (once_read p s file)
