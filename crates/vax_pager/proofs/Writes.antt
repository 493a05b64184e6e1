-- The steps of writes to resident pages.
use Rattle.std.proofs.Common.{ℕ, zero, suc, ◌≡◌, ◌+◌, ◌-◌, ◌<◌, ◌≤◌, true, false, List, [], ◌∷◌, ◌++◌, take, drop, length, length-append, length-drop, refl, ap, sym, ◌∙◌, subst, arith, ◌%◌, ◌^◌, inl, inr, Option, Some, None, slice_index, slice_set, length-set, get_or, Vec, Global}
use Rattle.std.specs.Prelude.{is_some}
use Rattle.std.proofs.lemmas.Bool.{cases_Bool, cases_lt, eq-eqb, false≢true}
use Rattle.std.proofs.Math.Path.{fun_ext}
use Rattle.std.proofs.lemmas.List.{length-take-le}
use Rattle.vax_space.specs.Areas.{block_of}
use Rattle.vax_space.specs.Reference.{page_of}
use Rattle.vax_flat.specs.Memory.{after}
use Rattle.vax_flat.specs.Port.{View, marking, put, put_run, with_number, with_run}
use Rattle.vax_undo.specs.Blocks.{low_bytes}
use Rattle.vax_undo.proofs.Numbers.{low-length, put_is}
use Rattle.vax_table.specs.declared.Walk.{Walk}
use Rattle.vax_table.specs.declared.Walk.TheVariants.{Resident, Absent, Outside}
use Rattle.vax_table.specs.declared.Tables.{Tables}
use Rattle.vax_table.specs.Mapping.{frame_of, is_resident, marked}
use Rattle.vax_table.specs.Tables.{walked, kept}
use Rattle.vax_tb.specs.declared.buffer.Buffer.{Buffer}
use Rattle.vax_tb.specs.Buffer.{dropped}
use Rattle.vax_tb.specs.Meaning.{buffered}
use Rattle.vax_lists.specs.Lines.{PageLists, appended, frame_in, pages_of, with_modified}
use Rattle.vax_pager.specs.declared.store.Store.{Store}
use Rattle.vax_pager.specs.Listing.{is_listed}
use Rattle.vax_pager.specs.Paging.{Paging, view_of}
use Rattle.vax_pager.specs.Steps.{OnlyWritten, at, filled, touched, touched_by, touched_page}
use Rattle.vax_pager.specs.Frames.{held_by}
use Rattle.vax_pager.specs.Store.{IsSound, has_block, held, overwritten, paging}
use Rattle.vax_pager.proofs.Listing.{in_push, pages_push}
use Rattle.vax_pager.proofs.Moves.{Changes, at_itself, frames_of, frames_set, frame_means, held_changes, held_room, modified_is, one_held, resident_is, sound_moved, frames_are}
use Rattle.vax_pager.proofs.Steps.{came_here, came_other, fits_marked, marked_held, no_some, small_set, whole_set}
use Rattle.vax_pager.proofs.Views.{get_same, only_filled, only_then, only_touched, over_inside, over_outside, run_touched, view_filled}

held_frame : (walk : Walk) (left : Option ℕ) (f : ℕ) → held_by walk left ≡ Some f → is_resident walk ≡ true → frame_of walk ≡ Some f
held_frame (Resident g pr md) left f e r = e
held_frame (Absent pr) left f e r = absurd (false≢true r)
held_frame (Outside past) left f e r = absurd (false≢true r)

marked_same : (s : Store) (p : ℕ) → is_resident (walked s.tables p) ≡ true → held_by (marked (walked s.tables p)) None ≡ held s p
unfolding held
marked_same s p r = marked_held (walked s.tables p) (kept s.tables p) r

frame_here : (s : Store) (p f : ℕ) → held s p ≡ Some f → is_resident (walked s.tables p) ≡ true → frame_of (walked s.tables p) ≡ Some f
unfolding held
frame_here s p f e r = held_frame (walked s.tables p) (kept s.tables p) f e r

pub marked_resident : (s : Store) (p : ℕ) → IsSound 0 s → is_listed p (paging s).order ≡ true → is_resident (walked s.tables p) ≡ true
marked_resident s p h r = sym (resident_is 0 s p h) ∙ r

pub unmarked : (s : Store) (p : ℕ) → IsSound 0 s → is_listed p (paging s).modified ≡ false → frame_in s.lists.modified p ≡ None
unmarked s p h m = (h.fine p).modified ∙ no_some _ (sym (modified_is 0 s p h) ∙ m)

pub order_there : (s : Store) (p f : ℕ) → held s p ≡ Some f → is_listed p (paging s).order ≡ true → IsSound 0 s → frame_in s.lists.order p ≡ Some f
order_there s p f there r h = (h.fine p).order ∙ frame_here s p f there (marked_resident s p h r)

-- a resident page is marked

pub sound_touched : (s : Store) (p f : ℕ) (tables : Tables) (buffer : Buffer) (lists : PageLists) → Changes s tables p (marked (walked s.tables p)) None → buffered buffer ≡ dropped (buffered s.buffer) p → lists ≡ with_modified s.lists (appended s.lists.modified p f) → held s p ≡ Some f → is_listed p (paging s).order ≡ true → is_listed p (paging s).modified ≡ false → is_some (block_of s.space p) ≡ true → IsSound 0 s → IsSound 0 (record s { tables = tables; buffer = buffer; lists = lists })
sound_touched s p f tables buffer lists c b el there resident clean writable h =
    let r = marked_resident s p h resident in
    let new = unmarked s p h clean in
    let base = fits_marked (walked s.tables p) _ _ _ _ _ _ f _ (h.fine p) (frame_here s p f there r) writable in
    sound_moved 0 0 s (record s { tables = tables; buffer = buffer; lists = lists }) p (marked (walked s.tables p)) None h (record {
      changes = c;
      buffer = b;
      stays = record { space = refl; used = refl; limit = rw el refl };
      frames = frames_are 0 s h;
      here = rw (el, came_here p f s.lists.modified new) base;
      other = λ q o. rw (el, came_other p q f s.lists.modified new o) (h.fine q);
      fresh = λ g e q o. one_held 0 s p g h (sym (marked_same s p r) ∙ e) q o;
      lengths = rw el h.lengths;
      once = rw el h.once;
      pins = rw el h.pins;
    })

pub held_touched : (s : Store) (p : ℕ) (tables : Tables) (buffer : Buffer) (lists : PageLists) → Changes s tables p (marked (walked s.tables p)) None → is_listed p (paging s).order ≡ true → IsSound 0 s → held (record s { tables = tables; buffer = buffer; lists = lists }) ≡ held s
held_touched s p tables buffer lists c resident h =
    let same = marked_same s p (marked_resident s p h resident) in
    held_changes s (record s { tables = tables; buffer = buffer; lists = lists }) p _ None c ∙ at_itself p _ (held s) same

touched_new : (modified : List ℕ) (p : ℕ) → is_listed p modified ≡ false → touched_by modified p ≡ modified ++ p ∷ []
touched_new modified p h = rw h refl

pub paging_touched : (s : Store) (p f : ℕ) (tables : Tables) (buffer : Buffer) (lists : PageLists) → Changes s tables p (marked (walked s.tables p)) None → lists ≡ with_modified s.lists (appended s.lists.modified p f) → is_listed p (paging s).order ≡ true → is_listed p (paging s).modified ≡ false → IsSound 0 s → paging (record s { tables = tables; buffer = buffer; lists = lists }) ≡ touched_page p (paging s)
unfolding paging touched_page has_block
paging_touched s p f tables buffer lists c el resident clean h =
    let t : Store = record s { tables = tables; buffer = buffer; lists = lists } in
    let frame : frames_of s.frames.items (held t) ≡ frames_of s.frames.items (held s) = ap (frames_of s.frames.items) (held_touched s p tables buffer lists c resident h) in
    let lo : pages_of lists.order ≡ pages_of s.lists.order = ap (λ (l : PageLists). pages_of l.order) el in
    let lm : pages_of lists.modified ≡ touched_by (pages_of s.lists.modified) p =
    ap (λ (l : PageLists). pages_of l.modified) el ∙ pages_push s.lists.modified p f ∙ sym (touched_new (pages_of s.lists.modified) p clean) in
    let lk : pages_of lists.kept ≡ pages_of s.lists.kept = ap (λ (l : PageLists). pages_of l.kept) el in
    cc

touched_again : (modified : List ℕ) (p : ℕ) → is_listed p modified ≡ true → touched_by modified p ≡ modified
touched_again modified p h = rw h refl

pub touched_none : (s : Paging) (p : ℕ) → is_listed p s.modified ≡ true → s ≡ touched_page p s
unfolding touched_page
touched_none s p h = rw h refl

-- a frame has other bytes

pub over_small : (k : ℕ) (xs old : List ℕ) → k + length xs ≤ length old → ((j : ℕ) → slice_index xs j < 256) → ((j : ℕ) → slice_index old j < 256) → (j : ℕ) → slice_index (overwritten k xs old) j < 256
over_small k xs old h a b j = elim (cases_lt j k) [
  | inl low ↦ rw (over_outside k xs old j h (λ x y. omega arith)) (b j)
  | inr up ↦ elim (cases_lt j (k + length xs)) [
    | inl inside ↦ rw (over_inside k xs old j h up inside) (a (j - k))
    | inr past ↦ rw (over_outside k xs old j h (λ x y. omega arith)) (b j)
  ]
]

pub sound_filled : (s : Store) (f : ℕ) (bytes : List ℕ) (frames : Vec (List ℕ) Global) → frames.items ≡ slice_set s.frames.items f bytes → f < length s.frames.items → length bytes ≡ 512 → ((k : ℕ) → slice_index bytes k < 256) → IsSound 0 s → IsSound 0 (record s { frames = frames })
unfolding held
sound_filled s f bytes frames ef low size few h =
    let lens : length frames.items ≡ length s.frames.items = ap length ef ∙ length-set s.frames.items f bytes in
    record {
      fine = h.fine;
      one = h.one;
      agrees = h.agrees;
      lengths = h.lengths;
      used = rw lens h.used;
      few = rw lens h.few;
      whole = rw ef (whole_set s.frames.items f bytes size h.whole);
      small = rw ef (small_set s.frames.items f bytes low few h.small);
      limit = h.limit ∙ sym lens;
      once = h.once;
      space = h.space;
      pins = h.pins;
    }

pub held_filled : (s : Store) (frames : Vec (List ℕ) Global) → held (record s { frames = frames }) ≡ held s
unfolding held
held_filled s frames = refl

pub paging_filled : (s : Store) (p f : ℕ) (bytes : List ℕ) (frames : Vec (List ℕ) Global) → frames.items ≡ slice_set s.frames.items f bytes → held s p ≡ Some f → IsSound 0 s → paging (record s { frames = frames }) ≡ filled p bytes (paging s)
unfolding paging filled has_block
paging_filled s p f bytes frames ef there h =
    let t : Store = record s { frames = frames } in
    let low = held_room 0 s p f h there in
    let lens : length frames.items ≡ length s.frames.items = ap length ef ∙ length-set s.frames.items f bytes in
    let frame : frames_of frames.items (held t) ≡ at p bytes (frames_of s.frames.items (held s)) =
    ap (frames_of frames.items) (held_filled s frames) ∙ ap (λ (z : List (List ℕ)). frames_of z (held s)) ef ∙ frames_set s.frames.items (held s) f p bytes low there (one_held 0 s p f h there) in
    cc

-- a part of a frame that was written

over-length : (k : ℕ) (xs old : List ℕ) → k + length xs ≤ length old → length (overwritten k xs old) ≡ length old
over-length k xs old h = omega (arith, length-append (take k old) (xs ++ drop (length xs) (drop k old)), length-append xs (drop (length xs) (drop k old)), length-drop (length xs) (drop k old), length-drop k old, length-take-le k old (omega arith))

put_over : (a k : ℕ) (old ys xs was : List ℕ) → k ≡ length xs → ys ≡ xs → old ≡ was → take a old ++ (ys ++ drop k (drop a old)) ≡ overwritten a xs was
put_over a k old ys xs was ek ey eo = rw (ek, ey, eo) refl

put_items : (s : Store) (addr f k : ℕ) (old ys xs : List ℕ) (frames : Vec (List ℕ) Global) → frames.items ≡ slice_set s.frames.items f (take (addr % 512) old ++ (ys ++ drop k (drop (addr % 512) old))) →
    old ≡ get_or s.frames.items f old → k ≡ length xs → ys ≡ xs → held s (page_of addr) ≡ Some f → IsSound 0 s → frames.items ≡ slice_set s.frames.items f (overwritten (addr % 512) xs ((paging s).frame (page_of addr)))
put_items s addr f k old ys xs frames e is ek ey there h =
    let was : old ≡ (paging s).frame (page_of addr) = get_same s.frames.items f old (held_room 0 s (page_of addr) f h there) is ∙ frame_means s (page_of addr) f there in
    e ∙ ap (slice_set s.frames.items f) (put_over (addr % 512) k old ys xs ((paging s).frame (page_of addr)) ek ey was)

frame_bytes : (s : Store) (p f : ℕ) → held s p ≡ Some f → IsSound 0 s → (j : ℕ) → slice_index ((paging s).frame p) j < 256
frame_bytes s p f there h j = subst (λ (z : List ℕ). slice_index z j < 256) (frame_means s p f there) (h.small f j)

-- the bytes of a page that has a frame are 512
pub frame_size : (s : Store) (p f : ℕ) → held s p ≡ Some f → IsSound 0 s → length ((paging s).frame p) ≡ 512
frame_size s p f there h = ap (length {A = ℕ}) (sym (frame_means s p f there)) ∙ h.whole f (held_room 0 s p f h there)

pub frame_length : (s : Store) (addr f : ℕ) (old : List ℕ) → old ≡ get_or s.frames.items f old → held s (page_of addr) ≡ Some f → IsSound 0 s → length old ≡ 512
frame_length s addr f old is there h = ap (length {A = ℕ}) (get_same s.frames.items f old (held_room 0 s (page_of addr) f h there) is ∙ frame_means s (page_of addr) f there) ∙ frame_size s (page_of addr) f there h

pub sound_put : (s : Store) (addr f k : ℕ) (old ys xs : List ℕ) (frames : Vec (List ℕ) Global) → frames.items ≡ slice_set s.frames.items f (take (addr % 512) old ++ (ys ++ drop k (drop (addr % 512) old))) →
    old ≡ get_or s.frames.items f old → k ≡ length xs → ys ≡ xs → held s (page_of addr) ≡ Some f → addr % 512 + length xs ≤ 512 → ((j : ℕ) → slice_index xs j < 256) → IsSound 0 s → IsSound 0 (record s { frames = frames })
sound_put s addr f k old ys xs frames e is ek ey there within few h =
    let size = frame_size s (page_of addr) f there h in
    let fit : addr % 512 + length xs ≤ length ((paging s).frame (page_of addr)) = omega (arith, size) in
    sound_filled s f (overwritten (addr % 512) xs ((paging s).frame (page_of addr))) frames (put_items s addr f k old ys xs frames e is ek ey there h) (held_room 0 s (page_of addr) f h there)
    (over-length (addr % 512) xs ((paging s).frame (page_of addr)) fit ∙ size)
    (over_small (addr % 512) xs ((paging s).frame (page_of addr)) fit few (frame_bytes s (page_of addr) f there h)) h

pub paging_put : (s : Store) (addr f k : ℕ) (old ys xs : List ℕ) (frames : Vec (List ℕ) Global) → frames.items ≡ slice_set s.frames.items f (take (addr % 512) old ++ (ys ++ drop k (drop (addr % 512) old))) →
    old ≡ get_or s.frames.items f old → k ≡ length xs → ys ≡ xs → held s (page_of addr) ≡ Some f → IsSound 0 s → paging (record s { frames = frames }) ≡ filled (page_of addr) (overwritten (addr % 512) xs ((paging s).frame (page_of addr))) (paging s)
paging_put s addr f k old ys xs frames e is ek ey there h =
    paging_filled s (page_of addr) f (overwritten (addr % 512) xs ((paging s).frame (page_of addr))) frames (put_items s addr f k old ys xs frames e is ek ey there h) there h

-- a touch and a write within a page

touched_twice : (modified : List ℕ) (p : ℕ) → is_listed p (touched_by modified p) ≡ true
touched_twice modified p = elim (cases_Bool (is_listed p modified)) [
  | inl t ↦ rw t t
  | inr f ↦ rw (f, in_push p p modified, eq-eqb p p refl) refl
]

pub touched_range : (modified : List ℕ) (addr n : ℕ) → addr < 2 ^ 32 → addr % 512 + suc n ≤ 512 → touched modified addr (suc n) ≡ touched_by modified (page_of addr)
unfolding touched
touched_range modified addr zero small within = refl
touched_range modified addr (suc n) small within =
    let small' : after addr < 2 ^ 32 = omega arith in
    let same : page_of (after addr) ≡ page_of addr = omega arith in
    touched_range (touched_by modified (page_of addr)) (after addr) n small' (omega arith)
    ∙ ap (touched_by (touched_by modified (page_of addr))) same
    ∙ touched_again (touched_by modified (page_of addr)) (page_of addr) (touched_twice modified (page_of addr))

pub touched_some : (modified : List ℕ) (addr n : ℕ) → addr < 2 ^ 32 → addr % 512 + n ≤ 512 → 1 ≤ n → touched_by modified (page_of addr) ≡ touched modified addr n
touched_some modified addr zero small within some = absurd (omega arith)
touched_some modified addr (suc n) small within some = sym (touched_range modified addr n small within)

pub page_touched : (s : Paging) (p : ℕ) → is_listed p (touched_page p s).modified ≡ true
unfolding touched_page
page_touched s p = touched_twice s.modified p

pub frame_touched : (s : Paging) (p q : ℕ) → (touched_page p s).frame q ≡ s.frame q
unfolding touched_page
frame_touched s p q = refl

order_touched : (s : Paging) (p : ℕ) → (touched_page p s).order ≡ s.order
unfolding touched_page
order_touched s p = refl

pub written_view : (s t u : Paging) (addr : ℕ) (xs : List ℕ) → t ≡ touched_page (page_of addr) s → u ≡ filled (page_of addr) (overwritten (addr % 512) xs (t.frame (page_of addr))) t → addr < 2 ^ 32 → addr % 512 + length xs ≤ 512 → 1 ≤ length xs → length (s.frame (page_of addr)) ≡ 512 → view_of u ≡ with_run (view_of s) addr xs
written_view s t u addr xs e k small within some size =
    let whole : length ((touched_page (page_of addr) s).frame (page_of addr)) ≡ 512 = ap (length {A = ℕ}) (frame_touched s (page_of addr) (page_of addr)) ∙ size in
    ap (λ (z : Paging). view_of z) k
    ∙ ap (λ (z : Paging). view_of (filled (page_of addr) (overwritten (addr % 512) xs (z.frame (page_of addr))) z)) e
    ∙ view_filled (touched_page (page_of addr) s) addr xs small within some whole (page_touched s (page_of addr))
    ∙ run_touched s addr xs small within some

pub written_only : (s t u : Paging) (p : ℕ) (bytes : List ℕ) → t ≡ touched_page p s → u ≡ filled p bytes t → is_listed p s.order ≡ true → OnlyWritten s u
written_only s t u p bytes e k here =
    subst (λ (z : Paging). OnlyWritten s z) (sym (k ∙ ap (filled p bytes) e))
    (only_then s (touched_page p s) (filled p bytes (touched_page p s)) (only_touched s p)
    (only_filled (touched_page p s) p bytes (page_touched s p) (ap (is_listed p) (order_touched s p) ∙ here)))

pub modified_filled : (p : ℕ) (bytes : List ℕ) (s : Paging) → (filled p bytes s).modified ≡ s.modified
unfolding filled
modified_filled p bytes s = refl

pub modified_touched : (p : ℕ) (s : Paging) → (touched_page p s).modified ≡ touched_by s.modified p
unfolding touched_page
modified_touched p s = refl

pub written_listed : (s t u : Paging) (addr n : ℕ) (bytes : List ℕ) → t ≡ touched_page (page_of addr) s → u ≡ filled (page_of addr) bytes t → addr < 2 ^ 32 → addr % 512 + n ≤ 512 → 1 ≤ n → u.modified ≡ touched s.modified addr n
written_listed s t u addr n bytes e k small within some =
    ap (λ (z : Paging). z.modified) (k ∙ ap (filled (page_of addr) bytes) e)
    ∙ modified_filled (page_of addr) bytes (touched_page (page_of addr) s)
    ∙ modified_touched (page_of addr) s
    ∙ touched_some s.modified addr n small within some

-- the bytes of a number as a run
pub number_run : (view : View) (addr n value : ℕ) → with_run view addr (low_bytes n value) ≡ with_number view addr n value
number_run view addr n value =
    let bytes : put_run view.byte addr (low_bytes n value) ≡ put view.byte addr n value = fun_ext (λ place. sym (put_is view.byte addr n value place)) in
    ap (λ (f : ℕ → ℕ). record view { byte = f; marked = marking view.marked addr (length (low_bytes n value)) }) bytes
    ∙ ap (λ (k : ℕ). record view { byte = put view.byte addr n value; marked = marking view.marked addr k }) (low-length n value)

-- at once, where the page is modified
pub filled_view : (s u : Paging) (addr : ℕ) (xs : List ℕ) → u ≡ filled (page_of addr) (overwritten (addr % 512) xs (s.frame (page_of addr))) s → addr < 2 ^ 32 → addr % 512 + length xs ≤ 512 → 1 ≤ length xs → length (s.frame (page_of addr)) ≡ 512 → is_listed (page_of addr) s.modified ≡ true → view_of u ≡ with_run (view_of s) addr xs
filled_view s u addr xs k small within some size listed = ap (λ (z : Paging). view_of z) k ∙ view_filled s addr xs small within some size listed

pub filled_only : (s u : Paging) (p : ℕ) (bytes : List ℕ) → u ≡ filled p bytes s → is_listed p s.modified ≡ true → is_listed p s.order ≡ true → OnlyWritten s u
filled_only s u p bytes k listed here = subst (λ (z : Paging). OnlyWritten s z) (sym k) (only_filled s p bytes listed here)

pub filled_listed : (s u : Paging) (addr n : ℕ) (bytes : List ℕ) → u ≡ filled (page_of addr) bytes s → is_listed (page_of addr) s.modified ≡ true → addr < 2 ^ 32 → addr % 512 + n ≤ 512 → 1 ≤ n → u.modified ≡ touched s.modified addr n
filled_listed s u addr n bytes k listed small within some =
    ap (λ (z : Paging). z.modified) k
    ∙ modified_filled (page_of addr) bytes s
    ∙ sym (touched_again s.modified (page_of addr) listed)
    ∙ touched_some s.modified addr n small within some

-- another state that means the same
pub modified_same : (s t : Paging) (p : ℕ) → t ≡ s → is_listed p s.modified ≡ true → is_listed p t.modified ≡ true
modified_same s t p e h = ap (λ (z : Paging). is_listed p z.modified) e ∙ h

pub order_same : (s t : Paging) (p : ℕ) → t ≡ s → is_listed p s.order ≡ true → is_listed p t.order ≡ true
order_same s t p e h = ap (λ (z : Paging). is_listed p z.order) e ∙ h

pub only_from : (s t u : Paging) → t ≡ s → OnlyWritten t u → OnlyWritten s u
only_from s t u e h = subst (λ (z : Paging). OnlyWritten z u) e h

areas_touched : (s : Paging) (p : ℕ) → (touched_page p s).areas ≡ s.areas
unfolding touched_page
areas_touched s p = refl

pub order_after : (s t u : Paging) (p q : ℕ) → t ≡ s → u ≡ touched_page p t → is_listed q s.order ≡ true → is_listed q u.order ≡ true
order_after s t u p q e k h = ap (λ (z : Paging). is_listed q z.order) (k ∙ ap (touched_page p) e) ∙ ap (is_listed q) (order_touched s p) ∙ h

pub areas_after : (s t u : Paging) (p : ℕ) → t ≡ s → u ≡ touched_page p t → u.areas ≡ s.areas
areas_after s t u p e k = ap (λ (z : Paging). z.areas) (k ∙ ap (touched_page p) e) ∙ areas_touched s p
