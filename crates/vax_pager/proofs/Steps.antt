-- Each step of the parts keeps them sound, and is a step of what they mean.
use Rattle.std.proofs.Common.{ℕ, ◌≡◌, ◌≢◌, ◌+◌, ◌<◌, ◌≤◌, Bool, true, false, List, [], ◌∷◌, ◌++◌, ◌-◌, take, drop, take-append-drop, length, length-append, if◌then◌else◌, refl, ap, sym, ◌∙◌, subst, arith, inl, inr, Option, Some, None, slice_index, slice_index_or, slice_set, get_or-set_same, get_or-set_other, length-set, Vec, Global}
use Rattle.std.proofs.lemmas.List.{length-drop}
use Rattle.std.specs.Prelude.{is_some}
use Rattle.std.proofs.Math.Path.{fun_ext}
use Rattle.std.proofs.lemmas.Bool.{cases_Bool, cases_eq, eq-eqb, ne_eqb, false≢true}
use Rattle.vax_space.specs.declared.Area.{Area}
use Rattle.vax_space.specs.Areas.{block_of, prot_of}
use Rattle.vax_space.proofs.Blocks.{block_page}
use Rattle.vax_outside.specs.Faults.{raised}
use Rattle.vax_table.specs.declared.Walk.{Walk}
use Rattle.vax_table.specs.declared.Walk.TheVariants.{Resident, Outside}
use Rattle.vax_table.specs.declared.Tables.{Tables}
use Rattle.vax_table.specs.Mapping.{cleared, frame_of, is_inside, is_resident, marked, prot_said, set_in}
use Rattle.vax_table.specs.Tables.{walked, kept}
use Rattle.vax_tb.specs.declared.buffer.Buffer.{Buffer}
use Rattle.vax_tb.specs.Buffer.{dropped}
use Rattle.vax_tb.specs.Meaning.{buffered}
use Rattle.vax_lists.specs.declared.lists.Placed.{Placed}
use Rattle.vax_lists.specs.Lines.{PageLists, frame_in, without, pages_of, placed, with_kept, with_modified, with_order, appended}
use Rattle.vax_lists.proofs.Pages.{in_appended, in_without}
use Rattle.vax_pager.specs.declared.store.Store.{Store}
use Rattle.vax_pager.specs.Marks.{has_mark}
use Rattle.vax_pager.specs.Listing.{is_listed, leave_out}
use Rattle.vax_pager.specs.Steps.{at, flushed, released, taken_back, brought, forgotten, removed, settled}
use Rattle.vax_pager.specs.Frames.{held_by, dirty_frame}
use Rattle.vax_pager.specs.Store.{held, flag_of, has_block, last_of, lowered_if, paging, Fits, IsSound, IsFree}
use Rattle.vax_pager.proofs.Listing.{pages_push, pages_without, pages-length, out_none, out-append, listed_is, once_left, once_more}
use Rattle.vax_pager.proofs.Last.{drop_push, last_none, last_parts, last-length, one_less}
use Rattle.vax_pager.proofs.Moves.{at_same, at_other, Changes, sound_moved, frames_are, held_changes, frames_of, frames_same, frames_gone, frames_set, held_low, order_held, kept_held, modified_held, resident_is, kept_is, one_held}

-- lists at the page of a step, and at another
gone_here : (p : ℕ) (xs : List Placed) → frame_in (without p xs) p ≡ None
gone_here p xs = in_without p p xs ∙ rw (eq-eqb p p refl) refl

gone_other : (p q : ℕ) (xs : List Placed) → q ≢ p → frame_in (without p xs) q ≡ frame_in xs q
gone_other p q xs o = in_without p q xs ∙ rw (ne_eqb q p o) refl

pub came_here : (p f : ℕ) (xs : List Placed) → frame_in xs p ≡ None → frame_in (xs ++ placed p f ∷ []) p ≡ Some f
came_here p f xs new = in_appended xs p p f new ∙ rw (eq-eqb p p refl) refl

pub came_other : (p q f : ℕ) (xs : List Placed) → frame_in xs p ≡ None → q ≢ p → frame_in (xs ++ placed p f ∷ []) q ≡ frame_in xs q
came_other p q f xs new o = in_appended xs p q f new ∙ rw (ne_eqb q p o) refl

-- what is so of the page of a step: it is in a frame and not modified, or in none
fits_in : (walk : Walk) (o k m prot block : Option ℕ) (f u : ℕ) → is_inside walk ≡ true → prot_said walk ≡ prot → f < u → o ≡ Some f → k ≡ None → m ≡ None → Fits (set_in walk f) None o k m prot block u
fits_in (Outside past) o k m prot block f u i area low eo ek em = absurd (false≢true i)
fits_in walk o k m prot block f u i area low eo ek em = record {
  order = eo;
  kept = ek;
  modified = em;
  apart = λ x. refl;
  inside = λ x. refl;
  writable = λ x. absurd (false≢true x);
  area = area;
  holds = λ frame x. let same : f ≡ frame = cc in subst (λ (z : ℕ). z < u) same low;
}

fits_out : (walk : Walk) (left o k m prot block : Option ℕ) (u : ℕ) → is_inside walk ≡ true → prot_said walk ≡ prot → ((frame : ℕ) → left ≡ Some frame → frame < u) → o ≡ None → k ≡ left → m ≡ None → Fits (cleared walk) left o k m prot block u
fits_out (Outside past) left o k m prot block u i area low eo ek em = absurd (false≢true i)
fits_out walk left o k m prot block u i area low eo ek em = record {
  order = eo;
  kept = ek;
  modified = em;
  apart = λ x. absurd (false≢true x);
  inside = λ x. refl;
  writable = λ x. absurd (false≢true x);
  area = area;
  holds = low;
}

pub fits_marked : (walk : Walk) (left o k m : Option ℕ) (prot block : Option ℕ) (f : ℕ) (u : ℕ) → Fits walk left o k m prot block u → frame_of walk ≡ Some f → is_some block ≡ true → Fits (marked walk) None o k (Some f) prot block u
fits_marked (Resident g pr md) left o k m prot block f u h e w = record {
  order = h.order;
  kept = h.kept ∙ h.apart refl;
  modified = sym e;
  apart = λ x. refl;
  inside = λ x. refl;
  writable = λ x. w;
  area = h.area;
  holds = h.holds;
}
fits_marked walk left o k m prot block f u h e w = cc

-- frames that a step of marks leaves
set_held : (walk : Walk) (left : Option ℕ) (f : ℕ) → is_inside walk ≡ true → held_by (set_in walk f) None ≡ Some f
set_held (Outside past) left f i = absurd (false≢true i)
set_held walk left f i = refl

pub dirty_inside : (walk : Walk) (f : ℕ) → dirty_frame walk ≡ Some f → is_inside walk ≡ true
dirty_inside (Resident g pr md) f e = refl
dirty_inside walk f e = cc

dirty_is : (walk : Walk) (f : ℕ) → dirty_frame walk ≡ Some f → frame_of walk ≡ Some f
dirty_is (Resident g pr true) f e = e
dirty_is walk f e = cc

released_held : (walk : Walk) (left : Option ℕ) → is_resident walk ≡ true → held_by (cleared walk) (frame_of walk) ≡ held_by walk left
released_held (Resident f pr md) left r = refl
released_held walk left r = absurd (false≢true r)

cleared_held : (walk : Walk) → held_by (cleared walk) None ≡ None
cleared_held (Resident f pr md) = refl
cleared_held walk = refl

pub marked_held : (walk : Walk) (left : Option ℕ) → is_resident walk ≡ true → held_by (marked walk) None ≡ held_by walk left
marked_held (Resident f pr md) left r = refl
marked_held walk left r = absurd (false≢true r)

pub none_frame : (walk : Walk) → is_resident walk ≡ false → frame_of walk ≡ None
none_frame (Resident f pr md) r = absurd (false≢true (sym r))
none_frame walk r = refl

pub no_some : (o : Option ℕ) → is_some o ≡ false → o ≡ None
no_some None h = refl
no_some (Some x) h = absurd (false≢true (sym h))

is_there : (walk : Walk) (f : ℕ) → frame_of walk ≡ Some f → is_resident walk ≡ true
is_there (Resident g pr md) f e = refl
is_there walk f e = cc

there_inside : (walk : Walk) → is_resident walk ≡ true → is_inside walk ≡ true
there_inside (Resident f pr md) r = refl
there_inside walk r = absurd (false≢true r)

none_dirty : (walk : Walk) → frame_of walk ≡ None → dirty_frame walk ≡ None
none_dirty (Resident f pr md) e = cc
none_dirty walk e = refl

pub kept_absent : (walk : Walk) (left : Option ℕ) (f : ℕ) → (is_resident walk ≡ true → left ≡ None) → left ≡ Some f → frame_of walk ≡ None
kept_absent (Resident g pr md) left f apart e = let none = apart refl in cc
kept_absent walk left f apart e = refl

pub area_inside : (walk : Walk) (prot : Option ℕ) → prot_said walk ≡ prot → is_some prot ≡ true → is_inside walk ≡ true
area_inside (Outside past) prot e h = absurd (false≢true (ap is_some e ∙ h))
area_inside walk prot e h = refl

fits_more : (walk : Walk) (left o k m : Option ℕ) (prot block : Option ℕ) (u : ℕ) → Fits walk left o k m prot block u → Fits walk left o k m prot block (u + 1)
fits_more walk left o k m prot block u h = record {
  order = h.order;
  kept = h.kept;
  modified = h.modified;
  apart = h.apart;
  inside = h.inside;
  writable = h.writable;
  area = h.area;
  holds = λ frame x. omega (arith, h.holds frame x);
}

at_again : (p : ℕ) (bytes : List ℕ) (x : Option ℕ) (frames : List (List ℕ)) (h : ℕ → Option ℕ) → at p bytes (frames_of frames (at p x h)) ≡ at p bytes (frames_of frames h)
at_again p bytes x frames h = fun_ext (λ q. elim (cases_eq q p) [
  | inl e ↦ rw (e, at_same p bytes (frames_of frames (at p x h)), at_same p bytes (frames_of frames h)) refl
  | inr o ↦ rw (at_other p q bytes (frames_of frames (at p x h)) o, at_other p q bytes (frames_of frames h) o, at_other p q x h o) refl
])

frames_came : (frames : List (List ℕ)) (h : ℕ → Option ℕ) (f p : ℕ) (bytes : List ℕ) → f < length frames → ((q : ℕ) → h q ≢ Some f) → frames_of (slice_set frames f bytes) (at p (Some f) h) ≡ at p bytes (frames_of frames h)
frames_came frames h f p bytes low free =
    frames_set frames (at p (Some f) h) f p bytes low (at_same p (Some f) h) (λ q o e. free q (sym (at_other p q (Some f) h o) ∙ e))
    ∙ at_again p bytes (Some f) frames h

kept_same : (s : Store) (p : ℕ) → is_resident (walked s.tables p) ≡ true → held s p ≡ held_by (cleared (walked s.tables p)) (frame_of (walked s.tables p))
unfolding held
kept_same s p r = sym (released_held (walked s.tables p) (kept s.tables p) r)

no_none : (g : ℕ) → ◌≡◌ {A = Option ℕ} None (Some g) → ⊥
no_none g e = cc

came_free : (s : Store) (p f g : ℕ) → ◌≡◌ {A = Option ℕ} (Some f) (Some g) → IsFree f s → (q : ℕ) → held s q ≢ Some g
came_free s p f g e free q h = free.other q (h ∙ sym e)

-- the pinned pages are the last so many

abbrev pub front_of : Store → List ℕ
front_of s = take (length (pages_of s.lists.order) - s.pinned) (pages_of s.lists.order)

pub parts : (s : Store) → pages_of s.lists.order ≡ front_of s ++ last_of s.pinned (pages_of s.lists.order)
parts s = sym (take-append-drop (length (pages_of s.lists.order) - s.pinned) (pages_of s.lists.order))

last_push : (n p : ℕ) (xs : List ℕ) → n ≤ length xs → last_of (n + 1) (xs ++ p ∷ []) ≡ last_of n xs ++ p ∷ []
last_push n p xs few =
    let k : length (xs ++ p ∷ []) - (n + 1) ≡ length xs - n = omega (arith, length-append xs (p ∷ [])) in
    ap (λ (i : ℕ). drop i (xs ++ p ∷ [])) k ∙ drop_push (length xs - n) p xs (omega arith)

pub last_pages : (s : Store) (p f : ℕ) → s.pinned ≤ length s.lists.order → last_of (s.pinned + 1) (pages_of (appended s.lists.order p f)) ≡ last_of s.pinned (pages_of s.lists.order) ++ p ∷ []
last_pages s p f few =
    ap (last_of (s.pinned + 1)) (pages_push s.lists.order p f) ∙ last_push s.pinned p (pages_of s.lists.order) (omega (arith, few, pages-length s.lists.order))

-- a page that isn't pinned goes
last_same : (s : Store) (p : ℕ) → s.pinned ≤ length s.lists.order → is_listed p (last_of s.pinned (pages_of s.lists.order)) ≡ false → last_of s.pinned (pages_of (without p s.lists.order)) ≡ last_of s.pinned (pages_of s.lists.order)
last_same s p few out =
    let xs = pages_of s.lists.order in
    let end = last_of s.pinned xs in
    let e : pages_of (without p s.lists.order) ≡ leave_out p (front_of s) ++ end =
    pages_without p s.lists.order ∙ ap (leave_out p) (parts s) ∙ out-append p (front_of s) end ∙ ap (λ (z : List ℕ). leave_out p (front_of s) ++ z) (out_none p end out) in
    ap (last_of s.pinned) e ∙ last_parts s.pinned (leave_out p (front_of s)) end (last-length s.pinned xs (omega (arith, few, pages-length s.lists.order)))

few_out : (s : Store) (p : ℕ) → s.pinned ≤ length s.lists.order → is_listed p (last_of s.pinned (pages_of s.lists.order)) ≡ false → s.pinned ≤ length (without p s.lists.order)
few_out s p few out =
    let end = last_of s.pinned (pages_of (without p s.lists.order)) in
    omega (arith, ap (length {A = ℕ}) (last_same s p few out), last-length s.pinned (pages_of s.lists.order) (omega (arith, few, pages-length s.lists.order)), length-drop (length (pages_of (without p s.lists.order)) - s.pinned) (pages_of (without p s.lists.order)), pages-length (without p s.lists.order))

-- any page goes: it is one pinned page less where it was pinned
pub last_without : (s : Store) (p : ℕ) → s.pinned ≤ length s.lists.order → length (without p s.lists.order) + 1 ≡ length s.lists.order →
    last_of (lowered_if (is_listed p (last_of s.pinned (pages_of s.lists.order))) s.pinned) (pages_of (without p s.lists.order)) ≡ leave_out p (last_of s.pinned (pages_of s.lists.order))
last_without s p few fewer =
    let xs = pages_of s.lists.order in
    let end = last_of s.pinned xs in
    let e : pages_of (without p s.lists.order) ≡ leave_out p (front_of s) ++ leave_out p end =
    pages_without p s.lists.order ∙ ap (leave_out p) (parts s) ∙ out-append p (front_of s) end in
    let size : length end ≡ s.pinned = last-length s.pinned xs (omega (arith, few, pages-length s.lists.order)) in
    let total : length (leave_out p (front_of s)) + length (leave_out p end) + 1 ≡ length (front_of s) + length end =
    omega (arith, ap (length {A = ℕ}) e, ap (length {A = ℕ}) (parts s), length-append (leave_out p (front_of s)) (leave_out p end), length-append (front_of s) end, pages-length s.lists.order, pages-length (without p s.lists.order), fewer) in
    let count : length (leave_out p end) ≡ lowered_if (is_listed p end) s.pinned = ap (λ (z : ℕ). length (leave_out p end)) size ∙ one_less p (front_of s) end total ∙ ap (lowered_if (is_listed p end)) size in
    ap (last_of (lowered_if (is_listed p end) s.pinned)) e ∙ last_parts (lowered_if (is_listed p end) s.pinned) (leave_out p (front_of s)) (leave_out p end) count

pub lowered_few : (s : Store) (p : ℕ) → s.pinned ≤ length s.lists.order → length (without p s.lists.order) + 1 ≡ length s.lists.order → lowered_if (is_listed p (last_of s.pinned (pages_of s.lists.order))) s.pinned ≤ length (without p s.lists.order)
lowered_few s p few fewer =
    let xs = pages_of s.lists.order in
    elim (cases_Bool (is_listed p (last_of s.pinned xs))) [
      | inl t ↦ rw t (omega (arith, few, fewer))
      | inr f ↦ rw f (few_out s p few f)
    ]

-- the marks of blocks

one_page : (areas : List Area) (p q n : ℕ) → block_of areas p ≡ Some n → block_of areas q ≡ Some n → q ≡ p
one_page areas p q n b d =
    let i = block_page areas p (Some n) (sym b) in
    let j = block_page areas q (Some n) (sym d) in
    let k : Some q ≡ Some p = sym j ∙ i in
    cc

flag_other : (marks : ℕ → Bool) (n : ℕ) (o : Option ℕ) → o ≢ Some n → flag_of (at n true marks) o ≡ flag_of marks o
flag_other marks n None h = refl
flag_other marks n (Some m) h = at_other n m true marks (λ e. h (ap (λ (z : ℕ). Some z) e))

flags_set : (marks : ℕ → Bool) (areas : List Area) (p n : ℕ) → block_of areas p ≡ Some n → ◌≡◌ {A = ℕ → Bool} (λ q. flag_of (at n true marks) (block_of areas q)) (at p true (λ q. flag_of marks (block_of areas q)))
flags_set marks areas p n b = fun_ext (λ q. elim (cases_eq q p) [
  | inl e ↦ rw (e, at_same p true (λ r. flag_of marks (block_of areas r)), b) (at_same n true marks)
  | inr o ↦ rw (at_other p q true (λ r. flag_of marks (block_of areas r)) o) (flag_other marks n (block_of areas q) (λ d. o (one_page areas p q n b d)))
])

-- a modified page was written to its block

pub sound_flushed : (s : Store) (p f w : ℕ) (tables : Tables) (buffer : Buffer) (lists : PageLists) (blocked : List ℕ) → Changes s tables p (set_in (walked s.tables p) f) None → buffered buffer ≡ dropped (buffered s.buffer) p → lists ≡ with_modified s.lists (without p s.lists.modified) → frame_in s.lists.modified p ≡ Some f → IsSound 0 s → IsSound 0 (record s { tables = tables; buffer = buffer; lists = lists; blocked = blocked; written = w })
sound_flushed s p f w tables buffer lists blocked c b el there h =
    let fine = h.fine p in
    let dirty : dirty_frame (walked s.tables p) ≡ Some f = sym fine.modified ∙ there in
    let inside = dirty_inside (walked s.tables p) f dirty in
    let here : frame_of (walked s.tables p) ≡ Some f = dirty_is (walked s.tables p) f dirty in
    let same = modified_held 0 s p f h there in
    sound_moved 0 0 s (record s { tables = tables; buffer = buffer; lists = lists; blocked = blocked; written = w }) p (set_in (walked s.tables p) f) None h (record {
      changes = c;
      buffer = b;
      stays = record { space = refl; used = refl; limit = rw el refl };
      frames = frames_are 0 s h;
      here = rw el (fits_in (walked s.tables p) _ _ _ _ _ f _ inside fine.area (held_low 0 s p f h same) (fine.order ∙ here) (fine.kept ∙ fine.apart (is_there (walked s.tables p) f here)) (gone_here p s.lists.modified));
      other = λ q o. rw (el, gone_other p q s.lists.modified o) (h.fine q);
      fresh = λ g e q o. one_held 0 s p g h (same ∙ sym (set_held (walked s.tables p) None f inside) ∙ e) q o;
      lengths = rw el h.lengths;
      once = rw el h.once;
      pins = rw el h.pins;
    })

pub paging_flushed : (s : Store) (p f n w : ℕ) (tables : Tables) (buffer : Buffer) (lists : PageLists) (blocked : List ℕ) → Changes s tables p (set_in (walked s.tables p) f) None → lists ≡ with_modified s.lists (without p s.lists.modified) → has_mark blocked ≡ at n true (has_mark s.blocked) → frame_in s.lists.modified p ≡ Some f → block_of s.space p ≡ Some n → w ≡ raised s.written → IsSound 0 s → paging (record s { tables = tables; buffer = buffer; lists = lists; blocked = blocked; written = w }) ≡ flushed p (paging s)
unfolding paging flushed has_block
paging_flushed s p f n w tables buffer lists blocked c el eb there block ew h =
    let t : Store = record s { tables = tables; buffer = buffer; lists = lists; blocked = blocked; written = w } in
    let dirty : dirty_frame (walked s.tables p) ≡ Some f = sym (h.fine p).modified ∙ there in
    let same : held_by (set_in (walked s.tables p) f) None ≡ held s p = set_held (walked s.tables p) None f (dirty_inside (walked s.tables p) f dirty) ∙ sym (modified_held 0 s p f h there) in
    let frame : frames_of s.frames.items (held t) ≡ frames_of s.frames.items (held s) = frames_same s.frames.items s t p _ None c same in
    let lo : pages_of lists.order ≡ pages_of s.lists.order = ap (λ (l : PageLists). pages_of l.order) el in
    let lm : pages_of lists.modified ≡ leave_out p (pages_of s.lists.modified) = ap (λ (l : PageLists). pages_of l.modified) el ∙ pages_without p s.lists.modified in
    let lk : pages_of lists.kept ≡ pages_of s.lists.kept = ap (λ (l : PageLists). pages_of l.kept) el in
    let flags : (λ q. flag_of (has_mark blocked) (block_of s.space q)) ≡ at p true (λ q. flag_of (has_mark s.blocked) (block_of s.space q)) =
    ap (λ (z : ℕ → Bool). λ q. flag_of z (block_of s.space q)) eb ∙ flags_set (has_mark s.blocked) s.space p n block in
    cc

-- a resident page is absent, and its frame is kept

pub sound_released : (s : Store) (p f ev sp pn : ℕ) (tables : Tables) (buffer : Buffer) (lists : PageLists) → Changes s tables p (cleared (walked s.tables p)) (frame_of (walked s.tables p)) → buffered buffer ≡ dropped (buffered s.buffer) p → lists ≡ with_kept (with_order s.lists (without p s.lists.order)) (appended s.lists.kept p f) → length lists.order + 1 ≡ length s.lists.order → pn ≡ lowered_if (is_listed p (paging s).pinned) s.pinned → frame_in s.lists.order p ≡ Some f → is_listed p (paging s).modified ≡ false → IsSound 0 s → IsSound 0 (record s { tables = tables; buffer = buffer; lists = lists; pinned = pn; evicted = ev; spoiled = sp })
unfolding paging
sound_released s p f ev sp pn tables buffer lists c b el fewer en there clean h =
    let fine = h.fine p in
    let here : frame_of (walked s.tables p) ≡ Some f = sym fine.order ∙ there in
    let r = is_there (walked s.tables p) f here in
    let d : dirty_frame (walked s.tables p) ≡ None = no_some _ (sym (listed_is p s.lists.modified ∙ ap is_some fine.modified) ∙ clean) in
    let new : frame_in s.lists.kept p ≡ None = fine.kept ∙ fine.apart r in
    let base = fits_out (walked s.tables p) (frame_of (walked s.tables p)) _ _ _ _ _ _ (there_inside (walked s.tables p) r) fine.area (λ frame e. held_low 0 s p frame h (order_held 0 s p frame h (fine.order ∙ e)))
    (gone_here p s.lists.order) (came_here p f s.lists.kept new ∙ sym here) (fine.modified ∙ d) in
    let less : length (without p s.lists.order) + 1 ≡ length s.lists.order = rw el at fewer in
    sound_moved 0 0 s (record s { tables = tables; buffer = buffer; lists = lists; pinned = pn; evicted = ev; spoiled = sp }) p (cleared (walked s.tables p)) (frame_of (walked s.tables p)) h (record {
      changes = c;
      buffer = b;
      stays = record { space = refl; used = refl; limit = rw el refl };
      frames = frames_are 0 s h;
      here = rw el base;
      other = λ q d. rw (el, gone_other p q s.lists.order d, came_other p q f s.lists.kept new d) (h.fine q);
      fresh = λ g e q o. one_held 0 s p g h (kept_same s p r ∙ e) q o;
      lengths = rw el (omega (arith, h.lengths, less, length-append s.lists.kept (placed p f ∷ [])));
      once = rw el (once_left p s.lists.order h.once);
      pins = rw (el, en) (lowered_few s p h.pins less);
    })

pub paging_released : (s : Store) (p f ev sp pn : ℕ) (tables : Tables) (buffer : Buffer) (lists : PageLists) → Changes s tables p (cleared (walked s.tables p)) (frame_of (walked s.tables p)) → lists ≡ with_kept (with_order s.lists (without p s.lists.order)) (appended s.lists.kept p f) → length lists.order + 1 ≡ length s.lists.order → pn ≡ lowered_if (is_listed p (paging s).pinned) s.pinned → frame_in s.lists.order p ≡ Some f → ev ≡ raised s.evicted → sp ≡ (if is_listed p (paging s).pinned then raised s.spoiled else s.spoiled) → IsSound 0 s → paging (record s { tables = tables; buffer = buffer; lists = lists; pinned = pn; evicted = ev; spoiled = sp }) ≡ released p (paging s)
unfolding paging released has_block
paging_released s p f ev sp pn tables buffer lists c el fewer en there ee es h =
    let t : Store = record s { tables = tables; buffer = buffer; lists = lists; pinned = pn; evicted = ev; spoiled = sp } in
    let less : length (without p s.lists.order) + 1 ≡ length s.lists.order = rw el at fewer in
    let r = is_there (walked s.tables p) f (sym (h.fine p).order ∙ there) in
    let same : held_by (cleared (walked s.tables p)) (frame_of (walked s.tables p)) ≡ held s p = sym (kept_same s p r) in
    let frame : frames_of s.frames.items (held t) ≡ frames_of s.frames.items (held s) = frames_same s.frames.items s t p _ _ c same in
    let lo : pages_of lists.order ≡ leave_out p (pages_of s.lists.order) = ap (λ (l : PageLists). pages_of l.order) el ∙ pages_without p s.lists.order in
    let ln : last_of pn (pages_of lists.order) ≡ leave_out p (last_of s.pinned (pages_of s.lists.order)) =
    ap (λ (l : PageLists). last_of pn (pages_of l.order)) el ∙ ap (λ (k : ℕ). last_of k (pages_of (without p s.lists.order))) en ∙ last_without s p h.pins less in
    let lk : pages_of lists.kept ≡ pages_of s.lists.kept ++ p ∷ [] = ap (λ (l : PageLists). pages_of l.kept) el ∙ pages_push s.lists.kept p f in
    let lm : pages_of lists.modified ≡ pages_of s.lists.modified = ap (λ (l : PageLists). pages_of l.modified) el in
    cc

-- a kept page is resident again

pub sound_taken : (s : Store) (p f se pn : ℕ) (tables : Tables) (buffer : Buffer) (lists : PageLists) → Changes s tables p (set_in (walked s.tables p) f) None → buffered buffer ≡ dropped (buffered s.buffer) p → lists ≡ with_order (with_kept s.lists (without p s.lists.kept)) (appended s.lists.order p f) → length lists.kept + 1 ≡ length s.lists.kept → pn ≡ s.pinned + 1 → frame_in s.lists.kept p ≡ Some f → IsSound 0 s → IsSound 0 (record s { tables = tables; buffer = buffer; lists = lists; pinned = pn; served = se })
sound_taken s p f se pn tables buffer lists c b el fewer en there h =
    let fine = h.fine p in
    let left : kept s.tables p ≡ Some f = sym fine.kept ∙ there in
    let inside = fine.inside (rw left refl) in
    let absent = kept_absent (walked s.tables p) (kept s.tables p) f fine.apart left in
    let new : frame_in s.lists.order p ≡ None = fine.order ∙ absent in
    let same = kept_held 0 s p f h there in
    let base = fits_in (walked s.tables p) _ _ _ _ _ f _ inside fine.area (held_low 0 s p f h same) (came_here p f s.lists.order new) (gone_here p s.lists.kept) (fine.modified ∙ none_dirty (walked s.tables p) absent) in
    let less : length (without p s.lists.kept) + 1 ≡ length s.lists.kept = rw el at fewer in
    sound_moved 0 0 s (record s { tables = tables; buffer = buffer; lists = lists; pinned = pn; served = se }) p (set_in (walked s.tables p) f) None h (record {
      changes = c;
      buffer = b;
      stays = record { space = refl; used = refl; limit = rw el refl };
      frames = frames_are 0 s h;
      here = rw el base;
      other = λ q d. rw (el, came_other p q f s.lists.order new d, gone_other p q s.lists.kept d) (h.fine q);
      fresh = λ g e q o. one_held 0 s p g h (same ∙ sym (set_held (walked s.tables p) None f inside) ∙ e) q o;
      lengths = rw el (omega (arith, h.lengths, less, length-append s.lists.order (placed p f ∷ [])));
      once = rw el (once_more s.lists.order p f new h.once);
      pins = rw (el, en) (omega (arith, h.pins, length-append s.lists.order (placed p f ∷ [])));
    })

pub paging_taken : (s : Store) (p f se pn : ℕ) (tables : Tables) (buffer : Buffer) (lists : PageLists) → Changes s tables p (set_in (walked s.tables p) f) None → lists ≡ with_order (with_kept s.lists (without p s.lists.kept)) (appended s.lists.order p f) → pn ≡ s.pinned + 1 → frame_in s.lists.kept p ≡ Some f → se ≡ raised s.served → IsSound 0 s → paging (record s { tables = tables; buffer = buffer; lists = lists; pinned = pn; served = se }) ≡ taken_back p (paging s)
unfolding paging taken_back has_block
paging_taken s p f se pn tables buffer lists c el en there es h =
    let t : Store = record s { tables = tables; buffer = buffer; lists = lists; pinned = pn; served = se } in
    let left : kept s.tables p ≡ Some f = sym (h.fine p).kept ∙ there in
    let same : held_by (set_in (walked s.tables p) f) None ≡ held s p = set_held (walked s.tables p) None f ((h.fine p).inside (rw left refl)) ∙ sym (kept_held 0 s p f h there) in
    let frame : frames_of s.frames.items (held t) ≡ frames_of s.frames.items (held s) = frames_same s.frames.items s t p _ None c same in
    let lo : pages_of lists.order ≡ pages_of s.lists.order ++ p ∷ [] = ap (λ (l : PageLists). pages_of l.order) el ∙ pages_push s.lists.order p f in
    let ln : last_of pn (pages_of lists.order) ≡ last_of s.pinned (pages_of s.lists.order) ++ p ∷ [] =
    ap (λ (l : PageLists). last_of pn (pages_of l.order)) el ∙ ap (λ (k : ℕ). last_of k (pages_of (appended s.lists.order p f))) en ∙ last_pages s p f h.pins in
    let lk : pages_of lists.kept ≡ leave_out p (pages_of s.lists.kept) = ap (λ (l : PageLists). pages_of l.kept) el ∙ pages_without p s.lists.kept in
    let lm : pages_of lists.modified ≡ pages_of s.lists.modified = ap (λ (l : PageLists). pages_of l.modified) el in
    cc

-- a kept page gives up its frame

pub sound_forgotten : (s : Store) (p f : ℕ) (tables : Tables) (buffer : Buffer) (lists : PageLists) → Changes s tables p (cleared (walked s.tables p)) None → buffered buffer ≡ dropped (buffered s.buffer) p → lists ≡ with_kept s.lists (without p s.lists.kept) → length lists.kept + 1 ≡ length s.lists.kept → frame_in s.lists.kept p ≡ Some f → IsSound 0 s → IsSound 1 (record s { tables = tables; buffer = buffer; lists = lists })
sound_forgotten s p f tables buffer lists c b el fewer there h =
    let fine = h.fine p in
    let left : kept s.tables p ≡ Some f = sym fine.kept ∙ there in
    let absent = kept_absent (walked s.tables p) (kept s.tables p) f fine.apart left in
    let base = fits_out (walked s.tables p) None _ _ _ _ _ _ (fine.inside (rw left refl)) fine.area (λ g e. absurd (no_none g e)) (fine.order ∙ absent) (gone_here p s.lists.kept) (fine.modified ∙ none_dirty (walked s.tables p) absent) in
    let less : length (without p s.lists.kept) + 1 ≡ length s.lists.kept = rw el at fewer in
    sound_moved 0 1 s (record s { tables = tables; buffer = buffer; lists = lists }) p (cleared (walked s.tables p)) None h (record {
      changes = c;
      buffer = b;
      stays = record { space = refl; used = refl; limit = rw el refl };
      frames = frames_are 0 s h;
      here = rw el base;
      other = λ q d. rw (el, gone_other p q s.lists.kept d) (h.fine q);
      fresh = λ g e q o. absurd (no_none g (sym (cleared_held (walked s.tables p)) ∙ e));
      lengths = rw el (omega (arith, h.lengths, less));
      once = rw el h.once;
      pins = rw el h.pins;
    })

pub paging_forgotten : (s : Store) (p : ℕ) (tables : Tables) (buffer : Buffer) (lists : PageLists) → Changes s tables p (cleared (walked s.tables p)) None → lists ≡ with_kept s.lists (without p s.lists.kept) → paging (record s { tables = tables; buffer = buffer; lists = lists }) ≡ forgotten p (paging s)
unfolding paging forgotten has_block
paging_forgotten s p tables buffer lists c el =
    let t : Store = record s { tables = tables; buffer = buffer; lists = lists } in
    let frame : frames_of s.frames.items (held t) ≡ at p [] (frames_of s.frames.items (held s)) = frames_gone s.frames.items s t p _ None c (cleared_held (walked s.tables p)) in
    let lo : pages_of lists.order ≡ pages_of s.lists.order = ap (λ (l : PageLists). pages_of l.order) el in
    let lk : pages_of lists.kept ≡ leave_out p (pages_of s.lists.kept) = ap (λ (l : PageLists). pages_of l.kept) el ∙ pages_without p s.lists.kept in
    let lm : pages_of lists.modified ≡ pages_of s.lists.modified = ap (λ (l : PageLists). pages_of l.modified) el in
    cc

gone_free : (s t : Store) (p f : ℕ) (w : Walk) → Changes s t.tables p w None → held_by w None ≡ None → held s p ≡ Some f → IsSound 0 s → (q : ℕ) → held t q ≢ Some f
gone_free s t p f w c none there h q e =
    let is : held t q ≡ at p (held_by w None) (held s) q = ap (λ (g : ℕ → Option ℕ). g q) (held_changes s t p w None c) in
    elim (cases_eq q p) [
      | inl same ↦
          let k : held t q ≡ None = is ∙ ap (at p (held_by w None) (held s)) same ∙ at_same p (held_by w None) (held s) ∙ none in
          let bad : None ≡ Some f = sym k ∙ e in cc
      | inr o ↦ one_held 0 s p f h there q o (sym (at_other p q (held_by w None) (held s) o) ∙ sym is ∙ e)
    ]

pub free_forgotten : (s : Store) (p f : ℕ) (tables : Tables) (buffer : Buffer) (lists : PageLists) → Changes s tables p (cleared (walked s.tables p)) None → frame_in s.lists.kept p ≡ Some f → IsSound 0 s → IsFree f (record s { tables = tables; buffer = buffer; lists = lists })
free_forgotten s p f tables buffer lists c there h =
    let there' = kept_held 0 s p f h there in
    record { below = held_low 0 s p f h there'; other = gone_free s (record s { tables = tables; buffer = buffer; lists = lists }) p f _ c (cleared_held (walked s.tables p)) there' h }

-- a resident page gives up its frame

pub sound_given : (s : Store) (p f ev : ℕ) (tables : Tables) (buffer : Buffer) (lists : PageLists) → Changes s tables p (cleared (walked s.tables p)) None → buffered buffer ≡ dropped (buffered s.buffer) p → lists ≡ with_order s.lists (without p s.lists.order) → length lists.order + 1 ≡ length s.lists.order → frame_in s.lists.order p ≡ Some f → is_listed p (paging s).modified ≡ false → is_listed p (paging s).pinned ≡ false → IsSound 0 s → IsSound 1 (record s { tables = tables; buffer = buffer; lists = lists; evicted = ev })
unfolding paging
sound_given s p f ev tables buffer lists c b el fewer there clean unpinned h =
    let fine = h.fine p in
    let r = is_there (walked s.tables p) f (sym fine.order ∙ there) in
    let d : dirty_frame (walked s.tables p) ≡ None = no_some _ (sym (listed_is p s.lists.modified ∙ ap is_some fine.modified) ∙ clean) in
    let base = fits_out (walked s.tables p) None _ _ _ _ _ _ (there_inside (walked s.tables p) r) fine.area (λ g e. absurd (no_none g e)) (gone_here p s.lists.order) (fine.kept ∙ fine.apart r) (fine.modified ∙ d) in
    let less : length (without p s.lists.order) + 1 ≡ length s.lists.order = rw el at fewer in
    sound_moved 0 1 s (record s { tables = tables; buffer = buffer; lists = lists; evicted = ev }) p (cleared (walked s.tables p)) None h (record {
      changes = c;
      buffer = b;
      stays = record { space = refl; used = refl; limit = rw el refl };
      frames = frames_are 0 s h;
      here = rw el base;
      other = λ q d. rw (el, gone_other p q s.lists.order d) (h.fine q);
      fresh = λ g e q o. absurd (no_none g (sym (cleared_held (walked s.tables p)) ∙ e));
      lengths = rw el (omega (arith, h.lengths, less));
      once = rw el (once_left p s.lists.order h.once);
      pins = rw el (few_out s p h.pins unpinned);
    })

pub paging_given : (s : Store) (p ev : ℕ) (tables : Tables) (buffer : Buffer) (lists : PageLists) → Changes s tables p (cleared (walked s.tables p)) None → lists ≡ with_order s.lists (without p s.lists.order) → is_listed p (paging s).pinned ≡ false → ev ≡ raised s.evicted → IsSound 0 s → paging (record s { tables = tables; buffer = buffer; lists = lists; evicted = ev }) ≡ removed p (paging s)
unfolding paging removed has_block
paging_given s p ev tables buffer lists c el unpinned ee h =
    let t : Store = record s { tables = tables; buffer = buffer; lists = lists; evicted = ev } in
    let frame : frames_of s.frames.items (held t) ≡ at p [] (frames_of s.frames.items (held s)) = frames_gone s.frames.items s t p _ None c (cleared_held (walked s.tables p)) in
    let lo : pages_of lists.order ≡ leave_out p (pages_of s.lists.order) = ap (λ (l : PageLists). pages_of l.order) el ∙ pages_without p s.lists.order in
    let ln : last_of s.pinned (pages_of lists.order) ≡ last_of s.pinned (pages_of s.lists.order) = ap (λ (l : PageLists). last_of s.pinned (pages_of l.order)) el ∙ last_same s p h.pins unpinned in
    let lk : pages_of lists.kept ≡ pages_of s.lists.kept = ap (λ (l : PageLists). pages_of l.kept) el in
    let lm : pages_of lists.modified ≡ pages_of s.lists.modified = ap (λ (l : PageLists). pages_of l.modified) el in
    cc

pub free_given : (s : Store) (p f ev : ℕ) (tables : Tables) (buffer : Buffer) (lists : PageLists) → Changes s tables p (cleared (walked s.tables p)) None → frame_in s.lists.order p ≡ Some f → IsSound 0 s → IsFree f (record s { tables = tables; buffer = buffer; lists = lists; evicted = ev })
free_given s p f ev tables buffer lists c there h =
    let there' = order_held 0 s p f h there in
    record { below = held_low 0 s p f h there'; other = gone_free s (record s { tables = tables; buffer = buffer; lists = lists; evicted = ev }) p f _ c (cleared_held (walked s.tables p)) there' h }

-- a frame that no page has had

pub sound_grown : (s : Store) → IsSound 0 s → s.used < length s.frames.items → IsSound 1 (record s { used = s.used + 1 })
unfolding held
sound_grown s h room = record {
  one = h.one;
  fine = λ q. fits_more (walked s.tables q) (kept s.tables q) _ _ _ _ _ s.used (h.fine q);
  agrees = h.agrees;
  lengths = omega (arith, h.lengths);
  used = omega arith;
  few = h.few;
  whole = h.whole;
  small = h.small;
  limit = h.limit;
  once = h.once;
  space = h.space;
  pins = h.pins;
}

grown_held : (s : Store) (q f : ℕ) → held (record s { used = s.used + 1 }) q ≡ Some f → held s q ≡ Some f
unfolding held
grown_held s q f e = e

pub free_grown : (s : Store) → IsSound 0 s → IsFree s.used (record s { used = s.used + 1 })
free_grown s h = record {
  below = omega arith;
  other = λ q e. let low = held_low 0 s q s.used h (grown_held s q s.used e) in absurd (omega arith);
}

pub paging_grown : (s : Store) (u : ℕ) → paging (record s { used = u }) ≡ paging s
unfolding paging has_block held
paging_grown s u = refl

-- an absent page comes into a frame

pub whole_set : (frames : List (List ℕ)) (g : ℕ) (bytes : List ℕ) → length bytes ≡ 512 → ((f : ℕ) → f < length frames → length (slice_index_or frames f []) ≡ 512) → (f : ℕ) → f < length (slice_set frames g bytes) → length (slice_index_or (slice_set frames g bytes) f []) ≡ 512
whole_set frames g bytes size w f low =
    let low' : f < length frames = rw (length-set frames g bytes) at low in
    elim (cases_eq f g) [
      | inl e ↦ rw (e, get_or-set_same frames g bytes [] (subst (λ (z : ℕ). z < length frames) e low')) size
      | inr o ↦ rw (get_or-set_other frames g f bytes [] o) (w f low')
    ]

pub small_set : (frames : List (List ℕ)) (g : ℕ) (bytes : List ℕ) → g < length frames → ((k : ℕ) → slice_index bytes k < 256) → ((f k : ℕ) → slice_index (slice_index_or frames f []) k < 256) → (f k : ℕ) → slice_index (slice_index_or (slice_set frames g bytes) f []) k < 256
small_set frames g bytes low b w f k =
    elim (cases_eq f g) [
      | inl e ↦ rw (e, get_or-set_same frames g bytes [] low) (b k)
      | inr o ↦ rw (get_or-set_other frames g f bytes [] o) (w f k)
    ]

pub sound_brought : (s : Store) (p f se pn : ℕ) (bytes : List ℕ) (tables : Tables) (buffer : Buffer) (frames : Vec (List ℕ) Global) (lists : PageLists) → Changes s tables p (set_in (walked s.tables p) f) None → buffered buffer ≡ dropped (buffered s.buffer) p → frames.items ≡ slice_set s.frames.items f bytes → lists ≡ with_order s.lists (appended s.lists.order p f) → pn ≡ s.pinned + 1 → is_some (prot_of s.space p) ≡ true → is_listed p (paging s).order ≡ false → is_listed p (paging s).kept ≡ false → IsFree f s → length bytes ≡ 512 → ((k : ℕ) → slice_index bytes k < 256) → IsSound 1 s → IsSound 0 (record s { tables = tables; buffer = buffer; frames = frames; lists = lists; pinned = pn; served = se })
sound_brought s p f se pn bytes tables buffer frames lists c b ef el en within absent unkept free size few h =
    let fine = h.fine p in
    let r : is_resident (walked s.tables p) ≡ false = sym (resident_is 1 s p h) ∙ absent in
    let left : kept s.tables p ≡ None = no_some _ (sym (kept_is 1 s p h) ∙ unkept) in
    let new : frame_in s.lists.order p ≡ None = fine.order ∙ none_frame (walked s.tables p) r in
    let low : f < length s.frames.items = omega (arith, free.below, h.used) in
    let lens : length frames.items ≡ length s.frames.items = ap length ef ∙ length-set s.frames.items f bytes in
    let inside = area_inside (walked s.tables p) _ fine.area within in
    let base = fits_in (walked s.tables p) _ _ _ _ _ f _ inside fine.area free.below (came_here p f s.lists.order new) (fine.kept ∙ left) (fine.modified ∙ none_dirty (walked s.tables p) (none_frame (walked s.tables p) r)) in
    sound_moved 1 0 s (record s { tables = tables; buffer = buffer; frames = frames; lists = lists; pinned = pn; served = se }) p (set_in (walked s.tables p) f) None h (record {
      changes = c;
      buffer = b;
      stays = record { space = refl; used = refl; limit = rw el refl };
      frames = record { many = lens; whole = rw ef (whole_set s.frames.items f bytes size h.whole); small = rw ef (small_set s.frames.items f bytes low few h.small) };
      here = rw el base;
      other = λ q d. rw (el, came_other p q f s.lists.order new d) (h.fine q);
      fresh = λ g e q o. came_free s p f g (sym (set_held (walked s.tables p) None f inside) ∙ e) free q;
      lengths = rw el (omega (arith, h.lengths, length-append s.lists.order (placed p f ∷ [])));
      once = rw el (once_more s.lists.order p f new h.once);
      pins = rw (el, en) (omega (arith, h.pins, length-append s.lists.order (placed p f ∷ [])));
    })

pub paging_brought : (s : Store) (p f se pn : ℕ) (bytes : List ℕ) (tables : Tables) (buffer : Buffer) (frames : Vec (List ℕ) Global) (lists : PageLists) → Changes s tables p (set_in (walked s.tables p) f) None → frames.items ≡ slice_set s.frames.items f bytes → lists ≡ with_order s.lists (appended s.lists.order p f) → pn ≡ s.pinned + 1 → is_some (prot_of s.space p) ≡ true → IsFree f s → se ≡ raised s.served → IsSound 1 s → paging (record s { tables = tables; buffer = buffer; frames = frames; lists = lists; pinned = pn; served = se }) ≡ brought p bytes (paging s)
unfolding paging brought has_block
paging_brought s p f se pn bytes tables buffer frames lists c ef el en within free es h =
    let t : Store = record s { tables = tables; buffer = buffer; frames = frames; lists = lists; pinned = pn; served = se } in
    let low : f < length s.frames.items = omega (arith, free.below, h.used) in
    let lens : length frames.items ≡ length s.frames.items = ap length ef ∙ length-set s.frames.items f bytes in
    let inside : is_inside (walked s.tables p) ≡ true = area_inside (walked s.tables p) _ (h.fine p).area within in
    let set : held_by (set_in (walked s.tables p) f) None ≡ Some f = set_held (walked s.tables p) None f inside in
    let moved : held t ≡ at p (Some f) (held s) = held_changes s t p _ None c ∙ ap (λ (z : Option ℕ). at p z (held s)) set in
    let frame : frames_of frames.items (held t) ≡ at p bytes (frames_of s.frames.items (held s)) =
    ap (λ (z : List (List ℕ)). frames_of z (held t)) ef ∙ ap (frames_of (slice_set s.frames.items f bytes)) moved ∙ frames_came s.frames.items (held s) f p bytes low free.other in
    let lo : pages_of lists.order ≡ pages_of s.lists.order ++ p ∷ [] = ap (λ (l : PageLists). pages_of l.order) el ∙ pages_push s.lists.order p f in
    let ln : last_of pn (pages_of lists.order) ≡ last_of s.pinned (pages_of s.lists.order) ++ p ∷ [] =
    ap (λ (l : PageLists). last_of pn (pages_of l.order)) el ∙ ap (λ (k : ℕ). last_of k (pages_of (appended s.lists.order p f))) en ∙ last_pages s p f h.pins in
    let lk : pages_of lists.kept ≡ pages_of s.lists.kept = ap (λ (l : PageLists). pages_of l.kept) el in
    let lm : pages_of lists.modified ≡ pages_of s.lists.modified = ap (λ (l : PageLists). pages_of l.modified) el in
    cc

-- no page is pinned

pub sound_settled : (s : Store) → IsSound 0 s → IsSound 0 (record s { pinned = 0 })
unfolding held
sound_settled s h = record {
  one = h.one;
  fine = h.fine;
  agrees = h.agrees;
  lengths = h.lengths;
  used = h.used;
  few = h.few;
  whole = h.whole;
  small = h.small;
  limit = h.limit;
  once = h.once;
  space = h.space;
  pins = omega arith;
}

pub paging_settled : (s : Store) → paging (record s { pinned = 0 }) ≡ settled (paging s)
unfolding paging settled has_block held
paging_settled s = let none = last_none (pages_of s.lists.order) in cc
