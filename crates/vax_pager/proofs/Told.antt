-- What the parts of a pager say of a page, and what the steps require of them.
use Rattle.std.proofs.Common.{ℕ, ◌≡◌, ◌+◌, ◌<◌, ◌≤◌, ◌^◌, Bool, true, false, List, [], ◌∷◌, ◌++◌, ◌-◌, drop, length, refl, ap, sym, ◌∙◌, subst, arith, inl, inr, Option, Some, None, slice_index_or}
use Rattle.std.specs.Prelude.{is_some, nat_lt, slice_get, IfSome}
use Rattle.std.specs.Option.{option_map}
use Rattle.std.proofs.lemmas.Bool.{cases_eq, eq-eqb, ne_eqb, false≢true, false_from_ne_true}
use Rattle.vax_space.specs.declared.Area.{Area}
use Rattle.vax_space.specs.Areas.{area_of, block_of, prot_of}
use Rattle.vax_table.specs.declared.Walk.{Walk}
use Rattle.vax_table.specs.declared.Walk.TheVariants.{Resident, Absent, Outside}
use Rattle.vax_table.specs.Mapping.{frame_of, is_inside, is_resident, prot_said}
use Rattle.vax_table.specs.Tables.{walked, kept}
use Rattle.vax_lists.specs.declared.lists.Placed.{Placed}
use Rattle.vax_lists.specs.Lines.{EachOnce, frame_in, pages_of}
use Rattle.vax_space.specs.Faults.{IsSpace}
use Rattle.vax_pager.specs.declared.pager.Pager.{Pager}
use Rattle.vax_pager.specs.declared.store.Store.{Store}
use Rattle.vax_pager.specs.Meaning.{pages}
use Rattle.vax_pager.specs.Listing.{AreOnce, is_listed, first, first_outside, page_in}
use Rattle.vax_pager.specs.Marks.{has_mark}
use Rattle.vax_pager.specs.Calls.{IsPaging}
use Rattle.vax_pager.specs.Frames.{dirty_frame, held_by}
use Rattle.vax_pager.specs.Store.{held, flag_of, has_block, last_of, paging, IsSound, IsFree}
use Rattle.vax_pager.proofs.Listing.{pages-length, pages_drop, listed_is, first_page, first_frame, test_once}
use Rattle.vax_pager.proofs.Last.{last-length}
use Rattle.vax_pager.proofs.Moves.{held_room, kept_held, modified_held, resident_is, frame_means, modified_is, kept_is}
use Rattle.vax_pager.proofs.Steps.{dirty_inside, none_frame, kept_absent, area_inside, front_of, parts}

-- what the steps require of their parts

pub held_small : (n : ℕ) (s : Store) (p f : ℕ) → IsSound n s → held s p ≡ Some f → f < 32768
held_small n s p f h e = omega (arith, held_room n s p f h e, h.few)

pub held_limit : (n : ℕ) (s : Store) (p f limit : ℕ) → IsSound n s → held s p ≡ Some f → limit ≡ length s.frames.items → f < limit
held_limit n s p f limit h e is = omega (arith, held_room n s p f h e, is)

pub free_small : (n : ℕ) (s : Store) (f : ℕ) → IsSound n s → IsFree f s → f < 32768
free_small n s f h free = omega (arith, free.below, h.used, h.few)

pub free_limit : (n : ℕ) (s : Store) (f limit : ℕ) → IsSound n s → IsFree f s → limit ≡ length s.frames.items → f < limit
free_limit n s f limit h free is = omega (arith, free.below, h.used, is)

resident_in : (walk : Walk) → is_resident walk ≡ true → is_inside walk ≡ true
resident_in (Resident f pr md) r = refl
resident_in (Absent pr) r = absurd (false≢true r)
resident_in (Outside past) r = absurd (false≢true r)

pub resident_inside : (n : ℕ) (s : Store) (p : ℕ) → IsSound n s → is_listed p (paging s).order ≡ true → is_inside (walked s.tables p) ≡ true
resident_inside n s p h r = resident_in (walked s.tables p) (sym (resident_is n s p h) ∙ r)

pub modified_inside : (n : ℕ) (s : Store) (p f : ℕ) → IsSound n s → frame_in s.lists.modified p ≡ Some f → is_inside (walked s.tables p) ≡ true
modified_inside n s p f h e = dirty_inside (walked s.tables p) f (sym (h.fine p).modified ∙ e)

pub kept_inside : (n : ℕ) (s : Store) (p f : ℕ) → IsSound n s → frame_in s.lists.kept p ≡ Some f → is_inside (walked s.tables p) ≡ true
kept_inside n s p f h e = (h.fine p).inside (rw (sym (h.fine p).kept ∙ e) refl)

pub area_inside_of : (n : ℕ) (s : Store) (p : ℕ) → IsSound n s → is_some (prot_of s.space p) ≡ true → is_inside (walked s.tables p) ≡ true
area_inside_of n s p h e = area_inside (walked s.tables p) _ (h.fine p).area e

pub kept_away : (n : ℕ) (s : Store) (p f : ℕ) → IsSound n s → frame_in s.lists.kept p ≡ Some f → frame_in s.lists.order p ≡ None
kept_away n s p f h e = (h.fine p).order ∙ kept_absent (walked s.tables p) (kept s.tables p) f (h.fine p).apart (sym (h.fine p).kept ∙ e)

pub unkept : (n : ℕ) (s : Store) (p : ℕ) → IsSound n s → is_listed p (paging s).order ≡ true → frame_in s.lists.kept p ≡ None
unkept n s p h r = (h.fine p).kept ∙ (h.fine p).apart (sym (resident_is n s p h) ∙ r)

pub absent_order : (n : ℕ) (s : Store) (p : ℕ) → IsSound n s → is_listed p (paging s).order ≡ false → frame_in s.lists.order p ≡ None
absent_order n s p h r = (h.fine p).order ∙ none_frame (walked s.tables p) (sym (resident_is n s p h) ∙ r)

order-length : (s : Store) → length (paging s).order ≡ length s.lists.order
unfolding paging
order-length s = pages-length s.lists.order

kept-length : (s : Store) → length (paging s).kept ≡ length s.lists.kept
unfolding paging
kept-length s = pages-length s.lists.kept

frames_are : (s : Store) → (paging s).frames ≡ length s.frames.items
unfolding paging
frames_are s = refl

pub room_is : (s : Store) → IsSound 0 s → length (paging s).order + length (paging s).kept < (paging s).frames → s.used < length s.frames.items
room_is s h room = omega (arith, room, order-length s, kept-length s, frames_are s, h.lengths)

pub empty_is : (s : Store) (n : ℕ) → n ≡ length s.frames.items → IsSound 0 s → nat_lt s.used n ≡ nat_lt (length (paging s).order + length (paging s).kept) (paging s).frames
empty_is s n e h =
    let used : s.used ≡ length (paging s).order + length (paging s).kept = omega (arith, order-length s, kept-length s, h.lengths) in
    ap (λ (k : ℕ). nat_lt k n) used ∙ ap (nat_lt (length (paging s).order + length (paging s).kept)) (e ∙ sym (frames_are s))

pub oldest_page : (s : Store) (o : Option Placed) → o ≡ slice_get s.lists.kept 0 → page_in o ≡ first (paging s).kept
unfolding paging
oldest_page s o e = sym (first_page s.lists.kept o e)

pub oldest_there : (s : Store) (o : Option Placed) → o ≡ slice_get s.lists.kept 0 → IfSome o (λ placed. frame_in s.lists.kept placed.page ≡ Some placed.frame)
oldest_there s None e = tt
oldest_there s (Some x) e = first_frame s.lists.kept x e

-- what the tables say of a page

pub told_resident : (s : Store) (p : ℕ) (w : Walk) → w ≡ walked s.tables p → IsSound 0 s → is_resident w ≡ is_listed p (paging s).order
told_resident s p w e h = ap is_resident e ∙ sym (resident_is 0 s p h)

pub told_order : (s : Store) (p f pr : ℕ) (md : Bool) → Resident f pr md ≡ walked s.tables p → IsSound 0 s → frame_in s.lists.order p ≡ Some f
told_order s p f pr md e h = (h.fine p).order ∙ ap frame_of (sym e)

pub modified_told : (s : Store) (p : ℕ) (o : Option ℕ) → o ≡ dirty_frame (walked s.tables p) → IsSound 0 s → is_some o ≡ is_listed p (paging s).modified
modified_told s p o e h = ap is_some e ∙ sym (modified_is 0 s p h)

modified_list : (s : Store) (p f : ℕ) → Some f ≡ dirty_frame (walked s.tables p) → IsSound 0 s → frame_in s.lists.modified p ≡ Some f
modified_list s p f e h = (h.fine p).modified ∙ sym e

pub modified_frame_there : (s : Store) (p : ℕ) (o : Option ℕ) → o ≡ dirty_frame (walked s.tables p) → IsSound 0 s → IfSome o (λ f. frame_in s.lists.modified p ≡ Some f)
modified_frame_there s p None e h = tt
modified_frame_there s p (Some f) e h = modified_list s p f e h

pub modified_frame_held : (s : Store) (p : ℕ) (o : Option ℕ) → o ≡ dirty_frame (walked s.tables p) → IsSound 0 s → IfSome o (λ f. held s p ≡ Some f)
modified_frame_held s p None e h = tt
modified_frame_held s p (Some f) e h = modified_held 0 s p f h (modified_list s p f e h)

pub modified_frame_room : (s : Store) (p : ℕ) (o : Option ℕ) → o ≡ dirty_frame (walked s.tables p) → IsSound 0 s → IfSome o (λ f. f < length s.frames.items)
modified_frame_room s p None e h = tt
modified_frame_room s p (Some f) e h = held_room 0 s p f h (modified_held 0 s p f h (modified_list s p f e h))

pub modified_frame_bytes : (s : Store) (p : ℕ) (o : Option ℕ) → o ≡ dirty_frame (walked s.tables p) → IsSound 0 s → IfSome o (λ f. slice_index_or s.frames.items f [] ≡ (paging s).frame p)
modified_frame_bytes s p None e h = tt
modified_frame_bytes s p (Some f) e h = frame_means s p f (modified_held 0 s p f h (modified_list s p f e h))

dirty_resident : (w : Walk) → is_some (dirty_frame w) ≡ true → is_resident w ≡ true
dirty_resident (Resident g pr md) d = refl
dirty_resident (Absent pr) d = d
dirty_resident (Outside past) d = d

pub modified_frame_resident : (s : Store) (p : ℕ) (o : Option ℕ) → o ≡ dirty_frame (walked s.tables p) → IsSound 0 s → is_some o ≡ true → is_listed p (paging s).order ≡ true
modified_frame_resident s p o e h d = resident_is 0 s p h ∙ dirty_resident (walked s.tables p) (sym (ap is_some e) ∙ d)

pub modified_frame_writable : (s : Store) (p : ℕ) (o : Option ℕ) → o ≡ dirty_frame (walked s.tables p) → IsSound 0 s → is_some o ≡ true → is_some (block_of s.space p) ≡ true
modified_frame_writable s p o e h d = (h.fine p).writable (sym (ap is_some e) ∙ d)

pub kept_told : (s : Store) (p : ℕ) (o : Option ℕ) → o ≡ kept s.tables p → IsSound 0 s → is_some o ≡ is_listed p (paging s).kept
kept_told s p o e h = ap is_some e ∙ sym (kept_is 0 s p h)

kept_list : (s : Store) (p f : ℕ) → Some f ≡ kept s.tables p → IsSound 0 s → frame_in s.lists.kept p ≡ Some f
kept_list s p f e h = (h.fine p).kept ∙ sym e

pub kept_frame_held : (s : Store) (p : ℕ) (o : Option ℕ) → o ≡ kept s.tables p → IsSound 0 s → IfSome o (λ f. held s p ≡ Some f)
kept_frame_held s p None e h = tt
kept_frame_held s p (Some f) e h = kept_held 0 s p f h (kept_list s p f e h)

pub kept_frame_room : (s : Store) (p : ℕ) (o : Option ℕ) → o ≡ kept s.tables p → IsSound 0 s → IfSome o (λ f. f < length s.frames.items)
kept_frame_room s p None e h = tt
kept_frame_room s p (Some f) e h = held_room 0 s p f h (kept_held 0 s p f h (kept_list s p f e h))

pub kept_frame_bytes : (s : Store) (p : ℕ) (o : Option ℕ) → o ≡ kept s.tables p → IsSound 0 s → IfSome o (λ f. slice_index_or s.frames.items f [] ≡ (paging s).frame p)
kept_frame_bytes s p None e h = tt
kept_frame_bytes s p (Some f) e h = frame_means s p f (kept_held 0 s p f h (kept_list s p f e h))

-- the page that gives its frame

listed_end : (p : ℕ) (front end : List ℕ) → is_listed p (front ++ end) ≡ false → is_listed p end ≡ false
unfolding is_listed
listed_end p [] end h = h
listed_end p (x ∷ front) end h = elim (cases_eq x p) [
  | inl e ↦ let bad : true ≡ false = rw (eq-eqb x p e) at h in cc
  | inr o ↦ listed_end p front end (rw (ne_eqb x p o) at h)
]

pub record IsVictim (x : ℕ) (pins order : List ℕ) : Type 0 where
  pub value : first_outside pins order ≡ Some x
  pub resident : is_listed x order ≡ true
  pub unpinned : is_listed x pins ≡ false

victim_of_parts : (x : ℕ) (rest front pins : List ℕ) → is_listed x rest ≡ false → x ∷ rest ≡ front ++ pins → length pins < length (x ∷ rest) → IsVictim x pins (x ∷ rest)
unfolding first_outside is_listed
victim_of_parts x rest [] pins once e low = let size : length (x ∷ rest) ≡ length pins = ap (length {A = ℕ}) e in absurd (omega arith)
victim_of_parts x rest (y ∷ front) pins once e low =
    let tail : rest ≡ front ++ pins = cc in
    let out : is_listed x pins ≡ false = listed_end x front pins (ap (is_listed x) (sym tail) ∙ once) in
    record { value = rw out refl; resident = rw (eq-eqb x x refl) refl; unpinned = out }

victim_items : (xs : List Placed) (x : Placed) (front pins : List ℕ) → Some x ≡ slice_get xs 0 → EachOnce xs → pages_of xs ≡ front ++ pins → length pins < length (pages_of xs) → IsVictim x.page pins (pages_of xs)
unfolding pages_of EachOnce
victim_items [] x front pins e once parts low = cc
victim_items (y ∷ ys) x front pins e once parts low =
    let same : x ≡ y = cc in
    let out : is_listed y.page (pages_of ys) ≡ false = listed_is y.page ys ∙ ap is_some once.0 in
    rw same (victim_of_parts y.page (pages_of ys) front pins out parts low)

pub victim_is : (s : Store) (x : Placed) → Some x ≡ slice_get s.lists.order 0 → EachOnce s.lists.order → IsSound 0 s → length (paging s).pinned < length (paging s).order → IsVictim x.page (paging s).pinned (paging s).order
unfolding paging
victim_is s x e once h low = victim_items s.lists.order x (front_of s) (last_of s.pinned (pages_of s.lists.order)) e once (parts s) low

no_first : (xs : List Placed) → None ≡ slice_get xs 0 → length (pages_of xs) ≡ 0
unfolding pages_of
no_first [] e = refl
no_first (x ∷ xs) e = cc

pub some_first : (s : Store) → None ≡ slice_get s.lists.order 0 → length (paging s).pinned < length (paging s).order → ⊥
unfolding paging
some_first s e low = let none = no_first s.lists.order e in absurd (omega arith)

areas_are : (s : Store) → (paging s).areas ≡ s.space
unfolding paging
areas_are s = refl

not_dirty : (walk : Walk) → is_resident walk ≡ false → is_some (dirty_frame walk) ≡ false
not_dirty (Resident g pr md) r = absurd (false≢true (sym r))
not_dirty (Absent pr) r = refl
not_dirty (Outside past) r = refl

some_frame_of : (walk : Walk) → is_some (frame_of walk) ≡ is_resident walk
some_frame_of (Resident f pr m) = refl
some_frame_of (Absent prot) = refl
some_frame_of (Outside past) = refl

some_map : (o : Option Area) → is_some (option_map (λ area. area.prot) o) ≡ is_some o
some_map None = refl
some_map (Some area) = refl

pub absent_clean : (s : Store) (p : ℕ) → IsSound 0 s → is_listed p (paging s).order ≡ false → is_listed p (paging s).modified ≡ false
absent_clean s p h a = modified_is 0 s p h ∙ not_dirty (walked s.tables p) (sym (resident_is 0 s p h) ∙ a)

pub writable_is : (s : Store) (p : ℕ) → IsSound 0 s → is_listed p (paging s).modified ≡ true → is_some (block_of (paging s).areas p) ≡ true
unfolding paging
writable_is s p h m = (h.fine p).writable (sym (listed_is p s.lists.modified ∙ ap is_some (h.fine p).modified) ∙ m)

area_some : (areas : List Area) (p : ℕ) → is_some (prot_of areas p) ≡ is_some (area_of areas p)
unfolding prot_of
area_some areas p = some_map (area_of areas p)

inside_area : (walk : Walk) (prot : Option ℕ) → prot_said walk ≡ prot → is_inside walk ≡ true → is_some prot ≡ true
inside_area (Resident g pr md) prot e i = sym (ap is_some e)
inside_area (Absent pr) prot e i = sym (ap is_some e)
inside_area (Outside past) prot e i = absurd (false≢true i)

pub resident_within : (s : Store) (p : ℕ) → IsSound 0 s → is_listed p (paging s).order ≡ true → is_some (area_of (paging s).areas p) ≡ true
resident_within s p h r =
    ap (λ (z : List Area). is_some (area_of z p)) (areas_are s) ∙ sym (area_some s.space p) ∙ inside_area (walked s.tables p) _ (h.fine p).area (resident_inside 0 s p h r)

pub within_prot : (s : Store) (p : ℕ) → is_some (area_of (paging s).areas p) ≡ true → is_some (prot_of s.space p) ≡ true
within_prot s p w = area_some s.space p ∙ ap (λ (z : List Area). is_some (area_of z p)) (sym (areas_are s)) ∙ w

pub kept_gone : (s : Store) (p f : ℕ) → IsSound 0 s → frame_in s.lists.kept p ≡ Some f → is_listed p (paging s).order ≡ false
kept_gone s p f h e = resident_is 0 s p h ∙ sym (some_frame_of (walked s.tables p)) ∙ ap is_some (kept_absent (walked s.tables p) (kept s.tables p) f (h.fine p).apart (sym (h.fine p).kept ∙ e))

pub resident_unkept : (s : Store) (p : ℕ) → IsSound 0 s → is_listed p (paging s).order ≡ true → is_listed p (paging s).kept ≡ false
resident_unkept s p h r = kept_is 0 s p h ∙ ap is_some ((h.fine p).apart (sym (resident_is 0 s p h) ∙ r))

pub block_is : (s : Store) (p n : ℕ) → block_of s.space p ≡ Some n → block_of (paging s).areas p ≡ Some n
unfolding paging
block_is s p n e = e

pub written_is : (s : Store) (p : ℕ) (o : Option ℕ) → o ≡ block_of s.space p → flag_of (has_mark s.blocked) o ≡ (paging s).blocked p
unfolding paging has_block
written_is s p o e = ap (flag_of (has_mark s.blocked)) e

listed_before : (p : ℕ) (front end : List ℕ) → is_listed p end ≡ true → is_listed p (front ++ end) ≡ true
unfolding is_listed
listed_before p [] end h = h
listed_before p (x ∷ front) end h = elim (cases_eq x p) [
  | inl e ↦ rw (eq-eqb x p e) refl
  | inr o ↦ rw (ne_eqb x p o) (listed_before p front end h)
]

pinned_resident : (s : Store) (p : ℕ) → IsSound 0 s → is_listed p (paging s).pinned ≡ true → is_listed p (paging s).order ≡ true
unfolding paging
pinned_resident s p h n = ap (is_listed p) (parts s) ∙ listed_before p (front_of s) (last_of s.pinned (pages_of s.lists.order)) n

-- an absent page isn't pinned
pub absent_unpinned : (s : Store) (p : ℕ) → IsSound 0 s → is_listed p (paging s).order ≡ false → is_listed p (paging s).pinned ≡ false
absent_unpinned s p h away = false_from_ne_true (is_listed p (paging s).pinned) (λ yes. false≢true (sym away ∙ pinned_resident s p h yes))

dirty_there : (s : Store) (p : ℕ) → IsSound 0 s → is_listed p (paging s).modified ≡ true → is_listed p (paging s).order ≡ true
dirty_there s p h m = resident_is 0 s p h ∙ dirty_resident (walked s.tables p) (sym (modified_is 0 s p h) ∙ m)

once_pages : (xs : List Placed) → EachOnce xs → AreOnce (pages_of xs)
unfolding EachOnce AreOnce pages_of
once_pages [] once = tt
once_pages (x ∷ xs) once = (listed_is x.page xs ∙ ap is_some once.0, once_pages xs once.1)

order_once : (s : Store) → EachOnce s.lists.order → AreOnce (paging s).order
unfolding paging
order_once s once = once_pages s.lists.order once

once_end : (front end : List ℕ) → AreOnce (front ++ end) → AreOnce end
unfolding AreOnce
once_end [] end h = h
once_end (x ∷ front) end h = once_end front end h.1

pinned_once : (s : Store) → EachOnce s.lists.order → IsSound 0 s → AreOnce (paging s).pinned
unfolding paging
pinned_once s once h = once_end (front_of s) (last_of s.pinned (pages_of s.lists.order)) (subst AreOnce (parts s) (once_pages s.lists.order once))

held_resident : (walk : Walk) (left : Option ℕ) → is_resident walk ≡ true → is_some (held_by walk left) ≡ true
held_resident (Resident f pr md) left r = refl
held_resident (Absent pr) left r = absurd (false≢true r)
held_resident (Outside past) left r = absurd (false≢true r)

some_whole : (o : Option ℕ) (s : Store) (p : ℕ) → held s p ≡ o → is_some o ≡ true → IsSound 0 s → length ((paging s).frame p) ≡ 512
some_whole (Some f) s p e there h = ap (length {A = ℕ}) (sym (frame_means s p f e)) ∙ h.whole f (held_room 0 s p f h e)
some_whole None s p e there h = absurd (false≢true there)

resident_whole : (s : Store) (p : ℕ) → IsSound 0 s → is_listed p (paging s).order ≡ true → length ((paging s).frame p) ≡ 512
resident_whole s p h r = some_whole (held s p) s p refl (unfold held in held_resident (walked s.tables p) (kept s.tables p) (sym (resident_is 0 s p h) ∙ r)) h

pub is_paging : (s : Store) → IsSound 0 s → IsPaging (paging s)
is_paging s h = record {
  once = order_once s (test_once _ h.once);
  pinned_once = pinned_once s (test_once _ h.once) h;
  apart = λ p. resident_unkept s p h;
  pinned = λ p. pinned_resident s p h;
  dirty = λ p. dirty_there s p h;
  writable = λ p. writable_is s p h;
  inside = λ p. resident_within s p h;
  held = omega (arith, order-length s, kept-length s, frames_are s, h.lengths, h.used);
  whole = λ p. resident_whole s p h;
}

-- what is so of every pager
pub pager_is : (p : Pager) → IsPaging (pages p)
pager_is p = is_paging p.store p.sound

pub space_is : (p : Pager) → IsSpace (pages p).areas
unfolding paging
space_is p = p.sound.space

pub frames_few : (s : Store) → IsSound 0 s → length s.frames.items < 2 ^ 32
frames_few s h = omega (arith, h.few)

pub pinned_are : (s : Store) → IsSound 0 s → s.pinned ≡ length (paging s).pinned
unfolding paging
pinned_are s h = sym (last-length s.pinned (pages_of s.lists.order) (omega (arith, h.pins, pages-length s.lists.order)))

pub was_pinned : (s : Store) (p : ℕ) (b : Bool) → b ≡ is_some (frame_in (drop (length s.lists.order - s.pinned) s.lists.order) p) → b ≡ is_listed p (paging s).pinned
unfolding paging
was_pinned s p b e =
    e ∙ sym (listed_is p (drop (length s.lists.order - s.pinned) s.lists.order))
    ∙ ap (is_listed p) (pages_drop (length s.lists.order - s.pinned) s.lists.order ∙ ap (λ (n : ℕ). drop (n - s.pinned) (pages_of s.lists.order)) (sym (pages-length s.lists.order)))

-- a pinned page is one of those that are counted
none_last : (p : ℕ) (xs : List ℕ) → is_listed p xs ≡ true → 1 ≤ length xs
unfolding is_listed
none_last p [] h = absurd (false≢true h)
none_last p (x ∷ xs) h = omega arith

pub some_pinned : (s : Store) (p : ℕ) → IsSound 0 s → is_listed p (paging s).pinned ≡ true → 1 ≤ s.pinned
some_pinned s p h listed = omega (arith, pinned_are s h, none_last p (paging s).pinned listed)

pub more_pinned : (n : ℕ) (s : Store) → IsSound n s → s.pinned + 1 < 2 ^ 32
more_pinned n s h = omega (arith, h.pins, h.lengths, h.used, h.few)

pub kept_are : (s : Store) → length s.lists.kept ≡ length (paging s).kept
kept_are s = sym (kept-length s)

next_in : (xs : List Placed) → option_map (λ placed. placed.page) (slice_get xs 0) ≡ first (pages_of xs)
unfolding pages_of
next_in [] = refl
next_in (x ∷ xs) = refl

pub next_is : (s : Store) → option_map (λ placed. placed.page) (slice_get s.lists.modified 0) ≡ first (paging s).modified
unfolding paging
next_is s = next_in s.lists.modified

-- the resident pages

pub residents_pages : (s : Store) → pages_of s.lists.order ≡ (paging s).order
unfolding paging
residents_pages s = refl

pub residents_count : (s : Store) → length s.lists.order ≡ length (paging s).order
residents_count s = sym (pages-length s.lists.order) ∙ ap length (residents_pages s)
