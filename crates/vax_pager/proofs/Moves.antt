-- What a step of one page leaves of the parts of a pager.
use Rattle.std.proofs.Common.{ℕ, ◌≡◌, ◌≢◌, ◌+◌, ◌<◌, ◌≤◌, true, false, List, [], length, refl, ap, sym, ◌∙◌, arith, inl, inr, Option, Some, None, slice_index, slice_index_or, slice_set, get_or-set_same, get_or-set_other}
use Rattle.std.specs.Prelude.{is_some}
use Rattle.std.proofs.Math.Path.{fun_ext}
use Rattle.std.proofs.lemmas.Bool.{cases_eq, eq-eqb, ne_eqb, false≢true}
use Rattle.vax_space.specs.Areas.{block_of, prot_of}
use Rattle.vax_table.specs.declared.Tables.{Tables}
use Rattle.vax_table.specs.declared.Walk.{Walk}
use Rattle.vax_table.specs.declared.Walk.TheVariants.{Resident, Absent, Outside}
use Rattle.vax_table.specs.Mapping.{changed, frame_of, is_resident}
use Rattle.vax_table.specs.Tables.{walked, kept}
use Rattle.vax_table.proofs.Walks.{changed_here, changed_other}
use Rattle.vax_tb.specs.Buffer.{Agrees, dropped}
use Rattle.vax_tb.specs.Meaning.{buffered}
use Rattle.vax_lists.specs.Lines.{frame_in}
use Rattle.vax_pager.specs.declared.store.Store.{Store}
use Rattle.vax_pager.specs.Listing.{are_once, is_listed}
use Rattle.vax_pager.specs.Steps.{at}
use Rattle.vax_pager.specs.Frames.{held_by, dirty_frame}
use Rattle.vax_pager.specs.Store.{held, bytes_at, paging, Fits, IsSound, IsFree}
use Rattle.vax_pager.proofs.Listing.{listed_is}

pub at_same : {A : Type 0} (p : ℕ) (x : A) (f : ℕ → A) → at p x f p ≡ x
unfolding at
at_same p x f = rw (eq-eqb p p refl) refl

pub at_other : {A : Type 0} (p q : ℕ) (x : A) (f : ℕ → A) → q ≢ p → at p x f q ≡ f q
unfolding at
at_other p q x f h = rw (ne_eqb q p h) refl

pub at_itself : {A : Type 0} (p : ℕ) (x : A) (f : ℕ → A) → x ≡ f p → at p x f ≡ f
at_itself p x f h = fun_ext (λ q. elim (cases_eq q p) [
  | inl same ↦ ap (at p x f) same ∙ at_same p x f ∙ h ∙ ap f (sym same)
  | inr o ↦ at_other p q x f o
])

-- the tables say something else of one page
pub record Changes (s : Store) (tables : Tables) (p : ℕ) (w : Walk) (k : Option ℕ) : Type 0 where
  pub walk : walked tables ≡ changed (walked s.tables) p w
  pub left : kept tables ≡ changed (kept s.tables) p k

pub held_changes : (s t : Store) (p : ℕ) (w : Walk) (k : Option ℕ) → Changes s t.tables p w k → held t ≡ at p (held_by w k) (held s)
unfolding held
held_changes s t p w k c = fun_ext (λ q. rw (c.walk, c.left) (elim (cases_eq q p) [
  | inl e ↦ rw (changed_here (walked s.tables) p w q e, changed_here (kept s.tables) p k q e, e, at_same p (held_by w k) (λ r. held_by (walked s.tables r) (kept s.tables r))) refl
  | inr o ↦ rw (changed_other (walked s.tables) p w q o, changed_other (kept s.tables) p k q o, at_other p q (held_by w k) (λ r. held_by (walked s.tables r) (kept s.tables r)) o) refl
]))

-- the bytes of all pages
abbrev pub frames_of : List (List ℕ) → (ℕ → Option ℕ) → ℕ → List ℕ
frames_of frames h page = bytes_at frames (h page)

pub frames_at : (frames : List (List ℕ)) (h : ℕ → Option ℕ) (p : ℕ) (x : Option ℕ) → frames_of frames (at p x h) ≡ at p (bytes_at frames x) (frames_of frames h)
frames_at frames h p x = fun_ext (λ q. elim (cases_eq q p) [
  | inl e ↦ rw (e, at_same p x h, at_same p (bytes_at frames x) (frames_of frames h)) refl
  | inr o ↦ rw (at_other p q x h o, at_other p q (bytes_at frames x) (frames_of frames h) o) refl
])

pub frames_same : (frames : List (List ℕ)) (s t : Store) (p : ℕ) (w : Walk) (k : Option ℕ) → Changes s t.tables p w k → held_by w k ≡ held s p → frames_of frames (held t) ≡ frames_of frames (held s)
frames_same frames s t p w k c e =
    ap (frames_of frames) (held_changes s t p w k c ∙ at_itself p (held_by w k) (held s) e)

pub frames_gone : (frames : List (List ℕ)) (s t : Store) (p : ℕ) (w : Walk) (k : Option ℕ) → Changes s t.tables p w k → held_by w k ≡ None → frames_of frames (held t) ≡ at p [] (frames_of frames (held s))
frames_gone frames s t p w k c e =
    ap (frames_of frames) (held_changes s t p w k c) ∙ frames_at frames (held s) p (held_by w k) ∙ ap (λ (o : Option ℕ). at p (bytes_at frames o) (frames_of frames (held s))) e

bytes_set : (frames : List (List ℕ)) (f : ℕ) (bytes : List ℕ) (o : Option ℕ) → o ≢ Some f → bytes_at (slice_set frames f bytes) o ≡ bytes_at frames o
bytes_set frames f bytes None h = refl
bytes_set frames f bytes (Some g) h = get_or-set_other frames f g bytes [] (λ e. h (ap (λ (z : ℕ). Some z) e))

-- a frame has other bytes, and one page at most has it
pub frames_set : (frames : List (List ℕ)) (h : ℕ → Option ℕ) (f p : ℕ) (bytes : List ℕ) → f < length frames → h p ≡ Some f → ((q : ℕ) → q ≢ p → h q ≢ Some f) → frames_of (slice_set frames f bytes) h ≡ at p bytes (frames_of frames h)
frames_set frames h f p bytes low here other = fun_ext (λ q. elim (cases_eq q p) [
  | inl e ↦ rw (e, at_same p bytes (frames_of frames h), here) (get_or-set_same frames f bytes [] low)
  | inr o ↦ rw (at_other p q bytes (frames_of frames h) o) (bytes_set frames f bytes (h q) (other q o))
])

-- a step of one page

-- the space stays, as do the frames in use and the room of the lists
pub record Stays (s t : Store) : Type 0 where
  pub space : t.space ≡ s.space
  pub used : t.used ≡ s.used
  pub limit : t.lists.limit ≡ s.lists.limit

-- so many frames, each of 512 bytes
pub record AreFrames (count : ℕ) (frames : List (List ℕ)) : Type 0 where
  pub many : length frames ≡ count
  pub whole : (frame : ℕ) → frame < length frames → length (slice_index_or frames frame []) ≡ 512
  pub small : (frame i : ℕ) → slice_index (slice_index_or frames frame []) i < 256

pub frames_are : (n : ℕ) (s : Store) → IsSound n s → AreFrames (length s.frames.items) s.frames.items
frames_are n s h = record { many = refl; whole = h.whole; small = h.small }

pub record Moved (m : ℕ) (s t : Store) (p : ℕ) (w : Walk) (k : Option ℕ) : Type 0 where
  pub changes : Changes s t.tables p w k
  pub buffer : buffered t.buffer ≡ dropped (buffered s.buffer) p
  pub stays : Stays s t
  pub frames : AreFrames (length s.frames.items) t.frames.items
  pub here : Fits w k (frame_in t.lists.order p) (frame_in t.lists.kept p) (frame_in t.lists.modified p) (prot_of s.space p) (block_of s.space p) t.used
  pub other : (q : ℕ) → q ≢ p → Fits (walked s.tables q) (kept s.tables q) (frame_in t.lists.order q) (frame_in t.lists.kept q) (frame_in t.lists.modified q) (prot_of s.space q) (block_of s.space q) t.used
  pub fresh : (frame : ℕ) → held_by w k ≡ Some frame → (q : ℕ) → q ≢ p → held s q ≢ Some frame
  pub lengths : length t.lists.order + length t.lists.kept + m ≡ t.used
  pub pins : t.pinned ≤ length t.lists.order
  pub once : are_once t.lists.order ≡ true

agrees_changed : (b : ℕ → Option Walk) (f : ℕ → Walk) (p : ℕ) (w : Walk) → Agrees b f → Agrees (dropped b p) (changed f p w)
unfolding dropped
agrees_changed b f p w h = record {
  holds = λ q walk. elim (cases_eq q p) [
    | inl e ↦ rw (eq-eqb q p e) (λ k. cc)
    | inr o ↦ rw (ne_eqb q p o) (λ k. changed_other f p w q o ∙ h.holds q walk k)
  ];
}

-- two pages have two frames after the step
one_at : (h : ℕ → Option ℕ) (p : ℕ) (x : Option ℕ) → ((a b f : ℕ) → h a ≡ Some f → h b ≡ Some f → b ≡ a) → ((f : ℕ) → x ≡ Some f → (q : ℕ) → q ≢ p → h q ≢ Some f) → (a b f : ℕ) → at p x h a ≡ Some f → at p x h b ≡ Some f → b ≡ a
one_at h p x one fresh a b f ea eb = elim (cases_eq a p) [
  | inl e ↦ elim (cases_eq b p) [
    | inl g ↦ g ∙ sym e
    | inr o ↦
        let xa : x ≡ Some f = sym (at_same p x h) ∙ ap (at p x h) (sym e) ∙ ea in
        absurd (fresh f xa b o (sym (at_other p b x h o) ∙ eb))
  ]
  | inr n ↦ elim (cases_eq b p) [
    | inl g ↦
        let xb : x ≡ Some f = sym (at_same p x h) ∙ ap (at p x h) (sym g) ∙ eb in
        absurd (fresh f xb a n (sym (at_other p a x h n) ∙ ea))
    | inr o ↦ one a b f (sym (at_other p a x h n) ∙ ea) (sym (at_other p b x h o) ∙ eb)
  ]
]

pub sound_moved : (n m : ℕ) (s t : Store) (p : ℕ) (w : Walk) (k : Option ℕ) → IsSound n s → Moved m s t p w k → IsSound m t
sound_moved n m s t p w k h v = record {
  fine = λ q. rw (v.changes.walk, v.changes.left, v.stays.space) (elim (cases_eq q p) [
    | inl e ↦ rw (e, changed_here (walked s.tables) p w p refl, changed_here (kept s.tables) p k p refl) v.here
    | inr o ↦ rw (changed_other (walked s.tables) p w q o, changed_other (kept s.tables) p k q o) (v.other q o)
  ]);
  one = rw (held_changes s t p w k v.changes) (one_at (held s) p (held_by w k) h.one v.fresh);
  agrees = rw (v.buffer, v.changes.walk) (agrees_changed (buffered s.buffer) (walked s.tables) p w h.agrees);
  lengths = v.lengths;
  used = rw (v.stays.used, v.frames.many) h.used;
  few = rw v.frames.many h.few;
  whole = v.frames.whole;
  small = v.frames.small;
  limit = v.stays.limit ∙ h.limit ∙ sym v.frames.many;
  pins = v.pins;
  once = v.once;
  space = rw v.stays.space h.space;
}

-- what the lists and the tables say of a page

pub some_frame : (walk : Walk) → is_some (frame_of walk) ≡ is_resident walk
some_frame (Resident f prot m) = refl
some_frame (Absent prot) = refl
some_frame (Outside past) = refl

pub resident_is : (n : ℕ) (s : Store) (p : ℕ) → IsSound n s → is_listed p (paging s).order ≡ is_resident (walked s.tables p)
unfolding paging
resident_is n s p h = listed_is p s.lists.order ∙ ap is_some (h.fine p).order ∙ some_frame (walked s.tables p)

pub modified_is : (n : ℕ) (s : Store) (p : ℕ) → IsSound n s → is_listed p (paging s).modified ≡ is_some (dirty_frame (walked s.tables p))
unfolding paging
modified_is n s p h = listed_is p s.lists.modified ∙ ap is_some (h.fine p).modified

pub kept_is : (n : ℕ) (s : Store) (p : ℕ) → IsSound n s → is_listed p (paging s).kept ≡ is_some (kept s.tables p)
unfolding paging
kept_is n s p h = listed_is p s.lists.kept ∙ ap is_some (h.fine p).kept

pub frame_held : (walk : Walk) (left : Option ℕ) (f : ℕ) → frame_of walk ≡ Some f → held_by walk left ≡ Some f
frame_held (Resident g prot m) left f e = e
frame_held (Absent prot) left f e = cc
frame_held (Outside past) left f e = cc

left_held : (walk : Walk) (left : Option ℕ) (f : ℕ) → (is_resident walk ≡ true → left ≡ None) → left ≡ Some f → held_by walk left ≡ Some f
left_held (Resident g prot m) left f apart e = let none = apart refl in cc
left_held (Absent prot) left f apart e = e
left_held (Outside past) left f apart e = e

dirty_held : (walk : Walk) (left : Option ℕ) (f : ℕ) → dirty_frame walk ≡ Some f → held_by walk left ≡ Some f
dirty_held (Resident g prot true) left f e = e
dirty_held (Resident g prot false) left f e = cc
dirty_held (Absent prot) left f e = cc
dirty_held (Outside past) left f e = cc

pub order_held : (n : ℕ) (s : Store) (p f : ℕ) → IsSound n s → frame_in s.lists.order p ≡ Some f → held s p ≡ Some f
unfolding held
order_held n s p f h e = frame_held (walked s.tables p) (kept s.tables p) f (sym (h.fine p).order ∙ e)

pub kept_held : (n : ℕ) (s : Store) (p f : ℕ) → IsSound n s → frame_in s.lists.kept p ≡ Some f → held s p ≡ Some f
unfolding held
kept_held n s p f h e = left_held (walked s.tables p) (kept s.tables p) f (h.fine p).apart (sym (h.fine p).kept ∙ e)

pub modified_held : (n : ℕ) (s : Store) (p f : ℕ) → IsSound n s → frame_in s.lists.modified p ≡ Some f → held s p ≡ Some f
unfolding held
modified_held n s p f h e = dirty_held (walked s.tables p) (kept s.tables p) f (sym (h.fine p).modified ∙ e)

pub held_low : (n : ℕ) (s : Store) (p f : ℕ) → IsSound n s → held s p ≡ Some f → f < s.used
unfolding held
held_low n s p f h e = (h.fine p).holds f e

pub held_room : (n : ℕ) (s : Store) (p f : ℕ) → IsSound n s → held s p ≡ Some f → f < length s.frames.items
held_room n s p f h e = omega (arith, held_low n s p f h e, h.used)

-- two pages have two frames
pub same_page : (n : ℕ) (s : Store) (p q f : ℕ) → IsSound n s → held s p ≡ Some f → held s q ≡ Some f → q ≡ p
same_page n s p q f h a b = h.one p q f a b

pub one_held : (n : ℕ) (s : Store) (p f : ℕ) → IsSound n s → held s p ≡ Some f → (q : ℕ) → q ≢ p → held s q ≢ Some f
one_held n s p f h a q o b = o (same_page n s p q f h a b)

pub free_order : (n : ℕ) (s : Store) (f : ℕ) → IsSound n s → IsFree f s → (q : ℕ) → frame_in s.lists.order q ≢ Some f
free_order n s f h free q e = free.other q (order_held n s q f h e)

-- the frame of a resident page
frame_some : (walk : Walk) → is_resident walk ≡ true → (f : ℕ) × (frame_of walk ≡ Some f)
frame_some (Resident f prot m) h = (f, refl)
frame_some (Absent prot) h = absurd (false≢true h)
frame_some (Outside past) h = absurd (false≢true h)

pub resident_there : (n : ℕ) (s : Store) (p : ℕ) → IsSound n s → is_listed p (paging s).order ≡ true → (f : ℕ) × (frame_in s.lists.order p ≡ Some f)
resident_there n s p h r =
    let k = frame_some (walked s.tables p) (sym (resident_is n s p h) ∙ r) in
    (k.0, (h.fine p).order ∙ k.1)

-- what the paging says of a page's bytes
pub frame_means : (s : Store) (p f : ℕ) → held s p ≡ Some f → slice_index_or s.frames.items f [] ≡ (paging s).frame p
unfolding paging
frame_means s p f e = ap (bytes_at s.frames.items) (sym e)

-- no page has a frame that is free
pub free_kept : (n : ℕ) (s : Store) (f : ℕ) → IsSound n s → IsFree f s → (q : ℕ) → frame_in s.lists.kept q ≢ Some f
free_kept n s f h free q e = free.other q (kept_held n s q f h e)

pub free_modified : (n : ℕ) (s : Store) (f : ℕ) → IsSound n s → IsFree f s → (q : ℕ) → frame_in s.lists.modified q ≢ Some f
free_modified n s f h free q e = free.other q (modified_held n s q f h e)
