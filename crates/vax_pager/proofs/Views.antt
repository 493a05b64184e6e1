-- Reads and writes of resident pages.
use Rattle.std.proofs.Common.{ℕ, zero, suc, ◌≡◌, ◌+◌, ◌-◌, ◌%◌, ◌^◌, ◌<◌, ◌≤◌, Bool, true, false, ◌==◌, List, [], ◌∷◌, ◌++◌, length, append_assoc, append-nil, take, drop, get_or, slice_index, slice_index_or, if◌then◌else◌, refl, ap, sym, ◌∙◌, subst, arith, inl, inr, Option, Some, None}
use Rattle.std.specs.Prelude.{is_some, IfSome, Ok, ◌&&◌, ◌||◌}
use Rattle.std.proofs.Math.Path.{fun_ext}
use Rattle.std.proofs.Math.Seq.{drop-cons}
use Rattle.std.proofs.lemmas.Bool.{cases_Bool, cases_eq, cases_lt, eq-eqb, ne_eqb, false≢true}
use Rattle.std.proofs.lemmas.Grind.{common_steps}
use Rattle.vax_space.specs.declared.Access.{Access}
use Rattle.vax_space.specs.declared.Access.TheVariants.{Read, Write}
use Rattle.vax_space.specs.declared.Area.{Area}
use Rattle.vax_space.specs.declared.Violation.{Violation}
use Rattle.vax_space.specs.Areas.{prot_of}
use Rattle.vax_space.specs.Protection.{allows}
use Rattle.vax_space.specs.Reference.{may_access, page_of, violation}
use Rattle.vax_space.proofs.References.{violation_in_page}
use Rattle.vax_table.specs.declared.Walk.{Walk}
use Rattle.vax_table.specs.declared.Walk.TheVariants.{Resident, Absent, Outside}
use Rattle.vax_table.specs.Mapping.{frame_of, prot_said}
use Rattle.vax_table.specs.Tables.{walked, kept}
use Rattle.vax_tb.specs.declared.buffer.Buffer.{Buffer}
use Rattle.vax_tb.specs.Buffer.{Agrees, at_once, leaves_entry}
use Rattle.vax_tb.specs.Buffer.{filled as entry_filled}
use Rattle.vax_tb.specs.Meaning.{buffered}
use Rattle.vax_flat.specs.Memory.{after, bytes_from, number}
use Rattle.vax_flat.specs.Port.{View, AreBytes, is_in, loaded, marking, put_run, stop, with_run}
use Rattle.vax_flat.specs.declared.Stop.TheVariants.{NotResident, Violated}
use Rattle.vax_undo.specs.Blocks.{number_in}
use Rattle.vax_undo.proofs.Accesses.{fine, gone}
use Rattle.vax_undo.proofs.Numbers.{number_is}
use Rattle.vax_undo.proofs.Ranges.{run_within, run_outside}
use Rattle.vax_pager.specs.declared.store.Store.{Store}
use Rattle.vax_pager.specs.Listing.{is_listed}
use Rattle.vax_pager.specs.Paging.{Paging, view_of}
use Rattle.vax_pager.specs.Steps.{OnlyWritten, at, filled, touched_by, touched_page}
use Rattle.vax_pager.specs.Frames.{dirty_frame}
use Rattle.vax_pager.specs.Store.{IsSound, bytes_at, has_block, held, overwritten, paging}
use Rattle.vax_pager.proofs.Listing.{in_push}
use Rattle.vax_pager.proofs.Moves.{at_same, at_other, frame_held, frame_means, held_room, modified_is, resident_is, some_frame}

-- the bytes of a range within a page

head_of : (fr : List ℕ) (k n : ℕ) → k < length fr → take (suc n) (drop k fr) ≡ slice_index fr k ∷ take n (drop (suc k) fr)
head_of fr k n low = ap (take (suc n)) (drop-cons fr k 0 low)

pub part_bytes : (fr : List ℕ) (byte : ℕ → ℕ) (addr len : ℕ) → addr < 2 ^ 32 → addr % 512 + len ≤ 512 → length fr ≡ 512 → ((a : ℕ) → page_of a ≡ page_of addr → byte a ≡ slice_index fr (a % 512)) → take len (drop (addr % 512) fr) ≡ bytes_from byte addr len
unfolding bytes_from
part_bytes fr byte addr zero small within size same = refl
part_bytes fr byte addr (suc zero) small within size same =
    head_of fr (addr % 512) 0 (omega arith) ∙ ap (λ (x : ℕ). x ∷ []) (sym (same addr refl))
part_bytes fr byte addr (suc (suc len)) small within size same =
    let e : after addr ≡ addr + 1 = omega arith in
    let small' : after addr < 2 ^ 32 = omega arith in
    let page : page_of (after addr) ≡ page_of addr = omega arith in
    let place : after addr % 512 ≡ suc (addr % 512) = omega arith in
    let rest = part_bytes fr byte (after addr) (suc len) small' (omega arith) size (λ a h. same a (h ∙ page)) in
    head_of fr (addr % 512) (suc len) (omega arith)
    ∙ ap (λ (x : ℕ). x ∷ take (suc len) (drop (suc (addr % 512)) fr)) (sym (same addr refl))
    ∙ ap (λ (k : ℕ). byte addr ∷ take (suc len) (drop k fr)) (sym place)
    ∙ ap (λ (xs : List ℕ). byte addr ∷ xs) rest

-- a part that is overwritten

pub over_inside : (k : ℕ) (xs old : List ℕ) (j : ℕ) → k + length xs ≤ length old → k ≤ j → j < k + length xs → get_or (overwritten k xs old) j 0 ≡ get_or xs (j - k) 0
over_inside k xs old j h low high = grind (arith, common_steps)

pub over_outside : (k : ℕ) (xs old : List ℕ) (j : ℕ) → k + length xs ≤ length old → (k ≤ j → j < k + length xs → ⊥) → get_or (overwritten k xs old) j 0 ≡ get_or old j 0
over_outside k xs old j h out = elim (cases_lt j k) [
  | inl low ↦ grind (arith, common_steps)
  | inr high ↦ let past : k + length xs ≤ j = elim (cases_lt j (k + length xs)) [ inl l ↦ absurd (out high l) | inr p ↦ p ] in grind (arith, common_steps)
]

byte_filled : (frame : ℕ → List ℕ) (addr : ℕ) (xs : List ℕ) (place : ℕ) → addr < 2 ^ 32 → addr % 512 + length xs ≤ 512 → length (frame (page_of addr)) ≡ 512 →
    slice_index (at (page_of addr) (overwritten (addr % 512) xs (frame (page_of addr))) frame (page_of place)) (place % 512) ≡ put_run (λ a. slice_index (frame (page_of a)) (a % 512)) addr xs place
byte_filled frame addr xs place small within size = elim (cases_eq (page_of place) (page_of addr)) [
  | inl e ↦
      let here : at (page_of addr) (overwritten (addr % 512) xs (frame (page_of addr))) frame (page_of place) ≡ overwritten (addr % 512) xs (frame (page_of addr)) =
      ap (at (page_of addr) (overwritten (addr % 512) xs (frame (page_of addr))) frame) e ∙ at_same (page_of addr) (overwritten (addr % 512) xs (frame (page_of addr))) frame in
      ap (λ (z : List ℕ). slice_index z (place % 512)) here ∙ (elim (cases_lt place addr) [
        | inl low ↦
            over_outside (addr % 512) xs (frame (page_of addr)) (place % 512) (omega arith) (λ a b. omega arith)
            ∙ ap (λ z. slice_index (frame z) (place % 512)) (sym e)
            ∙ sym (run_outside (λ a. slice_index (frame (page_of a)) (a % 512)) addr xs place small within (λ a b. omega arith))
        | inr up ↦ elim (cases_lt place (addr + length xs)) [
          | inl inside ↦
              let k : place % 512 - addr % 512 ≡ place - addr = omega arith in
              over_inside (addr % 512) xs (frame (page_of addr)) (place % 512) (omega arith) (omega arith) (omega arith)
              ∙ ap (λ n. get_or xs n 0) k
              ∙ sym (run_within (λ a. slice_index (frame (page_of a)) (a % 512)) addr xs place small within up inside)
          | inr past ↦
              over_outside (addr % 512) xs (frame (page_of addr)) (place % 512) (omega arith) (λ a b. omega arith)
              ∙ ap (λ z. slice_index (frame z) (place % 512)) (sym e)
              ∙ sym (run_outside (λ a. slice_index (frame (page_of a)) (a % 512)) addr xs place small within (λ a b. omega arith))
        ]
      ])
  | inr o ↦
      ap (λ (z : List ℕ). slice_index z (place % 512)) (at_other (page_of addr) (page_of place) (overwritten (addr % 512) xs (frame (page_of addr))) frame o)
      ∙ sym (run_outside (λ a. slice_index (frame (page_of a)) (a % 512)) addr xs place small within (λ a b. o (omega arith)))
]

-- the marks of a range within a page

or_same : (b : Bool) → (b || b) ≡ b
or_same true = refl
or_same false = refl

or_false : (b : Bool) → (b || false) ≡ b
or_false true = refl
or_false false = refl

pub range_page : (addr n page : ℕ) → addr < 2 ^ 32 → addr % 512 + suc n ≤ 512 → is_in addr (suc n) page ≡ (page == page_of addr)
unfolding is_in
range_page addr zero page small within = or_false (page == page_of addr)
range_page addr (suc n) page small within =
    let small' : after addr < 2 ^ 32 = omega arith in
    let same : page_of (after addr) ≡ page_of addr = omega arith in
    ap (λ (b : Bool). (page == page_of addr) || b) (range_page (after addr) n page small' (omega arith) ∙ ap (λ (z : ℕ). page == z) same) ∙ or_same (page == page_of addr)

or_true_of : (b : Bool) → true ≡ (b || true)
or_true_of true = refl
or_true_of false = refl

pub touched_listed : (page q : ℕ) (modified : List ℕ) → is_listed q (touched_by modified page) ≡ (is_listed q modified || (q == page))
touched_listed page q modified = elim (cases_Bool (is_listed page modified)) [
  | inl t ↦ rw t (elim (cases_eq q page) [
    | inl e ↦ rw (e, t) refl
    | inr o ↦ rw (ne_eqb q page o) (sym (or_false (is_listed q modified)))
  ])
  | inr f ↦ rw (f, in_push q page modified) (elim (cases_eq q page) [
    | inl e ↦ rw (e, eq-eqb page page refl) (or_true_of (is_listed page modified))
    | inr o ↦ rw (ne_eqb q page o) (sym (or_false (is_listed q modified)))
  ])
]

pub range_some : (addr n page : ℕ) → addr < 2 ^ 32 → addr % 512 + n ≤ 512 → 1 ≤ n → is_in addr n page ≡ (page == page_of addr)
range_some addr zero page small within some = absurd (omega arith)
range_some addr (suc n) page small within some = range_page addr n page small within

marks_stay : (modified : List ℕ) (addr n page : ℕ) → addr < 2 ^ 32 → addr % 512 + n ≤ 512 → 1 ≤ n → is_listed (page_of addr) modified ≡ true → is_listed page modified ≡ (is_listed page modified || is_in addr n page)
marks_stay modified addr n page small within some listed = rw (range_some addr n page small within some) (elim (cases_eq page (page_of addr)) [
  | inl e ↦ rw (e, listed) refl
  | inr o ↦ rw (ne_eqb page (page_of addr) o) (sym (or_false (is_listed page modified)))
])

or_twice : (a b : Bool) → ((a || b) || b) ≡ (a || b)
or_twice true b = refl
or_twice false b = or_same b

marks_again : (modified : List ℕ) (addr n page : ℕ) → addr < 2 ^ 32 → addr % 512 + n ≤ 512 → 1 ≤ n → (is_listed page (touched_by modified (page_of addr)) || is_in addr n page) ≡ (is_listed page modified || is_in addr n page)
marks_again modified addr n page small within some =
    rw (touched_listed (page_of addr) page modified, range_some addr n page small within some) (or_twice (is_listed page modified) (page == page_of addr))

not_either : (a b : Bool) → (a || b) ≡ false → a ≡ false
not_either true b h = h
not_either false b h = refl

not_touched : (modified : List ℕ) (p q : ℕ) → is_listed q (touched_by modified p) ≡ false → is_listed q modified ≡ false
not_touched modified p q h = not_either (is_listed q modified) (q == p) (sym (touched_listed p q modified) ∙ h)

touched_more : (modified : List ℕ) (p : ℕ) → (more : List ℕ) × (touched_by modified p ≡ modified ++ more)
touched_more modified p = elim (cases_Bool (is_listed p modified)) [
  | inl t ↦ ([], rw t (sym (append-nil modified)))
  | inr f ↦ (p ∷ [], rw f refl)
]

-- what a port shows of a page with other bytes

pub view_filled : (s : Paging) (addr : ℕ) (xs : List ℕ) → addr < 2 ^ 32 → addr % 512 + length xs ≤ 512 → 1 ≤ length xs → length (s.frame (page_of addr)) ≡ 512 → is_listed (page_of addr) s.modified ≡ true →
    view_of (filled (page_of addr) (overwritten (addr % 512) xs (s.frame (page_of addr))) s) ≡ with_run (view_of s) addr xs
unfolding filled
view_filled s addr xs small within some size listed =
    let bytes : ◌≡◌ {A = ℕ → ℕ} (λ place. slice_index (at (page_of addr) (overwritten (addr % 512) xs (s.frame (page_of addr))) s.frame (page_of place)) (place % 512)) (put_run (view_of s).byte addr xs) =
    fun_ext (λ place. byte_filled s.frame addr xs place small within size) in
    let marks : ◌≡◌ {A = ℕ → Bool} (λ page. is_listed page s.modified) (marking (view_of s).marked addr (length xs)) = fun_ext (λ page. marks_stay s.modified addr (length xs) page small within some listed) in
    cc

-- a page that is marked again, in a range of its own
pub run_touched : (s : Paging) (addr : ℕ) (xs : List ℕ) → addr < 2 ^ 32 → addr % 512 + length xs ≤ 512 → 1 ≤ length xs → with_run (view_of (touched_page (page_of addr) s)) addr xs ≡ with_run (view_of s) addr xs
unfolding touched_page
run_touched s addr xs small within some =
    let marks : marking (λ page. is_listed page (touched_by s.modified (page_of addr))) addr (length xs) ≡ marking (λ page. is_listed page s.modified) addr (length xs) =
    fun_ext (λ page. marks_again s.modified addr (length xs) page small within some) in
    ap (λ (m : ℕ → Bool). record (view_of s) { byte = put_run (view_of s).byte addr xs; marked = m }) marks

-- what calls of a port may do

pub only_itself : (s : Paging) → OnlyWritten s s
only_itself s = record { areas = refl; frames = refl; order = refl; pinned = refl; kept = refl; blocked = refl; numbers = refl; clean = λ p h. (h, refl); held = λ p h. refl; more = ([], sym (append-nil s.modified)) }

pub only_then : (s t u : Paging) → OnlyWritten s t → OnlyWritten t u → OnlyWritten s u
only_then s t u a b = record {
  areas = b.areas ∙ a.areas;
  frames = b.frames ∙ a.frames;
  order = b.order ∙ a.order;
  pinned = b.pinned ∙ a.pinned;
  kept = b.kept ∙ a.kept;
  blocked = b.blocked ∙ a.blocked;
  numbers = b.numbers ∙ a.numbers;
  clean = λ p h.
      let k = b.clean p h in
      let l = a.clean p k.0 in
      (l.0, k.1 ∙ l.1);
  held = λ p h. b.held p (ap (is_listed p) a.order ∙ h) ∙ a.held p h;
  more = (a.more.0 ++ b.more.0, b.more.1 ∙ ap (λ (z : List ℕ). z ++ b.more.0) a.more.1 ∙ append_assoc s.modified a.more.0 b.more.0);
}

pub only_touched : (s : Paging) (p : ℕ) → OnlyWritten s (touched_page p s)
unfolding touched_page
only_touched s p = record {
  areas = refl;
  frames = refl;
  order = refl;
  pinned = refl;
  kept = refl;
  blocked = refl;
  numbers = refl;
  clean = λ q h. (not_touched s.modified p q h, refl);
  held = λ q h. refl;
  more = touched_more s.modified p;
}

pub only_filled : (s : Paging) (p : ℕ) (bytes : List ℕ) → is_listed p s.modified ≡ true → is_listed p s.order ≡ true → OnlyWritten s (filled p bytes s)
unfolding filled
only_filled s p bytes m r = record {
  areas = refl;
  frames = refl;
  order = refl;
  pinned = refl;
  kept = refl;
  blocked = refl;
  numbers = refl;
  clean = λ q h. (h, at_other p q bytes s.frame (λ e. false≢true (sym h ∙ ap (λ z. is_listed z s.modified) e ∙ m)));
  held = λ q h. at_other p q bytes s.frame (λ e. false≢true (sym h ∙ ap (λ z. is_listed z s.order) e ∙ r));
  more = ([], sym (append-nil s.modified));
}

-- all bytes are bytes
frame_small : (s : Store) (o : Option ℕ) (k : ℕ) → IsSound 0 s → slice_index (bytes_at s.frames.items o) k < 256
frame_small s None k h = omega arith
frame_small s (Some f) k h = h.small f k

pub are_bytes : (s : Store) → IsSound 0 s → AreBytes (view_of (paging s)).byte
unfolding paging
are_bytes s h = record { below = λ addr. frame_small s (held s (page_of addr)) (addr % 512) h }

-- another buffer changes nothing that a pager means

pub sound_buffer : (s : Store) (b : Buffer) → Agrees (buffered b) (walked s.tables) → IsSound 0 s → IsSound 0 (record s { buffer = b })
unfolding held
sound_buffer s b a h = record {
  fine = h.fine;
  one = h.one;
  agrees = a;
  lengths = h.lengths;
  used = h.used;
  few = h.few;
  whole = h.whole;
  small = h.small;
  limit = h.limit;
  once = h.once;
  space = h.space;
  pins = h.pins;
}

pub agrees_same : (s : Store) (b : Buffer) → buffered b ≡ buffered s.buffer → IsSound 0 s → Agrees (buffered b) (walked s.tables)
agrees_same s b e h = subst (λ (f : ℕ → Option Walk). Agrees f (walked s.tables)) (sym e) h.agrees

pub paging_buffer : (s : Store) (b : Buffer) → paging (record s { buffer = b }) ≡ paging s
unfolding paging held has_block
paging_buffer s b = refl

-- the frame of a page

pub frame_listed : (s : Store) (p : ℕ) (o : Option ℕ) → o ≡ frame_of (walked s.tables p) → IsSound 0 s → is_some o ≡ is_listed p (paging s).order
frame_listed s p o e h = ap is_some e ∙ some_frame (walked s.tables p) ∙ sym (resident_is 0 s p h)

pub frame_there : (s : Store) (b : Buffer) (p : ℕ) (o : Option ℕ) → o ≡ frame_of (walked s.tables p) → IfSome o (λ f. held (record s { buffer = b }) p ≡ Some f)
unfolding held
frame_there s b p None e = tt
frame_there s b p (Some f) e = frame_held (walked s.tables p) (kept s.tables p) f (sym e)

pub entry_there : (b : ℕ → Option Walk) (p : ℕ) (w : Walk) → is_some (entry_filled b p w p) ≡ true
unfolding entry_filled
entry_there b p w = rw (eq-eqb p p refl) refl

-- a frame that is there at once

pub record IsAtOnce (s : Store) (p mode : ℕ) (access : Access) (f : ℕ) : Type 0 where
  pub walk : frame_of (walked s.tables p) ≡ Some f
  pub may : may_access s.space p mode access ≡ true
  pub dirty : access ≡ Write → is_some (dirty_frame (walked s.tables p)) ≡ true

both_left : (a b : Bool) → (a && b) ≡ true → a ≡ true
both_left true b h = refl
both_left false b h = h

both_right : (a b : Bool) → (a && b) ≡ true → b ≡ true
both_right true b h = h
both_right false b h = absurd (false≢true h)

entry_dirty : (f prot : ℕ) (md : Bool) (access : Access) → leaves_entry access md ≡ true → access ≡ Write → is_some (dirty_frame (Resident f prot md)) ≡ true
entry_dirty f prot true access h e = refl
entry_dirty f prot false Write h e = absurd (false≢true h)
entry_dirty f prot false Read h e = cc

may_of : (s : Store) (p mode prot : ℕ) (access : Access) → Some prot ≡ prot_of s.space p → allows prot mode access ≡ true → may_access s.space p mode access ≡ true
unfolding may_access
may_of s p mode prot access e a = rw (← e) a

once_by : (s : Store) (p mode : ℕ) (access : Access) (f g prot : ℕ) (md b : Bool) → walked s.tables p ≡ Resident g prot md → prot_said (walked s.tables p) ≡ prot_of s.space p →
    (allows prot mode access && leaves_entry access md) ≡ b → (if b then Some g else None) ≡ Some f → IsAtOnce s p mode access f
once_by s p mode access f g prot md true w area e same =
    let entry = entry_dirty g prot md access (both_right (allows prot mode access) (leaves_entry access md) e) in
    record {
      walk = ap frame_of w ∙ same;
      may = may_of s p mode prot access (sym (ap prot_said w) ∙ area) (both_left (allows prot mode access) (leaves_entry access md) e);
      dirty = λ k. ap (λ (z : Walk). is_some (dirty_frame z)) w ∙ entry k;
    }
once_by s p mode access f g prot md false w area e same = cc

once_from : (s : Store) (p mode : ℕ) (access : Access) (f : ℕ) (o : Option Walk) → ((walk : Walk) → o ≡ Some walk → walked s.tables p ≡ walk) → prot_said (walked s.tables p) ≡ prot_of s.space p → at_once o mode access ≡ Some f → IsAtOnce s p mode access f
once_from s p mode access f None holds area e = cc
once_from s p mode access f (Some (Resident g prot md)) holds area e = once_by s p mode access f g prot md _ (holds (Resident g prot md) refl) area refl e
once_from s p mode access f (Some (Absent prot)) holds area e = cc
once_from s p mode access f (Some (Outside past)) holds area e = cc

pub is_at_once : (s : Store) (p mode : ℕ) (access : Access) (f : ℕ) → at_once (buffered s.buffer p) mode access ≡ Some f → IsSound 0 s → IsAtOnce s p mode access f
is_at_once s p mode access f e h = once_from s p mode access f (buffered s.buffer p) (λ walk k. h.agrees.holds p walk k) (h.fine p).area e

some_of : (o : Option ℕ) → is_some o ≡ true → (f : ℕ) × (o ≡ Some f)
some_of None h = absurd (false≢true h)
some_of (Some f) h = (f, refl)

pub once_held : (s : Store) (b : Buffer) (p mode : ℕ) (access : Access) (o : Option ℕ) → o ≡ at_once (buffered s.buffer p) mode access → IsSound 0 s → IfSome o (λ f. held (record s { buffer = b }) p ≡ Some f)
once_held s b p mode access None e h = tt
once_held s b p mode access (Some f) e h = frame_there s b p (Some f) (sym (is_at_once s p mode access f (sym e) h).walk)

pub once_entry : (walk : Option Walk) (mode : ℕ) (access : Access) (o : Option ℕ) → o ≡ at_once walk mode access → is_some o ≡ true → is_some walk ≡ true
once_entry None mode access o e h = absurd (false≢true (sym (ap is_some e) ∙ h))
once_entry (Some walk) mode access o e h = refl

pub once_resident : (s : Store) (p mode : ℕ) (access : Access) (o : Option ℕ) → o ≡ at_once (buffered s.buffer p) mode access → IsSound 0 s → is_some o ≡ true → is_listed p (paging s).order ≡ true
once_resident s p mode access o e h there =
    let k = some_of o there in
    let once = is_at_once s p mode access k.0 (sym e ∙ k.1) h in
    sym (frame_listed s p (frame_of (walked s.tables p)) refl h) ∙ ap is_some once.walk

pub once_marked : (s : Store) (p mode : ℕ) (access : Access) (o : Option ℕ) → o ≡ at_once (buffered s.buffer p) mode access → IsSound 0 s → is_some o ≡ true → access ≡ Write → is_listed p (paging s).modified ≡ true
once_marked s p mode access o e h there w =
    let k = some_of o there in
    let once = is_at_once s p mode access k.0 (sym e ∙ k.1) h in
    modified_is 0 s p h ∙ once.dirty w

areas_same : (s : Store) → (paging s).areas ≡ s.space
unfolding paging
areas_same s = refl

pub once_free : (s : Store) (addr n mode : ℕ) (access : Access) (o : Option ℕ) → addr < 2 ^ 32 → n ≤ 512 - addr % 512 → o ≡ at_once (buffered s.buffer (page_of addr)) mode access → IsSound 0 s → is_some o ≡ true → stop (view_of (paging s)) addr n mode access ≡ None
once_free s addr n mode access o small within e h there =
    let k = some_of o there in
    let once = is_at_once s (page_of addr) mode access k.0 (sym e ∙ k.1) h in
    let allowed : None ≡ violation (paging s).areas addr n mode access = sym (ap (λ (z : List Area). violation z addr n mode access) (areas_same s) ∙ violation_in_page s.space addr n mode access small within once.may) in
    fine (view_of (paging s)) addr n mode access allowed small (omega arith) (once_resident s (page_of addr) mode access o e h there)

-- why a range can't be used, if it can't

allowed_in : (s : Store) (addr n mode : ℕ) (access : Access) → None ≡ violation s.space addr n mode access → None ≡ violation (view_of (paging s)).areas addr n mode access
unfolding paging
allowed_in s addr n mode access e = e

pub cut_violated : (s : Store) (addr n mode : ℕ) (access : Access) (v : Violation) → Some v ≡ violation s.space addr n mode access → stop (view_of (paging s)) addr n mode access ≡ Some (Violated v)
unfolding paging
cut_violated s addr n mode access v e = rw (← e) refl

pub cut_gone : (s : Store) (addr n mode : ℕ) (access : Access) → None ≡ violation s.space addr n mode access → 1 ≤ n → is_listed (page_of addr) (paging s).order ≡ false → stop (view_of (paging s)) addr n mode access ≡ Some (NotResident (page_of addr))
cut_gone s addr n mode access e some absent = gone (view_of (paging s)) addr n mode access (allowed_in s addr n mode access e) some absent

pub cut_none : (s : Store) (addr n mode : ℕ) (access : Access) → None ≡ violation s.space addr n mode access → addr < 2 ^ 32 → addr % 512 + n ≤ 512 → is_listed (page_of addr) (paging s).order ≡ true → stop (view_of (paging s)) addr n mode access ≡ None
cut_none s addr n mode access e small within here = fine (view_of (paging s)) addr n mode access (allowed_in s addr n mode access e) small within here

-- the bytes of a range within a page that has a frame

pub part_there : (s : Store) (addr n f : ℕ) (frame : List ℕ) → addr < 2 ^ 32 → addr % 512 + n ≤ 512 → held s (page_of addr) ≡ Some f → frame ≡ slice_index_or s.frames.items f [] → IsSound 0 s → take n (drop (addr % 512) frame) ≡ bytes_from (view_of (paging s)).byte addr n
part_there s addr n f frame small within there e h =
    let size : length frame ≡ 512 = ap (length {A = ℕ}) e ∙ h.whole f (held_room 0 s (page_of addr) f h there) in
    part_bytes frame (view_of (paging s)).byte addr n small within size (λ a k. ap (λ (z : List ℕ). slice_index z (a % 512)) (ap (paging s).frame k ∙ sym (frame_means s (page_of addr) f there) ∙ sym e))

pub number_there : (s : Store) (addr n v : ℕ) (bytes : List ℕ) → bytes ≡ bytes_from (view_of (paging s)).byte addr n → v ≡ number_in bytes → v ≡ number (view_of (paging s)).byte addr n
number_there s addr n v bytes e is = is ∙ ap number_in e ∙ sym (number_is (view_of (paging s)).byte addr n)

pub held_buffer : (s : Store) (b : Buffer) → held (record s { buffer = b }) ≡ held s
unfolding held
held_buffer s b = refl

pub get_same : (xs : List (List ℕ)) (i : ℕ) (x : List ℕ) → i < length xs → x ≡ get_or xs i x → x ≡ slice_index_or xs i []
get_same [] i x low e = absurd (omega arith)
get_same (y ∷ xs) zero x low e = e
get_same (y ∷ xs) (suc i) x low e = get_same xs i x (omega arith) e

pub part_of : (s : Store) (addr n f : ℕ) (frame : List ℕ) → addr < 2 ^ 32 → addr % 512 + n ≤ 512 → held s (page_of addr) ≡ Some f → frame ≡ get_or s.frames.items f frame → IsSound 0 s → take n (drop (addr % 512) frame) ≡ bytes_from (view_of (paging s)).byte addr n
part_of s addr n f frame small within there e h = part_there s addr n f frame small within there (get_same s.frames.items f frame (held_room 0 s (page_of addr) f h there) e) h

pub only_same : (s t u : Paging) → u ≡ t → OnlyWritten s t → OnlyWritten s u
only_same s t u e h = subst (λ (z : Paging). OnlyWritten s z) (sym e) h

-- a number of another state that means the same
pub number_same : (s t : Paging) (addr n v : ℕ) → t ≡ s → v ≡ number (view_of t).byte addr n → v ≡ number (view_of s).byte addr n
number_same s t addr n v e is = is ∙ ap (λ (z : Paging). number (view_of z).byte addr n) e

pub read_value : (view : View) (addr n mode v : ℕ) → stop view addr n mode Read ≡ None → v ≡ number view.byte addr n → Ok v ≡ loaded view addr n mode
read_value view addr n mode v free e = rw free (ap (λ x. Ok x) e)

-- another state that means the same
pub resident_same : (s t : Paging) (p : ℕ) → t ≡ s → is_listed p t.order ≡ is_listed p s.order
resident_same s t p e = ap (λ (z : Paging). is_listed p z.order) e

pub bytes_same : (s t : Paging) (addr n : ℕ) (bytes : List ℕ) → t ≡ s → bytes ≡ bytes_from (view_of t).byte addr n → bytes ≡ bytes_from (view_of s).byte addr n
bytes_same s t addr n bytes e is = is ∙ ap (λ (z : Paging). bytes_from (view_of z).byte addr n) e
