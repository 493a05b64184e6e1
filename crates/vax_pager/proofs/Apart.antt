-- A number that goes on in the next page.
use Rattle.std.proofs.Common.{ℕ, zero, suc, ◌≡◌, ◌+◌, ◌-◌, ◌%◌, ◌^◌, ◌<◌, ◌≤◌, Bool, true, false, ◌==◌, List, length, take, drop, refl, ap, sym, ◌∙◌, subst, arith}
use Rattle.std.specs.Prelude.{◌||◌}
use Rattle.std.proofs.Math.Path.{fun_ext}
use Rattle.std.proofs.lemmas.Grind.{common_steps}
use Rattle.vax_space.specs.Reference.{byte_after, page_of}
use Rattle.vax_flat.specs.Memory.{after}
use Rattle.vax_flat.specs.Port.{View, is_in, marking, put, put_run, with_number, with_run}
use Rattle.vax_undo.proofs.Accesses.{IsApart}
use Rattle.vax_pager.specs.Listing.{is_listed}
use Rattle.vax_pager.specs.Paging.{Paging, view_of}
use Rattle.vax_pager.specs.Steps.{OnlyWritten, filled, touched, touched_by, touched_page}
use Rattle.vax_pager.specs.Store.{overwritten}
use Rattle.vax_pager.proofs.Views.{only_then, only_touched, range_some, touched_listed}
use Rattle.vax_pager.proofs.Writes.{filled_only, filled_view, frame_touched, modified_filled, modified_touched, page_touched, touched_some}
use Rattle.vax_pager.proofs.Moves.{at_other}
use Rattle.std.proofs.lemmas.Bool.{false≢true}

-- two parts of a range

after_more : (addr a : ℕ) → byte_after (after addr) a ≡ byte_after addr (suc a)
after_more addr a = omega arith

or_next : (a b c : Bool) → (a || (b || c)) ≡ ((a || b) || c)
or_next true b c = refl
or_next false b c = refl

pub in_parts : (addr a b page : ℕ) → addr < 2 ^ 32 → is_in addr (a + b) page ≡ (is_in addr a page || is_in (byte_after addr a) b page)
unfolding is_in
in_parts addr zero b page small =
    let e : byte_after addr 0 ≡ addr = omega arith in
    let z : 0 + b ≡ b = omega arith in
    rw (e, z) refl
in_parts addr (suc a) b page small =
    let z : suc a + b ≡ suc (a + b) = omega arith in
    rw (z, ← after_more addr a) (ap (λ (r : Bool). (page == page_of addr) || r) (in_parts (after addr) a b page (omega arith)) ∙ or_next (page == page_of addr) (is_in (after addr) a page) (is_in (byte_after (after addr) a) b page))

touched_parts : (modified : List ℕ) (addr a b : ℕ) → addr < 2 ^ 32 → touched modified addr (a + b) ≡ touched (touched modified addr a) (byte_after addr a) b
unfolding touched
touched_parts modified addr zero b small =
    let e : byte_after addr 0 ≡ addr = omega arith in
    let z : 0 + b ≡ b = omega arith in
    rw (e, z) refl
touched_parts modified addr (suc a) b small =
    let z : suc a + b ≡ suc (a + b) = omega arith in
    rw (z, ← after_more addr a) (touched_parts (touched_by modified (page_of addr)) (after addr) a b (omega arith))

-- marks of two pages

or_all : (b : Bool) → ((((false || true) || b) || b) || true) ≡ (false || (true || b))
or_all b = refl

all_marks : (m a b : Bool) → ((((m || a) || b) || b) || a) ≡ (m || (a || b))
all_marks true a b = refl
all_marks false true b = or_all b
all_marks false false true = refl
all_marks false false false = refl

module _ (addr n first next : ℕ) where
  marks_apart : (modified : List ℕ) (lo hi page : ℕ) → IsApart addr n first next → lo ≡ first → hi ≡ n - first →
      ((is_listed page (touched_by (touched_by modified (page_of addr)) (page_of next)) || is_in next hi page) || is_in addr lo page) ≡ (is_listed page modified || is_in addr n page)
  marks_apart modified lo hi page h el eh =
      let sum : n ≡ first + (n - first) = omega (arith, h.0, h.2) in
      let low : is_in addr lo page ≡ (page == page_of addr) = range_some addr lo page h.4 (omega (arith, el, h.0)) (omega (arith, el, h.0)) in
      let high : is_in next hi page ≡ (page == page_of next) = range_some next hi page (omega (arith, h.1)) (omega (arith, eh, h.0, h.1, h.2, h.3, h.4)) (omega (arith, eh, h.0, h.2)) in
      let all : is_in addr n page ≡ ((page == page_of addr) || (page == page_of next)) =
      ap (λ (k : ℕ). is_in addr k page) sum
      ∙ in_parts addr first (n - first) page h.4
      ∙ ap (λ (k : ℕ). is_in addr k page || is_in (byte_after addr first) (n - first) page) (sym el)
      ∙ ap (λ (b : Bool). b || is_in (byte_after addr first) (n - first) page) low
      ∙ ap (λ (a : ℕ). (page == page_of addr) || is_in a (n - first) page) (sym h.1)
      ∙ ap (λ (k : ℕ). (page == page_of addr) || is_in next k page) (sym eh)
      ∙ ap (λ (b : Bool). (page == page_of addr) || b) high in
      rw (low, high, all, touched_listed (page_of next) page (touched_by modified (page_of addr)), touched_listed (page_of addr) page modified)
      (all_marks (is_listed page modified) (page == page_of addr) (page == page_of next))

  -- the view after both pages were touched and both parts written
  pub view_apart : (s : Paging) (value : ℕ) (low high : List ℕ) → IsApart addr n first next → length low ≡ first → length high ≡ n - first →
      put_run (put_run (view_of s).byte next high) addr low ≡ put (view_of s).byte addr n value →
      with_run (with_run (view_of (touched_page (page_of next) (touched_page (page_of addr) s))) next high) addr low ≡ with_number (view_of s) addr n value
  unfolding touched_page
  view_apart s value low high h el eh bytes =
      let marks : ◌≡◌ {A = ℕ → Bool} (λ page. (is_listed page (touched_by (touched_by s.modified (page_of addr)) (page_of next)) || is_in next (length high) page) || is_in addr (length low) page) (marking (view_of s).marked addr n) =
      fun_ext (λ page. marks_apart s.modified (length low) (length high) page h el eh) in
      ap (λ (m : ℕ → Bool). record (view_of s) { byte = put_run (put_run (view_of s).byte next high) addr low; marked = m }) marks
      ∙ ap (λ (f : ℕ → ℕ). record (view_of s) { byte = f; marked = marking (view_of s).marked addr n }) bytes

  pub listed_apart : (s : Paging) → IsApart addr n first next → touched_by (touched_by s.modified (page_of addr)) (page_of next) ≡ touched s.modified addr n
  listed_apart s h =
      let sum : n ≡ first + (n - first) = omega (arith, h.0, h.2) in
      ap (λ (m : List ℕ). touched_by m (page_of next)) (touched_some s.modified addr first h.4 (omega (arith, h.0)) (omega (arith, h.0)))
      ∙ touched_some (touched s.modified addr first) next (n - first) (omega (arith, h.1)) (omega (arith, h.0, h.1, h.2, h.3, h.4)) (omega (arith, h.0, h.2))
      ∙ ap (λ (a : ℕ). touched (touched s.modified addr first) a (n - first)) h.1
      ∙ sym (touched_parts s.modified addr first (n - first) h.4)
      ∙ ap (touched s.modified addr) (sym sum)

-- the lengths of two parts of eight bytes
pub part_sizes : (all : List ℕ) (first rest : ℕ) → first + rest ≤ length all → (length (take first all) ≡ first) × (length (take rest (drop first all)) ≡ rest)
part_sizes all first rest few = (grind (arith, common_steps), grind (arith, common_steps))

or_first : (a b : Bool) → a ≡ true → (a || b) ≡ true
or_first true b h = refl
or_first false b h = absurd (false≢true h)

frame_filled : (p q : ℕ) (bytes : List ℕ) (s : Paging) → (q ≡ p → ⊥) → (filled p bytes s).frame q ≡ s.frame q
unfolding filled
frame_filled p q bytes s o = at_other p q bytes s.frame o

-- the state after both pages were touched and both parts written
pub record WrittenApart (s t u v w : Paging) (addr next : ℕ) (low high : List ℕ) : Type 0 where
  pub first : t ≡ touched_page (page_of addr) s
  pub second : u ≡ touched_page (page_of next) t
  pub high_put : v ≡ filled (page_of next) (overwritten (next % 512) high (u.frame (page_of next))) u
  pub low_put : w ≡ filled (page_of addr) (overwritten (addr % 512) low (v.frame (page_of addr))) v
  pub low_here : is_listed (page_of addr) s.order ≡ true
  pub high_here : is_listed (page_of next) s.order ≡ true
  pub low_size : length (s.frame (page_of addr)) ≡ 512
  pub high_size : length (s.frame (page_of next)) ≡ 512

module _ (s t u v w : Paging) (addr n first next : ℕ) (low high : List ℕ) where
  both_touched : WrittenApart s t u v w addr next low high → u ≡ touched_page (page_of next) (touched_page (page_of addr) s)
  both_touched k = k.second ∙ ap (touched_page (page_of next)) k.first

  high_listed : WrittenApart s t u v w addr next low high → is_listed (page_of next) u.modified ≡ true
  high_listed k = ap (λ (z : Paging). is_listed (page_of next) z.modified) k.second ∙ page_touched t (page_of next)

  low_listed : WrittenApart s t u v w addr next low high → is_listed (page_of addr) u.modified ≡ true
  low_listed k =
      ap (λ (z : Paging). is_listed (page_of addr) z.modified) k.second
      ∙ ap (is_listed (page_of addr)) (modified_touched (page_of next) t)
      ∙ touched_listed (page_of next) (page_of addr) t.modified
      ∙ or_first (is_listed (page_of addr) t.modified) (page_of addr == page_of next) (ap (λ (z : Paging). is_listed (page_of addr) z.modified) k.first ∙ page_touched s (page_of addr))

  after_high : WrittenApart s t u v w addr next low high → v.modified ≡ u.modified
  after_high k = ap (λ (z : Paging). z.modified) k.high_put ∙ modified_filled (page_of next) _ u

  frame_before : (page : ℕ) → WrittenApart s t u v w addr next low high → u.frame page ≡ s.frame page
  frame_before page k = ap (λ (z : Paging). z.frame page) (both_touched k) ∙ frame_touched (touched_page (page_of addr) s) (page_of next) page ∙ frame_touched s (page_of addr) page

  two_pages : IsApart addr n first next → page_of addr ≡ page_of next → ⊥
  two_pages h e = omega (arith, h.0, h.1, h.4, e)

  pub view_of_apart : (value : ℕ) → IsApart addr n first next → WrittenApart s t u v w addr next low high → length low ≡ first → length high ≡ n - first → put_run (put_run (view_of s).byte next high) addr low ≡ put (view_of s).byte addr n value → view_of w ≡ with_number (view_of s) addr n value
  view_of_apart value h k el eh bytes =
      let high_view = filled_view u v next high k.high_put (omega (arith, h.1)) (omega (arith, eh, h.0, h.1, h.2, h.3, h.4)) (omega (arith, eh, h.0, h.2)) (ap (length {A = ℕ}) (frame_before (page_of next) k) ∙ k.high_size) (high_listed k) in
      let low_size : length (v.frame (page_of addr)) ≡ 512 =
      ap (λ (z : Paging). length (z.frame (page_of addr))) k.high_put ∙ ap (length {A = ℕ}) (frame_filled (page_of next) (page_of addr) _ u (two_pages h)) ∙ ap (length {A = ℕ}) (frame_before (page_of addr) k) ∙ k.low_size in
      let low_view = filled_view v w addr low k.low_put h.4 (omega (arith, el, h.0)) (omega (arith, el, h.0)) low_size (ap (is_listed (page_of addr)) (after_high k) ∙ low_listed k) in
      low_view
      ∙ ap (λ (z : View). with_run z addr low) (high_view ∙ ap (λ (z : Paging). with_run (view_of z) next high) (both_touched k))
      ∙ view_apart addr n first next s value low high h el eh bytes

  pub modified_apart : IsApart addr n first next → WrittenApart s t u v w addr next low high → w.modified ≡ touched s.modified addr n
  modified_apart h k =
      ap (λ (z : Paging). z.modified) k.low_put ∙ modified_filled (page_of addr) _ v ∙ after_high k
      ∙ ap (λ (z : Paging). z.modified) (both_touched k)
      ∙ modified_touched (page_of next) (touched_page (page_of addr) s)
      ∙ ap (λ (m : List ℕ). touched_by m (page_of next)) (modified_touched (page_of addr) s)
      ∙ listed_apart addr n first next s h

  pub only_apart : WrittenApart s t u v w addr next low high → OnlyWritten s w
  only_apart k =
      let a = subst (λ (z : Paging). OnlyWritten s z) (sym k.first) (only_touched s (page_of addr)) in
      let b = subst (λ (z : Paging). OnlyWritten t z) (sym k.second) (only_touched t (page_of next)) in
      let ab = only_then s t u a b in
      let c = filled_only u v (page_of next) _ k.high_put (high_listed k) (ap (is_listed (page_of next)) ab.order ∙ k.high_here) in
      let abc = only_then s u v ab c in
      only_then s v w abc (filled_only v w (page_of addr) _ k.low_put (ap (is_listed (page_of addr)) (after_high k) ∙ low_listed k) (ap (is_listed (page_of addr)) abc.order ∙ k.low_here))
