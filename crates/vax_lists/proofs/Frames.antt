-- Two lists of frames.
use Rattle.std.proofs.Common.{ℕ, zero, suc, ◌≡◌, ◌≢◌, ◌+◌, ◌-◌, ◌<◌, ◌≤◌, true, false, None, Some, List, [], ◌∷◌, ◌++◌, drop, length, length-append, slice_index, slice_index_or, slice_set, length-set, get_or-set_same, get_or-set_other, refl, ap, sym, ◌∙◌, subst, arith, replicate}
use Rattle.std.proofs.lemmas.List.{length-replicate}
use Rattle.std.specs.Prelude.{slice_get}
use Rattle.vax_lists.specs.Links.{AllBelow, AreCircles, AreLinked, Apart, Away, Chain, FrameLists, Once, before_appended, before_removed, is_in, lists_of, next_appended, next_removed, nodes_of, omit, walk, with_first, with_second}
use Rattle.vax_lists.proofs.Links.{apart_push, apart_remove, apart_swap, below_at, below_push, below_remove, end_away, few_nodes, omit_parts, once_push, once_remove, other_pushed, other_removed, parts_of, pushed, removed, seen_here, seen_next, seen_none, walk-length, walk_chain, walked_last, within_set}

-- two ends
record Ends (limit a b : ℕ) : Type 0 where
  pub low : limit ≤ a
  pub high : a < limit + 2
  pub other_low : limit ≤ b
  pub other_high : b < limit + 2
  pub differ : a ≢ b

ends : (limit : ℕ) → Ends limit limit (limit + 1)
ends limit = record { low = omega arith; high = omega arith; other_low = omega arith; other_high = omega arith; differ = λ e. absurd (omega arith) }

ends_swap : (limit a b : ℕ) → Ends limit a b → Ends limit b a
ends_swap limit a b e = record { low = e.other_low; high = e.other_high; other_low = e.low; other_high = e.high; differ = λ k. e.differ (sym k) }

circles_swap : (next before : List ℕ) (limit a b : ℕ) (xs ys : List ℕ) → AreCircles next before limit a b xs ys → AreCircles next before limit b a ys xs
circles_swap next before limit a b xs ys k = record {
  next_size = k.next_size;
  before_size = k.before_size;
  next_within = k.next_within;
  before_within = k.before_within;
  small = k.small;
  chain = k.other;
  other = k.chain;
  once = k.other_once;
  other_once = k.once;
  below = k.other_below;
  other_below = k.below;
  apart = apart_swap ys xs k.apart;
}

circles_push : (next before : List ℕ) (limit a b x : ℕ) (xs ys : List ℕ) → Ends limit a b → x < limit → Away x xs → Away x ys → AreCircles next before limit a b xs ys →
    AreCircles (next_appended next (slice_index before a) a x) (before_appended before (slice_index before a) a x) limit a b (xs ++ x ∷ []) ys
circles_push next before limit a b x xs ys e low away far k =
    let last : ℕ = slice_index before a in
    let last_low : last < limit + 2 = k.before_within a in
    let s1 = k.next_size in
    let s2 = k.before_size in
    let h1 = e.high in
    let h2 = e.low in
    let h3 = e.other_low in
    let x_low : x < limit + 2 = omega arith in
    let n1 : last < length next = omega arith in
    let n2 : x < length next = omega arith in
    let b1 : x < length before = omega arith in
    let b2 : a < length before = omega arith in
    record {
      next_size = length-set (slice_set next last x) x a ∙ length-set next last x ∙ k.next_size;
      before_size = length-set (slice_set before x last) a x ∙ length-set before x last ∙ k.before_size;
      next_within = within_set (limit + 2) (slice_set next last x) x a (rw (length-set next last x) n2) h1 (within_set (limit + 2) next last x n1 x_low k.next_within);
      before_within = within_set (limit + 2) (slice_set before x last) a x (rw (length-set before x last) b2) x_low (within_set (limit + 2) before x last b1 last_low k.before_within);
      small = k.small;
      chain = pushed next before x a xs n1 n2 b1 b2 (λ z. absurd (omega arith)) away (end_away limit a xs h2 k.below) k.once k.chain;
      other = other_pushed next before x a b xs ys n1 n2 b1 b2 (λ z. absurd (omega arith)) e.differ far (end_away limit a ys h2 k.other_below) (end_away limit b xs h3 k.below) k.apart k.chain k.other;
      once = once_push x xs away k.once;
      other_once = k.other_once;
      below = below_push limit x xs low k.below;
      other_below = k.other_below;
      apart = apart_push x ys xs far k.apart;
    }

circles_remove : (next before : List ℕ) (limit a b x : ℕ) (front back ys : List ℕ) → Ends limit a b → AreCircles next before limit a b (front ++ x ∷ back) ys →
    AreCircles (next_removed next (slice_index next x) (slice_index before x)) (before_removed before (slice_index next x) (slice_index before x)) limit a b (front ++ back) ys
circles_remove next before limit a b x front back ys e k =
    let after : ℕ = slice_index next x in
    let prior : ℕ = slice_index before x in
    let after_low : after < limit + 2 = k.next_within x in
    let prior_low : prior < limit + 2 = k.before_within x in
    let s1 = k.next_size in
    let s2 = k.before_size in
    let n1 : prior < length next = omega arith in
    let b1 : after < length before = omega arith in
    record {
      next_size = length-set next prior after ∙ k.next_size;
      before_size = length-set before after prior ∙ k.before_size;
      next_within = within_set (limit + 2) next prior after n1 after_low k.next_within;
      before_within = within_set (limit + 2) before after prior b1 prior_low k.before_within;
      small = k.small;
      chain = removed next before x a front back n1 b1 (end_away limit a (front ++ x ∷ back) e.low k.below) k.once k.chain;
      other = other_removed next before x a b ys front back n1 b1 e.differ (end_away limit a ys e.low k.other_below) (end_away limit b (front ++ x ∷ back) e.other_low k.below) k.apart k.chain k.other;
      once = once_remove x front back k.once;
      other_once = k.other_once;
      below = below_remove limit x front back k.below;
      other_below = k.other_below;
      apart = apart_remove x ys front back k.apart;
    }

-- the circle, whatever its nodes
nodes_are : (next before : List ℕ) (end count : ℕ) (nodes : List ℕ) → Chain (slice_index next) (slice_index before) end nodes end → count ≡ length nodes → nodes_of next end count ≡ nodes
nodes_are next before end count nodes c e = rw e (walk_chain (slice_index next) (slice_index before) end end nodes c)

nodes-length : (next : List ℕ) (end count : ℕ) → length (nodes_of next end count) ≡ count
nodes-length next end count = walk-length (slice_index next) count (slice_index next end)

-- the lists after these links

record Lists (next before : List ℕ) (limit n m : ℕ) (xs ys : List ℕ) : Type 0 where
  pub linked : AreLinked next before limit n m
  pub value : lists_of next limit n m ≡ record { first = xs; second = ys; limit = limit }

lists_are : (next before : List ℕ) (limit n m : ℕ) (xs ys : List ℕ) → AreCircles next before limit limit (limit + 1) xs ys → n ≡ length xs → m ≡ length ys → Lists next before limit n m xs ys
lists_are next before limit n m xs ys k en em =
    let first : nodes_of next limit n ≡ xs = nodes_are next before limit n xs k.chain en in
    let second : nodes_of next (limit + 1) m ≡ ys = nodes_are next before (limit + 1) m ys k.other em in
    record { linked = rw (first, second) k; value = rw (first, second) refl }

pub first-length : (next : List ℕ) (limit n m : ℕ) (t : FrameLists) → lists_of next limit n m ≡ t → n ≡ length t.first
first-length next limit n m t is = sym (nodes-length next limit n) ∙ ap (λ (z : FrameLists). length z.first) is

pub second-length : (next : List ℕ) (limit n m : ℕ) (t : FrameLists) → lists_of next limit n m ≡ t → m ≡ length t.second
second-length next limit n m t is = sym (nodes-length next (limit + 1) m) ∙ ap (λ (z : FrameLists). length z.second) is

-- what calls leave

pub record PushedFirst (next before : List ℕ) (limit n m frame : ℕ) (t : FrameLists) : Type 0 where
  pub linked : AreLinked (next_appended next (slice_index before limit) limit frame) (before_appended before (slice_index before limit) limit frame) limit (n + 1) m
  pub value : lists_of (next_appended next (slice_index before limit) limit frame) limit (n + 1) m ≡ with_first t (t.first ++ frame ∷ [])
  pub few : n + 1 ≤ 32768
  pub frame_low : frame < length next
  pub last_low : slice_index before limit < length next

pub push_first : (next before : List ℕ) (limit n m frame : ℕ) (t : FrameLists) → lists_of next limit n m ≡ t → AreLinked next before limit n m → frame < t.limit → Away frame t.first → Away frame t.second → PushedFirst next before limit n m frame t
push_first next before limit n m frame t is k low away far =
    let xs = nodes_of next limit n in
    let ys = nodes_of next (limit + 1) m in
    let low' : frame < limit = rw (ap (λ (z : FrameLists). z.limit) is) low in
    let away' : Away frame xs = rw (ap (λ (z : FrameLists). z.first) is) away in
    let far' : Away frame ys = rw (ap (λ (z : FrameLists). z.second) is) far in
    let now = circles_push next before limit limit (limit + 1) frame xs ys (ends limit) low' away' far' k in
    let size : n + 1 ≡ length (xs ++ frame ∷ []) = omega (arith, length-append xs (frame ∷ []), nodes-length next limit n) in
    let l = lists_are _ _ limit (n + 1) m (xs ++ frame ∷ []) ys now size (sym (nodes-length next (limit + 1) m)) in
    record {
      linked = l.linked;
      value = l.value ∙ ap (λ (z : FrameLists). with_first z (z.first ++ frame ∷ [])) is;
      few = omega (arith, size, few_nodes limit (xs ++ frame ∷ []) now.once now.below, k.small);
      frame_low = omega (arith, k.next_size);
      last_low = omega (arith, k.next_size, k.before_within limit);
    }

pub record PushedSecond (next before : List ℕ) (limit n m frame : ℕ) (t : FrameLists) : Type 0 where
  pub linked : AreLinked (next_appended next (slice_index before (limit + 1)) (limit + 1) frame) (before_appended before (slice_index before (limit + 1)) (limit + 1) frame) limit n (m + 1)
  pub value : lists_of (next_appended next (slice_index before (limit + 1)) (limit + 1) frame) limit n (m + 1) ≡ with_second t (t.second ++ frame ∷ [])
  pub few : m + 1 ≤ 32768
  pub frame_low : frame < length next
  pub last_low : slice_index before (limit + 1) < length next

pub push_second : (next before : List ℕ) (limit n m frame : ℕ) (t : FrameLists) → lists_of next limit n m ≡ t → AreLinked next before limit n m → frame < t.limit → Away frame t.first → Away frame t.second → PushedSecond next before limit n m frame t
push_second next before limit n m frame t is k low away far =
    let xs = nodes_of next limit n in
    let ys = nodes_of next (limit + 1) m in
    let low' : frame < limit = rw (ap (λ (z : FrameLists). z.limit) is) low in
    let away' : Away frame xs = rw (ap (λ (z : FrameLists). z.first) is) away in
    let far' : Away frame ys = rw (ap (λ (z : FrameLists). z.second) is) far in
    let now = circles_push next before limit (limit + 1) limit frame ys xs (ends_swap _ _ _ (ends limit)) low' far' away' (circles_swap _ _ _ _ _ _ _ k) in
    let size : m + 1 ≡ length (ys ++ frame ∷ []) = omega (arith, length-append ys (frame ∷ []), nodes-length next (limit + 1) m) in
    let l = lists_are _ _ limit n (m + 1) xs (ys ++ frame ∷ []) (circles_swap _ _ _ _ _ _ _ now) (sym (nodes-length next limit n)) size in
    record {
      linked = l.linked;
      value = l.value ∙ ap (λ (z : FrameLists). with_second z (z.second ++ frame ∷ [])) is;
      few = omega (arith, size, few_nodes limit (ys ++ frame ∷ []) now.once now.below, k.small);
      frame_low = omega (arith, k.next_size);
      last_low = omega (arith, k.next_size, k.before_within (limit + 1));
    }

pub record Removed (next before : List ℕ) (limit frame : ℕ) : Type 0 where
  pub frame_low : frame < length next
  pub next_low : slice_index next frame < length next
  pub before_low : slice_index before frame < length next
  pub sizes : length before ≡ length next

removed_low : (next before : List ℕ) (limit a b frame : ℕ) (front back ys : List ℕ) → AreCircles next before limit a b (front ++ frame ∷ back) ys → Removed next before limit frame
removed_low next before limit a b frame front back ys k =
    let low = below_at limit frame front back k.below in
    record {
      frame_low = omega (arith, low, k.next_size);
      next_low = omega (arith, k.next_size, k.next_within frame);
      before_low = omega (arith, k.next_size, k.before_within frame);
      sizes = omega (arith, k.next_size, k.before_size);
    }

pub record RemovedFirst (next before : List ℕ) (limit n m frame : ℕ) (t : FrameLists) : Type 0 where
  pub linked : AreLinked (next_removed next (slice_index next frame) (slice_index before frame)) (before_removed before (slice_index next frame) (slice_index before frame)) limit (n - 1) m
  pub value : lists_of (next_removed next (slice_index next frame) (slice_index before frame)) limit (n - 1) m ≡ with_first t (omit frame t.first)
  pub some : 1 ≤ n
  pub low : Removed next before limit frame

pub remove_first : (next before : List ℕ) (limit n m frame : ℕ) (t : FrameLists) → lists_of next limit n m ≡ t → AreLinked next before limit n m → is_in frame t.first ≡ true → RemovedFirst next before limit n m frame t
remove_first next before limit n m frame t is k there =
    let xs = nodes_of next limit n in
    let ys = nodes_of next (limit + 1) m in
    let there' : is_in frame xs ≡ true = rw (ap (λ (z : FrameLists). z.first) is) there in
    let p = parts_of frame xs there' in
    let k' : AreCircles next before limit limit (limit + 1) (p.front ++ frame ∷ p.back) ys = subst (λ (z : List ℕ). AreCircles next before limit limit (limit + 1) z ys) p.parts k in
    let now = circles_remove next before limit limit (limit + 1) frame p.front p.back ys (ends limit) k' in
    let total : n ≡ length (p.front ++ frame ∷ p.back) = sym (nodes-length next limit n) ∙ ap (length {A = ℕ}) p.parts in
    let size : n - 1 ≡ length (p.front ++ p.back) = omega (arith, total, length-append p.front p.back, length-append p.front (frame ∷ p.back)) in
    let gone : omit frame xs ≡ p.front ++ p.back = ap (omit frame) p.parts ∙ omit_parts frame p.front p.back k'.once in
    let l = lists_are _ _ limit (n - 1) m (p.front ++ p.back) ys now size (sym (nodes-length next (limit + 1) m)) in
    record {
      linked = l.linked;
      value = rw (l.value, sym gone) (ap (λ (z : FrameLists). with_first z (omit frame z.first)) is);
      some = omega (arith, total, length-append p.front (frame ∷ p.back));
      low = removed_low next before limit limit (limit + 1) frame p.front p.back ys k';
    }

pub record RemovedSecond (next before : List ℕ) (limit n m frame : ℕ) (t : FrameLists) : Type 0 where
  pub linked : AreLinked (next_removed next (slice_index next frame) (slice_index before frame)) (before_removed before (slice_index next frame) (slice_index before frame)) limit n (m - 1)
  pub value : lists_of (next_removed next (slice_index next frame) (slice_index before frame)) limit n (m - 1) ≡ with_second t (omit frame t.second)
  pub some : 1 ≤ m
  pub low : Removed next before limit frame

pub remove_second : (next before : List ℕ) (limit n m frame : ℕ) (t : FrameLists) → lists_of next limit n m ≡ t → AreLinked next before limit n m → is_in frame t.second ≡ true → RemovedSecond next before limit n m frame t
remove_second next before limit n m frame t is k there =
    let xs = nodes_of next limit n in
    let ys = nodes_of next (limit + 1) m in
    let there' : is_in frame ys ≡ true = rw (ap (λ (z : FrameLists). z.second) is) there in
    let p = parts_of frame ys there' in
    let k' : AreCircles next before limit (limit + 1) limit (p.front ++ frame ∷ p.back) xs = subst (λ (z : List ℕ). AreCircles next before limit (limit + 1) limit z xs) p.parts (circles_swap _ _ _ _ _ _ _ k) in
    let now = circles_remove next before limit (limit + 1) limit frame p.front p.back xs (ends_swap _ _ _ (ends limit)) k' in
    let total : m ≡ length (p.front ++ frame ∷ p.back) = sym (nodes-length next (limit + 1) m) ∙ ap (length {A = ℕ}) p.parts in
    let size : m - 1 ≡ length (p.front ++ p.back) = omega (arith, total, length-append p.front p.back, length-append p.front (frame ∷ p.back)) in
    let gone : omit frame ys ≡ p.front ++ p.back = ap (omit frame) p.parts ∙ omit_parts frame p.front p.back k'.once in
    let l = lists_are _ _ limit n (m - 1) xs (p.front ++ p.back) (circles_swap _ _ _ _ _ _ _ now) (sym (nodes-length next limit n)) size in
    record {
      linked = l.linked;
      value = rw (l.value, sym gone) (ap (λ (z : FrameLists). with_second z (omit frame z.second)) is);
      some = omega (arith, total, length-append p.front (frame ∷ p.back));
      low = removed_low next before limit (limit + 1) limit frame p.front p.back xs k';
    }

-- no frame

same_at : (v i n : ℕ) → i < n → slice_index (replicate n v) i ≡ v
same_at v i zero h = absurd (omega arith)
same_at v zero (suc n) h = refl
same_at v (suc i) (suc n) h = same_at v i n (omega arith)

record Empty (xs : List ℕ) (limit : ℕ) : Type 0 where
  pub first : slice_index xs limit ≡ limit
  pub second : slice_index xs (limit + 1) ≡ limit + 1
  pub size : length xs ≡ limit + 2
  pub within : (i : ℕ) → slice_index xs i < limit + 2

within_same : (v n m : ℕ) → v < m → (i : ℕ) → slice_index (replicate n v) i < m
within_same v zero m low i = omega arith
within_same v (suc n) m low zero = low
within_same v (suc n) m low (suc i) = within_same v n m low i

empty_list : (xs : List ℕ) (limit n : ℕ) → n ≡ limit + 2 → xs ≡ slice_set (replicate n limit) (limit + 1) (limit + 1) → Empty xs limit
empty_list xs limit n e is =
    let size : length (replicate n limit) ≡ limit + 2 = length-replicate {A = ℕ} n limit ∙ e in
    let low : limit + 1 < length (replicate n limit) = omega arith in
    record {
      first = rw is (get_or-set_other {A = ℕ} (replicate n limit) (limit + 1) limit (limit + 1) 0 (λ z. absurd (omega arith)) ∙ same_at limit limit n (omega arith));
      second = rw is (get_or-set_same {A = ℕ} (replicate n limit) (limit + 1) (limit + 1) 0 low);
      size = rw is (length-set (replicate n limit) (limit + 1) (limit + 1) ∙ size);
      within = rw is (within_set (limit + 2) (replicate n limit) (limit + 1) (limit + 1) low (omega arith) (within_same limit n (limit + 2) (omega arith)));
    }

pub new_linked : (limit n : ℕ) (next before : List ℕ) → limit ≤ 32768 → n ≡ limit + 2 → next ≡ slice_set (replicate n limit) (limit + 1) (limit + 1) → before ≡ slice_set (replicate n limit) (limit + 1) (limit + 1) → AreLinked next before limit 0 0
unfolding walk Chain Once AllBelow Apart
new_linked limit n next before small e a b =
    let x = empty_list next limit n e a in
    let y = empty_list before limit n e b in
    record {
      next_size = x.size;
      before_size = y.size;
      next_within = x.within;
      before_within = y.within;
      small = small;
      chain = (x.first, y.first);
      other = (x.second, y.second);
      once = tt;
      other_once = tt;
      below = tt;
      other_below = tt;
      apart = tt;
    }

pub new_value : (limit : ℕ) (next : List ℕ) → lists_of next limit 0 0 ≡ record { first = []; second = []; limit = limit }
unfolding walk
new_value limit next = refl

-- the first

first_none : (next : List ℕ) (end count : ℕ) → count ≡ 0 → None ≡ slice_get (nodes_of next end count) 0
unfolding walk
first_none next end zero e = refl
first_none next end (suc n) e = absurd (omega arith)

first_some : (next : List ℕ) (end count : ℕ) → (count ≡ 0 → ⊥) → Some (slice_index next end) ≡ slice_get (nodes_of next end count) 0
unfolding walk
first_some next end zero o = absurd (o refl)
first_some next end (suc n) o = refl

first_low : (next : List ℕ) (limit end count : ℕ) → (count ≡ 0 → ⊥) → AllBelow limit (nodes_of next end count) → slice_index next end < limit
unfolding walk AllBelow
first_low next limit end zero o w = absurd (o refl)
first_low next limit end (suc n) o w = w.0

-- a value that was read of an array
pub read : (xs : List ℕ) (i x : ℕ) → i < length xs → x ≡ slice_index_or xs i x → x ≡ slice_index xs i
read [] i x low e = absurd (omega arith)
read (y ∷ ys) zero x low e = e
read (y ∷ ys) (suc i) x low e = read ys i x (omega arith) e

pub no_first : (next : List ℕ) (limit n m : ℕ) (t : FrameLists) → lists_of next limit n m ≡ t → n ≡ 0 → None ≡ slice_get t.first 0
no_first next limit n m t is e = first_none next limit n e ∙ ap (λ (z : FrameLists). slice_get z.first 0) is

pub no_second : (next : List ℕ) (limit n m : ℕ) (t : FrameLists) → lists_of next limit n m ≡ t → m ≡ 0 → None ≡ slice_get t.second 0
no_second next limit n m t is e = first_none next (limit + 1) m e ∙ ap (λ (z : FrameLists). slice_get z.second 0) is

pub some_first : (next before : List ℕ) (limit n m x y : ℕ) (t : FrameLists) → y ≡ x → x ≡ slice_index_or next limit x → lists_of next limit n m ≡ t → (n ≡ 0 → ⊥) → AreLinked next before limit n m → Some y ≡ slice_get t.first 0
some_first next before limit n m x y t same was is o k =
    ap (λ (z : ℕ). Some z) (same ∙ read next limit x (omega (arith, k.next_size)) was) ∙ first_some next limit n o ∙ ap (λ (z : FrameLists). slice_get z.first 0) is

pub some_second : (next before : List ℕ) (limit n m x y : ℕ) (t : FrameLists) → y ≡ x → x ≡ slice_index_or next (limit + 1) x → lists_of next limit n m ≡ t → (m ≡ 0 → ⊥) → AreLinked next before limit n m → Some y ≡ slice_get t.second 0
some_second next before limit n m x y t same was is o k =
    ap (λ (z : ℕ). Some z) (same ∙ read next (limit + 1) x (omega (arith, k.next_size)) was) ∙ first_some next (limit + 1) m o ∙ ap (λ (z : FrameLists). slice_get z.second 0) is

pub low_first : (next before : List ℕ) (limit n m x y : ℕ) (t : FrameLists) → y ≡ x → x ≡ slice_index_or next limit x → lists_of next limit n m ≡ t → (n ≡ 0 → ⊥) → AreLinked next before limit n m → y < t.limit
low_first next before limit n m x y t same was is o k =
    let at = read next limit x (omega (arith, k.next_size)) was in
    let low = first_low next limit limit n o k.below in
    omega (arith, same, at, low, ap (λ (z : FrameLists). z.limit) is)

pub low_second : (next before : List ℕ) (limit n m x y : ℕ) (t : FrameLists) → y ≡ x → x ≡ slice_index_or next (limit + 1) x → lists_of next limit n m ≡ t → (m ≡ 0 → ⊥) → AreLinked next before limit n m → y < t.limit
low_second next before limit n m x y t same was is o k =
    let at = read next (limit + 1) x (omega (arith, k.next_size)) was in
    let low = first_low next limit (limit + 1) m o k.other_below in
    omega (arith, same, at, low, ap (λ (z : FrameLists). z.limit) is)

-- the walk back over the last frames

pub end_within : (next before : List ℕ) (limit n m : ℕ) → AreLinked next before limit n m → limit < length before
end_within next before limit n m k = omega (arith, k.before_size)

pub left_all : (next before : List ℕ) (limit n m frame count : ℕ) (t : FrameLists) → lists_of next limit n m ≡ t → AreLinked next before limit n m → count ≤ length t.first →
    is_in frame (walk (slice_index before) (count - 0) (slice_index before limit)) ≡ is_in frame (drop (length t.first - count) t.first)
left_all next before limit n m frame count t is k few =
    let same : nodes_of next limit n ≡ t.first = ap (λ (z : FrameLists). z.first) is in
    let all : count - 0 ≡ count = omega arith in
    ap (λ (z : ℕ). is_in frame (walk (slice_index before) z (slice_index before limit))) all
    ∙ walked_last (slice_index next) (slice_index before) frame limit limit count (nodes_of next limit n) (rw same few) k.chain
    ∙ ap (λ (xs : List ℕ). is_in frame (drop (length xs - count) xs)) same

pub came_back : (before : List ℕ) (at x y : ℕ) → y ≡ x → x ≡ slice_index_or before at x → at < length before → y ≡ slice_index before at
came_back before at x y same was low = same ∙ read before at x low was

pub left_more : (before : List ℕ) (frame count counter at x : ℕ) → x ≡ slice_index before at → counter < count → (x ≡ frame → ⊥) →
    is_in frame (walk (slice_index before) (count - (counter + 1)) (slice_index before x)) ≡ is_in frame (walk (slice_index before) (count - counter) (slice_index before at))
left_more before frame count counter at x was more o =
    ap (λ (z : ℕ). is_in frame (walk (slice_index before) (count - (counter + 1)) (slice_index before z))) was
    ∙ sym (seen_next (slice_index before) frame (count - (counter + 1)) (count - counter) at (omega arith) (λ e. o (was ∙ e)))

pub left_here : (before : List ℕ) (frame count counter at : ℕ) {x : ℕ} → x ≡ slice_index before at → counter < count → x ≡ frame →
    is_in frame (walk (slice_index before) (count - counter) (slice_index before at)) ≡ true
left_here before frame count counter at {x} was more e =
    seen_here (slice_index before) frame (count - (counter + 1)) (count - counter) at (omega arith) (sym was ∙ e)

pub left_none : (before : List ℕ) (frame count counter at : ℕ) → count ≤ counter →
    is_in frame (walk (slice_index before) (count - counter) (slice_index before at)) ≡ false
left_none before frame count counter at o = seen_none (slice_index before) frame (count - counter) at (omega (arith, o))
