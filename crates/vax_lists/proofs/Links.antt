-- Links of lists, and what a node more or less makes of them.
use Rattle.std.proofs.Common.{ℕ, zero, suc, ◌≡◌, ◌≢◌, ◌-◌, ◌<◌, ◌≤◌, Bool, true, false, take, drop, take-append-drop, List, [], ◌∷◌, ◌++◌, length, slice_index, slice_set, length-set, get_or-set_same, get_or-set_other, refl, ap, sym, ◌∙◌, subst, arith, inl, inr, replicate}
use Rattle.std.proofs.Math.Path.{fun_ext}
use Rattle.std.proofs.lemmas.Bool.{cases_eq, eq-eqb, ne_eqb, false≢true}
use Rattle.std.proofs.lemmas.List.{length-drop}
use Rattle.std.specs.Prelude.{◌==◌, if◌then◌else◌}
use Rattle.vax_lists.specs.Links.{Chain, Away, Once, Apart, AllBelow, is_in, omit, walk, next_appended, before_appended, next_removed, before_removed}

-- a function with another value at one place
unfoldable upd : (ℕ → ℕ) → ℕ → ℕ → ℕ → ℕ
upd f p v q = if q == p then v else f q

upd_same : (f : ℕ → ℕ) (p v : ℕ) → upd f p v p ≡ v
unfolding upd
upd_same f p v = rw (eq-eqb p p refl) refl

upd_other : (f : ℕ → ℕ) (p v q : ℕ) → q ≢ p → upd f p v q ≡ f q
unfolding upd
upd_other f p v q o = rw (ne_eqb q p o) refl

-- a link elsewhere
chain_next : (N P : ℕ → ℕ) (p v a b : ℕ) (xs : List ℕ) → p ≢ a → Away p xs → Chain N P a xs b → Chain (upd N p v) P a xs b
unfolding Chain Away
chain_next N P p v a b [] o w c = (upd_other N p v a (λ e. o (sym e)) ∙ c.0, c.1)
chain_next N P p v a b (x ∷ xs) o w c = (upd_other N p v a (λ e. o (sym e)) ∙ c.0, c.1, chain_next N P p v x b xs w.0 w.1 c.2)

chain_prev : (N P : ℕ → ℕ) (t v a b : ℕ) (xs : List ℕ) → t ≢ b → Away t xs → Chain N P a xs b → Chain N (upd P t v) a xs b
unfolding Chain Away
chain_prev N P t v a b [] o w c = (c.0, upd_other P t v b (λ e. o (sym e)) ∙ c.1)
chain_prev N P t v a b (x ∷ xs) o w c = (c.0, upd_other P t v x (λ e. w.0 (sym e)) ∙ c.1, chain_prev N P t v x b xs o w.1 c.2)

-- the last node
last_away : (N P : ℕ → ℕ) (i a b : ℕ) (xs : List ℕ) → i ≢ a → Away i xs → Chain N P a xs b → i ≢ P b
unfolding Chain Away
last_away N P i a b [] o w c = λ e. o (e ∙ c.1)
last_away N P i a b (x ∷ xs) o w c = last_away N P i x b xs w.0 w.1 c.2

chain_push : (N P : ℕ → ℕ) (x a b : ℕ) (xs : List ℕ) → x ≢ a → x ≢ b → Away x xs → Away a xs → Away b xs → Once xs → Chain N P a xs b →
    Chain (upd (upd N (P b) x) x b) (upd (upd P x (P b)) b x) a (xs ++ x ∷ []) b
unfolding Chain Away Once
chain_push N P x a b [] o u w d e s c = (
  upd_other (upd N (P b) x) x b a (λ k. o (sym k)) ∙ ap (λ z. upd N (P b) x z) (sym c.1) ∙ upd_same N (P b) x,
  upd_other (upd P x (P b)) b x x u ∙ upd_same P x (P b) ∙ c.1,
  (upd_same (upd N (P b) x) x b, upd_same (upd P x (P b)) b x),
)
chain_push N P x a b (y ∷ ys) o u w d e s c = (
  upd_other (upd N (P b) x) x b a (λ k. o (sym k)) ∙ upd_other N (P b) x a (last_away N P a y b ys d.0 d.1 c.2) ∙ c.0,
  upd_other (upd P x (P b)) b x y (λ k. e.0 (sym k)) ∙ upd_other P x (P b) y (λ k. w.0 (sym k)) ∙ c.1,
  chain_push N P x y b ys w.0 u w.1 s.0 e.1 s.1 c.2,
)

-- the neighbours of a node
before_away : (N P : ℕ → ℕ) (i a b x : ℕ) (front back : List ℕ) → i ≢ a → Away i front → Chain N P a (front ++ x ∷ back) b → i ≢ P x
unfolding Chain Away
before_away N P i a b x [] back o w c = λ e. o (e ∙ c.1)
before_away N P i a b x (y ∷ ys) back o w c = before_away N P i y b x ys back w.0 w.1 c.2

after_away : (N P : ℕ → ℕ) (i a b x : ℕ) (front back : List ℕ) → i ≢ b → Away i back → Chain N P a (front ++ x ∷ back) b → i ≢ N x
unfolding Chain Away
after_away N P i a b x [] [] o w c = λ e. o (e ∙ c.2.0)
after_away N P i a b x [] (z ∷ zs) o w c = λ e. w.0 (e ∙ c.2.0)
after_away N P i a b x (y ∷ ys) back o w c = after_away N P i y b x ys back o w c.2

pub away_parts : (i x : ℕ) (front back : List ℕ) → Away i (front ++ x ∷ back) → Away i front × Away i back
unfolding Away
away_parts i x [] back w = (tt, w.1)
away_parts i x (y ∷ ys) back w = let r = away_parts i x ys back w.1 in ((w.0, r.0), r.1)

chain_remove : (N P : ℕ → ℕ) (a b x : ℕ) (front back : List ℕ) → Away a (front ++ x ∷ back) → Away b (front ++ x ∷ back) → Once (front ++ x ∷ back) → Chain N P a (front ++ x ∷ back) b →
    Chain (upd N (P x) (N x)) (upd P (N x) (P x)) a (front ++ back) b
unfolding Chain Away Once
chain_remove N P a b x [] [] d e s c = (
  ap (λ z. upd N (P x) (N x) z) (sym c.1) ∙ upd_same N (P x) (N x) ∙ c.2.0,
  ap (λ z. upd P (N x) (P x) z) (sym c.2.0) ∙ upd_same P (N x) (P x) ∙ c.1,
)
chain_remove N P a b x [] (z ∷ zs) d e s c = (
  ap (λ y. upd N (P x) (N x) y) (sym c.1) ∙ upd_same N (P x) (N x) ∙ c.2.0,
  ap (λ y. upd P (N x) (P x) y) (sym c.2.0) ∙ upd_same P (N x) (P x) ∙ c.1,
  chain_prev (upd N (P x) (N x)) P (N x) (P x) z b zs (λ k. e.1.0 (sym (sym c.2.0 ∙ k))) (subst (λ (y : ℕ). Away y zs) (sym c.2.0) s.1.0)
      (chain_next N P (P x) (N x) z b zs (λ k. d.1.0 (sym c.1 ∙ k)) (subst (λ (y : ℕ). Away y zs) (sym c.1) d.1.1) c.2.2),
)
chain_remove N P a b x (y ∷ ys) back d e s c =
    let f = away_parts a x ys back d.1 in
    let g = away_parts y x ys back s.0 in (
      upd_other N (P x) (N x) a (before_away N P a y b x ys back d.0 f.0 c.2) ∙ c.0,
      upd_other P (N x) (P x) y (after_away N P y y b x ys back (λ k. e.0 (sym k)) g.1 c.2) ∙ c.1,
      chain_remove N P y b x ys back s.0 e.1 s.1 c.2,
    )

-- one node more or less
pub away_push : (i x : ℕ) (xs : List ℕ) → i ≢ x → Away i xs → Away i (xs ++ x ∷ [])
unfolding Away
away_push i x [] o w = (o, tt)
away_push i x (y ∷ ys) o w = (w.0, away_push i x ys o w.1)

away_remove : (i x : ℕ) (front back : List ℕ) → Away i (front ++ x ∷ back) → Away i (front ++ back)
unfolding Away
away_remove i x [] back w = w.1
away_remove i x (y ∷ ys) back w = (w.0, away_remove i x ys back w.1)

-- another list

apart_nil : (ys : List ℕ) → Apart ys []
unfolding Apart Away
apart_nil [] = tt
apart_nil (y ∷ ys) = (tt, apart_nil ys)

apart_cons : (x : ℕ) (ys xs : List ℕ) → Away x ys → Apart ys xs → Apart ys (x ∷ xs)
unfolding Apart Away
apart_cons x [] xs w d = tt
apart_cons x (y ∷ ys) xs w d = (((λ e. w.0 (sym e)), d.0), apart_cons x ys xs w.1 d.1)

pub apart_swap : (xs ys : List ℕ) → Apart xs ys → Apart ys xs
unfolding Apart
apart_swap [] ys d = apart_nil ys
apart_swap (x ∷ xs) ys d = apart_cons x ys xs d.0 (apart_swap xs ys d.1)

pub apart_push : (x : ℕ) (ys xs : List ℕ) → Away x ys → Apart ys xs → Apart ys (xs ++ x ∷ [])
unfolding Apart Away
apart_push x [] xs w d = tt
apart_push x (y ∷ ys) xs w d = (away_push y x xs (λ e. w.0 (sym e)) d.0, apart_push x ys xs w.1 d.1)

pub apart_remove : (x : ℕ) (ys front back : List ℕ) → Apart ys (front ++ x ∷ back) → Apart ys (front ++ back)
unfolding Apart
apart_remove x [] front back d = tt
apart_remove x (y ∷ ys) front back d = (away_remove y x front back d.0, apart_remove x ys front back d.1)

last_apart : (N P : ℕ → ℕ) (a c : ℕ) (ys xs : List ℕ) → Away c ys → Apart ys xs → Chain N P c xs a → Away (P a) ys
unfolding Apart Away
last_apart N P a c [] xs w d k = tt
last_apart N P a c (y ∷ ys) xs w d k =
    ((λ e. last_away N P y c a xs (λ z. w.0 (sym z)) d.0 k (sym e)), last_apart N P a c ys xs w.1 d.1 k)

prior_apart : (N P : ℕ → ℕ) (a x : ℕ) (ys front back : List ℕ) → Away a ys → Apart ys (front ++ x ∷ back) → Chain N P a (front ++ x ∷ back) a → Away (P x) ys
unfolding Apart Away
prior_apart N P a x [] front back w d k = tt
prior_apart N P a x (y ∷ ys) front back w d k =
    let f = away_parts y x front back d.0 in
    ((λ e. before_away N P y a a x front back (λ z. w.0 (sym z)) f.0 k (sym e)), prior_apart N P a x ys front back w.1 d.1 k)

next_apart : (N P : ℕ → ℕ) (a x : ℕ) (ys front back : List ℕ) → Away a ys → Apart ys (front ++ x ∷ back) → Chain N P a (front ++ x ∷ back) a → Away (N x) ys
unfolding Apart Away
next_apart N P a x [] front back w d k = tt
next_apart N P a x (y ∷ ys) front back w d k =
    let f = away_parts y x front back d.0 in
    ((λ e. after_away N P y a a x front back (λ z. w.0 (sym z)) f.1 k (sym e)), next_apart N P a x ys front back w.1 d.1 k)

other_push : (N P : ℕ → ℕ) (x a b : ℕ) (xs ys : List ℕ) → x ≢ b → a ≢ b → Away x ys → Away a ys → Away b xs → Apart ys xs → Chain N P a xs a → Chain N P b ys b →
    Chain (upd (upd N (P a) x) x a) (upd (upd P x (P a)) a x) b ys b
other_push N P x a b xs ys o ends w e f d k c =
    let last = last_apart N P a a ys xs e d k in
    let far : P a ≢ b = λ z. last_away N P b a a xs (λ y. ends (sym y)) f k (sym z) in
    let c1 = chain_next N P (P a) x b b ys far last c in
    let c2 = chain_next (upd N (P a) x) P x a b b ys o w c1 in
    let c3 = chain_prev (upd (upd N (P a) x) x a) P x (P a) b b ys o w c2 in
    chain_prev (upd (upd N (P a) x) x a) (upd P x (P a)) a x b b ys ends e c3

other_remove : (N P : ℕ → ℕ) (x a b : ℕ) (ys front back : List ℕ) → a ≢ b → Away a ys → Away b (front ++ x ∷ back) → Apart ys (front ++ x ∷ back) → Chain N P a (front ++ x ∷ back) a → Chain N P b ys b →
    Chain (upd N (P x) (N x)) (upd P (N x) (P x)) b ys b
other_remove N P x a b ys front back ends e f d k c =
    let g = away_parts b x front back f in
    let prior : P x ≢ b = λ z. before_away N P b a a x front back (λ y. ends (sym y)) g.0 k (sym z) in
    let after : N x ≢ b = λ z. after_away N P b a a x front back (λ y. ends (sym y)) g.1 k (sym z) in
    chain_prev (upd N (P x) (N x)) P (N x) (P x) b b ys after (next_apart N P a x ys front back e d k)
    (chain_next N P (P x) (N x) b b ys prior (prior_apart N P a x ys front back e d k) c)

-- links in arrays
set_upd : (xs : List ℕ) (p v : ℕ) → p < length xs → ◌≡◌ {A = ℕ → ℕ} (slice_index (slice_set xs p v)) (upd (slice_index xs) p v)
unfolding upd
set_upd xs p v low = fun_ext (λ q. elim (cases_eq q p) [
  | inl e ↦ rw (e, eq-eqb p p refl) (get_or-set_same {A = ℕ} xs p v 0 low)
  | inr o ↦ rw (ne_eqb q p o) (get_or-set_other {A = ℕ} xs p q v 0 o)
])

sets_upd : (xs : List ℕ) (p v q w : ℕ) → p < length xs → q < length xs → ◌≡◌ {A = ℕ → ℕ} (slice_index (slice_set (slice_set xs p v) q w)) (upd (upd (slice_index xs) p v) q w)
sets_upd xs p v q w low low2 =
    set_upd (slice_set xs p v) q w (rw (length-set xs p v) low2) ∙ ap (λ (f : ℕ → ℕ). upd f q w) (set_upd xs p v low)

pub pushed : (next before : List ℕ) (x limit : ℕ) (xs : List ℕ) → slice_index before limit < length next → x < length next → x < length before → limit < length before → x ≢ limit → Away x xs → Away limit xs → Once xs → Chain (slice_index next) (slice_index before) limit xs limit →
    Chain (slice_index (slice_set (slice_set next (slice_index before limit) x) x limit)) (slice_index (slice_set (slice_set before x (slice_index before limit)) limit x)) limit (xs ++ x ∷ []) limit
pushed next before x limit xs l1 l2 l3 l4 o w d s c =
    rw (sets_upd next (slice_index before limit) x x limit l1 l2, sets_upd before x (slice_index before limit) limit x l3 l4)
    (chain_push (slice_index next) (slice_index before) x limit limit xs o o w d d s c)

pub removed : (next before : List ℕ) (x limit : ℕ) (front back : List ℕ) → slice_index before x < length next → slice_index next x < length before → Away limit (front ++ x ∷ back) → Once (front ++ x ∷ back) → Chain (slice_index next) (slice_index before) limit (front ++ x ∷ back) limit →
    Chain (slice_index (slice_set next (slice_index before x) (slice_index next x))) (slice_index (slice_set before (slice_index next x) (slice_index before x))) limit (front ++ back) limit
removed next before x limit front back l1 l2 d s c =
    rw (set_upd next (slice_index before x) (slice_index next x) l1, set_upd before (slice_index next x) (slice_index before x) l2)
    (chain_remove (slice_index next) (slice_index before) limit limit x front back d d s c)

pub other_pushed : (next before : List ℕ) (x a b : ℕ) (xs ys : List ℕ) → slice_index before a < length next → x < length next → x < length before → a < length before → x ≢ b → a ≢ b → Away x ys → Away a ys → Away b xs → Apart ys xs → Chain (slice_index next) (slice_index before) a xs a → Chain (slice_index next) (slice_index before) b ys b →
    Chain (slice_index (next_appended next (slice_index before a) a x)) (slice_index (before_appended before (slice_index before a) a x)) b ys b
other_pushed next before x a b xs ys l1 l2 l3 l4 o ends w e f d k c =
    rw (sets_upd next (slice_index before a) x x a l1 l2, sets_upd before x (slice_index before a) a x l3 l4)
    (other_push (slice_index next) (slice_index before) x a b xs ys o ends w e f d k c)

pub other_removed : (next before : List ℕ) (x a b : ℕ) (ys front back : List ℕ) → slice_index before x < length next → slice_index next x < length before → a ≢ b → Away a ys → Away b (front ++ x ∷ back) → Apart ys (front ++ x ∷ back) → Chain (slice_index next) (slice_index before) a (front ++ x ∷ back) a → Chain (slice_index next) (slice_index before) b ys b →
    Chain (slice_index (next_removed next (slice_index next x) (slice_index before x))) (slice_index (before_removed before (slice_index next x) (slice_index before x))) b ys b
other_removed next before x a b ys front back l1 l2 ends e f d k c =
    rw (set_upd next (slice_index before x) (slice_index next x) l1, set_upd before (slice_index next x) (slice_index before x) l2)
    (other_remove (slice_index next) (slice_index before) x a b ys front back ends e f d k c)

-- links stay within the array
pub within_set : (n : ℕ) (xs : List ℕ) (p v : ℕ) → p < length xs → v < n → ((i : ℕ) → slice_index xs i < n) → (i : ℕ) → slice_index (slice_set xs p v) i < n
within_set n xs p v low few w i = elim (cases_eq i p) [
  | inl e ↦ rw (e, get_or-set_same {A = ℕ} xs p v 0 low) few
  | inr o ↦ rw (get_or-set_other {A = ℕ} xs p i v 0 o) (w i)
]

-- a walk goes over the nodes
pub walk_chain : (N P : ℕ → ℕ) (a b : ℕ) (xs : List ℕ) → Chain N P a xs b → walk N (length xs) (N a) ≡ xs
unfolding Chain walk
walk_chain N P a b [] c = refl
walk_chain N P a b (x ∷ xs) c = rw c.0 (ap (λ (ys : List ℕ). x ∷ ys) (walk_chain N P x b xs c.2))

pub walk-length : (N : ℕ → ℕ) (n x : ℕ) → length (walk N n x) ≡ n
unfolding walk
walk-length N zero x = refl
walk-length N (suc n) x = ap suc (walk-length N n (N x))

-- an end is no node
pub end_away : (limit end : ℕ) (xs : List ℕ) → limit ≤ end → AllBelow limit xs → Away end xs
unfolding AllBelow Away
end_away limit end [] low w = tt
end_away limit end (x ∷ xs) low w = ((λ e. let below = w.0 in absurd (omega arith)), end_away limit end xs low w.1)

pub once_push : (x : ℕ) (xs : List ℕ) → Away x xs → Once xs → Once (xs ++ x ∷ [])
unfolding Once Away
once_push x [] w s = (tt, tt)
once_push x (y ∷ ys) w s = (away_push y x ys (λ e. w.0 (sym e)) s.0, once_push x ys w.1 s.1)

pub below_push : (limit x : ℕ) (xs : List ℕ) → x < limit → AllBelow limit xs → AllBelow limit (xs ++ x ∷ [])
unfolding AllBelow
below_push limit x [] low w = (low, tt)
below_push limit x (y ∷ ys) low w = (w.0, below_push limit x ys low w.1)

pub below_remove : (limit x : ℕ) (front back : List ℕ) → AllBelow limit (front ++ x ∷ back) → AllBelow limit (front ++ back)
unfolding AllBelow
below_remove limit x [] back w = w.1
below_remove limit x (y ∷ ys) back w = (w.0, below_remove limit x ys back w.1)

pub below_at : (limit x : ℕ) (front back : List ℕ) → AllBelow limit (front ++ x ∷ back) → x < limit
unfolding AllBelow
below_at limit x [] back w = w.0
below_at limit x (y ∷ ys) back w = below_at limit x ys back w.1

pub once_remove : (x : ℕ) (front back : List ℕ) → Once (front ++ x ∷ back) → Once (front ++ back)
unfolding Once
once_remove x [] back s = s.1
once_remove x (y ∷ ys) back s = (away_remove y x ys back s.0, once_remove x ys back s.1)

same_at : (v i n : ℕ) → i < n → slice_index (replicate n v) i ≡ v
same_at v i zero h = absurd (omega arith)
same_at v zero (suc n) h = refl
same_at v (suc i) (suc n) h = same_at v i n (omega arith)

pub empty_chain : (limit n : ℕ) → limit < n → Chain (slice_index (replicate n limit)) (slice_index (replicate n limit)) limit [] limit
unfolding Chain
empty_chain limit n low = let e = same_at limit limit n low in (e, e)

-- the list without a frame
omit_none : (p : ℕ) (xs : List ℕ) → Away p xs → omit p xs ≡ xs
unfolding omit Away
omit_none p [] w = refl
omit_none p (x ∷ xs) w = rw (ne_eqb x p (λ e. w.0 (sym e))) (ap (λ (ys : List ℕ). x ∷ ys) (omit_none p xs w.1))

omit-length : (p : ℕ) (xs : List ℕ) → Once xs → length xs ≤ suc (length (omit p xs))
unfolding omit Once
omit-length p [] s = omega arith
omit-length p (x ∷ xs) s = elim (cases_eq x p) [
  | inl e ↦
      let same : omit p xs ≡ xs = omit_none p xs (subst (λ (z : ℕ). Away z xs) e s.0) in
      rw (eq-eqb x p e, same) (omega arith)
  | inr o ↦ rw (ne_eqb x p o) (omega (arith, omit-length p xs s.1))
]

away_omit : (i p : ℕ) (xs : List ℕ) → Away i xs → Away i (omit p xs)
unfolding omit Away
away_omit i p [] w = tt
away_omit i p (x ∷ xs) w = elim (cases_eq x p) [
  | inl e ↦ rw (eq-eqb x p e) (away_omit i p xs w.1)
  | inr o ↦ rw (ne_eqb x p o) (w.0, away_omit i p xs w.1)
]

once_omit : (p : ℕ) (xs : List ℕ) → Once xs → Once (omit p xs)
unfolding omit Once
once_omit p [] s = tt
once_omit p (x ∷ xs) s = elim (cases_eq x p) [
  | inl e ↦ rw (eq-eqb x p e) (once_omit p xs s.1)
  | inr o ↦ rw (ne_eqb x p o) (away_omit x p xs s.0, once_omit p xs s.1)
]

less_omit : (x n : ℕ) → x < suc n → x ≢ n → x < n
less_omit x n low o = omega (arith, o)

below_omit : (n : ℕ) (xs : List ℕ) → AllBelow (suc n) xs → AllBelow n (omit n xs)
unfolding omit AllBelow
below_omit n [] w = tt
below_omit n (x ∷ xs) w = elim (cases_eq x n) [
  | inl e ↦ rw (eq-eqb x n e) (below_omit n xs w.1)
  | inr o ↦ rw (ne_eqb x n o) (less_omit x n w.0 o, below_omit n xs w.1)
]

none_below : (xs : List ℕ) → AllBelow 0 xs → length xs ≤ 0
unfolding AllBelow
none_below [] w = omega arith
none_below (x ∷ xs) w = let low = w.0 in absurd (omega arith)

pub few_nodes : (n : ℕ) (xs : List ℕ) → Once xs → AllBelow n xs → length xs ≤ n
few_nodes zero xs s w = none_below xs w
few_nodes (suc n) xs s w = omega (arith, omit-length n xs s, few_nodes n (omit n xs) (once_omit n xs s) (below_omit n xs w))

-- where a frame stands
pub record Parts (x : ℕ) (xs : List ℕ) : Type 0 where
  pub front : List ℕ
  pub back : List ℕ
  pub parts : xs ≡ front ++ x ∷ back

pub parts_of : (x : ℕ) (xs : List ℕ) → is_in x xs ≡ true → Parts x xs
unfolding is_in
parts_of x [] h = absurd (false≢true h)
parts_of x (y ∷ ys) h = elim (cases_eq y x) [
  | inl e ↦ record { front = []; back = ys; parts = ap (λ (z : ℕ). z ∷ ys) e }
  | inr o ↦
      let p = parts_of x ys (rw (ne_eqb y x o) at h) in
      record { front = y ∷ p.front; back = p.back; parts = ap (λ (zs : List ℕ). y ∷ zs) p.parts }
]

away_at : (i x : ℕ) (front back : List ℕ) → Away i (front ++ x ∷ back) → i ≢ x
unfolding Away
away_at i x [] back w = w.0
away_at i x (y ∷ ys) back w = away_at i x ys back w.1

pub omit_parts : (x : ℕ) (front back : List ℕ) → Once (front ++ x ∷ back) → omit x (front ++ x ∷ back) ≡ front ++ back
unfolding omit Once
omit_parts x [] back s = rw (eq-eqb x x refl) (omit_none x back s.0)
omit_parts x (y ∷ front) back s =
    let far : Away y (front ++ x ∷ back) = s.0 in
    let apart : y ≢ x = away_at y x front back far in
    rw (ne_eqb y x apart) (ap (λ (zs : List ℕ). y ∷ zs) (omit_parts x front back s.1))

pub omit_away : (x : ℕ) (xs : List ℕ) → Away x (omit x xs)
unfolding omit Away
omit_away x [] = tt
omit_away x (y ∷ ys) = elim (cases_eq y x) [
  | inl e ↦ rw (eq-eqb y x e) (omit_away x ys)
  | inr o ↦ rw (ne_eqb y x o) ((λ e. o (sym e)), omit_away x ys)
]

-- so many steps
unfoldable steps : (ℕ → ℕ) → ℕ → ℕ → ℕ
steps f zero x = x
steps f (suc n) x = steps f n (f x)

steps_next : (f : ℕ → ℕ) (n x : ℕ) → steps f n (f x) ≡ f (steps f n x)
unfolding steps
steps_next f zero x = refl
steps_next f (suc n) x = steps_next f n (f x)

walk_last : (f : ℕ → ℕ) (n x : ℕ) → walk f (suc n) x ≡ walk f n x ++ steps f n x ∷ []
unfolding walk steps
walk_last f zero x = refl
walk_last f (suc n) x = ap (λ (zs : List ℕ). x ∷ zs) (walk_last f n (f x))

if_true : (b : Bool) → true ≡ (if b then true else true)
if_true true = refl
if_true false = refl

-- a walk back goes over the nodes too
back_to : (N P : ℕ → ℕ) (a b : ℕ) (xs : List ℕ) → Chain N P a xs b → steps P (length xs) (P b) ≡ a
unfolding Chain steps
back_to N P a b [] c = c.1
back_to N P a b (x ∷ xs) c = steps_next P (length xs) (P b) ∙ ap P (back_to N P x b xs c.2) ∙ c.1

is_in_push : (i x : ℕ) (xs : List ℕ) → is_in i (xs ++ x ∷ []) ≡ (if i == x then true else is_in i xs)
unfolding is_in
is_in_push i x [] = elim (cases_eq i x) [
  | inl e ↦ rw (eq-eqb i x e, eq-eqb x i (sym e)) refl
  | inr o ↦ rw (ne_eqb i x o, ne_eqb x i (λ e. o (sym e))) refl
]
is_in_push i x (y ∷ ys) = elim (cases_eq y i) [
  | inl e ↦ rw (eq-eqb y i e) (if_true (i == x))
  | inr o ↦ rw (ne_eqb y i o) (is_in_push i x ys)
]

is_in_first : (i x : ℕ) (xs : List ℕ) (b : Bool) → b ≡ is_in i xs → (if i == x then true else b) ≡ is_in i (x ∷ xs)
unfolding is_in
is_in_first i x xs b e = elim (cases_eq i x) [
  | inl k ↦ rw (eq-eqb i x k, eq-eqb x i (sym k)) refl
  | inr o ↦ rw (ne_eqb i x o, ne_eqb x i (λ k. o (sym k))) e
]

walked_back : (N P : ℕ → ℕ) (i a b : ℕ) (xs : List ℕ) → Chain N P a xs b → is_in i (walk P (length xs) (P b)) ≡ is_in i xs
unfolding Chain
walked_back N P i a b [] c = unfold walk is_in in refl
walked_back N P i a b (x ∷ xs) c =
    ap (is_in i) (walk_last P (length xs) (P b) ∙ ap (λ (z : ℕ). walk P (length xs) (P b) ++ z ∷ []) (back_to N P x b xs c.2))
    ∙ is_in_push i x (walk P (length xs) (P b))
    ∙ is_in_first i x xs (is_in i (walk P (length xs) (P b))) (walked_back N P i x b xs c.2)

chain_end : (N P : ℕ → ℕ) (a b : ℕ) (front back : List ℕ) → Chain N P a (front ++ back) b → (c : ℕ) × Chain N P c back b
unfolding Chain
chain_end N P a b [] back c = (a, c)
chain_end N P a b (x ∷ front) back c = chain_end N P x b front back c.2

pub walked_last : (N P : ℕ → ℕ) (i a b n : ℕ) (xs : List ℕ) → n ≤ length xs → Chain N P a xs b → is_in i (walk P n (P b)) ≡ is_in i (drop (length xs - n) xs)
walked_last N P i a b n xs low c =
    let k : ℕ = length xs - n in
    let e : Chain N P a (take k xs ++ drop k xs) b = subst (λ (z : List ℕ). Chain N P a z b) (sym (take-append-drop k xs)) c in
    let d = chain_end N P a b (take k xs) (drop k xs) e in
    let size : n ≡ length (drop k xs) = omega (arith, length-drop k xs) in
    ap (λ (m : ℕ). is_in i (walk P m (P b))) size ∙ walked_back N P i d.0 b (drop k xs) d.1

pub seen_next : (P : ℕ → ℕ) (i n m at : ℕ) → m ≡ suc n → (P at ≡ i → ⊥) → is_in i (walk P m (P at)) ≡ is_in i (walk P n (P (P at)))
unfolding walk is_in
seen_next P i n m at e o = rw (e, ne_eqb (P at) i o) refl

pub seen_here : (P : ℕ → ℕ) (i n m at : ℕ) → m ≡ suc n → P at ≡ i → is_in i (walk P m (P at)) ≡ true
unfolding walk is_in
seen_here P i n m at e o = rw (e, eq-eqb (P at) i o) refl

pub seen_none : (P : ℕ → ℕ) (i m at : ℕ) → m ≡ 0 → is_in i (walk P m (P at)) ≡ false
unfolding walk is_in
seen_none P i m at e = rw e refl
