-- Each step leaves the memories that a pager and a file stand for.
use Rattle.std.proofs.Common.{ℕ, ◌≡◌, ◌≢◌, ◌<◌, Bool, true, false, ◌==◌, List, if◌then◌else◌, refl, ap, sym, ◌∙◌, arith, inl, inr, Option, Some, None}
use Rattle.std.specs.Ordering.{nat_cmp, eq_by_cmp, is_eq}
use Rattle.std.specs.declared.cmp.Ordering.TheVariants.{Less, Equal, Greater}
use Rattle.std.specs.Cmp.{nat_cmp_total, nat_cmp_is}
use Rattle.std.specs.FinMap.{get, get-insert}
use Rattle.std.proofs.lemmas.Bool.{cases_eq, cases_lt, eq-eqb, ne_eqb}
use Rattle.vax_space.specs.declared.Area.{Area}
use Rattle.vax_space.specs.Areas.{block_of}
use Rattle.vax_space.specs.Reference.{page_of}
use Rattle.vax_space.proofs.Blocks.{block_page}
use Rattle.vax_outside.specs.Blocks.{BlockFile, after_write}
use Rattle.vax_pager.specs.Listing.{is_listed}
use Rattle.vax_pager.specs.Paging.{Paging, block_in, home, content, is_clean, Backs}
use Rattle.vax_pager.specs.Steps.{at, flushed, released, taken_back, brought, forgotten, removed}
use Rattle.vax_pager.proofs.Listing.{in_push, in_without}

at_same : {A : Type 0} (p : ℕ) (x : A) (f : ℕ → A) → at p x f p ≡ x
unfolding at
at_same p x f = rw (eq-eqb p p refl) refl

at_other : {A : Type 0} (p q : ℕ) (x : A) (f : ℕ → A) → q ≢ p → at p x f q ≡ f q
unfolding at
at_other p q x f h = rw (ne_eqb q p h) refl

-- blocks

same_key : (n : ℕ) → eq_by_cmp nat_cmp n n ≡ true
same_key n = ap is_eq (sym (nat_cmp_is n n Equal refl))

other_key : (q n : ℕ) → q ≢ n → eq_by_cmp nat_cmp q n ≡ false
other_key q n h = elim (cases_lt q n) [
  | inl low ↦ ap is_eq (sym (nat_cmp_is q n Less low))
  | inr high ↦ let above : n < q = omega arith in ap is_eq (sym (nat_cmp_is q n Greater above))
]

put_same : (file : BlockFile) (n : ℕ) (x : List ℕ) → get (after_write n x file).blocks n ≡ Some x
put_same file n x = get-insert nat_cmp_total file.blocks n x n ∙ rw (same_key n) refl

put_other : (file : BlockFile) (n q : ℕ) (x : List ℕ) → q ≢ n → get (after_write n x file).blocks q ≡ get file.blocks q
put_other file n q x h = get-insert nat_cmp_total file.blocks n x q ∙ rw (other_key q n h) refl

one_page : (areas : List Area) (p q n : ℕ) → block_of areas p ≡ Some n → block_of areas q ≡ Some n → q ≡ p
one_page areas p q n b d =
    let i = block_page areas p (Some n) (sym b) in
    let j = block_page areas q (Some n) (sym d) in
    let k : Some q ≡ Some p = sym j ∙ i in
    cc

block_other : (s : List Area) (file : BlockFile) (p q n : ℕ) (x : List ℕ) (o : Option ℕ) → o ≡ block_of s q → block_of s p ≡ Some n → q ≢ p → block_in (after_write n x file) o ≡ block_in file o
block_other s file p q n x None e b h = refl
block_other s file p q n x (Some m) e b h =
    put_other file n m x (λ k. h (one_page s p q n b (sym e ∙ ap (λ (z : ℕ). Some z) k)))

stands_from : (s t : Paging) (file after : BlockFile) (memory : List Area) → t.areas ≡ s.areas → ((q : ℕ) → content t after q ≡ content s file q) → ((q : ℕ) → is_clean t q ≡ true → home t after q ≡ Some (t.frame q)) → Backs s file memory → Backs t after memory
stands_from s t file after memory e c k st = record {
  areas = rw e st.areas;
  whole = st.whole;
  bytes = λ a h. rw (c (page_of a)) (st.bytes a (rw e at h));
  clean = k;
}

pub home_flushed : (s : Paging) (file : BlockFile) (p n q : ℕ) → block_of s.areas p ≡ Some n → home (flushed p s) (after_write n (s.frame p) file) q ≡ (if q == p then Some (s.frame p) else home s file q)
unfolding home flushed at
home_flushed s file p n q b = elim (cases_eq q p) [
  | inl e ↦ rw (e, eq-eqb p p refl, b) (put_same file n (s.frame p))
  | inr o ↦ rw (ne_eqb q p o, block_other s.areas file p q n (s.frame p) (block_of s.areas q) refl b o) refl
]

clean_flushed : (s : Paging) (file : BlockFile) (p n q : ℕ) → block_of s.areas p ≡ Some n → ((r : ℕ) → is_clean s r ≡ true → home s file r ≡ Some (s.frame r)) → is_clean (flushed p s) q ≡ true → home (flushed p s) (after_write n (s.frame p) file) q ≡ Some (s.frame q)
unfolding is_clean flushed
clean_flushed s file p n q b k h = rw (home_flushed s file p n q b) (elim (cases_eq q p) [
  | inl e ↦ rw (e, eq-eqb p p refl) refl
  | inr o ↦ rw (ne_eqb q p o) (k q (rw (in_without q p s.modified, ne_eqb q p o) at h))
])

content_flushed : (s : Paging) (file : BlockFile) (p n q : ℕ) → is_listed p s.order ≡ true → block_of s.areas p ≡ Some n → content (flushed p s) (after_write n (s.frame p) file) q ≡ content s file q
unfolding content
content_flushed s file p n q r b = rw (home_flushed s file p n q b) (unfold flushed in elim (cases_eq q p) [
  | inl e ↦ rw (e, eq-eqb p p refl, r) refl
  | inr o ↦ rw (ne_eqb q p o) refl
])

pub stands_flushed : (s : Paging) (file : BlockFile) (memory : List Area) (p n : ℕ) → is_listed p s.order ≡ true → block_of s.areas p ≡ Some n → Backs s file memory → Backs (flushed p s) (after_write n (s.frame p) file) memory
stands_flushed s file memory p n r b st = stands_from s (flushed p s) file (after_write n (s.frame p) file) memory (unfold flushed in refl)
    (λ q. content_flushed s file p n q r b)
    (λ q h. unfold flushed in clean_flushed s file p n q b st.clean h)
    st

-- a frame is given up, or kept

home_released : (s : Paging) (file : BlockFile) (p q : ℕ) → home (released p s) file q ≡ home s file q
unfolding home released
home_released s file p q = refl

content_released : (s : Paging) (file : BlockFile) (p q : ℕ) → is_listed p s.order ≡ true → home s file p ≡ Some (s.frame p) → content (released p s) file q ≡ content s file q
unfolding content released home
content_released s file p q r here = elim (cases_eq q p) [
  | inl e ↦ rw (e, in_without p p s.order, eq-eqb p p refl, r) here
  | inr o ↦ rw (in_without q p s.order, ne_eqb q p o) refl
]

clean_released : (s : Paging) (file : BlockFile) (p q : ℕ) → home s file p ≡ Some (s.frame p) → ((r : ℕ) → is_clean s r ≡ true → home s file r ≡ Some (s.frame r)) → is_clean (released p s) q ≡ true → home (released p s) file q ≡ Some ((released p s).frame q)
unfolding is_clean released home
clean_released s file p q here k h = elim (cases_eq q p) [
  | inl e ↦ rw e here
  | inr o ↦ k q (rw (in_without q p s.order, in_push q p s.kept, ne_eqb q p o) at h)
]

pub stands_released : (s : Paging) (file : BlockFile) (memory : List Area) (p : ℕ) → is_listed p s.order ≡ true → is_listed p s.modified ≡ false → Backs s file memory → Backs (released p s) file memory
stands_released s file memory p r m st =
    let here : home s file p ≡ Some (s.frame p) = st.clean p (unfold is_clean in rw (r, m) refl) in
    stands_from s (released p s) file file memory (unfold released in refl)
    (λ q. content_released s file p q r here)
    (λ q h. clean_released s file p q here st.clean h)
    st

home_taken : (s : Paging) (file : BlockFile) (p q : ℕ) → home (taken_back p s) file q ≡ home s file q
unfolding home taken_back
home_taken s file p q = refl

if_same : {A : Type 0} (b : Bool) (x y : A) → y ≡ x → x ≡ (if b then x else y)
if_same true x y e = refl
if_same false x y e = sym e

content_taken : (s : Paging) (file : BlockFile) (p q : ℕ) → home s file p ≡ Some (s.frame p) → content (taken_back p s) file q ≡ content s file q
unfolding content taken_back home
content_taken s file p q here = elim (cases_eq q p) [
  | inl e ↦ rw (e, in_push p p s.order, eq-eqb p p refl) (if_same (is_listed p s.order) (Some (s.frame p)) _ here)
  | inr o ↦ rw (in_push q p s.order, ne_eqb q p o) refl
]

clean_taken : (s : Paging) (file : BlockFile) (p q : ℕ) → home s file p ≡ Some (s.frame p) → ((r : ℕ) → is_clean s r ≡ true → home s file r ≡ Some (s.frame r)) → is_clean (taken_back p s) q ≡ true → home (taken_back p s) file q ≡ Some ((taken_back p s).frame q)
unfolding is_clean taken_back home
clean_taken s file p q here k h = elim (cases_eq q p) [
  | inl e ↦ rw e here
  | inr o ↦ k q (rw (in_without q p s.kept, in_push q p s.order, ne_eqb q p o) at h)
]

pub stands_taken : (s : Paging) (file : BlockFile) (memory : List Area) (p : ℕ) → is_listed p s.kept ≡ true → Backs s file memory → Backs (taken_back p s) file memory
stands_taken s file memory p k st =
    let here : home s file p ≡ Some (s.frame p) = st.clean p (unfold is_clean in rw k (grind arith)) in
    stands_from s (taken_back p s) file file memory (unfold taken_back in refl)
    (λ q. content_taken s file p q here)
    (λ q h. clean_taken s file p q here st.clean h)
    st

pub home_brought : (s : Paging) (file : BlockFile) (p q : ℕ) (x : List ℕ) → home (brought p x s) file q ≡ home s file q
unfolding home brought
home_brought s file p q x = refl

pub stands_brought : (s : Paging) (file : BlockFile) (memory : List Area) (p : ℕ) (x : List ℕ) → is_listed p s.order ≡ false → home s file p ≡ Some x → Backs s file memory → Backs (brought p x s) file memory
stands_brought s file memory p x r here st =
    stands_from s (brought p x s) file file memory (unfold brought in refl)
    (λ q. unfold content in rw (home_brought s file p q x) (unfold brought at in elim (cases_eq q p) [
      | inl e ↦ rw (e, in_push p p s.order, eq-eqb p p refl, r) (sym here)
      | inr o ↦ rw (in_push q p s.order, ne_eqb q p o) refl
    ]))
    (λ q. rw (home_brought s file p q x) (unfold is_clean brought at in elim (cases_eq q p) [
      | inl e ↦ rw (e, eq-eqb p p refl) (λ h. here)
      | inr o ↦ rw (in_push q p s.order, ne_eqb q p o) (λ h. st.clean q (unfold is_clean in h))
    ]))
    st

pub home_forgotten : (s : Paging) (file : BlockFile) (p q : ℕ) → home (forgotten p s) file q ≡ home s file q
unfolding home forgotten
home_forgotten s file p q = refl

pub stands_forgotten : (s : Paging) (file : BlockFile) (memory : List Area) (p : ℕ) → is_listed p s.order ≡ false → Backs s file memory → Backs (forgotten p s) file memory
stands_forgotten s file memory p r st =
    stands_from s (forgotten p s) file file memory (unfold forgotten in refl)
    (λ q. unfold content in rw (home_forgotten s file p q) (unfold forgotten at in elim (cases_eq q p) [
      | inl e ↦ rw (e, r) refl
      | inr o ↦ rw (ne_eqb q p o) refl
    ]))
    (λ q. rw (home_forgotten s file p q) (unfold is_clean forgotten at in elim (cases_eq q p) [
      | inl e ↦ rw (e, r, in_without p p s.kept, eq-eqb p p refl) (λ h. let bad : false ≡ true = h in cc)
      | inr o ↦ rw (in_without q p s.kept, ne_eqb q p o) (λ h. st.clean q (unfold is_clean in h))
    ]))
    st

pub home_removed : (s : Paging) (file : BlockFile) (p q : ℕ) → home (removed p s) file q ≡ home s file q
unfolding home removed
home_removed s file p q = refl

content_removed : (s : Paging) (file : BlockFile) (p q : ℕ) → is_listed p s.order ≡ true → home s file p ≡ Some (s.frame p) → content (removed p s) file q ≡ content s file q
unfolding content removed home at
content_removed s file p q r here = elim (cases_eq q p) [
  | inl e ↦ rw (e, in_without p p s.order, eq-eqb p p refl, r) here
  | inr o ↦ rw (in_without q p s.order, ne_eqb q p o) refl
]

pub stands_removed : (s : Paging) (file : BlockFile) (memory : List Area) (p : ℕ) → is_listed p s.order ≡ true → is_listed p s.modified ≡ false → is_listed p s.kept ≡ false → Backs s file memory → Backs (removed p s) file memory
stands_removed s file memory p r m k st =
    let here : home s file p ≡ Some (s.frame p) = st.clean p (unfold is_clean in rw (r, m) refl) in
    stands_from s (removed p s) file file memory (unfold removed in refl)
    (λ q. content_removed s file p q r here)
    (λ q. rw (home_removed s file p q) (unfold is_clean removed at in elim (cases_eq q p) [
      | inl e ↦ rw (e, in_without p p s.order, eq-eqb p p refl, k) (λ h. let bad : false ≡ true = h in cc)
      | inr o ↦ rw (in_without q p s.order, ne_eqb q p o) (λ h. st.clean q (unfold is_clean in h))
    ]))
    st
