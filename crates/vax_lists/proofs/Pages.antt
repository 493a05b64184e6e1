-- Lists of pages in frames.
use Rattle.std.proofs.Common.{ℕ, zero, suc, ◌≡◌, ◌≢◌, ◌+◌, ◌<◌, true, Some, None, List, [], ◌∷◌, ◌++◌, drop, length, length-append, slice_index, slice_set, get_or-set_same, get_or-set_other, refl, ap, sym, ◌∙◌, subst, arith, inl, inr}
use Rattle.std.proofs.lemmas.Bool.{cases_eq, eq-eqb, ne_eqb, false≢true}
use Rattle.std.specs.Prelude.{◌==◌, if◌then◌else◌, is_some}
use Rattle.vax_lists.specs.declared.lists.Placed.{Placed}
use Rattle.vax_lists.specs.Lines.{EachOnce, appended, frame_in, pages_at, placed, without}
use Rattle.vax_lists.specs.Links.{Away, Once, is_in, omit}
use Rattle.vax_lists.proofs.Links.{omit_parts}

-- what stands in a list with one more, and with one less
pub in_appended : (xs : List Placed) (p q f : ℕ) → frame_in xs p ≡ None → frame_in (xs ++ placed p f ∷ []) q ≡ (if q == p then Some f else frame_in xs q)
unfolding frame_in
in_appended [] p q f new = elim (cases_eq q p) [
  | inl e ↦ rw (e, eq-eqb p p refl) refl
  | inr o ↦ rw (ne_eqb q p o, ne_eqb p q (λ e. o (sym e))) refl
]
in_appended (x ∷ xs) p q f new = elim (cases_eq x.page p) [
  | inl e ↦ let bad : Some x.frame ≡ None = rw (eq-eqb x.page p e) at new in cc
  | inr o ↦
      let rest : frame_in xs p ≡ None = rw (ne_eqb x.page p o) at new in
      elim (cases_eq x.page q) [
        | inl same ↦ let ne : q ≢ p = λ k. o (same ∙ k) in rw (eq-eqb x.page q same, ne_eqb q p ne) refl
        | inr other ↦ rw (ne_eqb x.page q other) (in_appended xs p q f rest)
      ]
]

pub in_without : (p q : ℕ) (xs : List Placed) → frame_in (without p xs) q ≡ (if q == p then None else frame_in xs q)
unfolding frame_in without
in_without p q [] = elim (cases_eq q p) [ inl e ↦ rw (eq-eqb q p e) refl | inr o ↦ rw (ne_eqb q p o) refl ]
in_without p q (x ∷ xs) = elim (cases_eq x.page p) [
  | inl e ↦ rw (eq-eqb x.page p e) (in_without p q xs ∙ (elim (cases_eq q p) [
    | inl same ↦ rw (eq-eqb q p same) refl
    | inr o ↦ rw (ne_eqb q p o, ne_eqb x.page q (λ k. o (sym k ∙ e))) refl
  ]))
  | inr o ↦ rw (ne_eqb x.page p o) (elim (cases_eq x.page q) [
    | inl same ↦ let ne : q ≢ p = λ k. o (same ∙ k) in rw (eq-eqb x.page q same, ne_eqb q p ne) refl
    | inr other ↦ rw (ne_eqb x.page q other) (in_without p q xs)
  ])
]

-- the list without a page that isn't there
without_none : (p : ℕ) (xs : List Placed) → frame_in xs p ≡ None → without p xs ≡ xs
unfolding frame_in without
without_none p [] none = refl
without_none p (x ∷ xs) none = elim (cases_eq x.page p) [
  | inl e ↦ let bad : Some x.frame ≡ None = rw (eq-eqb x.page p e) at none in cc
  | inr o ↦ let rest : frame_in xs p ≡ None = rw (ne_eqb x.page p o) at none in rw (ne_eqb x.page p o) (ap (λ (ys : List Placed). x ∷ ys) (without_none p xs rest))
]

-- pages of nodes
pages-append : (pages xs ys : List ℕ) → pages_at pages (xs ++ ys) ≡ pages_at pages xs ++ pages_at pages ys
unfolding pages_at
pages-append pages [] ys = refl
pages-append pages (x ∷ xs) ys = ap (λ (zs : List Placed). placed (slice_index pages x) x ∷ zs) (pages-append pages xs ys)

pub pages-length : (pages xs : List ℕ) → length (pages_at pages xs) ≡ length xs
unfolding pages_at
pages-length pages [] = refl
pages-length pages (x ∷ xs) = ap suc (pages-length pages xs)

pub pages_set : (pages xs : List ℕ) (f p : ℕ) → Away f xs → pages_at (slice_set pages f p) xs ≡ pages_at pages xs
unfolding pages_at Away
pages_set pages [] f p w = refl
pages_set pages (x ∷ xs) f p w =
    let e : slice_index (slice_set pages f p) x ≡ slice_index pages x = get_or-set_other {A = ℕ} pages f x p 0 (λ k. w.0 (sym k)) in
    rw (e, pages_set pages xs f p w.1) refl

-- where a page stands
pub record Stands (pages nodes : List ℕ) (page frame : ℕ) : Type 0 where
  pub front : List ℕ
  pub back : List ℕ
  pub parts : nodes ≡ front ++ frame ∷ back
  pub here : slice_index pages frame ≡ page
  pub front_none : frame_in (pages_at pages front) page ≡ None
  pub back_none : frame_in (pages_at pages back) page ≡ None

pub stands : (pages nodes : List ℕ) (page frame : ℕ) → EachOnce (pages_at pages nodes) → frame_in (pages_at pages nodes) page ≡ Some frame → Stands pages nodes page frame
unfolding frame_in pages_at EachOnce
stands pages [] page frame once there = let bad : None ≡ Some frame = there in cc
stands pages (x ∷ xs) page frame once there = elim (cases_eq (slice_index pages x) page) [
  | inl e ↦
      let same : Some x ≡ Some frame = rw (eq-eqb (slice_index pages x) page e) at there in
      let k : x ≡ frame = cc in
      record { front = []; back = xs; parts = ap (λ (z : ℕ). z ∷ xs) k; here = ap (slice_index pages) (sym k) ∙ e; front_none = refl; back_none = ap (frame_in (pages_at pages xs)) (sym e) ∙ once.0 }
  | inr o ↦
      let rest : frame_in (pages_at pages xs) page ≡ Some frame = rw (ne_eqb (slice_index pages x) page o) at there in
      let s = stands pages xs page frame once.1 rest in
      record { front = x ∷ s.front; back = s.back; parts = ap (λ (ys : List ℕ). x ∷ ys) s.parts; here = s.here; front_none = rw (ne_eqb (slice_index pages x) page o) s.front_none; back_none = s.back_none }
]

-- a frame in which no page stands isn't a node
pub free_away : (pages nodes : List ℕ) (frame : ℕ) → EachOnce (pages_at pages nodes) → ((other : ℕ) → frame_in (pages_at pages nodes) other ≢ Some frame) → Away frame nodes
unfolding Away EachOnce pages_at
free_away pages [] frame once free = tt
free_away pages (x ∷ xs) frame once free = (
  (λ e. free (slice_index pages x) (unfold frame_in in rw (eq-eqb (slice_index pages x) (slice_index pages x) refl) (ap (λ (z : ℕ). Some z) (sym e)))),
  free_away pages xs frame once.1 (λ other h. free other (unfold frame_in in elim (cases_eq (slice_index pages x) other) [
    | inl same ↦ let bad : None ≡ Some frame = sym once.0 ∙ ap (frame_in (pages_at pages xs)) same ∙ h in cc
    | inr o ↦ rw (ne_eqb (slice_index pages x) other o) h
  ])),
)

pub once_append : (xs : List Placed) (p f : ℕ) → frame_in xs p ≡ None → EachOnce xs → EachOnce (xs ++ placed p f ∷ [])
unfolding EachOnce frame_in
once_append [] p f new once = (refl, tt)
once_append (x ∷ xs) p f new once = elim (cases_eq x.page p) [
  | inl e ↦ let bad : Some x.frame ≡ None = rw (eq-eqb x.page p e) at new in cc
  | inr o ↦
      let rest : frame_in xs p ≡ None = rw (ne_eqb x.page p o) at new in
      (in_appended xs p x.page f rest ∙ rw (ne_eqb x.page p o) once.0, once_append xs p f rest once.1)
]

pub once_without : (p : ℕ) (xs : List Placed) → EachOnce xs → EachOnce (without p xs)
unfolding EachOnce without
once_without p [] once = tt
once_without p (x ∷ xs) once = elim (cases_eq x.page p) [
  | inl e ↦ rw (eq-eqb x.page p e) (once_without p xs once.1)
  | inr o ↦ rw (ne_eqb x.page p o) (in_without p x.page xs ∙ rw (ne_eqb x.page p o) once.0, once_without p xs once.1)
]

without_append : (p : ℕ) (xs ys : List Placed) → without p (xs ++ ys) ≡ without p xs ++ without p ys
unfolding without
without_append p [] ys = refl
without_append p (x ∷ xs) ys = elim (cases_eq x.page p) [
  | inl e ↦ rw (eq-eqb x.page p e) (without_append p xs ys)
  | inr o ↦ rw (ne_eqb x.page p o) (ap (λ (zs : List Placed). x ∷ zs) (without_append p xs ys))
]

without_here : (p f : ℕ) (xs : List Placed) → without p (placed p f ∷ xs) ≡ without p xs
unfolding without
without_here p f xs = rw (eq-eqb p p refl) refl

-- the nodes without that of a page
nodes_without : (pages nodes : List ℕ) (page frame : ℕ) (s : Stands pages nodes page frame) → without page (pages_at pages nodes) ≡ pages_at pages (s.front ++ s.back)
nodes_without pages nodes page frame s =
    let all : pages_at pages nodes ≡ pages_at pages s.front ++ pages_at pages (frame ∷ s.back) = ap (pages_at pages) s.parts ∙ pages-append pages s.front (frame ∷ s.back) in
    let node : pages_at pages (frame ∷ s.back) ≡ placed page frame ∷ pages_at pages s.back = unfold pages_at in ap (λ (z : ℕ). placed z frame ∷ pages_at pages s.back) s.here in
    let gone : without page (pages_at pages (frame ∷ s.back)) ≡ pages_at pages s.back = ap (without page) node ∙ without_here page frame (pages_at pages s.back) ∙ without_none page (pages_at pages s.back) s.back_none in
    ap (without page) all ∙ without_append page (pages_at pages s.front) (pages_at pages (frame ∷ s.back))
    ∙ rw (without_none page (pages_at pages s.front) s.front_none, gone) (sym (pages-append pages s.front s.back))

page_alone : (pages : List ℕ) (page frame : ℕ) → slice_index pages frame ≡ page → pages_at pages (frame ∷ []) ≡ placed page frame ∷ []
unfolding pages_at
page_alone pages page frame here = ap (λ (z : ℕ). placed z frame ∷ []) here

pub pushed_pages : (pages nodes : List ℕ) (page frame : ℕ) → frame < length pages → Away frame nodes → pages_at (slice_set pages frame page) (nodes ++ frame ∷ []) ≡ pages_at pages nodes ++ placed page frame ∷ []
pushed_pages pages nodes page frame low away =
    let here : slice_index (slice_set pages frame page) frame ≡ page = get_or-set_same {A = ℕ} pages frame page 0 low in
    let node : pages_at (slice_set pages frame page) (frame ∷ []) ≡ placed page frame ∷ [] = page_alone (slice_set pages frame page) page frame here in
    pages-append (slice_set pages frame page) nodes (frame ∷ []) ∙ rw (pages_set pages nodes frame page away, node) refl

-- a page that is in no frame of a list
pub away_new : (pages xs : List ℕ) (frame page : ℕ) → slice_index pages frame ≡ page → frame_in (pages_at pages xs) page ≡ None → Away frame xs
unfolding Away pages_at frame_in
away_new pages [] frame page here none = tt
away_new pages (x ∷ xs) frame page here none = elim (cases_eq (slice_index pages x) page) [
  | inl e ↦ let bad : Some x ≡ None = rw (eq-eqb (slice_index pages x) page e) at none in cc
  | inr o ↦
      let rest : frame_in (pages_at pages xs) page ≡ None = rw (ne_eqb (slice_index pages x) page o) at none in
      ((λ e. o (ap (slice_index pages) (sym e) ∙ here)), away_new pages xs frame page here rest)
]

once_nodes : (pages xs : List ℕ) → EachOnce (pages_at pages xs) → Once xs
unfolding Once pages_at EachOnce
once_nodes pages [] once = tt
once_nodes pages (x ∷ xs) once = (away_new pages xs x (slice_index pages x) refl once.0, once_nodes pages xs once.1)

is_in_more : (x i : ℕ) (xs : List ℕ) → is_in i xs ≡ true → is_in i (x ∷ xs) ≡ true
unfolding is_in
is_in_more x i xs h = elim (cases_eq x i) [ inl e ↦ rw (eq-eqb x i e) refl | inr o ↦ rw (ne_eqb x i o) h ]

not_in : (i : ℕ) (xs : List ℕ) → Away i xs → is_in i xs ≡ true → ⊥
unfolding is_in Away
not_in i [] w h = false≢true h
not_in i (x ∷ xs) w h = not_in i xs w.1 (rw (ne_eqb x i (λ e. w.0 (sym e))) at h)

pub is_in_there : (pages xs : List ℕ) (page frame : ℕ) → frame_in (pages_at pages xs) page ≡ Some frame → is_in frame xs ≡ true
unfolding frame_in pages_at is_in
is_in_there pages [] page frame there = cc
is_in_there pages (x ∷ xs) page frame there = elim (cases_eq (slice_index pages x) page) [
  | inl e ↦
      let same : Some x ≡ Some frame = rw (eq-eqb (slice_index pages x) page e) at there in
      let k : x ≡ frame = cc in
      rw (eq-eqb x frame k) refl
  | inr o ↦
      let rest : frame_in (pages_at pages xs) page ≡ Some frame = rw (ne_eqb (slice_index pages x) page o) at there in
      is_in_more x frame xs (is_in_there pages xs page frame rest)
]

-- the list of pages without one, and its frames without the page's
pub record Gone (pages xs : List ℕ) (page frame : ℕ) : Type 0 where
  pub items : pages_at pages (omit frame xs) ≡ without page (pages_at pages xs)
  pub here : slice_index pages frame ≡ page
  pub fewer : length (without page (pages_at pages xs)) + 1 ≡ length (pages_at pages xs)
  pub once : EachOnce (pages_at pages (omit frame xs))

pub gone : (pages xs : List ℕ) (page frame : ℕ) → EachOnce (pages_at pages xs) → frame_in (pages_at pages xs) page ≡ Some frame → Gone pages xs page frame
gone pages xs page frame once there =
    let s = stands pages xs page frame once there in
    let parts : Once (s.front ++ frame ∷ s.back) = subst Once s.parts (once_nodes pages xs once) in
    let left : omit frame xs ≡ s.front ++ s.back = ap (omit frame) s.parts ∙ omit_parts frame s.front s.back parts in
    let items : without page (pages_at pages xs) ≡ pages_at pages (s.front ++ s.back) = nodes_without pages xs page frame s in
    let same : pages_at pages (omit frame xs) ≡ without page (pages_at pages xs) = ap (pages_at pages) left ∙ sym items in
    record {
      items = same;
      here = s.here;
      fewer = omega (arith, ap (length {A = Placed}) items, pages-length pages (s.front ++ s.back), pages-length pages xs, ap (length {A = ℕ}) s.parts, length-append s.front s.back, length-append s.front (frame ∷ s.back));
      once = subst EachOnce (sym same) (once_without page (pages_at pages xs) once);
    }

-- the list with a page in a frame that has it already
pub more_pages : (pages xs : List ℕ) (page frame : ℕ) → slice_index pages frame ≡ page → pages_at pages (xs ++ frame ∷ []) ≡ appended (pages_at pages xs) page frame
more_pages pages xs page frame here =
    pages-append pages xs (frame ∷ []) ∙ ap (λ (z : List Placed). pages_at pages xs ++ z) (page_alone pages page frame here)

-- the last so many
pub pages_drop : (pages xs : List ℕ) (k : ℕ) → pages_at pages (drop k xs) ≡ drop k (pages_at pages xs)
unfolding pages_at
pages_drop pages [] zero = refl
pages_drop pages [] (suc k) = refl
pages_drop pages (x ∷ xs) zero = refl
pages_drop pages (x ∷ xs) (suc k) = pages_drop pages xs k

pub in_some_frame : (pages xs : List ℕ) (page frame : ℕ) → slice_index pages frame ≡ page → ((x : ℕ) → slice_index pages x ≡ page → is_in x xs ≡ true → x ≡ frame) → is_in frame xs ≡ is_some (frame_in (pages_at pages xs) page)
unfolding is_in pages_at frame_in
in_some_frame pages [] page frame here only = refl
in_some_frame pages (x ∷ xs) page frame here only = elim (cases_eq x frame) [
  | inl e ↦ rw (eq-eqb x frame e, eq-eqb (slice_index pages x) page (ap (slice_index pages) e ∙ here)) refl
  | inr o ↦
      let far : slice_index pages x ≢ page = λ k. o (only x k (rw (eq-eqb x x refl) refl)) in
      rw (ne_eqb x frame o, ne_eqb (slice_index pages x) page far) (in_some_frame pages xs page frame here (λ y k i. only y k (is_in_more x y xs i)))
]

only_frame : (pages xs : List ℕ) (page frame : ℕ) → frame_in (pages_at pages xs) page ≡ Some frame → EachOnce (pages_at pages xs) → (x : ℕ) → slice_index pages x ≡ page → is_in x xs ≡ true → x ≡ frame
unfolding frame_in pages_at is_in EachOnce
only_frame pages [] page frame there once x k i = cc
only_frame pages (y ∷ ys) page frame there once x k i = elim (cases_eq (slice_index pages y) page) [
  | inl e ↦
      let same : Some y ≡ Some frame = rw (eq-eqb (slice_index pages y) page e) at there in
      let none : frame_in (pages_at pages ys) page ≡ None = ap (frame_in (pages_at pages ys)) (sym e) ∙ once.0 in
      elim (cases_eq y x) [
        | inl z ↦ cc
        | inr o ↦
            let rest : is_in x ys ≡ true = rw (ne_eqb y x o) at i in
            absurd (not_in x ys (away_new pages ys x page k none) rest)
      ]
  | inr o ↦
      let rest : frame_in (pages_at pages ys) page ≡ Some frame = rw (ne_eqb (slice_index pages y) page o) at there in
      let far : y ≢ x = λ e. o (ap (slice_index pages) e ∙ k) in
      only_frame pages ys page frame rest once.1 x k (rw (ne_eqb y x far) at i)
]

is_in_drop : (x n : ℕ) (xs : List ℕ) → is_in x (drop n xs) ≡ true → is_in x xs ≡ true
is_in_drop x zero xs i = i
is_in_drop x (suc n) [] i = i
is_in_drop x (suc n) (y ∷ ys) i = is_in_more y x ys (is_in_drop x n ys i)

pub among_last : (pages xs : List ℕ) (page frame k : ℕ) → EachOnce (pages_at pages xs) → frame_in (pages_at pages xs) page ≡ Some frame → is_in frame (drop k xs) ≡ is_some (frame_in (drop k (pages_at pages xs)) page)
among_last pages xs page frame k once there =
    in_some_frame pages (drop k xs) page frame (gone pages xs page frame once there).here (λ x e i. only_frame pages xs page frame there once x e (is_in_drop x k xs i))
    ∙ ap (λ (z : List Placed). is_some (frame_in z page)) (pages_drop pages xs k)
