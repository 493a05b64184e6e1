-- Lists that are the same, item by item, and pages that are added one by one.
use Rattle.std.proofs.Common.{◌≡◌, ◌<◌, ◌≤◌, ℕ, zero, suc, ◌+◌, ◌-◌, if◌then◌else◌, List, [], ◌∷◌, ◌++◌, length, get_or, take, sym, ap, ◌∙◌, arith}
use Rattle.std.proofs.lemmas.List.{take_all, take_more}
use Rattle.vax_space.specs.Reference.{page_of}
use Rattle.vax_flat.specs.Memory.{after}
use Rattle.vax_vectors.specs.declared.vector.Page.{Page}
use Rattle.vax_vectors.specs.Truth.{is_among, with_pages}

one_page : (p q : Page) → p.number ≡ q.number → p.prot ≡ q.prot → p ≡ q
one_page p q number prot = ap (λ (n : ℕ). record { number = n; prot = p.prot }) number ∙ ap (λ (n : ℕ). record { number = q.number; prot = n }) prot

-- one page more is the same
pub more_same : (xs ys : List Page) (k : ℕ) (p q : Page) → k < length xs → length xs ≡ length ys → p ≡ get_or xs k p → q ≡ get_or ys k q → p.number ≡ q.number → p.prot ≡ q.prot
    → take k xs ≡ take k ys → take (k + 1) xs ≡ take (k + 1) ys
more_same xs ys k p q below size is_p is_q number prot same =
    let below_q : k < length ys = omega (arith, below, size) in
    take_more xs k p below
    ∙ (ap (λ (x : Page). take k xs ++ x ∷ []) (sym is_p ∙ (one_page p q number prot ∙ is_q))
    ∙ (ap (λ (zs : List Page). zs ++ get_or ys k q ∷ []) same ∙ sym (take_more ys k q below_q)))

pub all_same : (xs ys : List Page) (k : ℕ) → length xs ≤ k → length xs ≡ length ys → take k xs ≡ take k ys → xs ≡ ys
all_same xs ys k past size same =
    let past_y : length ys ≤ k = omega (arith, past, size) in
    sym (take_all k xs past) ∙ (same ∙ take_all k ys past_y)

-- one place of a range more
pub pages_step : (pages : List ℕ) (at len k : ℕ) → k < len → with_pages pages at (len - k) ≡ with_pages (if is_among pages (page_of at) then pages else pages ++ page_of at ∷ []) (after at) (len - (k + 1))
unfolding with_pages
pages_step pages at len k below =
    let n : len - k ≡ suc (len - (k + 1)) = omega (arith, below) in
    ap (with_pages pages at) n

pub pages_end : (pages : List ℕ) (at len k : ℕ) → len ≤ k → with_pages pages at (len - k) ≡ pages
unfolding with_pages
pages_end pages at len k past =
    let n : len - k ≡ zero = omega (arith, past) in
    ap (with_pages pages at) n
