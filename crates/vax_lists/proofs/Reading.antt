-- What stands at the nodes of a circle is read.
use Rattle.std.proofs.Common.{ℕ, suc, ◌≡◌, ◌+◌, ◌-◌, ◌<◌, ◌≤◌, List, [], ◌∷◌, ◌++◌, append_assoc, length, map, take, slice_index, slice_set, refl, ap, sym, ◌∙◌, subst, arith}
use Rattle.std.proofs.lemmas.List.{append-nil, take_more_set}
use Rattle.vax_lists.specs.Lines.{PageLists, page_lists, pages_at, pages_of}
use Rattle.vax_lists.specs.Links.{AllBelow, AreLinked, FrameLists, lists_of, walk}

walk_first : (f : ℕ → ℕ) (m n x : ℕ) → m ≡ suc n → walk f m x ≡ x ∷ walk f n (f x)
unfolding walk
walk_first f m n x e = ap (λ (k : ℕ). walk f k x) e

walk_none : (f : ℕ → ℕ) (m x : ℕ) → m ≡ 0 → walk f m x ≡ []
unfolding walk
walk_none f m x e = ap (λ (k : ℕ). walk f k x) e

below_parts : (limit x : ℕ) (xs : List ℕ) → AllBelow limit (x ∷ xs) → (x < limit) × AllBelow limit xs
unfolding AllBelow
below_parts limit x xs h = h

-- nothing is read yet
pub read_none : (next table cells : List ℕ) (limit n m : ℕ) (t : FrameLists) → lists_of next limit n m ≡ t → take 0 cells ++ map (slice_index table) (walk (slice_index next) (n - 0) (slice_index next limit)) ≡ map (slice_index table) t.first
read_none next table cells limit n m t is =
    let all : n - 0 ≡ n = omega arith in
    ap (λ (k : ℕ). map (slice_index table) (walk (slice_index next) k (slice_index next limit))) all ∙ ap (λ (z : FrameLists). map (slice_index table) z.first) is

pub below_all : (next before : List ℕ) (limit n m : ℕ) → AreLinked next before limit n m → AllBelow limit (walk (slice_index next) (n - 0) (slice_index next limit))
below_all next before limit n m h =
    let all : n ≡ n - 0 = omega arith in
    subst (λ (k : ℕ). AllBelow limit (walk (slice_index next) k (slice_index next limit))) all h.below

-- the next node
pub below_next : (next : List ℕ) (limit count i at x : ℕ) → i < count → x ≡ slice_index next at → AllBelow limit (walk (slice_index next) (count - i) (slice_index next at)) → (x < limit) × AllBelow limit (walk (slice_index next) (count - (i + 1)) (slice_index next x))
below_next next limit count i at x more is h =
    let e = walk_first (slice_index next) (count - i) (count - (i + 1)) (slice_index next at) (omega arith) in
    let k = below_parts limit (slice_index next at) (walk (slice_index next) (count - (i + 1)) (slice_index next (slice_index next at))) (subst (AllBelow limit) e h) in
    rw is k

pub read_more : (next table cells : List ℕ) (count i at x y : ℕ) (all : List ℕ) → i < count → i < length cells → x ≡ slice_index next at → y ≡ slice_index table x
    → take i cells ++ map (slice_index table) (walk (slice_index next) (count - i) (slice_index next at)) ≡ all
    → take (i + 1) (slice_set cells i y) ++ map (slice_index table) (walk (slice_index next) (count - (i + 1)) (slice_index next x)) ≡ all
read_more next table cells count i at x y all more room is was before =
    let left = map (slice_index table) (walk (slice_index next) (count - (i + 1)) (slice_index next x)) in
    let e : walk (slice_index next) (count - i) (slice_index next at) ≡ x ∷ walk (slice_index next) (count - (i + 1)) (slice_index next x) =
    rw is (walk_first (slice_index next) (count - i) (count - (i + 1)) (slice_index next at) (omega arith)) in
    ap (λ (l : List ℕ). l ++ left) (take_more_set cells i y room) ∙ append_assoc (take i cells) (y ∷ []) left ∙ ap (λ (v : ℕ). take i cells ++ (v ∷ left)) was
    ∙ ap (λ (l : List ℕ). take i cells ++ map (slice_index table) l) (sym e) ∙ before

-- all of it is read
pub read_all : (next table cells : List ℕ) (count i at : ℕ) (all : List ℕ) → count ≤ i → i ≤ count → take i cells ++ map (slice_index table) (walk (slice_index next) (count - i) (slice_index next at)) ≡ all → take count cells ≡ all
read_all next table cells count i at all done past h =
    let none : walk (slice_index next) (count - i) (slice_index next at) ≡ [] = walk_none (slice_index next) (count - i) (slice_index next at) (omega arith) in
    let same : i ≡ count = omega arith in
    ap (λ (k : ℕ). take k cells) (sym same) ∙ sym (append-nil (take i cells)) ∙ ap (λ (l : List ℕ). take i cells ++ map (slice_index table) l) (sym none) ∙ h

-- the pages at the frames
pages_there : (pages nodes : List ℕ) → map (slice_index pages) nodes ≡ pages_of (pages_at pages nodes)
unfolding pages_at pages_of
pages_there pages [] = refl
pages_there pages (x ∷ xs) = ap (λ (l : List ℕ). slice_index pages x ∷ l) (pages_there pages xs)

pub residents_there : (held modified : FrameLists) (pages : List ℕ) (v : PageLists) → page_lists held modified pages ≡ v → map (slice_index pages) held.first ≡ pages_of v.order
residents_there held modified pages v is = pages_there pages held.first ∙ ap (λ (z : PageLists). pages_of z.order) is
