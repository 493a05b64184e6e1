-- The area that has an address.
use Rattle.std.proofs.Common.{◌≡◌, ℕ, suc, ◌+◌, ◌-◌, ◌*◌, ◌<◌, ◌≤◌, Bool, true, false, cond, List, [], ◌∷◌, ◌++◌, length, Option, Some, None, refl, sym, ap, subst, ◌∙◌, arith, ◌⊎◌, inl, inr}
use Rattle.std.specs.Prelude.{not, ◌&&◌, ◌||◌, nat_le, nat_lt, slice_index}
use Rattle.std.specs.List.{cons_option, filter, filter_map, position_or_len, zip}
use Rattle.std.specs.Str.{bytes_eq}
use Rattle.std.proofs.lemmas.Bool.Decides.{nat_tests}
use Rattle.std.proofs.lemmas.Slice.Eq.{bytes_eq-Decides}
use Rattle.vax_flat.specs.Memory.{byte_at}
use Rattle.vax_image.specs.declared.Base.{Base}
use Rattle.vax_image.specs.Image.{AscendFrom, is_in}
use Rattle.vax_link.specs.Layout.{is_listed}
use Rattle.vax_link.specs.Names.{Name}
use Rattle.vax_space.specs.Areas.{end_of, has_page}
use Rattle.vax_space.specs.Reference.{page_of}
use Rattle.vax_space.specs.declared.Area.{Area}

-- ---- elements of lists

abbrev pub Has : {X : Type 0} → List X → X → Type 0
Has [] x = ⊥
Has (y ∷ ys) x = (y ≡ x) ⊎ Has ys x

pub has_left : {X : Type 0} (xs ys : List X) (x : X) → Has xs x → Has (xs ++ ys) x
has_left [] ys x h = absurd h
has_left (z ∷ xs) ys x (inl e) = inl e
has_left (z ∷ xs) ys x (inr h) = inr (has_left xs ys x h)

pub has_right : {X : Type 0} (xs ys : List X) (x : X) → Has ys x → Has (xs ++ ys) x
has_right [] ys x h = h
has_right (z ∷ xs) ys x h = inr (has_right xs ys x h)

filter_later : {X : Type 0} (b : Bool) (y x : X) (ys : List X) → Has ys x → Has (cond b (y ∷ ys) ys) x
filter_later true y x ys h = inr h
filter_later false y x ys h = h

pub has_filter : {X : Type 0} (test : X → Bool) (xs : List X) (x : X) → test x ≡ true → Has xs x → Has (filter test xs) x
has_filter test [] x pass h = absurd h
has_filter {X} test (y ∷ ys) x pass (inl e) = subst (λ (b : Bool). Has (cond b (y ∷ filter test ys) (filter test ys)) x) (sym (ap test e ∙ pass)) (inl e)
has_filter {X} test (y ∷ ys) x pass (inr h) = filter_later (test y) y x (filter test ys) (has_filter test ys x pass h)

option_later : {Y : Type 0} (o : Option Y) (y : Y) (ys : List Y) → Has ys y → Has (cons_option o ys) y
option_later None y ys h = h
option_later (Some z) y ys h = inr h

pub has_map : {X Y : Type 0} (f : X → Option Y) (xs : List X) (x : X) (y : Y) → f x ≡ Some y → Has xs x → Has (filter_map f xs) y
has_map f [] x y is h = absurd h
has_map f (z ∷ zs) x y is (inl e) = subst (λ (o : Option _). Has (cons_option o (filter_map f zs)) y) (sym (ap f e ∙ is)) (inl refl)
has_map f (z ∷ zs) x y is (inr h) = option_later (f z) y (filter_map f zs) (has_map f zs x y is h)

-- ---- the page of a name

place_step : (b : Bool) (n name : Name) (ns : List Name) (q place : ℕ) (qs : List ℕ) → bytes_eq n name ≡ b → (b ≡ false → Has (zip ns qs) (name, slice_index qs place)) → Has ((n, q) ∷ zip ns qs) (name, slice_index (q ∷ qs) (cond (not b) (1 + place) 0))
place_step true n name ns q place qs is next = inl (ap (λ (x : Name). (x, q)) ((bytes_eq-Decides n name).0 is))
place_step false n name ns q place qs is next =
    let e : slice_index qs place ≡ slice_index (q ∷ qs) (1 + place) = ap (λ (i : ℕ). slice_index (q ∷ qs) i) (let s : suc place ≡ 1 + place = omega arith in s) in
    inr (subst (λ (p : ℕ). Has (zip ns qs) (name, p)) e (next refl))

listed_later : (b l : Bool) → (b || l) ≡ true → b ≡ false → l ≡ true
listed_later true l h e = absurd cc
listed_later false l h e = h

pub has_place : (names : List Name) (pages : List ℕ) (name : Name) → is_listed names name ≡ true → length pages ≡ length names → Has (zip names pages) (name, slice_index pages (position_or_len (λ n. bytes_eq n name) names))
has_place [] pages name listed same = absurd cc
has_place (n ∷ ns) [] name listed same = absurd (omega arith)
has_place (n ∷ ns) (q ∷ qs) name listed same =
    place_step (bytes_eq n name) n name ns q (position_or_len (λ n. bytes_eq n name) ns) qs refl (λ e. has_place ns qs name (listed_later (bytes_eq n name) (is_listed ns name) listed e) (omega arith))

-- ---- the area of an address

pub page_here : (area : Area) (page : ℕ) → area.first ≤ page → page < end_of area → has_page area page ≡ true
unfolding has_page
page_here area page low high = grind (arith, nat_tests)

page_elsewhere : (area : Area) (page : ℕ) → end_of area ≤ page → has_page area page ≡ false
unfolding has_page
page_elsewhere area page past = past_all (nat_le area.first page) (nat_lt page (end_of area)) (grind (arith, nat_tests))
  where
    past_all : (a b : Bool) → b ≡ false → (a && b) ≡ false
    past_all true b e = e
    past_all false b e = refl

ascend_above : (region : Base) (low : ℕ) (areas : List Area) (area : Area) → AscendFrom region low areas → Has areas area → low ≤ area.first
ascend_above region low [] area ascend h = absurd h
ascend_above region low (x ∷ xs) area ascend (inl e) = let behind = ascend.0.behind in omega (arith, behind, ap (λ (a : Area). a.first) e)
ascend_above region low (x ∷ xs) area ascend (inr h) =
    let behind = ascend.0.behind in
    let next = ascend_above region (end_of x) xs area ascend.1 h in
    omega (arith, behind, next)

pub record IsFound (areas : List Area) (area : Area) (address : ℕ) : Type 0 where
  pub there : is_in areas address ≡ true
  pub held : byte_at areas address ≡ slice_index area.bytes (address - 512 * area.first)

found_first : (x : Area) (xs : List Area) (address : ℕ) → has_page x (page_of address) ≡ true → IsFound (x ∷ xs) x address
unfolding byte_at
found_first x xs address here = record {
  there = ap (λ b. b || is_in xs address) here;
  held = ap (λ b. cond b (slice_index x.bytes (address - 512 * x.first)) (byte_at xs address)) here;
}

either : (a b : Bool) → b ≡ true → (a || b) ≡ true
either true b h = refl
either false b h = h

found_later : (x area : Area) (xs : List Area) (address : ℕ) → has_page x (page_of address) ≡ false → IsFound xs area address → IsFound (x ∷ xs) area address
unfolding byte_at
found_later x area xs address other h = record {
  there = either (has_page x (page_of address)) (is_in xs address) h.there;
  held = ap (λ b. cond b (slice_index x.bytes (address - 512 * x.first)) (byte_at xs address)) other ∙ h.held;
}

-- an area has the address, wherever it stands among others
pub among : (areas : List Area) (area : Area) (address : ℕ) → Has areas area → has_page area (page_of address) ≡ true → is_in areas address ≡ true
among [] area address h here = absurd h
among (x ∷ xs) area address (inl e) here = first_true (has_page x (page_of address)) (is_in xs address) (ap (λ (a : Area). has_page a (page_of address)) e ∙ here)
  where
    first_true : (a b : Bool) → a ≡ true → (a || b) ≡ true
    first_true true b e = refl
    first_true false b e = absurd cc
among (x ∷ xs) area address (inr h) here = either (has_page x (page_of address)) (is_in xs address) (among xs area address h here)

-- where areas ascend, the byte at an address is that of whichever has its page
pub found : (region : Base) (low : ℕ) (areas : List Area) (area : Area) (address : ℕ) → AscendFrom region low areas → Has areas area → area.first ≤ page_of address → page_of address < end_of area → IsFound areas area address
found region low [] area address ascend h behind before = absurd h
found region low (x ∷ xs) area address ascend (inl e) behind before =
    subst (λ (a : Area). IsFound (x ∷ xs) a address) e
    (found_first x xs address (page_here x (page_of address) (omega (arith, ap (λ (a : Area). a.first) e)) (omega (arith, ap (λ (a : Area). a.first) e, ap (λ (a : Area). a.pages) e))))
found region low (x ∷ xs) area address ascend (inr h) behind before =
    let above = ascend_above region (end_of x) xs area ascend.1 h in
    found_later x area xs address (page_elsewhere x (page_of address) (omega (arith, above))) (found region (end_of x) xs area address ascend.1 h behind before)
