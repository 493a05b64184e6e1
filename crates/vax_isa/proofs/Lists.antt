-- Lists that agree place by place, and what `find` finds.
use Rattle.std.proofs.Common.{◌≡◌, ℕ, zero, suc, ◌+◌, ◌<◌, Bool, true, false, cond, List, [], ◌∷◌, All, IfSome, Option, Some, None, find, map, option_map, refl, sym, ◌∙◌, ap, subst, add-zero, arith, slice_index_or, length, drop, get_or, Bor}
use Rattle.std.proofs.lemmas.List.{drop_more}
use Rattle.std.specs.Str.{str_eq_ignore_ascii_case}
use Rattle.std.proofs.lemmas.List.Elements.{All-nil, All-cons}
use Rattle.vax_isa.specs.Entries.{counted}
use Rattle.vax_isa.specs.Rows.{is_one_of}

-- of a list that f takes to what g makes of the numbers from `start` on
pub at_counted : {X Y : Type 0} (f : X → Y) (g : ℕ → Y) (xs : List X) (start n : ℕ) → map f xs ≡ map g (counted start n) → (k : ℕ) (d : X) → k < n → f (slice_index_or xs k d) ≡ g (start + k)
at_counted f g xs start zero e k d h = absurd (omega arith)
at_counted f g [] start (suc n) e k d h = absurd (cc)
at_counted f g (x ∷ xs) start (suc n) e zero d h = let first : f x ≡ g start = cc in first ∙ ap g (sym (add-zero start))
at_counted f g (x ∷ xs) start (suc n) e (suc k) d h =
    let rest : map f xs ≡ map g (counted (suc start) n) = cc in
    let place : suc start + k ≡ start + suc k = omega arith in
    at_counted f g xs (suc start) n rest k d (omega arith) ∙ ap g place

-- where f and g make the same list, they agree on each element
pub All-agree : {X Y : Type 0} (f g : X → Y) (xs : List X) → map f xs ≡ map g xs → All (λ x. f x ≡ g x) xs
All-agree f g [] e = All-nil (λ x. f x ≡ g x)
All-agree f g (x ∷ xs) e =
    let first : f x ≡ g x = cc in
    let rest : map f xs ≡ map g xs = cc in
    All-cons (λ x. f x ≡ g x) x xs first (All-agree f g xs rest)

pub find_agree : {X : Type 0} (p q : X → Bool) → ((x : X) → p x ≡ q x) → (xs : List X) → find p xs ≡ find q xs
find_agree p q e [] = refl
find_agree p q e (x ∷ xs) = rw (e x) (ap (cond (q x) (Some x)) (find_agree p q e xs))

pub find_map : {X Y Z : Type 0} (f : X → Y) (value : Y → Z) (p : Y → Bool) (xs : List X) → option_map (λ x. value (f x)) (find (λ x. p (f x)) xs) ≡ option_map value (find p (map f xs))
find_map f value p [] = refl
find_map f value p (x ∷ xs) =
    elim (p (f x)) as (λ b. option_map (λ x. value (f x)) (cond b (Some x) (find (λ x. p (f x)) xs)) ≡ option_map value (cond b (Some (f x)) (find p (map f xs))))
    [ true ↦ refl | false ↦ find_map f value p xs ]

-- an element that is found passes the test and is one of the list's
pub IfSome-find : {X : Type 0} (P : X → Type 0) (p : X → Bool) (xs : List X) → All (λ x. p x ≡ true → P x) xs → IfSome (find p xs) P
IfSome-find P p [] h = tt
IfSome-find P p (x ∷ xs) h = found (p x) refl (IfSome-find P p xs (λ k d inside. h (suc k) d (omega arith)))
  where
    found : (b : Bool) → p x ≡ b → IfSome (find p xs) P → IfSome (cond b (Some x) (find p xs)) P
    found true e rest = h 0 x (omega arith) e
    found false e rest = rest

-- what f makes of one value and g of another has what is said of it
pub IfSome-alike : {X Y Z : Type 0} (f : X → Z) (g : Y → Z) (P : Z → Type 0) (x : Option X) (y : Option Y) → option_map f x ≡ option_map g y → IfSome y (λ b. P (g b)) → IfSome x (λ a. P (f a))
IfSome-alike f g P None y e h = tt
IfSome-alike f g P (Some a) None e h = absurd (cc)
IfSome-alike f g P (Some a) (Some b) e h = let same : g b ≡ f a = cc in subst P same h

-- a name and the texts of a list, from one place on

pub text_skipped : (texts : List (Bor (List ℕ))) (i : ℕ) (d : Bor (List ℕ)) (name : List ℕ) → i < length texts → str_eq_ignore_ascii_case (get_or texts i d).now name ≡ false →
    is_one_of (map (λ text. text.now) (drop i texts)) name ≡ is_one_of (map (λ text. text.now) (drop (i + 1) texts)) name
text_skipped texts i d name h e = rw (drop_more texts i d h, e) refl

pub text_met : (texts : List (Bor (List ℕ))) (i : ℕ) (d : Bor (List ℕ)) (name : List ℕ) → i < length texts → str_eq_ignore_ascii_case (get_or texts i d).now name ≡ true →
    is_one_of (map (λ text. text.now) (drop i texts)) name ≡ true
text_met texts i d name h e = rw (drop_more texts i d h, e) refl
