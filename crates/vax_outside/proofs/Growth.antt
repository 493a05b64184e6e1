-- Laws of what the output channels grew by.
use Rattle.std.proofs.Common.{◌≡◌, ◌<◌, ℕ, ◌+◌, List, [], ◌∷◌, ◌++◌, Option, None, Some, Result, Ok, Err, OnErr, length, take, drop, get_or, refl, sym, ap, ◌∙◌, subst, append_assoc, append-nil, take-append-drop, zero-add, arith, ◌≤◌}
use Rattle.std.specs.Option.{option_map}
use Rattle.std.specs.List.{flat_map, range_with_len}
use Rattle.std.proofs.lemmas.List.FromFn.{length-range_with_len, get_or-range_with_len}
use Rattle.std.proofs.lemmas.List.{map-append, take_more, take_all}
use Rattle.std.proofs.lemmas.Grind.{flat_map-append}
use Rattle.vax_outside.specs.declared.traits.Chan.{Chan}
use Rattle.vax_outside.specs.declared.traits.Chan.TheVariants.{Out, Report, Record, State}
use Rattle.vax_outside.specs.Channels.{Channels, SaveStep, Byte, nothing, unsaved, only, append, Grew, GrewByPrefix}

front_empty : {A : Type 0} (xs ys : List A) → xs ++ ys ≡ [] → xs ≡ []
front_empty [] ys e = refl
front_empty (x ∷ xs) ys e = absurd (cc e)

-- the first part of nothing saved
pub front_unsaved : (a b : List SaveStep) → a ++ b ≡ unsaved → a ≡ unsaved
front_unsaved a b e = front_empty a b e

-- two parts that saved nothing
pub both_unsaved : (a b : List SaveStep) → a ≡ unsaved → b ≡ unsaved → a ++ b ≡ unsaved
both_unsaved a b p q = ap (λ (steps : List SaveStep). steps ++ b) p ∙ q

pub append-nothing : (a : Channels) → append a nothing ≡ a
append-nothing a i = record { out = append-nil a.out i; report = append-nil a.report i; recorded = append-nil a.recorded i; saved = append-nil a.saved i }

pub channels_assoc : (a b c : Channels) → append (append a b) c ≡ append a (append b c)
channels_assoc a b c i = record {
  out = append_assoc a.out b.out c.out i;
  report = append_assoc a.report b.report c.report i;
  recorded = append_assoc a.recorded b.recorded c.recorded i;
  saved = append_assoc a.saved b.saved c.saved i;
}

pub append-only : (chan : Chan) (xs ys : List ℕ) → append (only chan xs) (only chan ys) ≡ only chan (xs ++ ys)
append-only Out xs ys = refl
append-only Report xs ys = refl
append-only Record xs ys = refl
append-only State xs ys = let e = sym (map-append Byte xs ys) in λ i. record nothing { saved = e i }

pub only-nil : (chan : Chan) → only chan [] ≡ nothing
only-nil Out = refl
only-nil Report = refl
only-nil Record = refl
only-nil State = refl

pub grew_nothing : (a : Option Channels) → Grew a a nothing
grew_nothing None = refl
grew_nothing (Some s) = ap Some (sym (append-nothing s))

-- what grew twice grew by both
pub grew_more : (a b c : Option Channels) (x y : Channels) → Grew a b x → Grew b c y → Grew a c (append x y)
grew_more None b c x y p q = q ∙ ap (option_map (λ s. append s y)) p
grew_more (Some s) b c x y p q = q ∙ ap (option_map (λ s. append s y)) p ∙ ap Some (channels_assoc s x y)

-- some growth, and a prefix of the next part
pub prefix_in : (a b c : Option Channels) (x y z whole : Channels) → append x (append y z) ≡ whole → Grew a b x → GrewByPrefix b c y → GrewByPrefix a c whole
prefix_in a b c x y z whole e p q = record {
  prefix = append x q.prefix;
  rest = append q.rest z;
  splits = channels_assoc x q.prefix (append q.rest z) ∙ ap (append x) (sym (channels_assoc q.prefix q.rest z) ∙ ap (λ g. append g z) q.splits) ∙ e;
  grew = grew_more a b c x q.prefix p q.grew;
}

-- two writes to one channel
pub grew_only : (a b c : Option Channels) (chan : Chan) (xs ys : List ℕ) → Grew a b (only chan xs) → Grew b c (only chan ys) → Grew a c (only chan (xs ++ ys))
grew_only a b c chan xs ys p q =
    let P : Channels → Type 0 = λ g. Grew a c g in
    subst P (append-only chan xs ys) (grew_more a b c (only chan xs) (only chan ys) p q)

-- one channel's bytes, and a prefix of its next part
pub prefix_within : (a b c : Option Channels) (chan : Chan) (xs ys zs whole : List ℕ) → xs ++ (ys ++ zs) ≡ whole → Grew a b (only chan xs) → GrewByPrefix b c (only chan ys) → GrewByPrefix a c (only chan whole)
prefix_within a b c chan xs ys zs whole e p q =
    let joins : append (only chan xs) (append (only chan ys) (only chan zs)) ≡ only chan whole =
    ap (append (only chan xs)) (append-only chan ys zs) ∙ append-only chan xs (ys ++ zs) ∙ ap (only chan) e in
    prefix_in a b c (only chan xs) (only chan ys) (only chan zs) (only chan whole) joins p q

-- a prefix of the first part
pub prefix_first : (a b : Option Channels) (chan : Chan) (xs ys : List ℕ) → GrewByPrefix a b (only chan xs) → GrewByPrefix a b (only chan (xs ++ ys))
prefix_first a b chan xs ys q = record {
  prefix = q.prefix;
  rest = append q.rest (only chan ys);
  splits = sym (channels_assoc q.prefix q.rest (only chan ys)) ∙ ap (λ g. append g (only chan ys)) q.splits ∙ append-only chan xs ys;
  grew = q.grew;
}

-- some growth, and a prefix of the last part
pub prefix_last : (a b c : Option Channels) (chan : Chan) (xs ys : List ℕ) → Grew a b (only chan xs) → GrewByPrefix b c (only chan ys) → GrewByPrefix a c (only chan (xs ++ ys))
prefix_last a b c chan xs ys p q =
    prefix_within a b c chan xs ys [] (xs ++ ys) (ap (λ t. xs ++ t) (append-nil ys)) p q

-- a failure after some growth leaves a prefix
pub prefix_stays : (a b c : Option Channels) (chan : Chan) (front rest bytes : List ℕ) → front ++ rest ≡ bytes → Grew a b (only chan front) → c ≡ b → GrewByPrefix a c (only chan bytes)
prefix_stays a b c chan front rest bytes e p q = record {
  prefix = only chan front;
  rest = only chan rest;
  splits = append-only chan front rest ∙ ap (only chan) e;
  grew = q ∙ p;
}

-- a write of n more bytes makes the prefix longer
pub prefix_grows : (a b c : Option Channels) (chan : Chan) (front rest bytes left : List ℕ) (n : ℕ) → front ++ rest ≡ bytes → Grew a b (only chan front) → Grew b c (only chan (take n rest)) → left ≡ drop n rest → (more : List ℕ) × (more ++ left ≡ bytes) × Grew a c (only chan more)
prefix_grows a b c chan front rest bytes left n e p q l = (
  front ++ take n rest,
  ap (λ xs. (front ++ take n rest) ++ xs) l ∙ append_assoc front (take n rest) (drop n rest) ∙ ap (λ xs. front ++ xs) (take-append-drop n rest) ∙ e,
  grew_only a b c chan front (take n rest) p q,
)

-- the same at one channel, in the forms that tactics apply
pub out_grew : (a b c : Option Channels) (xs ys : List ℕ) → Grew a b (only Out xs) → Grew b c (only Out ys) → Grew a c (only Out (xs ++ ys))
out_grew a b c xs ys p q = grew_only a b c Out xs ys p q

pub out_first : (a b : Option Channels) (xs ys : List ℕ) → GrewByPrefix a b (only Out xs) → GrewByPrefix a b (only Out (xs ++ ys))
out_first a b xs ys p = prefix_first a b Out xs ys p

pub out_last : (a b c : Option Channels) (xs ys : List ℕ) → Grew a b (only Out xs) → GrewByPrefix b c (only Out ys) → GrewByPrefix a c (only Out (xs ++ ys))
out_last a b c xs ys p q = prefix_last a b c Out xs ys p q

pub report_grew : (a b c : Option Channels) (xs ys : List ℕ) → Grew a b (only Report xs) → Grew b c (only Report ys) → Grew a c (only Report (xs ++ ys))
report_grew a b c xs ys p q = grew_only a b c Report xs ys p q

pub report_first : (a b : Option Channels) (xs ys : List ℕ) → GrewByPrefix a b (only Report xs) → GrewByPrefix a b (only Report (xs ++ ys))
report_first a b xs ys p = prefix_first a b Report xs ys p

pub report_last : (a b c : Option Channels) (xs ys : List ℕ) → Grew a b (only Report xs) → GrewByPrefix b c (only Report ys) → GrewByPrefix a c (only Report (xs ++ ys))
report_last a b c xs ys p q = prefix_last a b c Report xs ys p q

pub record_grew : (a b c : Option Channels) (xs ys : List ℕ) → Grew a b (only Record xs) → Grew b c (only Record ys) → Grew a c (only Record (xs ++ ys))
record_grew a b c xs ys p q = grew_only a b c Record xs ys p q

pub record_first : (a b : Option Channels) (xs ys : List ℕ) → GrewByPrefix a b (only Record xs) → GrewByPrefix a b (only Record (xs ++ ys))
record_first a b xs ys p = prefix_first a b Record xs ys p

pub record_last : (a b c : Option Channels) (xs ys : List ℕ) → Grew a b (only Record xs) → GrewByPrefix b c (only Record ys) → GrewByPrefix a c (only Record (xs ++ ys))
record_last a b c xs ys p q = prefix_last a b c Record xs ys p q

-- the texts of a list so far, and the next one
pub flat_map-more : {X : Type 0} (f : X → List ℕ) (xs : List X) (i : ℕ) (d : X) → i < length xs →
    flat_map f (take i xs) ++ f (get_or xs i d) ≡ flat_map f (take (i + 1) xs)
flat_map-more f xs i d l = sym (
    ap (flat_map f) (take_more xs i d l)
    ∙ flat_map-append f (take i xs) (get_or xs i d ∷ [])
    ∙ ap (λ t. flat_map f (take i xs) ++ t) (append-nil (f (get_or xs i d))))

-- those so far, the next and those after it are all
pub flat_map-split : {X : Type 0} (f : X → List ℕ) (xs : List X) (i : ℕ) (d : X) → i < length xs →
    flat_map f (take i xs) ++ (f (get_or xs i d) ++ flat_map f (drop (i + 1) xs)) ≡ flat_map f xs
flat_map-split f xs i d l =
    sym (append_assoc (flat_map f (take i xs)) (f (get_or xs i d)) (flat_map f (drop (i + 1) xs)))
    ∙ ap (λ t. t ++ flat_map f (drop (i + 1) xs)) (flat_map-more f xs i d l)
    ∙ sym (flat_map-append f (take (i + 1) xs) (drop (i + 1) xs))
    ∙ ap (flat_map f) (take-append-drop (i + 1) xs)

-- in a loop over a list the next text was written
pub grew_next : {X : Type 0} (a b c : Option Channels) (chan : Chan) (f : X → List ℕ) (xs : List X) (i : ℕ) (d : X) → i < length xs →
    Grew a b (only chan (flat_map f (take i xs))) → Grew b c (only chan (f (get_or xs i d))) → Grew a c (only chan (flat_map f (take (i + 1) xs)))
grew_next a b c chan f xs i d l p q =
    let P : List ℕ → Type 0 = λ t. Grew a c (only chan t) in
    subst P (flat_map-more f xs i d l) (grew_only a b c chan (flat_map f (take i xs)) (f (get_or xs i d)) p q)

-- in a loop over a list a prefix of the next text was written
pub prefix_next : {X : Type 0} (a b c : Option Channels) (chan : Chan) (f : X → List ℕ) (xs : List X) (i : ℕ) (d : X) → i < length xs →
    Grew a b (only chan (flat_map f (take i xs))) → GrewByPrefix b c (only chan (f (get_or xs i d))) → GrewByPrefix a c (only chan (flat_map f xs))
prefix_next a b c chan f xs i d l p q =
    prefix_within a b c chan (flat_map f (take i xs)) (f (get_or xs i d)) (flat_map f (drop (i + 1) xs)) (flat_map f xs) (flat_map-split f xs i d l) p q

-- the same in a loop over the numbers below n
number : (n k : ℕ) → k < n → get_or (range_with_len 0 n) k 0 ≡ k
number n k l = get_or-range_with_len 0 n k 0 l ∙ zero-add k

pub grew_next_number : (a b c : Option Channels) (chan : Chan) (f : ℕ → List ℕ) (n k : ℕ) → k < n →
    Grew a b (only chan (flat_map f (take k (range_with_len 0 n)))) → Grew b c (only chan (f k)) → Grew a c (only chan (flat_map f (take (k + 1) (range_with_len 0 n))))
grew_next_number a b c chan f n k l p q =
    let P : ℕ → Type 0 = λ m. Grew b c (only chan (f m)) in
    grew_next a b c chan f (range_with_len 0 n) k 0 (omega (arith, length-range_with_len 0 n)) p (subst P (sym (number n k l)) q)

pub prefix_next_number : (a b c : Option Channels) (chan : Chan) (f : ℕ → List ℕ) (n k : ℕ) → k < n →
    Grew a b (only chan (flat_map f (take k (range_with_len 0 n)))) → GrewByPrefix b c (only chan (f k)) → GrewByPrefix a c (only chan (flat_map f (range_with_len 0 n)))
prefix_next_number a b c chan f n k l p q =
    let P : ℕ → Type 0 = λ m. GrewByPrefix b c (only chan (f m)) in
    prefix_next a b c chan f (range_with_len 0 n) k 0 (omega (arith, length-range_with_len 0 n)) p (subst P (sym (number n k l)) q)

-- all of the numbers below n
pub grew_numbers : (a b : Option Channels) (chan : Chan) (f : ℕ → List ℕ) (n k : ℕ) → n ≤ k →
    Grew a b (only chan (flat_map f (take k (range_with_len 0 n)))) → Grew a b (only chan (flat_map f (range_with_len 0 n)))
grew_numbers a b chan f n k l p =
    let P : List ℕ → Type 0 = λ xs. Grew a b (only chan (flat_map f xs)) in
    subst P (take_all k (range_with_len 0 n) (omega (arith, length-range_with_len 0 n))) p

pub on_err : {T E P : Type 0} (r : Result T E) → P → OnErr r P
on_err (Ok x) p = tt
on_err (Err e) p = p
