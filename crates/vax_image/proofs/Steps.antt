-- Steps of a reading that met no fault, and what a field took from the front.
use Rattle.std.proofs.Common.{◌≡◌, ℕ, ◌+◌, ◌^◌, ◌<◌, ◌≤◌, Bool, true, false, ltb, List, [], ◌++◌, length, get_or, take, drop, Result, Ok, Err, refl, sym, ap, subst, ◌∙◌, append_assoc, arith, inl, inr}
use Rattle.std.proofs.lemmas.Bool.{cases_lt, ltb-false, le-ltb}
use Rattle.std.proofs.lemmas.List.{take_at, drop_at, take-append-drop, length-append, length-take, get_or-drop, get_or_past, get_or_append_left}
use Rattle.std.proofs.lemmas.Nat.{le_bytes_2, le_bytes_4}
use Rattle.byteorder.specs.Endian.{little_bytes, little_number}
use Rattle.byteorder.specs.Numbers.{length-bytes_low_first, little_from-append, little_from-lt, little_number-reads_back}
use Rattle.vax_image.specs.declared.ImageError.{ImageError}
use Rattle.vax_image.specs.Kinds.{ends_early}
use Rattle.vax_image.specs.Reading.{Cursor, ◌>>=◌, unless, bytes_at, number_at}

abbrev pub IsBytes : List ℕ → Type 0
IsBytes bytes = (i : ℕ) → get_or bytes i 0 < 256

pub IsBytes-drop : (n : ℕ) (bytes : List ℕ) → IsBytes bytes → IsBytes (drop n bytes)
IsBytes-drop n bytes h i = rw get_or-drop (h (n + i))

pub IsBytes-front : (xs ys bytes : List ℕ) → bytes ≡ xs ++ ys → IsBytes bytes → IsBytes xs
IsBytes-front xs ys bytes e h i =
    elim (cases_lt i (length xs)) [
      | inl lt ↦ subst (λ n. n < 256) (ap (λ (b : List ℕ). get_or b i 0) e ∙ get_or_append_left xs ys 0 i lt) (h i)
      | inr le ↦ rw (get_or_past xs i 0 le) (omega arith)
    ]

abbrev done : {X : Type 0} → X → Result X ImageError
done x = Ok x

pub ok_is : {X : Type 0} (x y : X) → done x ≡ done y → x ≡ y
ok_is x y e = cc

-- the value of a step that met no fault
pub bind_ok : {X Y : Type 0} (r : Result X ImageError) (f : X → Result Y ImageError) (y : Y) → (r >>= f) ≡ Ok y → (x : X) × (r ≡ Ok x) × (f x ≡ Ok y)
bind_ok (Ok x) f y e = (x, refl, e)
bind_ok (Err d) f y e = absurd cc

pub unless_ok : {X : Type 0} (b : Bool) (place kind : ℕ) (x y : X) → unless b place kind x ≡ Ok y → (b ≡ false) × (x ≡ y)
unless_ok true place kind x y e = absurd cc
unless_ok false place kind x y e = (refl, cc)

-- what was taken from the front, and what is left
pub record Takes (from : Cursor) (text : List ℕ) (to : Cursor) : Type 0 where
  pub parts : from.rest ≡ text ++ to.rest
  pub rest_fits : IsBytes to.rest

pub Takes-then : (a : Cursor) (x : List ℕ) (b : Cursor) (y : List ℕ) (c : Cursor) → Takes a x b → Takes b y c → Takes a (x ++ y) c
Takes-then a x b y c p q = record { parts = p.parts ∙ ap (λ (t : List ℕ). x ++ t) q.parts ∙ sym (append_assoc x y c.rest); rest_fits = q.rest_fits }

-- reading gives the value, and leaves the rest
abbrev pub Reads : {X : Type 0} → Result (X × Cursor) ImageError → X → List ℕ → Type 0
Reads read x rest = (place : ℕ) × (read ≡ Ok (x, record { place = place; rest = rest }))

-- ---- bytes

pub bytes_take : (n : ℕ) (c : Cursor) (x : List ℕ × Cursor) → IsBytes c.rest → bytes_at n c ≡ Ok x → Takes c x.0 x.1 × (length x.0 ≡ n)
unfolding bytes_at
bytes_take n c x fits e =
    let g = unless_ok (ltb (length c.rest) n) c.place ends_early (take n c.rest, record { place = c.place + n; rest = drop n c.rest }) x e in
    let long : n ≤ length c.rest = ltb-false _ _ g.0 in
    let len : length (take n c.rest) ≡ n = omega (arith, length-take n c.rest) in
    subst (λ (y : List ℕ × Cursor). Takes c y.0 y.1 × (length y.0 ≡ n)) g.1 (record { parts = sym (take-append-drop n c.rest); rest_fits = IsBytes-drop n c.rest fits }, len)

pub bytes_again : (n : ℕ) (text rest : List ℕ) (place : ℕ) → length text ≡ n → bytes_at n (record { place = place; rest = text ++ rest }) ≡ Ok (text, record { place = place + n; rest = rest })
unfolding bytes_at
bytes_again n text rest place len =
    let long : ltb (length (text ++ rest)) n ≡ false = le-ltb _ _ (omega (arith, length-append text rest)) in
    rw (long, take_at text rest n len, drop_at text rest n len) refl

-- ---- numbers

pub record IsWide (n : ℕ) : Type 0 where
  pub back : (bytes : List ℕ) → length bytes ≡ n → IsBytes bytes → little_bytes n (little_number n bytes) ≡ bytes

pub wide2 : IsWide 2
wide2 = record { back = λ bytes len fits. le_bytes_2 bytes (little_number 2 bytes) len fits (omega arith) }

pub wide4 : IsWide 4
wide4 = record { back = λ bytes len fits. le_bytes_4 bytes (little_number 4 bytes) len fits (omega arith) }

pub number_takes : (n : ℕ) (wide : IsWide n) (c : Cursor) (x : ℕ × Cursor) → IsBytes c.rest → number_at n c ≡ Ok x → Takes c (little_bytes n x.0) x.1 × (x.0 < 256 ^ n)
unfolding number_at
number_takes n wide c x fits e =
    let a = bind_ok (bytes_at n c) (λ field. Ok (little_number n field.0, field.1)) x e in
    let t = bytes_take n c a.0 fits a.1 in
    let bytes_fit = IsBytes-front a.0.0 a.0.1.rest c.rest t.0.parts fits in
    let back : a.0.0 ≡ little_bytes n (little_number n a.0.0) = sym (wide.back a.0.0 t.1 bytes_fit) in
    let taken : Takes c (little_bytes n (little_number n a.0.0)) a.0.1 = subst (λ (text : List ℕ). Takes c text a.0.1) back t.0 in
    subst (λ (y : ℕ × Cursor). Takes c (little_bytes n y.0) y.1 × (y.0 < 256 ^ n)) (ok_is (little_number n a.0.0, a.0.1) x a.2) (taken, little_from-lt 0 n a.0.0 bytes_fit)

number_back : (n x : ℕ) → x < 256 ^ n → little_number n (little_bytes n x) ≡ x
number_back n x fits =
    let len = length-bytes_low_first 0 n x in
    sym (little_from-append n (little_bytes n x) [] (omega arith)) ∙ little_number-reads_back n x [] fits

pub number_again : (n x : ℕ) (rest : List ℕ) (place : ℕ) → x < 256 ^ n → number_at n (record { place = place; rest = little_bytes n x ++ rest }) ≡ Ok (x, record { place = place + n; rest = rest })
unfolding number_at
number_again n x rest place fits =
    let e = bytes_again n (little_bytes n x) rest place (length-bytes_low_first 0 n x) in
    ap (λ (r : Result (List ℕ × Cursor) ImageError). r >>= λ field. Ok (little_number n field.0, field.1)) e ∙ ap (λ (k : ℕ). Ok (k, record { place = place + n; rest = rest })) (number_back n x fits)

-- ---- numbers that are checked

abbrev pub checked : {X : Type 0} → ℕ → (ℕ → Bool) → ℕ → (ℕ → X) → Cursor → Result (X × Cursor) ImageError
checked n faulty kind view c = number_at n c >>= λ field. unless (faulty field.0) c.place kind (view field.0, field.1)

-- a number that was taken, and what it stands for
pub record Found {X : Type 0} (n : ℕ) (faulty : ℕ → Bool) (view : ℕ → X) (c : Cursor) (x : X × Cursor) : Type 0 where
  pub value : ℕ
  pub takes : Takes c (little_bytes n value) x.1
  pub sound : faulty value ≡ false
  pub is : view value ≡ x.0
  pub small : value < 256 ^ n

pub checked_takes : {X : Type 0} (n : ℕ) (wide : IsWide n) (faulty : ℕ → Bool) (kind : ℕ) (view : ℕ → X) (c : Cursor) (x : X × Cursor) → IsBytes c.rest → checked n faulty kind view c ≡ Ok x → Found n faulty view c x
checked_takes {X = X} n wide faulty kind view c x fits e =
    let a = bind_ok (number_at n c) (λ field. unless (faulty field.0) c.place kind (view field.0, field.1)) x e in
    let t = number_takes n wide c a.0 fits a.1 in
    let g = unless_ok (faulty a.0.0) c.place kind (view a.0.0, a.0.1) x a.2 in
    subst (λ (y : X × Cursor). Found n faulty view c y) g.1 (record { value = a.0.0; takes = t.0; sound = g.0; is = refl; small = t.1 })

pub checked_again : {X : Type 0} (n : ℕ) (faulty : ℕ → Bool) (kind : ℕ) (view : ℕ → X) (v : ℕ) (rest : List ℕ) (place : ℕ) → v < 256 ^ n → faulty v ≡ false
    → checked n faulty kind view (record { place = place; rest = little_bytes n v ++ rest }) ≡ Ok (view v, record { place = place + n; rest = rest })
checked_again n faulty kind view v rest place small sound = rw (number_again n v rest place small, sound) refl
