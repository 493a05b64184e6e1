-- A field that was read is the bytes that it took from the front.
use Rattle.std.proofs.Common.{◌≡◌, ℕ, zero, suc, ◌+◌, ◌*◌, ◌^◌, ◌<◌, ◌≤◌, Bool, true, false, List, [], ◌∷◌, ◌++◌, length, get_or, take, drop, Result, Ok, Err, refl, sym, ap, subst, ◌∙◌, append_assoc, arith, inl, inr}
use Rattle.std.specs.Prelude.{codes, nat_lt, not, ◌||◌, ◌==◌, ◌%◌}
use Rattle.std.specs.List.{flat_map}
use Rattle.std.specs.Str.{bytes_eq}
use Rattle.std.proofs.lemmas.Bool.{cases_lt, ltb-false, eqb-true}
use Rattle.std.proofs.lemmas.List.{take-append-drop, length-take, get_or-drop, get_or_past, get_or_append_left}
use Rattle.std.proofs.lemmas.Nat.{le_bytes_2, le_bytes_4, le_bytes_8}
use Rattle.std.proofs.lemmas.Slice.Eq.{bytes_eq-Decides}
use Rattle.byteorder.specs.Endian.{little_bytes, little_number}
use Rattle.byteorder.specs.Numbers.{little_from-lt}
use Rattle.vax_save.specs.declared.SaveError.{SaveError}
use Rattle.vax_save.specs.Kinds.{ends_early}
use Rattle.vax_save.specs.Restoring.{Cursor, ◌>>=◌, bytes_at, input_at, longwords_at, magic_at, number_at, sound_at, steps_at, unless}
use Rattle.vax_save_laws.specs.Saveable.{IsBytes}
use Rattle.vax_save.specs.Saved.{input_field, longword, quadword, word}

IsBytes-front : (xs ys bytes : List ℕ) → bytes ≡ xs ++ ys → IsBytes bytes → IsBytes xs
IsBytes-front xs ys bytes e h i =
    elim (cases_lt i (length xs)) [
      | inl lt ↦ subst (λ n. n < 256) (ap (λ (b : List ℕ). get_or b i 0) e ∙ get_or_append_left xs ys 0 i lt) (h i)
      | inr le ↦ rw (get_or_past xs i 0 le) (omega arith)
    ]

abbrev done : {X : Type 0} → X → Result X SaveError
done x = Ok x

pub ok_is : {X : Type 0} (x y : X) → done x ≡ done y → x ≡ y
ok_is x y e = cc

-- the value of a step that met no fault
pub bind_ok : {X Y : Type 0} (r : Result X SaveError) (f : X → Result Y SaveError) (y : Y) → (r >>= f) ≡ Ok y → (x : X) × (r ≡ Ok x) × (f x ≡ Ok y)
bind_ok (Ok x) f y e = (x, refl, e)
bind_ok (Err d) f y e = absurd cc

pub unless_ok : {X : Type 0} (b : Bool) (place kind : ℕ) (x y : X) → unless b place kind x ≡ Ok y → (b ≡ false) × (x ≡ y)
unless_ok true place kind x y e = absurd cc
unless_ok false place kind x y e = (refl, cc)

pub not_false : (b : Bool) → not b ≡ false → b ≡ true
not_false true e = refl
not_false false e = absurd cc

pub or_false : (a b : Bool) → (a || b) ≡ false → (a ≡ false) × (b ≡ false)
or_false true b e = absurd cc
or_false false b e = (refl, e)

-- what was taken from the front, and what is left
pub record Takes (from : Cursor) (text : List ℕ) (to : Cursor) : Type 0 where
  pub parts : from.rest ≡ text ++ to.rest
  pub rest_fits : IsBytes to.rest

pub takes_none : (c : Cursor) → IsBytes c.rest → Takes c [] c
takes_none c fits = record { parts = refl; rest_fits = fits }

pub takes_then : (a : Cursor) (x : List ℕ) (b : Cursor) (y : List ℕ) (c : Cursor) → Takes a x b → Takes b y c → Takes a (x ++ y) c
takes_then a x b y c p q = record { parts = p.parts ∙ ap (λ (t : List ℕ). x ++ t) q.parts ∙ sym (append_assoc x y c.rest); rest_fits = q.rest_fits }

-- ---- numbers

pub bytes_take : (n : ℕ) (c : Cursor) (x : List ℕ × Cursor) → IsBytes c.rest → bytes_at n c ≡ Ok x → Takes c x.0 x.1 × (length x.0 ≡ n)
unfolding bytes_at
bytes_take n c x fits e =
    let g = unless_ok (nat_lt (length c.rest) n) c.place ends_early (take n c.rest, record { place = c.place + n; rest = drop n c.rest }) x e in
    let long : n ≤ length c.rest = ltb-false _ _ g.0 in
    let len : length (take n c.rest) ≡ n = omega (arith, length-take n c.rest) in
    subst (λ (y : List ℕ × Cursor). Takes c y.0 y.1 × (length y.0 ≡ n)) g.1 (record { parts = sym (take-append-drop n c.rest); rest_fits = λ i. rw get_or-drop (fits (n + i)) }, len)

pub record IsWide (n : ℕ) : Type 0 where
  pub back : (bytes : List ℕ) → length bytes ≡ n → IsBytes bytes → little_bytes n (little_number n bytes) ≡ bytes

one_back : (bytes : List ℕ) → length bytes ≡ 1 → IsBytes bytes → little_bytes 1 (little_number 1 bytes) ≡ bytes
one_back [] len fits = absurd (omega (arith, len))
one_back (b ∷ []) len fits = let small = fits 0 in let same : (b + 256 * 0) % 256 ≡ b = omega (arith, small) in ap (λ (n : ℕ). n ∷ []) same
one_back (b ∷ c ∷ rest) len fits = absurd (omega (arith, len))

pub wide1 : IsWide 1
wide1 = record { back = one_back }

pub wide2 : IsWide 2
wide2 = record { back = λ bytes len fits. le_bytes_2 bytes (little_number 2 bytes) len fits (omega arith) }

pub wide4 : IsWide 4
wide4 = record { back = λ bytes len fits. le_bytes_4 bytes (little_number 4 bytes) len fits (omega arith) }

pub wide8 : IsWide 8
wide8 = record { back = λ bytes len fits. le_bytes_8 bytes (little_number 8 bytes) len fits (omega arith) }

pub number_takes : (n : ℕ) (wide : IsWide n) (c : Cursor) (x : ℕ × Cursor) → IsBytes c.rest → number_at n c ≡ Ok x → Takes c (little_bytes n x.0) x.1 × (x.0 < 256 ^ n)
unfolding number_at
number_takes n wide c x fits e =
    let a = bind_ok (bytes_at n c) (λ field. Ok (little_number n field.0, field.1)) x e in
    let t = bytes_take n c a.0 fits a.1 in
    let bytes_fit = IsBytes-front a.0.0 a.0.1.rest c.rest t.0.parts fits in
    let back : a.0.0 ≡ little_bytes n (little_number n a.0.0) = sym (wide.back a.0.0 t.1 bytes_fit) in
    let taken : Takes c (little_bytes n (little_number n a.0.0)) a.0.1 = subst (λ (text : List ℕ). Takes c text a.0.1) back t.0 in
    subst (λ (y : ℕ × Cursor). Takes c (little_bytes n y.0) y.1 × (y.0 < 256 ^ n)) (ok_is (little_number n a.0.0, a.0.1) x a.2) (taken, little_from-lt 0 n a.0.0 bytes_fit)

-- a number that was checked
pub record Sound (n : ℕ) (faulty : ℕ → Bool) (c : Cursor) (x : ℕ × Cursor) : Type 0 where
  pub takes : Takes c (little_bytes n x.0) x.1
  pub small : x.0 < 256 ^ n
  pub sound : faulty x.0 ≡ false

pub sound_takes : (n : ℕ) (wide : IsWide n) (kind : ℕ) (faulty : ℕ → Bool) (c : Cursor) (x : ℕ × Cursor) → IsBytes c.rest → sound_at n kind faulty c ≡ Ok x → Sound n faulty c x
sound_takes n wide kind faulty c x fits e =
    let a = bind_ok (number_at n c) (λ field. unless (faulty field.0) c.place kind field) x e in
    let t = number_takes n wide c a.0 fits a.1 in
    let g = unless_ok (faulty a.0.0) c.place kind a.0 x a.2 in
    subst (λ (y : ℕ × Cursor). Sound n faulty c y) g.1 (record { takes = t.0; small = t.1; sound = g.0 })

pub longwords_take : (count : ℕ) (c : Cursor) (x : List ℕ × Cursor) → IsBytes c.rest → longwords_at count c ≡ Ok x → Takes c (flat_map longword x.0) x.1
unfolding longwords_at
longwords_take zero c x fits e = subst (λ (y : List ℕ × Cursor). Takes c (flat_map longword y.0) y.1) (ok_is ([], c) x e) (takes_none c fits)
longwords_take (suc count) c x fits e =
    let a = bind_ok _ _ x e in
    let b = bind_ok _ _ x a.2 in
    let t = number_takes 4 wide4 c a.0 fits a.1 in
    let u = longwords_take count a.0.1 b.0 t.0.rest_fits b.1 in
    subst (λ (y : List ℕ × Cursor). Takes c (flat_map longword y.0) y.1) (ok_is (a.0.0 ∷ b.0.0, b.0.1) x b.2) (takes_then c (longword a.0.0) a.0.1 (flat_map longword b.0.0) b.0.1 t.0 u)

-- ---- the head and the input

pub magic_takes : (c x : Cursor) → IsBytes c.rest → magic_at c ≡ Ok x → Takes c (codes "VAXS") x
unfolding magic_at
magic_takes c x fits e =
    let a = bind_ok _ _ x e in
    let t = bytes_take 4 c a.0 fits a.1 in
    let g = unless_ok (not (bytes_eq a.0.0 (codes "VAXS"))) _ _ a.0.1 x a.2 in
    let is : a.0.0 ≡ codes "VAXS" = (bytes_eq-Decides a.0.0 (codes "VAXS")).0 (not_false _ g.0) in
    subst (λ (y : Cursor). Takes c (codes "VAXS") y) g.1 (subst (λ (text : List ℕ). Takes c text a.0.1) is t.0)

pub steps_take : (c : Cursor) (x : ℕ × Cursor) → IsBytes c.rest → steps_at c ≡ Ok x → Takes c (word 1 ++ (word 0 ++ quadword x.0)) x.1
unfolding steps_at
steps_take c x fits e =
    let a = bind_ok _ _ x e in
    let b = bind_ok _ _ x a.2 in
    let s = sound_takes 2 wide2 _ _ c a.0 fits a.1 in
    let one : a.0.0 ≡ 1 = eqb-true a.0.0 1 (not_false (a.0.0 == 1) s.sound) in
    let t = sound_takes 2 wide2 _ _ a.0.1 b.0 s.takes.rest_fits b.1 in
    let none : b.0.0 ≡ 0 = eqb-true b.0.0 0 (not_false (b.0.0 == 0) t.sound) in
    let u = sound_takes 8 wide8 _ _ b.0.1 x t.takes.rest_fits b.2 in
    let first : Takes c (word 1) a.0.1 = subst (λ (n : ℕ). Takes c (word n) a.0.1) one s.takes in
    let second : Takes a.0.1 (word 0) b.0.1 = subst (λ (n : ℕ). Takes a.0.1 (word n) b.0.1) none t.takes in
    takes_then c (word 1) a.0.1 (word 0 ++ quadword x.0) x.1 first (takes_then a.0.1 (word 0) b.0.1 (quadword x.0) x.1 second u.takes)

pub input_takes : (c : Cursor) (x : (ℕ × List ℕ) × Cursor) → IsBytes c.rest → input_at c ≡ Ok x → Takes c (input_field x.0.0 x.0.1) x.1
unfolding input_at
input_takes c x fits e =
    let a = bind_ok _ _ x e in
    let b = bind_ok _ _ x a.2 in
    let d = bind_ok _ _ x b.2 in
    let f = bind_ok _ _ x d.2 in
    let t = number_takes 4 wide4 c a.0 fits a.1 in
    let u = number_takes 4 wide4 a.0.1 b.0 t.0.rest_fits b.1 in
    let g = unless_ok (nat_lt b.0.0 a.0.0) _ _ b.0 d.0 d.1 in
    let u2 : Takes a.0.1 (longword d.0.0) d.0.1 = subst (λ (y : ℕ × Cursor). Takes a.0.1 (longword y.0) y.1) g.1 u.0 in
    let v = bytes_take d.0.0 d.0.1 f.0 u2.rest_fits f.1 in
    let u3 : Takes a.0.1 (longword (length f.0.0)) d.0.1 = subst (λ (n : ℕ). Takes a.0.1 (longword n) d.0.1) (sym v.1) u2 in
    subst (λ (y : (ℕ × List ℕ) × Cursor). Takes c (input_field y.0.0 y.0.1) y.1) (ok_is ((a.0.0, f.0.0), f.0.1) x f.2)
    (takes_then c (longword a.0.0) a.0.1 (longword (length f.0.0) ++ f.0.0) f.0.1 t.0 (takes_then a.0.1 (longword (length f.0.0)) d.0.1 f.0.0 f.0.1 u3 v.0))
