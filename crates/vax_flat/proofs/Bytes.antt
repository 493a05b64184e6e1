-- Numbers and runs of bytes, written and read back.
use Rattle.std.proofs.Common.{◌≡◌, ℕ, suc, zero, ◌+◌, ◌*◌, ◌/◌, ◌%◌, ◌^◌, ◌<◌, Bool, true, false, cond, Some, None, List, [], ◌∷◌, length, eqb, refl, sym, ap, ◌∙◌, arith, inl, inr}
use Rattle.std.proofs.lemmas.Bool.{cases_Bool, eqb-true}
use Rattle.std.proofs.Math.Path.{fun_ext}
use Rattle.std.proofs.Math.Nat.{pow-suc}
use Rattle.vax_space.specs.Reference.{page_of}
use Rattle.vax_flat.specs.Memory.{after, number}
use Rattle.vax_flat.specs.Port.{put, put_run, first_absent, AreBytes}

-- a place is one of so many from an address
unfoldable pub is_within : ℕ → ℕ → ℕ → Bool
is_within addr zero place = false
is_within addr (suc len) place = cond (eqb place addr) true (is_within (after addr) len place)

pub put-outside : (f : ℕ → ℕ) (addr len value place : ℕ) → is_within addr len place ≡ false → put f addr len value place ≡ f place
unfolding put is_within
put-outside f addr zero value place h = refl
put-outside f addr (suc len) value place h =
    elim (cases_Bool (eqb place addr)) [
      | inl same ↦ let bad : true ≡ false = rw same at h in cc
      | inr other ↦ let rest : is_within (after addr) len place ≡ false = rw other at h in rw other (put-outside f (after addr) len (value / 256) place rest)
    ]

pub low_byte : (b r : ℕ) → b < 256 → (b + 256 * r) % 256 ≡ b
low_byte b r h = omega arith

pub high_bytes : (b r : ℕ) → b < 256 → (b + 256 * r) / 256 ≡ r
high_bytes b r h = omega arith

-- what was there is put back
pub put-inside : (f g : ℕ → ℕ) (addr len place : ℕ) → AreBytes g → is_within addr len place ≡ true → put f addr len (number g addr len) place ≡ g place
unfolding put is_within number
put-inside f g addr zero place w h = cc
put-inside f g addr (suc len) place w h =
    elim (cases_Bool (eqb place addr)) [
      | inl same ↦ rw same (low_byte (g addr) (number g (after addr) len) (w.below addr) ∙ ap g (sym (eqb-true place addr same)))
      | inr other ↦
          let rest : is_within (after addr) len place ≡ true = rw other at h in
          rw (other, high_bytes (g addr) (number g (after addr) len) (w.below addr)) (put-inside f g (after addr) len place w rest)
    ]

-- a write is undone by a write of what was read before
pub put_back : (f : ℕ → ℕ) (addr len value : ℕ) → AreBytes f → put (put f addr len value) addr len (number f addr len) ≡ f
put_back f addr len value w = fun_ext λ place.
    elim (cases_Bool (is_within addr len place)) [
      | inl inside ↦ put-inside (put f addr len value) f addr len place w inside
      | inr outside ↦ put-outside (put f addr len value) addr len (number f addr len) place outside ∙ put-outside f addr len value place outside
    ]

pub number-below : (f : ℕ → ℕ) (addr len : ℕ) → AreBytes f → number f addr len < 256 ^ len
unfolding number
number-below f addr zero w = omega arith
number-below f addr (suc len) w = rw pow-suc (omega (arith, w.below addr, number-below f (after addr) len w))

-- a write to resident pages leaves the bytes of absent ones
pub put-absent : (resident : ℕ → Bool) (f : ℕ → ℕ) (addr len value place : ℕ) → first_absent resident addr len ≡ None → resident (page_of place) ≡ false → put f addr len value place ≡ f place
unfolding put first_absent
put-absent resident f addr zero value place there absent = refl
put-absent resident f addr (suc len) value place there absent =
    elim (cases_Bool (resident (page_of addr))) [
      | inl here ↦
          let rest : first_absent resident (after addr) len ≡ None = rw here at there in
          elim (cases_Bool (eqb place addr)) [
            | inl same ↦ let bad : true ≡ false = sym here ∙ (ap (λ x. resident (page_of x)) (sym (eqb-true place addr same)) ∙ absent) in cc
            | inr other ↦ rw other (put-absent resident f (after addr) len (value / 256) place rest absent)
          ]
      | inr gone ↦ let bad : Some (page_of addr) ≡ None = rw gone at there in cc
    ]

pub put_run-absent : (resident : ℕ → Bool) (f : ℕ → ℕ) (addr : ℕ) (bytes : List ℕ) (place : ℕ) → first_absent resident addr (length bytes) ≡ None → resident (page_of place) ≡ false → put_run f addr bytes place ≡ f place
unfolding put_run first_absent
put_run-absent resident f addr [] place there absent = refl
put_run-absent resident f addr (b ∷ bs) place there absent =
    elim (cases_Bool (resident (page_of addr))) [
      | inl here ↦
          let rest : first_absent resident (after addr) (length bs) ≡ None = rw here at there in
          elim (cases_Bool (eqb place addr)) [
            | inl same ↦ let bad : true ≡ false = sym here ∙ (ap (λ x. resident (page_of x)) (sym (eqb-true place addr same)) ∙ absent) in cc
            | inr other ↦ rw other (put_run-absent resident f (after addr) bs place rest absent)
          ]
      | inr gone ↦ let bad : Some (page_of addr) ≡ None = rw gone at there in cc
    ]
