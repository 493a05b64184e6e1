-- Longwords that are written are read back, and others stay.
use Rattle.std.proofs.Common.{◌≡◌, ◌≢◌, ℕ, suc, ◌+◌, ◌*◌, ◌/◌, ◌%◌, ◌^◌, ◌<◌, ◌≤◌, false, Option, Some, None, List, [], ◌∷◌, length, refl, ap, sym, subst, ◌∙◌, arith}
use Rattle.std.proofs.lemmas.Bool.{eq-eqb, ne_eqb}
use Rattle.std.proofs.Math.Path.{fun_ext}
use Rattle.vax_space.specs.declared.Access.TheVariants.{Read, Write}
use Rattle.vax_space.specs.declared.Area.{Area}
use Rattle.vax_space.specs.declared.Violation.{Violation}
use Rattle.vax_space.specs.Reference.{violation}
use Rattle.vax_space.proofs.References.{writable_is_readable}
use Rattle.vax_flat.specs.Memory.{after, byte_at, number, written, IsWhole}
use Rattle.vax_flat.specs.Port.{put}
use Rattle.vax_flat.specs.Accesses.{Leaf}
use Rattle.vax_flat.specs.Outcome.{Outcome, Ends, unless_violated}
use Rattle.vax_flat.specs.Operand.{plus}
use Rattle.vax_flat.specs.Returned.{AreThere}
use Rattle.vax_flat.proofs.Alike.{violation-alike}
use Rattle.vax_flat.proofs.Bytes.{is_within, put-outside}
use Rattle.vax_flat.proofs.Memory.{byte_at-written, layout-written}

-- a range that was written was allowed
pub allowed : (v : Option Violation) (outcome : Outcome Leaf) (x : Leaf) (end : List Area) → unless_violated v outcome ≡ Ends x end → (v ≡ None) × (outcome ≡ Ends x end)
allowed (Some v) outcome x end e = cc
allowed None outcome x end e = (refl, e)

-- a longword that was written is read back

pub first_byte : (f : ℕ → ℕ) (a len v : ℕ) → put f a (suc len) v a ≡ v % 256
unfolding put
first_byte f a len v = rw (eq-eqb a a refl) refl

pub next_byte : (f : ℕ → ℕ) (a len v place : ℕ) → place ≢ a → put f a (suc len) v place ≡ put f (after a) len (v / 256) place
unfolding put
next_byte f a len v place apart = rw (ne_eqb place a apart) refl

pub read_back : (f : ℕ → ℕ) (a v : ℕ) → a < 2 ^ 32 → v < 2 ^ 32 → number (put f a 4 v) a 4 ≡ v
unfolding number
read_back f a v small fits =
    let b = after a in
    let d = after b in
    let e = after d in
    let first : put f a 4 v a ≡ v % 256 = first_byte f a 3 v in
    let second : put f a 4 v b ≡ v / 256 % 256 = next_byte f a 3 v b (λ h. omega arith) ∙ first_byte f b 2 (v / 256) in
    let third : put f a 4 v d ≡ v / 256 / 256 % 256 =
    next_byte f a 3 v d (λ h. omega arith) ∙ next_byte f b 2 (v / 256) d (λ h. omega arith) ∙ first_byte f d 1 (v / 256 / 256) in
    let fourth : put f a 4 v e ≡ v / 256 / 256 / 256 % 256 =
    next_byte f a 3 v e (λ h. omega arith) ∙ next_byte f b 2 (v / 256) e (λ h. omega arith) ∙ next_byte f d 1 (v / 256 / 256) e (λ h. omega arith) ∙ first_byte f e 0 (v / 256 / 256 / 256) in
    rw (first, second, third, fourth) (omega arith)

-- and one elsewhere stays

outside : (a d : ℕ) → a < 2 ^ 32 → 4 ≤ d → d < 2 ^ 32 → is_within a 4 (plus a d) ≡ false
unfolding is_within
outside a d small far near =
    rw (ne_eqb (plus a d) a (λ h. omega arith), ne_eqb (plus a d) (after a) (λ h. omega arith), ne_eqb (plus a d) (after (after a)) (λ h. omega arith), ne_eqb (plus a d) (after (after (after a))) (λ h. omega arith)) refl

byte_stays : (f : ℕ → ℕ) (a v d : ℕ) → a < 2 ^ 32 → 4 ≤ d → d < 2 ^ 32 → put f a 4 v (plus a d) ≡ f (plus a d)
byte_stays f a v d small far near = put-outside f a 4 v (plus a d) (outside a d small far near)

pub longword_stays : (f : ℕ → ℕ) (a v d : ℕ) → a < 2 ^ 32 → 4 ≤ d → d + 4 ≤ 2 ^ 32 → number (put f a 4 v) (plus a d) 4 ≡ number f (plus a d) 4
unfolding number
longword_stays f a v d small far near =
    let one : after (plus a d) ≡ plus a (d + 1) = omega arith in
    let two : after (after (plus a d)) ≡ plus a (d + 2) = omega arith in
    let three : after (after (after (plus a d))) ≡ plus a (d + 3) = omega arith in
    let g : ℕ → ℕ = put f a 4 v in
    let at0 : g (plus a d) ≡ f (plus a d) = byte_stays f a v d small far (omega arith) in
    let at1 : g (after (plus a d)) ≡ f (after (plus a d)) = ap g one ∙ byte_stays f a v (d + 1) small (omega arith) (omega arith) ∙ ap f (sym one) in
    let at2 : g (after (after (plus a d))) ≡ f (after (after (plus a d))) = ap g two ∙ byte_stays f a v (d + 2) small (omega arith) (omega arith) ∙ ap f (sym two) in
    let at3 : g (after (after (after (plus a d)))) ≡ f (after (after (after (plus a d)))) = ap g three ∙ byte_stays f a v (d + 3) small (omega arith) (omega arith) ∙ ap f (sym three) in
    rw (at0, at1, at2, at3) refl

-- what stands in memory, and what is pushed below it

module _ (memory : List Area) (m a x : ℕ) (whole : IsWhole memory) (small : a < 2 ^ 32) (fine : violation memory a 4 m Write ≡ None) where
  pub bytes_are : byte_at (written memory a 4 x) ≡ put (byte_at memory) a 4 x
  bytes_are = fun_ext λ place. byte_at-written memory a 4 x place m Write whole fine

  readable : (addr : ℕ) → violation memory addr 4 m Read ≡ None → violation (written memory a 4 x) addr 4 m Read ≡ None
  readable addr h = violation-alike (written memory a 4 x) memory addr 4 m Read (layout-written memory a 4 x) ∙ h

  there_stays : (ys : List ℕ) (d : ℕ) → 4 ≤ d → d + 4 * length ys ≤ 2 ^ 32 → AreThere memory m (plus a d) ys → AreThere (written memory a 4 x) m (plus a d) ys
  there_stays [] d far near t = tt
  there_stays (y ∷ ys) d far near t =
      let e : plus a (d + 4) ≡ plus (plus a d) 4 = omega arith in
      let rest : AreThere memory m (plus a (d + 4)) ys = subst (λ b. AreThere memory m b ys) (sym e) t.2 in
      let same : number (byte_at (written memory a 4 x)) (plus a d) 4 ≡ y =
      ap (λ f. number f (plus a d) 4) bytes_are ∙ longword_stays (byte_at memory) a x d small far (omega arith) ∙ t.1 in
      (readable (plus a d) t.0, same, subst (λ b. AreThere (written memory a 4 x) m b ys) e (there_stays ys (d + 4) (omega arith) (omega arith) rest))

  pub there_more : (ys : List ℕ) → x < 2 ^ 32 → 4 + 4 * length ys ≤ 2 ^ 32 → AreThere memory m (plus a 4) ys → AreThere (written memory a 4 x) m a (x ∷ ys)
  there_more ys fits near t =
      (readable a (writable_is_readable memory a 4 m fine), ap (λ f. number f a 4) bytes_are ∙ read_back (byte_at memory) a x small fits, there_stays ys 4 (omega arith) near t)
