-- Longwords in memory, and numbers of any width.
use Rattle.std.proofs.Common.{◌≡◌, ℕ, suc, zero, ◌+◌, ◌*◌, ◌/◌, ◌%◌, ◌^◌, ◌<◌, ◌⊎◌, Option, Some, None, List, [], ◌∷◌, ◌++◌, length, refl, ap, sym, ◌∙◌, arith, inl, inr}
use Rattle.vax_space.specs.declared.Area.{Area}
use Rattle.vax_space.specs.declared.Violation.{Violation}
use Rattle.vax_flat.specs.Memory.{after, number}
use Rattle.vax_flat.specs.Port.{put}
use Rattle.vax_flat.specs.Operand.{plus}
use Rattle.vax_flat.specs.Returned.{AreThere, behind}
use Rattle.vax_flat.proofs.Longwords.{first_byte, next_byte, longword_stays}
use Rattle.vax_flat_laws.specs.Machines.{AreApart, way}
use Rattle.std.proofs.Math.Nat.{pow-suc}
use Rattle.std.proofs.lemmas.Nat.{pow-add, mod-pow-add}

-- a range is allowed, or violates
pub decided : (v : Option Violation) → (v ≡ None) ⊎ ((w : Violation) × (v ≡ Some w))
decided None = inl refl
decided (Some w) = inr (w, refl)

pub stays_apart : (f : ℕ → ℕ) (a v b : ℕ) → AreApart a b → number (put f a 4 v) b 4 ≡ number f b 4
stays_apart f a v b apart =
    let small = apart.first in
    let fits = apart.second in
    let near = apart.near in
    let far = apart.far in
    let e : plus a (way a b) ≡ b = omega arith in
    ap (λ x. number (put f a 4 v) x 4) (sym e) ∙ longword_stays f a v (way a b) small near (omega arith) ∙ ap (λ x. number f x 4) e

-- what stands behind longwords

pub behind_more : (count addr : ℕ) → behind count (plus addr 4) ≡ plus (behind count addr) 4
behind_more zero addr = refl
behind_more (suc count) addr = behind_more count (plus addr 4)

pub behind_is : (count addr : ℕ) → addr < 2 ^ 32 → behind count addr ≡ plus addr (4 * count)
behind_is zero addr small = omega arith
behind_is (suc count) addr small = let e = behind_is count (plus addr 4) (omega arith) in e ∙ omega arith

pub there_behind : (memory : List Area) (m addr : ℕ) (xs ys : List ℕ) → AreThere memory m addr (xs ++ ys) → AreThere memory m (behind (length xs) addr) ys
there_behind memory m addr [] ys there = there
there_behind memory m addr (x ∷ xs) ys there = there_behind memory m (plus addr 4) xs ys there.2

-- ---- numbers of any width

number_same : (f g : ℕ → ℕ) (a n : ℕ) → a < 2 ^ 32 → ((k : ℕ) → k < n → f (plus a k) ≡ g (plus a k)) → number f a n ≡ number g a n
unfolding number
number_same f g a zero small h = refl
number_same f g a (suc n) small h =
    let here : plus a 0 ≡ a = omega arith in
    let first : f a ≡ g a = ap f (sym here) ∙ (h 0 (omega arith) ∙ ap g here) in
    let rest : number f (after a) n ≡ number g (after a) n =
    number_same f g (after a) n (omega arith) (λ k l. let e : plus (after a) k ≡ plus a (suc k) = omega arith in ap f e ∙ (h (suc k) (omega arith) ∙ ap g (sym e))) in
    (λ i. first i + 256 * rest i)

pub bytes_pow : (width : ℕ) → 256 ^ width ≡ 2 ^ (8 * width)
bytes_pow zero = refl
bytes_pow (suc width) =
    let e : 8 * suc width ≡ 8 * width + 8 = omega arith in
    pow-suc 256 width ∙ (ap (λ x. x * 256) (bytes_pow width) ∙ (sym (pow-add 2 (8 * width) 8) ∙ ap (λ k. 2 ^ k) (sym e)))

bytes_split : (v n : ℕ) → v % 256 ^ suc n ≡ (v / 256 % 256 ^ n) * 256 + v % 256
bytes_split v n =
    let e : 8 * suc n ≡ 8 * n + 8 = omega arith in
    ap (λ m. v % m) (bytes_pow (suc n) ∙ ap (λ k. 2 ^ k) e) ∙ (mod-pow-add v (8 * n) 8 ∙ ap (λ m. (v / 256 % m) * 256 + v % 256) (sym (bytes_pow n)))

pub number_written : (f : ℕ → ℕ) (a n v : ℕ) → a < 2 ^ 32 → n < 2 ^ 32 → number (put f a n v) a n ≡ v % 256 ^ n
unfolding number
number_written f a zero v small few = omega arith
number_written f a (suc n) v small few =
    let rest : number (put f a (suc n) v) (after a) n ≡ number (put f (after a) n (v / 256)) (after a) n =
    number_same (put f a (suc n) v) (put f (after a) n (v / 256)) (after a) n (omega arith) (λ k h. next_byte f a n v (plus (after a) k) (λ e. omega arith)) in
    let both = rest ∙ number_written f (after a) n (v / 256) (omega arith) (omega arith) in
    let split = bytes_split v n in
    (λ i. first_byte f a n v i + 256 * both i) ∙ omega arith
