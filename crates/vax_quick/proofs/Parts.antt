-- Parts of a range of which the number is known.
use Rattle.std.proofs.Common.{◌≡◌, ℕ, suc, zero, ◌+◌, ◌-◌, ◌*◌, ◌/◌, ◌%◌, ◌^◌, ◌<◌, ◌≤◌, Bool, true, Option, Some, None, Ok, List, refl, sym, ap, subst, ◌∙◌, arith}
use Rattle.std.proofs.lemmas.Option.{none-some}
use Rattle.std.proofs.Math.Nat.{div-div-eq-div-mul, pow-suc, add-mul-mod_self_left, mod-eq_of_lt}
use Rattle.vax_space.specs.declared.Access.{Access}
use Rattle.vax_space.specs.declared.Access.TheVariants.{Read}
use Rattle.vax_space.specs.declared.Area.{Area}
use Rattle.vax_space.specs.declared.Violation.{Violation}
use Rattle.vax_space.specs.Reference.{page_of, byte_after, violation, may_access}
use Rattle.vax_space.proofs.References.{none_is_accessible}
use Rattle.vax_flat.specs.Memory.{after, number}
use Rattle.vax_flat.specs.Outcome.{or_else}
use Rattle.vax_flat.specs.Port.{View, AreBytes, first_absent, stop_of, loaded, loaded_by}
use Rattle.vax_flat.proofs.Bytes.{number-below, high_bytes}
use Rattle.vax_undo.proofs.Ranges.{absent_parts}

-- so many bytes of a number, from a place on
abbrev pub seen_at : ℕ → ℕ → ℕ → ℕ
seen_at w at n = w / 256 ^ at % 256 ^ n

pub neither : (v : Option Violation) (absent : Option ℕ) (x w : ℕ) → loaded_by (stop_of v absent) x ≡ Ok w → (v ≡ None) × ((absent ≡ None) × (x ≡ w))
neither (Some v) absent x w h = absurd (let z : ⊥ = cc in z)
neither None (Some page) x w h = absurd (let z : ⊥ = cc in z)
neither None None x w h = (refl, (refl, cc))

both_none : (a b : Option ℕ) → or_else a b ≡ None → (a ≡ None) × (b ≡ None)
both_none (Some a) b h = absurd (none-some a (sym h))
both_none None b h = (refl, h)

-- a part of a range may be used where the range may
part_allowed : (areas : List Area) (addr len at n m : ℕ) (access : Access) → addr < 2 ^ 32 → at + n ≤ len → violation areas addr len m access ≡ None → violation areas (byte_after addr at) n m access ≡ None
part_allowed areas addr len at n m access small within h =
    let all = (none_is_accessible areas addr len m access small).0 h in
    (none_is_accessible areas (byte_after addr at) n m access (omega arith)).1 (record {
      bytes = λ k below.
          let e : byte_after addr (at + k) ≡ byte_after (byte_after addr at) k = omega arith in
          subst (λ a. may_access areas (page_of a) m access ≡ true) e (all.bytes (at + k) (omega arith));
    })

part_resident : (resident : ℕ → Bool) (addr len at n : ℕ) → addr < 2 ^ 32 → at + n ≤ len → first_absent resident addr len ≡ None → first_absent resident (byte_after addr at) n ≡ None
part_resident resident addr len at n small within h =
    let e : len ≡ at + (n + (len - (at + n))) = omega arith in
    let first : (first_absent resident addr at ≡ None) × (first_absent resident (byte_after addr at) (n + (len - (at + n))) ≡ None) = both_none _ _ (sym (absent_parts resident addr at (n + (len - (at + n))) small) ∙ (ap (first_absent resident addr) (sym e) ∙ h)) in
    (both_none _ _ (sym (absent_parts resident (byte_after addr at) n (len - (at + n)) (omega arith)) ∙ first.1)).0

-- a number without its lowest bytes
number_rest : (f : ℕ → ℕ) (addr at n : ℕ) → AreBytes f → addr < 2 ^ 32 → number f addr (at + n) / 256 ^ at ≡ number f (byte_after addr at) n
unfolding number
number_rest f addr zero n w small =
    let e : byte_after addr 0 ≡ addr = omega arith in
    let z : 0 + n ≡ n = omega arith in
    rw (e, z) (omega arith)
number_rest f addr (suc at) n w small =
    let z : suc at + n ≡ suc (at + n) = omega arith in
    let p : 256 ^ suc at ≡ 256 * 256 ^ at = pow-suc 256 at ∙ omega arith in
    let e : byte_after (after addr) at ≡ byte_after addr (suc at) = omega arith in
    rw (z, p, ← div-div-eq-div-mul, high_bytes (f addr) (number f (after addr) (at + n)) (w.below addr)) (number_rest f (after addr) at n w (omega arith) ∙ ap (λ a. number f a n) e)

-- a number in two parts
number_parts : (f : ℕ → ℕ) (addr a b : ℕ) → addr < 2 ^ 32 → number f addr (a + b) ≡ number f addr a + 256 ^ a * number f (byte_after addr a) b
unfolding number
number_parts f addr zero b small =
    let e : byte_after addr 0 ≡ addr = omega arith in
    let z : 0 + b ≡ b = omega arith in
    rw (e, z) (omega arith)
number_parts f addr (suc a) b small =
    let z : suc a + b ≡ suc (a + b) = omega arith in
    let e : byte_after (after addr) a ≡ byte_after addr (suc a) = omega arith in
    rw (z, number_parts f (after addr) a b (omega arith), e, pow-suc 256 a) (omega arith)

number_low : (f : ℕ → ℕ) (addr n rest : ℕ) → AreBytes f → addr < 2 ^ 32 → number f addr (n + rest) % 256 ^ n ≡ number f addr n
number_low f addr n rest w small =
    rw (number_parts f addr n rest small, add-mul-mod_self_left) (mod-eq_of_lt (number-below f addr n w))

pub number_seen : (f : ℕ → ℕ) (addr len at n : ℕ) → AreBytes f → addr < 2 ^ 32 → at + n ≤ len → number f (byte_after addr at) n ≡ seen_at (number f addr len) at n
number_seen f addr len at n w small within =
    let e : len ≡ at + (n + (len - (at + n))) = omega arith in
    sym (ap (λ k. seen_at (number f addr k) at n) e
    ∙ (ap (λ x. x % 256 ^ n) (number_rest f addr at (n + (len - (at + n))) w small)
    ∙ number_low f (byte_after addr at) n (len - (at + n)) w (omega arith)))

-- A shorter read within a read that was answered is answered with its part of the number.
pub part_seen : (view : View) (addr len at n m w : ℕ) → AreBytes view.byte → addr < 2 ^ 32 → at + n ≤ len → loaded view addr len m ≡ Ok w → loaded view (byte_after addr at) n m ≡ Ok (seen_at w at n)
part_seen view addr len at n m w bytes small within h =
    let all = neither (violation view.areas addr len m Read) (first_absent view.resident addr len) (number view.byte addr len) w h in
    rw (part_allowed view.areas addr len at n m Read small within all.0, part_resident view.resident addr len at n small within all.1.0, number_seen view.byte addr len at n bytes small within, all.1.1) refl

-- the lowest bytes of a number
pub low_seen : (view : View) (addr len n m w : ℕ) → AreBytes view.byte → addr < 2 ^ 32 → n ≤ len → loaded view addr len m ≡ Ok w → loaded view addr n m ≡ Ok (w % 256 ^ n)
low_seen view addr len n m w bytes small within h =
    let e : byte_after addr 0 ≡ addr = omega arith in
    let fits : 0 + n ≤ len = omega arith in
    let one : w / 256 ^ 0 ≡ w = omega arith in
    ap (λ a. loaded view a n m) (sym e) ∙ (part_seen view addr len 0 n m w bytes small fits h ∙ ap (λ x. Ok (x % 256 ^ n)) one)

-- the bytes behind these
pub rest_seen : (view : View) (addr len n m w : ℕ) → AreBytes view.byte → addr < 2 ^ 32 → n ≤ len → loaded view addr len m ≡ Ok w → loaded view (byte_after addr n) (len - n) m ≡ Ok (w / 256 ^ n)
rest_seen view addr len n m w bytes small within h =
    let all = neither (violation view.areas addr len m Read) (first_absent view.resident addr len) (number view.byte addr len) w h in
    let e : len ≡ n + (len - n) = omega arith in
    let fits : n + (len - n) ≤ len = omega arith in
    let rest : number view.byte (byte_after addr n) (len - n) ≡ w / 256 ^ n =
    sym (number_rest view.byte addr n (len - n) bytes small) ∙ (ap (λ k. number view.byte addr k / 256 ^ n) (sym e) ∙ ap (λ x. x / 256 ^ n) all.1.1) in
    rw (part_allowed view.areas addr len n (len - n) m Read small fits all.0, part_resident view.resident addr len n (len - n) small fits all.1.0) (ap (λ x. Ok x) rest)

-- a number that was read has so many bytes
pub loaded_small : (view : View) (addr n m x : ℕ) → AreBytes view.byte → loaded view addr n m ≡ Ok x → x < 256 ^ n
loaded_small view addr n m x bytes h =
    let fine = neither (violation view.areas addr n m Read) (first_absent view.resident addr n) (number view.byte addr n) x h in
    subst (λ y. y < 256 ^ n) fine.1.1 (number-below view.byte addr n bytes)
