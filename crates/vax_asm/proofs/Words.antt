-- Names in ASCII are texts.
use Rattle.std.proofs.Common.{◌≡◌, ℕ, zero, suc, Bool, true, false, List, [], ◌∷◌, refl, arith}
use Rattle.std.specs.Prelude.{◌&&◌, nat_lt}
use Rattle.std.specs.Str.{IsUtf8, IsAscii, IsNotAscii}
use Rattle.std.proofs.lemmas.Bool.{lt-ltb, le-ltb}
use Rattle.std.proofs.lemmas.Str.{IsUtf8-from_ascii}
use Rattle.vax_asm.specs.Placing.{in_ascii}

pub is_text : (bytes : List ℕ) → IsAscii bytes → IsUtf8 bytes
is_text bytes h = IsUtf8-from_ascii bytes h

and_false : (b c : Bool) → c ≡ false → (b && c) ≡ false
and_false true c e = e
and_false false c e = refl

pub all_ascii : (bytes : List ℕ) → IsAscii bytes → in_ascii bytes ≡ true
all_ascii [] h = refl
all_ascii (b ∷ bytes) h = rw (lt-ltb b 128 (h 0), all_ascii bytes (λ i. h (suc i))) refl

pub not_ascii : (bytes : List ℕ) → IsNotAscii bytes → in_ascii bytes ≡ false
not_ascii [] h = absurd (omega (arith, h.1))
not_ascii (b ∷ bytes) (zero, h) = rw (le-ltb b 128 h) refl
not_ascii (b ∷ bytes) (suc i, h) = and_false (nat_lt b 128) (in_ascii bytes) (not_ascii bytes (i, h))
