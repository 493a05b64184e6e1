-- Bytes, written one behind another.
use Rattle.std.proofs.Common.{◌≡◌, ℕ, zero, suc, ◌-◌, ◌/◌, ◌%◌, ◌<◌, List, [], ◌∷◌, ◌++◌, refl, append_assoc, append-nil, arith}
use Rattle.vax_asm_encode.specs.declared.operand.Base.{Base}
use Rattle.vax_asm_encode.specs.declared.operand.Base.TheVariants as base
use Rattle.vax_asm_encode.specs.Operands.{place_of}
use Rattle.vax_asm_encode.specs.Bytes.{low_bytes, place_bytes, base_byte, base_width}

pub byte_more : (xs : List ℕ) (width n : ℕ) → 0 < width → (xs ++ (n % 256) ∷ []) ++ low_bytes (width - 1) (n / 256) ≡ xs ++ low_bytes width n
unfolding low_bytes
byte_more xs zero n h = absurd (omega arith)
byte_more xs (suc width) n h = let one : suc width - 1 ≡ width = omega arith in rw one (append_assoc xs ((n % 256) ∷ []) (low_bytes width (n / 256)))

pub no_byte_more : (xs : List ℕ) (width n : ℕ) → width ≡ 0 → xs ++ low_bytes width n ≡ xs
unfolding low_bytes
no_byte_more xs zero n h = append-nil xs
no_byte_more xs (suc width) n h = absurd (omega arith)

pub base_written : (b : Base) (n : ℕ) → place_bytes (place_of b n) ≡ base_byte b ∷ low_bytes (base_width b) n
unfolding low_bytes
base_written (base.Deferred r) n = refl
base_written (base.Decrement r) n = refl
base_written (base.Increment r) n = refl
base_written (base.IncrementDeferred r) n = refl
base_written base.Absolute n = refl
base_written (base.Displaced size r) n = refl
base_written (base.DisplacedDeferred size r) n = refl
base_written (base.Relative size) n = refl
base_written (base.RelativeDeferred size) n = refl

pub index_written : (xs : List ℕ) (b : Base) (x n : ℕ) → (xs ++ x ∷ []) ++ base_byte b ∷ low_bytes (base_width b) n ≡ xs ++ x ∷ place_bytes (place_of b n)
index_written xs b x n = rw (base_written b n) (append_assoc xs (x ∷ []) (base_byte b ∷ low_bytes (base_width b) n))
