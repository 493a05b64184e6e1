-- The registers of the processor, as MTPR leaves them and MFPR reads them (VAX Architecture Reference Manual, processor registers).
use Rattle.std.specs.Prelude.{◌≡◌, ◌≢◌, ℕ, ◌/◌, ◌%◌, ◌^◌, List, [], ◌∷◌, ◌-◌, ◌<◌, min, max}
use Rattle.vax_word.specs.declared.Psl.{Psl}
use Rattle.vax_flat.specs.State.{State}
use Rattle.vax_flat.specs.Accesses.{Accesses, Leaf}
use Rattle.vax_flat.specs.System.{set_processor, get_processor}
use Rattle.std.specs.Int.{bit_at}

-- a value is written to one register, and then another is read, of which the value alone counts
abbrev pub read_after : ℕ → ℕ → ℕ → State → (ℕ → Accesses Leaf) → Accesses Leaf
read_after written value read s next = set_processor written value s (λ how t. get_processor read t (λ x u. next x))

-- the registers that can be read: the stack pointers, IPL, SISR, ICCS, RXCS, RXDB and TXCS
abbrev pub readable : List ℕ
readable = 0 ∷ 1 ∷ 2 ∷ 3 ∷ 4 ∷ 18 ∷ 21 ∷ 24 ∷ 32 ∷ 33 ∷ 34 ∷ []

-- those that can be written: the stack pointers, IPL, SIRR, SISR, ICCS, RXCS, TXCS, TXDB, TBIA and TBIS
abbrev pub writable : List ℕ
writable = 0 ∷ 1 ∷ 2 ∷ 3 ∷ 4 ∷ 18 ∷ 20 ∷ 21 ∷ 24 ∷ 32 ∷ 34 ∷ 35 ∷ 57 ∷ 58 ∷ []

-- a number is none of these
abbrev pub IsNoneOf : List ℕ → ℕ → Type 0
IsNoneOf [] number = Unit {0}
IsNoneOf (n ∷ ns) number = (number ≢ n) × IsNoneOf ns number

-- a status with another priority, and all else as it was
pub record IsAtLevel (level : ℕ) (before after : Psl) : Type 0 where
  pub level_is : after.0 / 2 ^ 16 % 2 ^ 5 ≡ level
  pub low : after.0 % 2 ^ 16 ≡ before.0 % 2 ^ 16
  pub high : after.0 / 2 ^ 21 ≡ before.0 / 2 ^ 21

-- each of these trees is that one
abbrev pub AllEqual : List (Accesses Leaf) → Accesses Leaf → Type 0
AllEqual [] tree = Unit {0}
AllEqual (t ∷ ts) tree = (t ≡ tree) × AllEqual ts tree

-- the bits of a status word that a mask sets, and that it clears
pub record HasSet (mask : ℕ) (before after : Psl) : Type 0 where
  pub bits : (k : ℕ) → bit_at after.0 k ≡ max (bit_at before.0 k) (bit_at mask k)

pub record HasCleared (mask : ℕ) (before after : Psl) : Type 0 where
  pub bits : (k : ℕ) → k < 32 → bit_at after.0 k ≡ min (bit_at before.0 k) (1 - bit_at mask k)

-- a procedure's status by its entry mask: bit 15 enables decimal and bit 14 integer overflow; floating underflow and the codes are 0; all else is kept
pub record IsEntryStatus (mask : ℕ) (before after : Psl) : Type 0 where
  pub decimal : bit_at after.0 7 ≡ bit_at mask 15
  pub integer : bit_at after.0 5 ≡ bit_at mask 14
  pub underflow : bit_at after.0 6 ≡ 0
  pub codes : after.0 % 2 ^ 4 ≡ 0
  pub trace : bit_at after.0 4 ≡ bit_at before.0 4
  pub high : after.0 / 2 ^ 8 ≡ before.0 / 2 ^ 8 % 2 ^ 24
