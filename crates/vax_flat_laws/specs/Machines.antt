-- States whose numbers are in their ranges, and what stands in their memories.
use Rattle.std.specs.Prelude.{◌≡◌, ℕ, ◌-◌, ◌*◌, ◌^◌, ◌<◌, ◌≤◌, List, [], ◌∷◌, length, slice_index}
use Rattle.vax_space.specs.declared.Area.{Area}
use Rattle.vax_flat.specs.Memory.{byte_at, number, IsWhole}
use Rattle.vax_flat.specs.Operand.{plus}
use Rattle.vax_flat.specs.State.{State, register, with_register}

-- sixteen registers and five kept stack pointers, each a longword, over a whole memory
pub record IsMachine (s : State) (memory : List Area) : Type 0 where
  pub whole : IsWhole memory
  pub registers : length s.core.regs ≡ 16
  pub stacks : length s.core.stacks ≡ 5
  pub words : (n : ℕ) → register s n < 2 ^ 32
  pub pointers : (n : ℕ) → slice_index s.core.stacks n < 2 ^ 32
  pub status : s.core.psl.0 < 2 ^ 32

abbrev pub AreWords : List ℕ → Type 0
AreWords [] = Unit {0}
AreWords (x ∷ xs) = (x < 2 ^ 32) × AreWords xs

-- the longword at an address
abbrev pub longword_at : List Area → ℕ → ℕ
longword_at memory addr = number (byte_at memory) addr 4

-- how far one address lies behind another
abbrev pub way : ℕ → ℕ → ℕ
way from to = plus to (2 ^ 32 - from)

-- two longwords have no byte in common
pub record AreApart (a b : ℕ) : Type 0 where
  pub first : a < 2 ^ 32
  pub second : b < 2 ^ 32
  pub near : 4 ≤ way a b
  pub far : way a b ≤ 2 ^ 32 - 4

-- so many longwords are taken off the stack
abbrev pub without : ℕ → State → State
without count t = with_register t 14 (plus (register t 14) (4 * count))
