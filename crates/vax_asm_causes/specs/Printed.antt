-- Texts of bytes that can be printed.
use Rattle.std.specs.Prelude.{◌≤◌, ℕ, List, All}

-- a blank, or a character that shows
pub record IsPrinted (byte : ℕ) : Type 0 where
  pub from : 32 ≤ byte
  pub to : byte ≤ 126

abbrev pub ArePrinted : List ℕ → Type 0
ArePrinted bytes = All IsPrinted bytes
