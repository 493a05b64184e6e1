-- The lines of a listing, each an address and a text.
use Rattle.std.specs.Prelude.{ℕ, zero, suc, ◌+◌, ◌-◌, ◌%◌, ◌^◌, List, [], ◌∷◌, Option, ◌≡◌, ◌≤◌, All, length, Ok}
use Rattle.std.specs.Str.Lines.{lines}
use Rattle.vax_asm.specs.Walk.{assembled}
use Rattle.vax_dialect.specs.declared.Dialect.{Dialect}
use Rattle.vax_module.specs.declared.Module.{Module}
use Rattle.vax_disasm.specs.Listed.{Listing, listed}
use Rattle.vax_listing.specs.Listing.{length_of, line, text_of}

pub record Row : Type 0 where
  pub address : ℕ
  pub text : List ℕ

-- The lines of the bytes that lie from an address on, of which the first few belong to the instruction before.
abbrev pub rows_from : (before address : ℕ) → List ℕ → List Row
rows_from before address [] = []
rows_from zero address (byte ∷ bytes) =
    let here : Option Listing = listed (byte ∷ bytes) address in
    record { address = address; text = text_of byte here } ∷ rows_from (length_of here - 1) ((address + 1) % 2 ^ 32) bytes
rows_from (suc before) address (byte ∷ bytes) = rows_from before ((address + 1) % 2 ^ 32) bytes

-- as a listing has them
abbrev pub row_line : Row → List ℕ
row_line r = line r.address r.text

-- without their addresses
abbrev pub row_texts : List Row → List (List ℕ)
row_texts [] = []
row_texts (r ∷ rows) = r.text ∷ row_texts rows

-- A source is these lines: their texts without the addresses, at most so many of them and so long as the assembler reads.
pub record IsSourceOf (source : List ℕ) (rows : List Row) : Type 0 where
  pub texts : lines source ≡ row_texts rows
  pub short : All (λ text. length text ≤ 1024) (row_texts rows)
  pub few : length (row_texts rows) ≤ 100000

-- The source has no fault in a dialect.
pub record Assembles (dialect : Dialect) (source : List ℕ) : Type 0 where
  pub source_module : Module
  pub is : assembled dialect source ≡ Ok source_module
