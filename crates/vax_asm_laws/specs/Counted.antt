-- How many bytes the parts of sections have, and where each begins (VAX MACRO and Instruction Set Reference Manual, "Location
-- counter").
use Rattle.std.specs.Prelude.{◌≡◌, ◌<◌, ◌≤◌, ℕ, ◌+◌, List, [], ◌∷◌, ◌++◌, length, slice_index_or, All}
use Rattle.vax_asm_second.specs.Contents.{bytes_in}
use Rattle.vax_asm_sections.specs.Layout.{Part, Zeros, Bytes, Field, Section, Sections, unnamed}
use Rattle.vax_asm_first.specs.Fixups.{Fixup}

-- how many bytes a part has
abbrev pub part_length : Part Fixup → ℕ
part_length (Zeros n) = n
part_length (Bytes bytes) = length bytes
part_length (Field f) = length (bytes_in f.content 0)

-- where parts end, of which the first begins at a place
abbrev pub end_of : ℕ → List (Part Fixup) → ℕ
end_of at [] = at
end_of at (p ∷ parts) = end_of (at + part_length p) parts

-- What is filled in later knows where it begins.
abbrev pub BeginsAt : ℕ → Part Fixup → Type 0
BeginsAt at (Zeros n) = Unit {0}
BeginsAt at (Bytes bytes) = Unit {0}
BeginsAt at (Field f) = f.at ≡ at

abbrev pub StandFrom : ℕ → List (Part Fixup) → Type 0
StandFrom at [] = Unit {0}
StandFrom at (p ∷ parts) = BeginsAt at p × StandFrom (at + part_length p) parts

-- The parts of a section stand one behind another, and its size is where they end.
pub record IsCounted (s : Section Fixup) : Type 0 where
  pub stand : StandFrom 0 s.parts
  pub size : end_of 0 s.parts ≡ s.size

pub record AreCounted (s : Sections Fixup) : Type 0 where
  pub current : s.current < length s.all
  pub sections : All IsCounted s.all

abbrev pub section_at : ℕ → Sections Fixup → Section Fixup
section_at i s = slice_index_or s.all i unnamed

-- a section that begins with the parts of another one
abbrev pub Begins : Section Fixup → Section Fixup → Type 0
Begins before after = (more : List (Part Fixup)) × (after.parts ≡ before.parts ++ more)

-- each section is there still, with what it held
pub record Keeps (before after : Sections Fixup) : Type 0 where
  pub all : length before.all ≤ length after.all
  pub parts : (i : ℕ) → i < length before.all → Begins (section_at i before) (section_at i after)
