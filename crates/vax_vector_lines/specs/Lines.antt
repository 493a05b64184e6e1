-- The lines of vectors that are true.
use Rattle.std.specs.Prelude.{◌≡◌, ℕ, ◌*◌, ◌%◌, suc, zero, Bool, if◌then◌else◌, is_some, Option, List, [], ◌∷◌, ◌++◌, map, All}
use Rattle.std.specs.List.{flat_map}
use Rattle.vax_outside.specs.Channels.{Channels, Grew, GrewByPrefix, only}
use Rattle.vax_outside.specs.declared.traits.Chan.TheVariants.{Out}
use Rattle.vax_isa.specs.Rows.{with_opcode}
use Rattle.vax_vectors.specs.Choices.{mode_of, opcode_of}
use Rattle.vax_vectors.specs.Truth.{AreWithin}
use Rattle.vax_vectors.specs.Text.{json_text}
use Rattle.vax_vector_runs.specs.Exact.{IsExact}
use Rattle.vax_vectors.specs.declared.vector.Vector.{Vector}
use Rattle.vax_vector_lines.specs.declared.write.Extent.{Extent}
use Rattle.vax_vector_lines.specs.declared.write.Extent.TheVariants.{Whole, Part}

-- a step of the instruction with this opcode, in this access mode, with no page absent, and with bytes of its pages alone
pub record IsOf (opcode mode : ℕ) (v : Vector) : Type 0 where
  pub opcode_is : opcode_of v.start ≡ opcode
  pub mode_is : mode_of v.start ≡ mode % 4
  pub none : v.start.absent.items ≡ []
  pub within : AreWithin v.start.pages.items v.start.ram.items

-- the same step with these pages absent
pub record IsWithout (whole : Vector) (absent : List ℕ) (v : Vector) : Type 0 where
  pub name_is : v.name.items ≡ whole.name.items
  pub core_is : v.start.core ≡ whole.start.core
  pub pages_are : v.start.pages.items ≡ whole.start.pages.items
  pub ram_is : v.start.ram.items ≡ whole.start.ram.items
  pub absent_are : v.start.absent.items ≡ absent

-- one page, and this with each of the others
abbrev pub pairs : ℕ → List ℕ → List (List ℕ)
pairs first others = (first ∷ []) ∷ map (λ second. first ∷ second ∷ []) others

-- each choice of one or two of these pages
unfoldable pub choices : List ℕ → List (List ℕ)
choices [] = []
choices (page ∷ pages) = pairs page pages ++ choices pages

-- the line of a true vector with these pages absent
pub record IsLineWithout (whole : Vector) (absent : List ℕ) (text : List ℕ) : Type 0 where
  pub vector : Vector
  pub told : IsExact vector
  pub without : IsWithout whole absent vector
  pub line : text ≡ json_text vector

-- text that is one part behind another
pub record AreBoth (First Rest : List ℕ → Type 0) (text : List ℕ) : Type 0 where
  pub first : List ℕ
  pub rest : List ℕ
  pub is_first : First first
  pub is_rest : Rest rest
  pub text_is : text ≡ first ++ rest

-- such a line for each of these choices, in order
unfoldable pub AreLinesWithout : Vector → List (List ℕ) → List ℕ → Type 0
AreLinesWithout whole [] text = text ≡ []
AreLinesWithout whole (absent ∷ more) text = AreBoth (IsLineWithout whole absent) (AreLinesWithout whole more) text

-- The lines of one step: the line of its vector, and where it is asked for the lines of the same with pages absent, for each choice of one or two of
-- those that it touches.
pub record IsGroup (opcode mode : ℕ) (absent : Bool) (text : List ℕ) : Type 0 where
  pub vector : Vector
  pub told : IsExact vector
  pub of : IsOf opcode mode vector
  pub others : List ℕ
  pub without : AreLinesWithout vector (if absent then choices vector.touched.items else []) others
  pub lines : text ≡ json_text vector ++ others

-- the lines of so many steps
unfoldable pub AreGroups : ℕ → ℕ → Bool → ℕ → List ℕ → Type 0
AreGroups opcode mode absent zero text = text ≡ []
AreGroups opcode mode absent (suc count) text = AreBoth (AreGroups opcode mode absent count) (IsGroup opcode mode absent) text

-- how many instructions an opcode has: one or none
abbrev pub instruction_at : ℕ → ℕ
instruction_at code = if is_some (with_opcode code) then 1 else 0

-- the lines of so many steps of each instruction with an opcode below a number, by ascending opcodes
unfoldable pub AreOfAll : ℕ → Bool → ℕ → ℕ → List ℕ → Type 0
AreOfAll mode absent count zero text = text ≡ []
AreOfAll mode absent count (suc code) text =
    AreBoth (AreOfAll mode absent count code) (AreGroups code mode absent (instruction_at code * count)) text

-- the text is the lines of vectors, each of them true
pub record AreVectors (text : List ℕ) : Type 0 where
  pub vectors : List Vector
  pub told : All IsExact vectors
  pub lines : text ≡ flat_map json_text vectors

-- such text was appended
pub record IsMore (Such : List ℕ → Type 0) (old new : List ℕ) : Type 0 where
  pub more : List ℕ
  pub is : new ≡ old ++ more
  pub such : Such more

-- such text, and nothing else, was written
pub record Wrote (Such : List ℕ → Type 0) (old new : Option Channels) : Type 0 where
  pub text : List ℕ
  pub grew : Grew old new (only Out text)
  pub such : Such text

-- a prefix of the lines of true vectors was written
pub record WrotePrefix (old new : Option Channels) : Type 0 where
  pub text : List ℕ
  pub grew : GrewByPrefix old new (only Out text)
  pub are : AreVectors text

-- all that is asked for, or the lines of some vectors
abbrev pub Such : Extent → (List ℕ → Type 0) → List ℕ → Type 0
Such Whole all text = all text
Such Part all text = AreVectors text
