-- What the text of an instruction comes to as a line of a source, and where it stands in an image (VAX MACRO and Instruction Set Reference
-- Manual, "VAX MACRO source statement format"; VAX/VMS Linker Reference Manual, "Relocation").
use Rattle.std.specs.Prelude.{◌≡◌, ◌<◌, ◌≤◌, ◌+◌, ℕ, List, [], ◌∷◌, ◌++◌, All, None, Ok, Some, length, slice_get, slice_index}
use Rattle.vax_asm.specs.Placing.{Stands, placed}
use Rattle.vax_asm_first.specs.Fixups.{Fixup}
use Rattle.vax_asm_first.specs.Standing.{Standing}
use Rattle.vax_asm_first.specs.declared.types.Origin.{Origin}
use Rattle.vax_asm_laws.specs.Leading.{Halves, IsOf, Line, place_in}
use Rattle.vax_asm_sections.specs.Layout.{Sections, current_of, module_limit, section_limit}
use Rattle.vax_image.specs.declared.Base.{Base}
use Rattle.vax_image.specs.declared.Image.{Image}
use Rattle.vax_link.specs.Linked.{linked}
use Rattle.vax_link.specs.Values.{section_address}
use Rattle.vax_link_laws.specs.Holding.{Holds}
use Rattle.vax_module.specs.Formed.{Formed}
use Rattle.vax_module.specs.declared.Module.{Module}

-- they are numbers below 256
abbrev pub AreBytes : List ℕ → Type 0
AreBytes bytes = (k : ℕ) → slice_index bytes k < 256

-- There is room for so many bytes more in the current section, which doesn't only count, and in the module.
pub record HasRoom (count : ℕ) (s : Sections Fixup) : Type 0 where
  pub section : (current_of s).size + count ≤ section_limit
  pub whole : s.total + count ≤ module_limit
  pub has_bytes : (current_of s).counter ≡ None

-- From the address on the image holds these bytes.
abbrev pub Shows : Image → (address : ℕ) → List ℕ → Type 0
Shows image address bytes = (k : ℕ) → k < length bytes → Holds image (address + k) (slice_index bytes k)

-- modules, and the image that they are linked to
pub record Program : Type 0 where
  pub region : Base
  pub modules : List Module
  pub image : Image

pub record IsLinked (p : Program) : Type 0 where
  pub formed : All Formed p.modules
  pub linked : linked p.region p.modules ≡ Ok p.image

-- the section that the second half of a source's statements begins in
abbrev pub section_of : Halves → ℕ
section_of h = h.middle.standing.sections.current

-- the address at which the second half's first statement comes to stand, where the source is this module of the program
abbrev pub address_of : Program → (owner : ℕ) → Halves → ℕ
address_of p owner h = section_address p.region p.modules owner (section_of h) + place_in (section_of h) h

-- The module of a source is this one of a program.
pub record IsPart (p : Program) (owner : ℕ) (h : Halves) : Type 0 where
  pub source : Module
  pub made : IsOf h source
  pub there : slice_get p.modules owner ≡ Some source

-- the texts of lines
abbrev pub texts : List Line → List (List ℕ)
texts [] = []
texts (l ∷ lines) = l.text ∷ texts lines

-- The second half begins with lines of these texts.
pub record BeginsWith (h : Halves) (these : List (List ℕ)) : Type 0 where
  pub lines : List Line
  pub more : List Line
  pub spelled : h.rest ≡ lines ++ more
  pub are : texts lines ≡ these

-- The line is a statement without a fault, which makes the current section so much longer.
pub record IsStatement (origin : Origin) (text : List ℕ) (count : ℕ) (s : Standing) : Type 0 where
  pub behind : Standing
  pub placed : placed origin text s ≡ Stands behind None
  pub current : behind.sections.current ≡ s.sections.current
  pub size : (current_of behind.sections).size ≡ (current_of s.sections).size + count
