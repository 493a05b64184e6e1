-- The directives (VAX MACRO and Instruction Set Reference Manual, "VAX MACRO assembler directives").
use Rattle.std.specs.Prelude.{ℕ, Bool, true, false, List, [], ◌∷◌, Option, Some, None, codes, if◌then◌else◌}
use Rattle.std.specs.Str.{str_eq_ignore_ascii_case}
use Rattle.vax_dialect.specs.Differences.{has_further_directives}
use Rattle.vax_dialect.specs.declared.Dialect.{Dialect}
use Rattle.vax_word.specs.declared.Size.TheVariants as size
use Rattle.vax_asm_encode.specs.declared.operand.DataKind.TheVariants.{Number, Signed, Octaword}
use Rattle.vax_asm_statement.specs.declared.directives.Directive.{Directive}
use Rattle.vax_asm_statement.specs.declared.directives.Directive.TheVariants.{Section, Entry, Data, Address, Text, CountedText, ZeroText, DescribedText, Space, Reference, Align, Even, Odd, Global, Weak, External, Enable, Disable, Default, Save, Restore, Listing, OperandType, Mask, Error, End}
use Rattle.vax_asm_statement.specs.declared.directives.Referring.TheVariants.{Read, Pop}
use Rattle.vax_asm_statement.specs.declared.directives.Named.{Named}
use Rattle.vax_asm_statement.specs.declared.directives.Attribute.{Attribute}
use Rattle.vax_asm_statement.specs.declared.directives.Attribute.TheVariants.{Align as AlignTo, Write, Absolute, Overlaid, Ignored}
use Rattle.vax_asm_statement.specs.declared.directives.NamedAttribute.{NamedAttribute}

abbrev pub directives : List (List ℕ × Directive)
directives =
    (codes ".PSECT", Section)
    ∷ (codes ".ENTRY", Entry)
    ∷ (codes ".BYTE", Data (Number size.B))
    ∷ (codes ".WORD", Data (Number size.W))
    ∷ (codes ".LONG", Data (Number size.L))
    ∷ (codes ".QUAD", Data (Number size.Q))
    ∷ (codes ".SIGNED_BYTE", Data (Signed size.B))
    ∷ (codes ".SIGNED_WORD", Data (Signed size.W))
    ∷ (codes ".ADDRESS", Address)
    ∷ (codes ".ASCII", Text)
    ∷ (codes ".ASCIC", CountedText)
    ∷ (codes ".ASCIZ", ZeroText)
    ∷ (codes ".BLKB", Space (Number size.B))
    ∷ (codes ".BLKW", Space (Number size.W))
    ∷ (codes ".BLKL", Space (Number size.L))
    ∷ (codes ".BLKA", Space (Number size.L))
    ∷ (codes ".BLKQ", Space (Number size.Q))
    ∷ (codes ".ALIGN", Align)
    ∷ (codes ".EVEN", Even)
    ∷ (codes ".GLOBAL", Global)
    ∷ (codes ".GLOBL", Global)
    ∷ (codes ".EXTERNAL", External)
    ∷ (codes ".EXTRN", External)
    ∷ (codes ".TITLE", Listing)
    ∷ (codes ".SBTTL", Listing)
    ∷ (codes ".SUBTITLE", Listing)
    ∷ (codes ".IDENT", Listing)
    ∷ (codes ".PAGE", Listing)
    ∷ (codes ".LIST", Listing)
    ∷ (codes ".NLIST", Listing)
    ∷ (codes ".SHOW", Listing)
    ∷ (codes ".NOSHOW", Listing)
    ∷ (codes ".END", End)
    ∷ []

-- Those of one dialect alone. `.MCALL` and `.LIBRARY` name where macros are, which stand in the source here; `.LINK` names what is
-- linked, `.TRANSFER` a vector of a shareable image; `.PRINT` and `.WARN` give messages, and `.ERROR` one that is a fault. `POPL` is a
-- name in the table of opcodes, without an instruction of its own.
abbrev pub further_directives : List (List ℕ × Directive)
further_directives =
    (codes ".ASCID", DescribedText)
    ∷ (codes ".OCTA", Data Octaword)
    ∷ (codes ".BLKO", Space Octaword)
    ∷ (codes ".BLKH", Space Octaword)
    ∷ (codes ".BLKF", Space (Number size.L))
    ∷ (codes ".BLKD", Space (Number size.Q))
    ∷ (codes ".BLKG", Space (Number size.Q))
    ∷ (codes ".REF1", Reference (Read size.B))
    ∷ (codes ".REF2", Reference (Read size.W))
    ∷ (codes ".REF4", Reference (Read size.L))
    ∷ (codes ".REF8", Reference (Read size.Q))
    ∷ (codes "POPL", Reference Pop)
    ∷ (codes ".NTYPE", OperandType)
    ∷ (codes ".MASK", Mask)
    ∷ (codes ".ODD", Odd)
    ∷ (codes ".WEAK", Weak)
    ∷ (codes ".ENABLE", Enable)
    ∷ (codes ".ENABL", Enable)
    ∷ (codes ".DISABLE", Disable)
    ∷ (codes ".DSABL", Disable)
    ∷ (codes ".DEFAULT", Default)
    ∷ (codes ".SAVE_PSECT", Save)
    ∷ (codes ".SAVE", Save)
    ∷ (codes ".RESTORE_PSECT", Restore)
    ∷ (codes ".RESTORE", Restore)
    ∷ (codes ".CROSS", Listing)
    ∷ (codes ".NOCROSS", Listing)
    ∷ (codes ".DEBUG", Listing)
    ∷ (codes ".LIBRARY", Listing)
    ∷ (codes ".MCALL", Listing)
    ∷ (codes ".LINK", Listing)
    ∷ (codes ".TRANSFER", Listing)
    ∷ (codes ".PRINT", Listing)
    ∷ (codes ".WARN", Listing)
    ∷ (codes ".ERROR", Error)
    ∷ []

-- what stands with the first of these names that a name is, in letters of either case
abbrev pub named_in : {X : Type 0} → List (List ℕ × X) → List ℕ → Option X
named_in [] name = None
named_in (entry ∷ entries) name = if str_eq_ignore_ascii_case entry.0 name then Some entry.1 else named_in entries name

abbrev pub further_named : Bool → List ℕ → Option Directive
further_named true name = named_in further_directives name
further_named false name = None

abbrev pub or_else : Option Directive → Option Directive → Option Directive
or_else (Some d) other = Some d
or_else None other = other

unfoldable pub directive_of : Dialect → List ℕ → Option Directive
directive_of dialect name = or_else (named_in directives name) (further_named (has_further_directives dialect) name)

-- the attributes of sections, by their names; those that say what a section may be used for are left out of account
abbrev pub attributes : List (List ℕ × Attribute)
attributes =
    (codes "BYTE", AlignTo 0)
    ∷ (codes "WORD", AlignTo 1)
    ∷ (codes "LONG", AlignTo 2)
    ∷ (codes "QUAD", AlignTo 3)
    ∷ (codes "PAGE", AlignTo 9)
    ∷ (codes "WRT", Write true)
    ∷ (codes "NOWRT", Write false)
    ∷ (codes "PIC", Ignored)
    ∷ (codes "NOPIC", Ignored)
    ∷ (codes "EXE", Ignored)
    ∷ (codes "NOEXE", Ignored)
    ∷ (codes "RD", Ignored)
    ∷ (codes "SHR", Ignored)
    ∷ (codes "NOSHR", Ignored)
    ∷ (codes "CON", Overlaid false)
    ∷ (codes "REL", Absolute false)
    ∷ (codes "LCL", Ignored)
    ∷ (codes "GBL", Ignored)
    ∷ (codes "USR", Ignored)
    ∷ (codes "LIB", Ignored)
    ∷ (codes "NOVEC", Ignored)
    ∷ []

unfoldable pub attribute_of : List ℕ → Option Attribute
attribute_of name = named_in attributes name

-- what the code's tables mean

abbrev pub named : Named → List ℕ × Directive
named n = (n.name.now, n.directive)

abbrev pub first_directive : List Named → List ℕ → Option Directive
first_directive [] name = None
first_directive (n ∷ all) name = if str_eq_ignore_ascii_case n.name.now name then Some n.directive else first_directive all name

abbrev pub named_attribute : NamedAttribute → List ℕ × Attribute
named_attribute n = (n.name.now, n.attribute)

abbrev pub first_attribute : List NamedAttribute → List ℕ → Option Attribute
first_attribute [] name = None
first_attribute (n ∷ all) name = if str_eq_ignore_ascii_case n.name.now name then Some n.attribute else first_attribute all name
