-- Where the dialects of the assembler's language differ, one difference after another. Whatever is asked here of neither is
-- the same in both (VAX MACRO and Instruction Set Reference Manual).
use Rattle.std.specs.Prelude.{Bool, true, false}
use Rattle.vax_dialect.specs.declared.Dialect.{Dialect}
use Rattle.vax_dialect.specs.declared.Dialect.TheVariants.{Vax, Vms}

-- Directives are there beside those that both have: `.BLKD`, `.WEAK`, `.MCALL` and others (vax_asm_statement,
-- specs/Directives.antt).
abbrev pub has_further_directives : Dialect → Bool
has_further_directives Vax = false
has_further_directives Vms = true

-- `.` stands in operands and in items too, where it is the place of that operand or item ("The Current Location Counter").
abbrev pub has_places_in_operands : Dialect → Bool
has_places_in_operands Vax = false
has_places_in_operands Vms = true

-- Operators of expressions, conditions and counts see the low 32 bits of numbers, as signed numbers, and operators give such
-- numbers. A number that stands alone has all of its 64 bits ("Terms and expressions").
abbrev pub has_longword_values : Dialect → Bool
has_longword_values Vax = false
has_longword_values Vms = true

-- An item of data without an expression is 0, as in `.BYTE 1,,2`.
abbrev pub has_empty_items : Dialect → Bool
has_empty_items Vax = false
has_empty_items Vms = true

-- `.PSECT` without a name goes on in the section that has none.
abbrev pub has_unnamed_psect : Dialect → Bool
has_unnamed_psect Vax = false
has_unnamed_psect Vms = true

-- `. = e` goes on at a place of the section, before which zero bytes stand.
abbrev pub assigns_places : Dialect → Bool
assigns_places Vax = false
assigns_places Vms = true

-- A negative count of `.REPT` makes no copy.
abbrev pub has_negative_repeats : Dialect → Bool
has_negative_repeats Vax = false
has_negative_repeats Vms = true

-- `.MEXIT`, `.NARG`, `.NCHR`, `.MDELETE` and `.OPDEF` are there ("Macro directives", ".OPDEF").
abbrev pub has_macro_directives : Dialect → Bool
has_macro_directives Vax = false
has_macro_directives Vms = true

-- `%LENGTH`, `%LOCATE` and `%EXTRACT` stand for their values in lines of macros and repeats ("Macro string operators").
abbrev pub has_string_operators : Dialect → Bool
has_string_operators Vax = false
has_string_operators Vms = true

-- In arguments of macros `^/text/` is a text as `<text>` is, and a `;` within brackets begins no comment ("Macro arguments").
abbrev pub has_argument_forms : Dialect → Bool
has_argument_forms Vax = false
has_argument_forms Vms = true

-- An argument `\e` of a macro stands for the value of e in decimal digits ("Passing numeric values of symbols").
abbrev pub has_arguments_by_value : Dialect → Bool
has_arguments_by_value Vax = false
has_arguments_by_value Vms = true

-- `.ASCID` is there, whose operands are pieces of text (".ASCID").
abbrev pub has_text_descriptors : Dialect → Bool
has_text_descriptors Vax = false
has_text_descriptors Vms = true

-- `^M` stands before one register without brackets too ("Register mask operator").
abbrev pub has_single_masks : Dialect → Bool
has_single_masks Vax = false
has_single_masks Vms = true
