-- What a section is aligned to is a power of two from 0 to 9.
use Rattle.std.specs.Prelude.{◌≤◌, IfSome}
use Rattle.vax_asm_sections.specs.declared.types.Attributes.{Attributes}

abbrev pub Within : Attributes → Type 0
Within a = IfSome a.align (λ k. k ≤ 9)
