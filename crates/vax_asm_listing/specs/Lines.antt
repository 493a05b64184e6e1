-- Rows as the lines of which the laws of places speak.
use Rattle.vax_asm_laws.specs.Leading.{Line}
use Rattle.vax_asm_listing.specs.declared.types.Row.{Row}

abbrev pub line_of : Row → Line
line_of row = record { origin = row.origin; text = row.text }
