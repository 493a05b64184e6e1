use Rattle.std.proofs.Common.{◌≡◌, ◌++◌, drop}
use Rattle.vax_asm_listing.specs.Listed.{parts_in, texts}
use Rattle.vax_asm_listing.specs.Placings.{parts_of}
use Rattle.vax_asm_listing.proofs.program.parts_in.Given as goal

abbrev pub invariant-loop-source : goal.invariant-loop-source
invariant-loop-source l = parts_of l.parts.items ++ parts_in (texts (drop l.source-index l.files)) l.modules l.notes ≡ parts_in (texts l.files) l.fn.modules l.fn.notes
