-- An item that is the mask of an entry (VAX MACRO and Instruction Set Reference Manual, `.MASK`).
use Rattle.std.specs.Prelude.{ℕ, List, Ok}
use Rattle.vax_asm_data.specs.Data.{placed_item}
use Rattle.vax_asm_encode.specs.Operands.{item_field}
use Rattle.vax_asm_encode.specs.declared.operand.DataKind.TheVariants.{Number}
use Rattle.vax_asm_first.specs.Faults.{fault_of_value, unless_place}
use Rattle.vax_asm_first.specs.Fixups.{filling_by}
use Rattle.vax_asm_first.specs.Progress.{Progress, Site}
use Rattle.vax_asm_first.specs.Standing.{Standing, Told, here_at, here_in, misplaces, with_scope}
use Rattle.vax_asm_first.specs.Telling.{told_as}
use Rattle.vax_asm_scope.specs.Masks.{mask_meant, masked}
use Rattle.vax_asm_scope.specs.Scope.{bound}
use Rattle.vax_lex.specs.Grammar.{symbols_of}
use Rattle.vax_lex.specs.declared.token.Token.{Token}
use Rattle.vax_lex.specs.declared.value.Value.{Value}
use Rattle.vax_word.specs.declared.Size.TheVariants as size

-- The mask of the entry with a name, for which the token `key` stands: alone, or OR-ed with an expression.
abbrev pub masked_told : Site → (entry : List ℕ) → (key : Token) → List Token → (here : Value) → Standing → Told
masked_told site entry key tokens here s =
    let m = mask_meant entry s.scope in
    let b = bound here (symbols_of site.line tokens) m.scope in
    told_as (masked site.dialect site.line tokens key m.definition b.names) b.scope

-- a word that holds it
abbrev pub masked_stated : Site → (entry : List ℕ) → (key : Token) → List Token → Standing → Progress
masked_stated site entry key tokens s =
    let t = masked_told site entry key tokens (here_at s.dialect site.here (here_in s.sections)) s in
    let misplaced = misplaces s.dialect (symbols_of site.line tokens) in
    placed_item (Number size.W) site (unless_place misplaced (fault_of_value (item_field (Number size.W)) 0 0 t.settled)) (Ok 1)
    (filling_by t.value t.written) (with_scope t.scope s)
