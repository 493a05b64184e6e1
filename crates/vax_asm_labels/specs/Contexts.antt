-- `.SAVE_PSECT` and `.RESTORE_PSECT`: sections that are put aside (VAX MACRO and Instruction Set Reference Manual, these directives).
use Rattle.std.specs.Prelude.{ℕ, Bool, true, false, if◌then◌else◌, List, [], ◌∷◌, Option, Some, None, Result, Ok, Err, codes}
use Rattle.vax_asm_first.specs.Standing.{Saved, Standing, last_of, put_aside, with_scope, without_last}
use Rattle.vax_asm_labels.specs.Naming.{nothing_said, section_chosen}
use Rattle.vax_asm_scope.specs.Scope.{in_block}
use Rattle.vax_asm_statement.specs.Items.{name_alone}
use Rattle.vax_asm_statement.specs.Parts.{parts}
use Rattle.vax_lex.specs.Characters.{spells}
use Rattle.vax_lex.specs.Tokens.{token_text}
use Rattle.vax_lex.specs.declared.token.Token.{Token}
use Rattle.vax_macro.specs.declared.error.FaultKind.{FaultKind}
use Rattle.vax_macro.specs.declared.error.FaultKind.TheVariants as fault

abbrev pub is_block : List ℕ → Option Token → Bool
is_block line (Some t) = spells (codes "LOCAL_BLOCK") (token_text line t)
is_block line None = false

-- whether operands want the block of local labels to be put aside too
abbrev pub block_wanted : List ℕ → List (List Token) → Result Bool FaultKind
block_wanted line [] = Ok false
block_wanted line (operand ∷ []) = if is_block line (name_alone line operand) then Ok true else Err fault.Form
block_wanted line (operand ∷ more ∷ others) = Err fault.Count

abbrev pub saved_by : Result Bool FaultKind → Standing → Result Standing FaultKind
saved_by (Ok with_block) s = put_aside with_block s
saved_by (Err kind) s = Err kind

-- `.SAVE_PSECT`
unfoldable pub saved_stated : List ℕ → List Token → Standing → Result Standing FaultKind
saved_stated line tokens s = saved_by (block_wanted line (parts tokens)) s

-- the block of local labels that was put aside, if one was, goes on
abbrev pub block_restored : Option ℕ → Result Standing FaultKind → Result Standing FaultKind
block_restored (Some i) (Ok s) = Ok (with_scope (in_block i s.scope) s)
block_restored None (Ok s) = Ok s
block_restored block (Err kind) = Err kind

-- The section that was put aside goes on where it ends, as behind a `.PSECT` of its name.
abbrev pub restored_by : Option Saved → Standing → Result Standing FaultKind
restored_by (Some c) s = block_restored c.block (section_chosen (Some c.section) (Some nothing_said) s)
restored_by None s = Err fault.Nesting

-- `.RESTORE_PSECT`, which has no operands
unfoldable pub restored_stated : List Token → Standing → Result Standing FaultKind
restored_stated [] s = restored_by (last_of s.saved) (without_last s)
restored_stated (t ∷ tokens) s = Err fault.Count
