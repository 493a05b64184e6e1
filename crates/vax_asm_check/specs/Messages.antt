-- The messages that a source gives (VAX MACRO and Instruction Set Reference Manual, ".PRINT" and ".WARN").
use Rattle.std.specs.Prelude.{ℕ, if◌then◌else◌, List, [], take, codes, Option, Some, None}
use Rattle.std.specs.List.{filter_map}
use Rattle.vax_asm_check.specs.Faultless.{faultless_of}
use Rattle.vax_asm_check.specs.Restating.{Said}
use Rattle.vax_asm_check.specs.declared.notes.Tone.{Tone}
use Rattle.vax_asm_check.specs.declared.notes.Tone.TheVariants.{Note, Warning}
use Rattle.vax_asm_first.specs.declared.types.Origin.{Origin}
use Rattle.vax_dialect.specs.Differences.{has_further_directives}
use Rattle.vax_dialect.specs.declared.Dialect.{Dialect}
use Rattle.vax_lex.specs.Characters.{spells}
use Rattle.vax_lex.specs.Tokens.{pieces_of}
use Rattle.vax_lex.specs.declared.token.Piece.{Piece}
use Rattle.vax_macro.specs.Heads.{head_in, piece_text}

-- a message: how it is meant, where its statement stands, and the text of that
pub record Message : Type 0 where
  pub tone : Tone
  pub origin : Origin
  pub text : List ℕ

-- how the messages of a directive with this name are meant
unfoldable pub tone_named : (name : List ℕ) → Option Tone
tone_named name = if spells (codes ".WARN") name then Some Warning else (if spells (codes ".PRINT") name then Some Note else None)

abbrev pub tone_by : (text : List ℕ) → Option Piece → Option Tone
tone_by text None = None
tone_by text (Some operator) = tone_named (piece_text text operator)

-- how the message is meant that a statement of this text is in a dialect, if it is one
abbrev pub tone_of : Dialect → (text : List ℕ) → Option Tone
tone_of dialect text = tone_by text (head_in (pieces_of dialect text)).operator

abbrev pub message_by : Option Tone → Said → Option Message
message_by None s = None
message_by (Some tone) s = Some (record { tone = tone; origin = s.origin; text = s.text })

-- the message that a statement is, if it is one
abbrev pub message_in : Dialect → Said → Option Message
message_in dialect s = message_by (tone_of dialect s.text) s

-- those of statements
abbrev pub messages_in : Dialect → List Said → List Message
messages_in dialect said = filter_map (message_in dialect) said

-- The first hundred messages that the statements of a source give that have no fault. In the smaller dialect there are none.
abbrev pub messages : Dialect → (source : List ℕ) → List Message
messages dialect source = if has_further_directives dialect then take 100 (messages_in dialect (faultless_of dialect source)) else []
