-- The messages that a source gives, as text.
use Rattle.std.specs.Prelude.{◌+◌, [], ◌∷◌, ◌++◌, codes, decimal}
use Rattle.vax_asm_check.specs.declared.notes.Tone.{Tone}
use Rattle.vax_asm_check.specs.declared.notes.Tone.TheVariants.{Note, Warning}
use Rattle.vax_asm_errors.specs.Errors.{line_at, mark, noted}
use Rattle.vax_asm_errors.specs.declared.notes.Noted.{Noted}
use Rattle.vax_lines.specs.Lines.{Text, lines}
use Rattle.vax_prelude.specs.Preludes.{Title, name_at, number_at}

-- how a message is meant
unfoldable pub tone_words : Tone → Text
tone_words Note = codes ": note: "
tone_words Warning = codes ": warning: "

-- what is told of one without words
unfoldable pub own_words : Tone → Text
own_words Note = codes "the source gives a message here"
own_words Warning = codes "the source gives a warning here"

abbrev pub note_words : Tone → Text → Text
note_words tone [] = own_words tone
note_words tone (b ∷ words) = b ∷ words

-- a message with its place, how it is meant, the line of the source with a mark below a column, and the line of an expansion
unfoldable pub note : Title → (source : Text) → Noted → Text
note title source n =
    name_at title n.message.origin.line ++ codes ":" ++ decimal (number_at title n.message.origin.line) ++ codes ":" ++ decimal (n.said.column + 1) ++ tone_words n.message.tone
    ++ note_words n.message.tone n.said.cause.items ++ codes "\n" ++ mark (line_at n.message.origin.line (lines source)) n.said.column ++ noted title n.message.origin.line n.said.expansion.items
