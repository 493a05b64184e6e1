-- Remarks on a source as text.
use Rattle.std.specs.Prelude.{◌≡◌, ◌+◌, List, ◌++◌, All, map, codes, decimal}
use Rattle.std.specs.List.{flat_map}
use Rattle.vax_asm_causes.specs.Places.{piece_text}
use Rattle.vax_asm_causes.specs.Remarks.{Asked, remarks}
use Rattle.vax_asm_causes.specs.declared.remarks.About.{About}
use Rattle.vax_asm_causes.specs.declared.remarks.About.TheVariants.{Place, Register, Mask, Unused}
use Rattle.vax_asm_causes.specs.declared.remarks.Remark.{Remark}
use Rattle.vax_asm_check.specs.Messages.{messages}
use Rattle.vax_asm_check.specs.View.{message_seen}
use Rattle.vax_asm_errors.specs.Errors.{IsPlain, line_at, mark, shown}
use Rattle.vax_asm_errors.specs.Notes.{note}
use Rattle.vax_asm_errors.specs.declared.notes.Noted.{Noted}
use Rattle.vax_dialect.specs.declared.Dialect.{Dialect}
use Rattle.vax_lines.specs.Lines.{Text, lines}
use Rattle.vax_prelude.specs.Preludes.{Title, name_at, number_at}

-- how a remark is meant
unfoldable pub tone_words : About → Text
tone_words Place = codes ": note: "
tone_words Register = codes ": warning: "
tone_words Mask = codes ": warning: "
tone_words Unused = codes ": warning: "

-- a name between words
unfoldable pub quoted : (before name behind : Text) → Text
quoted before name behind = before ++ map shown name ++ behind

-- what it says of the name that is asked for, or of a name in the source
unfoldable pub words : About → (asked name : Text) → Text
words Place asked name = quoted (codes "`") asked (codes "` stands here")
words Register asked name = quoted (codes "`") name (codes "` is a name and no register")
words Mask asked name = codes "a program for the bare machine begins at an instruction, and .ENTRY begins with a mask"
words Unused asked name = quoted (codes "nothing uses the label `") name (codes "`")

-- what it says of a piece of a line
abbrev pub words_on : (asked line : Text) → Remark → Text
words_on asked line r = words r.about asked (piece_text line r.piece)

-- the same with its place, how it is meant, and the line with a mark below a column
unfoldable pub remark_at : Title → (asked line : Text) → Remark → Text
remark_at title asked line r =
    name_at title r.line ++ codes ":" ++ decimal (number_at title r.line) ++ codes ":" ++ decimal (r.piece.start + 1) ++ tone_words r.about ++ words_on asked line r ++ codes "\n" ++ mark line r.piece.start

abbrev pub remark : Title → (source asked : Text) → Remark → Text
remark title source asked r = remark_at title asked (line_at r.line (lines source)) r

-- The messages that a source of a dialect gives were added, each with a column and words on it, and behind them exactly these remarks on it, each as its text.
pub record IsRemarked (dialect : Dialect) (title : Title) (source : Text) (asked : Asked) (before after : Text) : Type 0 where
  pub notes : List Noted
  pub told : map (λ n. message_seen n.message) notes ≡ messages dialect source
  pub plain : All (λ n. IsPlain n.said) notes
  pub text : after ≡ before ++ flat_map (note title source) notes ++ flat_map (remark title source asked.name) (remarks dialect asked source)
