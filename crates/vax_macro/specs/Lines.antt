-- Lines of a source and of expansions, and how continued ones are joined (VAX MACRO and Instruction Set Reference Manual,
-- "Line continuation").
use Rattle.std.specs.Prelude.{ℕ, ◌+◌, ◌-◌, Bool, nat_lt, List, [], ◌∷◌, ◌++◌, length, take, drop, Option, Some, None, if◌then◌else◌}
use Rattle.std.specs.Str.Lines.{lines}
use Rattle.vax_lex.specs.declared.token.Piece.{Piece}
use Rattle.vax_macro.specs.Heads.{is_mark_piece}

-- a line that is still to come: its number in the source, or that of the outermost call, and how many expansions it
-- stands in
pub record SourceLine : Type 0 where
  pub number : ℕ
  pub depth : ℕ
  pub text : List ℕ

-- the lines of a source, behind so many
abbrev pub numbered : ℕ → List (List ℕ) → List SourceLine
numbered at [] = []
numbered at (text ∷ texts) = record { number = at + 1; depth = 0; text = text } ∷ numbered (at + 1) texts

abbrev pub source_lines : List ℕ → List SourceLine
source_lines source = numbered 0 (lines source)

-- what is left of a line that was read: all of it, where its label was handed out, or the statement of an `.IIF`
pub record Remainder : Type 0 where
  pub number : ℕ
  pub depth : ℕ
  pub text : List ℕ
  pub labelled : Bool

-- a line as it is read: the text that continuations give, the lines that it was, and whether its label was handed out
pub record Reading : Type 0 where
  pub number : ℕ
  pub depth : ℕ
  pub text : List ℕ
  pub parts : List (List ℕ)
  pub labelled : Bool

-- where the `-` stands that is last on a line
abbrev pub dash_at : List Piece → Option ℕ
dash_at [] = None
dash_at (p ∷ pieces) = if is_mark_piece 45 p.kind then Some p.start else None

abbrev pub dash_in : List Piece → Option ℕ
dash_in pieces = dash_at (drop (length pieces - 1) pieces)

-- what stands before that `-`, or all where there is none
abbrev pub before_dash : List ℕ → Option ℕ → List ℕ
before_dash text None = text
before_dash text (Some dash) = take dash text

abbrev pub is_long : List ℕ → Bool
is_long text = nat_lt 1024 (length text)

abbrev pub with_part : Reading → List ℕ → List ℕ → Reading
with_part r text part = record r { text = text; parts = r.parts ++ part ∷ [] }
