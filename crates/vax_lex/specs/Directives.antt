-- Where a piece of text is due: among the operands of `.ASCII`, `.ASCIC`, `.ASCIZ` and `.ASCID`, where one of these is the
-- operator of the line, or of the statement of an `.IIF` (VAX MACRO and Instruction Set Reference Manual, "Source
-- statements", and the directives `.ASCII` and `.IIF`). Each relation says that the whole is something of this sort and
-- what stands before it, the nearest part first.
use Rattle.std.specs.Prelude.{◌≡◌, ℕ, Bool, true, false, not, ◌&&◌, ◌||◌, ◌==◌, List, [], ◌∷◌, codes}
use Rattle.vax_dialect.specs.declared.Dialect.{Dialect}
use Rattle.vax_lex.specs.Characters.{spells}
use Rattle.vax_lex.specs.Statements.{is_text_directive, compares_texts, tests_text}
use Rattle.vax_lex.specs.Parts.{Part, space, word, sign, quotation, numeric}

abbrev pub is_space : Part → Bool
is_space space = true
is_space (word name) = false
is_space (sign m) = false
is_space quotation = false
is_space numeric = false

abbrev pub is_sign : ℕ → Part → Bool
is_sign n space = false
is_sign n (word name) = false
is_sign n (sign m) = m == n
is_sign n quotation = false
is_sign n numeric = false

abbrev pub is_bracket : Part → Bool
is_bracket p = is_sign 60 p || is_sign 62 p

-- blanks, or none
pub data Blanks : List Part → List Part → Type 0 where
  no_blanks : {before : List Part} → Blanks before before
  a_blank : {before whole : List Part} → Blanks before whole → Blanks before (space ∷ whole)

-- anything in which each `<` has its `>`
pub data Nested : List Part → List Part → Type 0 where
  nested_nothing : {before : List Part} → Nested before before
  nested_part : {before whole : List Part} (p : Part) → is_bracket p ≡ false → Nested before whole → Nested before (p ∷ whole)
  nested_group : {before outer inner : List Part} → Nested before outer → Nested (sign 60 ∷ outer) inner → Nested before (sign 62 ∷ inner)

-- a piece: a quoted text, or an expression in brackets
pub data Piece : List Part → List Part → Type 0 where
  quoted_text : {before : List Part} → Piece before (quotation ∷ before)
  bracketed_value : {before inner : List Part} → Nested (sign 60 ∷ before) inner → Piece before (sign 62 ∷ inner)

-- pieces, with blanks or without
pub data Pieces : List Part → List Part → Type 0 where
  no_pieces : {before : List Part} → Pieces before before
  blank_more : {before whole : List Part} → Pieces before whole → Pieces before (space ∷ whole)
  piece_more : {before whole : List Part} (pieces : List Part) → Pieces before pieces → Piece pieces whole → Pieces before whole

-- what a condition tests that is no text, an expression or a name: up to the first comma outside brackets
pub data Tested : List Part → List Part → Type 0 where
  tested_nothing : {before : List Part} → Tested before before
  tested_part : {before whole : List Part} (p : Part) → is_sign 44 p ≡ false → is_sign 60 p ≡ false → Tested before whole → Tested before (p ∷ whole)
  tested_group : {before outer inner : List Part} → Tested before outer → Nested (sign 60 ∷ outer) inner → Tested before (sign 62 ∷ inner)

-- A condition's argument that is any text. Brackets protect its commas and blanks where they stand round its beginning.
abbrev pub begins_argument : Part → Bool
begins_argument p = not (is_space p) && not (is_sign 44 p) && not (is_sign 60 p)

pub data Argument (goes_on : Part → Bool) : List Part → List Part → Type 0 where
  argument_begins : {before : List Part} (p : Part) → begins_argument p ≡ true → Argument goes_on before (p ∷ before)
  argument_group : {before inner : List Part} → Nested (sign 60 ∷ before) inner → Argument goes_on before (sign 62 ∷ inner)
  argument_more : {before whole : List Part} (p : Part) → goes_on p ≡ true → Argument goes_on before whole → Argument goes_on before (p ∷ whole)

-- the first of two arguments ends at a blank or a comma, and the last one at a comma
abbrev pub is_of_first : Part → Bool
is_of_first p = not (is_space p) && not (is_sign 44 p)

abbrev pub is_of_last : Part → Bool
is_of_last p = not (is_sign 44 p)

-- the last argument, which may be missing
pub data Last : List Part → List Part → Type 0 where
  last_missing : {before whole : List Part} → Blanks before whole → Last before whole
  last_given : {before blanks whole : List Part} → Blanks before blanks → Argument is_of_last blanks whole → Last before whole

-- the second of two arguments behind the first, with a comma between them or with blanks alone
pub data Second : List Part → List Part → Type 0 where
  parted_by_comma : {first behind whole : List Part} → Blanks first behind → Last (sign 44 ∷ behind) whole → Second first whole
  parted_by_blanks : {first behind whole : List Part} → Blanks (space ∷ first) behind → Argument is_of_last behind whole → Second first whole

-- two arguments
pub data Two : List Part → List Part → Type 0 where
  first_missing : {before blanks whole : List Part} → Blanks before blanks → Last (sign 44 ∷ blanks) whole → Two before whole
  first_given : {before blanks first whole : List Part} → Blanks before blanks → Argument is_of_first blanks first → Second first whole → Two before whole

-- what parts the name of a condition from its argument: a blank, or a comma that touches the name
pub data Parted : List Part → List Part → Type 0 where
  by_blank : {before : List Part} → Parted before (space ∷ before)
  by_comma : {before : List Part} → Parted before (sign 44 ∷ before)

-- what begins an expression or a name that touches the name of its condition
pub data Begun : List Part → List Part → Type 0 where
  begun_part : {before : List Part} (p : Part) → begins_argument p ≡ true → Begun before (p ∷ before)
  begun_group : {before inner : List Part} → Nested (sign 60 ∷ before) inner → Begun before (sign 62 ∷ inner)

-- What stands behind the name of a condition: two texts, one text, or what is no text. It is parted from the name, or it
-- touches the name and begins with no comma.
pub data Condition (name : List ℕ) : List Part → List Part → Type 0 where
  two_texts : {before start whole : List Part} → compares_texts name ≡ true → Parted before start → Two start whole → Condition name before whole
  one_text : {before start whole : List Part} → compares_texts name ≡ false → tests_text name ≡ true → Parted before start → Last start whole → Condition name before whole
  no_text : {before start whole : List Part} → compares_texts name ≡ false → tests_text name ≡ false → Parted before start → Tested start whole → Condition name before whole
  two_touching : {before first whole : List Part} → compares_texts name ≡ true → Argument is_of_first before first → Second first whole → Condition name before whole
  text_touching : {before whole : List Part} → compares_texts name ≡ false → tests_text name ≡ true → Argument is_of_last before whole → Condition name before whole
  no_text_touching : {before first whole : List Part} → compares_texts name ≡ false → tests_text name ≡ false → Begun before first → Tested first whole → Condition name before whole

abbrev pub is_immediate_if : List ℕ → Bool
is_immediate_if name = spells (codes ".IIF") name

mutual
  -- a statement begins: that of the line, or that of an `.IIF`, behind the comma that ends its condition
  pub data StatementDue : List Part → Type 0 where
    at_line : StatementDue []
    behind_blank : {whole : List Part} → StatementDue whole → StatementDue (space ∷ whole)
    behind_condition : {before blanks whole : List Part} (name condition : List ℕ) → OperatorDue before → is_immediate_if name ≡ true
        → Blanks (word name ∷ before) blanks → Condition condition (word condition ∷ blanks) whole → StatementDue (sign 44 ∷ whole)

  -- the operator of a statement is due: at the statement's begin, or behind its label
  pub data OperatorDue : List Part → Type 0 where
    without_label : {whole : List Part} → StatementDue whole → OperatorDue whole
    with_label : {whole : List Part} → Labelled whole → OperatorDue whole

  -- a label: a name and a colon, or two that touch each other
  pub data Labelled : List Part → Type 0 where
    one_colon : {before blanks whole : List Part} (name : List ℕ) → StatementDue before → Blanks (word name ∷ before) blanks → Blanks (sign 58 ∷ blanks) whole → Labelled whole
    two_colons : {before blanks whole : List Part} (name : List ℕ) → StatementDue before → Blanks (word name ∷ before) blanks → Blanks (sign 58 ∷ sign 58 ∷ blanks) whole → Labelled whole

-- A piece of text is due, and may begin with this byte. A colon right behind the first name of a statement makes that
-- name a label, so no text begins with one there.
pub data PieceDue (d : Dialect) (byte : ℕ) : List Part → Type 0 where
  behind_labelled : {before whole : List Part} (name : List ℕ) → Labelled before → is_text_directive d name ≡ true → Pieces (word name ∷ before) whole → PieceDue d byte whole
  first_piece : {before whole : List Part} (name : List ℕ) → StatementDue before → is_text_directive d name ≡ true → Blanks (word name ∷ before) whole → (byte == 58) ≡ false → PieceDue d byte whole
  later_piece : {before blanks first whole : List Part} (name : List ℕ) → StatementDue before → is_text_directive d name ≡ true → Blanks (word name ∷ before) blanks → Piece blanks first → Pieces first whole → PieceDue d byte whole
