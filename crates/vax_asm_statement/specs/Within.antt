-- The parts of a statement are made of its tokens.
use Rattle.std.specs.Prelude.{ℕ, List, All, IfSome}
use Rattle.vax_lex.specs.Tokens.{IsTokenOf}
use Rattle.vax_asm_statement.specs.Items.{Item, Piece, Characters, Value}
use Rattle.vax_asm_statement.specs.Reading.{What, Nothing, Assignment, Operation, Malformed, Parsed}

abbrev pub WhatWithin : List ℕ → What → Type 0
WhatWithin line Nothing = Unit {0}
WhatWithin line (Assignment name global e) = IsTokenOf line name × All (IsTokenOf line) e
WhatWithin line (Operation name operands) = IsTokenOf line name × All (IsTokenOf line) operands
WhatWithin line Malformed = Unit {0}

pub record Within (line : List ℕ) (p : Parsed) : Type 0 where
  pub label : IfSome p.label (λ l. IsTokenOf line l.name)
  pub what : WhatWithin line p.what

pub record ItemWithin (line : List ℕ) (i : Item) : Type 0 where
  pub expression : All (IsTokenOf line) i.expression
  pub count : IfSome i.count (All (IsTokenOf line))

abbrev pub PieceWithin : List ℕ → Piece → Type 0
PieceWithin line (Characters t) = IsTokenOf line t
PieceWithin line (Value e) = All (IsTokenOf line) e
