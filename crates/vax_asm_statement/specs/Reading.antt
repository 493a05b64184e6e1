-- The parts of a statement (VAX MACRO and Instruction Set Reference Manual, "VAX MACRO source statement format" and
-- "Direct assignment statement").
use Rattle.std.specs.Prelude.{ℕ, Bool, true, false, ◌&&◌, ◌==◌, if◌then◌else◌, List, [], ◌∷◌, drop, Option, Some, None}
use Rattle.vax_lex.specs.declared.token.Token.{Token}
use Rattle.vax_asm_statement.specs.Tokens.{is_mark, is_name_token}
use Rattle.vax_asm_statement.specs.declared.reading.Label.{Label}
use Rattle.vax_asm_statement.specs.declared.reading.Body.{Body}
use Rattle.vax_asm_statement.specs.declared.reading.Body.TheVariants as body
use Rattle.vax_asm_statement.specs.declared.reading.Statement.{Statement}
use Rattle.vax_asm_statement.specs.declared.reading.Head.{Head}

-- the second of two marks, with nothing between them
abbrev pub doubled : ℕ → Token → List Token → Bool
doubled m first [] = false
doubled m first (t ∷ tokens) = is_mark m t && (t.start == first.end)

-- a name and a mark, or that mark twice, and what stands behind
pub record Headed : Type 0 where
  pub name : Token
  pub twice : Bool
  pub rest : List Token

abbrev pub behind_marks : ℕ → Token → Token → List Token → Headed
behind_marks m name first tokens =
    if doubled m first tokens then record { name = name; twice = true; rest = drop 1 tokens }
    else record { name = name; twice = false; rest = tokens }

abbrev pub headed : ℕ → List Token → Option Headed
headed m (name ∷ first ∷ tokens) = if is_name_token name && is_mark m first then Some (behind_marks m name first tokens) else None
headed m _ = None

-- what a statement is, behind its label
pub data What : Type 0 where
  -- nothing
  Nothing : What
  -- `name = e`, and with `==` for other modules
  Assignment : (name : Token) → (global : Bool) → List Token → What
  -- an operator and the tokens behind it
  Operation : (name : Token) → List Token → What
  -- it begins with no name
  Malformed : What

pub record Parsed : Type 0 where
  -- the name before `:`, and whether a second colon makes it one for other modules
  pub label : Option Label
  pub what : What

abbrev pub operation : List Token → What
operation [] = Nothing
operation (t ∷ tokens) = if is_name_token t then Operation t tokens else Malformed

abbrev pub assignment_or : Option Headed → What → What
assignment_or (Some h) other = Assignment h.name h.twice h.rest
assignment_or None other = other

-- An assignment has no label.
abbrev pub behind_label : Option Headed → List Token → Parsed
behind_label (Some h) tokens = record { label = Some (record { name = h.name; global = h.twice }); what = operation h.rest }
behind_label None tokens = record { label = None; what = assignment_or (headed 61 tokens) (operation tokens) }

unfoldable pub parsed : List Token → Parsed
parsed tokens = behind_label (headed 58 tokens) tokens

-- what the code's types mean
abbrev pub body_seen : Body → What
body_seen body.Nothing = Nothing
body_seen (body.Assignment name global e) = Assignment name global e.now
body_seen (body.Operation name operands) = Operation name operands.now
body_seen body.Malformed = Malformed

abbrev pub statement_seen : Statement → Parsed
statement_seen s = record { label = s.label; what = body_seen s.body }

abbrev pub head_seen : Head → Headed
head_seen h = record { name = h.name; twice = h.twice; rest = h.rest.now }
