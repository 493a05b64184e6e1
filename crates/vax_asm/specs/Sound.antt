-- What is so of the parts of every statement.
use Rattle.std.specs.Prelude.{◌≡◌, ◌≤◌, ℕ, true, IfSome, length}
use Rattle.vax_asm_statement.specs.Reading.{What, Nothing, Assignment, Operation, Malformed, Parsed}
use Rattle.vax_asm_statement.specs.Tokens.{is_name_token}

-- what is assigned to is a name, and so many tokens stand behind it at most
abbrev pub IsSoundWhat : ℕ → What → Type 0
IsSoundWhat most Nothing = Unit {0}
IsSoundWhat most (Assignment name global tokens) = (is_name_token name ≡ true) × (length tokens ≤ most)
IsSoundWhat most (Operation name tokens) = length tokens ≤ most
IsSoundWhat most Malformed = Unit {0}

-- a label is a name
pub record IsSound (most : ℕ) (p : Parsed) : Type 0 where
  pub label : IfSome p.label (λ l. is_name_token l.name ≡ true)
  pub what : IsSoundWhat most p.what
