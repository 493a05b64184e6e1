-- The addressing modes, as they are written (VAX MACRO and Instruction Set Reference Manual, "Addressing modes"): of the
-- tokens of an operand, its mode, its expression, and the register of its index.
use Rattle.std.specs.Prelude.{ℕ, ◌-◌, Bool, true, false, ◌&&◌, ◌==◌, if◌then◌else◌, List, [], ◌∷◌, length, take, drop, Option, Some, None}
use Rattle.std.specs.Char.{to_ascii_uppercase}
use Rattle.vax_isa.specs.declared.actions.Narrow.{Narrow}
use Rattle.vax_isa.specs.declared.actions.Narrow.TheVariants as narrow
use Rattle.vax_lex.specs.Tokens.{token_text}
use Rattle.vax_lex.specs.declared.token.Token.{Token}
use Rattle.vax_asm_statement.specs.Tokens.{is_mark, begins_with, is_name_token}
use Rattle.vax_asm_statement.specs.Registers.{register_of}
use Rattle.vax_asm_statement.specs.declared.modes.Mode.{Mode}
use Rattle.vax_asm_statement.specs.declared.modes.Mode.TheVariants.{Constant, Literal, Immediate, Register, Deferred, Decrement, Increment, IncrementDeferred, PointerDeferred, Absolute, Displaced, Relative}
use Rattle.vax_asm_statement.specs.declared.modes.Written.{Written}
use Rattle.vax_asm_statement.specs.declared.modes.Form.{Form}

abbrev pub register_token : List ℕ → Token → Option ℕ
register_token line t = if is_name_token t then register_of (token_text line t) else None

-- a register between two marks
abbrev pub between : List ℕ → (left right : ℕ) → Token → Token → Token → Option ℕ
between line left right a b c = if is_mark left a && is_mark right c then register_token line b else None

abbrev pub three_enclosed : List ℕ → (left right : ℕ) → List Token → Option ℕ
three_enclosed line left right (a ∷ b ∷ c ∷ []) = between line left right a b c
three_enclosed line left right _ = None

-- the tokens end with a register between two marks
abbrev pub enclosed_last : List ℕ → (left right : ℕ) → List Token → Option ℕ
enclosed_last line left right tokens = three_enclosed line left right (drop (length tokens - 3) tokens)

abbrev pub register_alone : List ℕ → List Token → Option ℕ
register_alone line (a ∷ []) = register_token line a
register_alone line _ = None

-- (Rn)
abbrev pub register_deferred : List ℕ → List Token → Option ℕ
register_deferred line tokens = three_enclosed line 40 41 tokens

-- (Rn)+
abbrev pub incremented : List ℕ → List Token → Option ℕ
incremented line (a ∷ b ∷ c ∷ plus ∷ []) = if is_mark 43 plus then between line 40 41 a b c else None
incremented line _ = None

-- -(Rn)
abbrev pub decremented : List ℕ → List Token → Option ℕ
decremented line (minus ∷ a ∷ b ∷ c ∷ []) = if is_mark 45 minus then between line 40 41 a b c else None
decremented line _ = None

abbrev pub letter_of : List ℕ → Option ℕ
letter_of (c ∷ []) = Some (to_ascii_uppercase c)
letter_of _ = None

-- the letter before a `^` at the head
abbrev pub prefix_letter : List ℕ → List Token → Option ℕ
prefix_letter line (a ∷ b ∷ tokens) = if is_name_token a && is_mark 94 b then letter_of (token_text line a) else None
prefix_letter line _ = None

abbrev pub is_letter : ℕ → Option ℕ → Bool
is_letter letter (Some c) = c == letter
is_letter letter None = false

abbrev pub is_prefixed : List ℕ → ℕ → List Token → Bool
is_prefixed line letter tokens = is_letter letter (prefix_letter line tokens)

-- `G^e`, perhaps with an index
abbrev pub is_general : List ℕ → List Token → Bool
is_general line tokens = is_prefixed line 71 tokens

-- a letter, `^` and `#`
abbrev pub is_hashed : List ℕ → ℕ → List Token → Bool
is_hashed line letter tokens = is_prefixed line letter tokens && begins_with 35 (drop 2 tokens)

abbrev pub size_named : ℕ → Option Narrow
size_named letter =
    if letter == 66 then Some narrow.B
    else (if letter == 87 then Some narrow.W
    else (if letter == 76 then Some narrow.L
    else None))

abbrev pub size_of_letter : Option ℕ → Option Narrow
size_of_letter (Some letter) = size_named letter
size_of_letter None = None

abbrev pub size_before : List ℕ → List Token → Option Narrow
size_before line tokens = size_of_letter (prefix_letter line tokens)

-- a mode, and the tokens of its expression
pub record Moded : Type 0 where
  pub mode : Mode
  pub expression : List Token

abbrev pub of_register : Mode → Moded
of_register mode = record { mode = mode; expression = [] }

abbrev pub addressed_by : Option ℕ → Option Narrow → Bool → List Token → Moded
addressed_by (Some register) size deferred tokens = record { mode = Displaced size deferred register; expression = take (length tokens - 3) tokens }
addressed_by None size deferred tokens = record { mode = Relative size deferred; expression = tokens }

-- e(Rn), or e
abbrev pub addressed : List ℕ → Option Narrow → Bool → List Token → Moded
addressed line size deferred tokens = addressed_by (enclosed_last line 40 41 tokens) size deferred tokens

abbrev pub behind_size : List ℕ → Bool → Option Narrow → List Token → Moded
behind_size line deferred (Some size) tokens = addressed line (Some size) deferred (drop 2 tokens)
behind_size line deferred None tokens = addressed line None deferred tokens

abbrev pub perhaps_sized : List ℕ → Bool → List Token → Moded
perhaps_sized line deferred tokens = behind_size line deferred (size_before line tokens) tokens

-- the mode of a register where there is one, else this
abbrev pub or_else : Option ℕ → (ℕ → Mode) → Moded → Moded
or_else (Some register) mode other = of_register (mode register)
or_else None mode other = other

-- what stands behind `@`
unfoldable pub deferred_form : List ℕ → List Token → Moded
deferred_form line tokens =
    if begins_with 35 tokens then record { mode = Absolute; expression = drop 1 tokens }
    else or_else (register_deferred line tokens) PointerDeferred (or_else (incremented line tokens) IncrementDeferred (perhaps_sized line true tokens))

-- Rn, (Rn), (Rn)+, -(Rn), and e
unfoldable pub register_form : List ℕ → List Token → Moded
register_form line tokens =
    or_else (register_alone line tokens) Register (or_else (register_deferred line tokens) Deferred
    (or_else (incremented line tokens) Increment (or_else (decremented line tokens) Decrement (perhaps_sized line false tokens))))

-- S^#e, I^#e, G^e, and those
unfoldable pub direct_form : List ℕ → List Token → Moded
direct_form line tokens =
    if is_hashed line 83 tokens then record { mode = Literal; expression = drop 3 tokens }
    else (if is_hashed line 73 tokens then record { mode = Immediate; expression = drop 3 tokens }
    else (if is_prefixed line 71 tokens then record { mode = Relative (Some narrow.L) false; expression = drop 2 tokens }
    else register_form line tokens))

unfoldable pub unindexed : List ℕ → List Token → Moded
unindexed line tokens =
    if begins_with 35 tokens then record { mode = Constant; expression = drop 1 tokens }
    else (if begins_with 64 tokens then deferred_form line (drop 1 tokens)
    else direct_form line tokens)

-- an operand: its mode, the tokens of its expression, and the register of its index
pub record Operand : Type 0 where
  pub mode : Mode
  pub expression : List Token
  pub index : Option ℕ

abbrev pub with_index : Option ℕ → Moded → Operand
with_index index m = record { mode = m.mode; expression = m.expression; index = index }

abbrev pub before_index : Option ℕ → List Token → List Token
before_index (Some x) tokens = take (length tokens - 3) tokens
before_index None tokens = tokens

unfoldable pub operand_of : List ℕ → List Token → Operand
operand_of line tokens = let index = enclosed_last line 91 93 tokens in with_index index (unindexed line (before_index index tokens))

-- what the code's types mean
abbrev pub form_seen : Form → Moded
form_seen f = record { mode = f.mode; expression = f.expression.now }

abbrev pub seen : Written → Operand
seen w = record { mode = w.mode; expression = w.expression.now; index = w.index }
