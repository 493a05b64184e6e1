-- Operators on texts in lines of expansions (VAX MACRO and Instruction Set Reference Manual, "Macro string operators").
use Rattle.std.specs.Prelude.{ℕ, ℤ, pos, negsuc, zero, suc, ◌+◌, Bool, not, ◌||◌, ◌==◌, nat_le, List, [], ◌∷◌, length, take, drop, Option, Some, None, unwrap_or, Result, Ok, Err, codes, decimal, if◌then◌else◌}
use Rattle.std.specs.List.{prefix_len}
use Rattle.std.specs.Str.{bytes_eq}
use Rattle.vax_dialect.specs.declared.Dialect.TheVariants.{Vax}
use Rattle.vax_lex.specs.Characters.{spells}
use Rattle.vax_lex.specs.Tokens.{pieces_of}
use Rattle.vax_lex.specs.Values.{Sense}
use Rattle.vax_macro.specs.Arguments.{Taken, bare, begins_with, behind_blanks, bracketed, closing, edged}
use Rattle.vax_macro.specs.Conditions.{number_in}
use Rattle.vax_macro.specs.declared.error.FaultKind.{FaultKind}
use Rattle.vax_macro.specs.declared.error.FaultKind.TheVariants as faults

pub data Operator : Type 0 where
  length_of : Operator
  place_of : Operator
  part_of : Operator

-- an operator in a text, with its parenthesis: where it begins, and where its operands do
pub record Found : Type 0 where
  pub operator : Operator
  pub at : ℕ
  pub operands : ℕ

-- the operator with which the text at a place begins
unfoldable pub operator_at : ℕ → List ℕ → Option Found
operator_at at text =
    if spells (codes "%LENGTH(") (take 8 text) then Some (record { operator = length_of; at = at; operands = at + 8 })
    else (if spells (codes "%LOCATE(") (take 8 text) then Some (record { operator = place_of; at = at; operands = at + 8 })
    else (if spells (codes "%EXTRACT(") (take 9 text) then Some (record { operator = part_of; at = at; operands = at + 9 })
    else None))

-- The last operator that begins before a place. So one among the operands of another comes first.
abbrev pub or_before : Option Found → Option Found → Option Found
or_before (Some f) before = Some f
or_before None before = before

unfoldable pub last_operator : ℕ → List ℕ → Option Found
last_operator zero text = None
last_operator (suc n) text = or_before (operator_at n (drop n text)) (last_operator n text)

-- ---- Operands

-- neither a comma nor the parenthesis that closes
abbrev pub is_inner : ℕ → Bool
is_inner b = not ((b == 44) || (b == 41))

-- An operand: in brackets, between two of the byte behind a `^`, or up to the next comma or parenthesis.
unfoldable pub operand : List ℕ → Option Taken
operand text =
    if begins_with 60 text then bracketed (drop 1 text) (closing 0 (drop 1 text))
    else (if begins_with 94 text then edged (drop 1 text)
    else Some (bare text (prefix_len is_inner text)))

-- an operand's text, and what stands behind the byte that parts it from that
pub record Parted : Type 0 where
  pub text : List ℕ
  pub rest : List ℕ

abbrev pub parted_from : ℕ → Option Taken → Option Parted
parted_from byte None = None
parted_from byte (Some t) =
    if begins_with byte (behind_blanks t.rest) then Some (record { text = unwrap_or t.text []; rest = drop 1 (behind_blanks t.rest) }) else None

unfoldable pub parted : ℕ → List ℕ → Option Parted
parted byte text = parted_from byte (operand (behind_blanks text))

-- ---- Values

-- A number that isn't negative. It is no statement, so the dialect of its pieces doesn't matter.
abbrev pub natural : Result ℤ FaultKind → Result ℕ FaultKind
natural (Ok (pos n)) = Ok n
natural (Ok (negsuc n)) = Err faults.Range
natural (Err kind) = Err kind

abbrev pub count_in : Sense → List ℕ → Result ℕ FaultKind
count_in names text = natural (number_in names text (pieces_of Vax text))

-- The place of a text in another, looked for from a place on. Where it isn't there, the place behind all of it.
unfoldable pub place_from : ℕ → List ℕ → List ℕ → ℕ
place_from at wanted [] = at
place_from at wanted (b ∷ text) = if bytes_eq wanted (take (length wanted) (b ∷ text)) then at else place_from (at + 1) wanted text

abbrev pub located : ℕ → List ℕ → List ℕ → ℕ
located from wanted text = if nat_le from (length text) then place_from from wanted (drop from text) else length text

-- a value, and what stands behind the operator
abbrev pub Evaluated : Type 0
Evaluated = Result Parted FaultKind

abbrev pub valued : List ℕ → List ℕ → Evaluated
valued value rest = Ok (record { text = value; rest = rest })

abbrev pub length_value : Option Parted → Evaluated
length_value None = Err faults.Form
length_value (Some t) = valued (decimal (length t.text)) t.rest

abbrev pub located_from : Result ℕ FaultKind → List ℕ → List ℕ → List ℕ → Evaluated
located_from (Ok from) wanted text rest = valued (decimal (located from wanted text)) rest
located_from (Err kind) wanted text rest = Err kind

-- behind a text that is looked for, and the one in which it is: perhaps the place from which on
abbrev pub place_behind : Sense → List ℕ → List ℕ → Option Parted → Evaluated
place_behind names wanted text None = Err faults.Form
place_behind names wanted text (Some n) = located_from (count_in names n.text) wanted text n.rest

abbrev pub place_in : Sense → List ℕ → Option Parted → Option Parted → Evaluated
place_in names wanted (Some t) more = located_from (Ok 0) wanted t.text t.rest
place_in names wanted None (Some t) = place_behind names wanted t.text (parted 41 t.rest)
place_in names wanted None None = Err faults.Form

abbrev pub place_value : Sense → Option Parted → Evaluated
place_value names None = Err faults.Form
place_value names (Some t) = place_in names t.text (parted 41 t.rest) (parted 44 t.rest)

abbrev pub part_between : Result ℕ FaultKind → Result ℕ FaultKind → Option Parted → Evaluated
part_between from count None = Err faults.Form
part_between (Err kind) count (Some t) = Err kind
part_between (Ok from) (Err kind) (Some t) = Err kind
part_between (Ok from) (Ok count) (Some t) = valued (take count (drop from t.text)) t.rest

abbrev pub part_behind : Sense → List ℕ → Option Parted → Evaluated
part_behind names from None = Err faults.Form
part_behind names from (Some t) = part_between (count_in names from) (count_in names t.text) (parted 41 t.rest)

abbrev pub part_value : Sense → Option Parted → Evaluated
part_value names None = Err faults.Form
part_value names (Some t) = part_behind names t.text (parted 44 t.rest)

-- what an operator gives of the operands at the head of a text
unfoldable pub evaluated : Sense → Operator → List ℕ → Evaluated
evaluated names operator text = elim operator [
  | length_of ↦ length_value (parted 41 text)
  | place_of ↦ place_value names (parted 44 text)
  | part_of ↦ part_value names (parted 44 text)
]
