-- Conditions, and counts of repeats (VAX MACRO and Instruction Set Reference Manual, directives `.IF`, `.IIF` and `.REPT`).
use Rattle.std.specs.Prelude.{ℕ, ℤ, pos, negsuc, ◌+◌, ◌-◌, Bool, true, false, not, ◌&&◌, ◌||◌, ◌==◌, nat_lt, List, [], ◌∷◌, length, take, drop, map, Option, Some, None, unwrap_or, is_some, Result, Ok, Err, codes, if◌then◌else◌}
use Rattle.std.specs.List.{list_all, list_any, prefix_len}
use Rattle.std.specs.Str.{bytes_eq}
use Rattle.vax_lex.specs.Characters.{is_blank, spells, canonical_name}
use Rattle.vax_lex.specs.Grammar.{Symbol, symbols_of}
use Rattle.vax_lex.specs.Expressions.{value_at}
use Rattle.vax_lex.specs.declared.token.Piece.{Piece}
use Rattle.vax_lex.specs.declared.token.PieceKind.{PieceKind}
use Rattle.vax_lex.specs.declared.token.PieceKind.TheVariants as kinds
use Rattle.vax_lex.specs.declared.token.Token.{Token}
use Rattle.vax_lex.specs.declared.token.TokenKind.{TokenKind}
use Rattle.vax_lex.specs.declared.token.TokenKind.TheVariants.{Number, Mark}
use Rattle.vax_lex.specs.declared.value.Value.{Value}
use Rattle.vax_dialect.specs.declared.Dialect.{Dialect}
use Rattle.vax_lex.specs.Values.{Sense, fitted_number}
use Rattle.vax_lex.specs.declared.value.Value.TheVariants.{Absolute, Section, External}
use Rattle.vax_lex.specs.declared.value.ExprError.{ExprError}
use Rattle.vax_lex.specs.declared.value.ExprError.TheVariants as errors
use Rattle.vax_macro.specs.declared.error.FaultKind.{FaultKind}
use Rattle.vax_macro.specs.declared.error.FaultKind.TheVariants as faults
use Rattle.vax_macro.specs.Names.{is_name}
use Rattle.vax_macro.specs.Arguments.{Argument, Taken, arguments, taken, behind_blanks, begins_with}
use Rattle.vax_macro.specs.Heads.{is_name_piece, is_mark_piece, is_wide, piece_text, has_bad, has_unprintable, code_from, code_end, first_end}

-- ---- Numbers

-- a token in place of a piece; a number that is too wide stands for some number
abbrev pub token_kind : PieceKind → TokenKind
token_kind (kinds.Token kind) = kind
token_kind kinds.Wide = Number 0
token_kind kinds.Bad = Mark 0

abbrev pub token_of : Piece → Token
token_of p = record { kind = token_kind p.kind; start = p.start; end = p.end }

abbrev pub symbols_in : List ℕ → List Piece → List Symbol
symbols_in text pieces = symbols_of text (map token_of pieces)

-- how many brackets are open behind a piece
abbrev pub depth_behind : ℕ → PieceKind → ℕ
depth_behind depth kind = if is_mark_piece 60 kind then depth + 1 else (if is_mark_piece 62 kind then depth - 1 else depth)

-- Where the first comma stands outside brackets: among pieces from a place on, where so many brackets are open.
abbrev pub comma_from : ℕ → ℕ → List Piece → Option ℕ
comma_from at depth [] = None
comma_from at depth (p ∷ pieces) =
    if (depth == 0) && is_mark_piece 44 p.kind then Some at else comma_from (at + 1) (depth_behind depth p.kind) pieces

abbrev pub comma_in : List Piece → Option ℕ
comma_in pieces = comma_from 0 0 pieces

abbrev pub has_comma : List Piece → Bool
has_comma pieces = is_some (comma_in pieces)

abbrev pub has_wide : List Piece → Bool
has_wide pieces = list_any (λ p. is_wide p.kind) pieces

-- an absolute value
abbrev pub absolute : Result Value ExprError → Result ℤ FaultKind
absolute (Ok (Absolute n)) = Ok n
absolute (Ok (Section s n)) = Err faults.Form
absolute (Ok (External i n)) = Err faults.Form
absolute (Err errors.Form) = Err faults.Form
absolute (Err errors.Unknown) = Err faults.Undefined
absolute (Err errors.Range) = Err faults.Range

abbrev pub unless_wide : Bool → Result ℤ FaultKind → Result ℤ FaultKind
unless_wide true (Ok n) = Err faults.Range
unless_wide wide result = result

-- what conditions and counts see of a number
abbrev pub fitting : Dialect → Result ℤ FaultKind → Result ℤ FaultKind
fitting dialect (Ok n) = Ok (fitted_number dialect n)
fitting dialect (Err kind) = Err kind

-- the one number that pieces of a text are
unfoldable pub number_in : Sense → List ℕ → List Piece → Result ℤ FaultKind
number_in names text pieces =
    if has_bad pieces then Err faults.Token
    else (if (length pieces == 0) || has_comma pieces then Err faults.Count
    else unless_wide (has_wide pieces) (fitting names.dialect (absolute (value_at names (symbols_in text pieces)))))

-- ---- Conditions

pub data Comparison : Type 0 where
  equal : Comparison
  not_equal : Comparison
  greater : Comparison
  less : Comparison
  greater_or_equal : Comparison
  less_or_equal : Comparison

-- what a condition is on: a number compared with 0, a name that is defined or not, a text that is blank or not, or two
-- texts that are the same or not
pub data Condition : Type 0 where
  compares : Comparison → Condition
  defined : Bool → Condition
  blank : Bool → Condition
  identical : Bool → Condition

abbrev pub is_negative : ℤ → Bool
is_negative (pos n) = false
is_negative (negsuc n) = true

abbrev pub is_zero_number : ℤ → Bool
is_zero_number (pos n) = n == 0
is_zero_number (negsuc n) = false

abbrev pub comparison_holds : Comparison → ℤ → Bool
comparison_holds equal n = is_zero_number n
comparison_holds not_equal n = not (is_zero_number n)
comparison_holds greater n = not (is_negative n) && not (is_zero_number n)
comparison_holds less n = is_negative n
comparison_holds greater_or_equal n = not (is_negative n)
comparison_holds less_or_equal n = is_negative n || is_zero_number n

unfoldable pub condition_named : List ℕ → Option Condition
condition_named name =
    if spells (codes "EQ") name || spells (codes "EQUAL") name then Some (compares equal)
    else (if spells (codes "NE") name || spells (codes "NOT_EQUAL") name then Some (compares not_equal)
    else (if spells (codes "GT") name || spells (codes "GREATER") name then Some (compares greater)
    else (if spells (codes "LT") name || spells (codes "LESS_THAN") name then Some (compares less)
    else (if spells (codes "GE") name || spells (codes "GREATER_EQUAL") name then Some (compares greater_or_equal)
    else (if spells (codes "LE") name || spells (codes "LESS_EQUAL") name then Some (compares less_or_equal)
    else (if spells (codes "DF") name || spells (codes "DEFINED") name then Some (defined true)
    else (if spells (codes "NDF") name || spells (codes "NOT_DEFINED") name then Some (defined false)
    else (if spells (codes "B") name || spells (codes "BLANK") name then Some (blank true)
    else (if spells (codes "NB") name || spells (codes "NOT_BLANK") name then Some (blank false)
    else (if spells (codes "IDN") name || spells (codes "IDENTICAL") name then Some (identical true)
    else (if spells (codes "DIF") name || spells (codes "DIFFERENT") name then Some (identical false)
    else None)))))))))))

abbrev pub is_defined : Option Value → Bool
is_defined (Some (Absolute n)) = true
is_defined (Some (Section s n)) = true
is_defined (Some (External i n)) = false
is_defined None = false

-- the test comes out as wanted
abbrev pub as_wanted : Bool → Bool → Bool
as_wanted true b = b
as_wanted false b = not b

abbrev pub compare_number : Comparison → Result ℤ FaultKind → Result Bool FaultKind
compare_number c (Ok n) = Ok (comparison_holds c n)
compare_number c (Err kind) = Err kind

abbrev pub defined_name : Sense → Bool → List ℕ → List Piece → Result Bool FaultKind
defined_name names wanted text (p ∷ []) =
    if is_name_piece p.kind && is_name (piece_text text p) then Ok (as_wanted wanted (is_defined (names.value (canonical_name (piece_text text p))))) else Err faults.Form
defined_name names wanted text _ = Err faults.Form

unfoldable pub defined_in : Sense → Bool → List ℕ → List Piece → Result Bool FaultKind
defined_in names wanted text pieces =
    if has_bad pieces then Err faults.Token
    else (if (length pieces == 0) || has_comma pieces then Err faults.Count
    else defined_name names wanted text pieces)

abbrev pub no_keyword : List ℕ → Bool
no_keyword name = false

abbrev pub is_blank_text : Option (List ℕ) → Bool
is_blank_text None = true
is_blank_text (Some text) = list_all is_blank text

abbrev pub blank_arguments : Bool → Option (List Argument) → Result Bool FaultKind
blank_arguments wanted None = Err faults.Form
blank_arguments wanted (Some []) = Ok wanted
blank_arguments wanted (Some (a ∷ [])) = Ok (as_wanted wanted (is_blank_text a.text))
blank_arguments wanted (Some (a ∷ b ∷ more)) = Err faults.Count

abbrev pub same_arguments : Bool → Option (List Argument) → Result Bool FaultKind
same_arguments wanted None = Err faults.Form
same_arguments wanted (Some (a ∷ b ∷ [])) = Ok (as_wanted wanted (bytes_eq (unwrap_or a.text []) (unwrap_or b.text [])))
same_arguments wanted (Some _) = Err faults.Count

-- a condition on these pieces of a text, which are behind its name
unfoldable pub condition_on : Sense → List ℕ → Condition → ℕ → List Piece → Result Bool FaultKind
condition_on names text (compares c) at pieces = compare_number c (number_in names text pieces)
condition_on names text (defined wanted) at pieces = defined_in names wanted text pieces
condition_on names text (blank wanted) at pieces =
    if has_unprintable text pieces then Err faults.Token else blank_arguments wanted (arguments false no_keyword (code_from at pieces text))
condition_on names text (identical wanted) at pieces =
    if has_unprintable text pieces then Err faults.Token else same_arguments wanted (arguments false no_keyword (code_from at pieces text))

-- no condition has this name
abbrev pub no_condition : List Piece → FaultKind
no_condition pieces = if has_bad pieces then faults.Token else faults.Form

abbrev pub named_condition : List ℕ → Piece → Option Condition
named_condition text p = if is_name_piece p.kind then condition_named (piece_text text p) else None

-- A comma that touches a condition's name parts it from what is behind it, as blanks do. Behind a blank a comma parts what
-- stands before it, if anything does, from what stands behind.
abbrev pub is_touching : ℕ → Piece → Bool
is_touching end p = is_mark_piece 44 p.kind && (p.start == end)

-- the pieces behind a condition's name that ends at a place, and the place from which they are read
abbrev pub behind_name : ℕ → List Piece → List Piece
behind_name end [] = []
behind_name end (p ∷ pieces) = if is_touching end p then pieces else p ∷ pieces

abbrev pub name_end : ℕ → List Piece → ℕ
name_end end [] = end
name_end end (p ∷ pieces) = if is_touching end p then p.end else end

-- a condition's name and what is behind it
unfoldable pub condition_in : Sense → List ℕ → List Piece → Result Bool FaultKind
condition_in names text [] = Err faults.Count
condition_in names text (p ∷ pieces) = elim (named_condition text p) [
  | Some condition ↦ condition_on names text condition (name_end p.end pieces) (behind_name p.end pieces)
  | None ↦ Err (no_condition (p ∷ pieces))
]

-- ---- A condition with a statement behind its comma

-- whether the condition holds, and where the statement begins
pub record Guarded : Type 0 where
  pub holds : Bool
  pub statement : ℕ

abbrev pub guarded_by : Result Bool FaultKind → ℕ → Result Guarded FaultKind
guarded_by (Ok holds) statement = Ok (record { holds = holds; statement = statement })
guarded_by (Err kind) statement = Err kind

-- where the comma stands in the text that is behind an argument, or behind two
abbrev pub at_comma : ℕ → List ℕ → Option ℕ
at_comma end text = if begins_with 44 (behind_blanks text) then Some (end - length (behind_blanks text)) else None

abbrev pub second_argument : List ℕ → List ℕ
second_argument text = if begins_with 44 (behind_blanks text) then behind_blanks (drop 1 (behind_blanks text)) else behind_blanks text

abbrev pub comma_behind : ℕ → Option Taken → Result ℕ FaultKind
comma_behind end None = Err faults.Form
comma_behind end (Some t) = elim (at_comma end t.rest) [ Some k ↦ Ok k | None ↦ Err faults.Count ]

abbrev pub comma_behind_two : ℕ → Option Taken → Result ℕ FaultKind
comma_behind_two end None = Err faults.Form
comma_behind_two end (Some t) = comma_behind end (taken false (second_argument t.rest))

-- Where the condition is at fault, its statement isn't left out: a byte of it where no token begins is a fault of the line
-- too, and goes before the condition's.
abbrev pub beside_bytes : Bool → Result Bool FaultKind → Result Bool FaultKind
beside_bytes bad (Ok holds) = Ok holds
beside_bytes true (Err kind) = Err faults.Token
beside_bytes false (Err kind) = Err kind

abbrev pub guarded_pieces : Sense → List ℕ → Condition → ℕ → List Piece → Option ℕ → Result Guarded FaultKind
guarded_pieces names text c at pieces None = Err (if has_bad pieces then faults.Token else faults.Count)
guarded_pieces names text c at pieces (Some i) = guarded_by (beside_bytes (has_bad pieces) (condition_on names text c at (take i pieces))) (first_end (drop i pieces))

-- the pieces that end by a place
abbrev pub ends_by : ℕ → Piece → Bool
ends_by k p = not (nat_lt k p.end)

abbrev pub guarded_text : Sense → List ℕ → Condition → ℕ → List Piece → Result ℕ FaultKind → Result Guarded FaultKind
guarded_text names text c at pieces (Err kind) = Err (if has_unprintable text pieces then faults.Token else kind)
guarded_text names text c at pieces (Ok k) = guarded_by (condition_on names text c at (take (prefix_len (ends_by k) pieces) pieces)) (k + 1)

-- The statement of an `.IIF` begins behind the comma after its condition: the first one outside brackets, or the one
-- behind the condition's argument, or its two arguments.
unfoldable pub guarded_on : Sense → List ℕ → Condition → ℕ → List Piece → Result Guarded FaultKind
guarded_on names text (compares c) at pieces = guarded_pieces names text (compares c) at pieces (comma_in pieces)
guarded_on names text (defined wanted) at pieces = guarded_pieces names text (defined wanted) at pieces (comma_in pieces)
guarded_on names text (blank wanted) at pieces =
    guarded_text names text (blank wanted) at pieces (comma_behind (code_end pieces) (taken false (behind_blanks (code_from at pieces text))))
guarded_on names text (identical wanted) at pieces =
    guarded_text names text (identical wanted) at pieces (comma_behind_two (code_end pieces) (taken false (behind_blanks (code_from at pieces text))))

unfoldable pub guarded_in : Sense → List ℕ → List Piece → Result Guarded FaultKind
guarded_in names text [] = Err faults.Count
guarded_in names text (p ∷ pieces) = elim (named_condition text p) [
  | Some condition ↦ guarded_on names text condition (name_end p.end pieces) (behind_name p.end pieces)
  | None ↦ Err (no_condition (p ∷ pieces))
]
