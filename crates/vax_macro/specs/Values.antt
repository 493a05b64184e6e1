-- Arguments that are passed by value (VAX MACRO and Instruction Set Reference Manual, "Passing numeric values of symbols").
use Rattle.std.specs.Prelude.{ℕ, ℤ, pos, negsuc, ◌+◌, List, [], ◌∷◌, drop, Some, None, Result, Ok, Err, decimal, if◌then◌else◌}
use Rattle.vax_dialect.specs.declared.Dialect.TheVariants.{Vax}
use Rattle.vax_lex.specs.Tokens.{pieces_of}
use Rattle.vax_lex.specs.Values.{Sense}
use Rattle.vax_macro.specs.Arguments.{Argument, begins_with}
use Rattle.vax_macro.specs.Conditions.{number_in}
use Rattle.vax_macro.specs.declared.error.FaultKind.{FaultKind}

-- a number in decimal digits, behind a `-` if it is negative
abbrev pub digits : ℤ → List ℕ
digits (pos n) = decimal n
digits (negsuc n) = 45 ∷ decimal (n + 1)

abbrev pub then_digits : Result ℤ FaultKind → Result (List ℕ) FaultKind
then_digits (Ok n) = Ok (digits n)
then_digits (Err kind) = Err kind

-- `\` and an expression stand for its value
abbrev pub text_by_value : Sense → List ℕ → Result (List ℕ) FaultKind
text_by_value names text =
    if begins_with 92 text then then_digits (number_in names (drop 1 text) (pieces_of Vax (drop 1 text))) else Ok text

abbrev pub with_text : Argument → Result (List ℕ) FaultKind → Result Argument FaultKind
with_text a (Ok text) = Ok (record a { text = Some text })
with_text a (Err kind) = Err kind

abbrev pub by_value : Sense → Argument → Result Argument FaultKind
by_value names a = elim a.text [ None ↦ Ok a | Some text ↦ with_text a (text_by_value names text) ]

abbrev pub then_all : Result Argument FaultKind → Result (List Argument) FaultKind → Result (List Argument) FaultKind
then_all (Err kind) arguments = Err kind
then_all (Ok a) (Err kind) = Err kind
then_all (Ok a) (Ok arguments) = Ok (a ∷ arguments)

unfoldable pub all_by_value : Sense → List Argument → Result (List Argument) FaultKind
all_by_value names [] = Ok []
all_by_value names (a ∷ arguments) = then_all (by_value names a) (all_by_value names arguments)
