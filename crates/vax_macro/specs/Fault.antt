-- The numbers of the kinds of faults.
use Rattle.std.specs.Prelude.{ℕ}
use Rattle.vax_macro.specs.declared.error.FaultKind.{FaultKind}
use Rattle.vax_macro.specs.declared.error.FaultKind.TheVariants.{Token, UnknownOperator, Count, Form, Undefined, Duplicate, Range, Nesting, Depth, Lines, Large, Message}

abbrev pub code_of : FaultKind → ℕ
code_of Token = 1
code_of UnknownOperator = 2
code_of Count = 3
code_of Form = 4
code_of Undefined = 5
code_of Duplicate = 6
code_of Range = 7
code_of Nesting = 8
code_of Depth = 9
code_of Lines = 10
code_of Large = 11
code_of Message = 12
