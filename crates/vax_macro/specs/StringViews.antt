-- What the types of operators on texts mean.
use Rattle.vax_macro.specs.Strings as specs
use Rattle.vax_macro.specs.declared.strings.Operator as code_operator
use Rattle.vax_macro.specs.declared.strings.Operator.TheVariants as operators
use Rattle.vax_macro.specs.declared.strings.Found as code_found
use Rattle.vax_macro.specs.declared.strings.OperandText as code_parted
use Rattle.vax_macro.specs.declared.strings.StringValue as code_evaluated

abbrev pub operator_view : code_operator.Operator → specs.Operator
operator_view operators.Length = specs.length_of
operator_view operators.Place = specs.place_of
operator_view operators.Part = specs.part_of

abbrev pub found_view : code_found.Found → specs.Found
found_view f = record { operator = operator_view f.operator; at = f.at; operands = f.operands }

abbrev pub parted_view : code_parted.OperandText → specs.Parted
parted_view p = record { text = p.text.now; rest = p.rest.now }

abbrev pub evaluated_view : code_evaluated.StringValue → specs.Parted
evaluated_view e = record { text = e.text.items; rest = e.rest.now }
