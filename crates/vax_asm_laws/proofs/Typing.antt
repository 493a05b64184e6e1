-- Types of operands that names are assigned.
use Rattle.std.proofs.Common.{◌≡◌, ℕ, false, List, [], ◌∷◌, Option, Some, None, Result, Ok, Err}
use Rattle.vax_asm.specs.Placing.{type_assigned, type_by, type_of_operand}
use Rattle.vax_asm_first.specs.Progress.{Counted}
use Rattle.vax_asm_first.specs.Standing.{Standing, with_scope}
use Rattle.vax_asm_first.specs.declared.types.Origin.{Origin}
use Rattle.vax_asm_instruction.specs.Typing.{typed_operand}
use Rattle.vax_asm_labels.specs.Numbers.{number_at, number_by, number_stated}
use Rattle.vax_asm_laws.proofs.Data.{Goes, IsCounted}
use Rattle.vax_asm_laws.proofs.Naming.{assignment_goes}
use Rattle.vax_asm_statement.specs.Items.{name_alone}
use Rattle.vax_lex.specs.declared.token.Token.{Token}
use Rattle.vax_macro.specs.declared.error.FaultKind.{FaultKind}

number_goes_by : (origin : Origin) (line : List ℕ) (n : ℕ) (o : Option Token) (s t : Standing) → IsCounted s → number_by origin line n o s ≡ Ok t → Goes s t
number_goes_by origin line n (Some name) s t c e = assignment_goes origin line name false (number_at n name ∷ []) s t c e
number_goes_by origin line n None s t c e = cc

number_goes : (origin : Origin) (line : List ℕ) (name : List Token) (n : ℕ) (s t : Standing) → IsCounted s → number_stated origin line name n s ≡ Ok t → Goes s t
unfolding number_stated
number_goes origin line name n s t c e = number_goes_by origin line n (name_alone line name) s t c e

assigned_goes : (origin : Origin) (line : List ℕ) (name : List Token) (n : Result ℕ FaultKind) (s t : Standing) → IsCounted s → type_assigned origin line name n s ≡ Ok t → Goes s t
assigned_goes origin line name (Ok n) s t c e = number_goes origin line name n s t c e
assigned_goes origin line name (Err kind) s t c e = cc

type_goes : (origin : Origin) (line : List ℕ) (name operand : List Token) (s t : Standing) → IsCounted s → type_of_operand origin line name operand s ≡ Ok t → Goes s t
type_goes origin line name [] s t c e = number_goes origin line name 0 s t c e
type_goes origin line name (head ∷ operand) s t c e =
    let k : Counted = typed_operand origin line (head ∷ operand) s in
    assigned_goes origin line name k.number (with_scope k.scope s) t c e

pub types_go : (origin : Origin) (line : List ℕ) (found : List (List Token)) (s t : Standing) → IsCounted s → type_by origin line found s ≡ Ok t → Goes s t
types_go origin line [] s t c e = cc
types_go origin line (name ∷ []) s t c e = type_goes origin line name [] s t c e
types_go origin line (name ∷ operand ∷ []) s t c e = type_goes origin line name operand s t c e
types_go origin line (name ∷ operand ∷ more ∷ others) s t c e = cc
