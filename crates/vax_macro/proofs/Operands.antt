-- One operand of an opcode after another.
use Rattle.std.proofs.Common.{◌≡◌, ℕ, ◌+◌, List, [], ◌∷◌, ◌++◌, Option, Some, None, refl, ap, ◌∙◌, sym, append_assoc, append-nil}
use Rattle.std.specs.Prelude.{unwrap_or}
use Rattle.vax_macro.specs.Arguments.{Argument}
use Rattle.vax_macro.specs.Opcodes.{operand_of, operands_of, with_operand, operand_line, operand_lines}
use Rattle.vax_macro.specs.declared.opcodes.Operand.{Operand}

-- operands that were read, and those to come
abbrev pub behind : List Operand → Option (List Operand) → Option (List Operand)
behind front (Some operands) = Some (front ++ operands)
behind front None = None

one_behind : (front : List Operand) (o : Operand) (r : Option (List Operand)) → behind front (with_operand (Some o) r) ≡ behind (front ++ o ∷ []) r
one_behind front o (Some operands) = ap (λ (l : List Operand). let s : Option (List Operand) = Some l in s) (sym (append_assoc front (o ∷ []) operands))
one_behind front o None = refl

pub one_operand : (front : List Operand) (o : Operand) (a : Argument) (descriptors rest : List Argument) (all : Option (List Operand)) → descriptors ≡ a ∷ rest
    → operand_of (unwrap_or a.text []) ≡ Some o → behind front (operands_of descriptors) ≡ all → behind (front ++ o ∷ []) (operands_of rest) ≡ all
unfolding operands_of
one_operand front o a descriptors rest all is e same =
    sym (one_behind front o (operands_of rest))
    ∙ ap (λ (r : Option Operand). behind front (with_operand r (operands_of rest))) (sym e)
    ∙ ap (λ (l : List Argument). behind front (operands_of l)) (sym is)
    ∙ same

pub no_operand : (front : List Operand) (a : Argument) (descriptors rest : List Argument) (all : Option (List Operand)) → descriptors ≡ a ∷ rest
    → operand_of (unwrap_or a.text []) ≡ None → behind front (operands_of descriptors) ≡ all → None ≡ all
unfolding operands_of
no_operand front a descriptors rest all is e same =
    sym (ap (λ (r : Option Operand). behind front (with_operand r (operands_of rest))) e)
    ∙ ap (λ (l : List Argument). behind front (operands_of l)) (sym is)
    ∙ same

pub last_operand : (front : List Operand) (descriptors : List Argument) (all : Option (List Operand)) → descriptors ≡ [] → behind front (operands_of descriptors) ≡ all → Some front ≡ all
unfolding operands_of
last_operand front descriptors all is same =
    ap (λ (l : List Operand). let s : Option (List Operand) = Some l in s) (sym (append-nil front))
    ∙ ap (λ (l : List Argument). behind front (operands_of l)) (sym is)
    ∙ same

-- the lines of operands, one after another
pub one_line : (front : List (List ℕ)) (n : ℕ) (o : Operand) (operands rest : List Operand) (all : List (List ℕ)) → operands ≡ o ∷ rest
    → front ++ operand_lines n operands ≡ all → (front ++ operand_line n o ∷ []) ++ operand_lines (n + 1) rest ≡ all
unfolding operand_lines
one_line front n o operands rest all is same =
    append_assoc front (operand_line n o ∷ []) (operand_lines (n + 1) rest)
    ∙ ap (λ (l : List Operand). front ++ operand_lines n l) (sym is)
    ∙ same

pub last_line : (front : List (List ℕ)) (n : ℕ) (operands : List Operand) (all : List (List ℕ)) → operands ≡ [] → front ++ operand_lines n operands ≡ all → front ≡ all
unfolding operand_lines
last_line front n operands all is same =
    sym (append-nil front)
    ∙ ap (λ (l : List Operand). front ++ operand_lines n l) (sym is)
    ∙ same
