-- Opcodes that a source defines (VAX MACRO and Instruction Set Reference Manual, directive `.OPDEF`): each is a macro that lays
-- the opcode and its operands.
use Rattle.std.specs.Prelude.{ℕ, ℤ, pos, negsuc, zero, suc, ◌+◌, Bool, false, ◌&&◌, ◌||◌, ◌==◌, nat_lt, List, [], ◌∷◌, ◌++◌, length, take, drop, Option, Some, None, unwrap_or, Result, Ok, Err, codes, decimal, if◌then◌else◌}
use Rattle.vax_lex.specs.Characters.{canonical_name, spells}
use Rattle.vax_lex.specs.Values.{Sense}
use Rattle.vax_lex.specs.declared.token.Piece.{Piece}
use Rattle.vax_macro.specs.declared.error.FaultKind.{FaultKind}
use Rattle.vax_macro.specs.declared.error.FaultKind.TheVariants as faults
use Rattle.vax_macro.specs.declared.opcodes.Operand.{Operand}
use Rattle.vax_macro.specs.declared.opcodes.Operand.TheVariants.{Byte, Word, Long, Quad, ByteBranch, WordBranch}
use Rattle.vax_macro.specs.Names.{is_name}
use Rattle.vax_macro.specs.Arguments.{Argument, arguments, behind_blanks}
use Rattle.vax_macro.specs.Heads.{is_name_piece, piece_text, has_bad, code_from, first_end}
use Rattle.vax_macro.specs.Conditions.{comma_in, number_in, no_keyword, behind_name}
use Rattle.vax_macro.specs.Templates.{Formal, Formals, no_formals, with_formal}

-- an opcode: its name, its number, and what is laid of its operands
pub record Opcode : Type 0 where
  pub name : List ℕ
  pub number : ℕ
  pub operands : List Operand

-- ---- The operands of the directive

-- A descriptor has two letters. The first says how the operand is accessed: as an address, for reading, writing or both, or as
-- a field of bits. The second says its type.
abbrev pub is_access : List ℕ → Bool
is_access letter =
    spells (codes "A") letter || spells (codes "M") letter || spells (codes "R") letter || spells (codes "V") letter || spells (codes "W") letter

abbrev pub specified : List ℕ → Option Operand
specified letter =
    if spells (codes "B") letter then Some Byte
    else (if spells (codes "W") letter then Some Word
    else (if spells (codes "L") letter || spells (codes "F") letter then Some Long
    else (if spells (codes "Q") letter || spells (codes "D") letter || spells (codes "G") letter then Some Quad
    else None)))

-- the displacement of a branch
abbrev pub branch : List ℕ → Option Operand
branch letter =
    if spells (codes "B") letter then Some ByteBranch else (if spells (codes "W") letter then Some WordBranch else None)

unfoldable pub operand_of : List ℕ → Option Operand
operand_of descriptor =
    if spells (codes "B") (take 1 descriptor) then branch (drop 1 descriptor)
    else (if is_access (take 1 descriptor) then specified (drop 1 descriptor) else None)

abbrev pub with_operand : Option Operand → Option (List Operand) → Option (List Operand)
with_operand (Some o) (Some operands) = Some (o ∷ operands)
with_operand (Some o) None = None
with_operand None operands = None

unfoldable pub operands_of : List Argument → Option (List Operand)
operands_of [] = Some []
operands_of (a ∷ descriptors) = with_operand (operand_of (unwrap_or a.text [])) (operands_of descriptors)

abbrev pub or_form : Option (List Operand) → Result (List Operand) FaultKind
or_form (Some operands) = Ok operands
or_form None = Err faults.Form

-- An opcode has 16 operands at most.
abbrev pub described : Option (List Argument) → Result (List Operand) FaultKind
described None = Err faults.Form
described (Some descriptors) = if nat_lt 16 (length descriptors) then Err faults.Count else or_form (operands_of descriptors)

-- behind the comma stands one descriptor at least
abbrev pub descriptors_in : List ℕ → Option (List Argument)
descriptors_in text = if length (behind_blanks text) == 0 then None else arguments false no_keyword text

abbrev pub descriptors_behind : List ℕ → List Piece → Option ℕ → Option (List Argument)
descriptors_behind text pieces None = Some []
descriptors_behind text pieces (Some k) = descriptors_in (code_from (first_end (drop k pieces)) pieces text)

abbrev pub before_comma : List Piece → Option ℕ → List Piece
before_comma pieces None = pieces
before_comma pieces (Some k) = take k pieces

-- an opcode has one byte or two
abbrev pub opcode_number : Result ℤ FaultKind → Result ℕ FaultKind
opcode_number (Ok (pos n)) = if nat_lt n 65536 then Ok n else Err faults.Range
opcode_number (Ok (negsuc n)) = Err faults.Range
opcode_number (Err kind) = Err kind

abbrev pub opcode_of : List ℕ → Result ℕ FaultKind → Result (List Operand) FaultKind → Result Opcode FaultKind
opcode_of name (Err kind) operands = Err kind
opcode_of name (Ok n) (Err kind) = Err kind
opcode_of name (Ok n) (Ok operands) = Ok (record { name = name; number = n; operands = operands })

-- behind the name: the number, and descriptors with a comma before them
unfoldable pub opcode_behind : Sense → List ℕ → List ℕ → List Piece → Result Opcode FaultKind
opcode_behind names text name pieces =
    opcode_of name (opcode_number (number_in names text (before_comma pieces (comma_in pieces))))
    (described (descriptors_behind text pieces (comma_in pieces)))

abbrev pub named_opcode : Sense → List ℕ → List Piece → Result Opcode FaultKind
named_opcode names text [] = Err faults.Count
named_opcode names text (p ∷ pieces) =
    if is_name_piece p.kind && is_name (piece_text text p) then opcode_behind names text (canonical_name (piece_text text p)) (behind_name p.end pieces)
    else Err faults.Form

unfoldable pub opcode_in : Sense → List ℕ → List Piece → Result Opcode FaultKind
opcode_in names text pieces = if has_bad pieces then Err faults.Token else named_opcode names text pieces

-- ---- The lines of the macro

-- an opcode of two bytes has its low byte first
unfoldable pub opcode_line : ℕ → List ℕ
opcode_line n = if nat_lt n 256 then codes ".BYTE " ++ decimal n else codes ".WORD " ++ decimal n

-- the formal argument for an operand, of which the first is 1
abbrev pub operand_name : ℕ → List ℕ
operand_name n = codes "OPERAND_" ++ decimal n

abbrev pub operand_formal : ℕ → Formal
operand_formal n = record { name = operand_name n; default = []; makes_label = false }

-- A branch goes from the place behind its displacement.
unfoldable pub operand_line : ℕ → Operand → List ℕ
operand_line n Byte = codes ".REF1 " ++ operand_name n
operand_line n Word = codes ".REF2 " ++ operand_name n
operand_line n Long = codes ".REF4 " ++ operand_name n
operand_line n Quad = codes ".REF8 " ++ operand_name n
operand_line n ByteBranch = codes ".SIGNED_BYTE " ++ operand_name n ++ codes "-.-1"
operand_line n WordBranch = codes ".SIGNED_WORD " ++ operand_name n ++ codes "-.-2"

-- the lines of operands, of which the first is this one
unfoldable pub operand_lines : ℕ → List Operand → List (List ℕ)
operand_lines n [] = []
operand_lines n (o ∷ operands) = operand_line n o ∷ operand_lines (n + 1) operands

abbrev pub opcode_lines : ℕ → List Operand → List (List ℕ)
opcode_lines number operands = opcode_line number ∷ operand_lines 1 operands

-- so many formal arguments
unfoldable pub operand_formals : ℕ → Formals
operand_formals zero = no_formals
operand_formals (suc n) = with_formal (operand_formals n) (operand_formal (n + 1))
