-- What a statement does (VAX MACRO and Instruction Set Reference Manual, "VAX MACRO source statement format").
use Rattle.std.specs.Prelude.{ℕ, ◌^◌, ◌-◌, Bool, true, false, nat_lt, if◌then◌else◌, List, [], ◌∷◌, map, Option, Some, None, Result, Ok, Err}
use Rattle.std.specs.List.{list_all, list_any}
use Rattle.vax_asm_data.specs.Data.{Plain, Counted_first, Zero_last, Described, data_stated, addresses_stated, text_stated, space_stated, align_stated, even_stated, odd_stated}
use Rattle.vax_asm_instruction.specs.Stating.{instruction_stated, reference_stated}
use Rattle.vax_asm_instruction.specs.Typing.{typed_operand}
use Rattle.vax_dialect.specs.declared.Dialect.{Dialect}
use Rattle.vax_isa.specs.Instructions.{Instruction}
use Rattle.vax_isa.specs.Rows.{row_of, with_name}
use Rattle.vax_lex.specs.Tokens.{pieces_of, token_text}
use Rattle.vax_lex.specs.declared.token.Piece.{Piece}
use Rattle.vax_lex.specs.declared.token.PieceKind.{PieceKind}
use Rattle.vax_lex.specs.declared.token.PieceKind.TheVariants as kinds
use Rattle.vax_lex.specs.declared.token.Token.{Token}
use Rattle.vax_lex.specs.declared.token.TokenKind.{TokenKind}
use Rattle.vax_lex.specs.declared.token.TokenKind.TheVariants.{Number}
use Rattle.vax_macro.specs.declared.error.FaultKind.{FaultKind}
use Rattle.vax_macro.specs.declared.error.FaultKind.TheVariants as fault
use Rattle.vax_asm_labels.specs.Contexts.{restored_stated, saved_stated}
use Rattle.vax_asm_labels.specs.Defaults.{default_stated}
use Rattle.vax_asm_labels.specs.Functions.{functions_stated}
use Rattle.vax_asm_labels.specs.Masks.{mask_stated}
use Rattle.vax_asm_labels.specs.Numbers.{number_stated}
use Rattle.vax_asm_labels.specs.Naming.{Assigned, label_stated, assignment_stated, section_stated, entry_stated, names_stated, end_stated}
use Rattle.vax_asm_names.specs.declared.types.Linkage.TheVariants as links
use Rattle.vax_asm_first.specs.Faults.{first_of}
use Rattle.vax_asm_first.specs.Fixups.{Assignment as Waiting}
use Rattle.vax_asm_first.specs.Progress.{Counted}
use Rattle.vax_asm_first.specs.Standing.{Standing, with_scope}
use Rattle.vax_asm_first.specs.declared.types.Origin.{Origin}
use Rattle.vax_asm_statement.specs.Directives.{directive_of}
use Rattle.vax_asm_statement.specs.Parts.{parts}
use Rattle.vax_asm_statement.specs.Reading.{Parsed, What, Nothing, Assignment, Operation, Malformed, parsed}
use Rattle.vax_asm_statement.specs.declared.directives.Directive.{Directive}
use Rattle.vax_asm_statement.specs.declared.directives.Directive.TheVariants as directive
use Rattle.vax_asm_statement.specs.declared.reading.Label.{Label}

-- ---- What a line is cut into

-- A piece as a token: a number above 64 bits stands for the greatest, and a byte where no token begins for a number, which is neither a name nor a
-- mark. Both are faults of their own, beside those of the statement that is read so.
abbrev pub kind_of : PieceKind → TokenKind
kind_of (kinds.Token kind) = kind
kind_of kinds.Wide = Number (2 ^ 64 - 1)
kind_of kinds.Bad = Number 0

abbrev pub token_of : Piece → Token
token_of p = record { kind = kind_of p.kind; start = p.start; end = p.end }

abbrev pub is_wide : Piece → Bool
is_wide p = elim p.kind [
  | kinds.Token kind ↦ false
  | kinds.Wide ↦ true
  | kinds.Bad ↦ false
]

abbrev pub is_bad : Piece → Bool
is_bad p = elim p.kind [
  | kinds.Token kind ↦ false
  | kinds.Wide ↦ false
  | kinds.Bad ↦ true
]

-- ---- Operations

-- the bytes are those of characters in ASCII, as those of all names are
abbrev pub in_ascii : List ℕ → Bool
in_ascii name = list_all (λ b. nat_lt b 128) name

abbrev pub directive_named : Dialect → List ℕ → Option Directive
directive_named dialect name = if in_ascii name then directive_of dialect name else None

abbrev pub instruction_named : List ℕ → Option Instruction
instruction_named name = if in_ascii name then with_name name else None

-- a name is assigned the type of an operand, once that is known
abbrev pub type_assigned : Origin → List ℕ → (name : List Token) → Result ℕ FaultKind → Standing → Result Standing FaultKind
type_assigned origin line name (Ok n) s = number_stated origin line name n s
type_assigned origin line name (Err kind) s = Err kind

abbrev pub type_of_operand : Origin → List ℕ → (name operand : List Token) → Standing → Result Standing FaultKind
type_of_operand origin line name [] s = number_stated origin line name 0 s
type_of_operand origin line name (t ∷ operand) s =
    let c : Counted = typed_operand origin line (t ∷ operand) s in
    type_assigned origin line name c.number (with_scope c.scope s)

-- `.NTYPE name,operand`; no operand has the type 0
abbrev pub type_by : Origin → List ℕ → List (List Token) → Standing → Result Standing FaultKind
type_by origin line [] s = Err fault.Count
type_by origin line (name ∷ []) s = type_of_operand origin line name [] s
type_by origin line (name ∷ operand ∷ []) s = type_of_operand origin line name operand s
type_by origin line (name ∷ operand ∷ more ∷ others) s = Err fault.Count

abbrev pub type_stated : Origin → List ℕ → List Token → Standing → Result Standing FaultKind
type_stated origin line tokens s = type_by origin line (parts tokens) s

abbrev pub directed : Directive → Origin → List ℕ → List Token → Standing → Result Standing FaultKind
directed directive.Section origin line tokens s = section_stated line tokens s
directed directive.Entry origin line tokens s = entry_stated origin line tokens s
directed (directive.Data kind) origin line tokens s = data_stated kind origin line tokens s
directed directive.Address origin line tokens s = addresses_stated origin line tokens s
directed directive.Text origin line tokens s = text_stated Plain origin line tokens s
directed directive.CountedText origin line tokens s = text_stated Counted_first origin line tokens s
directed directive.ZeroText origin line tokens s = text_stated Zero_last origin line tokens s
directed directive.DescribedText origin line tokens s = text_stated Described origin line tokens s
directed (directive.Space kind) origin line tokens s = space_stated kind origin line tokens s
directed (directive.Reference r) origin line tokens s = reference_stated r origin line tokens s
directed directive.Align origin line tokens s = align_stated origin line tokens s
directed directive.Even origin line tokens s = even_stated tokens s
directed directive.Odd origin line tokens s = odd_stated tokens s
directed directive.Global origin line tokens s = names_stated links.Global line tokens s
directed directive.Weak origin line tokens s = names_stated links.Weak line tokens s
directed directive.External origin line tokens s = names_stated links.External line tokens s
directed directive.Enable origin line tokens s = functions_stated true line tokens s
directed directive.Disable origin line tokens s = functions_stated false line tokens s
directed directive.Default origin line tokens s = default_stated line tokens s
directed directive.Save origin line tokens s = saved_stated line tokens s
directed directive.Restore origin line tokens s = restored_stated tokens s
directed directive.Listing origin line tokens s = Ok s
directed directive.OperandType origin line tokens s = type_stated origin line tokens s
directed directive.Mask origin line tokens s = mask_stated origin line tokens s
directed directive.Error origin line tokens s = Err fault.Message
directed directive.End origin line tokens s = end_stated line tokens s

abbrev pub instructed : Option Instruction → Origin → List ℕ → List Token → Standing → Result Standing FaultKind
instructed (Some i) origin line tokens s = instruction_stated (row_of i) origin line tokens s
instructed None origin line tokens s = Err fault.UnknownOperator

abbrev pub operated_by : Option Directive → Origin → List ℕ → (name : List ℕ) → List Token → Standing → Result Standing FaultKind
operated_by (Some d) origin line name tokens s = directed d origin line tokens s
operated_by None origin line name tokens s = instructed (instruction_named name) origin line tokens s

-- An operator is a directive or an instruction.
abbrev pub operation_stated : Origin → List ℕ → (name : List ℕ) → List Token → Standing → Result Standing FaultKind
operation_stated origin line name tokens s = operated_by (directive_named s.dialect name) origin line name tokens s

-- What stands behind the label, and the assignment that it is, if that has no value yet.
abbrev pub no_assignment : Result Standing FaultKind → Assigned
no_assignment r = record { result = r; waiting = None }

unfoldable pub body_stated : Origin → List ℕ → What → Standing → Assigned
body_stated origin line Nothing s = no_assignment (Ok s)
body_stated origin line (Assignment name global tokens) s = assignment_stated origin line name global tokens s
body_stated origin line (Operation name tokens) s = no_assignment (operation_stated origin line (token_text line name) tokens s)
body_stated origin line Malformed s = no_assignment (Err fault.Form)

-- ---- Statements

-- What comes of a statement: what stands behind it; a fault of a label that stands alone, behind which its line may go on; or another fault,
-- with which the line ends. A statement that is an assignment without a value yet is told, whether it has a fault or not.
pub data Placed : Type 0 where
  Stands : Standing → Option Waiting → Placed
  FaultyLabel : FaultKind → Placed
  Faulty : FaultKind → Option Waiting → Placed

-- the assignment that a statement is
abbrev pub waiting_in : Placed → Option Waiting
waiting_in (Stands s waiting) = waiting
waiting_in (FaultyLabel kind) = None
waiting_in (Faulty kind waiting) = waiting

abbrev pub placed_by : Result Standing FaultKind → Option Waiting → Placed
placed_by (Ok s) waiting = Stands s waiting
placed_by (Err kind) waiting = Faulty kind waiting

abbrev pub alone : Assigned → Placed
alone a = placed_by a.result a.waiting

abbrev pub also : FaultKind → Result Standing FaultKind → Option Waiting → Placed
also kind (Ok s) waiting = Faulty kind waiting
also kind (Err other) waiting = Faulty (first_of kind other) waiting

-- Behind a faulty label the rest is tried from what stood before.
abbrev pub beside : FaultKind → What → Assigned → Placed
beside kind Nothing rest = FaultyLabel kind
beside kind what rest = also kind rest.result rest.waiting

abbrev pub behind_label : Origin → List ℕ → What → (before : Standing) → Result Standing FaultKind → Placed
behind_label origin line what s (Ok t) = alone (body_stated origin line what t)
behind_label origin line what s (Err kind) = beside kind what (body_stated origin line what s)

abbrev pub stated_by : Origin → List ℕ → Option Label → What → Standing → Placed
stated_by origin line None what s = alone (body_stated origin line what s)
stated_by origin line (Some label) what s = behind_label origin line what s (label_stated line label s)

unfoldable pub stated : Origin → List ℕ → Parsed → Standing → Placed
stated origin line p s = stated_by origin line p.label p.what s

-- The rest of a line of a listing directive, and of a message that is a fault, may hold anything.
abbrev pub is_listing_by : Option Directive → Bool
is_listing_by (Some directive.Listing) = true
is_listing_by (Some directive.Error) = true
is_listing_by _ = false

abbrev pub is_listing : Dialect → List ℕ → What → Bool
is_listing dialect line (Operation name tokens) = is_listing_by (directive_named dialect (token_text line name))
is_listing dialect line _ = false

-- a number above 64 bits is out of range
abbrev pub with_range : Placed → Placed
with_range (Stands s waiting) = Faulty fault.Range waiting
with_range (FaultyLabel kind) = Faulty (first_of kind fault.Range) None
with_range (Faulty kind waiting) = Faulty (first_of kind fault.Range) waiting

abbrev pub if_wide : Bool → Placed → Placed
if_wide true p = with_range p
if_wide false p = p

abbrev pub placed_as : Origin → List ℕ → List Piece → Parsed → Standing → Placed
placed_as origin line pieces p s =
    if is_listing s.dialect line p.what then stated origin line p s
    else (if list_any is_bad pieces then Faulty fault.Token None else if_wide (list_any is_wide pieces) (stated origin line p s))

unfoldable pub placed : Origin → List ℕ → Standing → Placed
placed origin line s = let pieces = pieces_of s.dialect line in placed_as origin line pieces (parsed (map token_of pieces)) s
