-- The grammar of operands and instructions: what bytes are, whoever reads them (VAX Architecture Reference Manual, operand specifier
-- addressing mode formats).
use Rattle.std.specs.Prelude.{◌≡◌, ℕ, ◌+◌, ◌*◌, Bool, true, false, ◌==◌, nat_le, if◌then◌else◌, Option, Some, None, option_map, List, [], ◌∷◌, length, take, drop}
use Rattle.vax_isa.specs.declared.OperandKind.{OperandKind}
use Rattle.vax_isa.specs.declared.Letter.{Letter}
use Rattle.vax_isa.specs.declared.Letter.TheVariants as letter
use Rattle.vax_isa.specs.Instructions.{Instruction}
use Rattle.vax_isa.specs.Rows.{with_opcode}
use Rattle.vax_flat.specs.declared.Form.{Form}
use Rattle.vax_flat.specs.declared.Form.TheVariants as form
use Rattle.vax_flat.specs.Operand.{form_of, extended, reaches_pc, is_reserved, is_no_base}

-- the memory that a form names, by registers and by what follows the specifier byte
pub data Place : Type 0 where
  -- (Rn)
  Deferred : (n : ℕ) → Place
  -- -(Rn)
  Decrement : (n : ℕ) → Place
  -- (Rn)+
  Increment : (n : ℕ) → Place
  -- @(Rn)+
  IncrementDeferred : (n : ℕ) → Place
  -- @#addr
  Absolute : (addr : ℕ) → Place
  -- displacement(Rn), where the displacement has so many bytes, and as a signed number 32 bits
  Displaced : (width displacement n : ℕ) → Place
  -- @displacement(Rn)
  DisplacedDeferred : (width displacement n : ℕ) → Place

-- an operand, as assembly language writes it
pub data Specifier : Type 0 where
  -- S^#value
  Literal : (value : ℕ) → Specifier
  -- Rn
  Register : (n : ℕ) → Specifier
  -- I^#value
  Immediate : (value : ℕ) → Specifier
  InMemory : Place → Specifier
  -- place[Rx]
  Indexed : Place → (x : ℕ) → Specifier
  -- how far to branch, as a signed number of 32 bits
  BranchBy : (displacement : ℕ) → Specifier

-- what bytes are at their front
pub data Reading : Type 0 where
  -- so many of them are this operand
  Reads : Specifier → (count : ℕ) → Reading
  -- so many of them show a reserved addressing mode
  Reserved : (count : ℕ) → Reading

-- the number that bytes are, the lowest first
unfoldable pub value_of_bytes : List ℕ → ℕ
value_of_bytes [] = 0
value_of_bytes (byte ∷ bytes) = byte + 256 * value_of_bytes bytes

-- A number of so many bytes. There is no reading where the bytes end too early.
unfoldable pub piece : ℕ → List ℕ → (ℕ → Option Reading) → Option Reading
piece width bytes next = if nat_le width (length bytes) then next (value_of_bytes (take width bytes)) else None

-- a memory form, where so many bytes of the specifier are read and these follow
unfoldable pub placed : Form → (Place → Specifier) → ℕ → List ℕ → Option Reading
placed (form.Literal value) make count bytes = Some (Reserved count)
placed (form.Index x) make count bytes = Some (Reserved count)
placed (form.Register n) make count bytes = Some (Reserved count)
placed (form.Deferred n) make count bytes = Some (Reads (make (Deferred n)) count)
placed (form.Decrement n) make count bytes = Some (Reads (make (Decrement n)) count)
placed (form.Increment n) make count bytes = Some (Reads (make (Increment n)) count)
placed (form.IncrementDeferred n) make count bytes =
    if n == 15 then piece 4 bytes (λ addr. Some (Reads (make (Absolute addr)) (count + 4)))
    else Some (Reads (make (IncrementDeferred n)) count)
placed (form.Displacement width n) make count bytes =
    piece width bytes (λ value. Some (Reads (make (Displaced width (extended width value) n)) (count + width)))
placed (form.DisplacementDeferred width n) make count bytes =
    piece width bytes (λ value. Some (Reads (make (DisplacedDeferred width (extended width value) n)) (count + width)))

-- the base of an index by register x
unfoldable pub based : ℕ → List ℕ → Option Reading
based x [] = None
based x (byte ∷ bytes) =
    if is_no_base x (form_of byte) then Some (Reserved 2) else placed (form_of byte) (λ place. Indexed place x) 2 bytes

-- a memory form alone
unfoldable pub unindexed : Letter → Form → List ℕ → Option Reading
unindexed letter shape bytes = if is_reserved letter shape then Some (Reserved 1) else placed shape InMemory 1 bytes

-- (Rn)+, which is an immediate with PC
unfoldable pub incremented : OperandKind → ℕ → List ℕ → Option Reading
incremented kind n bytes =
    if is_reserved kind.letter (form.Increment n) then Some (Reserved 1)
    else if n == 15 then piece kind.width bytes (λ value. Some (Reads (Immediate value) (1 + kind.width)))
    else Some (Reads (InMemory (Increment n)) 1)

abbrev pub is_read : Letter → Bool
is_read letter.Read = true
is_read letter.Modify = false
is_read letter.Write = false
is_read letter.Address = false
is_read letter.Field = false
is_read letter.Branch = false

-- whether such an operand may be in a register
abbrev pub takes_register : Letter → Bool
takes_register letter.Read = true
takes_register letter.Modify = true
takes_register letter.Write = true
takes_register letter.Address = false
takes_register letter.Field = true
takes_register letter.Branch = false

unfoldable pub in_a_register : OperandKind → ℕ → Option Reading
in_a_register kind n =
    if reaches_pc kind.width n then Some (Reserved 1)
    else if takes_register kind.letter then Some (Reads (Register n) 1) else Some (Reserved 1)

-- an operand by the form of its specifier byte, which these bytes follow
unfoldable pub read_form : OperandKind → Form → List ℕ → Option Reading
read_form kind (form.Literal value) bytes =
    if is_read kind.letter then Some (Reads (Literal value) 1) else Some (Reserved 1)
read_form kind (form.Index x) bytes = if x == 15 then Some (Reserved 1) else based x bytes
read_form kind (form.Register n) bytes = in_a_register kind n
read_form kind (form.Deferred n) bytes = unindexed kind.letter (form.Deferred n) bytes
read_form kind (form.Decrement n) bytes = unindexed kind.letter (form.Decrement n) bytes
read_form kind (form.Increment n) bytes = incremented kind n bytes
read_form kind (form.IncrementDeferred n) bytes = unindexed kind.letter (form.IncrementDeferred n) bytes
read_form kind (form.Displacement width n) bytes = unindexed kind.letter (form.Displacement width n) bytes
read_form kind (form.DisplacementDeferred width n) bytes = unindexed kind.letter (form.DisplacementDeferred width n) bytes

unfoldable pub read_specifier : OperandKind → List ℕ → Option Reading
read_specifier kind [] = None
read_specifier kind (byte ∷ bytes) = read_form kind (form_of byte) bytes

unfoldable pub read_displacement : ℕ → List ℕ → Option Reading
read_displacement width bytes = piece width bytes (λ value. Some (Reads (BranchBy (extended width value)) width))

-- What bytes are as an operand of a kind. There is no reading where they end too early.
unfoldable pub read_operand : OperandKind → List ℕ → Option Reading
read_operand kind bytes = elim kind.letter [
  | letter.Read ↦ read_specifier kind bytes
  | letter.Modify ↦ read_specifier kind bytes
  | letter.Write ↦ read_specifier kind bytes
  | letter.Address ↦ read_specifier kind bytes
  | letter.Field ↦ read_specifier kind bytes
  | letter.Branch ↦ read_displacement kind.width bytes
]

-- operands one behind another, up to the last or to a reserved addressing mode
pub data Sequence : Type 0 where
  End : Sequence
  ReservedHere : (count : ℕ) → Sequence
  Next : (kind : OperandKind) → Specifier → (count : ℕ) → Sequence → Sequence

unfoldable pub followed : OperandKind → Option Reading → (ℕ → Option Sequence) → Option Sequence
followed kind None rest = None
followed kind (Some (Reserved count)) rest = Some (ReservedHere count)
followed kind (Some (Reads specifier count)) rest = option_map (Next kind specifier count) (rest count)

-- what bytes are as operands of these kinds, each from where the one before it ended
unfoldable pub read_operands : List OperandKind → List ℕ → Option Sequence
read_operands [] bytes = Some End
read_operands (kind ∷ kinds) bytes =
    followed kind (read_operand kind bytes) (λ count. read_operands kinds (drop count bytes))

-- the bytes of operands
unfoldable pub total : Sequence → ℕ
total End = 0
total (ReservedHere count) = count
total (Next kind specifier count rest) = count + total rest

abbrev pub IsUnreserved : Sequence → Type 0
IsUnreserved End = Unit {0}
IsUnreserved (ReservedHere count) = ⊥
IsUnreserved (Next kind specifier count rest) = IsUnreserved rest

-- the first `count` bytes are an instruction: the opcode of a row, and its operands in order
pub record IsInstruction (bytes : List ℕ) (row : Instruction) (operands : Sequence) (count : ℕ) : Type 0 where
  pub opcode : ℕ
  pub rest : List ℕ
  pub split : bytes ≡ opcode ∷ rest
  pub listed : with_opcode opcode ≡ Some row
  pub read : read_operands row.operands rest ≡ Some operands
  pub unreserved : IsUnreserved operands
  pub counted : count ≡ 1 + total operands
