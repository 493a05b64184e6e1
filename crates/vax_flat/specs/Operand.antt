-- Operand specifiers, and the operands that they give (VAX Architecture Reference Manual, operand specifiers).
-- Each definition ends with what comes next, a function of its result and of the state after it.
use Rattle.std.specs.Prelude.{ℕ, ◌+◌, ◌-◌, ◌*◌, ◌%◌, ◌^◌, ◌<◌, ◌⊎◌, ◌≡◌, Bool, true, false, ◌==◌, ◌||◌, ◌&&◌, nat_lt, if◌then◌else◌}
use Rattle.vax_space.specs.declared.Access.{Access}
use Rattle.vax_space.specs.declared.Access.TheVariants as access
use Rattle.vax_isa.specs.declared.OperandKind.{OperandKind}
use Rattle.vax_isa.specs.declared.Letter.{Letter}
use Rattle.vax_isa.specs.declared.Letter.TheVariants.{Read, Modify, Write, Address, Field, Branch}
use Rattle.vax_flat.specs.declared.Exception.TheVariants.{Mode}
use Rattle.vax_flat.specs.declared.Form.{Form}
use Rattle.vax_flat.specs.declared.Form.TheVariants as form
use Rattle.vax_flat.specs.declared.Operand.{Operand}
use Rattle.vax_flat.specs.declared.Operand.TheVariants.{Value, Register, Memory, FieldRegister, Target}
use Rattle.vax_flat.specs.State.{State, register, with_register, mode}
use Rattle.vax_flat.specs.Accesses.{Accesses, Raises, Checks, Asks, Reads, Writes, Leaf}

-- a specifier byte's form
unfoldable pub form_of : ℕ → Form
form_of byte =
    if nat_lt byte 0x40 then form.Literal byte
    else if nat_lt byte 0x50 then form.Index (byte % 16)
    else if nat_lt byte 0x60 then form.Register (byte % 16)
    else if nat_lt byte 0x70 then form.Deferred (byte % 16)
    else if nat_lt byte 0x80 then form.Decrement (byte % 16)
    else if nat_lt byte 0x90 then form.Increment (byte % 16)
    else if nat_lt byte 0xA0 then form.IncrementDeferred (byte % 16)
    else if nat_lt byte 0xB0 then form.Displacement 1 (byte % 16)
    else if nat_lt byte 0xC0 then form.DisplacementDeferred 1 (byte % 16)
    else if nat_lt byte 0xD0 then form.Displacement 2 (byte % 16)
    else if nat_lt byte 0xE0 then form.DisplacementDeferred 2 (byte % 16)
    else if nat_lt byte 0xF0 then form.Displacement 4 (byte % 16)
    else form.DisplacementDeferred 4 (byte % 16)

-- a signed number of so many bytes, as 32 bits
unfoldable pub extended : ℕ → ℕ → ℕ
extended width value = if nat_lt (2 * value) (256 ^ width) then value else 2 ^ 32 - 256 ^ width + value

-- the sum of two addresses
abbrev pub plus : ℕ → ℕ → ℕ
plus a b = (a + b) % 2 ^ 32

-- one access, in the current access mode
unfoldable pub read_at : ℕ → ℕ → State → (ℕ → State → Accesses Leaf) → Accesses Leaf
read_at addr len s next = Reads addr len (mode s) (λ x. next x s)

unfoldable pub write_at : ℕ → ℕ → ℕ → State → (State → Accesses Leaf) → Accesses Leaf
write_at addr len value s next = Writes addr len value (mode s) (next s)

-- one access in this access mode
unfoldable pub read_in : ℕ → ℕ → ℕ → State → (ℕ → State → Accesses Leaf) → Accesses Leaf
read_in addr len mode s next = Reads addr len mode (λ x. next x s)

unfoldable pub write_in : ℕ → ℕ → ℕ → ℕ → State → (State → Accesses Leaf) → Accesses Leaf
write_in addr len value mode s next = Writes addr len value mode (next s)

-- whether this access mode may use a range so; nothing is touched
unfoldable pub asked : ℕ → ℕ → ℕ → Access → State → (Bool → State → Accesses Leaf) → Accesses Leaf
asked addr len mode kind s next = Asks addr len mode kind (λ allowed. next allowed s)

unfoldable pub check_at : ℕ → ℕ → Access → State → (State → Accesses Leaf) → Accesses Leaf
check_at addr len kind s next = Checks addr len (mode s) kind (next s)

-- the next bytes of the instruction, read as one number, and PC moved past them
unfoldable pub fetched : ℕ → State → (ℕ → State → Accesses Leaf) → Accesses Leaf
fetched width s next = read_at (register s 15) width s (λ x s. next x (with_register s 15 (plus (register s 15) width)))

-- an operand at an address: one that is read is read, one that is modified is checked for writing
unfoldable pub at_address : OperandKind → ℕ → State → (Operand → State → Accesses Leaf) → Accesses Leaf
at_address kind addr s next = elim kind.letter [
  | Read ↦ read_at addr kind.width s (λ x s. next (Value x) s)
  | Modify ↦ check_at addr kind.width access.Write s (λ s. next (Memory addr) s)
  | Write ↦ next (Memory addr) s
  | Address ↦ next (Memory addr) s
  | Field ↦ next (Memory addr) s
  | Branch ↦ Raises Mode
]

-- a literal of six bits is for an operand that is read alone
unfoldable pub literal : Letter → ℕ → State → (Operand → State → Accesses Leaf) → Accesses Leaf
literal letter value s next = elim letter [
  | Read ↦ next (Value value) s
  | Modify ↦ Raises Mode
  | Write ↦ Raises Mode
  | Address ↦ Raises Mode
  | Field ↦ Raises Mode
  | Branch ↦ Raises Mode
]

-- the value of a register, or of the pair of a quadword with the lower one first
unfoldable pub register_value : ℕ → ℕ → State → ℕ
register_value width n s =
    if width == 8 then register s n + 2 ^ 32 * register s (n + 1) else register s n % 256 ^ width

-- PC is no operand, nor a part of one
abbrev pub reaches_pc : ℕ → ℕ → Bool
reaches_pc width n = n == 15 || (width == 8 && n == 14)

unfoldable pub in_register : OperandKind → ℕ → State → (Operand → State → Accesses Leaf) → Accesses Leaf
in_register kind n s next =
    if reaches_pc kind.width n then Raises Mode else elim kind.letter [
      | Read ↦ next (Value (register_value kind.width n s)) s
      | Modify ↦ next (Register n) s
      | Write ↦ next (Register n) s
      | Address ↦ Raises Mode
      | Field ↦ next (FieldRegister n) s
      | Branch ↦ Raises Mode
    ]

-- the address that a memory form gives, with what it does to its register
unfoldable pub addressed : ℕ → Form → State → (ℕ → State → Accesses Leaf) → Accesses Leaf
addressed width (form.Literal value) s next = Raises Mode
addressed width (form.Index x) s next = Raises Mode
addressed width (form.Register n) s next = Raises Mode
addressed width (form.Deferred n) s next = next (register s n) s
addressed width (form.Decrement n) s next =
    next (plus (register s n) (2 ^ 32 - width)) (with_register s n (plus (register s n) (2 ^ 32 - width)))
addressed width (form.Increment n) s next = next (register s n) (with_register s n (plus (register s n) width))
addressed width (form.IncrementDeferred n) s next =
    read_at (register s n) 4 s (λ pointer s. next pointer (with_register s n (plus (register s n) 4)))
addressed width (form.Displacement bytes n) s next =
    fetched bytes s (λ displacement s. next (plus (register s n) (extended bytes displacement)) s)
addressed width (form.DisplacementDeferred bytes n) s next =
    fetched bytes s (λ displacement s. read_at (plus (register s n) (extended bytes displacement)) 4 s next)

-- an immediate is no place for a result
abbrev pub is_result : Letter → Bool
is_result Read = false
is_result Modify = true
is_result Write = true
is_result Address = false
is_result Field = false
is_result Branch = true

-- the memory forms that are reserved: those with PC that have no meaning
unfoldable pub is_reserved : Letter → Form → Bool
is_reserved letter (form.Literal value) = false
is_reserved letter (form.Index x) = false
is_reserved letter (form.Register n) = false
is_reserved letter (form.Deferred n) = n == 15
is_reserved letter (form.Decrement n) = n == 15
is_reserved letter (form.Increment n) = n == 15 && is_result letter
is_reserved letter (form.IncrementDeferred n) = false
is_reserved letter (form.Displacement bytes n) = false
is_reserved letter (form.DisplacementDeferred bytes n) = false

-- the forms that are no base of an index: those without an address, an immediate, and one that changes the index register
unfoldable pub is_no_base : ℕ → Form → Bool
is_no_base x (form.Literal value) = true
is_no_base x (form.Index y) = true
is_no_base x (form.Register n) = true
is_no_base x (form.Deferred n) = n == 15
is_no_base x (form.Decrement n) = n == 15 || n == x
is_no_base x (form.Increment n) = n == 15 || n == x
is_no_base x (form.IncrementDeferred n) = n == x
is_no_base x (form.Displacement bytes n) = false
is_no_base x (form.DisplacementDeferred bytes n) = false

-- an index: the operand's width times the index register, added to the address of the base specifier
unfoldable pub indexed : OperandKind → ℕ → Form → State → (Operand → State → Accesses Leaf) → Accesses Leaf
indexed kind x base s next =
    if is_no_base x base then Raises Mode
    else addressed kind.width base s (λ addr s. at_address kind (plus addr (kind.width * register s x)) s next)

-- an operand of a memory form
unfoldable pub in_memory : OperandKind → Form → State → (Operand → State → Accesses Leaf) → Accesses Leaf
in_memory kind shape s next =
    if is_reserved kind.letter shape then Raises Mode
    else addressed kind.width shape s (λ addr s. at_address kind addr s next)

unfoldable pub after_prefix : OperandKind → ℕ → State → (Operand → State → Accesses Leaf) → Accesses Leaf
after_prefix kind x s next =
    if x == 15 then Raises Mode else fetched 1 s (λ byte s. indexed kind x (form_of byte) s next)

unfoldable pub formed : OperandKind → Form → State → (Operand → State → Accesses Leaf) → Accesses Leaf
formed kind (form.Literal value) s next = literal kind.letter value s next
formed kind (form.Index x) s next = after_prefix kind x s next
formed kind (form.Register n) s next = in_register kind n s next
formed kind (form.Deferred n) s next = in_memory kind (form.Deferred n) s next
formed kind (form.Decrement n) s next = in_memory kind (form.Decrement n) s next
formed kind (form.Increment n) s next = in_memory kind (form.Increment n) s next
formed kind (form.IncrementDeferred n) s next = in_memory kind (form.IncrementDeferred n) s next
formed kind (form.Displacement bytes n) s next = in_memory kind (form.Displacement bytes n) s next
formed kind (form.DisplacementDeferred bytes n) s next = in_memory kind (form.DisplacementDeferred bytes n) s next

unfoldable pub specified : OperandKind → State → (Operand → State → Accesses Leaf) → Accesses Leaf
specified kind s next = fetched 1 s (λ byte s. formed kind (form_of byte) s next)

-- a branch displacement, added to the address just past it
unfoldable pub branched : ℕ → State → (Operand → State → Accesses Leaf) → Accesses Leaf
branched width s next =
    fetched width s (λ displacement s. next (Target (plus (register s 15) (extended width displacement))) s)

-- one operand
unfoldable pub next_operand : OperandKind → State → (Operand → State → Accesses Leaf) → Accesses Leaf
next_operand kind s next = elim kind.letter [
  | Read ↦ specified kind s next
  | Modify ↦ specified kind s next
  | Write ↦ specified kind s next
  | Address ↦ specified kind s next
  | Field ↦ specified kind s next
  | Branch ↦ branched kind.width s next
]

-- an operand's width in bytes
abbrev pub IsWidth : ℕ → Type 0
IsWidth width = (width ≡ 1) ⊎ ((width ≡ 2) ⊎ ((width ≡ 4) ⊎ (width ≡ 8)))

-- a value of so many bytes
abbrev pub IsValue : ℕ → Operand → Type 0
IsValue width (Value x) = x < 256 ^ width
IsValue width (Register n) = ⊥
IsValue width (Memory addr) = ⊥
IsValue width (FieldRegister n) = ⊥
IsValue width (Target addr) = ⊥

-- a place for a result: registers other than PC, or memory
abbrev pub IsPlace : ℕ → Operand → Type 0
IsPlace width (Value x) = ⊥
IsPlace width (Register n) = (n < 15) × (width ≡ 8 → n < 14)
IsPlace width (Memory addr) = Unit {0}
IsPlace width (FieldRegister n) = ⊥
IsPlace width (Target addr) = ⊥

abbrev pub IsAddress : Operand → Type 0
IsAddress (Value x) = ⊥
IsAddress (Register n) = ⊥
IsAddress (Memory addr) = Unit {0}
IsAddress (FieldRegister n) = ⊥
IsAddress (Target addr) = ⊥

-- where a field of bits is based
abbrev pub IsBase : Operand → Type 0
IsBase (Value x) = ⊥
IsBase (Register n) = ⊥
IsBase (Memory addr) = Unit {0}
IsBase (FieldRegister n) = n < 15
IsBase (Target addr) = ⊥

abbrev pub IsTarget : Operand → Type 0
IsTarget (Value x) = ⊥
IsTarget (Register n) = ⊥
IsTarget (Memory addr) = ⊥
IsTarget (FieldRegister n) = ⊥
IsTarget (Target addr) = Unit {0}

-- an operand is of its kind
abbrev pub Fits : OperandKind → Operand → Type 0
Fits kind operand = elim kind.letter [
  | Read ↦ IsValue kind.width operand
  | Modify ↦ IsPlace kind.width operand
  | Write ↦ IsPlace kind.width operand
  | Address ↦ IsAddress operand
  | Field ↦ IsBase operand
  | Branch ↦ IsTarget operand
]
