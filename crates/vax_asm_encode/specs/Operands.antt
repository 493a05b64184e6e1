-- Operands without their values, where they may stand, and what holds their values (VAX Architecture Reference Manual,
-- operand specifier addressing mode formats).
use Rattle.std.specs.Prelude.{ℕ, Bool, true, false, not, ◌&&◌, ◌==◌, nat_lt, if◌then◌else◌, Option, Some, None}
use Rattle.vax_word.specs.Arithmetic.{bytes_of}
use Rattle.vax_word.specs.declared.Size.{Size}
use Rattle.vax_word.specs.declared.Size.TheVariants as size
use Rattle.vax_isa.specs.declared.actions.Narrow.{Narrow}
use Rattle.vax_isa.specs.declared.actions.Narrow.TheVariants as narrow
use Rattle.vax_isa.specs.declared.OperandKind.{OperandKind}
use Rattle.vax_isa.specs.declared.Letter.{Letter}
use Rattle.vax_isa.specs.declared.Letter.TheVariants as letter
use Rattle.vax_flat.specs.Operand.{is_result}
use Rattle.vax_flat.specs.Grammar as grammar
use Rattle.vax_flat.specs.Grammar.{is_read, takes_register}
use Rattle.vax_asm_encode.specs.declared.operand.Base.{Base}
use Rattle.vax_asm_encode.specs.declared.operand.Base.TheVariants as base
use Rattle.vax_asm_encode.specs.declared.operand.Operand.{Operand}
use Rattle.vax_asm_encode.specs.declared.operand.Operand.TheVariants as operand
use Rattle.vax_asm_encode.specs.declared.operand.Field.{Field}
use Rattle.vax_asm_encode.specs.declared.operand.Field.TheVariants as field
use Rattle.vax_asm_encode.specs.declared.operand.DataKind.{DataKind}
use Rattle.vax_asm_encode.specs.declared.operand.DataKind.TheVariants as data_kind

-- how many bytes an item of data has, and what holds its value: of an octaword the low quadword does
abbrev pub item_bytes : DataKind → ℕ
item_bytes (data_kind.Number size) = bytes_of size
item_bytes (data_kind.Signed size) = bytes_of size
item_bytes data_kind.Octaword = 16

abbrev pub item_field : DataKind → Field
item_field (data_kind.Number size) = field.Number size
item_field (data_kind.Signed size) = field.Signed size
item_field data_kind.Octaword = field.Number size.Q

abbrev pub data_size : ℕ → Size
data_size width = if width == 1 then size.B else (if width == 2 then size.W else (if width == 4 then size.L else size.Q))

abbrev pub branch_size : ℕ → Narrow
branch_size width = if width == 1 then narrow.B else (if width == 2 then narrow.W else narrow.L)

abbrev pub base_field : Base → Option Field
base_field (base.Deferred n) = None
base_field (base.Decrement n) = None
base_field (base.Increment n) = None
base_field (base.IncrementDeferred n) = None
base_field base.Absolute = Some (field.Number size.L)
base_field (base.Displaced size n) = Some (field.Displacement size)
base_field (base.DisplacedDeferred size n) = Some (field.Displacement size)
base_field (base.Relative size) = Some (field.Relative size)
base_field (base.RelativeDeferred size) = Some (field.Relative size)

-- what holds the value of an operand of a kind
abbrev pub field_of : OperandKind → Operand → Option Field
field_of kind operand.Literal = Some field.Literal
field_of kind (operand.Register n) = None
field_of kind operand.Immediate = Some (field.Number (data_size kind.width))
field_of kind (operand.Memory b) = base_field b
field_of kind (operand.Indexed b x) = base_field b
field_of kind operand.Branch = Some (field.Relative (branch_size kind.width))

abbrev pub takes_branch : Letter → Bool
takes_branch letter.Read = false
takes_branch letter.Modify = false
takes_branch letter.Write = false
takes_branch letter.Address = false
takes_branch letter.Field = false
takes_branch letter.Branch = true

-- PC has a displacement alone
abbrev pub base_stands : Base → Bool
base_stands (base.Deferred n) = nat_lt n 15
base_stands (base.Decrement n) = nat_lt n 15
base_stands (base.Increment n) = nat_lt n 15
base_stands (base.IncrementDeferred n) = nat_lt n 15
base_stands base.Absolute = true
base_stands (base.Displaced size n) = nat_lt n 16
base_stands (base.DisplacedDeferred size n) = nat_lt n 16
base_stands (base.Relative size) = true
base_stands (base.RelativeDeferred size) = true

-- an index is no register that its base changes
abbrev pub takes_index : Base → ℕ → Bool
takes_index (base.Deferred n) x = true
takes_index (base.Decrement n) x = not (n == x)
takes_index (base.Increment n) x = not (n == x)
takes_index (base.IncrementDeferred n) x = not (n == x)
takes_index base.Absolute x = true
takes_index (base.Displaced size n) x = true
takes_index (base.DisplacedDeferred size n) x = true
takes_index (base.Relative size) x = true
takes_index (base.RelativeDeferred size) x = true

-- An operand may stand where its bytes are read back as this operand.
abbrev pub may_stand : OperandKind → Operand → Bool
may_stand kind operand.Branch = takes_branch kind.letter
may_stand kind operand.Literal = is_read kind.letter
may_stand kind (operand.Register n) = nat_lt n 15 && not (kind.width == 8 && n == 14) && takes_register kind.letter
may_stand kind operand.Immediate = not (is_result kind.letter)
may_stand kind (operand.Memory b) = base_stands b && not (takes_branch kind.letter)
may_stand kind (operand.Indexed b x) = nat_lt x 15 && base_stands b && takes_index b x && not (takes_branch kind.letter)

-- The operand that the bytes are, where its field holds this number. A displacement is signed, as 32 bits.
abbrev pub width_of : Narrow → ℕ
width_of narrow.B = 1
width_of narrow.W = 2
width_of narrow.L = 4

abbrev pub place_of : Base → ℕ → grammar.Place
place_of (base.Deferred n) number = grammar.Deferred n
place_of (base.Decrement n) number = grammar.Decrement n
place_of (base.Increment n) number = grammar.Increment n
place_of (base.IncrementDeferred n) number = grammar.IncrementDeferred n
place_of base.Absolute number = grammar.Absolute number
place_of (base.Displaced size n) number = grammar.Displaced (width_of size) number n
place_of (base.DisplacedDeferred size n) number = grammar.DisplacedDeferred (width_of size) number n
place_of (base.Relative size) number = grammar.Displaced (width_of size) number 15
place_of (base.RelativeDeferred size) number = grammar.DisplacedDeferred (width_of size) number 15

abbrev pub specifier_of : Operand → ℕ → grammar.Specifier
specifier_of operand.Literal number = grammar.Literal number
specifier_of (operand.Register n) number = grammar.Register n
specifier_of operand.Immediate number = grammar.Immediate number
specifier_of (operand.Memory b) number = grammar.InMemory (place_of b number)
specifier_of (operand.Indexed b x) number = grammar.Indexed (place_of b number) x
specifier_of operand.Branch number = grammar.BranchBy number
