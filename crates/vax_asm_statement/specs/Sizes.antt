-- The operands that modes come to (VAX MACRO and Instruction Set Reference Manual, "Addressing modes").
use Rattle.std.specs.Prelude.{ℕ, Bool, true, ◌==◌, nat_lt, if◌then◌else◌, pos, negsuc, Option, Some, None, Result, Ok, Err, is_ok}
use Rattle.vax_isa.specs.declared.actions.Narrow.{Narrow}
use Rattle.vax_isa.specs.declared.actions.Narrow.TheVariants as narrow
use Rattle.vax_lex.specs.declared.value.Value.{Value}
use Rattle.vax_lex.specs.declared.value.Value.TheVariants as value
use Rattle.vax_lex.specs.declared.value.ExprError.{ExprError}
use Rattle.vax_asm_encode.specs.declared.operand.Base.{Base}
use Rattle.vax_asm_encode.specs.declared.operand.Base.TheVariants as base
use Rattle.vax_asm_encode.specs.declared.operand.Operand.{Operand}
use Rattle.vax_asm_encode.specs.declared.operand.Operand.TheVariants as operand
use Rattle.vax_asm_encode.specs.declared.operand.Field.{Field}
use Rattle.vax_asm_encode.specs.declared.operand.Field.TheVariants as field
use Rattle.vax_asm_encode.specs.Fields.{filled}
use Rattle.vax_asm_statement.specs.declared.modes.Mode.{Mode}
use Rattle.vax_asm_statement.specs.declared.modes.Mode.TheVariants as mode

abbrev pub holds : Field → (section at : ℕ) → Value → Bool
holds f section at v = is_ok (filled f section at v)

-- the shortest of the sizes whose field holds the value
abbrev pub shortest : Field → Field → (section at : ℕ) → Value → Narrow
shortest byte word section at v =
    if holds byte section at v then narrow.B else (if holds word section at v then narrow.W else narrow.L)

-- the shortest displacement for a known number, else a word
abbrev pub displaced_size : Result Value ExprError → Narrow
displaced_size (Ok (value.Absolute n)) = shortest (field.Displacement narrow.B) (field.Displacement narrow.W) 0 0 (value.Absolute n)
displaced_size (Ok (value.Section s offset)) = narrow.W
displaced_size (Ok (value.External i offset)) = narrow.W
displaced_size (Err e) = narrow.W

-- the shortest displacement to a known place of the section, else a longword
abbrev pub relative_size : (section at : ℕ) → Result Value ExprError → Narrow
relative_size section at (Ok (value.Section s offset)) =
    if s == section then shortest (field.Relative narrow.B) (field.Relative narrow.W) section at (value.Section s offset) else narrow.L
relative_size section at (Ok (value.Absolute n)) = narrow.L
relative_size section at (Ok (value.External i offset)) = narrow.L
relative_size section at (Err e) = narrow.L

-- a short literal for a known number from 0 to 63
abbrev pub constant : Result Value ExprError → Operand
constant (Ok (value.Absolute (pos n))) = if nat_lt n 64 then operand.Literal else operand.Immediate
constant (Ok (value.Absolute (negsuc n))) = operand.Immediate
constant (Ok (value.Section s offset)) = operand.Immediate
constant (Ok (value.External i offset)) = operand.Immediate
constant (Err e) = operand.Immediate

abbrev pub displaced_base : Narrow → Bool → ℕ → Base
displaced_base size deferred n = if deferred then base.DisplacedDeferred size n else base.Displaced size n

abbrev pub relative_base : Narrow → Bool → Base
relative_base size deferred = if deferred then base.RelativeDeferred size else base.Relative size

-- the size that is written, else this
abbrev pub given : Option Narrow → Narrow → Narrow
given (Some size) other = size
given None other = other

-- the place in memory that a mode names
abbrev pub base_of : Mode → (section at : ℕ) → Result Value ExprError → Option Base
base_of mode.Constant section at v = None
base_of mode.Literal section at v = None
base_of mode.Immediate section at v = None
base_of (mode.Register n) section at v = None
base_of (mode.Deferred n) section at v = Some (base.Deferred n)
base_of (mode.Decrement n) section at v = Some (base.Decrement n)
base_of (mode.Increment n) section at v = Some (base.Increment n)
base_of (mode.IncrementDeferred n) section at v = Some (base.IncrementDeferred n)
base_of (mode.PointerDeferred n) section at v = Some (displaced_base narrow.B true n)
base_of mode.Absolute section at v = Some base.Absolute
base_of (mode.Displaced size deferred n) section at v = Some (displaced_base (given size (displaced_size v)) deferred n)
base_of (mode.Relative size deferred) section at v = Some (relative_base (given size (relative_size section at v)) deferred)

abbrev pub outright : Mode → Result Value ExprError → Operand
outright mode.Constant v = constant v
outright mode.Literal v = operand.Literal
outright (mode.Register n) v = operand.Register n
outright _ v = operand.Immediate

-- an index is for a place alone
abbrev pub placed : Mode → Option ℕ → Option Base → Result Value ExprError → Option Operand
placed m (Some x) (Some b) v = Some (operand.Indexed b x)
placed m None (Some b) v = Some (operand.Memory b)
placed m None None v = Some (outright m v)
placed m (Some x) None v = None

abbrev pub sized : Mode → Option ℕ → (section at : ℕ) → Result Value ExprError → Option Operand
sized m index section at v = placed m index (base_of m section at v) v
