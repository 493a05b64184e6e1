-- What instructions do, by the shapes that they share (VAX MACRO and Instruction Set Reference Manual, instruction descriptions).
use Rattle.std.specs.Prelude.{ℕ, List, [], ◌∷◌}
use Rattle.vax_word.specs.declared.Size.{Size}
use Rattle.vax_word.specs.declared.Size.TheVariants as size
use Rattle.vax_word.specs.Arithmetic.{bytes_of}
use Rattle.vax_isa.specs.declared.OperandKind.{OperandKind}
use Rattle.vax_isa.specs.declared.Letter.{Letter}
use Rattle.vax_isa.specs.declared.Letter.TheVariants.{Read, Modify, Write, Address, Branch}
use Rattle.vax_isa.specs.declared.Letter.TheVariants as letter
use Rattle.vax_isa.specs.declared.actions.Action.{Action}
use Rattle.vax_isa.specs.declared.actions.Action.TheVariants as action
use Rattle.vax_isa.specs.declared.actions.Narrow.{Narrow}
use Rattle.vax_isa.specs.declared.actions.Narrow.TheVariants as narrow
use Rattle.vax_isa.specs.declared.actions.Unary.{Unary}
use Rattle.vax_isa.specs.declared.actions.Binary.{Binary}
use Rattle.vax_isa.specs.declared.actions.Integer.{Integer}
use Rattle.vax_isa.specs.declared.actions.Integer.TheVariants as integer
use Rattle.vax_isa.specs.declared.actions.Condition.{Condition}
use Rattle.vax_isa.specs.declared.actions.Control.{Control}
use Rattle.vax_isa.specs.declared.actions.Control.TheVariants as control
use Rattle.vax_isa.specs.declared.actions.AccessMode.{AccessMode}
use Rattle.vax_isa.specs.declared.actions.AccessMode.TheVariants as mode
use Rattle.vax_isa.specs.declared.actions.Field.{Field}
use Rattle.vax_isa.specs.declared.actions.Field.TheVariants as field
use Rattle.vax_isa.specs.declared.actions.Call.{Call}
use Rattle.vax_isa.specs.declared.actions.Call.TheVariants as call
use Rattle.vax_isa.specs.declared.actions.Queue.{Queue}
use Rattle.vax_isa.specs.declared.actions.Queue.TheVariants as queue
use Rattle.vax_isa.specs.declared.actions.System.{System}
use Rattle.vax_isa.specs.declared.actions.System.TheVariants as system
use Rattle.vax_isa.specs.declared.actions.Text.{Text}
use Rattle.vax_isa.specs.declared.actions.Text.TheVariants as text

abbrev pub size_of : Narrow → Size
size_of narrow.B = size.B
size_of narrow.W = size.W
size_of narrow.L = size.L

-- the number of an access mode in the processor status
abbrev pub mode_number : AccessMode → ℕ
mode_number mode.Kernel = 0
mode_number mode.Executive = 1
mode_number mode.Supervisor = 2
mode_number mode.User = 3

-- actions, as the list of the instructions names them

abbrev pub unary : Unary → Size → Size → Action
unary operation from to = action.Integer (integer.Unary operation from to)

abbrev pub two : Binary → Narrow → Action
two operation size = action.Integer (integer.Two operation size)

abbrev pub three : Binary → Narrow → Action
three operation size = action.Integer (integer.Three operation size)

abbrev pub by_one : Binary → Narrow → Action
by_one operation size = action.Integer (integer.ByOne operation size)

abbrev pub branch : Condition → Narrow → Action
branch condition size = action.Control (control.Branch condition size)

-- the operands that an action takes

abbrev pub kind_of : Letter → Size → OperandKind
kind_of letter size = record { letter = letter; width = bytes_of size }

abbrev pub narrow_kind : Letter → Narrow → OperandKind
narrow_kind letter size = kind_of letter (size_of size)

abbrev pub of_integer : Integer → List OperandKind
of_integer (integer.Unary operation from to) = kind_of Read from ∷ kind_of Write to ∷ []
of_integer (integer.Two operation size) = narrow_kind Read size ∷ narrow_kind Modify size ∷ []
of_integer (integer.Three operation size) = narrow_kind Read size ∷ narrow_kind Read size ∷ narrow_kind Write size ∷ []
of_integer (integer.ByOne operation size) = narrow_kind Modify size ∷ []
of_integer (integer.Clear size) = kind_of Write size ∷ []
of_integer (integer.Test size) = narrow_kind Read size ∷ []
of_integer (integer.Compare size) = narrow_kind Read size ∷ narrow_kind Read size ∷ []
of_integer (integer.BitTest size) = narrow_kind Read size ∷ narrow_kind Read size ∷ []
of_integer (integer.Shift s) = kind_of Read size.B ∷ kind_of Read s ∷ kind_of Write s ∷ []
of_integer integer.Rotate = kind_of Read size.B ∷ kind_of Read size.L ∷ kind_of Write size.L ∷ []
of_integer (integer.MoveAddress s) = kind_of Address s ∷ kind_of Write size.L ∷ []
of_integer (integer.PushAddress s) = kind_of Address s ∷ []
of_integer integer.Push = kind_of Read size.L ∷ []
of_integer integer.ExtendedMultiply = kind_of Read size.L ∷ kind_of Read size.L ∷ kind_of Read size.L ∷ kind_of Write size.Q ∷ []
of_integer integer.ExtendedDivide = kind_of Read size.L ∷ kind_of Read size.Q ∷ kind_of Write size.L ∷ kind_of Write size.L ∷ []
of_integer integer.Index =
    kind_of Read size.L ∷ kind_of Read size.L ∷ kind_of Read size.L ∷ kind_of Read size.L ∷ kind_of Read size.L ∷ kind_of Write size.L ∷ []

abbrev pub of_control : Control → List OperandKind
of_control (control.Branch condition size) = narrow_kind Branch size ∷ []
of_control (control.BranchSubroutine size) = narrow_kind Branch size ∷ []
of_control control.Jump = kind_of Address size.B ∷ []
of_control control.JumpSubroutine = kind_of Address size.B ∷ []
of_control control.Return = []
of_control (control.LowBit set) = kind_of Read size.L ∷ kind_of Branch size.B ∷ []
of_control (control.AddOne relation) = kind_of Read size.L ∷ kind_of Modify size.L ∷ kind_of Branch size.B ∷ []
of_control (control.SubtractOne relation) = kind_of Modify size.L ∷ kind_of Branch size.B ∷ []
of_control (control.AddCompare s) = narrow_kind Read s ∷ narrow_kind Read s ∷ narrow_kind Modify s ∷ kind_of Branch size.W ∷ []
of_control (control.Case s) = narrow_kind Read s ∷ narrow_kind Read s ∷ narrow_kind Read s ∷ []

-- a field's position and size, and where it is based
abbrev field_kinds : List OperandKind → List OperandKind
field_kinds behind = kind_of Read size.L ∷ kind_of Read size.B ∷ kind_of letter.Field size.B ∷ behind

abbrev pub of_field : Field → List OperandKind
of_field (field.Extract signed) = field_kinds (kind_of Write size.L ∷ [])
of_field (field.Compare signed) = field_kinds (kind_of Read size.L ∷ [])
of_field field.Insert = kind_of Read size.L ∷ field_kinds []
of_field (field.FindFirst set) = field_kinds (kind_of Write size.L ∷ [])
of_field (field.Branch set becomes) = kind_of Read size.L ∷ kind_of letter.Field size.B ∷ kind_of Branch size.B ∷ []

abbrev pub of_call : Call → List OperandKind
of_call call.WithList = kind_of Address size.B ∷ kind_of Address size.B ∷ []
of_call call.WithStack = kind_of Read size.L ∷ kind_of Address size.B ∷ []
of_call call.Return = []
of_call call.PushRegisters = kind_of Read size.W ∷ []
of_call call.PopRegisters = kind_of Read size.W ∷ []

abbrev pub of_queue : Queue → List OperandKind
of_queue queue.Insert = kind_of Address size.B ∷ kind_of Address size.B ∷ []
of_queue queue.Remove = kind_of Address size.B ∷ kind_of Write size.L ∷ []
of_queue queue.AddAligned = kind_of Read size.W ∷ kind_of Modify size.W ∷ []

abbrev pub of_system : System → List OperandKind
of_system system.Halt = []
of_system system.NoOperation = []
of_system system.Breakpoint = []
of_system system.Customer = []
of_system system.Return = []
of_system (system.ChangeMode mode) = kind_of Read size.W ∷ []
of_system (system.Probe writing) = kind_of Read size.B ∷ kind_of Read size.W ∷ kind_of Address size.B ∷ []
of_system system.ToRegister = kind_of Read size.L ∷ kind_of Read size.L ∷ []
of_system system.FromRegister = kind_of Read size.L ∷ kind_of Write size.L ∷ []
of_system system.MoveStatus = kind_of Write size.L ∷ []
of_system system.SetStatus = kind_of Read size.W ∷ []
of_system system.ClearStatus = kind_of Read size.W ∷ []

-- the length of a string, and where it begins
abbrev string : List OperandKind → List OperandKind
string behind = kind_of Read size.W ∷ kind_of Address size.B ∷ behind

-- a string and the byte that stands past its end, or that ends it
abbrev string_with_byte : List OperandKind → List OperandKind
string_with_byte behind = string (kind_of Read size.B ∷ behind)

abbrev pub of_text : Text → List OperandKind
of_text text.Move = string (kind_of Address size.B ∷ [])
of_text text.MoveFilled = string_with_byte (string [])
of_text text.MoveTranslated = string_with_byte (kind_of Address size.B ∷ string [])
of_text text.MoveTranslatedUntil = string_with_byte (kind_of Address size.B ∷ string [])
of_text text.Compare = string (kind_of Address size.B ∷ [])
of_text text.CompareFilled = string_with_byte (string [])
of_text text.Locate = kind_of Read size.B ∷ string []
of_text text.Skip = kind_of Read size.B ∷ string []
of_text text.Scan = string (kind_of Address size.B ∷ kind_of Read size.B ∷ [])
of_text text.Span = string (kind_of Address size.B ∷ kind_of Read size.B ∷ [])
of_text text.Match = string (string [])

abbrev pub operands_of : Action → List OperandKind
operands_of (action.Integer i) = of_integer i
operands_of (action.Control c) = of_control c
operands_of (action.Field f) = of_field f
operands_of (action.Call c) = of_call c
operands_of (action.Queue q) = of_queue q
operands_of (action.System s) = of_system s
operands_of (action.Text t) = of_text t
