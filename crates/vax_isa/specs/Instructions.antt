-- The instructions (VAX MACRO and Instruction Set Reference Manual, instruction summary).
use Rattle.std.specs.Prelude.{ℕ, List, [], ◌∷◌, Some, None, codes, true, false}
use Prim.Native.String.{String}
use Rattle.vax_word.specs.declared.Size.TheVariants as size
use Rattle.vax_isa.specs.declared.OperandKind.{OperandKind}
use Rattle.vax_isa.specs.declared.Letter.{Letter}
use Rattle.vax_isa.specs.declared.Letter.TheVariants.{Read, Modify, Write, Address, Field, Branch}
use Rattle.vax_isa.specs.declared.actions.Action.{Action}
use Rattle.vax_isa.specs.declared.actions.Action.TheVariants as action
use Rattle.vax_isa.specs.declared.actions.Narrow.TheVariants as narrow
use Rattle.vax_isa.specs.declared.actions.Unary.TheVariants.{Move, Complement, Negate, ZeroExtend, Convert}
use Rattle.vax_isa.specs.declared.actions.Binary.TheVariants.{Add, Subtract, Multiply, Divide, BitSet, BitClear, ExclusiveOr, AddWithCarry, SubtractWithCarry}
use Rattle.vax_isa.specs.declared.actions.Integer.TheVariants as integer
use Rattle.vax_isa.specs.declared.actions.Condition.TheVariants as condition
use Rattle.vax_isa.specs.declared.actions.Relation.TheVariants as relation
use Rattle.vax_isa.specs.declared.actions.Control.TheVariants as control
use Rattle.vax_isa.specs.declared.actions.AccessMode.TheVariants as mode
use Rattle.vax_isa.specs.declared.actions.Field.TheVariants as field
use Rattle.vax_isa.specs.declared.actions.Call.TheVariants as call
use Rattle.vax_isa.specs.declared.actions.Queue.TheVariants as queue
use Rattle.vax_isa.specs.declared.actions.System.TheVariants as system
use Rattle.vax_isa.specs.declared.actions.Text.TheVariants as text
use Rattle.vax_isa.specs.Actions.{unary, two, three, by_one, branch}

-- an instruction as the manual lists it
pub record Instruction : Type 0 where
  pub opcode : ℕ
  pub name : List ℕ
  pub aliases : List (List ℕ)
  pub operands : List OperandKind
  pub action : Action

abbrev pub kind : Letter → ℕ → OperandKind
kind letter width = record { letter = letter; width = width }

-- the manual's operand notation: the access's letter, then the width's
abbrev pub Ab : OperandKind
Ab = kind Address 1

abbrev pub Aw : OperandKind
Aw = kind Address 2

abbrev pub Al : OperandKind
Al = kind Address 4

abbrev pub Aq : OperandKind
Aq = kind Address 8

abbrev pub Bb : OperandKind
Bb = kind Branch 1

abbrev pub Bw : OperandKind
Bw = kind Branch 2

abbrev pub Mb : OperandKind
Mb = kind Modify 1

abbrev pub Mw : OperandKind
Mw = kind Modify 2

abbrev pub Ml : OperandKind
Ml = kind Modify 4

abbrev pub Rb : OperandKind
Rb = kind Read 1

abbrev pub Rw : OperandKind
Rw = kind Read 2

abbrev pub Rl : OperandKind
Rl = kind Read 4

abbrev pub Rq : OperandKind
Rq = kind Read 8

abbrev pub Vb : OperandKind
Vb = kind Field 1

abbrev pub Wb : OperandKind
Wb = kind Write 1

abbrev pub Ww : OperandKind
Ww = kind Write 2

abbrev pub Wl : OperandKind
Wl = kind Write 4

abbrev pub Wq : OperandKind
Wq = kind Write 8

abbrev pub row : ℕ → String → List OperandKind → Action → Instruction
row opcode name operands what = record { opcode = opcode; name = codes name; aliases = []; operands = operands; action = what }

-- the same instruction with an alias, which comes first among its aliases
abbrev pub also : String → (Action → Instruction) → Action → Instruction
also alias instruction what = record (instruction what) { aliases = codes alias ∷ (instruction what).aliases }

-- the instruction, which does this
abbrev pub does : Action → (Action → Instruction) → Instruction
does what instruction = instruction what

-- every instruction, in the order of the opcodes; the others are reserved
unfoldable pub instructions : List Instruction
instructions =
    does (action.System system.Halt) (row 0x00 "HALT" []) ∷
    does (action.System system.NoOperation) (row 0x01 "NOP" []) ∷
    does (action.System system.Return) (row 0x02 "REI" []) ∷
    does (action.System system.Breakpoint) (row 0x03 "BPT" []) ∷
    does (action.Call call.Return) (row 0x04 "RET" []) ∷
    does (action.Control control.Return) (row 0x05 "RSB" []) ∷
    does (action.Integer integer.Index) (row 0x0A "INDEX" (Rl ∷ Rl ∷ Rl ∷ Rl ∷ Rl ∷ Wl ∷ [])) ∷
    does (action.System (system.Probe false)) (row 0x0C "PROBER" (Rb ∷ Rw ∷ Ab ∷ [])) ∷
    does (action.System (system.Probe true)) (row 0x0D "PROBEW" (Rb ∷ Rw ∷ Ab ∷ [])) ∷
    does (action.Queue queue.Insert) (row 0x0E "INSQUE" (Ab ∷ Ab ∷ [])) ∷
    does (action.Queue queue.Remove) (row 0x0F "REMQUE" (Ab ∷ Wl ∷ [])) ∷
    does (action.Control (control.BranchSubroutine narrow.B)) (row 0x10 "BSBB" (Bb ∷ [])) ∷
    does (branch condition.Always narrow.B) (row 0x11 "BRB" (Bb ∷ [])) ∷
    does (branch condition.NotEqual narrow.B) (also "BNEQU" (row 0x12 "BNEQ" (Bb ∷ []))) ∷
    does (branch condition.Equal narrow.B) (also "BEQLU" (row 0x13 "BEQL" (Bb ∷ []))) ∷
    does (branch condition.Greater narrow.B) (row 0x14 "BGTR" (Bb ∷ [])) ∷
    does (branch condition.LessOrEqual narrow.B) (row 0x15 "BLEQ" (Bb ∷ [])) ∷
    does (action.Control control.JumpSubroutine) (row 0x16 "JSB" (Ab ∷ [])) ∷
    does (action.Control control.Jump) (row 0x17 "JMP" (Ab ∷ [])) ∷
    does (branch condition.GreaterOrEqual narrow.B) (row 0x18 "BGEQ" (Bb ∷ [])) ∷
    does (branch condition.Less narrow.B) (row 0x19 "BLSS" (Bb ∷ [])) ∷
    does (branch condition.GreaterUnsigned narrow.B) (row 0x1A "BGTRU" (Bb ∷ [])) ∷
    does (branch condition.LessOrEqualUnsigned narrow.B) (row 0x1B "BLEQU" (Bb ∷ [])) ∷
    does (branch condition.OverflowClear narrow.B) (row 0x1C "BVC" (Bb ∷ [])) ∷
    does (branch condition.OverflowSet narrow.B) (row 0x1D "BVS" (Bb ∷ [])) ∷
    does (branch condition.CarryClear narrow.B) (also "BGEQU" (row 0x1E "BCC" (Bb ∷ []))) ∷
    does (branch condition.CarrySet narrow.B) (also "BLSSU" (row 0x1F "BCS" (Bb ∷ []))) ∷
    does (action.Text text.Move) (row 0x28 "MOVC3" (Rw ∷ Ab ∷ Ab ∷ [])) ∷
    does (action.Text text.Compare) (row 0x29 "CMPC3" (Rw ∷ Ab ∷ Ab ∷ [])) ∷
    does (action.Text text.Scan) (row 0x2A "SCANC" (Rw ∷ Ab ∷ Ab ∷ Rb ∷ [])) ∷
    does (action.Text text.Span) (row 0x2B "SPANC" (Rw ∷ Ab ∷ Ab ∷ Rb ∷ [])) ∷
    does (action.Text text.MoveFilled) (row 0x2C "MOVC5" (Rw ∷ Ab ∷ Rb ∷ Rw ∷ Ab ∷ [])) ∷
    does (action.Text text.CompareFilled) (row 0x2D "CMPC5" (Rw ∷ Ab ∷ Rb ∷ Rw ∷ Ab ∷ [])) ∷
    does (action.Text text.MoveTranslated) (row 0x2E "MOVTC" (Rw ∷ Ab ∷ Rb ∷ Ab ∷ Rw ∷ Ab ∷ [])) ∷
    does (action.Text text.MoveTranslatedUntil) (row 0x2F "MOVTUC" (Rw ∷ Ab ∷ Rb ∷ Ab ∷ Rw ∷ Ab ∷ [])) ∷
    does (action.Control (control.BranchSubroutine narrow.W)) (row 0x30 "BSBW" (Bw ∷ [])) ∷
    does (branch condition.Always narrow.W) (row 0x31 "BRW" (Bw ∷ [])) ∷
    does (unary Convert size.W size.L) (row 0x32 "CVTWL" (Rw ∷ Wl ∷ [])) ∷
    does (unary Convert size.W size.B) (row 0x33 "CVTWB" (Rw ∷ Wb ∷ [])) ∷
    does (action.Text text.Match) (row 0x39 "MATCHC" (Rw ∷ Ab ∷ Rw ∷ Ab ∷ [])) ∷
    does (action.Text text.Locate) (row 0x3A "LOCC" (Rb ∷ Rw ∷ Ab ∷ [])) ∷
    does (action.Text text.Skip) (row 0x3B "SKPC" (Rb ∷ Rw ∷ Ab ∷ [])) ∷
    does (unary ZeroExtend size.W size.L) (row 0x3C "MOVZWL" (Rw ∷ Wl ∷ [])) ∷
    does (action.Control (control.AddCompare narrow.W)) (row 0x3D "ACBW" (Rw ∷ Rw ∷ Mw ∷ Bw ∷ [])) ∷
    does (action.Integer (integer.MoveAddress size.W)) (row 0x3E "MOVAW" (Aw ∷ Wl ∷ [])) ∷
    does (action.Integer (integer.PushAddress size.W)) (row 0x3F "PUSHAW" (Aw ∷ [])) ∷
    does (action.Queue queue.AddAligned) (row 0x58 "ADAWI" (Rw ∷ Mw ∷ [])) ∷
    does (action.Integer (integer.Shift size.L)) (row 0x78 "ASHL" (Rb ∷ Rl ∷ Wl ∷ [])) ∷
    does (action.Integer (integer.Shift size.Q)) (row 0x79 "ASHQ" (Rb ∷ Rq ∷ Wq ∷ [])) ∷
    does (action.Integer integer.ExtendedMultiply) (row 0x7A "EMUL" (Rl ∷ Rl ∷ Rl ∷ Wq ∷ [])) ∷
    does (action.Integer integer.ExtendedDivide) (row 0x7B "EDIV" (Rl ∷ Rq ∷ Wl ∷ Wl ∷ [])) ∷
    does (action.Integer (integer.Clear size.Q)) (also "CLRD" (also "CLRG" (row 0x7C "CLRQ" (Wq ∷ [])))) ∷
    does (unary Move size.Q size.Q) (row 0x7D "MOVQ" (Rq ∷ Wq ∷ [])) ∷
    does (action.Integer (integer.MoveAddress size.Q)) (also "MOVAD" (also "MOVAG" (row 0x7E "MOVAQ" (Aq ∷ Wl ∷ [])))) ∷
    does (action.Integer (integer.PushAddress size.Q)) (also "PUSHAD" (also "PUSHAG" (row 0x7F "PUSHAQ" (Aq ∷ [])))) ∷
    does (two Add narrow.B) (row 0x80 "ADDB2" (Rb ∷ Mb ∷ [])) ∷
    does (three Add narrow.B) (row 0x81 "ADDB3" (Rb ∷ Rb ∷ Wb ∷ [])) ∷
    does (two Subtract narrow.B) (row 0x82 "SUBB2" (Rb ∷ Mb ∷ [])) ∷
    does (three Subtract narrow.B) (row 0x83 "SUBB3" (Rb ∷ Rb ∷ Wb ∷ [])) ∷
    does (two Multiply narrow.B) (row 0x84 "MULB2" (Rb ∷ Mb ∷ [])) ∷
    does (three Multiply narrow.B) (row 0x85 "MULB3" (Rb ∷ Rb ∷ Wb ∷ [])) ∷
    does (two Divide narrow.B) (row 0x86 "DIVB2" (Rb ∷ Mb ∷ [])) ∷
    does (three Divide narrow.B) (row 0x87 "DIVB3" (Rb ∷ Rb ∷ Wb ∷ [])) ∷
    does (two BitSet narrow.B) (row 0x88 "BISB2" (Rb ∷ Mb ∷ [])) ∷
    does (three BitSet narrow.B) (row 0x89 "BISB3" (Rb ∷ Rb ∷ Wb ∷ [])) ∷
    does (two BitClear narrow.B) (row 0x8A "BICB2" (Rb ∷ Mb ∷ [])) ∷
    does (three BitClear narrow.B) (row 0x8B "BICB3" (Rb ∷ Rb ∷ Wb ∷ [])) ∷
    does (two ExclusiveOr narrow.B) (row 0x8C "XORB2" (Rb ∷ Mb ∷ [])) ∷
    does (three ExclusiveOr narrow.B) (row 0x8D "XORB3" (Rb ∷ Rb ∷ Wb ∷ [])) ∷
    does (unary Negate size.B size.B) (row 0x8E "MNEGB" (Rb ∷ Wb ∷ [])) ∷
    does (action.Control (control.Case narrow.B)) (row 0x8F "CASEB" (Rb ∷ Rb ∷ Rb ∷ [])) ∷
    does (unary Move size.B size.B) (row 0x90 "MOVB" (Rb ∷ Wb ∷ [])) ∷
    does (action.Integer (integer.Compare narrow.B)) (row 0x91 "CMPB" (Rb ∷ Rb ∷ [])) ∷
    does (unary Complement size.B size.B) (row 0x92 "MCOMB" (Rb ∷ Wb ∷ [])) ∷
    does (action.Integer (integer.BitTest narrow.B)) (row 0x93 "BITB" (Rb ∷ Rb ∷ [])) ∷
    does (action.Integer (integer.Clear size.B)) (row 0x94 "CLRB" (Wb ∷ [])) ∷
    does (action.Integer (integer.Test narrow.B)) (row 0x95 "TSTB" (Rb ∷ [])) ∷
    does (by_one Add narrow.B) (row 0x96 "INCB" (Mb ∷ [])) ∷
    does (by_one Subtract narrow.B) (row 0x97 "DECB" (Mb ∷ [])) ∷
    does (unary Convert size.B size.L) (row 0x98 "CVTBL" (Rb ∷ Wl ∷ [])) ∷
    does (unary Convert size.B size.W) (row 0x99 "CVTBW" (Rb ∷ Ww ∷ [])) ∷
    does (unary ZeroExtend size.B size.L) (row 0x9A "MOVZBL" (Rb ∷ Wl ∷ [])) ∷
    does (unary ZeroExtend size.B size.W) (row 0x9B "MOVZBW" (Rb ∷ Ww ∷ [])) ∷
    does (action.Integer integer.Rotate) (row 0x9C "ROTL" (Rb ∷ Rl ∷ Wl ∷ [])) ∷
    does (action.Control (control.AddCompare narrow.B)) (row 0x9D "ACBB" (Rb ∷ Rb ∷ Mb ∷ Bw ∷ [])) ∷
    does (action.Integer (integer.MoveAddress size.B)) (row 0x9E "MOVAB" (Ab ∷ Wl ∷ [])) ∷
    does (action.Integer (integer.PushAddress size.B)) (row 0x9F "PUSHAB" (Ab ∷ [])) ∷
    does (two Add narrow.W) (row 0xA0 "ADDW2" (Rw ∷ Mw ∷ [])) ∷
    does (three Add narrow.W) (row 0xA1 "ADDW3" (Rw ∷ Rw ∷ Ww ∷ [])) ∷
    does (two Subtract narrow.W) (row 0xA2 "SUBW2" (Rw ∷ Mw ∷ [])) ∷
    does (three Subtract narrow.W) (row 0xA3 "SUBW3" (Rw ∷ Rw ∷ Ww ∷ [])) ∷
    does (two Multiply narrow.W) (row 0xA4 "MULW2" (Rw ∷ Mw ∷ [])) ∷
    does (three Multiply narrow.W) (row 0xA5 "MULW3" (Rw ∷ Rw ∷ Ww ∷ [])) ∷
    does (two Divide narrow.W) (row 0xA6 "DIVW2" (Rw ∷ Mw ∷ [])) ∷
    does (three Divide narrow.W) (row 0xA7 "DIVW3" (Rw ∷ Rw ∷ Ww ∷ [])) ∷
    does (two BitSet narrow.W) (row 0xA8 "BISW2" (Rw ∷ Mw ∷ [])) ∷
    does (three BitSet narrow.W) (row 0xA9 "BISW3" (Rw ∷ Rw ∷ Ww ∷ [])) ∷
    does (two BitClear narrow.W) (row 0xAA "BICW2" (Rw ∷ Mw ∷ [])) ∷
    does (three BitClear narrow.W) (row 0xAB "BICW3" (Rw ∷ Rw ∷ Ww ∷ [])) ∷
    does (two ExclusiveOr narrow.W) (row 0xAC "XORW2" (Rw ∷ Mw ∷ [])) ∷
    does (three ExclusiveOr narrow.W) (row 0xAD "XORW3" (Rw ∷ Rw ∷ Ww ∷ [])) ∷
    does (unary Negate size.W size.W) (row 0xAE "MNEGW" (Rw ∷ Ww ∷ [])) ∷
    does (action.Control (control.Case narrow.W)) (row 0xAF "CASEW" (Rw ∷ Rw ∷ Rw ∷ [])) ∷
    does (unary Move size.W size.W) (row 0xB0 "MOVW" (Rw ∷ Ww ∷ [])) ∷
    does (action.Integer (integer.Compare narrow.W)) (row 0xB1 "CMPW" (Rw ∷ Rw ∷ [])) ∷
    does (unary Complement size.W size.W) (row 0xB2 "MCOMW" (Rw ∷ Ww ∷ [])) ∷
    does (action.Integer (integer.BitTest narrow.W)) (row 0xB3 "BITW" (Rw ∷ Rw ∷ [])) ∷
    does (action.Integer (integer.Clear size.W)) (row 0xB4 "CLRW" (Ww ∷ [])) ∷
    does (action.Integer (integer.Test narrow.W)) (row 0xB5 "TSTW" (Rw ∷ [])) ∷
    does (by_one Add narrow.W) (row 0xB6 "INCW" (Mw ∷ [])) ∷
    does (by_one Subtract narrow.W) (row 0xB7 "DECW" (Mw ∷ [])) ∷
    does (action.System system.SetStatus) (row 0xB8 "BISPSW" (Rw ∷ [])) ∷
    does (action.System system.ClearStatus) (row 0xB9 "BICPSW" (Rw ∷ [])) ∷
    does (action.Call call.PopRegisters) (row 0xBA "POPR" (Rw ∷ [])) ∷
    does (action.Call call.PushRegisters) (row 0xBB "PUSHR" (Rw ∷ [])) ∷
    does (action.System (system.ChangeMode mode.Kernel)) (row 0xBC "CHMK" (Rw ∷ [])) ∷
    does (action.System (system.ChangeMode mode.Executive)) (row 0xBD "CHME" (Rw ∷ [])) ∷
    does (action.System (system.ChangeMode mode.Supervisor)) (row 0xBE "CHMS" (Rw ∷ [])) ∷
    does (action.System (system.ChangeMode mode.User)) (row 0xBF "CHMU" (Rw ∷ [])) ∷
    does (two Add narrow.L) (row 0xC0 "ADDL2" (Rl ∷ Ml ∷ [])) ∷
    does (three Add narrow.L) (row 0xC1 "ADDL3" (Rl ∷ Rl ∷ Wl ∷ [])) ∷
    does (two Subtract narrow.L) (row 0xC2 "SUBL2" (Rl ∷ Ml ∷ [])) ∷
    does (three Subtract narrow.L) (row 0xC3 "SUBL3" (Rl ∷ Rl ∷ Wl ∷ [])) ∷
    does (two Multiply narrow.L) (row 0xC4 "MULL2" (Rl ∷ Ml ∷ [])) ∷
    does (three Multiply narrow.L) (row 0xC5 "MULL3" (Rl ∷ Rl ∷ Wl ∷ [])) ∷
    does (two Divide narrow.L) (row 0xC6 "DIVL2" (Rl ∷ Ml ∷ [])) ∷
    does (three Divide narrow.L) (row 0xC7 "DIVL3" (Rl ∷ Rl ∷ Wl ∷ [])) ∷
    does (two BitSet narrow.L) (row 0xC8 "BISL2" (Rl ∷ Ml ∷ [])) ∷
    does (three BitSet narrow.L) (row 0xC9 "BISL3" (Rl ∷ Rl ∷ Wl ∷ [])) ∷
    does (two BitClear narrow.L) (row 0xCA "BICL2" (Rl ∷ Ml ∷ [])) ∷
    does (three BitClear narrow.L) (row 0xCB "BICL3" (Rl ∷ Rl ∷ Wl ∷ [])) ∷
    does (two ExclusiveOr narrow.L) (row 0xCC "XORL2" (Rl ∷ Ml ∷ [])) ∷
    does (three ExclusiveOr narrow.L) (row 0xCD "XORL3" (Rl ∷ Rl ∷ Wl ∷ [])) ∷
    does (unary Negate size.L size.L) (row 0xCE "MNEGL" (Rl ∷ Wl ∷ [])) ∷
    does (action.Control (control.Case narrow.L)) (row 0xCF "CASEL" (Rl ∷ Rl ∷ Rl ∷ [])) ∷
    does (unary Move size.L size.L) (row 0xD0 "MOVL" (Rl ∷ Wl ∷ [])) ∷
    does (action.Integer (integer.Compare narrow.L)) (row 0xD1 "CMPL" (Rl ∷ Rl ∷ [])) ∷
    does (unary Complement size.L size.L) (row 0xD2 "MCOML" (Rl ∷ Wl ∷ [])) ∷
    does (action.Integer (integer.BitTest narrow.L)) (row 0xD3 "BITL" (Rl ∷ Rl ∷ [])) ∷
    does (action.Integer (integer.Clear size.L)) (also "CLRF" (row 0xD4 "CLRL" (Wl ∷ []))) ∷
    does (action.Integer (integer.Test narrow.L)) (row 0xD5 "TSTL" (Rl ∷ [])) ∷
    does (by_one Add narrow.L) (row 0xD6 "INCL" (Ml ∷ [])) ∷
    does (by_one Subtract narrow.L) (row 0xD7 "DECL" (Ml ∷ [])) ∷
    does (two AddWithCarry narrow.L) (row 0xD8 "ADWC" (Rl ∷ Ml ∷ [])) ∷
    does (two SubtractWithCarry narrow.L) (row 0xD9 "SBWC" (Rl ∷ Ml ∷ [])) ∷
    does (action.System system.ToRegister) (row 0xDA "MTPR" (Rl ∷ Rl ∷ [])) ∷
    does (action.System system.FromRegister) (row 0xDB "MFPR" (Rl ∷ Wl ∷ [])) ∷
    does (action.System system.MoveStatus) (row 0xDC "MOVPSL" (Wl ∷ [])) ∷
    does (action.Integer integer.Push) (row 0xDD "PUSHL" (Rl ∷ [])) ∷
    does (action.Integer (integer.MoveAddress size.L)) (also "MOVAF" (row 0xDE "MOVAL" (Al ∷ Wl ∷ []))) ∷
    does (action.Integer (integer.PushAddress size.L)) (also "PUSHAF" (row 0xDF "PUSHAL" (Al ∷ []))) ∷
    does (action.Field (field.Branch true None)) (row 0xE0 "BBS" (Rl ∷ Vb ∷ Bb ∷ [])) ∷
    does (action.Field (field.Branch false None)) (row 0xE1 "BBC" (Rl ∷ Vb ∷ Bb ∷ [])) ∷
    does (action.Field (field.Branch true (Some true))) (row 0xE2 "BBSS" (Rl ∷ Vb ∷ Bb ∷ [])) ∷
    does (action.Field (field.Branch false (Some true))) (row 0xE3 "BBCS" (Rl ∷ Vb ∷ Bb ∷ [])) ∷
    does (action.Field (field.Branch true (Some false))) (row 0xE4 "BBSC" (Rl ∷ Vb ∷ Bb ∷ [])) ∷
    does (action.Field (field.Branch false (Some false))) (row 0xE5 "BBCC" (Rl ∷ Vb ∷ Bb ∷ [])) ∷
    does (action.Field (field.Branch true (Some true))) (row 0xE6 "BBSSI" (Rl ∷ Vb ∷ Bb ∷ [])) ∷
    does (action.Field (field.Branch false (Some false))) (row 0xE7 "BBCCI" (Rl ∷ Vb ∷ Bb ∷ [])) ∷
    does (action.Control (control.LowBit true)) (row 0xE8 "BLBS" (Rl ∷ Bb ∷ [])) ∷
    does (action.Control (control.LowBit false)) (row 0xE9 "BLBC" (Rl ∷ Bb ∷ [])) ∷
    does (action.Field (field.FindFirst true)) (row 0xEA "FFS" (Rl ∷ Rb ∷ Vb ∷ Wl ∷ [])) ∷
    does (action.Field (field.FindFirst false)) (row 0xEB "FFC" (Rl ∷ Rb ∷ Vb ∷ Wl ∷ [])) ∷
    does (action.Field (field.Compare true)) (row 0xEC "CMPV" (Rl ∷ Rb ∷ Vb ∷ Rl ∷ [])) ∷
    does (action.Field (field.Compare false)) (row 0xED "CMPZV" (Rl ∷ Rb ∷ Vb ∷ Rl ∷ [])) ∷
    does (action.Field (field.Extract true)) (row 0xEE "EXTV" (Rl ∷ Rb ∷ Vb ∷ Wl ∷ [])) ∷
    does (action.Field (field.Extract false)) (row 0xEF "EXTZV" (Rl ∷ Rb ∷ Vb ∷ Wl ∷ [])) ∷
    does (action.Field field.Insert) (row 0xF0 "INSV" (Rl ∷ Rl ∷ Rb ∷ Vb ∷ [])) ∷
    does (action.Control (control.AddCompare narrow.L)) (row 0xF1 "ACBL" (Rl ∷ Rl ∷ Ml ∷ Bw ∷ [])) ∷
    does (action.Control (control.AddOne relation.Less)) (row 0xF2 "AOBLSS" (Rl ∷ Ml ∷ Bb ∷ [])) ∷
    does (action.Control (control.AddOne relation.LessOrEqual)) (row 0xF3 "AOBLEQ" (Rl ∷ Ml ∷ Bb ∷ [])) ∷
    does (action.Control (control.SubtractOne relation.GreaterOrEqual)) (row 0xF4 "SOBGEQ" (Ml ∷ Bb ∷ [])) ∷
    does (action.Control (control.SubtractOne relation.Greater)) (row 0xF5 "SOBGTR" (Ml ∷ Bb ∷ [])) ∷
    does (unary Convert size.L size.B) (row 0xF6 "CVTLB" (Rl ∷ Wb ∷ [])) ∷
    does (unary Convert size.L size.W) (row 0xF7 "CVTLW" (Rl ∷ Ww ∷ [])) ∷
    does (action.Call call.WithList) (row 0xFA "CALLG" (Ab ∷ Ab ∷ [])) ∷
    does (action.Call call.WithStack) (row 0xFB "CALLS" (Rl ∷ Ab ∷ [])) ∷
    does (action.System system.Customer) (row 0xFC "XFC" []) ∷
    []
