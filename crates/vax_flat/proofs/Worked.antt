-- The grammar at worked rows, with what the manual's table of addressing modes gives for each.
use Rattle.std.proofs.Common.{◌≡◌, Some, None, [], ◌∷◌, refl}
use Rattle.vax_isa.specs.Instructions.{Al, Bb, Bw, Ml, Rb, Rl, Rq, Vb, Wl, instructions}
use Rattle.vax_isa.specs.Rows.{with_opcode}
use Rattle.vax_flat.specs.Operand.{form_of, extended, is_reserved, is_no_base}
use Rattle.vax_flat.specs.Evaluation.{kinds_of}
use Rattle.vax_flat.specs.Grammar.{Deferred, Decrement, Increment, IncrementDeferred, Absolute, Displaced, DisplacedDeferred, Literal, Register, Immediate, InMemory, Indexed, BranchBy, Reads, Reserved, Next, End, value_of_bytes, piece, placed, based, unindexed, incremented, in_a_register, read_form, read_specifier, read_displacement, read_operand, read_operands, followed}

-- MOVL S^#5,R1 behind its opcode
movl : read_operands (kinds_of (with_opcode 0xD0)) (0x05 ∷ 0x51 ∷ []) ≡ Some (Next Rl (Literal 5) 1 (Next Wl (Register 1) 1 End))
unfolding form_of with_opcode instructions read_operands followed in_a_register read_form read_specifier read_operand
movl = refl

-- SOBGTR R2 behind its opcode, with a displacement of -3
sobgtr : read_operands (Ml ∷ Bb ∷ []) (0x52 ∷ 0xFD ∷ []) ≡ Some (Next Ml (Register 2) 1 (Next Bb (BranchBy 0xFFFFFFFD) 1 End))
unfolding form_of extended read_operands followed value_of_bytes piece in_a_register read_form read_specifier read_displacement read_operand
sobgtr = refl

-- forms of memory, and immediates
forms : (read_operand Rl (0x8F ∷ 0x04 ∷ 0x03 ∷ 0x02 ∷ 0x01 ∷ []) ≡ Some (Reads (Immediate 0x01020304) 5))
    × (read_operand Rb (0x8F ∷ 0x04 ∷ 0x03 ∷ []) ≡ Some (Reads (Immediate 0x04) 2))
    × (read_operand Al (0x8F ∷ 0x04 ∷ 0x03 ∷ 0x02 ∷ 0x01 ∷ []) ≡ Some (Reads (Immediate 0x01020304) 5))
    × (read_operand Rl (0x9F ∷ 0x00 ∷ 0x02 ∷ 0x00 ∷ 0x80 ∷ []) ≡ Some (Reads (InMemory (Absolute 0x80000200)) 5))
    × (read_operand Rl (0xE1 ∷ 0xFC ∷ 0xFF ∷ 0xFF ∷ 0xFF ∷ []) ≡ Some (Reads (InMemory (Displaced 4 0xFFFFFFFC 1)) 5))
    × (read_operand Rl (0xDE ∷ 0x00 ∷ 0x80 ∷ []) ≡ Some (Reads (InMemory (DisplacedDeferred 2 0xFFFF8000 14)) 3))
    × (read_operand Rl (0xAF ∷ 0x10 ∷ []) ≡ Some (Reads (InMemory (Displaced 1 0x10 15)) 2))
    × (read_operand Wl (0x63 ∷ []) ≡ Some (Reads (InMemory (Deferred 3)) 1))
    × (read_operand Wl (0x7E ∷ []) ≡ Some (Reads (InMemory (Decrement 14)) 1))
    × (read_operand Wl (0x83 ∷ []) ≡ Some (Reads (InMemory (Increment 3)) 1))
    × (read_operand Wl (0x93 ∷ []) ≡ Some (Reads (InMemory (IncrementDeferred 3)) 1))
    × (read_operand Rl (0x42 ∷ 0x63 ∷ []) ≡ Some (Reads (Indexed (Deferred 3) 2) 2))
    × (read_operand Rl (0x44 ∷ 0xA4 ∷ 0xFF ∷ []) ≡ Some (Reads (Indexed (Displaced 1 0xFFFFFFFF 4) 4) 3))
    × (read_operand Rl (0x43 ∷ 0x9F ∷ 0x00 ∷ 0x02 ∷ 0x00 ∷ 0x80 ∷ []) ≡ Some (Reads (Indexed (Absolute 0x80000200) 3) 6))
    × (read_operand Bw (0x00 ∷ 0x80 ∷ []) ≡ Some (Reads (BranchBy 0xFFFF8000) 2))
    × (read_operand Rq (0x5D ∷ []) ≡ Some (Reads (Register 13) 1))
unfolding form_of extended is_reserved is_no_base value_of_bytes piece placed based unindexed incremented in_a_register read_form read_specifier read_displacement read_operand
forms = (refl, refl, refl, refl, refl, refl, refl, refl, refl, refl, refl, refl, refl, refl, refl, refl)

-- reserved addressing modes
reserved : (read_operand Rl (0x43 ∷ 0x83 ∷ []) ≡ Some (Reserved 2))
    × (read_operand Rl (0x43 ∷ 0x73 ∷ []) ≡ Some (Reserved 2))
    × (read_operand Rl (0x43 ∷ 0x93 ∷ []) ≡ Some (Reserved 2))
    × (read_operand Rl (0x43 ∷ 0x05 ∷ []) ≡ Some (Reserved 2))
    × (read_operand Rl (0x43 ∷ 0x44 ∷ []) ≡ Some (Reserved 2))
    × (read_operand Rl (0x43 ∷ 0x54 ∷ []) ≡ Some (Reserved 2))
    × (read_operand Rl (0x43 ∷ 0x8F ∷ []) ≡ Some (Reserved 2))
    × (read_operand Rl (0x4F ∷ []) ≡ Some (Reserved 1))
    × (read_operand Rl (0x5F ∷ []) ≡ Some (Reserved 1))
    × (read_operand Rl (0x6F ∷ []) ≡ Some (Reserved 1))
    × (read_operand Rl (0x7F ∷ []) ≡ Some (Reserved 1))
    × (read_operand Rq (0x5E ∷ []) ≡ Some (Reserved 1))
    × (read_operand Al (0x50 ∷ []) ≡ Some (Reserved 1))
    × (read_operand Wl (0x8F ∷ []) ≡ Some (Reserved 1))
    × (read_operand Ml (0x8F ∷ []) ≡ Some (Reserved 1))
    × (read_operand Wl (0x05 ∷ []) ≡ Some (Reserved 1))
    × (read_operand Vb (0x05 ∷ []) ≡ Some (Reserved 1))
unfolding form_of extended is_reserved is_no_base value_of_bytes piece placed based unindexed incremented in_a_register read_form read_specifier read_displacement read_operand
reserved = (refl, refl, refl, refl, refl, refl, refl, refl, refl, refl, refl, refl, refl, refl, refl, refl, refl)

-- bytes that end too early
short : (read_operand Rl [] ≡ None)
    × (read_operand Rl (0x42 ∷ []) ≡ None)
    × (read_operand Rl (0x8F ∷ 0x04 ∷ 0x03 ∷ 0x02 ∷ []) ≡ None)
    × (read_operand Rl (0xC1 ∷ 0x04 ∷ []) ≡ None)
    × (read_operand Bw (0x00 ∷ []) ≡ None)
unfolding form_of extended is_reserved is_no_base value_of_bytes piece placed based unindexed incremented in_a_register read_form read_specifier read_displacement read_operand
short = (refl, refl, refl, refl, refl)
