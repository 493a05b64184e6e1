-- The bytes of an instruction are read back as the instruction.
use Rattle.std.proofs.Common.{◌≡◌, ℕ, zero, suc, ◌+◌, ◌/◌, List, [], ◌∷◌, ◌++◌, length, map, Some, refl, arith, true}
use Rattle.std.specs.Prelude.{All}
use Rattle.std.proofs.lemmas.List.Elements.{All-head, All-tail}
use Rattle.std.proofs.lemmas.List.{append_assoc, length-append, drop_at}
use Rattle.vax_isa.specs.Instructions.{Instruction}
use Rattle.vax_isa.specs.Rows.{IsKind, with_opcode}
use Rattle.vax_isa.specs.declared.OperandKind.{OperandKind}
use Rattle.vax_flat.specs.Grammar.{Reads, IsInstruction, IsUnreserved, read_operand, read_operands, followed, total}
use Rattle.vax_asm_encode.specs.Bytes.{HoldsIn, low_bytes, bytes_of, place_bytes, base_width, operand_bytes}
use Rattle.vax_asm_encode.specs.Operands.{field_of, may_stand, place_of, specifier_of, width_of}
use Rattle.vax_asm_encode.specs.declared.operand.Base.{Base}
use Rattle.vax_asm_encode.specs.declared.operand.Base.TheVariants as base
use Rattle.vax_asm_encode.specs.declared.operand.Operand.{Operand}
use Rattle.vax_asm_encode.specs.declared.operand.Operand.TheVariants as operand
use Rattle.vax_asm_encode.proofs.Standing.{reads_back}
use Rattle.vax_asm_instruction.specs.Bytes.{Held, held_bytes, operands_bytes, instruction_bytes, sequence_of}
use Rattle.vax_asm_instruction.specs.Placing.{operand_length}

-- the operand may stand where it stands, and its field can hold the number
pub record IsSound (h : Held) : Type 0 where
  pub kind : IsKind h.kind
  pub stands : may_stand h.kind h.operand ≡ true
  pub holds : HoldsIn (field_of h.kind h.operand) h.number

one_back : (h : Held) (sound : IsSound h) (rest : List ℕ) → read_operand h.kind (held_bytes h ++ rest) ≡ Some (Reads (specifier_of h.operand h.number) (length (held_bytes h)))
one_back h sound rest = reads_back h.kind h.operand h.number sound.kind sound.stands sound.holds rest

operands_back : (hs : List Held) → All IsSound hs → (rest : List ℕ) → read_operands (map (λ h. h.kind) hs) (operands_bytes hs ++ rest) ≡ Some (sequence_of hs)
unfolding read_operands followed
operands_back [] sound rest = refl
operands_back (h ∷ hs) sound rest =
    rw (append_assoc (held_bytes h) (operands_bytes hs) rest, one_back h (All-head IsSound h hs sound) (operands_bytes hs ++ rest), drop_at (held_bytes h) (operands_bytes hs ++ rest) (length (held_bytes h)) refl, operands_back hs (All-tail IsSound h hs sound) rest) refl

unreserved : (hs : List Held) → IsUnreserved (sequence_of hs)
unreserved [] = tt
unreserved (h ∷ hs) = unreserved hs

totalled : (hs : List Held) → total (sequence_of hs) ≡ length (operands_bytes hs)
unfolding total
totalled [] = refl
totalled (h ∷ hs) = rw (length-append (held_bytes h) (operands_bytes hs), totalled hs) refl

pub read_back : (code : ℕ) (hs : List Held) (i : Instruction) (rest : List ℕ) → All IsSound hs → with_opcode code ≡ Some i → i.operands ≡ map (λ h. h.kind) hs →
    IsInstruction (instruction_bytes code hs ++ rest) i (sequence_of hs) (length (instruction_bytes code hs))
read_back code hs i rest sound listed kinds = record {
  opcode = code;
  rest = operands_bytes hs ++ rest;
  split = refl;
  listed = listed;
  read = rw kinds (operands_back hs sound rest);
  unreserved = unreserved hs;
  counted = rw (totalled hs) (omega arith);
}

-- How long the bytes of an operand are.
low_length : (width n : ℕ) → length (low_bytes width n) ≡ width
unfolding low_bytes
low_length zero n = refl
low_length (suc width) n = let more : length (low_bytes width (n / 256)) ≡ width = low_length width (n / 256) in omega arith

place_length : (b : Base) (n : ℕ) → length (place_bytes (place_of b n)) ≡ 1 + base_width b
place_length (base.Deferred r) n = refl
place_length (base.Decrement r) n = refl
place_length (base.Increment r) n = refl
place_length (base.IncrementDeferred r) n = refl
place_length base.Absolute n = let more = low_length 4 n in omega arith
place_length (base.Displaced size r) n = let more = low_length (width_of size) n in omega arith
place_length (base.DisplacedDeferred size r) n = let more = low_length (width_of size) n in omega arith
place_length (base.Relative size) n = let more = low_length (width_of size) n in omega arith
place_length (base.RelativeDeferred size) n = let more = low_length (width_of size) n in omega arith

pub operand_is_long : (kind : OperandKind) (o : Operand) (n : ℕ) → length (operand_bytes kind o n) ≡ operand_length kind o
unfolding bytes_of
operand_is_long kind operand.Literal n = refl
operand_is_long kind (operand.Register r) n = refl
operand_is_long kind operand.Immediate n = let more = low_length kind.width n in omega arith
operand_is_long kind (operand.Memory b) n = place_length b n
operand_is_long kind (operand.Indexed b x) n = let more = place_length b n in omega arith
operand_is_long kind operand.Branch n = low_length kind.width n
