-- A whole instruction.
use Rattle.std.proofs.Common.{◌≡◌, ℕ, ◌<◌, Option, Some, None, List, [], ◌∷◌, length, take, drop, refl, ap, ◌∙◌, subst, arith}
use Rattle.std.specs.Prelude.{option_map, All}
use Rattle.std.proofs.lemmas.List.{length-take, get_or-take}
use Rattle.std.proofs.Math.Seq.{take-append_seam}
use Rattle.vax_isa.specs.declared.Row.{Row}
use Rattle.vax_isa.specs.Instructions.{Instruction}
use Rattle.vax_isa.specs.Rows.{Plain, plain, row_of, with_opcode, IsKind, IsFormed}
use Rattle.vax_flat.specs.Grammar.{Sequence, End, ReservedHere, Next, read_operands, IsUnreserved}
use Rattle.vax_disasm.specs.Text.{instruction_text}
use Rattle.vax_disasm.specs.Listed.{Listing, is_unreserved, unreserved, behind, listing, listed, listed_row, IsDecoded}

-- the instruction of a row
pub record HasRow (row : Row) (w : Option Instruction) : Type 0 where
  pub instruction : Instruction
  pub there : w ≡ Some instruction
  pub same : plain row ≡ row_of instruction

pub has_row : (row : Row) (w : Option Instruction) → option_map plain (Some row) ≡ option_map row_of w → HasRow row w
has_row row None e = absurd cc
has_row row (Some i) e = record { instruction = i; there = refl; same = cc }

pub no_row : (w : Option Instruction) → option_map plain None ≡ option_map row_of w → w ≡ None
no_row None e = refl
no_row (Some i) e = cc

pub kinds_are : (row : Row) (i : Instruction) → plain row ≡ row_of i → take row.count row.operands ≡ i.operands
kinds_are row i e =
    let count : row.count ≡ length i.operands = ap (λ (p : Plain). p.count) e in
    let all : row.operands ≡ (row_of i).operands = ap (λ (p : Plain). p.operands) e in
    rw (count, all) (take-append_seam i.operands _)

pub all_kinds : (row : Row) → IsFormed (plain row) → All IsKind (take row.count row.operands)
all_kinds row f k d h =
    let less : k < row.count = omega (arith, length-take row.count row.operands) in
    rw (get_or-take row.count row.operands k d less) (f.kinds k d less)

pub listed_by : (bytes rest : List ℕ) (code addr : ℕ) (i : Instruction) (o : Option Listing) → bytes ≡ code ∷ rest → with_opcode code ≡ Some i
    → o ≡ option_map (behind 1 i.name 32 addr) (unreserved (read_operands i.operands (drop 1 bytes))) → o ≡ listed bytes addr
unfolding listed instruction_text
listed_by bytes rest code addr i o b w e = e ∙ rw (b, w) refl

pub unlisted : (bytes rest : List ℕ) (code addr : ℕ) → bytes ≡ code ∷ rest → with_opcode code ≡ None → None ≡ listed bytes addr
unfolding listed
unlisted bytes rest code addr b w = rw (b, w) refl

pub nothing_listed : (bytes : List ℕ) (addr : ℕ) → length bytes ≡ 0 → None ≡ listed bytes addr
unfolding listed
nothing_listed [] addr b = refl
nothing_listed (opcode ∷ rest) addr b = absurd (omega arith)

-- what is listed is an instruction of the grammar

abbrev Same : Option Sequence → Option Sequence → Type 0
Same q None = (s : Sequence) → q ≡ Some s → IsUnreserved s → ⊥
Same q (Some s) = (q ≡ Some s) × IsUnreserved s

same_next : (q : Sequence) → Same (Some q) (is_unreserved q)
same_next End = (refl, tt)
same_next (ReservedHere count) = λ s e u. let same : s ≡ ReservedHere count = cc in subst (λ (t : Sequence). IsUnreserved t) same u
same_next (Next kind specifier count rest) = elim (is_unreserved rest) as (λ (r : Option Sequence). Same (Some rest) r → Same (Some (Next kind specifier count rest)) (option_map (Next kind specifier count) r)) [
  | None ↦ λ h s e u. let same : s ≡ Next kind specifier count rest = cc in h rest refl (subst (λ (t : Sequence). IsUnreserved t) same u)
  | Some r ↦ λ h. let same : rest ≡ r = let e = h.0 in cc in (ap (λ (t : Sequence). Some (Next kind specifier count t)) same, h.1)
] (same_next rest)

same_read : (q : Option Sequence) → Same q (unreserved q)
same_read None = λ s e u. absurd cc
same_read (Some q) = same_next q

row_decoded : (addr opcode : ℕ) (rest : List ℕ) (i : Instruction) (u : Option Sequence) → with_opcode opcode ≡ Some i → Same (read_operands i.operands rest) u → IsDecoded (opcode ∷ rest) addr (option_map (listing addr i) u)
row_decoded addr opcode rest i None w h = λ row operands count is.
    let parts : opcode ∷ rest ≡ is.opcode ∷ is.rest = is.split in
    let head : is.opcode ≡ opcode = cc in
    let tail : is.rest ≡ rest = cc in
    let listed_here : with_opcode opcode ≡ Some row = rw head at is.listed in
    let row_is : row ≡ i = cc in
    let read : read_operands i.operands rest ≡ Some operands = rw (tail, row_is) at is.read in
    h operands read is.unreserved
row_decoded addr opcode rest i (Some s) w h =
    (i, s, record { opcode = opcode; rest = rest; split = refl; listed = w; read = h.0; unreserved = h.1; counted = refl }, refl)

opcode_decoded : (addr opcode : ℕ) (rest : List ℕ) (w : Option Instruction) → with_opcode opcode ≡ w → IsDecoded (opcode ∷ rest) addr (listed_row addr w rest)
opcode_decoded addr opcode rest None w = λ row operands count is.
    let parts : opcode ∷ rest ≡ is.opcode ∷ is.rest = is.split in
    let head : is.opcode ≡ opcode = cc in
    let listed_here : with_opcode opcode ≡ Some row = rw head at is.listed in
    absurd (cc)
opcode_decoded addr opcode rest (Some i) w = row_decoded addr opcode rest i (unreserved (read_operands i.operands rest)) w (same_read (read_operands i.operands rest))

pub decoded : (bytes : List ℕ) (addr : ℕ) → IsDecoded bytes addr (listed bytes addr)
unfolding listed
decoded [] addr = λ row operands count is. let nothing : [] ≡ is.opcode ∷ is.rest = is.split in absurd cc
decoded (opcode ∷ rest) addr = opcode_decoded addr opcode rest (with_opcode opcode) refl
