-- The lines of the bytes behind the first line.
use Rattle.std.proofs.Common.{◌≡◌, ◌<◌, ◌≤◌, ◌+◌, ◌-◌, ◌%◌, ◌^◌, ℕ, zero, suc, List, [], ◌∷◌, ◌++◌, length, drop, min, slice_index, Option, None, Some, option_map, refl, sym, ap, ◌∙◌, arith}
use Rattle.std.proofs.lemmas.List.{drop_min}
use Rattle.vax_isa.specs.Instructions.{Instruction}
use Rattle.vax_isa.specs.Rows.{with_opcode}
use Rattle.vax_flat.specs.Grammar.{Sequence, read_operands}
use Rattle.vax_disasm.specs.Listed.{listed, listed_row, listing, unreserved}
use Rattle.vax_listing.specs.Listing.{length_of, line, lines_from, text_of}

-- an instruction has its opcode at least

operands_some : (addr : ℕ) (row : Instruction) (operands : Option Sequence) → 1 ≤ length_of (option_map (listing addr row) operands)
operands_some addr row None = omega arith
operands_some addr row (Some operands) = omega arith

row_some : (addr : ℕ) (row : Option Instruction) (bytes : List ℕ) → 1 ≤ length_of (listed_row addr row bytes)
row_some addr None bytes = omega arith
row_some addr (Some row) bytes = operands_some addr row (unreserved (read_operands row.operands bytes))

some_length : (bytes : List ℕ) (addr : ℕ) → 1 ≤ length_of (listed bytes addr)
unfolding listed
some_length [] addr = omega arith
some_length (opcode ∷ bytes) addr = row_some addr (with_opcode opcode) bytes

-- no line begins in an instruction
passed : (before addr : ℕ) (bytes : List ℕ) → addr < 2 ^ 32 → lines_from before addr bytes ≡ lines_from 0 ((addr + before) % 2 ^ 32) (drop before bytes)
unfolding lines_from
passed zero addr bytes l = let e : addr ≡ (addr + 0) % 2 ^ 32 = omega (arith, l) in ap (λ (n : ℕ). lines_from 0 n bytes) e
passed (suc before) addr [] l = refl
passed (suc before) addr (byte ∷ bytes) l =
    let e : ((addr + 1) % 2 ^ 32 + before) % 2 ^ 32 ≡ (addr + suc before) % 2 ^ 32 = omega arith in
    passed before ((addr + 1) % 2 ^ 32) bytes (omega arith) ∙ ap (λ (n : ℕ). lines_from 0 n (drop before bytes)) e

-- the first line, and those behind it
pub first_line : (bytes : List ℕ) (addr count : ℕ) → 0 < length bytes → addr < 2 ^ 32 → count ≡ length_of (listed bytes addr) →
    lines_from 0 addr bytes ≡ line addr (text_of (slice_index bytes 0) (listed bytes addr)) ++ lines_from 0 ((addr + count) % 2 ^ 32) (drop (min count (length bytes)) bytes)
unfolding lines_from
first_line [] addr count some l e = absurd (omega (arith, some))
first_line (byte ∷ bytes) addr count some l e =
    let here = listed (byte ∷ bytes) addr in
    let behind : count ≡ suc (length_of here - 1) = let k = some_length (byte ∷ bytes) addr in omega (arith, e, k) in
    let next : ((addr + 1) % 2 ^ 32 + (length_of here - 1)) % 2 ^ 32 ≡ (addr + count) % 2 ^ 32 = omega (arith, behind) in
    let rest : drop (length_of here - 1) bytes ≡ drop (min count (length (byte ∷ bytes))) (byte ∷ bytes) = ap (λ (n : ℕ). drop n (byte ∷ bytes)) (sym behind) ∙ sym (drop_min count (byte ∷ bytes)) in
    ap (λ (z : List ℕ). line addr (text_of byte here) ++ z)
    (passed (length_of here - 1) ((addr + 1) % 2 ^ 32) bytes (omega arith) ∙ (ap (λ (n : ℕ). lines_from 0 n (drop (length_of here - 1) bytes)) next ∙ ap (λ (z : List ℕ). lines_from 0 ((addr + count) % 2 ^ 32) z) rest))

pub no_lines : (addr : ℕ) (bytes : List ℕ) → length bytes ≡ 0 → lines_from 0 addr bytes ≡ []
unfolding lines_from
no_lines addr [] none = refl
no_lines addr (byte ∷ bytes) none = absurd (cc none)
