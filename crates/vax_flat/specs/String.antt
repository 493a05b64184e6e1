-- What string instructions share (VAX Architecture Reference Manual, character string instructions). Lengths and addresses of the strings, with
-- how much is done of an instruction that was left between two of its units, are its progress; between two parts it stands in R0 to R5.
use Rattle.std.specs.Prelude.{ℕ, ◌≡◌, ◌<◌, ◌+◌, ◌-◌, ◌*◌, ◌/◌, ◌%◌, ◌^◌, ◌==◌, nat_le, if◌then◌else◌, List, [], ◌∷◌, ◌++◌, length, slice_index}
use Rattle.vax_word.specs.declared.Psl.{Psl}
use Rattle.vax_word.specs.declared.Codes.{Codes}
use Rattle.vax_strpart.specs.declared.packing.Progress.{Progress}
use Rattle.vax_strpart.specs.Packing.{packed, unpacked}
use Rattle.vax_flat.specs.declared.Flow.{Flow}
use Rattle.vax_flat.specs.declared.Flow.TheVariants.{Done, More}
use Rattle.vax_flat.specs.State.{State, register, with_register, with_psl, with_conditions, mode}
use Rattle.vax_flat.specs.Accesses.{Accesses, ReadsRun, WritesRun, Leaf}
use Rattle.vax_flat.specs.Operand.{plus}

-- R0 to R5
unfoldable pub low_registers : State → List ℕ
low_registers s = register s 0 ∷ register s 1 ∷ register s 2 ∷ register s 3 ∷ register s 4 ∷ register s 5 ∷ []

unfoldable pub with_low : List ℕ → State → State
with_low values s =
    let s = with_register s 0 (slice_index values 0) in
    let s = with_register s 1 (slice_index values 1) in
    let s = with_register s 2 (slice_index values 2) in
    let s = with_register s 3 (slice_index values 3) in
    let s = with_register s 4 (slice_index values 4) in
    with_register s 5 (slice_index values 5)

-- bit 27 of the processor status, first part done
abbrev pub part_done : Psl → Psl
part_done psl = record { 0 = psl.0 / 2 ^ 28 * 2 ^ 28 + 2 ^ 27 + psl.0 % 2 ^ 27 }

abbrev pub no_part_done : Psl → Psl
no_part_done psl = record { 0 = psl.0 / 2 ^ 28 * 2 ^ 28 + psl.0 % 2 ^ 27 }

-- an instruction of so many bytes is left: PC is back at it, and its first part is done
unfoldable pub left : ℕ → State → State
left delta s = with_psl (with_register s 15 (plus (register s 15) (2 ^ 32 - delta))) (part_done s.core.psl)

-- it is gone on with
unfoldable pub continued : ℕ → State → State
continued delta s = with_psl (with_register s 15 (plus (register s 15) delta)) (no_part_done s.core.psl)

-- the state between two parts
unfoldable pub suspended : Progress → State → State
suspended p s = left p.delta (with_low (packed p (low_registers s)) s)

-- a part of so many units is done, and this remains
unfoldable pub leaves : Progress → ℕ → State → (Flow → State → Accesses Leaf) → Accesses Leaf
leaves p units s next = next (More p.op units) (suspended p s)

-- the instruction is completed, with R0 to R5 and the codes
unfoldable pub completed : List ℕ → Codes → State → (Flow → State → Accesses Leaf) → Accesses Leaf
completed values codes s next = next Done (with_low values (with_conditions s codes))

-- an instruction with this opcode is gone on with, by the registers alone
abbrev pub from_registers : ℕ → (Progress → State → (Flow → State → Accesses Leaf) → Accesses Leaf) → State → (Flow → State → Accesses Leaf) → Accesses Leaf
from_registers opcode tree s next =
    let p = unpacked opcode (low_registers s) in
    tree p (continued p.delta s) next

-- a run of bytes, in the current access mode
unfoldable pub read_run_at : ℕ → ℕ → State → (List ℕ → State → Accesses Leaf) → Accesses Leaf
read_run_at addr len s next = ReadsRun addr len (mode s) (λ bytes. next bytes s)

unfoldable pub write_run_at : ℕ → List ℕ → State → (State → Accesses Leaf) → Accesses Leaf
write_run_at addr bytes s next = WritesRun addr bytes (mode s) (next s)

-- the bytes from an address to the end of its page
abbrev pub to_page_end : ℕ → ℕ
to_page_end addr = 512 - addr % 512

-- How many bytes from an address up, or down, lie in its page or in another that is beside it; at most 512 count.
unfoldable pub room_up : ℕ → ℕ → ℕ
room_up addr page = if page == addr / 512 + 1 then 512 else to_page_end addr

unfoldable pub room_down : ℕ → ℕ → ℕ
room_down addr page = if addr / 512 == page + 1 then 512 else addr % 512 + 1

-- a run of at most 512 bytes that may go on in the next page
unfoldable pub read_span : ℕ → ℕ → State → (List ℕ → State → Accesses Leaf) → Accesses Leaf
read_span addr len s next =
    if nat_le len (to_page_end addr) then read_run_at addr len s next
    else read_run_at addr (to_page_end addr) s (λ low s.
    read_run_at (plus addr (to_page_end addr)) (len - to_page_end addr) s (λ high s. next (low ++ high) s))

-- a state in which a part may begin: sixteen registers, PC an address, and no part done
pub record IsReady (s : State) : Type 0 where
  pub full : length s.core.regs ≡ 16
  pub pc : register s 15 < 2 ^ 32
  pub clear : s.core.psl.0 / 2 ^ 27 % 2 ≡ 0
