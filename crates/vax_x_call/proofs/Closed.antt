-- The statuses of a procedure that is entered and of its caller leave no instruction open.
use Rattle.std.proofs.Common.{ℕ, ◌+◌, ◌*◌, ◌/◌, ◌%◌, ◌^◌, ◌≤◌, arith}
use Rattle.vax_word.specs.declared.Psl.{Psl}
use Rattle.vax_flat.specs.Call.{entry_status, return_status}
use Rattle.vax_undo.specs.FirstPart.{first_part_done}

entered : (p m : ℕ) → (2 ^ 8 * (p / 2 ^ 8 % 2 ^ 24) + 2 ^ 7 * (m / 2 ^ 15 % 2 ^ 1) + 2 ^ 5 * (m / 2 ^ 14 % 2 ^ 1) + 2 ^ 4 * (p / 2 ^ 4 % 2 ^ 1)) / 2 ^ 27 % 2 ^ 1 ≤ p / 2 ^ 27 % 2 ^ 1
entered p m = omega arith

pub entry_closed : (mask : ℕ) (psl : Psl) → first_part_done (entry_status mask psl) ≤ first_part_done psl
unfolding entry_status first_part_done
entry_closed mask psl = entered psl.0 mask

returned : (p w : ℕ) → (2 ^ 16 * (p / 2 ^ 16 % 2 ^ 16) + w % 2 ^ 16) / 2 ^ 27 % 2 ^ 1 ≤ p / 2 ^ 27 % 2 ^ 1
returned p w = omega arith

pub return_closed : (word : ℕ) (psl : Psl) → first_part_done (return_status word psl) ≤ first_part_done psl
unfolding return_status first_part_done
return_closed word psl = returned psl.0 word
