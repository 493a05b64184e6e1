use Rattle.std.proofs.Common.{◌≡◌, ◌-◌, length, take}
use Rattle.vax_save.specs.Restoring.{longwords_at}
use Rattle.vax_save.specs.Views.{cursor}
use Rattle.vax_save.proofs.Loops.{with_front}
use Rattle.vax_save.proofs.registers.fill.Given as goal

abbrev pub invariant-loop-i : goal.invariant-loop-i
invariant-loop-i l = record {
  len : length l.numbers ≡ length l.fn.numbers;
  so_far : with_front (take l.i l.numbers) (longwords_at (length l.fn.numbers - l.i) (cursor l.rest)) ≡ longwords_at (length l.fn.numbers) (cursor l.from);
}
