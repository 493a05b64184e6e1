use Rattle.std.proofs.Common.{◌≡◌, ◌<◌, ℕ, length, slice_index_or, true}
use Rattle.vax_asm_values.specs.View.{lists_in}
use Rattle.vax_asm_values.specs.Waiting.{Grown, listed, waiters}
use Rattle.vax_asm_values.specs.declared.types.Meaning.{Meaning}
use Rattle.vax_asm_values.proofs.board.wait_for_all.Given as goal

abbrev pub invariant-loop-meaning : goal.invariant-loop-meaning
invariant-loop-meaning l = record {
  grown : Grown (lists_in l.fn.waiting) (lists_in l.waiting);
  listed : (k : ℕ) (d : Meaning) → k < l.meaning-index → listed l.number (waiters (lists_in l.waiting) (slice_index_or l.names k d).definition) ≡ true;
  length : length l.waiting.items ≡ length l.fn.waiting.items;
}
