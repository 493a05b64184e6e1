use Rattle.std.proofs.Common.{◌≡◌, false, vec_len}
use Rattle.vax_asm_sections.specs.Journal.{undone}
use Rattle.vax_asm_sections.specs.View.{sections_of}
use Rattle.vax_asm_sections.proofs.types.Layout.go_back.Given as goal

abbrev pub invariant-loop-put : goal.invariant-loop-put
invariant-loop-put g l = record {
  undone : undone l.self.journal.puts.items (sections_of l.self) ≡ undone l.fn.self.journal.puts.items (sections_of l.fn.self);
  unmarked : l.self.journal.marked ≡ false;
}

abbrev pub decreases-loop-put : goal.decreases-loop-put
decreases-loop-put g l = vec_len l.self.journal.puts
