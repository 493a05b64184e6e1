use Rattle.std.proofs.Common.{◌≡◌, length}
use Rattle.vax_asm_values.specs.Marks.{marked_sources_in, marked_values_in, marked_waiting_in}
use Rattle.vax_asm_values.proofs.types.Board.go_back.Given as goal

abbrev pub invariant-changes : goal.invariant-changes
invariant-changes l = record {
  sources : marked_sources_in l.self ≡ marked_sources_in l.fn.self;
  values : marked_values_in l.self ≡ marked_values_in l.fn.self;
  waiting : marked_waiting_in l.self ≡ marked_waiting_in l.fn.self;
}

abbrev pub decreases-changes : goal.decreases-changes
decreases-changes l = length l.self.journal.changes.items
