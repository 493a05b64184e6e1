use Rattle.std.proofs.Common.{◌≡◌, ◌+◌, length}
use Rattle.vax_asm_values.specs.Marks.{KeepsMark}
use Rattle.vax_asm_values.specs.View.{sources_in, lists_in}
use Rattle.vax_asm_values.specs.Waiting.{Standing, weight}
use Rattle.vax_asm_values.proofs.types.Board.settle.Given as goal

abbrev pub invariant-work : goal.invariant-work
invariant-work l = record {
  standing : Standing (sources_in l.self.sources) l.self.values.items (lists_in l.self.waiting) l.work.items;
  sources : l.self.sources ≡ l.fn.self.sources;
  waiting : l.self.waiting ≡ l.fn.self.waiting;
  values : length l.self.values.items ≡ length l.fn.self.values.items;
  mark : KeepsMark l.fn.self l.self;
}

abbrev pub decreases-work : goal.decreases-work
decreases-work l = weight l.self.values.items (lists_in l.self.waiting) + length l.work.items
