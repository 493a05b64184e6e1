use Rattle.vax_asm_values.proofs.Marks.{settled_back, values_back, waiting_back, no_mark_left}
use Rattle.vax_asm_values.proofs.definitions.Definitions.go_back.Goals as goal

pub invariant_of-self : goal.invariant_of-self
invariant_of-self c =
    let old = c.args.self.now.board in
    let new = c.go_back.new.self in
    let back = c.go_back.ensures in
    record {
      settled = settled_back old new c.if-marked.true c.args.self.now.restorable back.sources back.values back.waiting;
      values = values_back old new c.args.self.now.values back.sources back.values;
      waiting = waiting_back old new c.args.self.now.waiting back.sources back.waiting;
      restorable = no_mark_left new back.marked;
    }
