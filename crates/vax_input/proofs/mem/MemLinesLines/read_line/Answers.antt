use Rattle.vax_input.proofs.Taking.{took_one}
use Rattle.vax_input.proofs.mem.MemLinesLines.read_line.Goals as goal

pub returns-in-Some-clause-ok : goal.returns-in-Some-clause-ok
returns-in-Some-clause-ok c = took_one c.args.self.now.text.now c.in-Some.behind.now c.in-Some.next.now _ (rw c.in-Some.is at c.next_line.ensures.lines) c.hold.ensures
