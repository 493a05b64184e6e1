use Rattle.vax_vector_lines.proofs.More.{no_lines}
use Rattle.vax_vector_lines.proofs.case_lines.push_asked.Goals as goal

pub returns : goal.returns
returns c = rw c.if-absent.false (no_lines c.args.vector.now c.args.out.now.items)
