use Rattle.vax_vector_lines.proofs.More.{one_group}
use Rattle.vax_vector_lines.proofs.case_lines.lines_of.Goals as goal

pub returns : goal.returns
returns c =
    one_group c.args.case.opcode c.args.case.mode c.args.absent c.in_ok-vector.vector c.new-text.result.items c.push_line.new.out.items c.push_asked.new.out.items
    c.in_ok-vector.ensures.told c.in_ok-vector.ensures.of c.new-text.ensures.items c.in_ok-push_line.ensures c.in_ok-push_asked.ensures
