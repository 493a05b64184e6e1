use Rattle.std.proofs.Common.{◌∙◌, arith}
use Rattle.vax_asm_values.specs.View.{lists_in}
use Rattle.vax_asm_values.proofs.Seen.{one_more_waits}
use Rattle.vax_asm_values.proofs.board.wait_for_all.Goals as goal

pub loop-meaning-preserved : goal.loop-meaning-preserved
loop-meaning-preserved c = record {
  grown = λ k j l. c.in_ok-add_waiting.ensures.grown k j (c.loop-meaning.invariant.grown k j l);
  listed = one_more_waits c.args.number c.loop-meaning.meaning-index (lists_in c.loop-meaning.waiting) (lists_in c.add_waiting.new.waiting) c.args.names.now c.meaning-item.result c.loop-meaning-test.true c.meaning-item.is
      c.in_ok-add_waiting.ensures.grown c.in_ok-add_waiting.ensures.listed c.loop-meaning.invariant.listed;
  length = c.add_waiting.ensures.length ∙ c.loop-meaning.invariant.length;
}

pub returns-clause-listed : goal.returns-clause-listed
returns-clause-listed c = λ k d h. c.loop-meaning.invariant.listed k d (omega (arith, h, c.loop-meaning-test.false))
