use Rattle.std.proofs.Common.{refl, subst, ◌∙◌}
use Rattle.vax_outside.proofs.Growth.{on_err}
use Rattle.vax_vector_lines.specs.Lines.{IsGroup, Such, Wrote}
use Rattle.vax_vector_lines.specs.declared.write.Extent.{Extent}
use Rattle.vax_vector_lines.proofs.More.{groups_next, groups_true, no_groups, prefix_then, wrote_none, wrote_part, wrote_then}
use Rattle.vax_vector_lines.proofs.write.write_asked.Goals as goal

pub loop-number-init : goal.loop-number-init
loop-number-init g c = record { quiet = refl; wrote = wrote_none _ _ (no_groups _ _ _) }

pub returns-in_err-extent-clause-prefix : goal.returns-in_err-extent-clause-prefix
returns-in_err-extent-clause-prefix g c = on_err c.from_residual.result (prefix_then _ _ _ _ (groups_true _ _ _ _) c.loop-number.invariant.wrote c.in_err-extent.ensures.prefix)

pub returns-in-Part-clause-wrote : goal.returns-in-Part-clause-wrote
returns-in-Part-clause-wrote g c =
    wrote_part _ _ _ _ (groups_true _ _ _ _) c.loop-number.invariant.wrote
    (subst (λ (e : Extent). Wrote (Such e (IsGroup c.args.asked.case.opcode c.args.asked.case.mode c.args.asked.absent)) (g.K.Sink.contents c.loop-number.sink) (g.K.Sink.contents c.write_case.new.sink)) c.in-Part.is c.in_ok-extent.ensures.wrote)

pub loop-number-preserved : goal.loop-number-preserved
loop-number-preserved g c = record {
  quiet = c.in_ok-extent.ensures.counts.quiet ∙ c.loop-number.invariant.quiet;
  wrote = wrote_then _ _ _ _ _ _ (groups_next _ _ _ _) c.loop-number.invariant.wrote
      (subst (λ (e : Extent). Wrote (Such e (IsGroup c.args.asked.case.opcode c.args.asked.case.mode c.args.asked.absent)) (g.K.Sink.contents c.loop-number.sink) (g.K.Sink.contents c.write_case.new.sink)) c.in-Whole.is c.in_ok-extent.ensures.wrote);
}
