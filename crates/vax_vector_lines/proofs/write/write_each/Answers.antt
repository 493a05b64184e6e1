use Rattle.std.proofs.Common.{refl, subst, ◌∙◌}
use Rattle.vax_outside.proofs.Growth.{on_err}
use Rattle.vax_vector_lines.specs.Lines.{AreGroups, Such, Wrote}
use Rattle.vax_vector_lines.specs.declared.write.Extent.{Extent}
use Rattle.vax_vector_lines.proofs.More.{all_next, all_true, none_of_all, prefix_then, wrote_none, wrote_part, wrote_then}
use Rattle.vax_vector_lines.proofs.write.write_each.Goals as goal

pub loop-code-init : goal.loop-code-init
loop-code-init g c = record { quiet = refl; wrote = wrote_none _ _ (none_of_all _ _ _) }

pub returns-in_err-write_asked-clause-prefix : goal.returns-in_err-write_asked-clause-prefix
returns-in_err-write_asked-clause-prefix g c = on_err c.from_residual.result (prefix_then _ _ _ _ (all_true _ _ _ _) c.loop-code.invariant.wrote c.in_err-write_asked.ensures.prefix)

pub returns-in-Part-clause-wrote : goal.returns-in-Part-clause-wrote
returns-in-Part-clause-wrote g c =
    wrote_part _ _ _ _ (all_true _ _ _ _) c.loop-code.invariant.wrote
    (subst (λ (e : Extent). Wrote (Such e (AreGroups c.loop-code.code c.args.asked.case.mode c.args.asked.absent c.count_of.result)) (g.K.Sink.contents c.loop-code.sink) (g.K.Sink.contents c.write_asked.new.sink)) c.in-Part.is c.in_ok-write_asked.ensures.wrote)

pub loop-code-preserved : goal.loop-code-preserved
loop-code-preserved g c = record {
  quiet = c.in_ok-write_asked.ensures.counts.quiet ∙ c.loop-code.invariant.quiet;
  wrote = wrote_then _ _ _ _ _ _ (all_next _ _ _ _ _ c.count_of.ensures) c.loop-code.invariant.wrote
      (subst (λ (e : Extent). Wrote (Such e (AreGroups c.loop-code.code c.args.asked.case.mode c.args.asked.absent c.count_of.result)) (g.K.Sink.contents c.loop-code.sink) (g.K.Sink.contents c.write_asked.new.sink)) c.in-Whole.is c.in_ok-write_asked.ensures.wrote);
}
