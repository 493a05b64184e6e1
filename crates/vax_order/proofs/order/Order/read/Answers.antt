use Rattle.std.proofs.Common.{List, Result, arith, refl, subst, sym, ◌∙◌}
use Rattle.vax_order.specs.Orders.{Reads}
use Rattle.vax_order.specs.declared.line.Line.{Line}
use Rattle.vax_order.specs.declared.order.OrderError.{OrderError}
use Rattle.vax_order.proofs.Reading.{ends_missing, ends_whole, err_same, reads_next, stops_by}
use Rattle.vax_order.proofs.order.Order.read.Goals as goal

pub loop-line-preserved : goal.loop-line-preserved
loop-line-preserved c = record {
  read = reads_next c.args.jobs c.args.bytes.now c.loop-line.rest.now c.in-Some.line.now c.in-Some.behind.now c.loop-line.number _ _ c.line_of.result c.loop-line.invariant.read c.in-Some.ensures.lines c.line_of.ensures.says c.line_of.ensures.proper c.in_ok-add.ensures.good c.in_ok-add.ensures.more;
  few = omega (arith, c.in-Some.ensures.shorter, c.loop-line.invariant.few);
}

pub returns-then-not-names_all-clause-means : goal.returns-then-not-names_all-clause-means
returns-then-not-names_all-clause-means c =
    ends_missing c.args.jobs c.args.bytes.now c.loop-line.rest.now c.loop-line.number _ c.loop-line.lines.items c.loop-line.invariant.read c.in_default.ensures.lines (rw (← c.deref.ensures.value) (sym c.names_all.ensures ∙ c.if-not-names_all.true)) refl

pub returns-clause-means : goal.returns-clause-means
returns-clause-means c =
    ends_whole c.args.jobs c.args.bytes.now c.loop-line.rest.now c.loop-line.number c.loop-line.lines.items c.loop-line.invariant.read c.in_default.ensures.lines (rw (← c.deref.ensures.value) (sym c.names_all.ensures ∙ c.if-not-names_all.false))

pub returns-in_err-add-clause-means : goal.returns-in_err-add-clause-means
returns-in_err-add-clause-means c =
    subst (λ (z : Result (List Line) OrderError). Reads c.args.jobs c.args.bytes.now z) (sym (err_same c.from_residual.result c.in_err-add.field-0.0 c.from_residual.ensures.1))
    (stops_by c.args.jobs c.args.bytes.now c.loop-line.rest.now c.in-Some.line.now c.in-Some.behind.now c.loop-line.number c.loop-line.lines.items c.line_of.result c.in_err-add.field-0.0 c.loop-line.invariant.read c.in-Some.ensures.lines c.line_of.ensures.says c.in_err-add.ensures.fault)
