use Rattle.std.proofs.Common.{◌+◌, ◌∙◌, ap, sym, arith}
use Rattle.vax_flat.specs.Call.{restored}
use Rattle.vax_flat.specs.OverPort.{over_port}
use Rattle.vax_x_call.proofs.StackLaws.{rest, named_all, rest_step, rest_none}
use Rattle.vax_quick.specs.Made.{at_console}
use Rattle.vax_quick.proofs.Frames.{reads_more, reads_none}
use Rattle.vax_quick.proofs.stack.restore.Goals as goal

pub loop-n-init : goal.loop-n-init
loop-n-init g c =
    let view = g.P.Port.view c.args.port.now in
    record {
      few = omega arith;
      within = c.end_of_named-end.ensures.within;
      follows = λ input taken sent next.
          ap (λ ns. over_port (restored ns c.args.from (at_console c.args.core.now input taken sent) next) view) (sym c.end_of_named-end.ensures.named ∙ named_all c.args.mask c.end_of_named-end.result);
      reads = reads_none g.P.Port.view g.P.Port.since _ _;
    }

pub returns-in_err-at-clause-reads : goal.returns-in_err-at-clause-reads
returns-in_err-at-clause-reads g c =
    reads_more g.P.Port.view g.P.Port.since _ _ c.loop-n.core c.loop-n.port _ _ c.loop-n.invariant.reads c.in_err-at.ensures.reads

pub loop-n-preserved : goal.loop-n-preserved
loop-n-preserved g c =
    let view = g.P.Port.view c.loop-n.port in
    let end = c.end_of_named-end.result in
    record {
      few = omega arith;
      within = c.loop-n.invariant.within;
      follows = λ input taken sent next.
          c.loop-n.invariant.follows input taken sent next
          ∙ ap (λ tree. over_port tree view) (rest_step c.args.mask c.loop-n.n end c.loop-n.at (at_console c.loop-n.core input taken sent) next (omega arith))
          ∙ c.in_ok-at.ensures.exact input taken sent (λ addr t. restored (rest c.args.mask (c.loop-n.n + 1) end) addr t next);
      reads = reads_more g.P.Port.view g.P.Port.since _ _ c.loop-n.core c.loop-n.port _ _ c.loop-n.invariant.reads c.in_ok-at.ensures.reads;
    }

pub returns-clause-exact : goal.returns-clause-exact
returns-clause-exact g c = λ input taken sent next.
    let view = g.P.Port.view c.loop-n.port in
    c.loop-n.invariant.follows input taken sent next ∙ ap (λ tree. over_port tree view) (rest_none c.args.mask c.loop-n.n c.end_of_named-end.result c.loop-n.at (at_console c.loop-n.core input taken sent) next (omega arith))
