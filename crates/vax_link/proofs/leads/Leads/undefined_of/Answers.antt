use Rattle.std.proofs.Common.{◌∙◌, sym, ap}
use Rattle.vax_link.specs.Names.{is_at_fault}
use Rattle.vax_link.specs.declared.names.Names.{Names}
use Rattle.vax_link.proofs.NameLaws.{find_here, find_none_more}
use Rattle.vax_link.proofs.leads.Leads.undefined_of.Goals as goal

pub returns-then-branch-clause-value : goal.returns-then-branch-clause-value
returns-then-branch-clause-value c = λ entries kept.
    let so_far = c.loop-external.invariant.1 entries kept in
    let test = is_at_fault c.args.self.now.names.modules.now entries in
    let same = ap (λ (n : Names). is_at_fault n.modules.now entries c.external-item.result) c.loop-external.invariant.0 in
    let fault = sym same ∙ sym (c.in_ok-is_at_fault.ensures.value entries so_far.0) ∙ c.if-branch.true in
    sym (find_here test c.args.externals.now c.loop-external.external-index c.external-item.result c.loop-external-test.true c.external-item.is so_far.1 fault)

pub loop-external-preserved : goal.loop-external-preserved
loop-external-preserved c = (
  c.in_ok-is_at_fault.ensures.names ∙ c.loop-external.invariant.0,
  λ entries kept.
      let so_far = c.loop-external.invariant.1 entries kept in
      let test = is_at_fault c.args.self.now.names.modules.now entries in
      let same = ap (λ (n : Names). is_at_fault n.modules.now entries c.external-item.result) c.loop-external.invariant.0 in
      let fine = sym same ∙ sym (c.in_ok-is_at_fault.ensures.value entries so_far.0) ∙ c.if-branch.false in (
        c.in_ok-is_at_fault.ensures.leads entries so_far.0,
        find_none_more test c.args.externals.now c.loop-external.external-index c.external-item.result c.loop-external-test.true c.external-item.is so_far.1 fine,
      ),
)
