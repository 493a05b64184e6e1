use Rattle.std.proofs.Common.{◌≤◌, ℕ, List, length, subst}
use Rattle.vax_vector_lines.proofs.More.{before_all, before_next, before_none}
use Rattle.vax_vector_lines.proofs.case_lines.push_absent.Goals as goal

pub loop-k-init : goal.loop-k-init
loop-k-init c = before_all c.args.vector.now c.args.vector.now.touched.items c.args.out.now.items

pub loop-k-preserved : goal.loop-k-preserved
loop-k-preserved c =
    before_next c.args.vector.now c.args.vector.now.touched.items c.as_slice-pages.result.now c.loop-k.k _ _ _ _ c.as_slice-pages.ensures.value c.loop-k-test.true c.loop-k.invariant c.in_ok-push_pairs.ensures

pub returns : goal.returns
returns c =
    before_none c.args.vector.now c.args.vector.now.touched.items c.args.vector.now.touched.items c.loop-k.k _ _
    (subst (λ (pages : List ℕ). length pages ≤ c.loop-k.k) c.as_slice-pages.ensures.value c.loop-k-test.false) c.loop-k.invariant
