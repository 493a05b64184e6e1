use Rattle.std.proofs.Common.{◌≤◌, length, rules, ◌∙◌}
use Rattle.vax_asm_causes.proofs.Cutting.{cut_short}
use Rattle.vax_asm_causes.proofs.remarks.remarks_in.Goals as goal

pub returns-then-len-ge-MOST : goal.returns-then-len-ge-MOST
returns-then-len-ge-MOST c =
    let many : 100 ≤ length c.loop-line.all.items = search rules in
    c.cut.ensures ∙ cut_short c.loop-line.all.items _ _ many c.loop-line.invariant.0
