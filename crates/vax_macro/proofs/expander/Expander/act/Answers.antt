use Rattle.std.proofs.Common.{◌∙◌}
use Rattle.vax_macro.proofs.Within.{cut_within_line}
use Rattle.vax_macro.proofs.expander.Expander.act.Goals as goal

pub act-requires : goal.act-requires
act-requires g c =
    let line = c.args.line.now in
    cut_within_line line.dialect line.text.items c.deref-2.result.now (c.deref-2.ensures.value ∙ line.cut)
