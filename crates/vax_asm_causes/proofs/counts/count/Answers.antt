use Rattle.std.proofs.Common.{List, ℕ, ap, ◌∙◌}
use Rattle.vax_asm_causes.proofs.Counting.{on_counted}
use Rattle.vax_asm_causes.specs.Counts.{once_more}
use Rattle.vax_asm_names.specs.ByName.{by_name}
use Rattle.vax_asm_causes.proofs.counts.count.Goals as goal

pub returns : goal.returns
returns c =
    on_counted c.put.result c.args.name.now c.in_ok-key.key.items c.args.counts.now c.put.new.counts c.once_more.result c.in_ok-key.ensures
    (c.once_more.ensures ∙ ap once_more (c.seen-before.ensures ∙ ap (λ (k : List ℕ). by_name c.args.counts.now k) c.deref.ensures.value)) c.put.ensures
