use Rattle.std.proofs.Common.{Some, ap, sym, ◌∙◌}
use Rattle.vax_asm_data.proofs.Limits.{items_too_many}
use Rattle.vax_macro.specs.declared.error.FaultKind.{FaultKind}
use Rattle.vax_asm_first.specs.View.{filling_of, progress_of, site_seen, standing_of}
use Rattle.vax_asm_data.proofs.items.fix.Goals as goal

pub returns-then-count-gt-MOST_ITEMS-clause-stated : goal.returns-then-count-gt-MOST_ITEMS-clause-stated
returns-then-count-gt-MOST_ITEMS-clause-stated c =
    ap (λ (f : FaultKind). progress_of (Some f) c.args.standing.now) c.too_many.ensures
    ∙ sym (items_too_many c.args.kind (site_seen c.args.site) c.args.count (filling_of c.args.filling) (standing_of c.args.standing.now) c.if-count-gt-MOST_ITEMS.true)
