use Rattle.std.proofs.Common.{◌≡◌, drop, map}
use Rattle.vax_asm_data.specs.Data.{item_as, items_stated}
use Rattle.vax_asm_first.specs.Progress.{begun}
use Rattle.vax_asm_first.specs.View.{progress_of, site_seen, standing_of, KeepsMark}
use Rattle.vax_asm_statement.specs.Parts.{parts}
use Rattle.vax_asm_data.proofs.items.state_items.Given as goal

abbrev pub invariant-loop-part : goal.invariant-loop-part
invariant-loop-part l = record {
  split : map (λ s. s.now) l.part-items ≡ parts l.operands;
  same : items_stated l.kind (site_seen l.site) (map (item_as l.once) (map (λ s. s.now) (drop l.part-index l.part-items))) (progress_of l.fault l.standing)
      ≡ items_stated l.kind (site_seen l.site) (map (item_as l.once) (parts l.operands)) (begun (standing_of l.fn.standing));
  mark : KeepsMark l.fn.standing l.standing;
}
