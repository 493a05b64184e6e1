use Rattle.std.proofs.Common.{◌∙◌, ap}
use Rattle.vax_asm_values.specs.Marks.{sources_before, values_before, waiting_before}
use Rattle.vax_asm_values.specs.View.{sources_in, lists_in}
use Rattle.vax_asm_values.specs.declared.journal.Journal.{Journal}
use Rattle.vax_asm_values.proofs.Marks.{source_back, value_back, wait_back}
use Rattle.vax_asm_values.proofs.types.Board.go_back.Goals as goal

pub changes-preserved : goal.changes-preserved
changes-preserved c =
    let before = c.changes.self in
    let after = c.undo.new.self in
    let cs = c.pop.new.self.items in
    let all = before.journal.changes.items in
    record {
      sources = ap (λ (j : Journal). sources_before j.changes.items (sources_in after.sources)) c.undo.ensures.journal
          ∙ source_back cs all c.in-Some.change (sources_in before.sources) (sources_in after.sources) c.in-Some.ensures.items c.undo.ensures.sources ∙ c.changes.invariant.sources;
      values = ap (λ (j : Journal). values_before j.changes.items after.values.items) c.undo.ensures.journal
          ∙ value_back cs all c.in-Some.change before.values.items after.values.items c.in-Some.ensures.items c.undo.ensures.values ∙ c.changes.invariant.values;
      waiting = ap (λ (j : Journal). waiting_before j.changes.items (lists_in after.waiting)) c.undo.ensures.journal
          ∙ wait_back cs all c.in-Some.change (lists_in before.waiting) (lists_in after.waiting) c.in-Some.ensures.items c.undo.ensures.waiting ∙ c.changes.invariant.waiting;
    }
