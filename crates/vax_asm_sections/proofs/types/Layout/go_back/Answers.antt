use Rattle.std.proofs.Common.{ap, sym, ◌∙◌, arith}
use Rattle.vax_asm_sections.specs.View.{sections_of}
use Rattle.vax_asm_sections.specs.declared.journal.Journal.{Journal}
use Rattle.vax_asm_sections.proofs.Undoing.{none_left, one_undone, undone_is}
use Rattle.vax_asm_sections.proofs.types.Layout.go_back.Goals as goal

pub loop-put-preserved : goal.loop-put-preserved
loop-put-preserved g c =
    record {
      undone = one_undone c.undo.new.self.journal _ c.loop-put.self.journal.puts.items c.in-Some.put (sections_of c.loop-put.self) (sections_of c.undo.new.self) _ c.undo.ensures.journal c.in-Some.ensures.items c.undo.ensures.sections c.loop-put.invariant.undone;
      unmarked = ap (λ (j : Journal). j.marked) c.undo.ensures.journal ∙ c.loop-put.invariant.unmarked;
    }

pub returns-clause-back : goal.returns-clause-back
returns-clause-back g c = λ yes.
    let old = c.args.self.now in
    let last = c.loop-put.self in
    undone_is old.journal (sections_of old) (sections_of last) c.if-not-self.false
    (sym (none_left last.journal.puts.items (sections_of last) (omega (arith, last.journal.puts.ok.0, c.in_default.ensures.cases.0))) ∙ c.loop-put.invariant.undone)
