use Rattle.vax_undo.specs.Plain.{view_of}
use Rattle.vax_vector_memory.proofs.Hiding.{hidden_more, resident_alone}
use Rattle.vax_vector_memory.proofs.fill.hide_all.Goals as goal

pub loop-page-preserved : goal.loop-page-preserved
loop-page-preserved c = record {
  left = hidden_more c.args.pages.now c.loop-page.page-index _ (view_of c.loop-page.memory) (view_of c.hide.new.self) c.loop-page-test.true c.loop-page.invariant.left c.hide.ensures;
  same = resident_alone (view_of c.args.memory.now) (view_of c.loop-page.memory) (view_of c.hide.new.self) _ _ c.loop-page.invariant.same c.hide.ensures;
}
