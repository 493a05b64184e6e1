use Rattle.std.proofs.Common.{refl, ◌∙◌}
use Rattle.vax_undo.specs.Plain.{view_of}
use Rattle.vax_vector_memory.proofs.Filling.{more_cleared, none_cleared}
use Rattle.vax_vector_memory.proofs.fill.clear.Goals as goal

pub loop-page-init : goal.loop-page-init
loop-page-init c = record { areas = refl; bytes = none_cleared (view_of c.args.memory.now) }

pub loop-page-preserved : goal.loop-page-preserved
loop-page-preserved c = record {
  areas = c.in_ok-clear_page.ensures.areas ∙ c.loop-page.invariant.areas;
  bytes = more_cleared c.args.pages.now c.loop-page.page-index _ (view_of c.loop-page.memory) (view_of c.clear_page.new.memory) c.loop-page-test.true c.in_ok-clear_page.ensures.cleared c.loop-page.invariant.bytes;
}
