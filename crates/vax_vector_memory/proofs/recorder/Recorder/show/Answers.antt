use Rattle.std.proofs.Common.{ap, ◌∙◌}
use Rattle.vax_flat.specs.Port.{View}
use Rattle.vax_undo.specs.Plain.{with_page}
use Rattle.vax_vector_memory.specs.Record.{view_of}
use Rattle.vax_vector_memory.proofs.Guarding.{same_pages}
use Rattle.vax_vector_memory.proofs.recorder.Recorder.show.Goals as goal

pub returns : goal.returns
returns c =
    ap (λ (v : View). record v { areas = c.args.self.now.rights }) c.show.ensures
    ∙ ap (with_page (view_of c.args.self.now) c.args.page) (same_pages c.args.self.now.pages.items _ _ c.args.page c.args.self.now.areas_are c.args.self.now.rights_are)
