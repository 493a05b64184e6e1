use Rattle.std.proofs.Common.{Option, ap, subst, ◌∙◌}
use Rattle.vax_space.specs.Faults.{IsSpace}
use Rattle.vax_image.specs.declared.Image.{Image}
use Rattle.vax_image.specs.Start.{start_areas, start_core}
use Rattle.vax_machine.specs.Meaning.{engine}
use Rattle.vax_command.specs.Loaded.{loaded_seen}
use Rattle.vax_command.proofs.RunLaws.{prepared}
use Rattle.vax_command.proofs.run.begin.Goals as goal

pub returns-in-Ok-new : goal.returns-in-Ok-new
returns-in-Ok-new c =
    let programs = c.args.programs.now in
    prepared (engine c.in-Ok-new.machine) c.args.frames (loaded_seen programs) c.args.input.items c.in-Ok.core c.in-Ok.space
    (c.in-Ok.ensures.core ∙ ap (start_core programs.system) c.as_ref.ensures.value) (c.in-Ok.ensures.space ∙ ap (start_areas programs.system) c.as_ref.ensures.value)
    (c.in-Ok-new.ensures.start, c.in-Ok-new.ensures.begun, c.in-Ok-new.ensures.kept) c.in-Ok-new.ensures.between
    (subst (λ (o : Option Image). IsSpace (start_areas programs.system o)) c.as_ref.ensures.value c.start.ensures.sound)
