use Rattle.std.proofs.Common.{[], List, false, subst}
use Rattle.vax_space.specs.declared.Area.{Area}
use Rattle.vax_image.specs.Start.{Start}
use Rattle.vax_machine.specs.declared.event.Limits.{Limits}
use Rattle.vax_cli.specs.Said.{options as said_options}
use Rattle.vax_cli.specs.declared.command.Strictness.TheVariants.{Off}
use Rattle.vax_command.specs.Around.{change, outside}
use Rattle.vax_command.specs.Ends.{EndsSo}
use Rattle.vax_command.specs.Loaded.{loaded_seen}
use Rattle.vax_command.specs.Saving.{SaveWent}
use Rattle.vax_command.proofs.SaveLaws.{save_went}
use Rattle.vax_command.proofs.saving.save_run.Goals as goal

pub returns-in-Ok-clause-saved : goal.returns-in-Ok-clause-saved
returns-in-Ok-clause-saved g c =
    let programs = loaded_seen c.args.programs.now in
    let options = said_options c.args.options.now in
    let seen = outside (change g.K.Sink.faults g.K.Sink.contents c.args.sink.now c.execute_and_save.new.sink) (change g.F.PageFile.faults g.F.PageFile.contents c.args.pages.now c.execute_and_save.new.pages) in
    let start = Start programs.system programs.user c.args.input.items in
    let limits : Limits = record { steps = options.steps; turns = options.turns; listed = false } in
    let went = c.execute_and_save.ensures.went options.frames start c.in-Ok.ensures.prepared.is_fresh in
    save_went seen programs c.args.input.items c.args.schedule.now options c.execute_and_save.result c.in-Ok.schedule c.in-Ok.ensures.planned
    (subst (λ (areas : List Area). EndsSo seen.sink (SaveWent seen (record { limits = limits; areas = areas; rules = c.in-Ok.schedule; frames = options.frames; start = start; items = []; strict = Off })) c.execute_and_save.result) c.in-Ok.ensures.prepared.has_areas went)
