use Rattle.std.proofs.Common.{List, false, subst}
use Rattle.vax_space.specs.declared.Area.{Area}
use Rattle.vax_machine.specs.declared.event.Limits.{Limits}
use Rattle.vax_script.specs.Requests.{readings}
use Rattle.vax_console.specs.Turns.{setting}
use Rattle.vax_command.specs.Ends.{EndsSo}
use Rattle.vax_command.specs.SessionWent.{SessionWent, opening_of}
use Rattle.vax_image.specs.Start.{Start}
use Rattle.vax_cli.specs.Said.{options as said_options}
use Rattle.vax_command.specs.Around.{change, outside}
use Rattle.vax_command.specs.Loaded.{loaded_seen}
use Rattle.vax_command.proofs.SessionLaws.{held_went}
use Rattle.vax_command.proofs.session.hold_session.Goals as goal

pub returns-in-Ok-clause-held : goal.returns-in-Ok-clause-held
returns-in-Ok-clause-held g c =
    let programs = loaded_seen c.args.programs.now in
    let options = said_options c.args.options.now in
    let seen = outside (change g.K.Sink.faults g.K.Sink.contents c.args.sink.now c.hold.new.sink) (change g.F.PageFile.faults g.F.PageFile.contents c.args.pages.now c.hold.new.pages) in
    let start = Start programs.system programs.user c.args.input.items in
    let limits : Limits = record { steps = options.steps; turns = options.turns; listed = false } in
    let went = c.hold.ensures.went options.frames start c.in-Ok.ensures.prepared.is_fresh in
    held_went seen programs c.args.input.items c.args.schedule.now c.args.script.now options c.hold.result
    c.in-Ok.schedule c.in-Ok.ensures.planned
    (subst (λ (areas : List Area). EndsSo seen.sink (SessionWent seen (opening_of options.frames start (setting limits areas c.in-Ok.schedule) (readings c.args.script.now))) c.hold.result) c.in-Ok.ensures.prepared.has_areas went)
