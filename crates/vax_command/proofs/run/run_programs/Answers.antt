use Rattle.std.proofs.Common.{List, arith, subst}
use Rattle.vax_space.specs.declared.Area.{Area}
use Rattle.vax_image.specs.Start.{Start, start_areas}
use Rattle.vax_machine.specs.Machine.{keeping}
use Rattle.vax_machine.specs.Meaning.{engine}
use Rattle.vax_machine.specs.Paged.{fresh}
use Rattle.vax_machine.specs.declared.event.Limits.{Limits}
use Rattle.vax_cli.specs.Said.{options as said_options}
use Rattle.vax_cli.specs.declared.command.DumpItem.{DumpItem}
use Rattle.vax_command.specs.Around.{change, outside}
use Rattle.vax_command.specs.Course.{Course}
use Rattle.vax_command.specs.Loaded.{loaded_seen}
use Rattle.vax_command.specs.Room.{items_of}
use Rattle.vax_command.specs.Running.{setup_for}
use Rattle.vax_command.specs.Went.{limits_of}
use Rattle.vax_command.proofs.RunLaws.{Starts, Told, ready, run_went, went_from_start}
use Rattle.vax_command.proofs.run.run_programs.Goals as goal

pub returns-in-Ok-clause-ran : goal.returns-in-Ok-clause-ran
returns-in-Ok-clause-ran g c =
    let programs = loaded_seen c.args.programs.now in
    let options = said_options c.args.options.now in
    let begun = c.in-Ok.ensures.prepared in
    let seen = outside (change g.K.Sink.faults g.K.Sink.contents c.args.sink.now c.execute.new.sink) (change g.F.PageFile.faults g.F.PageFile.contents c.args.pages.now c.execute.new.pages) in
    let start = Start programs.system programs.user c.args.input.items in
    let course : Limits → List Area → List DumpItem → Course = λ limits areas items.
    record { limits = limits; areas = areas; rules = c.in-Ok.schedule; begins = fresh options.frames start; items = items; strict = options.strict } in
    let areas = (keeping (engine c.in-Ok.machine)).areas in
    let items = items_of c.in-Ok.room.blanks.items in
    let went = c.execute.ensures.went (fresh options.frames start) (ready (engine c.in-Ok.machine) options.frames start begun.is_fresh) in
    let limited = subst (λ (l : Limits). Told seen (course l areas items) c.execute.result) c.limits_of-limits.ensures went in
    let placed = subst (λ (z : List Area). Told seen (course (limits_of options) z items) c.execute.result) begun.has_areas limited in
    let all = subst (λ (z : List DumpItem). Told seen (course (limits_of options) (start_areas programs.system programs.user) z) c.execute.result) c.in-Ok.ensures.room placed in
    let few = c.requires.within.turns in
    let starts : Starts (setup_for programs c.args.input.items c.in-Ok.schedule options) (engine c.in-Ok.machine) =
    record { is_fresh = begun.is_fresh; areas = begun.has_areas; low = omega (arith, few) } in
    run_went seen programs c.args.input.items c.args.schedule.now options c.execute.result c.in-Ok.schedule c.in-Ok.ensures.planned
    (went_from_start (setup_for programs c.args.input.items c.in-Ok.schedule options) (engine c.in-Ok.machine) starts seen c.execute.result all)
