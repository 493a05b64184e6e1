use Rattle.std.proofs.Common.{Bool, List, ℕ, false, map, subst}
use Rattle.vax_space.specs.declared.Area.{Area}
use Rattle.vax_image.specs.Start.{Start, start_areas}
use Rattle.vax_machine.specs.declared.event.Limits.{Limits}
use Rattle.vax_watch.specs.Plans.{breaks_of, watches_of}
use Rattle.vax_watch.specs.declared.watch.Watch.{Watch}
use Rattle.vax_cli.specs.Said.{options as said_options, tracing as said_tracing}
use Rattle.vax_cli.specs.declared.command.DumpItem.{DumpItem}
use Rattle.vax_cli.specs.declared.command.Strictness.TheVariants.{Off}
use Rattle.vax_command.specs.Around.{change, outside}
use Rattle.vax_command.specs.Ends.{EndsSo}
use Rattle.vax_command.specs.Loaded.{loaded_seen}
use Rattle.vax_command.specs.Room.{items_of}
use Rattle.vax_command.specs.Tracing.{Traced, Went, watch_of}
use Rattle.vax_command.proofs.TraceLaws.{trace_went}
use Rattle.vax_command.proofs.trace.trace_programs.Goals as goal

pub returns-in-Ok-prepare_run-clause-traces : goal.returns-in-Ok-prepare_run-clause-traces
returns-in-Ok-prepare_run-clause-traces g c =
    let programs = loaded_seen c.args.programs.now in
    let options = said_options c.args.options.now in
    let tracing = said_tracing c.args.tracing.now in
    let ready = c.in-Ok-prepare_run.ensures.prepared in
    let seen = outside (change g.K.Sink.faults g.K.Sink.contents c.args.sink.now c.trace.new.sink) (change g.F.PageFile.faults g.F.PageFile.contents c.args.pages.now c.trace.new.pages) in
    let start = Start programs.system programs.user c.args.input.items in
    let limits : Limits = record { steps = options.steps; turns = options.turns; listed = false } in
    let given : List Area → List DumpItem → List ℕ → List Watch → Bool → Traced = λ areas items breaks watches texts.
    record { run = record { limits = limits; areas = areas; rules = c.in-Ok-prepare_run.schedule; frames = options.frames; start = start; items = items; strict = Off }; breaks = breaks; watches = watches; texts = texts } in
    let Told : Traced → Type 0 = λ s. EndsSo seen.sink (Went seen s) c.trace.result in
    let items = items_of c.in-Ok-prepare_run.room.blanks.items in
    let breaks = breaks_of c.in-Ok.plan in
    let watches = watches_of c.in-Ok.plan in
    let texts = c.in-Ok.plan.texts in
    let went = c.trace.ensures.went options.frames start ready.is_fresh in
    let placed = subst (λ (z : List Area). Told (given z items breaks watches texts)) ready.has_areas went in
    let roomy = subst (λ (z : List DumpItem). Told (given (start_areas programs.system programs.user) z breaks watches texts)) c.in-Ok-prepare_run.ensures.room placed in
    let broken = subst (λ (z : List ℕ). Told (given (start_areas programs.system programs.user) options.dumps z watches texts)) c.in-Ok.ensures.breaks roomy in
    let watched = subst (λ (z : List Watch). Told (given (start_areas programs.system programs.user) options.dumps tracing.breaks z texts)) c.in-Ok.ensures.watches broken in
    let all = subst (λ (z : Bool). Told (given (start_areas programs.system programs.user) options.dumps tracing.breaks (map watch_of tracing.watches) z)) c.in-Ok.ensures.texts watched in
    trace_went seen programs c.args.input.items c.args.schedule.now tracing options c.trace.result c.in-Ok-prepare_run.schedule c.in-Ok-prepare_run.ensures.planned all
