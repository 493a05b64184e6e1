use Rattle.std.proofs.Common.{List, ℕ, ◌∙◌, subst, sym}
use Rattle.vax_cli.specs.Said.{options as said_options}
use Rattle.vax_command.specs.Around.{change, outside}
use Rattle.vax_command.specs.Fresh.{IsFresh}
use Rattle.vax_command.specs.Loaded.{loaded_seen}
use Rattle.vax_image.specs.Start.{Start}
use Rattle.vax_machine.specs.Meaning.{engine}
use Rattle.vax_command_debug.specs.Debugging.{Debugged, given}
use Rattle.vax_command_debug.proofs.DebugLaws.{debug_went}
use Rattle.vax_command_debug.proofs.session.debug_programs.Goals as goal

pub hold_session-requires-clause-fresh : goal.hold_session-requires-clause-fresh
hold_session-requires-clause-fresh g c =
    subst (λ (z : List ℕ). IsFresh (engine c.in-Ok-prepare.machine) c.args.options.now.frames (Start c.args.debuggee.programs.now.system c.args.debuggee.programs.now.user z))
    (c.in-Ok.ensures.items_if_clones_equal (λ x y e. e) ∙ c.deref.ensures.value ∙ sym c.deref-in-Ok-prepare.ensures.value) c.in-Ok-prepare.ensures.prepared.is_fresh

pub returns-in-Ok-prepare-clause-debugged : goal.returns-in-Ok-prepare-clause-debugged
returns-in-Ok-prepare-clause-debugged g c =
    let program = loaded_seen c.args.debuggee.programs.now in
    let options = said_options c.args.options.now in
    let seen = outside (change g.K.Sink.faults g.K.Sink.contents c.args.sink.now c.hold_session.new.sink) (change g.F.PageFile.faults g.F.PageFile.contents c.args.pages.now c.hold_session.new.pages) in
    let lines = change g.L.Lines.faults g.L.Lines.rest c.args.lines.now c.hold_session.new.lines in
    subst (λ (z : List ℕ). Debugged seen lines program (given z c.args.debuggee.schedule.now c.args.debuggee.legend.now c.args.debuggee.prompts) options c.hold_session.result) c.deref-in-Ok-prepare.ensures.value
    (debug_went seen lines program (given c.deref-in-Ok-prepare.result.now c.args.debuggee.schedule.now c.args.debuggee.legend.now c.args.debuggee.prompts) options c.hold_session.result
    c.in-Ok-prepare.schedule c.in-Ok-prepare.ensures.planned c.hold_session.ensures.went)
