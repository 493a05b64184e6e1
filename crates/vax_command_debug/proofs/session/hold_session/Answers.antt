use Rattle.std.proofs.Common.{◌≡◌, ◌-◌, ◌^◌, ◌∙◌, refl, sym, subst, arith}
use Rattle.vax_image.specs.Start.{Start}
use Rattle.vax_machine.specs.Meaning.{engine}
use Rattle.vax_debug_session.specs.Holding.{terms}
use Rattle.vax_debug_session.specs.Plan.{Plan}
use Rattle.vax_command.specs.Around.{seen_of}
use Rattle.vax_command.proofs.Admitting.{admits_then, none_admits}
use Rattle.vax_command_debug.specs.Restarting.{hears}
use Rattle.vax_command_debug.proofs.RestartLaws.{IsBehindRuns, behind_first, behind_then, quiet_first, quiet_then, refused, went_all, worn_out}
use Rattle.vax_command_debug.proofs.session.hold_session.Goals as goal

pub loop-init : goal.loop-init
loop-init g c =
    let sink = seen_of g.K.Sink.faults g.K.Sink.contents c.args.sink.now in
    let lines = seen_of g.L.Lines.faults g.L.Lines.rest c.args.lines.now in
    record {
      behind = subst (λ (z : Plan). IsBehindRuns (g.F.PageFile.contents c.args.pages.now) (terms c.args.setting.now.limits.now c.args.setting.now.legend.now c.args.prompts) (Start c.args.beginning.now.programs.now.system c.args.beginning.now.programs.now.user c.args.beginning.now.input.now) z 0 (hears (seen_of g.K.Sink.faults g.K.Sink.contents c.args.sink.now) (seen_of g.F.PageFile.faults g.F.PageFile.contents c.args.pages.now) (seen_of g.L.Lines.faults g.L.Lines.rest c.args.lines.now)) (hears (seen_of g.K.Sink.faults g.K.Sink.contents c.args.sink.now) (seen_of g.F.PageFile.faults g.F.PageFile.contents c.args.pages.now) (seen_of g.L.Lines.faults g.L.Lines.rest c.args.lines.now))) (sym c.new-breaks.ensures)
          (behind_first (terms c.args.setting.now.limits.now c.args.setting.now.legend.now c.args.prompts) (Start c.args.beginning.now.programs.now.system c.args.beginning.now.programs.now.user c.args.beginning.now.input.now) sink (g.F.PageFile.faults c.args.pages.now) (g.F.PageFile.contents c.args.pages.now) lines);
      quiet = quiet_first (hears (seen_of g.K.Sink.faults g.K.Sink.contents c.args.sink.now) (seen_of g.F.PageFile.faults g.F.PageFile.contents c.args.pages.now) (seen_of g.L.Lines.faults g.L.Lines.rest c.args.lines.now));
      fresh = c.requires.fresh;
      between = c.requires.between;
    }

pub loop-preserved : goal.loop-preserved
loop-preserved g c =
    let again = c.in-None.ensures.again refl in
    record {
      behind = behind_then (terms c.args.setting.now.limits.now c.args.setting.now.legend.now c.args.prompts) (Start c.args.beginning.now.programs.now.system c.args.beginning.now.programs.now.user c.args.beginning.now.input.now) c.args.beginning.now.frames (engine c.loop.machine) c.loop.invariant.fresh c.loop.invariant.between c.loop.breaks c.hold_run.new.breaks c.loop.counter (hears (seen_of g.K.Sink.faults g.K.Sink.contents c.args.sink.now) (seen_of g.F.PageFile.faults g.F.PageFile.contents c.args.pages.now) (seen_of g.L.Lines.faults g.L.Lines.rest c.args.lines.now)) (hears (seen_of g.K.Sink.faults g.K.Sink.contents c.loop.sink) (seen_of g.F.PageFile.faults g.F.PageFile.contents c.loop.pages) (seen_of g.L.Lines.faults g.L.Lines.rest c.loop.lines)) (hears (seen_of g.K.Sink.faults g.K.Sink.contents c.hold_run.new.sink) (seen_of g.F.PageFile.faults g.F.PageFile.contents c.hold_run.new.pages) (seen_of g.L.Lines.faults g.L.Lines.rest c.hold_run.new.lines)) again (g.F.PageFile.contents c.args.pages.now) (seen_of g.K.Sink.faults g.K.Sink.contents c.begin_anew.new.sink) c.loop.invariant.behind c.in-Ok.ensures.ready;
      quiet = quiet_then (hears (seen_of g.K.Sink.faults g.K.Sink.contents c.args.sink.now) (seen_of g.F.PageFile.faults g.F.PageFile.contents c.args.pages.now) (seen_of g.L.Lines.faults g.L.Lines.rest c.args.lines.now)) (hears (seen_of g.K.Sink.faults g.K.Sink.contents c.loop.sink) (seen_of g.F.PageFile.faults g.F.PageFile.contents c.loop.pages) (seen_of g.L.Lines.faults g.L.Lines.rest c.loop.lines)) (hears (seen_of g.K.Sink.faults g.K.Sink.contents c.hold_run.new.sink) (seen_of g.F.PageFile.faults g.F.PageFile.contents c.hold_run.new.pages) (seen_of g.L.Lines.faults g.L.Lines.rest c.hold_run.new.lines)) (seen_of g.K.Sink.faults g.K.Sink.contents c.begin_anew.new.sink) c.loop.invariant.quiet again.quiet c.in-Ok.ensures.ready.quiet;
      fresh = c.in-Ok.ensures.fresh;
      between = c.in-Ok.ensures.between;
    }

pub returns-in-Some-clause-went : goal.returns-in-Some-clause-went
returns-in-Some-clause-went g c =
    went_all (hears (seen_of g.K.Sink.faults g.K.Sink.contents c.args.sink.now) (seen_of g.F.PageFile.faults g.F.PageFile.contents c.args.pages.now) (seen_of g.L.Lines.faults g.L.Lines.rest c.args.lines.now)) (hears (seen_of g.K.Sink.faults g.K.Sink.contents c.loop.sink) (seen_of g.F.PageFile.faults g.F.PageFile.contents c.loop.pages) (seen_of g.L.Lines.faults g.L.Lines.rest c.loop.lines)) c.loop.invariant.quiet (seen_of g.K.Sink.faults g.K.Sink.contents c.hold_run.new.sink) (seen_of g.F.PageFile.faults g.F.PageFile.contents c.hold_run.new.pages) (seen_of g.L.Lines.faults g.L.Lines.rest c.hold_run.new.lines) (c.hold_run.new.sink ≡ c.loop.sink) (c.hold_run.new.pages ≡ c.loop.pages) (c.hold_run.new.lines ≡ c.loop.lines) (c.hold_run.new.sink ≡ c.args.sink.now) (c.hold_run.new.pages ≡ c.args.pages.now) (c.hold_run.new.lines ≡ c.args.lines.now)
    (g.F.PageFile.contents c.args.pages.now) (terms c.args.setting.now.limits.now c.args.setting.now.legend.now c.args.prompts) (Start c.args.beginning.now.programs.now.system c.args.beginning.now.programs.now.user c.args.beginning.now.input.now) c.loop.breaks c.loop.counter c.in-Some.status c.loop.invariant.behind (c.in-Some.ensures.went c.args.beginning.now.frames (Start c.args.beginning.now.programs.now.system c.args.beginning.now.programs.now.user c.args.beginning.now.input.now) c.loop.invariant.fresh)

pub returns-in-Err-clause-went : goal.returns-in-Err-clause-went
returns-in-Err-clause-went g c =
    refused (terms c.args.setting.now.limits.now c.args.setting.now.legend.now c.args.prompts) (Start c.args.beginning.now.programs.now.system c.args.beginning.now.programs.now.user c.args.beginning.now.input.now) c.args.beginning.now.frames (engine c.loop.machine) c.loop.invariant.fresh c.loop.invariant.between c.loop.breaks c.hold_run.new.breaks c.loop.counter (hears (seen_of g.K.Sink.faults g.K.Sink.contents c.args.sink.now) (seen_of g.F.PageFile.faults g.F.PageFile.contents c.args.pages.now) (seen_of g.L.Lines.faults g.L.Lines.rest c.args.lines.now)) (seen_of g.K.Sink.faults g.K.Sink.contents c.loop.sink) (g.F.PageFile.faults c.loop.pages) (g.F.PageFile.contents c.loop.pages) (seen_of g.L.Lines.faults g.L.Lines.rest c.loop.lines) (hears (seen_of g.K.Sink.faults g.K.Sink.contents c.hold_run.new.sink) (seen_of g.F.PageFile.faults g.F.PageFile.contents c.hold_run.new.pages) (seen_of g.L.Lines.faults g.L.Lines.rest c.hold_run.new.lines)) (c.in-None.ensures.again refl) c.loop.invariant.quiet (seen_of g.K.Sink.faults g.K.Sink.contents c.begin_anew.new.sink) c.in-Err.status
    (c.begin_anew.new.sink ≡ c.args.sink.now) (c.hold_run.new.pages ≡ c.args.pages.now) (c.hold_run.new.lines ≡ c.args.lines.now) (g.F.PageFile.contents c.args.pages.now) c.loop.invariant.behind c.in-Err.ensures.refused

pub returns-clause-went : goal.returns-clause-went
returns-clause-went g c =
    let all : c.loop.counter ≡ 2 ^ 64 - 1 = omega arith in
    worn_out (terms c.args.setting.now.limits.now c.args.setting.now.legend.now c.args.prompts) (Start c.args.beginning.now.programs.now.system c.args.beginning.now.programs.now.user c.args.beginning.now.input.now) c.args.beginning.now.frames (engine c.loop.machine) c.loop.invariant.fresh c.loop.invariant.between c.loop.breaks c.loop.counter (hears (seen_of g.K.Sink.faults g.K.Sink.contents c.args.sink.now) (seen_of g.F.PageFile.faults g.F.PageFile.contents c.args.pages.now) (seen_of g.L.Lines.faults g.L.Lines.rest c.args.lines.now)) (hears (seen_of g.K.Sink.faults g.K.Sink.contents c.loop.sink) (seen_of g.F.PageFile.faults g.F.PageFile.contents c.loop.pages) (seen_of g.L.Lines.faults g.L.Lines.rest c.loop.lines)) c.loop.invariant.quiet (seen_of g.K.Sink.faults g.K.Sink.contents c.report_here.new.sink) c.report_here.result
    (c.report_here.new.sink ≡ c.args.sink.now) (c.loop.pages ≡ c.args.pages.now) (c.loop.lines ≡ c.args.lines.now) all c.report_here.ensures (g.F.PageFile.contents c.args.pages.now) c.loop.invariant.behind

pub returns-in-Some-clause-failed : goal.returns-in-Some-clause-failed
returns-in-Some-clause-failed g c = admits_then _ _ _ _ _ c.loop.invariant.quiet.pages c.in-Some.ensures.failed

pub returns-in-Err-clause-failed : goal.returns-in-Err-clause-failed
returns-in-Err-clause-failed g c = none_admits _ _ _ _ ((c.in-None.ensures.again refl).quiet.pages ∙ c.loop.invariant.quiet.pages)

pub returns-clause-failed : goal.returns-clause-failed
returns-clause-failed g c = none_admits _ _ _ _ c.loop.invariant.quiet.pages

pub returns-in-Some-clause-broken : goal.returns-in-Some-clause-broken
returns-in-Some-clause-broken g c = admits_then _ _ _ _ _ c.loop.invariant.quiet.lines c.in-Some.ensures.broken

pub returns-in-Err-clause-broken : goal.returns-in-Err-clause-broken
returns-in-Err-clause-broken g c = none_admits _ _ _ _ ((c.in-None.ensures.again refl).quiet.lines ∙ c.loop.invariant.quiet.lines)

pub returns-clause-broken : goal.returns-clause-broken
returns-clause-broken g c = none_admits _ _ _ _ c.loop.invariant.quiet.lines
