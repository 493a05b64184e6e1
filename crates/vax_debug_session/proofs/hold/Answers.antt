use Rattle.std.proofs.Common.{◌≡◌, ◌-◌, ◌^◌, arith}
use Rattle.vax_machine.specs.Meaning.{engine}
use Rattle.vax_console.specs.Ends.{scene}
use Rattle.vax_debug_session.specs.Faults.{faults_of}
use Rattle.vax_debug_session.specs.Holding.{terms}
use Rattle.vax_debug_session.specs.declared.SessionEnd.TheVariants as end
use Rattle.vax_debug_session.proofs.Failing.{failed_then, file_cause, file_later, file_once, file_still, lines_cause, lines_later, lines_still, none_failed, none_then, sink_cause, sink_later, sink_still}
use Rattle.vax_debug_session.proofs.Going.{holding_done, holding_ends, holding_first, holding_restarts, holding_then}
use Rattle.vax_console.proofs.Only.{only_none, only_then}
use Rattle.vax_debug_session.proofs.hold.Goals as goal

pub loop-init : goal.loop-init
loop-init g c = record {
  holding = holding_first (terms c.args.setting.now.limits.now c.args.setting.now.legend.now c.args.prompts) c.args.breaks.now (scene (engine c.args.machine.now) (g.F.PageFile.contents c.args.file.now) (g.K.Sink.contents c.args.sink.now)) (g.L.Lines.rest c.args.lines.now);
  failed = none_failed (faults_of (g.F.PageFile.faults c.args.file.now) (g.K.Sink.faults c.args.sink.now) (g.L.Lines.faults c.args.lines.now));
  only = only_none _;
}

pub loop-preserved : goal.loop-preserved
loop-preserved g c = record {
  holding = holding_then (terms c.args.setting.now.limits.now c.args.setting.now.legend.now c.args.prompts) c.args.breaks.now c.loop.breaks c.hold_line.new.breaks c.loop.counter 1 (scene (engine c.args.machine.now) (g.F.PageFile.contents c.args.file.now) (g.K.Sink.contents c.args.sink.now)) (scene (engine c.loop.machine) (g.F.PageFile.contents c.loop.file) (g.K.Sink.contents c.loop.sink)) (scene (engine c.hold_line.new.machine) (g.F.PageFile.contents c.hold_line.new.file) (g.K.Sink.contents c.hold_line.new.sink)) (g.L.Lines.rest c.args.lines.now) (g.L.Lines.rest c.loop.lines) (g.L.Lines.rest c.hold_line.new.lines) c.loop.invariant.holding c.in-None.ensures.holds;
  failed = none_then (faults_of (g.F.PageFile.faults c.args.file.now) (g.K.Sink.faults c.args.sink.now) (g.L.Lines.faults c.args.lines.now)) (faults_of (g.F.PageFile.faults c.loop.file) (g.K.Sink.faults c.loop.sink) (g.L.Lines.faults c.loop.lines)) (faults_of (g.F.PageFile.faults c.hold_line.new.file) (g.K.Sink.faults c.hold_line.new.sink) (g.L.Lines.faults c.hold_line.new.lines)) c.loop.invariant.failed c.in-None.ensures.failed;
  only = only_then _ _ _ c.loop.invariant.only c.hold_line.ensures.only;
}

pub returns-in-Some-clause-holds : goal.returns-in-Some-clause-holds
returns-in-Some-clause-holds g c =
    holding_ends c.in-Some.end (terms c.args.setting.now.limits.now c.args.setting.now.legend.now c.args.prompts) c.args.breaks.now c.loop.breaks c.hold_line.new.breaks c.loop.counter (scene (engine c.args.machine.now) (g.F.PageFile.contents c.args.file.now) (g.K.Sink.contents c.args.sink.now)) (scene (engine c.loop.machine) (g.F.PageFile.contents c.loop.file) (g.K.Sink.contents c.loop.sink)) (scene (engine c.hold_line.new.machine) (g.F.PageFile.contents c.hold_line.new.file) (g.K.Sink.contents c.hold_line.new.sink)) (g.L.Lines.rest c.args.lines.now) (g.L.Lines.rest c.loop.lines) (g.L.Lines.rest c.hold_line.new.lines) c.loop.invariant.holding c.in-Some.ensures.holds

pub returns-in-Some-clause-restarts : goal.returns-in-Some-clause-restarts
returns-in-Some-clause-restarts g c =
    holding_restarts c.in-Some.end (terms c.args.setting.now.limits.now c.args.setting.now.legend.now c.args.prompts) c.args.breaks.now c.loop.breaks c.hold_line.new.breaks c.loop.counter (scene (engine c.args.machine.now) (g.F.PageFile.contents c.args.file.now) (g.K.Sink.contents c.args.sink.now)) (scene (engine c.loop.machine) (g.F.PageFile.contents c.loop.file) (g.K.Sink.contents c.loop.sink)) (scene (engine c.hold_line.new.machine) (g.F.PageFile.contents c.hold_line.new.file) (g.K.Sink.contents c.hold_line.new.sink)) (g.L.Lines.rest c.args.lines.now) (g.L.Lines.rest c.loop.lines) (g.L.Lines.rest c.hold_line.new.lines) c.loop.invariant.holding c.in-Some.ensures.holds

pub returns-in-Some-clause-only : goal.returns-in-Some-clause-only
returns-in-Some-clause-only g c = only_then _ _ _ c.loop.invariant.only c.hold_line.ensures.only

pub returns-in-Some-clause-later : goal.returns-in-Some-clause-later
returns-in-Some-clause-later g c =
    file_later c.in-Some.end (faults_of (g.F.PageFile.faults c.args.file.now) (g.K.Sink.faults c.args.sink.now) (g.L.Lines.faults c.args.lines.now)) (faults_of (g.F.PageFile.faults c.hold_line.new.file) (g.K.Sink.faults c.hold_line.new.sink) (g.L.Lines.faults c.hold_line.new.lines)) (failed_then c.in-Some.end (faults_of (g.F.PageFile.faults c.args.file.now) (g.K.Sink.faults c.args.sink.now) (g.L.Lines.faults c.args.lines.now)) (faults_of (g.F.PageFile.faults c.loop.file) (g.K.Sink.faults c.loop.sink) (g.L.Lines.faults c.loop.lines)) (faults_of (g.F.PageFile.faults c.hold_line.new.file) (g.K.Sink.faults c.hold_line.new.sink) (g.L.Lines.faults c.hold_line.new.lines)) c.loop.invariant.failed c.in-Some.ensures.failed)

pub returns-in-Some-clause-sunk : goal.returns-in-Some-clause-sunk
returns-in-Some-clause-sunk g c =
    sink_later c.in-Some.end (faults_of (g.F.PageFile.faults c.args.file.now) (g.K.Sink.faults c.args.sink.now) (g.L.Lines.faults c.args.lines.now)) (faults_of (g.F.PageFile.faults c.hold_line.new.file) (g.K.Sink.faults c.hold_line.new.sink) (g.L.Lines.faults c.hold_line.new.lines)) (failed_then c.in-Some.end (faults_of (g.F.PageFile.faults c.args.file.now) (g.K.Sink.faults c.args.sink.now) (g.L.Lines.faults c.args.lines.now)) (faults_of (g.F.PageFile.faults c.loop.file) (g.K.Sink.faults c.loop.sink) (g.L.Lines.faults c.loop.lines)) (faults_of (g.F.PageFile.faults c.hold_line.new.file) (g.K.Sink.faults c.hold_line.new.sink) (g.L.Lines.faults c.hold_line.new.lines)) c.loop.invariant.failed c.in-Some.ensures.failed)

pub returns-in-Some-clause-read : goal.returns-in-Some-clause-read
returns-in-Some-clause-read g c =
    lines_later c.in-Some.end (faults_of (g.F.PageFile.faults c.args.file.now) (g.K.Sink.faults c.args.sink.now) (g.L.Lines.faults c.args.lines.now)) (faults_of (g.F.PageFile.faults c.hold_line.new.file) (g.K.Sink.faults c.hold_line.new.sink) (g.L.Lines.faults c.hold_line.new.lines)) (failed_then c.in-Some.end (faults_of (g.F.PageFile.faults c.args.file.now) (g.K.Sink.faults c.args.sink.now) (g.L.Lines.faults c.args.lines.now)) (faults_of (g.F.PageFile.faults c.loop.file) (g.K.Sink.faults c.loop.sink) (g.L.Lines.faults c.loop.lines)) (faults_of (g.F.PageFile.faults c.hold_line.new.file) (g.K.Sink.faults c.hold_line.new.sink) (g.L.Lines.faults c.hold_line.new.lines)) c.loop.invariant.failed c.in-Some.ensures.failed)

pub returns-in-Some-clause-fault : goal.returns-in-Some-clause-fault
returns-in-Some-clause-fault g c =
    file_cause c.in-Some.end (faults_of (g.F.PageFile.faults c.args.file.now) (g.K.Sink.faults c.args.sink.now) (g.L.Lines.faults c.args.lines.now)) (faults_of (g.F.PageFile.faults c.hold_line.new.file) (g.K.Sink.faults c.hold_line.new.sink) (g.L.Lines.faults c.hold_line.new.lines)) (failed_then c.in-Some.end (faults_of (g.F.PageFile.faults c.args.file.now) (g.K.Sink.faults c.args.sink.now) (g.L.Lines.faults c.args.lines.now)) (faults_of (g.F.PageFile.faults c.loop.file) (g.K.Sink.faults c.loop.sink) (g.L.Lines.faults c.loop.lines)) (faults_of (g.F.PageFile.faults c.hold_line.new.file) (g.K.Sink.faults c.hold_line.new.sink) (g.L.Lines.faults c.hold_line.new.lines)) c.loop.invariant.failed c.in-Some.ensures.failed)

pub returns-in-Some-clause-cause : goal.returns-in-Some-clause-cause
returns-in-Some-clause-cause g c =
    sink_cause c.in-Some.end (faults_of (g.F.PageFile.faults c.args.file.now) (g.K.Sink.faults c.args.sink.now) (g.L.Lines.faults c.args.lines.now)) (faults_of (g.F.PageFile.faults c.hold_line.new.file) (g.K.Sink.faults c.hold_line.new.sink) (g.L.Lines.faults c.hold_line.new.lines)) (failed_then c.in-Some.end (faults_of (g.F.PageFile.faults c.args.file.now) (g.K.Sink.faults c.args.sink.now) (g.L.Lines.faults c.args.lines.now)) (faults_of (g.F.PageFile.faults c.loop.file) (g.K.Sink.faults c.loop.sink) (g.L.Lines.faults c.loop.lines)) (faults_of (g.F.PageFile.faults c.hold_line.new.file) (g.K.Sink.faults c.hold_line.new.sink) (g.L.Lines.faults c.hold_line.new.lines)) c.loop.invariant.failed c.in-Some.ensures.failed)

pub returns-in-Some-clause-broken : goal.returns-in-Some-clause-broken
returns-in-Some-clause-broken g c =
    lines_cause c.in-Some.end (faults_of (g.F.PageFile.faults c.args.file.now) (g.K.Sink.faults c.args.sink.now) (g.L.Lines.faults c.args.lines.now)) (faults_of (g.F.PageFile.faults c.hold_line.new.file) (g.K.Sink.faults c.hold_line.new.sink) (g.L.Lines.faults c.hold_line.new.lines)) (failed_then c.in-Some.end (faults_of (g.F.PageFile.faults c.args.file.now) (g.K.Sink.faults c.args.sink.now) (g.L.Lines.faults c.args.lines.now)) (faults_of (g.F.PageFile.faults c.loop.file) (g.K.Sink.faults c.loop.sink) (g.L.Lines.faults c.loop.lines)) (faults_of (g.F.PageFile.faults c.hold_line.new.file) (g.K.Sink.faults c.hold_line.new.sink) (g.L.Lines.faults c.hold_line.new.lines)) c.loop.invariant.failed c.in-Some.ensures.failed)

pub returns-in-Some-clause-unfailed : goal.returns-in-Some-clause-unfailed
returns-in-Some-clause-unfailed g c =
    file_still c.in-Some.end (faults_of (g.F.PageFile.faults c.args.file.now) (g.K.Sink.faults c.args.sink.now) (g.L.Lines.faults c.args.lines.now)) (faults_of (g.F.PageFile.faults c.hold_line.new.file) (g.K.Sink.faults c.hold_line.new.sink) (g.L.Lines.faults c.hold_line.new.lines)) (failed_then c.in-Some.end (faults_of (g.F.PageFile.faults c.args.file.now) (g.K.Sink.faults c.args.sink.now) (g.L.Lines.faults c.args.lines.now)) (faults_of (g.F.PageFile.faults c.loop.file) (g.K.Sink.faults c.loop.sink) (g.L.Lines.faults c.loop.lines)) (faults_of (g.F.PageFile.faults c.hold_line.new.file) (g.K.Sink.faults c.hold_line.new.sink) (g.L.Lines.faults c.hold_line.new.lines)) c.loop.invariant.failed c.in-Some.ensures.failed)

pub returns-in-Some-clause-failed : goal.returns-in-Some-clause-failed
returns-in-Some-clause-failed g c =
    file_once c.in-Some.end (faults_of (g.F.PageFile.faults c.args.file.now) (g.K.Sink.faults c.args.sink.now) (g.L.Lines.faults c.args.lines.now)) (faults_of (g.F.PageFile.faults c.hold_line.new.file) (g.K.Sink.faults c.hold_line.new.sink) (g.L.Lines.faults c.hold_line.new.lines)) (failed_then c.in-Some.end (faults_of (g.F.PageFile.faults c.args.file.now) (g.K.Sink.faults c.args.sink.now) (g.L.Lines.faults c.args.lines.now)) (faults_of (g.F.PageFile.faults c.loop.file) (g.K.Sink.faults c.loop.sink) (g.L.Lines.faults c.loop.lines)) (faults_of (g.F.PageFile.faults c.hold_line.new.file) (g.K.Sink.faults c.hold_line.new.sink) (g.L.Lines.faults c.hold_line.new.lines)) c.loop.invariant.failed c.in-Some.ensures.failed)

pub returns-in-Some-clause-written : goal.returns-in-Some-clause-written
returns-in-Some-clause-written g c =
    sink_still c.in-Some.end (faults_of (g.F.PageFile.faults c.args.file.now) (g.K.Sink.faults c.args.sink.now) (g.L.Lines.faults c.args.lines.now)) (faults_of (g.F.PageFile.faults c.hold_line.new.file) (g.K.Sink.faults c.hold_line.new.sink) (g.L.Lines.faults c.hold_line.new.lines)) (failed_then c.in-Some.end (faults_of (g.F.PageFile.faults c.args.file.now) (g.K.Sink.faults c.args.sink.now) (g.L.Lines.faults c.args.lines.now)) (faults_of (g.F.PageFile.faults c.loop.file) (g.K.Sink.faults c.loop.sink) (g.L.Lines.faults c.loop.lines)) (faults_of (g.F.PageFile.faults c.hold_line.new.file) (g.K.Sink.faults c.hold_line.new.sink) (g.L.Lines.faults c.hold_line.new.lines)) c.loop.invariant.failed c.in-Some.ensures.failed)

pub returns-in-Some-clause-whole : goal.returns-in-Some-clause-whole
returns-in-Some-clause-whole g c =
    lines_still c.in-Some.end (faults_of (g.F.PageFile.faults c.args.file.now) (g.K.Sink.faults c.args.sink.now) (g.L.Lines.faults c.args.lines.now)) (faults_of (g.F.PageFile.faults c.hold_line.new.file) (g.K.Sink.faults c.hold_line.new.sink) (g.L.Lines.faults c.hold_line.new.lines)) (failed_then c.in-Some.end (faults_of (g.F.PageFile.faults c.args.file.now) (g.K.Sink.faults c.args.sink.now) (g.L.Lines.faults c.args.lines.now)) (faults_of (g.F.PageFile.faults c.loop.file) (g.K.Sink.faults c.loop.sink) (g.L.Lines.faults c.loop.lines)) (faults_of (g.F.PageFile.faults c.hold_line.new.file) (g.K.Sink.faults c.hold_line.new.sink) (g.L.Lines.faults c.hold_line.new.lines)) c.loop.invariant.failed c.in-Some.ensures.failed)

pub returns-clause-holds : goal.returns-clause-holds
returns-clause-holds g c =
    let all : c.loop.counter ≡ 2 ^ 64 - 1 = omega arith in
    holding_done (terms c.args.setting.now.limits.now c.args.setting.now.legend.now c.args.prompts) c.args.breaks.now c.loop.breaks c.loop.counter (scene (engine c.args.machine.now) (g.F.PageFile.contents c.args.file.now) (g.K.Sink.contents c.args.sink.now)) (scene (engine c.loop.machine) (g.F.PageFile.contents c.loop.file) (g.K.Sink.contents c.loop.sink)) (g.L.Lines.rest c.args.lines.now) (g.L.Lines.rest c.loop.lines) all c.loop.invariant.holding

pub returns-clause-later : goal.returns-clause-later
returns-clause-later g c =
    file_later end.Lines (faults_of (g.F.PageFile.faults c.args.file.now) (g.K.Sink.faults c.args.sink.now) (g.L.Lines.faults c.args.lines.now)) (faults_of (g.F.PageFile.faults c.loop.file) (g.K.Sink.faults c.loop.sink) (g.L.Lines.faults c.loop.lines)) c.loop.invariant.failed

pub returns-clause-sunk : goal.returns-clause-sunk
returns-clause-sunk g c =
    sink_later end.Lines (faults_of (g.F.PageFile.faults c.args.file.now) (g.K.Sink.faults c.args.sink.now) (g.L.Lines.faults c.args.lines.now)) (faults_of (g.F.PageFile.faults c.loop.file) (g.K.Sink.faults c.loop.sink) (g.L.Lines.faults c.loop.lines)) c.loop.invariant.failed

pub returns-clause-read : goal.returns-clause-read
returns-clause-read g c =
    lines_later end.Lines (faults_of (g.F.PageFile.faults c.args.file.now) (g.K.Sink.faults c.args.sink.now) (g.L.Lines.faults c.args.lines.now)) (faults_of (g.F.PageFile.faults c.loop.file) (g.K.Sink.faults c.loop.sink) (g.L.Lines.faults c.loop.lines)) c.loop.invariant.failed

pub returns-clause-fault : goal.returns-clause-fault
returns-clause-fault g c =
    file_cause end.Lines (faults_of (g.F.PageFile.faults c.args.file.now) (g.K.Sink.faults c.args.sink.now) (g.L.Lines.faults c.args.lines.now)) (faults_of (g.F.PageFile.faults c.loop.file) (g.K.Sink.faults c.loop.sink) (g.L.Lines.faults c.loop.lines)) c.loop.invariant.failed

pub returns-clause-cause : goal.returns-clause-cause
returns-clause-cause g c =
    sink_cause end.Lines (faults_of (g.F.PageFile.faults c.args.file.now) (g.K.Sink.faults c.args.sink.now) (g.L.Lines.faults c.args.lines.now)) (faults_of (g.F.PageFile.faults c.loop.file) (g.K.Sink.faults c.loop.sink) (g.L.Lines.faults c.loop.lines)) c.loop.invariant.failed

pub returns-clause-broken : goal.returns-clause-broken
returns-clause-broken g c =
    lines_cause end.Lines (faults_of (g.F.PageFile.faults c.args.file.now) (g.K.Sink.faults c.args.sink.now) (g.L.Lines.faults c.args.lines.now)) (faults_of (g.F.PageFile.faults c.loop.file) (g.K.Sink.faults c.loop.sink) (g.L.Lines.faults c.loop.lines)) c.loop.invariant.failed

pub returns-clause-unfailed : goal.returns-clause-unfailed
returns-clause-unfailed g c =
    file_still end.Lines (faults_of (g.F.PageFile.faults c.args.file.now) (g.K.Sink.faults c.args.sink.now) (g.L.Lines.faults c.args.lines.now)) (faults_of (g.F.PageFile.faults c.loop.file) (g.K.Sink.faults c.loop.sink) (g.L.Lines.faults c.loop.lines)) c.loop.invariant.failed

pub returns-clause-failed : goal.returns-clause-failed
returns-clause-failed g c =
    file_once end.Lines (faults_of (g.F.PageFile.faults c.args.file.now) (g.K.Sink.faults c.args.sink.now) (g.L.Lines.faults c.args.lines.now)) (faults_of (g.F.PageFile.faults c.loop.file) (g.K.Sink.faults c.loop.sink) (g.L.Lines.faults c.loop.lines)) c.loop.invariant.failed

pub returns-clause-written : goal.returns-clause-written
returns-clause-written g c =
    sink_still end.Lines (faults_of (g.F.PageFile.faults c.args.file.now) (g.K.Sink.faults c.args.sink.now) (g.L.Lines.faults c.args.lines.now)) (faults_of (g.F.PageFile.faults c.loop.file) (g.K.Sink.faults c.loop.sink) (g.L.Lines.faults c.loop.lines)) c.loop.invariant.failed

pub returns-clause-whole : goal.returns-clause-whole
returns-clause-whole g c =
    lines_still end.Lines (faults_of (g.F.PageFile.faults c.args.file.now) (g.K.Sink.faults c.args.sink.now) (g.L.Lines.faults c.args.lines.now)) (faults_of (g.F.PageFile.faults c.loop.file) (g.K.Sink.faults c.loop.sink) (g.L.Lines.faults c.loop.lines)) c.loop.invariant.failed

pub returns-clause-restarts : goal.returns-clause-restarts
returns-clause-restarts g c = λ is. cc is
