use Rattle.std.proofs.Common.{inr, refl}
use Rattle.vax_outside.proofs.Counting.{rose_then}
use Rattle.vax_machine.specs.Meaning.{engine}
use Rattle.vax_debug_session.specs.Holding.{terms}
use Rattle.vax_command.specs.Around.{change, outside, seen_of}
use Rattle.vax_command.proofs.Admitting.{admits_then, fault_admits, none_admits}
use Rattle.vax_command_debug.proofs.DebugLaws.{counted_out, cut_off, lost, quit, read_out, saved, timed_out, unread}
use Rattle.vax_command_debug.proofs.session.hold_run.Goals as goal

pub returns-in-Quit-clause-went : goal.returns-in-Quit-clause-went
returns-in-Quit-clause-went g c = λ frames m f.
    let seen = outside (change g.K.Sink.faults g.K.Sink.contents c.args.sink.now c.report_here.new.sink) (change g.F.PageFile.faults g.F.PageFile.contents c.args.pages.now c.hold.new.file) in
    let lines = change g.L.Lines.faults g.L.Lines.rest c.args.lines.now c.hold.new.lines in
    quit seen lines (terms c.args.setting.now.limits.now c.args.setting.now.legend.now c.args.prompts) c.args.breaks.now (engine c.args.machine) (engine c.hold.new.machine) frames m f c.requires.between
    (seen_of g.K.Sink.faults g.K.Sink.contents c.hold.new.sink) c.report_here.result (c.in-Quit.ensures.written (λ x. cc))
    (g.F.PageFile.contents c.args.pages.now) c.hold.ensures.only c.in-Quit.ensures.holds c.report_here.ensures

pub returns-in-Save-clause-went : goal.returns-in-Save-clause-went
returns-in-Save-clause-went g c = λ frames m f.
    let seen = outside (change g.K.Sink.faults g.K.Sink.contents c.args.sink.now c.save_here.new.sink) (change g.F.PageFile.faults g.F.PageFile.contents c.args.pages.now c.save_here.new.pages) in
    let lines = change g.L.Lines.faults g.L.Lines.rest c.args.lines.now c.hold.new.lines in
    saved seen lines (terms c.args.setting.now.limits.now c.args.setting.now.legend.now c.args.prompts) c.args.breaks.now (engine c.args.machine) (engine c.hold.new.machine) frames m f c.requires.between
    (seen_of g.K.Sink.faults g.K.Sink.contents c.hold.new.sink) c.save_here.result (c.in-Save.ensures.written (λ x. cc))
    (g.F.PageFile.contents c.args.pages.now) (g.F.PageFile.contents c.hold.new.file) (change g.K.Sink.faults g.K.Sink.contents c.hold.new.sink c.save_here.new.sink) (change g.F.PageFile.faults g.F.PageFile.contents c.hold.new.file c.save_here.new.pages) refl refl
    (rose_then (c.in-Save.ensures.unfailed (λ x. cc) (λ x. cc))) c.hold.ensures.only c.in-Save.ensures.holds c.save_here.ensures.saves c.save_here.ensures.answers

pub returns-in-Read-clause-went : goal.returns-in-Read-clause-went
returns-in-Read-clause-went g c = λ frames m f.
    let seen = outside (change g.K.Sink.faults g.K.Sink.contents c.args.sink.now c.report_here-in-Read.new.sink) (change g.F.PageFile.faults g.F.PageFile.contents c.args.pages.now c.hold.new.file) in
    let lines = change g.L.Lines.faults g.L.Lines.rest c.args.lines.now c.hold.new.lines in
    read_out seen lines (terms c.args.setting.now.limits.now c.args.setting.now.legend.now c.args.prompts) c.args.breaks.now (engine c.args.machine) (engine c.hold.new.machine) frames m f c.requires.between
    (seen_of g.K.Sink.faults g.K.Sink.contents c.hold.new.sink) c.report_here-in-Read.result (c.in-Read.ensures.written (λ x. cc))
    (g.F.PageFile.contents c.args.pages.now) c.hold.ensures.only c.in-Read.ensures.holds c.report_here-in-Read.ensures

pub returns-in-Lines-clause-went : goal.returns-in-Lines-clause-went
returns-in-Lines-clause-went g c = λ frames m f.
    let seen = outside (change g.K.Sink.faults g.K.Sink.contents c.args.sink.now c.report_here-in-Lines.new.sink) (change g.F.PageFile.faults g.F.PageFile.contents c.args.pages.now c.hold.new.file) in
    let lines = change g.L.Lines.faults g.L.Lines.rest c.args.lines.now c.hold.new.lines in
    counted_out seen lines (terms c.args.setting.now.limits.now c.args.setting.now.legend.now c.args.prompts) c.args.breaks.now (engine c.args.machine) (engine c.hold.new.machine) frames m f c.requires.between
    (seen_of g.K.Sink.faults g.K.Sink.contents c.hold.new.sink) c.report_here-in-Lines.result (c.in-Lines.ensures.written (λ x. cc))
    (g.F.PageFile.contents c.args.pages.now) c.hold.ensures.only c.in-Lines.ensures.holds c.report_here-in-Lines.ensures

pub returns-in-Turns-clause-went : goal.returns-in-Turns-clause-went
returns-in-Turns-clause-went g c = λ frames m f.
    let seen = outside (change g.K.Sink.faults g.K.Sink.contents c.args.sink.now c.report.new.sink) (change g.F.PageFile.faults g.F.PageFile.contents c.args.pages.now c.hold.new.file) in
    let lines = change g.L.Lines.faults g.L.Lines.rest c.args.lines.now c.hold.new.lines in
    timed_out seen lines (terms c.args.setting.now.limits.now c.args.setting.now.legend.now c.args.prompts) c.args.breaks.now (engine c.args.machine) (engine c.hold.new.machine) frames m f c.requires.between
    (seen_of g.K.Sink.faults g.K.Sink.contents c.hold.new.sink) c.report.result (c.in-Turns.ensures.written (λ x. cc))
    (g.F.PageFile.contents c.args.pages.now) c.hold.ensures.only c.in-Turns.ensures.holds c.report.ensures

pub returns-in-PageFault-clause-went : goal.returns-in-PageFault-clause-went
returns-in-PageFault-clause-went g c = λ frames m f.
    let seen = outside (change g.K.Sink.faults g.K.Sink.contents c.args.sink.now c.report-in-PageFault.new.sink) (change g.F.PageFile.faults g.F.PageFile.contents c.args.pages.now c.hold.new.file) in
    let lines = change g.L.Lines.faults g.L.Lines.rest c.args.lines.now c.hold.new.lines in
    cut_off seen lines (terms c.args.setting.now.limits.now c.args.setting.now.legend.now c.args.prompts) c.args.breaks.now (engine c.args.machine) (engine c.hold.new.machine) frames m f c.requires.between
    (seen_of g.K.Sink.faults g.K.Sink.contents c.hold.new.sink) c.report-in-PageFault.result (c.in-PageFault.ensures.written (λ x. cc))
    (g.F.PageFile.contents c.args.pages.now) c.hold.ensures.only (c.in-PageFault.ensures.fault refl) c.in-PageFault.ensures.holds c.report-in-PageFault.ensures

pub returns-in-LineFault-clause-went : goal.returns-in-LineFault-clause-went
returns-in-LineFault-clause-went g c = λ frames m f.
    let seen = outside (change g.K.Sink.faults g.K.Sink.contents c.args.sink.now c.report_here-in-LineFault.new.sink) (change g.F.PageFile.faults g.F.PageFile.contents c.args.pages.now c.hold.new.file) in
    let lines = change g.L.Lines.faults g.L.Lines.rest c.args.lines.now c.hold.new.lines in
    unread seen lines (terms c.args.setting.now.limits.now c.args.setting.now.legend.now c.args.prompts) c.args.breaks.now (engine c.args.machine) (engine c.hold.new.machine) frames m f c.requires.between
    (seen_of g.K.Sink.faults g.K.Sink.contents c.hold.new.sink) c.report_here-in-LineFault.result (c.in-LineFault.ensures.written (λ x. cc))
    (g.F.PageFile.contents c.args.pages.now) c.hold.ensures.only (c.in-LineFault.ensures.broken refl) c.in-LineFault.ensures.holds c.report_here-in-LineFault.ensures

pub returns-in-WriteFault-clause-went : goal.returns-in-WriteFault-clause-went
returns-in-WriteFault-clause-went g c = λ frames m f.
    let seen = outside (change g.K.Sink.faults g.K.Sink.contents c.args.sink.now c.hold.new.sink) (change g.F.PageFile.faults g.F.PageFile.contents c.args.pages.now c.hold.new.file) in
    let lines = change g.L.Lines.faults g.L.Lines.rest c.args.lines.now c.hold.new.lines in
    lost seen lines (terms c.args.setting.now.limits.now c.args.setting.now.legend.now c.args.prompts) c.args.breaks.now (engine c.args.machine) (engine c.hold.new.machine) frames m f c.requires.between
    (g.F.PageFile.contents c.args.pages.now) c.hold.ensures.only (c.in-WriteFault.ensures.cause refl) c.in-WriteFault.ensures.holds

pub returns-in-Quit-clause-failed : goal.returns-in-Quit-clause-failed
returns-in-Quit-clause-failed g c = none_admits _ _ _ _ (c.in-Quit.ensures.unfailed (λ x. cc) (λ x. cc))

pub returns-in-Save-clause-failed : goal.returns-in-Save-clause-failed
returns-in-Save-clause-failed g c = admits_then _ _ _ _ _ (c.in-Save.ensures.unfailed (λ x. cc) (λ x. cc)) c.save_here.ensures.failed

pub returns-in-Read-clause-failed : goal.returns-in-Read-clause-failed
returns-in-Read-clause-failed g c = none_admits _ _ _ _ (c.in-Read.ensures.unfailed (λ x. cc) (λ x. cc))

pub returns-in-Lines-clause-failed : goal.returns-in-Lines-clause-failed
returns-in-Lines-clause-failed g c = none_admits _ _ _ _ (c.in-Lines.ensures.unfailed (λ x. cc) (λ x. cc))

pub returns-in-Turns-clause-failed : goal.returns-in-Turns-clause-failed
returns-in-Turns-clause-failed g c = none_admits _ _ _ _ (c.in-Turns.ensures.unfailed (λ x. cc) (λ x. cc))

pub returns-in-LineFault-clause-failed : goal.returns-in-LineFault-clause-failed
returns-in-LineFault-clause-failed g c = none_admits _ _ _ _ (c.in-LineFault.ensures.unfailed (λ x. cc) (λ x. cc))

pub returns-in-PageFault-clause-failed : goal.returns-in-PageFault-clause-failed
returns-in-PageFault-clause-failed g c = fault_admits _ _ _ _ _ _ _ (c.in-PageFault.ensures.fault refl) c.report-in-PageFault.ensures

pub returns-in-WriteFault-clause-failed : goal.returns-in-WriteFault-clause-failed
returns-in-WriteFault-clause-failed g c = λ n. record { once = c.hold.ensures.failed n; answer = inr refl }

pub returns-in-Quit-clause-broken : goal.returns-in-Quit-clause-broken
returns-in-Quit-clause-broken g c = none_admits _ _ _ _ (c.in-Quit.ensures.whole (λ x. cc))

pub returns-in-Save-clause-broken : goal.returns-in-Save-clause-broken
returns-in-Save-clause-broken g c = none_admits _ _ _ _ (c.in-Save.ensures.whole (λ x. cc))

pub returns-in-Read-clause-broken : goal.returns-in-Read-clause-broken
returns-in-Read-clause-broken g c = none_admits _ _ _ _ (c.in-Read.ensures.whole (λ x. cc))

pub returns-in-Lines-clause-broken : goal.returns-in-Lines-clause-broken
returns-in-Lines-clause-broken g c = none_admits _ _ _ _ (c.in-Lines.ensures.whole (λ x. cc))

pub returns-in-Turns-clause-broken : goal.returns-in-Turns-clause-broken
returns-in-Turns-clause-broken g c = none_admits _ _ _ _ (c.in-Turns.ensures.whole (λ x. cc))

pub returns-in-PageFault-clause-broken : goal.returns-in-PageFault-clause-broken
returns-in-PageFault-clause-broken g c = none_admits _ _ _ _ (c.in-PageFault.ensures.whole (λ x. cc))

pub returns-in-WriteFault-clause-broken : goal.returns-in-WriteFault-clause-broken
returns-in-WriteFault-clause-broken g c = none_admits _ _ _ _ (c.in-WriteFault.ensures.whole (λ x. cc))

pub returns-in-LineFault-clause-broken : goal.returns-in-LineFault-clause-broken
returns-in-LineFault-clause-broken g c = fault_admits _ _ _ _ _ _ _ (c.in-LineFault.ensures.broken refl) c.report_here-in-LineFault.ensures

pub returns-in-Restart-clause-again : goal.returns-in-Restart-clause-again
returns-in-Restart-clause-again g c = λ is. record {
  left = engine c.hold.new.machine;
  restarts = c.in-Restart.ensures.restarts refl;
  only_these = c.hold.ensures.only;
  quiet = record { sink = c.in-Restart.ensures.written (λ x. cc); pages = c.in-Restart.ensures.unfailed (λ x. cc) (λ x. cc); lines = c.in-Restart.ensures.whole (λ x. cc) };
}
