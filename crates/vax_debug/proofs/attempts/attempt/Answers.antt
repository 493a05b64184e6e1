use Rattle.std.proofs.Common.{refl}
use Rattle.vax_machine.specs.Meaning.{engine}
use Rattle.vax_console.specs.Ends.{scene}
use Rattle.vax_debug.specs.Attempts.{bare}
use Rattle.vax_debug.specs.declared.attempts.Tried.TheVariants as tried
use Rattle.vax_debug.specs.Pages.{missed_by, pages_at}
use Rattle.vax_debug.proofs.Arriving.{counts_then}
use Rattle.vax_debug.proofs.Attempting.{attempts_parted, attempts_whole, counts_as, makes, missed_attempts, misses, parts, rest_attempts, sends_only, sent_arrives, turns_out}
use Rattle.vax_console.proofs.Only.{only_none}
use Rattle.vax_debug.proofs.attempts.attempt.Goals as goal

pub returns-then-is_out_of_turns-clause-attempts : goal.returns-then-is_out_of_turns-clause-attempts
returns-then-is_out_of_turns-clause-attempts g c = λ o s replies h few.
    turns_out c.args.limits.now.turns o s replies (scene (engine c.args.machine.now) (g.F.PageFile.contents c.args.file.now) (g.K.Sink.contents c.args.sink.now)) c.is_out_of_turns.result h c.is_out_of_turns.ensures c.if-is_out_of_turns.true

pub returns-in-Absent-clause-attempts : goal.returns-in-Absent-clause-attempts
returns-in-Absent-clause-attempts g c = λ o s replies h few.
    let sink = g.K.Sink.contents c.args.sink.now in
    let v = scene (engine c.args.machine.now) (g.F.PageFile.contents c.args.file.now) sink in
    let w = scene (engine c.apply.new.self) (g.F.PageFile.contents c.apply.new.file) sink in
    let x = scene (engine c.bring_in.new.machine) (g.F.PageFile.contents c.bring_in.new.file) sink in
    let m = misses c.in-Absent.page c.apply.result o s replies v w c.in-Absent.is h c.apply.ensures.applies in
    missed_attempts c.bring_in.result c.in-Absent.page c.args.limits.now.turns o s replies v w x m (c.bring_in.ensures.brings sink o s replies m.at)

pub returns-in-Stepped-clause-attempts : goal.returns-in-Stepped-clause-attempts
returns-in-Stepped-clause-attempts g c = λ o s replies h few.
    let sink = g.K.Sink.contents c.args.sink.now in
    let v = scene (engine c.args.machine.now) (g.F.PageFile.contents c.args.file.now) sink in
    let w = scene (engine c.apply.new.self) (g.F.PageFile.contents c.apply.new.file) sink in
    let x = scene (engine c.apply.new.self) (g.F.PageFile.contents c.apply.new.file) (g.K.Sink.contents c.send.new.sink) in
    let m = makes c.in-Stepped.sent c.apply.result o s replies v w c.in-Stepped.is h few c.apply.ensures.applies in
    attempts_whole c.send.result c.missing_none.result c.args.limits.now.turns (missed_by (pages_at v.machine) s) o s replies x c.missing_none.ensures m.is m.whole
    (sent_arrives c.send.result c.in-Stepped.sent c.args.limits.now.turns o s replies v.machine w.machine v.file w.file sink (g.K.Sink.contents c.send.new.sink) h m c.send.ensures.sends)

pub returns-in-Parted-clause-attempts : goal.returns-in-Parted-clause-attempts
returns-in-Parted-clause-attempts g c = λ o s replies h few.
    let sink = g.K.Sink.contents c.args.sink.now in
    let v = scene (engine c.args.machine.now) (g.F.PageFile.contents c.args.file.now) sink in
    let w = scene (engine c.apply.new.self) (g.F.PageFile.contents c.apply.new.file) sink in
    let x = scene (engine c.make_step.new.machine) (g.F.PageFile.contents c.make_step.new.file) (g.K.Sink.contents c.make_step.new.sink) in
    let p = parts c.apply.result o s replies v w c.in-Parted.is h refl c.apply.ensures.applies in
    attempts_parted c.make_step.result c.missing_none-in-Parted.result c.args.limits.now.turns (missed_by (pages_at v.machine) s) o s replies x c.missing_none-in-Parted.ensures p.0 p.1 (c.make_step.ensures.resumes o s replies p.2 few)

pub returns-in_default-clause-attempts : goal.returns-in_default-clause-attempts
returns-in_default-clause-attempts g c = λ o s replies h few.
    let sink = g.K.Sink.contents c.args.sink.now in
    let v = scene (engine c.args.machine.now) (g.F.PageFile.contents c.args.file.now) sink in
    let w = scene (engine c.apply.new.self) (g.F.PageFile.contents c.apply.new.file) sink in
    rest_attempts c.apply.result c.args.limits.now.turns o s replies v w h few refl c.in_default.not-Absent c.in_default.not-Stepped c.in_default.not-Parted c.apply.ensures.applies

pub returns-in-Absent-clause-counts : goal.returns-in-Absent-clause-counts
returns-in-Absent-clause-counts g c =
    let sink = g.K.Sink.faults c.args.sink.now in
    counts_then (bare c.bring_in.result) (g.F.PageFile.faults c.args.file.now) (g.F.PageFile.faults c.apply.new.file) (g.F.PageFile.faults c.bring_in.new.file) sink sink sink c.in-Absent.ensures.counts.quiet refl (c.bring_in.ensures.counts sink)

pub returns-in-Stepped-clause-counts : goal.returns-in-Stepped-clause-counts
returns-in-Stepped-clause-counts g c =
    let file = g.F.PageFile.faults c.apply.new.file in
    let sink = g.K.Sink.faults c.args.sink.now in
    counts_as tried.Made c.send.result c.missing_none.result (g.F.PageFile.faults c.args.file.now) file sink (g.K.Sink.faults c.send.new.sink) c.missing_none.ensures
    (counts_then c.send.result (g.F.PageFile.faults c.args.file.now) file file sink sink (g.K.Sink.faults c.send.new.sink) c.in-Stepped.ensures.counts.quiet refl (c.send.ensures.counts file))

pub returns-in-Parted-clause-counts : goal.returns-in-Parted-clause-counts
returns-in-Parted-clause-counts g c =
    let sink = g.K.Sink.faults c.args.sink.now in
    counts_as tried.Parted c.make_step.result c.missing_none-in-Parted.result (g.F.PageFile.faults c.args.file.now) (g.F.PageFile.faults c.make_step.new.file) sink (g.K.Sink.faults c.make_step.new.sink) c.missing_none-in-Parted.ensures
    (counts_then c.make_step.result (g.F.PageFile.faults c.args.file.now) (g.F.PageFile.faults c.apply.new.file) (g.F.PageFile.faults c.make_step.new.file) sink sink (g.K.Sink.faults c.make_step.new.sink) c.in-Parted.ensures.counts.quiet refl c.make_step.ensures.counts)

pub returns-then-is_out_of_turns-clause-only : goal.returns-then-is_out_of_turns-clause-only
returns-then-is_out_of_turns-clause-only g c = only_none _

pub returns-in-Absent-clause-only : goal.returns-in-Absent-clause-only
returns-in-Absent-clause-only g c = only_none _

pub returns-in-Stepped-clause-only : goal.returns-in-Stepped-clause-only
returns-in-Stepped-clause-only g c = sends_only _ _ _ _ c.send.ensures.sends

pub returns-in_default-clause-only : goal.returns-in_default-clause-only
returns-in_default-clause-only g c = only_none _
