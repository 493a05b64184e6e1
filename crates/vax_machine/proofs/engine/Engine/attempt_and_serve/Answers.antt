use Rattle.std.proofs.Common.{None, ap, arith}
use Rattle.std.specs.Prelude.{is_some}
use Rattle.vax_pager.proofs.Told.{pager_is, space_is}
use Rattle.vax_machine.proofs.Between.{served_and_listed}
use Rattle.vax_machine.proofs.Following.{attempts_follow}
use Rattle.vax_machine.proofs.Delivering.{due_delivers}
use Rattle.vax_machine.proofs.Passing.{gone_on, passed_on, served_on}
use Rattle.vax_machine.proofs.Serving.{gone_several, quiet, stepped}
use Rattle.vax_machine.specs.Machine.{Keeping}
use Rattle.vax_machine.specs.Writing.{sent_by}
use Rattle.vax_machine.proofs.engine.Engine.attempt_and_serve.Goals as goal

pub returns-in-Stepped-clause-done : goal.returns-in-Stepped-clause-done
returns-in-Stepped-clause-done g c = λ o p f pins.
    let low = c.requires.turns in
    let h = stepped c.args.self.now p _ f.tracks c.requires.going c.args.most c.attempts.new.self c.requires.steps (omega (arith, low)) c.in-Stepped.sent c.in-Stepped.ensures.tried in
    passed_on o p c.args.self.now c.attempts.new.self _ _ _ _ c.args.most f (λ listed. sent_by c.in-Stepped.sent) _ _ c.send.result h c.send.ensures.passes c.send.ensures.still.listed

pub returns-in-Stepped-clause-gone : goal.returns-in-Stepped-clause-gone
returns-in-Stepped-clause-gone g c =
    let low = c.requires.turns in
    gone_several c.args.self.now c.attempts.new.self c.args.most c.attempts.result c.requires.steps (omega (arith, low)) c.attempts.ensures.tried

pub serve_and_list-requires-clause-wanted : goal.serve_and_list-requires-clause-wanted
serve_and_list-requires-clause-wanted g c = ap (λ (k : Keeping). is_some k.wanted) c.in-Absent.ensures.tried.keeps

pub serve_and_list-requires-clause-turns : goal.serve_and_list-requires-clause-turns
serve_and_list-requires-clause-turns g c =
    let low = c.requires.turns in
    let t = (gone_several c.args.self.now c.attempts.new.self c.args.most c.attempts.result c.requires.steps (omega (arith, low)) c.attempts.ensures.tried).turns in
    omega (arith, low, t)

pub returns-in-Absent-clause-done : goal.returns-in-Absent-clause-done
returns-in-Absent-clause-done g c = λ o p f pins.
    let low = c.requires.turns in
    served_on o p c.args.self.now c.attempts.new.self c.serve_and_list.new.self _ _ _ _ c.args.most c.in-Absent.field-0 f c.requires.going c.requires.steps (omega (arith, low)) c.in-Absent.ensures.tried (pager_is c.args.self.now.pager) (space_is c.args.self.now.pager) c.attempts.ensures.sound pins (pager_is c.attempts.new.self.pager)
    c.serve_and_list.result _ _ c.serve_and_list.ensures.writes.listed c.serve_and_list.ensures.served

pub returns-in-Absent-clause-gone : goal.returns-in-Absent-clause-gone
returns-in-Absent-clause-gone g c =
    let low = c.requires.turns in
    gone_on c.serve_and_list.result c.args.self.now c.attempts.new.self c.serve_and_list.new.self c.args.most _ _ _ _ _ _
    (gone_several c.args.self.now c.attempts.new.self c.args.most c.attempts.result c.requires.steps (omega (arith, low)) c.attempts.ensures.tried) c.serve_and_list.ensures.served

pub returns-in-Absent-clause-goes_on : goal.returns-in-Absent-clause-goes_on
returns-in-Absent-clause-goes_on g c =
    let low = c.requires.turns in
    served_and_listed c.serve_and_list.result c.args.self.now c.attempts.new.self c.serve_and_list.new.self c.args.most c.in-Absent.field-0 _ _ _ _ _ _ c.requires.going c.requires.steps (omega (arith, low)) c.in-Absent.ensures.tried c.serve_and_list.ensures.served

pub returns-in_default : goal.returns-in_default
returns-in_default g c =
    let low = c.requires.turns in
    record {
      sound = c.attempts.ensures.sound;
      done = λ o p f pins.
          passed_on o p c.args.self.now c.attempts.new.self _ _ _ _ c.args.most f (λ listed. sent_by None) _ _ c.write_due.result
          (quiet c.args.self.now p _ f.tracks c.requires.going c.args.most c.attempts.new.self c.requires.steps (omega (arith, low)) c.attempts.result c.attempts.ensures.tried c.in_default.not-Stepped c.in_default.not-Absent)
          c.write_due.ensures.passes c.write_due.ensures.still.listed;
      gone = gone_several c.args.self.now c.attempts.new.self c.args.most c.attempts.result c.requires.steps (omega (arith, low)) c.attempts.ensures.tried;
      goes_on = c.attempts.ensures.goes_on;
      follows = attempts_follow c.args.most c.args.self.now c.attempts.new.self c.attempts.result _ c.requires.going c.requires.steps c.attempts.ensures.tried;
      delivers =
          let gone = gone_several c.args.self.now c.attempts.new.self c.args.most c.attempts.result c.requires.steps (omega (arith, low)) c.attempts.ensures.tried in
          due_delivers _ _ gone.further _ _ _ _ c.write_due.result c.write_due.ensures.passes c.write_due.ensures.due;
      writes = c.write_due.ensures.still;
      counts = c.write_due.ensures.counts (g.F.PageFile.faults c.args.file.now);
    }

pub returns-in-Stepped-clause-follows : goal.returns-in-Stepped-clause-follows
returns-in-Stepped-clause-follows g c = attempts_follow c.args.most c.args.self.now c.attempts.new.self c.attempts.result _ c.requires.going c.requires.steps c.attempts.ensures.tried

pub returns-in-Absent-clause-follows : goal.returns-in-Absent-clause-follows
returns-in-Absent-clause-follows g c = λ first start f.
    c.serve_and_list.ensures.follows first start (attempts_follow c.args.most c.args.self.now c.attempts.new.self c.attempts.result _ c.requires.going c.requires.steps c.attempts.ensures.tried first start f)

pub returns-in-Stepped-clause-counts : goal.returns-in-Stepped-clause-counts
returns-in-Stepped-clause-counts g c = c.send.ensures.counts (g.F.PageFile.faults c.args.file.now)

pub returns-in-Stepped-clause-delivers : goal.returns-in-Stepped-clause-delivers
returns-in-Stepped-clause-delivers g c =
    let low = c.requires.turns in
    let gone = gone_several c.args.self.now c.attempts.new.self c.args.most c.attempts.result c.requires.steps (omega (arith, low)) c.attempts.ensures.tried in
    c.send.ensures.delivers c.args.self.now.steps gone.further

pub returns-in-Absent-clause-delivers : goal.returns-in-Absent-clause-delivers
returns-in-Absent-clause-delivers g c =
    let low = c.requires.turns in
    let gone = gone_several c.args.self.now c.attempts.new.self c.args.most c.attempts.result c.requires.steps (omega (arith, low)) c.attempts.ensures.tried in
    c.serve_and_list.ensures.delivers c.args.self.now.steps gone.further
