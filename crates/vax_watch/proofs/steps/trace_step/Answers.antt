use Rattle.std.proofs.Common.{◌≡◌, ◌+◌, false, refl, ap, sym, ◌∙◌, arith}
use Rattle.std.proofs.lemmas.Result.{on_ok_weaker}
use Rattle.vax_outside.specs.Channels.{only}
use Rattle.vax_outside.specs.declared.traits.Chan.TheVariants.{Record}
use Rattle.vax_machine.specs.Meaning.{engine}
use Rattle.vax_machine.specs.Run.{system_of}
use Rattle.vax_machine.specs.declared.event.Limits.{Limits}
use Rattle.vax_machine.specs.declared.event.RunEnd.TheVariants as run_end
use Rattle.vax_watch.specs.Beginning.{beginning}
use Rattle.vax_watch.specs.Tracing.{Stage, stage_of}
use Rattle.vax_watch.specs.declared.steps.TraceEnd.TheVariants.{PageFault, WriteFault}
use Rattle.vax_watch.proofs.Making.{comes, cut_as, ended_more, err_comes, peek_cut, room_cut}
use Rattle.vax_watch.proofs.Stepped.{begins_peeked, core_peeked, gone_peeked, line_behind, peeked, peeked_by, ready_peeked}
use Rattle.vax_watch.proofs.Stepping.{cut_then, lost_then, stops_ended, stops_turns, unlisted_next}
use Rattle.vax_watch.proofs.Writing.{part_only, passed_only, step_only}
use Rattle.vax_watch.proofs.steps.trace_step.Goals as goal

pub returns-in_err-make_room-clause-makes : goal.returns-in_err-make_room-clause-makes
returns-in_err-make_room-clause-makes g c = λ t old f h d.
    let s = stage_of (system_of (engine c.args.machine.now) (g.F.PageFile.contents c.args.file.now) (g.K.Sink.contents c.args.sink.now)) c.args.notes.now c.args.plan.now in
    let now1 = g.K.Sink.contents c.make_room.new.sink in
    let u : Stage = record s { system = record s.system { channels = now1 }; lines = c.make_room.new.lines.items } in
    err_comes t old u WriteFault c.from_residual.result c.from_residual.ensures.1 (room_cut t old s now1 h c.in_err-make_room.ensures.prefix)

pub returns-in_err-begins-clause-makes : goal.returns-in_err-begins-clause-makes
returns-in_err-begins-clause-makes g c = λ t old f h d.
    let s = stage_of (system_of (engine c.args.machine.now) (g.F.PageFile.contents c.args.file.now) (g.K.Sink.contents c.args.sink.now)) c.args.notes.now c.args.plan.now in
    let now1 = g.K.Sink.contents c.make_room.new.sink in
    let lines1 = c.make_room.new.lines.items in
    let m2 = engine c.look_at.new.machine in
    let f2 = g.F.PageFile.contents c.look_at.new.file in
    let k = peeked_by t old s f.begun h d now1 lines1 c.in_ok-make_room.ensures.ok m2 f2 c.look_at.ensures.looked in
    err_comes t old (peeked s now1 lines1 m2 f2) PageFault c.from_residual-in_err-begins.result c.from_residual-in_err-begins.ensures.1 (peek_cut t old (peeked s now1 lines1 m2 f2) (ready_peeked t old s now1 lines1 m2 f2 k))

pub returns-in-Steps-clause-makes : goal.returns-in-Steps-clause-makes
returns-in-Steps-clause-makes g c = λ t old f h d.
    let s = stage_of (system_of (engine c.args.machine.now) (g.F.PageFile.contents c.args.file.now) (g.K.Sink.contents c.args.sink.now)) c.args.notes.now c.args.plan.now in
    let now1 = g.K.Sink.contents c.make_room.new.sink in
    let lines1 = c.make_room.new.lines.items in
    let m2 = engine c.look_at.new.machine in
    let f2 = g.F.PageFile.contents c.look_at.new.file in
    let k = peeked_by t old s f.begun h d now1 lines1 c.in_ok-make_room.ensures.ok m2 f2 c.look_at.ensures.looked in
    let s2 = peeked s now1 lines1 m2 f2 in
    let r = ready_peeked t old s now1 lines1 m2 f2 k in
    let m3 = engine c.go_on.new.self in
    let f3 = g.F.PageFile.contents c.go_on.new.file in
    let now3 = g.K.Sink.contents c.go_on.new.sink in
    let held3 = c.go_on.new.held in
    let unlisted : held3.listed ≡ false = c.go_on.ensures.writes.listed ∙ h.keeps.holds.unlisted in
    let same = c.steps.ensures in
    let gone = gone_peeked t old s now1 lines1 m2 f2 k c.args.limits.now c.args.schedule.now _ f c.steps.result same run_end.Steps m3 f3 now3 held3 c.in-Steps.ensures.goes in
    let high = c.in-Steps.ensures.steps tt (omega (arith, same)) in
    let low = c.in-Steps.ensures.reason in
    let between = c.in-Steps.ensures.between tt r.between in
    let begins = beginning c.in_ok-begins.begins in
    let core = core_peeked t old s now1 lines1 m2 f2 k c.core.result.now c.core.ensures in
    let here = begins_peeked t old s now1 lines1 m2 f2 k c.core.result.now c.core.ensures c.args.plan.now.texts f.same_texts begins c.in_ok-begins.ensures.shows in
    let least = low.1 in
    let one : m3.steps ≡ m2.steps + 1 = omega (arith, high, least, same) in
    let seen = c.list_step.new.plan.seen.items in
    comes t old s2 f.begun r begins here m3 f3 now3 held3 unlisted run_end.Steps gone between one (engine c.list_step.new.machine) (g.F.PageFile.contents c.list_step.new.file) c.list_step.ensures.looked c.list_step.new.lines.items seen c.list_step.result c.list_step.ensures.seen
    (on_ok_weaker c.list_step.result (λ e. e ∙ line_behind lines1 m3.steps c.core.result.now m2.cpu.core begins m3.cpu.core seen core) c.list_step.ensures.lines) c.list_step.ensures.unlisted c.list_step.ensures.fault

pub returns-in-Turns-clause-makes : goal.returns-in-Turns-clause-makes
returns-in-Turns-clause-makes g c = λ t old f h d.
    let s = stage_of (system_of (engine c.args.machine.now) (g.F.PageFile.contents c.args.file.now) (g.K.Sink.contents c.args.sink.now)) c.args.notes.now c.args.plan.now in
    let now1 = g.K.Sink.contents c.make_room.new.sink in
    let lines1 = c.make_room.new.lines.items in
    let m2 = engine c.look_at.new.machine in
    let f2 = g.F.PageFile.contents c.look_at.new.file in
    let k = peeked_by t old s f.begun h d now1 lines1 c.in_ok-make_room.ensures.ok m2 f2 c.look_at.ensures.looked in
    let s2 = peeked s now1 lines1 m2 f2 in
    let r = ready_peeked t old s now1 lines1 m2 f2 k in
    let m3 = engine c.go_on.new.self in
    let f3 = g.F.PageFile.contents c.go_on.new.file in
    let now3 = g.K.Sink.contents c.go_on.new.sink in
    let held3 = c.go_on.new.held in
    let unlisted : held3.listed ≡ false = c.go_on.ensures.writes.listed ∙ h.keeps.holds.unlisted in
    let same = c.steps.ensures in
    let gone = gone_peeked t old s now1 lines1 m2 f2 k c.args.limits.now c.args.schedule.now _ f c.steps.result same run_end.Turns m3 f3 now3 held3 c.in-Turns.ensures.goes in
    let why = c.in-Turns.ensures.reason in
    let low = why.1 in
    let high = why.2 in
    stops_turns t old s2 f.begun r m3 f3 now3 held3 unlisted run_end.Turns gone why.0 (omega (arith, low, same)) (let turns = ap (λ (l : Limits). l.turns) (sym f.same_limits) in omega (arith, high, turns))

pub returns-in-PageFault-clause-makes : goal.returns-in-PageFault-clause-makes
returns-in-PageFault-clause-makes g c = λ t old f h d.
    let s = stage_of (system_of (engine c.args.machine.now) (g.F.PageFile.contents c.args.file.now) (g.K.Sink.contents c.args.sink.now)) c.args.notes.now c.args.plan.now in
    let now1 = g.K.Sink.contents c.make_room.new.sink in
    let lines1 = c.make_room.new.lines.items in
    let m2 = engine c.look_at.new.machine in
    let f2 = g.F.PageFile.contents c.look_at.new.file in
    let k = peeked_by t old s f.begun h d now1 lines1 c.in_ok-make_room.ensures.ok m2 f2 c.look_at.ensures.looked in
    let s2 = peeked s now1 lines1 m2 f2 in
    let r = ready_peeked t old s now1 lines1 m2 f2 k in
    let m3 = engine c.go_on.new.self in
    let f3 = g.F.PageFile.contents c.go_on.new.file in
    let now3 = g.K.Sink.contents c.go_on.new.sink in
    let held3 = c.go_on.new.held in
    let unlisted : held3.listed ≡ false = c.go_on.ensures.writes.listed ∙ h.keeps.holds.unlisted in
    let same = c.steps.ensures in
    let gone = gone_peeked t old s now1 lines1 m2 f2 k c.args.limits.now c.args.schedule.now _ f c.steps.result same run_end.PageFault m3 f3 now3 held3 c.in-PageFault.ensures.goes in
    cut_then t old s2 f.begun r m3 f3 now3 held3 unlisted gone

pub returns-in-WriteFault-clause-makes : goal.returns-in-WriteFault-clause-makes
returns-in-WriteFault-clause-makes g c = λ t old f h d.
    let s = stage_of (system_of (engine c.args.machine.now) (g.F.PageFile.contents c.args.file.now) (g.K.Sink.contents c.args.sink.now)) c.args.notes.now c.args.plan.now in
    let now1 = g.K.Sink.contents c.make_room.new.sink in
    let lines1 = c.make_room.new.lines.items in
    let m2 = engine c.look_at.new.machine in
    let f2 = g.F.PageFile.contents c.look_at.new.file in
    let k = peeked_by t old s f.begun h d now1 lines1 c.in_ok-make_room.ensures.ok m2 f2 c.look_at.ensures.looked in
    let s2 = peeked s now1 lines1 m2 f2 in
    let r = ready_peeked t old s now1 lines1 m2 f2 k in
    let m3 = engine c.go_on.new.self in
    let f3 = g.F.PageFile.contents c.go_on.new.file in
    let now3 = g.K.Sink.contents c.go_on.new.sink in
    let held3 = c.go_on.new.held in
    let unlisted : held3.listed ≡ false = c.go_on.ensures.writes.listed ∙ h.keeps.holds.unlisted in
    let same = c.steps.ensures in
    let gone = gone_peeked t old s now1 lines1 m2 f2 k c.args.limits.now c.args.schedule.now _ f c.steps.result same run_end.WriteFault m3 f3 now3 held3 c.in-WriteFault.ensures.goes in
    lost_then t old s2 f.begun r f3 now3 gone

pub returns-in_err-list_step-in-Ended-clause-makes : goal.returns-in_err-list_step-in-Ended-clause-makes
returns-in_err-list_step-in-Ended-clause-makes g c = λ t old f h d.
    let s = stage_of (system_of (engine c.args.machine.now) (g.F.PageFile.contents c.args.file.now) (g.K.Sink.contents c.args.sink.now)) c.args.notes.now c.args.plan.now in
    let now1 = g.K.Sink.contents c.make_room.new.sink in
    let lines1 = c.make_room.new.lines.items in
    let m2 = engine c.look_at.new.machine in
    let f2 = g.F.PageFile.contents c.look_at.new.file in
    let k = peeked_by t old s f.begun h d now1 lines1 c.in_ok-make_room.ensures.ok m2 f2 c.look_at.ensures.looked in
    let ending = run_end.Ended c.in-Ended.ending in
    let s2 = peeked s now1 lines1 m2 f2 in
    let r = ready_peeked t old s now1 lines1 m2 f2 k in
    let m3 = engine c.go_on.new.self in
    let f3 = g.F.PageFile.contents c.go_on.new.file in
    let now3 = g.K.Sink.contents c.go_on.new.sink in
    let held3 = c.go_on.new.held in
    let unlisted : held3.listed ≡ false = c.go_on.ensures.writes.listed ∙ h.keeps.holds.unlisted in
    let same = c.steps.ensures in
    let gone = gone_peeked t old s now1 lines1 m2 f2 k c.args.limits.now c.args.schedule.now _ f c.steps.result same ending m3 f3 now3 held3 c.in-Ended.ensures.goes in
    let high = c.in-Ended.ensures.steps tt (omega (arith, same)) in
    let low = c.in-Ended.ensures.reason in
    let between = c.in-Ended.ensures.between tt r.between in
    let begins = beginning c.in_ok-begins.begins in
    let core = core_peeked t old s now1 lines1 m2 f2 k c.core.result.now c.core.ensures in
    let here = begins_peeked t old s now1 lines1 m2 f2 k c.core.result.now c.core.ensures c.args.plan.now.texts f.same_texts begins c.in_ok-begins.ensures.shows in
    let one = ended_more t old s2 f.begun r m3 f3 now3 held3 unlisted ending gone between c.in-Ended.ending low (omega (arith, high, same)) in
    let call = c.list_step-in-Ended in
    let m4 = engine call.new.machine in
    let f4 = g.F.PageFile.contents call.new.file in
    let lines = call.new.lines.items in
    let seen = call.new.plan.seen.items in
    let u : Stage = record s2 { system = record { machine = m4; file = f4; channels = now3 }; held = held3; lines = lines; seen = seen } in
    let e = c.in_err-list_step-in-Ended.field-0.0 in
    err_comes t old u e c.from_residual-in_err-list_step-in-Ended.result c.from_residual-in_err-list_step-in-Ended.ensures.1
    (cut_as t old u e c.in_err-list_step-in-Ended.ensures.fault (unlisted_next t old s2 f.begun r m3 f3 now3 held3 unlisted ending gone one m4 f4 call.ensures.looked lines seen c.in_err-list_step-in-Ended.ensures.unlisted))

pub returns-in_ok-list_step-in-Ended-clause-makes : goal.returns-in_ok-list_step-in-Ended-clause-makes
returns-in_ok-list_step-in-Ended-clause-makes g c = λ t old f h d.
    let s = stage_of (system_of (engine c.args.machine.now) (g.F.PageFile.contents c.args.file.now) (g.K.Sink.contents c.args.sink.now)) c.args.notes.now c.args.plan.now in
    let now1 = g.K.Sink.contents c.make_room.new.sink in
    let lines1 = c.make_room.new.lines.items in
    let m2 = engine c.look_at.new.machine in
    let f2 = g.F.PageFile.contents c.look_at.new.file in
    let k = peeked_by t old s f.begun h d now1 lines1 c.in_ok-make_room.ensures.ok m2 f2 c.look_at.ensures.looked in
    let ending = run_end.Ended c.in-Ended.ending in
    let s2 = peeked s now1 lines1 m2 f2 in
    let r = ready_peeked t old s now1 lines1 m2 f2 k in
    let m3 = engine c.go_on.new.self in
    let f3 = g.F.PageFile.contents c.go_on.new.file in
    let now3 = g.K.Sink.contents c.go_on.new.sink in
    let held3 = c.go_on.new.held in
    let unlisted : held3.listed ≡ false = c.go_on.ensures.writes.listed ∙ h.keeps.holds.unlisted in
    let same = c.steps.ensures in
    let gone = gone_peeked t old s now1 lines1 m2 f2 k c.args.limits.now c.args.schedule.now _ f c.steps.result same ending m3 f3 now3 held3 c.in-Ended.ensures.goes in
    let high = c.in-Ended.ensures.steps tt (omega (arith, same)) in
    let low = c.in-Ended.ensures.reason in
    let between = c.in-Ended.ensures.between tt r.between in
    let begins = beginning c.in_ok-begins.begins in
    let core = core_peeked t old s now1 lines1 m2 f2 k c.core.result.now c.core.ensures in
    let here = begins_peeked t old s now1 lines1 m2 f2 k c.core.result.now c.core.ensures c.args.plan.now.texts f.same_texts begins c.in_ok-begins.ensures.shows in
    let one = ended_more t old s2 f.begun r m3 f3 now3 held3 unlisted ending gone between c.in-Ended.ending low (omega (arith, high, same)) in
    let call = c.list_step-in-Ended in
    let m4 = engine call.new.machine in
    let f4 = g.F.PageFile.contents call.new.file in
    let lines = call.new.lines.items in
    let seen = call.new.plan.seen.items in
    let all = c.in_ok-list_step-in-Ended.ensures.lines ∙ line_behind lines1 m3.steps c.core.result.now m2.cpu.core begins m3.cpu.core seen core in
    stops_ended t old s2 f.begun r begins here m3 f3 now3 held3 unlisted ending gone between one seen c.in_ok-list_step-in-Ended.ensures.seen m4 f4 call.ensures.looked lines all c.in-Ended.ending low

pub returns-in_err-make_room-clause-only : goal.returns-in_err-make_room-clause-only
returns-in_err-make_room-clause-only g c = part_only _ _ (only Record c.args.notes.now.lines.items) refl refl c.in_err-make_room.ensures.prefix

pub returns-in_err-begins-clause-only : goal.returns-in_err-begins-clause-only
returns-in_err-begins-clause-only g c = passed_only _ _ _ _ c.in_ok-make_room.ensures.ok

pub returns-in-Steps-clause-only : goal.returns-in-Steps-clause-only
returns-in-Steps-clause-only g c = step_only _ _ _ _ _ _ c.in_ok-make_room.ensures.ok c.go_on.ensures.writes.only

pub returns-in-Turns-clause-only : goal.returns-in-Turns-clause-only
returns-in-Turns-clause-only g c = step_only _ _ _ _ _ _ c.in_ok-make_room.ensures.ok c.go_on.ensures.writes.only

pub returns-in-PageFault-clause-only : goal.returns-in-PageFault-clause-only
returns-in-PageFault-clause-only g c = step_only _ _ _ _ _ _ c.in_ok-make_room.ensures.ok c.go_on.ensures.writes.only

pub returns-in-WriteFault-clause-only : goal.returns-in-WriteFault-clause-only
returns-in-WriteFault-clause-only g c = step_only _ _ _ _ _ _ c.in_ok-make_room.ensures.ok c.go_on.ensures.writes.only

pub returns-in_err-list_step-in-Ended-clause-only : goal.returns-in_err-list_step-in-Ended-clause-only
returns-in_err-list_step-in-Ended-clause-only g c = step_only _ _ _ _ _ _ c.in_ok-make_room.ensures.ok c.go_on.ensures.writes.only

pub returns-in_ok-list_step-in-Ended-clause-only : goal.returns-in_ok-list_step-in-Ended-clause-only
returns-in_ok-list_step-in-Ended-clause-only g c = step_only _ _ _ _ _ _ c.in_ok-make_room.ensures.ok c.go_on.ensures.writes.only
