use Rattle.std.proofs.Common.{◌≡◌, ◌∙◌, is_some, ap, sym}
use Rattle.std.specs.List.{list_any}
use Rattle.std.proofs.lemmas.Result.{IfOk-weaker}
use Rattle.vax_machine.specs.Meaning.{engine}
use Rattle.vax_console.proofs.Requested.{same_core, same_ending}
use Rattle.vax_debug.specs.Travel.{is_stop, stops_at}
use Rattle.vax_debug.specs.Watches.{is_changed}
use Rattle.vax_debug.proofs.Watching.{halts_changed, halts_ended, halts_there}
use Rattle.vax_debug.proofs.travel.has_halted.Goals as goal
use Rattle.vax_debug.proofs.travel.has_halted.Goals.{then-is_some-via-then-is_some, then-is_some-via-else-is_some+then-is_stop}

pub returns-then-is_some-clause-tells : goal.returns-then-is_some-clause-tells
returns-then-is_some-clause-tells g c = λ sink o s replies here.
    let stops = stops_at c.args.marks.now.breaks.now c.args.marks.now.seen.now c.args.goal in
    let ending = same_ending (engine c.args.machine.now) (g.F.PageFile.contents c.args.file.now) s.machine here.at.means in
    let core = same_core (engine c.args.machine.now) (g.F.PageFile.contents c.args.file.now) s.machine here.at.means in
    let ended : is_some s.machine.ending ≡ c.is_some.result = ap is_some (ending ∙ sym c.ended.ensures) ∙ sym c.is_some.ensures in
    elim c.then-is_some.branch [
      | then-is_some-via-then-is_some w ↦ halts_ended stops s.machine (ended ∙ w.if-is_some.true)
      | then-is_some-via-else-is_some+then-is_stop w ↦
          halts_there stops s.machine (ended ∙ w.if-is_some.false)
          (ap (is_stop stops) (core ∙ sym w.core.ensures) ∙ (sym (w.is_stop.ensures c.args.marks.now.seen.now) ∙ w.if-is_stop.true))
    ]

pub returns-clause-tells : goal.returns-clause-tells
returns-clause-tells g c = λ sink.
    IfOk-weaker c.has_changed.result _ _ (λ told tells o s replies here.
    let stops = stops_at c.args.marks.now.breaks.now c.args.marks.now.seen.now c.args.goal in
    let ending = same_ending (engine c.args.machine.now) (g.F.PageFile.contents c.args.file.now) s.machine here.at.means in
    let core = same_core (engine c.args.machine.now) (g.F.PageFile.contents c.args.file.now) s.machine here.at.means in
    let ended : is_some s.machine.ending ≡ c.is_some.result = ap is_some (ending ∙ sym c.ended.ensures) ∙ sym c.is_some.ensures in
    halts_changed stops s.machine told (ended ∙ c.if-is_some.false)
    (ap (is_stop stops) (core ∙ sym c.core.ensures) ∙ (sym (c.is_stop.ensures c.args.marks.now.seen.now) ∙ c.if-is_stop.false))
    (tells o s replies here ∙ ap (list_any (is_changed s.machine)) c.as_slice.ensures))
    (c.has_changed.ensures.tells sink)
