use Rattle.std.proofs.Common.{arith, [], ◌≡◌, ◌+◌, ◌∙◌, List, ℕ, false, ap, subst}
use Rattle.vax_machine.specs.Machine.{keeping}
use Rattle.vax_machine.specs.Meaning.{engine}
use Rattle.vax_machine.specs.Paged.{Paged, begun_at}
use Rattle.vax_save.specs.Restored.{restored_place}
use Rattle.vax_cli.specs.Said.{options as said_options}
use Rattle.vax_cli.specs.declared.command.DumpItem.{DumpItem}
use Rattle.vax_cli.specs.declared.command.Strictness.TheVariants.{Off}
use Rattle.vax_command.specs.Around.{change, outside}
use Rattle.vax_command.specs.Course.{Course}
use Rattle.vax_command.specs.Room.{items_of}
use Rattle.vax_command.proofs.ResumeLaws.{has_resumed, restored_ready}
use Rattle.vax_command.proofs.RunLaws.{Told}
use Rattle.vax_command.proofs.resume.resume_run.Goals as goal

pub returns-in-Ok-clause-resumed : goal.returns-in-Ok-clause-resumed
returns-in-Ok-clause-resumed g c =
    let options = said_options c.args.options.now in
    let m = engine c.in-Ok.machine in
    let h = c.in-Ok.ensures.restored in
    let seen = outside (change g.K.Sink.faults g.K.Sink.contents c.args.sink.now c.execute.new.sink) (change g.F.PageFile.faults g.F.PageFile.contents c.args.pages.now c.execute.new.pages) in
    let b = begun_at options.frames h.0.steps (restored_place h.0 []) in
    let course : ℕ → List DumpItem → Course = λ steps items.
    record { limits = record { steps = steps + options.steps; turns = options.turns; listed = false }; areas = (keeping m).areas; rules = c.in-Ok.schedule; begins = b; items = items; strict = Off } in
    let counted : c.steps.result ≡ h.0.steps = c.steps.ensures ∙ ap (λ (p : Paged). p.steps) (h.2.begun (restored_place h.0 [])) in
    let went = c.execute.ensures.went b (restored_ready m options.frames h.0 h.2) in
    let limited = subst (λ (n : ℕ). Told seen (course n (items_of c.in-Ok.room.blanks.items)) c.execute.result) counted went in
    let all = subst (λ (z : List DumpItem). Told seen (course h.0.steps z) c.execute.result) c.in-Ok.ensures.room limited in
    has_resumed seen c.args.saved.now c.args.schedule.now options c.execute.result m h c.in-Ok.schedule c.in-Ok.ensures.space (let t = c.requires.within.turns in omega (arith, t)) c.in-Ok.ensures.planned all
