use Rattle.std.proofs.Common.{refl, ap, length, ◌∙◌}
use Rattle.vax_space.specs.declared.Access.TheVariants.{Read}
use Rattle.vax_flat.specs.Port.{View, first_absent}
use Rattle.vax_undo.specs.Plain.{view_of as plain_view}
use Rattle.vax_vector_memory.specs.Record.{view_of}
use Rattle.vax_vector_memory.proofs.Guarding.{stops_alike}
use Rattle.vax_space.specs.Reference.{violation}
use Rattle.vax_undo.specs.Trail.{noted, reading}
use Rattle.vax_vector_memory.specs.Record.{trail_of}
use Rattle.vax_vector_memory.proofs.Keeping.{run_made_so, run_stopped_so, run_gives, since_more}
use Rattle.vax_vector_memory.proofs.recorder.RecorderPort.read_run.Goals as goal

pub returns-in-Ok-clause-since : goal.returns-in-Ok-clause-since
returns-in-Ok-clause-since c = λ start before.
    since_more c.args.self.now _ _ before c.keep.ensures.kept refl (λ all. all)
    (run_gives (view_of c.args.self.now).byte c.args.addr (length c.args.into.now) _ c.in-Ok.ensures.bytes)
    (ap (λ (v : View). v.byte) c.keep.ensures.view ∙ ap (λ (v : View). v.byte) c.in-Ok.ensures.same)

pub returns-in-Err-read_run-clause-answer : goal.returns-in-Err-read_run-clause-answer
returns-in-Err-read_run-clause-answer c =
    c.in-Err-read_run.ensures.answer
    ∙ stops_alike c.args.self.now.pages.items (plain_view c.args.self.now.memory) c.args.self.now.rights c.args.addr (length c.args.into.now) c.args.mode Read c.args.self.now.areas_are c.args.self.now.rights_are c.requires.of_mode c.in_default.ensures.answer

pub returns-in-Ok-clause-trail : goal.returns-in-Ok-clause-trail
returns-in-Ok-clause-trail c =
    run_made_so (violation c.args.self.now.rights c.args.addr (length c.args.into.now) c.args.mode Read) (violation c.args.self.now.memory.space c.args.addr (length c.args.into.now) c.args.mode Read) (first_absent (plain_view c.args.self.now.memory).resident c.args.addr (length c.args.into.now))
    (trail_of c.args.self.now) _ (noted (trail_of c.args.self.now) (reading (view_of c.args.self.now) c.args.addr (length c.args.into.now)))
    c.in_default.ensures.answer c.in-Ok.ensures.answer
    (c.keep.ensures.trail ∙ ap (λ bs. noted (trail_of c.args.self.now) (record { access = Read; addr = c.args.addr; bytes = bs })) c.in-Ok.ensures.bytes)

pub returns-in-Err-read_run-clause-trail : goal.returns-in-Err-read_run-clause-trail
returns-in-Err-read_run-clause-trail c =
    run_stopped_so _ _ (trail_of c.args.self.now) (noted (trail_of c.args.self.now) (reading (view_of c.args.self.now) c.args.addr (length c.args.into.now))) (returns-in-Err-read_run-clause-answer c)
