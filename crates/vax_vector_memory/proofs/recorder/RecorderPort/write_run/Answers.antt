use Rattle.std.proofs.Common.{refl, ap, length, ◌∙◌}
use Rattle.vax_space.specs.declared.Access.TheVariants.{Write}
use Rattle.vax_flat.specs.Port.{View, first_absent, with_run}
use Rattle.vax_undo.specs.Plain.{view_of as plain_view}
use Rattle.vax_vector_memory.proofs.Guarding.{cut_alike, stops_alike}
use Rattle.vax_space.specs.Reference.{violation}
use Rattle.vax_undo.specs.Trail.{noted, writing}
use Rattle.vax_vector_memory.specs.Record.{trail_of}
use Rattle.vax_vector_memory.proofs.Keeping.{run_made_so, run_stopped_so, run_leaves, since_more}
use Rattle.vax_vector_memory.proofs.recorder.RecorderPort.write_run.Goals as goal

pub returns-in-Ok-clause-since : goal.returns-in-Ok-clause-since
returns-in-Ok-clause-since c = λ start before.
    since_more c.args.self.now _ _ before c.keep.ensures.kept refl (λ all. all) tt
    (ap (λ (v : View). v.byte) c.keep.ensures.view ∙ run_leaves (plain_view c.args.self.now.memory) _ c.args.addr c.args.from.now _ c.in-Ok.ensures.answer c.in-Ok.ensures.stored)

pub returns-in-Err-write_run-clause-answer : goal.returns-in-Err-write_run-clause-answer
returns-in-Err-write_run-clause-answer c =
    c.in-Err-write_run.ensures.answer
    ∙ stops_alike c.args.self.now.pages.items (plain_view c.args.self.now.memory) c.args.self.now.rights c.args.addr (length c.args.from.now) c.args.mode Write c.args.self.now.areas_are c.args.self.now.rights_are c.requires.of_mode c.in_default.ensures.answer

pub returns-in-Err-write_run-clause-stored : goal.returns-in-Err-write_run-clause-stored
returns-in-Err-write_run-clause-stored c =
    cut_alike _ _ (plain_view c.args.self.now.memory) (with_run (plain_view c.args.self.now.memory) c.args.addr c.args.from.now) (plain_view c.write_run.new.self) c.args.self.now.rights
    (stops_alike c.args.self.now.pages.items (plain_view c.args.self.now.memory) c.args.self.now.rights c.args.addr (length c.args.from.now) c.args.mode Write c.args.self.now.areas_are c.args.self.now.rights_are c.requires.of_mode c.in_default.ensures.answer)
    c.in-Err-write_run.ensures.stored

pub returns-in-Ok-clause-trail : goal.returns-in-Ok-clause-trail
returns-in-Ok-clause-trail c =
    run_made_so (violation c.args.self.now.rights c.args.addr (length c.args.from.now) c.args.mode Write) (violation c.args.self.now.memory.space c.args.addr (length c.args.from.now) c.args.mode Write) (first_absent (plain_view c.args.self.now.memory).resident c.args.addr (length c.args.from.now))
    (trail_of c.args.self.now) _ (noted (trail_of c.args.self.now) (writing c.args.addr c.args.from.now))
    c.in_default.ensures.answer c.in-Ok.ensures.answer c.keep.ensures.trail

pub returns-in-Err-write_run-clause-trail : goal.returns-in-Err-write_run-clause-trail
returns-in-Err-write_run-clause-trail c =
    run_stopped_so _ _ (trail_of c.args.self.now) (noted (trail_of c.args.self.now) (writing c.args.addr c.args.from.now)) (returns-in-Err-write_run-clause-answer c)
