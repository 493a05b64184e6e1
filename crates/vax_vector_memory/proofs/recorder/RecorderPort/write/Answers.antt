use Rattle.std.proofs.Common.{refl, ap, ◌∙◌}
use Rattle.vax_space.specs.declared.Access.TheVariants.{Write}
use Rattle.vax_flat.specs.Memory.{number}
use Rattle.vax_flat.specs.Port.{View, first_absent, loaded_by, with_number}
use Rattle.vax_undo.specs.Plain.{view_of as plain_view}
use Rattle.vax_vector_memory.specs.Record.{view_of}
use Rattle.vax_vector_memory.proofs.Guarding.{cut_alike, stops_alike}
use Rattle.vax_space.specs.Reference.{violation}
use Rattle.vax_undo.specs.Trail.{noted, writing}
use Rattle.vax_vector_memory.specs.Record.{trail_of}
use Rattle.vax_undo.specs.Blocks.{low_bytes}
use Rattle.vax_vector_memory.proofs.Keeping.{made_so, stopped_so, since_more, write_leaves}
use Rattle.vax_vector_memory.proofs.recorder.RecorderPort.write.Goals as goal

pub returns-in-Ok-clause-since : goal.returns-in-Ok-clause-since
returns-in-Ok-clause-since c = λ start before.
    since_more c.args.self.now _ _ before c.keep_number.ensures.kept refl (λ all. all) tt
    (ap (λ (v : View). v.byte) c.keep_number.ensures.view ∙ write_leaves (plain_view c.args.self.now.memory) _ c.args.addr c.args.n c.args.value c.in-Ok.old _ _ c.in-Ok.ensures.answer c.in-Ok.ensures.stored)

pub returns-in-Err-write-clause-answer : goal.returns-in-Err-write-clause-answer
returns-in-Err-write-clause-answer c =
    c.in-Err-write.ensures.answer
    ∙ ap (λ s. loaded_by s (number (view_of c.args.self.now).byte c.args.addr c.args.n))
    (stops_alike c.args.self.now.pages.items (plain_view c.args.self.now.memory) c.args.self.now.rights c.args.addr c.args.n c.args.mode Write c.args.self.now.areas_are c.args.self.now.rights_are c.requires.of_mode c.in_default.ensures.answer)

pub returns-in-Err-write-clause-stored : goal.returns-in-Err-write-clause-stored
returns-in-Err-write-clause-stored c =
    cut_alike _ _ (plain_view c.args.self.now.memory) (with_number (plain_view c.args.self.now.memory) c.args.addr c.args.n c.args.value) (plain_view c.write.new.self) c.args.self.now.rights
    (stops_alike c.args.self.now.pages.items (plain_view c.args.self.now.memory) c.args.self.now.rights c.args.addr c.args.n c.args.mode Write c.args.self.now.areas_are c.args.self.now.rights_are c.requires.of_mode c.in_default.ensures.answer)
    c.in-Err-write.ensures.stored

pub returns-in-Ok-clause-trail : goal.returns-in-Ok-clause-trail
returns-in-Ok-clause-trail c =
    made_so (violation c.args.self.now.rights c.args.addr c.args.n c.args.mode Write) (violation c.args.self.now.memory.space c.args.addr c.args.n c.args.mode Write) (first_absent (plain_view c.args.self.now.memory).resident c.args.addr c.args.n)
    (number (view_of c.args.self.now).byte c.args.addr c.args.n) c.in-Ok.old (trail_of c.args.self.now) _ (noted (trail_of c.args.self.now) (writing c.args.addr (low_bytes c.args.n c.args.value)))
    c.in_default.ensures.answer c.in-Ok.ensures.answer c.keep_number.ensures.trail

pub returns-in-Err-write-clause-trail : goal.returns-in-Err-write-clause-trail
returns-in-Err-write-clause-trail c =
    stopped_so _ (number (view_of c.args.self.now).byte c.args.addr c.args.n) _ (trail_of c.args.self.now) (noted (trail_of c.args.self.now) (writing c.args.addr (low_bytes c.args.n c.args.value))) (returns-in-Err-write-clause-answer c)
