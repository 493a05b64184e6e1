use Rattle.std.proofs.Common.{refl, ap, ◌∙◌}
use Rattle.vax_space.specs.declared.Access.TheVariants.{Read}
use Rattle.vax_flat.specs.Memory.{number}
use Rattle.vax_flat.specs.Port.{View, first_absent, loaded_by}
use Rattle.vax_undo.specs.Plain.{view_of as plain_view}
use Rattle.vax_vector_memory.specs.Record.{view_of}
use Rattle.vax_vector_memory.proofs.Guarding.{stops_alike}
use Rattle.vax_space.specs.Reference.{violation}
use Rattle.vax_undo.specs.Trail.{noted, reading}
use Rattle.vax_vector_memory.specs.Record.{trail_of}
use Rattle.vax_vector_memory.proofs.Keeping.{made_so, read_is, stopped_so, read_gives, since_more}
use Rattle.vax_vector_memory.proofs.recorder.RecorderPort.read.Goals as goal

pub returns-in-Ok-clause-since : goal.returns-in-Ok-clause-since
returns-in-Ok-clause-since c = λ start before.
    since_more c.args.self.now _ _ before c.keep_number.ensures.kept refl (λ all. all)
    (read_gives (view_of c.args.self.now).byte c.args.addr c.args.n c.in-Ok.value _ c.in-Ok.ensures.bytes c.in-Ok.ensures.answer)
    (ap (λ (v : View). v.byte) c.keep_number.ensures.view ∙ ap (λ (v : View). v.byte) c.in-Ok.ensures.same)

pub returns-in-Err-read-clause-answer : goal.returns-in-Err-read-clause-answer
returns-in-Err-read-clause-answer c =
    c.in-Err-read.ensures.answer
    ∙ ap (λ s. loaded_by s (number (view_of c.args.self.now).byte c.args.addr c.args.n))
    (stops_alike c.args.self.now.pages.items (plain_view c.args.self.now.memory) c.args.self.now.rights c.args.addr c.args.n c.args.mode Read c.args.self.now.areas_are c.args.self.now.rights_are c.requires.of_mode c.in_default.ensures.answer)

pub returns-in-Ok-clause-trail : goal.returns-in-Ok-clause-trail
returns-in-Ok-clause-trail c =
    let f = (view_of c.args.self.now).byte in
    made_so (violation c.args.self.now.rights c.args.addr c.args.n c.args.mode Read) (violation c.args.self.now.memory.space c.args.addr c.args.n c.args.mode Read) (first_absent (plain_view c.args.self.now.memory).resident c.args.addr c.args.n)
    (number f c.args.addr c.args.n) c.in-Ok.value (trail_of c.args.self.now) _ (noted (trail_of c.args.self.now) (reading (view_of c.args.self.now) c.args.addr c.args.n))
    c.in_default.ensures.answer c.in-Ok.ensures.answer
    (c.keep_number.ensures.trail ∙ ap (λ bs. noted (trail_of c.args.self.now) (record { access = Read; addr = c.args.addr; bytes = bs })) (read_is f c.args.addr c.args.n c.in-Ok.value _ c.in-Ok.ensures.bytes c.in-Ok.ensures.answer))

pub returns-in-Err-read-clause-trail : goal.returns-in-Err-read-clause-trail
returns-in-Err-read-clause-trail c =
    stopped_so _ (number (view_of c.args.self.now).byte c.args.addr c.args.n) _ (trail_of c.args.self.now) (noted (trail_of c.args.self.now) (reading (view_of c.args.self.now) c.args.addr c.args.n)) (returns-in-Err-read-clause-answer c)
