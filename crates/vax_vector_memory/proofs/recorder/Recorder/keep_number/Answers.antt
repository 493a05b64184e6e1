use Rattle.std.proofs.Common.{List, ℕ, ap, rules, subst, ◌∙◌}
use Rattle.vax_undo.specs.Trail.{noted}
use Rattle.vax_vector_memory.specs.Record.{Keeps, trail_of}
use Rattle.vax_vector_memory.proofs.Keeping.{put_size}
use Rattle.vax_vector_memory.proofs.recorder.Recorder.keep_number.Goals as goal

pub returns-clause-kept : goal.returns-clause-kept
returns-clause-kept c = λ all.
    subst (λ (bs : List ℕ). Keeps c.args.self.now c.keep.new.self c.args.access c.args.addr bs) (put_size c.args.n c.args.value _ _ c.put_number.ensures (search rules)) (c.keep.ensures.kept all)

pub returns-clause-trail : goal.returns-clause-trail
returns-clause-trail c =
    c.keep.ensures.trail
    ∙ ap (λ (bs : List ℕ). noted (trail_of c.args.self.now) (record { access = c.args.access; addr = c.args.addr; bytes = bs })) (put_size c.args.n c.args.value _ _ c.put_number.ensures (search rules))
