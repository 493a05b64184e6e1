use Rattle.std.proofs.Common.{ap, arith, inl, inr, length, refl, subst, sym, ◌∙◌}
use Rattle.std.proofs.lemmas.Option.{slice_get_read}
use Rattle.std.specs.VecDeque.{deque_capacity}
use Rattle.vax_outside.specs.Faults.{CountsFailure}
use Rattle.vax_machine.specs.Machine.{has_failed}
use Rattle.vax_jobs.specs.Pool.{pooling_of}
use Rattle.vax_jobs.specs.Pooling.{IsPooling}
use Rattle.vax_jobs.specs.declared.turn.Turned.TheVariants.{Moved, Failed}
use Rattle.vax_jobs.proofs.Moving.{clean_failed, clean_turned}
use Rattle.vax_jobs.proofs.Serving.{clean_kept, same_pooling}
use Rattle.vax_jobs.proofs.pool.Pool.clean.Goals as goal

pub returns-in-Flushed-clause-turned : goal.returns-in-Flushed-clause-turned
returns-in-Flushed-clause-turned g c =
    same_pooling (pooling_of c.args.self.now) (pooling_of c.apply_to.new.self) c.args.self.now.machines.items c.apply_to.new.self.machines.items (record { before = refl; behind = refl; most = c.apply_to.ensures.most }) (ap (λ r. r.items) c.apply_to.ensures.residents)
    (clean_kept c.args.job c.args.self.now.machines.items (g.F.PageFile.contents c.args.file.now) c.apply_to.new.self.machines.items (g.F.PageFile.contents c.apply_to.new.file) c.in-Some.page c.apply_to.result c.apply_to.ensures.applied)

pub returns-in-Flushed-clause-sound : goal.returns-in-Flushed-clause-sound
returns-in-Flushed-clause-sound g c = record {
  sound = subst IsPooling (sym (returns-in-Flushed-clause-turned g c)) c.requires.sound.sound;
  room = omega (arith, c.requires.sound.room, c.apply_to.ensures.most, ap (λ r. deque_capacity r) c.apply_to.ensures.residents);
}

pub returns-in-Flushed-clause-goes : goal.returns-in-Flushed-clause-goes
returns-in-Flushed-clause-goes g c =
    let there = slice_get_read c.args.self.now.machines.items (length c.args.self.now.machines.items) c.args.job c.index.result.now refl c.requires.there c.index.ensures in
    clean_turned c.args.job c.in-Some.page c.apply_to.result Moved (pooling_of c.args.self.now) c.args.self.now.machines.items (g.F.PageFile.contents c.args.file.now) c.apply_to.new.self.machines.items (g.F.PageFile.contents c.apply_to.new.file) c.index.result.now c.apply_to.ensures.applied there (sym c.next_flush.ensures ∙ c.in-Some.is) (inl refl)

pub returns-in_default-apply_to : goal.returns-in_default-apply_to
returns-in_default-apply_to g c =
    let there = slice_get_read c.args.self.now.machines.items (length c.args.self.now.machines.items) c.args.job c.index.result.now refl c.requires.there c.index.ensures in
    let found = sym c.next_flush.ensures ∙ c.in-Some.is in
    let same = same_pooling (pooling_of c.args.self.now) (pooling_of c.apply_to.new.self) c.args.self.now.machines.items c.apply_to.new.self.machines.items (record { before = refl; behind = refl; most = c.apply_to.ensures.most }) (ap (λ r. r.items) c.apply_to.ensures.residents)
    (clean_kept c.args.job c.args.self.now.machines.items (g.F.PageFile.contents c.args.file.now) c.apply_to.new.self.machines.items (g.F.PageFile.contents c.apply_to.new.file) c.in-Some.page c.apply_to.result c.apply_to.ensures.applied) in
    let failed = clean_failed c.args.job c.in-Some.page c.apply_to.result c.args.self.now.machines.items (g.F.PageFile.contents c.args.file.now) c.apply_to.new.self.machines.items (g.F.PageFile.contents c.apply_to.new.file) c.index.result.now c.apply_to.ensures.applied there found c.in_default-apply_to.not-Flushed in
    record {
      sound = record {
        sound = subst IsPooling (sym same) c.requires.sound.sound;
        room = omega (arith, c.requires.sound.room, c.apply_to.ensures.most, ap (λ r. deque_capacity r) c.apply_to.ensures.residents);
      };
      turned = same;
      goes = clean_turned c.args.job c.in-Some.page c.apply_to.result Failed (pooling_of c.args.self.now) c.args.self.now.machines.items (g.F.PageFile.contents c.args.file.now) c.apply_to.new.self.machines.items (g.F.PageFile.contents c.apply_to.new.file) c.index.result.now c.apply_to.ensures.applied there found (inr refl);
      counts = subst (λ a. CountsFailure (has_failed a) (g.F.PageFile.faults c.args.file.now) (g.F.PageFile.faults c.apply_to.new.file)) failed c.apply_to.ensures.counts;
      since = λ start h. c.apply_to.ensures.since start h;
    }
