use Rattle.std.proofs.Common.{ap, arith, refl, subst, sym, ◌∙◌}
use Rattle.std.specs.List.{remove}
use Rattle.std.specs.VecDeque.{deque_capacity}
use Rattle.vax_outside.specs.Faults.{CountsFailure}
use Rattle.vax_machine.specs.Machine.{has_failed}
use Rattle.vax_jobs.specs.Pool.{pooling_of}
use Rattle.vax_jobs.specs.Pooling.{IsPooling}
use Rattle.vax_jobs.proofs.Searching.{here}
use Rattle.vax_jobs.proofs.Serving.{out_failed, out_keeps, out_sound, out_takes}
use Rattle.vax_jobs.proofs.pool.Pool.take_out.Goals as goal

pub returns-in-Evicted-clause-sound : goal.returns-in-Evicted-clause-sound
returns-in-Evicted-clause-sound g c =
    let pair = c.index-pair.result.now in
    let there = here c.args.self.now.residents.items c.args.place pair c.requires.there c.index-pair.ensures in
    let gone = c.remove_at.ensures.items ∙ ap (λ r. remove r.items c.args.place) c.apply_to.ensures.residents in
    record {
      sound = out_sound (pooling_of c.args.self.now) _ c.args.self.now.machines.items (g.F.PageFile.contents c.args.file.now) c.apply_to.new.self.machines.items (g.F.PageFile.contents c.apply_to.new.file) (record { before = refl; behind = refl; most = c.apply_to.ensures.most }) c.requires.sound.sound c.args.place pair there gone c.in-Evicted.ensures.applied;
      room = omega (arith, c.requires.sound.room, c.apply_to.ensures.most, c.remove_at.ensures.capacity, ap (λ r. deque_capacity r) c.apply_to.ensures.residents);
    }

pub returns-in-Evicted-clause-ok : goal.returns-in-Evicted-clause-ok
returns-in-Evicted-clause-ok g c =
    let pair = c.index-pair.result.now in
    let there = here c.args.self.now.residents.items c.args.place pair c.requires.there c.index-pair.ensures in
    let gone = c.remove_at.ensures.items ∙ ap (λ r. remove r.items c.args.place) c.apply_to.ensures.residents in
    out_takes (pooling_of c.args.self.now) _ c.args.self.now.machines.items (g.F.PageFile.contents c.args.file.now) c.apply_to.new.self.machines.items (g.F.PageFile.contents c.apply_to.new.file) (record { before = refl; behind = refl; most = c.apply_to.ensures.most }) c.requires.sound.sound c.args.place pair there gone c.in-Evicted.ensures.applied

pub returns-in-Evicted-clause-keeps : goal.returns-in-Evicted-clause-keeps
returns-in-Evicted-clause-keeps g c = out_keeps c.index-pair.result.now.job c.args.self.now.machines.items (g.F.PageFile.contents c.args.file.now) c.apply_to.new.self.machines.items (g.F.PageFile.contents c.apply_to.new.file) c.index-pair.result.now.page c.apply_to.result c.apply_to.ensures.applied

pub returns-in_default : goal.returns-in_default
returns-in_default g c =
    let pair = c.index-pair.result.now in
    let there = here c.args.self.now.residents.items c.args.place pair c.requires.there c.index-pair.ensures in
    let failed = out_failed (pooling_of c.args.self.now) (pooling_of c.apply_to.new.self) c.args.self.now.machines.items (g.F.PageFile.contents c.args.file.now) c.apply_to.new.self.machines.items (g.F.PageFile.contents c.apply_to.new.file) (record { before = refl; behind = refl; most = c.apply_to.ensures.most }) c.requires.sound.sound c.args.place pair c.apply_to.result there (ap (λ r. r.items) c.apply_to.ensures.residents) c.in_default.not-Evicted c.apply_to.ensures.applied in
    record {
      sound = record {
        sound = subst IsPooling (sym failed.1) c.requires.sound.sound;
        room = omega (arith, c.requires.sound.room, c.apply_to.ensures.most, ap (λ r. deque_capacity r) c.apply_to.ensures.residents);
      };
      ok = tt;
      err = failed.1;
      keeps = out_keeps pair.job c.args.self.now.machines.items (g.F.PageFile.contents c.args.file.now) c.apply_to.new.self.machines.items (g.F.PageFile.contents c.apply_to.new.file) pair.page c.apply_to.result c.apply_to.ensures.applied;
      counts = subst (λ a. CountsFailure (has_failed a) (g.F.PageFile.faults c.args.file.now) (g.F.PageFile.faults c.apply_to.new.file)) failed.0 c.apply_to.ensures.counts;
      since = λ start h. c.apply_to.ensures.since start h;
    }
