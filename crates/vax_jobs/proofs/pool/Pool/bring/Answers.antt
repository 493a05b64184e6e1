use Rattle.std.proofs.Common.{ap, arith, inl, inr, refl, subst, sym, ◌∙◌, ◌++◌, ◌∷◌, [], length}
use Rattle.std.proofs.lemmas.List.{length-map}
use Rattle.std.specs.VecDeque.{deque_capacity}
use Rattle.vax_outside.specs.Faults.{CountsFailure}
use Rattle.vax_outside.proofs.Counting.{counts_then}
use Rattle.vax_machine.specs.Machine.{has_failed}
use Rattle.vax_jobs.specs.Pool.{keeps_of, pooling_of}
use Rattle.vax_jobs.specs.Pooling.{IsPooling, came}
use Rattle.vax_jobs.proofs.Serving.{in_done, in_failed, in_keeps, in_sound, on_err, wants_room, wants_within}
use Rattle.vax_jobs.proofs.Turns.{keep_then}
use Rattle.vax_jobs.proofs.pool.Pool.bring.Goals as goal

pub apply_to-requires-clause-there : goal.apply_to-requires-clause-there
apply_to-requires-clause-there g c = wants_within c.make_room.new.self.machines.items c.args.job c.args.page (wants_room (pooling_of c.args.self.now) (pooling_of c.make_room.new.self) c.args.job c.args.page c.in_ok-make_room.ensures.ok c.requires.there)

pub apply_to-requires-clause-few : goal.apply_to-requires-clause-few
apply_to-requires-clause-few g c = omega (arith, length-map c.make_room.new.self.machines.items keeps_of, c.make_room.ensures.sound.sound.few)

pub add-requires : goal.add-requires
add-requires g c = omega (arith, c.make_room.ensures.sound.room, c.in_ok-make_room.ensures.room, c.apply_to.ensures.most, ap (λ r. deque_capacity r) c.apply_to.ensures.residents, ap (λ r. length r.items) c.apply_to.ensures.residents)

pub returns-in-Served-clause-sound : goal.returns-in-Served-clause-sound
returns-in-Served-clause-sound g c =
    let wants = wants_room (pooling_of c.args.self.now) (pooling_of c.make_room.new.self) c.args.job c.args.page c.in_ok-make_room.ensures.ok c.requires.there in
    let more = c.add.ensures.items ∙ ap (λ r. r.items ++ record { job = c.args.job; page = c.args.page } ∷ []) c.apply_to.ensures.residents in
    record {
      sound = in_sound (pooling_of c.make_room.new.self) _ c.make_room.new.self.machines.items (g.F.PageFile.contents c.make_room.new.file) c.apply_to.new.self.machines.items (g.F.PageFile.contents c.apply_to.new.file) (record { before = refl; behind = refl; most = c.apply_to.ensures.most }) c.make_room.ensures.sound.sound c.args.job c.args.page c.in-Served.field-0 wants c.in_ok-make_room.ensures.room more c.in-Served.ensures.applied;
      room = omega (arith, c.make_room.ensures.sound.room, c.apply_to.ensures.most, c.add.ensures.capacity, ap (λ r. deque_capacity r) c.apply_to.ensures.residents);
    }

pub returns-in-Served-clause-ok : goal.returns-in-Served-clause-ok
returns-in-Served-clause-ok g c =
    let wants = wants_room (pooling_of c.args.self.now) (pooling_of c.make_room.new.self) c.args.job c.args.page c.in_ok-make_room.ensures.ok c.requires.there in
    let more = c.add.ensures.items ∙ ap (λ r. r.items ++ record { job = c.args.job; page = c.args.page } ∷ []) c.apply_to.ensures.residents in
    in_done (pooling_of c.make_room.new.self) _ c.make_room.new.self.machines.items (g.F.PageFile.contents c.make_room.new.file) c.apply_to.new.self.machines.items (g.F.PageFile.contents c.apply_to.new.file) (record { before = refl; behind = refl; most = c.apply_to.ensures.most }) c.make_room.ensures.sound.sound c.args.job c.args.page c.in-Served.field-0 wants more c.in-Served.ensures.applied
    ∙ ap (came c.args.job c.args.page) c.in_ok-make_room.ensures.ok

pub returns-in-Served-clause-keeps : goal.returns-in-Served-clause-keeps
returns-in-Served-clause-keeps g c =
    keep_then c.args.self.now.machines.items c.make_room.new.self.machines.items c.apply_to.new.self.machines.items (g.F.PageFile.contents c.args.file.now) (g.F.PageFile.contents c.make_room.new.file) (g.F.PageFile.contents c.apply_to.new.file) c.make_room.ensures.keeps
    (in_keeps c.args.job c.make_room.new.self.machines.items (g.F.PageFile.contents c.make_room.new.file) c.apply_to.new.self.machines.items (g.F.PageFile.contents c.apply_to.new.file) c.apply_to.result c.apply_to.ensures.applied)

pub returns-in_default : goal.returns-in_default
returns-in_default g c =
    let wants = wants_room (pooling_of c.args.self.now) (pooling_of c.make_room.new.self) c.args.job c.args.page c.in_ok-make_room.ensures.ok c.requires.there in
    let failed = in_failed (pooling_of c.make_room.new.self) (pooling_of c.apply_to.new.self) c.make_room.new.self.machines.items (g.F.PageFile.contents c.make_room.new.file) c.apply_to.new.self.machines.items (g.F.PageFile.contents c.apply_to.new.file) (record { before = refl; behind = refl; most = c.apply_to.ensures.most }) c.make_room.ensures.sound.sound c.args.job c.args.page c.apply_to.result wants (ap (λ r. r.items) c.apply_to.ensures.residents) c.in_default.not-Served c.apply_to.ensures.applied in
    let counts = subst (λ a. CountsFailure (has_failed a) (g.F.PageFile.faults c.make_room.new.file) (g.F.PageFile.faults c.apply_to.new.file)) failed.0 c.apply_to.ensures.counts in
    record {
      sound = record {
        sound = subst IsPooling (sym failed.1) c.make_room.ensures.sound.sound;
        room = omega (arith, c.make_room.ensures.sound.room, c.apply_to.ensures.most, ap (λ r. deque_capacity r) c.apply_to.ensures.residents);
      };
      ok = tt;
      err = inr (failed.1 ∙ c.in_ok-make_room.ensures.ok);
      keeps = keep_then c.args.self.now.machines.items c.make_room.new.self.machines.items c.apply_to.new.self.machines.items (g.F.PageFile.contents c.args.file.now) (g.F.PageFile.contents c.make_room.new.file) (g.F.PageFile.contents c.apply_to.new.file) c.make_room.ensures.keeps
          (in_keeps c.args.job c.make_room.new.self.machines.items (g.F.PageFile.contents c.make_room.new.file) c.apply_to.new.self.machines.items (g.F.PageFile.contents c.apply_to.new.file) c.apply_to.result c.apply_to.ensures.applied);
      counts = counts_then refl c.in_ok-make_room.ensures.counts.quiet counts;
      since = λ start h. c.apply_to.ensures.since start (c.make_room.ensures.since start h);
    }

pub returns-in_err-make_room-clause-err : goal.returns-in_err-make_room-clause-err
returns-in_err-make_room-clause-err g c = on_err c.from_residual.result (inl c.in_err-make_room.ensures.err)

pub returns-in-Served-clause-counts : goal.returns-in-Served-clause-counts
returns-in-Served-clause-counts g c = counts_then refl c.in_ok-make_room.ensures.counts.quiet c.in-Served.ensures.counts
