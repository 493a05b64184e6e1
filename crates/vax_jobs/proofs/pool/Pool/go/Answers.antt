use Rattle.std.proofs.Common.{ap, arith, refl}
use Rattle.std.proofs.lemmas.List.{length-map}
use Rattle.std.specs.VecDeque.{deque_capacity}
use Rattle.vax_machine.specs.declared.event.Applied.TheVariants as applied
use Rattle.vax_jobs.specs.Pool.{keeps_of, pooling_of}
use Rattle.vax_jobs.specs.declared.turn.Turned.TheVariants.{Stepped, Parted, Absent, Ended, Failed}
use Rattle.vax_jobs.proofs.Going.{absent_as, as_ended, as_parted, as_stepped, attempt_pool, failed_as, gone_with, gone_without, missed_pins, misses, turned_alone, turned_ended, turned_missed, turned_parted, turned_stepped}
use Rattle.vax_jobs.proofs.pool.Pool.go.Goals as goal

pub apply_to-requires-clause-few : goal.apply_to-requires-clause-few
apply_to-requires-clause-few g c = omega (arith, length-map c.args.self.now.machines.items keeps_of, c.requires.sound.sound.few)

pub returns-in-Stepped-clause-sound : goal.returns-in-Stepped-clause-sound
returns-in-Stepped-clause-sound g c = record {
  sound = attempt_pool c.args.job (applied.Stepped c.in-Stepped.sent) c.args.self.now.machines.items c.apply_to.new.self.machines.items (g.F.PageFile.contents c.args.file.now) (g.F.PageFile.contents c.apply_to.new.file) (pooling_of c.args.self.now) (pooling_of c.apply_to.new.self) refl refl c.apply_to.ensures.most (ap (λ r. r.items) c.apply_to.ensures.residents) c.requires.sound.sound c.in-Stepped.ensures.applied;
  room = omega (arith, c.requires.sound.room, c.apply_to.ensures.most, ap (λ r. deque_capacity r) c.apply_to.ensures.residents);
}

pub returns-in-Stepped-clause-turned : goal.returns-in-Stepped-clause-turned
returns-in-Stepped-clause-turned g c = turned_stepped c.args.job c.in-Stepped.sent c.args.self.now.machines.items c.apply_to.new.self.machines.items (g.F.PageFile.contents c.args.file.now) (g.F.PageFile.contents c.apply_to.new.file) (pooling_of c.args.self.now) (pooling_of c.apply_to.new.self) refl refl c.apply_to.ensures.most (ap (λ r. r.items) c.apply_to.ensures.residents) c.in-Stepped.ensures.applied

pub returns-in-Stepped-clause-goes : goal.returns-in-Stepped-clause-goes
returns-in-Stepped-clause-goes g c = turned_alone c.args.job (applied.Stepped c.in-Stepped.sent) (Stepped c.in-Stepped.sent) c.args.self.now.machines.items c.apply_to.new.self.machines.items (g.F.PageFile.contents c.args.file.now) (g.F.PageFile.contents c.apply_to.new.file) (pooling_of c.args.self.now) refl c.requires.sound.sound c.in-Stepped.ensures.applied (λ o is place h. as_stepped o c.in-Stepped.sent _ is _ place h)

pub returns-in-Parted-clause-sound : goal.returns-in-Parted-clause-sound
returns-in-Parted-clause-sound g c = record {
  sound = attempt_pool c.args.job applied.Parted c.args.self.now.machines.items c.apply_to.new.self.machines.items (g.F.PageFile.contents c.args.file.now) (g.F.PageFile.contents c.apply_to.new.file) (pooling_of c.args.self.now) (pooling_of c.apply_to.new.self) refl refl c.apply_to.ensures.most (ap (λ r. r.items) c.apply_to.ensures.residents) c.requires.sound.sound c.in-Parted.ensures.applied;
  room = omega (arith, c.requires.sound.room, c.apply_to.ensures.most, ap (λ r. deque_capacity r) c.apply_to.ensures.residents);
}

pub returns-in-Parted-clause-turned : goal.returns-in-Parted-clause-turned
returns-in-Parted-clause-turned g c = turned_parted c.args.job c.args.self.now.machines.items c.apply_to.new.self.machines.items (g.F.PageFile.contents c.args.file.now) (g.F.PageFile.contents c.apply_to.new.file) (pooling_of c.args.self.now) (pooling_of c.apply_to.new.self) refl refl c.apply_to.ensures.most (ap (λ r. r.items) c.apply_to.ensures.residents) c.in-Parted.ensures.applied

pub returns-in-Parted-clause-goes : goal.returns-in-Parted-clause-goes
returns-in-Parted-clause-goes g c = turned_alone c.args.job applied.Parted Parted c.args.self.now.machines.items c.apply_to.new.self.machines.items (g.F.PageFile.contents c.args.file.now) (g.F.PageFile.contents c.apply_to.new.file) (pooling_of c.args.self.now) refl c.requires.sound.sound c.in-Parted.ensures.applied (λ o is place h. as_parted o _ is _ place h)

pub returns-in-Ended-clause-sound : goal.returns-in-Ended-clause-sound
returns-in-Ended-clause-sound g c = record {
  sound = attempt_pool c.args.job (applied.Ended c.in-Ended.ending) c.args.self.now.machines.items c.apply_to.new.self.machines.items (g.F.PageFile.contents c.args.file.now) (g.F.PageFile.contents c.apply_to.new.file) (pooling_of c.args.self.now) (pooling_of c.apply_to.new.self) refl refl c.apply_to.ensures.most (ap (λ r. r.items) c.apply_to.ensures.residents) c.requires.sound.sound c.in-Ended.ensures.applied;
  room = omega (arith, c.requires.sound.room, c.apply_to.ensures.most, ap (λ r. deque_capacity r) c.apply_to.ensures.residents);
}

pub returns-in-Ended-clause-turned : goal.returns-in-Ended-clause-turned
returns-in-Ended-clause-turned g c = turned_ended c.args.job c.in-Ended.ending c.args.self.now.machines.items c.apply_to.new.self.machines.items (g.F.PageFile.contents c.args.file.now) (g.F.PageFile.contents c.apply_to.new.file) (pooling_of c.args.self.now) (pooling_of c.apply_to.new.self) refl refl c.apply_to.ensures.most (ap (λ r. r.items) c.apply_to.ensures.residents) c.in-Ended.ensures.applied

pub returns-in-Ended-clause-goes : goal.returns-in-Ended-clause-goes
returns-in-Ended-clause-goes g c = turned_alone c.args.job (applied.Ended c.in-Ended.ending) (Ended c.in-Ended.ending) c.args.self.now.machines.items c.apply_to.new.self.machines.items (g.F.PageFile.contents c.args.file.now) (g.F.PageFile.contents c.apply_to.new.file) (pooling_of c.args.self.now) refl c.requires.sound.sound c.in-Ended.ensures.applied (λ o is place h. as_ended o c.in-Ended.ending _ is _ place h)

pub bring-requires-clause-sound : goal.bring-requires-clause-sound
bring-requires-clause-sound g c = record {
  sound = attempt_pool c.args.job (applied.Absent c.in-Absent.page) c.args.self.now.machines.items c.apply_to.new.self.machines.items (g.F.PageFile.contents c.args.file.now) (g.F.PageFile.contents c.apply_to.new.file) (pooling_of c.args.self.now) (pooling_of c.apply_to.new.self) refl refl c.apply_to.ensures.most (ap (λ r. r.items) c.apply_to.ensures.residents) c.requires.sound.sound c.in-Absent.ensures.applied;
  room = omega (arith, c.requires.sound.room, c.apply_to.ensures.most, ap (λ r. deque_capacity r) c.apply_to.ensures.residents);
}

pub bring-requires-clause-there : goal.bring-requires-clause-there
bring-requires-clause-there g c =
    (misses c.args.job c.in-Absent.page c.args.self.now.machines.items c.apply_to.new.self.machines.items (g.F.PageFile.contents c.args.file.now) (g.F.PageFile.contents c.apply_to.new.file) (pooling_of c.args.self.now) (pooling_of c.apply_to.new.self) refl refl c.apply_to.ensures.most (ap (λ r. r.items) c.apply_to.ensures.residents) c.in-Absent.ensures.applied).wanted

pub returns-in-Ok-clause-turned : goal.returns-in-Ok-clause-turned
returns-in-Ok-clause-turned g c =
    let missed = misses c.args.job c.in-Absent.page c.args.self.now.machines.items c.apply_to.new.self.machines.items (g.F.PageFile.contents c.args.file.now) (g.F.PageFile.contents c.apply_to.new.file) (pooling_of c.args.self.now) (pooling_of c.apply_to.new.self) refl refl c.apply_to.ensures.most (ap (λ r. r.items) c.apply_to.ensures.residents) c.in-Absent.ensures.applied in
    gone_with c.args.job c.in-Absent.page (pooling_of c.args.self.now) (pooling_of c.apply_to.new.self) (pooling_of c.bring.new.self) missed c.in-Ok.ensures.ok

pub returns-in-Ok-clause-goes : goal.returns-in-Ok-clause-goes
returns-in-Ok-clause-goes g c =
    turned_missed c.args.job c.in-Absent.page (Absent c.in-Absent.page) c.args.self.now.machines.items c.apply_to.new.self.machines.items c.bring.new.self.machines.items (g.F.PageFile.contents c.args.file.now) (g.F.PageFile.contents c.apply_to.new.file) (g.F.PageFile.contents c.bring.new.file) (pooling_of c.args.self.now) refl c.requires.sound.sound c.in-Absent.ensures.applied c.bring.ensures.keeps
    (λ o is n place k h. absent_as c.args.job c.in-Absent.page _ _ _ o is n place k h)

pub returns-in-Err-clause-turned : goal.returns-in-Err-clause-turned
returns-in-Err-clause-turned g c =
    let missed = misses c.args.job c.in-Absent.page c.args.self.now.machines.items c.apply_to.new.self.machines.items (g.F.PageFile.contents c.args.file.now) (g.F.PageFile.contents c.apply_to.new.file) (pooling_of c.args.self.now) (pooling_of c.apply_to.new.self) refl refl c.apply_to.ensures.most (ap (λ r. r.items) c.apply_to.ensures.residents) c.in-Absent.ensures.applied in
    gone_without c.args.job c.in-Absent.page (pooling_of c.args.self.now) (pooling_of c.apply_to.new.self) (pooling_of c.bring.new.self) missed c.in-Err.ensures.err

pub returns-in-Err-clause-goes : goal.returns-in-Err-clause-goes
returns-in-Err-clause-goes g c =
    turned_missed c.args.job c.in-Absent.page Failed c.args.self.now.machines.items c.apply_to.new.self.machines.items c.bring.new.self.machines.items (g.F.PageFile.contents c.args.file.now) (g.F.PageFile.contents c.apply_to.new.file) (g.F.PageFile.contents c.bring.new.file) (pooling_of c.args.self.now) refl c.requires.sound.sound c.in-Absent.ensures.applied c.bring.ensures.keeps
    (λ o is n place k h. failed_as c.args.job c.in-Absent.page _ _ _ o is n place k h)

pub returns-in-Ok-clause-unsettled : goal.returns-in-Ok-clause-unsettled
returns-in-Ok-clause-unsettled g c = λ m place there means pins missed.
    missed_pins c.args.job c.in-Absent.page c.args.self.now.machines.items c.apply_to.new.self.machines.items (g.F.PageFile.contents c.args.file.now) (g.F.PageFile.contents c.apply_to.new.file) c.in-Absent.ensures.applied m place there means pins

pub returns-in-Err-clause-unsettled : goal.returns-in-Err-clause-unsettled
returns-in-Err-clause-unsettled g c = λ m place there means pins missed.
    missed_pins c.args.job c.in-Absent.page c.args.self.now.machines.items c.apply_to.new.self.machines.items (g.F.PageFile.contents c.args.file.now) (g.F.PageFile.contents c.apply_to.new.file) c.in-Absent.ensures.applied m place there means pins
