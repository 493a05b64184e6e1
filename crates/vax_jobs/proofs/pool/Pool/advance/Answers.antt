use Rattle.std.proofs.Common.{arith, length, refl}
use Rattle.std.proofs.lemmas.Option.{slice_get_read}
use Rattle.vax_jobs.proofs.Advancing.{machine_left, pool_behind}
use Rattle.vax_jobs.specs.Pool.{pooling_of}
use Rattle.vax_jobs.proofs.pool.Pool.advance.Goals as goal

pub returns-clause-advanced : goal.returns-clause-advanced
returns-clause-advanced c =
    let machines = c.args.self.now.machines.items in
    let there = slice_get_read machines (length machines) c.args.job c.index_mut-machine.result.now refl c.requires.there c.index_mut-machine.ensures.value in
    let left = machine_left c.args.steps (pooling_of c.args.self.now) machines c.args.job c.index_mut-machine.result.now refl there c.requires.going in
    let few = c.advance.ensures.few in
    let room = c.fewer-room.ensures.second in
    let first = c.fewer.ensures.first in
    let second = c.fewer.ensures.second in
    let steps = c.steps.ensures in
    let turns = c.turns.ensures in
    let low = left.few in
    record {
      was = c.index_mut-machine.result.now;
      is = c.advance.new.self;
      there = there;
      changed = refl;
      within = omega (arith, few, room, first, steps, low);
      counted = omega (arith, few, second, turns);
      advanced = c.advance.ensures.advanced;
    }

pub returns-clause-sound : goal.returns-clause-sound
returns-clause-sound c = record {
  sound = pool_behind c.args.job c.advance.result c.args.steps c.args.self.now.machines.items _ (returns-clause-advanced c) (pooling_of c.args.self.now) _ refl refl refl refl c.requires.sound.sound;
  room = c.requires.sound.room;
}
