use Rattle.std.proofs.Common.{arith}
use Rattle.vax_pager.proofs.Steps.{sound_grown, free_grown, paging_grown}
use Rattle.vax_pager.proofs.Told.{room_is}
use Rattle.vax_pager.proofs.store.Store.grow.Goals as goal

pub overflow_add-self : goal.overflow_add-self
overflow_add-self c = omega (arith, room_is c.args.self.now c.requires.sound c.requires.room, c.requires.sound.few)

pub returns-clause-sound : goal.returns-clause-sound
returns-clause-sound c = sound_grown c.args.self.now c.requires.sound (room_is c.args.self.now c.requires.sound c.requires.room)

pub returns-clause-paging : goal.returns-clause-paging
returns-clause-paging c = paging_grown c.args.self.now _

pub returns-clause-free : goal.returns-clause-free
returns-clause-free c = free_grown c.args.self.now c.requires.sound
