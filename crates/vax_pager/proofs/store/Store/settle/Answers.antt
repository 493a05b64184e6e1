use Rattle.vax_pager.proofs.Steps.{sound_settled, paging_settled}
use Rattle.vax_pager.proofs.store.Store.settle.Goals as goal

pub returns-clause-sound : goal.returns-clause-sound
returns-clause-sound c = sound_settled c.args.self.now c.requires.sound

pub returns-clause-paging : goal.returns-clause-paging
returns-clause-paging c = paging_settled c.args.self.now
