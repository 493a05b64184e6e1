use Rattle.std.proofs.Common.{◌≡◌, ◌+◌, ◌-◌, arith, refl}
use Rattle.vax_pager.proofs.Keeping.{code_number}
use Rattle.vax_pager.proofs.Moves.{held_room}
use Rattle.vax_pager.proofs.store.Store.code_in.Goals as goal

pub index-requires : goal.index-requires
index-requires c = omega (arith, held_room 0 c.args.self.now _ _ c.requires.sound c.requires.held, c.args.self.now.frames.ok.0)

pub returns : goal.returns
returns c =
    let count : (c.args.place + 8) - c.args.place ≡ 8 = omega arith in
    code_number c.args.self.now c.args.page c.args.place c.args.frame _ c.index.result.now _ c.requires.low c.requires.within c.requires.held c.index.ensures (rw count refl) c.number_of.ensures.value c.requires.sound
