use Rattle.std.proofs.Common.{◌≡◌, ◌+◌, ◌-◌, ◌%◌, arith}
use Rattle.vax_pager.proofs.Views.{part_of}
use Rattle.vax_pager.proofs.Moves.{held_room}
use Rattle.vax_pager.proofs.store.Store.part.Goals as goal

pub index-requires : goal.index-requires
index-requires c = omega (arith, held_room 0 c.args.self.now _ _ c.requires.sound c.requires.held, c.args.self.now.frames.ok.0)

pub returns : goal.returns
returns c =
    let count : (c.args.addr % 512 + c.args.len) - c.args.addr % 512 ≡ c.args.len = omega arith in
    rw count (part_of c.args.self.now c.args.addr c.args.len c.args.frame _ c.ranges.addr.fits c.requires.one_page c.requires.held c.index.ensures c.requires.sound)
