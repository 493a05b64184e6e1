use Rattle.std.proofs.Common.{◌≡◌, ◌+◌, ◌-◌, ◌%◌, ℕ, length, arith, refl}
use Rattle.vax_pager.proofs.Moves.{held_room}
use Rattle.vax_pager.proofs.Writes.{held_filled, paging_put, sound_put}
use Rattle.vax_pager.proofs.store.Store.put_run.Goals as goal

pub index_mut-requires : goal.index_mut-requires
index_mut-requires c = omega (arith, held_room 0 c.args.self.now _ _ c.requires.sound c.requires.held, c.args.self.now.frames.ok.0)

pub returns : goal.returns
returns c =
    let k : ℕ = (c.args.addr % 512 + length c.args.from.now) - c.args.addr % 512 in
    let count : k ≡ length c.args.from.now = omega arith in
    record {
      sound = sound_put c.args.self.now c.args.addr c.args.frame k c.index_mut.result.now c.copy_from_slice.new.self c.args.from.now _ refl c.index_mut.ensures.value count c.copy_from_slice.ensures.after c.requires.held c.requires.one_page (λ j. omega (arith, c.type_inv.from j)) c.requires.sound;
      paging = paging_put c.args.self.now c.args.addr c.args.frame k c.index_mut.result.now c.copy_from_slice.new.self c.args.from.now _ refl c.index_mut.ensures.value count c.copy_from_slice.ensures.after c.requires.held c.requires.sound;
      held = held_filled c.args.self.now _;
    }
