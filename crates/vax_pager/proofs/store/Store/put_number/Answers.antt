use Rattle.std.proofs.Common.{◌≡◌, ◌+◌, ◌-◌, ◌%◌, ℕ, length, arith, refl, sym, ap, ◌∙◌}
use Rattle.vax_undo.specs.Blocks.{low_bytes}
use Rattle.vax_undo.proofs.Numbers.{low-length}
use Rattle.vax_undo.proofs.PlainMemory.{part_length}
use Rattle.vax_undo.proofs.Ranges.{low_small}
use Rattle.vax_pager.proofs.Moves.{held_room}
use Rattle.vax_pager.proofs.Writes.{frame_length, held_filled, paging_put, sound_put}
use Rattle.vax_pager.proofs.store.Store.put_number.Goals as goal

pub index_mut-requires : goal.index_mut-requires
index_mut-requires c = omega (arith, held_room 0 c.args.self.now _ _ c.requires.sound c.requires.held, c.args.self.now.frames.ok.0)

pub returns : goal.returns
returns c =
    let k : ℕ = (c.args.addr % 512 + c.args.n) - c.args.addr % 512 in
    let even : k ≡ c.args.n = omega arith in
    let size : length (low_bytes c.args.n c.args.value) ≡ c.args.n = low-length c.args.n c.args.value in
    let count : k ≡ length (low_bytes c.args.n c.args.value) = even ∙ sym size in
    let whole : length c.index_mut.result.now ≡ 512 = frame_length c.args.self.now c.args.addr c.args.frame _ c.index_mut.ensures.value c.requires.held c.requires.sound in
    let put = c.put_number.ensures ∙ ap (λ (j : ℕ). low_bytes j c.args.value) (part_length (c.args.addr % 512) k c.args.n c.index_mut.result.now c.index_mut.result.now even refl (omega (arith, whole, c.requires.one_page))) in
    record {
      sound = sound_put c.args.self.now c.args.addr c.args.frame k c.index_mut.result.now c.put_number.new.bytes (low_bytes c.args.n c.args.value) _ refl c.index_mut.ensures.value count put c.requires.held (omega (arith, size, c.requires.one_page)) (low_small c.args.n c.args.value) c.requires.sound;
      paging = paging_put c.args.self.now c.args.addr c.args.frame k c.index_mut.result.now c.put_number.new.bytes (low_bytes c.args.n c.args.value) _ refl c.index_mut.ensures.value count put c.requires.held c.requires.sound;
      held = held_filled c.args.self.now _;
    }
