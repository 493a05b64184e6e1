use Rattle.std.proofs.Common.{◌≡◌, ap, ◌∙◌, length}
use Rattle.vax_space.proofs.Tables.{written_back}
use Rattle.vax_table.proofs.Filled.{filled_more}
use Rattle.vax_table.proofs.memory.first_bytes.Goals as goal

pub loop-place-preserved : goal.loop-place-preserved
loop-place-preserved c =
    let same = ap length c.deref_mut.ensures.value in
    let size : length c.put_entry.new.bytes ≡ c.loop-place.bytes.len = c.put_entry.ensures.size ∙ c.deref_mut.ensures.len in
    rw (written_back _ _ _ size)
    (filled_more c.args.space.now _ _ _ _ c.loop-place.bytes.items _ (c.put_entry.ensures.size ∙ same) (rw c.deref_mut.ensures.value at c.put_entry.ensures.entries) c.first_entry.ensures c.loop-place.invariant)
