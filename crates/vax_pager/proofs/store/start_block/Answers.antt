use Rattle.std.proofs.Common.{refl}
use Rattle.std.proofs.lemmas.List.{take_rest}
use Rattle.vax_pager.proofs.Start.{start_bytes}
use Rattle.vax_pager.proofs.store.start_block.Goals as goal

pub returns : goal.returns
returns c = rw c.copy_from_slice.ensures.after (start_bytes c.args.area.now c.args.page _ _ _ _ _ c.as_slice-bytes.ensures refl c.min.ensures (take_rest c.as_slice-bytes.result.now c.min.result) c.min-count.ensures)
