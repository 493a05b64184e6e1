use Rattle.std.proofs.Common.{◌∙◌, sym, ap}
use Rattle.std.specs.List.{slice_get}
use Rattle.vax_outside.proofs.BlockLaws.{get-numbered, item_at}
use Rattle.vax_outside.proofs.mem_pages.MemPages.block.Goals as goal

pub returns : goal.returns
returns c =
    item_at c.deref.result.now c.args.n c.get.result c.get.ensures.lookup
    ∙ ap (λ blocks. slice_get blocks c.args.n) c.deref.ensures.value
    ∙ sym (get-numbered c.args.self.now.blocks.items c.args.n)
