use Rattle.vax_space.proofs.Extents.{has_first}
use Rattle.vax_pager.proofs.store.Store.start_of.Goals as goal

pub start_block-requires : goal.start_block-requires
start_block-requires c = record { has = has_first _ _ c.in-Some.ensures.has }
