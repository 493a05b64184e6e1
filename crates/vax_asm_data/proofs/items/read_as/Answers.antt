use Rattle.vax_asm_data.proofs.items.read_as.Goals as goal

pub returns-else-once-clause-within : goal.returns-else-once-clause-within
returns-else-once-clause-within c = λ line all. rw c.read_item.ensures.item (c.read_item.ensures.within line all)
