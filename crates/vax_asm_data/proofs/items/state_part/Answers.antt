use Rattle.vax_asm_data.proofs.items.state_part.Goals as goal

pub state_item-requires : goal.state_item-requires
state_item-requires c = c.read_as-item.ensures.within c.args.site.line.now.value.items c.requires
