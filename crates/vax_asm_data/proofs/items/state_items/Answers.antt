use Rattle.vax_asm_data.proofs.Folding.{part_within}
use Rattle.vax_asm_statement.specs.Parts.{parts}
use Rattle.vax_asm_data.proofs.items.state_items.Goals as goal

pub state_part-requires : goal.state_part-requires
state_part-requires c =
    let line = c.args.site.line.now.value.items in
    part_within line (parts c.args.operands.now) c.deref-part-items.result.now c.loop-part.part-index _ c.loop-part-test.true c.loop-part.invariant.split (c.parts.ensures.within line c.requires.tokens)
