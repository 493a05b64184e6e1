use Rattle.std.proofs.Common.{◌≡◌, ◌<◌, ◌+◌, length, ap, sym, ◌∙◌, arith}
use Rattle.vax_asm_names.specs.ByName.{by_name}
use Rattle.vax_asm_names.proofs.Changing.{block_seen}
use Rattle.vax_asm_names.proofs.types.NameTable.labels.Goals as goal

pub returns-in-Some : goal.returns-in-Some
returns-in-Some c =
    let t = c.args.self.now in
    let is : t.content.block ≡ c.in-Some.further + 2 = omega (arith, c.in-Some.ensures.0, c.in-Some.ensures.1) in
    let within : c.in-Some.further < length t.content.further_blocks.items = omega (arith, is, t.in_block) in
    ap by_name c.index.ensures
    ∙ sym (block_seen t.content.masks t.content.first_block t.content.further_blocks.items t.content.block c.in-Some.further c.index.result.now within is)
