use Rattle.std.proofs.Common.{◌-◌, ap, ℕ, take, ◌∙◌}
use Rattle.vax_asm_names.specs.ByName.{by_name}
use Rattle.vax_asm_names.specs.Content.{names_in}
use Rattle.vax_asm_names.proofs.Undoing.{block_taken}
use Rattle.vax_asm_names.proofs.types.Content.take_block.Goals as goal

pub returns : goal.returns
returns c =
    let old = c.args.self.now in
    block_taken (names_in old) (by_name old.masks) (by_name old.first_block) old.further_blocks.items c.pop.new.self.items c.args.block
    (c.pop.ensures.rest ∙ ap (λ (n : ℕ). take (n - 1) old.further_blocks.items) old.further_blocks.ok.0)
