use Rattle.std.proofs.Common.{◌≡◌, ◌<◌, ◌+◌, ℕ, List, length, Option, ap, arith}
use Rattle.vax_asm_names.specs.Names.{Names}
use Rattle.vax_asm_names.specs.View.{names_of}
use Rattle.vax_asm_names.specs.declared.types.Local.{Local}
use Rattle.vax_asm_names.proofs.Changing.{label_put}
use Rattle.vax_asm_names.proofs.types.NameTable.put_local.Goals as goal

pub returns-in_ok-put-in-Some-clause-names : goal.returns-in_ok-put-in-Some-clause-names
returns-in_ok-put-in-Some-clause-names c =
    let t = c.args.self.now in
    let n : Names = names_of t in
    let is : t.content.block ≡ c.in-Some.further + 2 = omega (arith, c.in-Some.ensures.0, c.in-Some.ensures.1) in
    let within : c.in-Some.further < length t.content.further_blocks.items = omega (arith, is, t.in_block) in
    ap (λ (b : List (List ℕ → Option Local)). record n { blocks = b })
    (label_put t.content.masks t.content.first_block t.content.further_blocks.items t.content.block c.in-Some.further c.args.text.now c.args.local c.index_mut.result.now c.put-in-Some.new.map within is c.index_mut.ensures.value c.in_ok-put-in-Some.ensures.put)
