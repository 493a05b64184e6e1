use Rattle.std.proofs.Common.{List, map, ap, ◌∙◌}
use Rattle.std.specs.Borrow.{Bor}
use Rattle.vax_lex.specs.declared.token.Token.{Token}
use Rattle.vax_asm_statement.specs.Parts.{parts}
use Rattle.vax_asm_labels.proofs.Parts.{all_within}
use Rattle.vax_asm_labels.proofs.contexts.save.Goals as goal

pub block_wanted-requires : goal.block_wanted-requires
block_wanted-requires c =
    let now : Bor (List Token) → List Token = λ s. s.now in
    all_within c.args.line.now (parts c.args.operands.now) c.deref.result.now
    (ap (map now) c.deref.ensures.value ∙ c.in-Ok.ensures.parts) (c.in-Ok.ensures.within c.args.line.now c.requires.tokens)
