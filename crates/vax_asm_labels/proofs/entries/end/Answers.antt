use Rattle.std.proofs.Common.{List, map, ap, ◌∙◌, arith}
use Rattle.std.specs.Borrow.{Bor}
use Rattle.vax_lex.specs.declared.token.Token.{Token}
use Rattle.vax_asm_statement.specs.Parts.{parts}
use Rattle.vax_asm_labels.proofs.Parts.{part_at}
use Rattle.vax_asm_labels.proofs.entries.end.Goals as goal

pub name_of-requires : goal.name_of-requires
name_of-requires c =
    let now : Bor (List Token) → List Token = λ s. s.now in
    part_at c.args.line.now (parts c.args.operands.now) c.as_slice.result.now 0 _
    (ap (map now) c.as_slice.ensures.value ∙ c.in-Ok.ensures.parts) (c.in-Ok.ensures.within c.args.line.now c.requires.tokens) (omega arith)
