use Rattle.std.proofs.Common.{List, map, ap, ◌∙◌, arith}
use Rattle.std.specs.Borrow.{Bor}
use Rattle.vax_lex.specs.declared.token.Token.{Token}
use Rattle.vax_asm_statement.specs.Parts.{parts}
use Rattle.vax_asm_labels.proofs.Parts.{part_at}
use Rattle.vax_asm_labels.proofs.defaults.default.Goals as goal

pub default_at-requires-clause-name : goal.default_at-requires-clause-name
default_at-requires-clause-name c =
    let now : Bor (List Token) → List Token = λ s. s.now in
    part_at c.args.line.now (parts c.args.operands.now) c.as_slice.result.now 0 _
    (ap (map now) c.as_slice.ensures.value ∙ c.in-Ok.ensures.parts) (c.in-Ok.ensures.within c.args.line.now c.requires.tokens) (omega arith)

pub default_at-requires-clause-size : goal.default_at-requires-clause-size
default_at-requires-clause-size c =
    let now : Bor (List Token) → List Token = λ s. s.now in
    part_at c.args.line.now (parts c.args.operands.now) c.as_slice.result.now 1 _
    (ap (map now) c.as_slice.ensures.value ∙ c.in-Ok.ensures.parts) (c.in-Ok.ensures.within c.args.line.now c.requires.tokens) (omega arith)
