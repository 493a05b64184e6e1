use Rattle.std.proofs.Common.{List, map, ap, ◌∙◌, arith}
use Rattle.std.specs.Borrow.{Bor}
use Rattle.vax_lex.specs.declared.token.Token.{Token}
use Rattle.vax_asm_statement.specs.Parts.{parts}
use Rattle.vax_asm_labels.proofs.Parts.{part_at}
use Rattle.vax_asm.proofs.types.operand_type.Goals as goal

pub assign_type-requires-clause-name : goal.assign_type-requires-clause-name
assign_type-requires-clause-name c =
    let now : Bor (List Token) → List Token = λ s. s.now in
    part_at c.args.line.now.value.items (parts c.args.operands.now) c.as_slice.result.now 0 _
    (ap (map now) c.as_slice.ensures.value ∙ c.in-Ok.ensures.parts) (c.in-Ok.ensures.within c.args.line.now.value.items c.requires.tokens) (omega arith)

pub assign_type-requires-in-len2-clause-name : goal.assign_type-requires-in-len2-clause-name
assign_type-requires-in-len2-clause-name c =
    let now : Bor (List Token) → List Token = λ s. s.now in
    part_at c.args.line.now.value.items (parts c.args.operands.now) c.as_slice.result.now 0 _
    (ap (map now) c.as_slice.ensures.value ∙ c.in-Ok.ensures.parts) (c.in-Ok.ensures.within c.args.line.now.value.items c.requires.tokens) (omega arith)

pub assign_type-requires-in-len2-clause-operand : goal.assign_type-requires-in-len2-clause-operand
assign_type-requires-in-len2-clause-operand c =
    let now : Bor (List Token) → List Token = λ s. s.now in
    part_at c.args.line.now.value.items (parts c.args.operands.now) c.as_slice.result.now 1 _
    (ap (map now) c.as_slice.ensures.value ∙ c.in-Ok.ensures.parts) (c.in-Ok.ensures.within c.args.line.now.value.items c.requires.tokens) (omega arith)
