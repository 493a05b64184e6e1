use Rattle.std.proofs.Common.{◌≡◌, List, map, ap, ◌∙◌, arith}
use Rattle.std.specs.Borrow.{Bor}
use Rattle.vax_lex.specs.declared.token.Token.{Token}
use Rattle.vax_asm_first.specs.Progress.{Site}
use Rattle.vax_asm_statement.specs.Parts.{parts}
use Rattle.vax_asm_labels.proofs.Parts.{part_on}
use Rattle.vax_asm_labels.proofs.masks.mask.Goals as goal

pub state_named-requires-clause-entry : goal.state_named-requires-clause-entry
state_named-requires-clause-entry c =
    let now : Bor (List Token) → List Token = λ s. s.now in
    let line = c.args.line.now.value.items in
    let same : c.in-Ok-site_of.site.line.now.value.items ≡ line = ap (λ (s : Site). s.line) c.in-Ok-site_of.ensures in
    part_on c.in-Ok-site_of.site.line.now.value.items line (parts c.args.operands.now) c.as_slice.result.now 0 _ same
    (ap (map now) c.as_slice.ensures.value ∙ c.in-Ok.ensures.parts) (c.in-Ok.ensures.within line c.requires.tokens) (omega arith)

pub state_named-requires-in-len2-clause-entry : goal.state_named-requires-in-len2-clause-entry
state_named-requires-in-len2-clause-entry c =
    let now : Bor (List Token) → List Token = λ s. s.now in
    let line = c.args.line.now.value.items in
    let same : c.in-Ok-site_of.site.line.now.value.items ≡ line = ap (λ (s : Site). s.line) c.in-Ok-site_of.ensures in
    part_on c.in-Ok-site_of.site.line.now.value.items line (parts c.args.operands.now) c.as_slice.result.now 0 _ same
    (ap (map now) c.as_slice.ensures.value ∙ c.in-Ok.ensures.parts) (c.in-Ok.ensures.within line c.requires.tokens) (omega arith)

pub state_named-requires-in-len2-clause-tokens : goal.state_named-requires-in-len2-clause-tokens
state_named-requires-in-len2-clause-tokens c =
    let now : Bor (List Token) → List Token = λ s. s.now in
    let line = c.args.line.now.value.items in
    let same : c.in-Ok-site_of.site.line.now.value.items ≡ line = ap (λ (s : Site). s.line) c.in-Ok-site_of.ensures in
    part_on c.in-Ok-site_of.site.line.now.value.items line (parts c.args.operands.now) c.as_slice.result.now 1 _ same
    (ap (map now) c.as_slice.ensures.value ∙ c.in-Ok.ensures.parts) (c.in-Ok.ensures.within line c.requires.tokens) (omega arith)
