use Rattle.std.proofs.Common.{map, sym, ap, ◌∙◌, arith}
use Rattle.vax_asm_instruction.proofs.Stepping.{all_within}
use Rattle.vax_asm_first.specs.Progress.{Site}
use Rattle.vax_asm_statement.specs.Parts.{parts}
use Rattle.vax_asm_instruction.proofs.references.reference.Goals as goal

pub state-requires : goal.state-requires
state-requires c =
    let line = c.args.line.now.value.items in
    let all =
    all_within (λ o. o.now) line c.in-Ok-site_of.site.line.now.value.items (parts c.args.operands.now) c.as_slice.result.now
    (sym (ap (λ (s : Site). s.line) c.in-Ok-site_of.ensures)) (ap (map (λ o. o.now)) c.as_slice.ensures.value ∙ c.in-Ok.ensures.parts) (c.in-Ok.ensures.within line c.requires.tokens) in
    record { tokens = all 0 _ (omega (arith, c.in-len1.len_at_least)) }
