use Rattle.std.proofs.Common.{◌≡◌, Ok, map, sym, ap, ◌∙◌, arith}
use Rattle.std.proofs.lemmas.Grind.{common_steps}
use Rattle.vax_asm_instruction.proofs.Left.{left}
use Rattle.vax_asm_instruction.proofs.Stepping.{all_within}
use Rattle.vax_asm_instruction.proofs.statement.instruction.Goals as goal
use Rattle.vax_asm_instruction.specs.Stating.{instruction_stated}
use Rattle.vax_isa.specs.Rows.{plain}
use Rattle.vax_asm_first.specs.Progress.{Site}
use Rattle.vax_asm_first.specs.View.{standing_of}
use Rattle.vax_asm_statement.specs.Parts.{parts}

pub state-requires-clause-tokens : goal.state-requires-clause-tokens
state-requires-clause-tokens c =
    let line = c.args.line.now.value.items in
    all_within (λ o. o.now) line c.in-Ok-site_of.site.line.now.value.items (parts c.args.operands.now) c.deref.result.now
    (sym (ap (λ (s : Site). s.line) c.in-Ok-site_of.ensures)) (ap (map (λ o. o.now)) c.deref.ensures.value ∙ c.in-Ok.ensures.parts) (c.in-Ok.ensures.within line c.requires.tokens)

pub returns-in-Ok-None-clause-read_back : goal.returns-in-Ok-None-clause-read_back
unfolding instruction_stated
returns-in-Ok-None-clause-read_back c =
    let stated : instruction_stated (plain c.args.row.now) c.args.origin c.args.line.now.value.items c.args.operands.now (standing_of c.args.standing.now) ≡ Ok (standing_of c.state.new.standing) = grind (arith, common_steps) in
    left (plain c.args.row.now) c.args.origin c.args.line.now.value.items c.args.operands.now c.args.standing.now c.state.new.standing c.requires.formed stated
