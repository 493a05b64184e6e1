use Rattle.std.proofs.Common.{◌≡◌, ◌≤◌, ◌∷◌, length, rules, ap, ◌∙◌}
use Rattle.vax_asm_causes.proofs.Starting.{start_found}
use Rattle.vax_asm_causes.specs.Remarks.{end_name, operation_of}
use Rattle.vax_lines.specs.Lines.{lines}
use Rattle.vax_asm_causes.proofs.remarks.start_of.Goals as goal

pub returns-then-not-is_empty : goal.returns-then-not-is_empty
returns-then-not-is_empty c =
    let line = c.in-Some.line.now in
    let name = c.end_name-name.result.now in
    let cut : lines c.loop-line.rest.now ≡ line ∷ lines c.in-Some.behind.now = search rules in
    let some : 1 ≤ length name = search rules in
    let is = c.end_name-name.ensures ∙ ap (end_name line) (c.operation_of.ensures ∙ ap operation_of (c.deref.ensures.value ∙ c.in_ok-pieces.ensures)) in
    start_found c.args.dialect _ (lines c.in-Some.behind.now) line name _ cut is some c.loop-line.invariant
