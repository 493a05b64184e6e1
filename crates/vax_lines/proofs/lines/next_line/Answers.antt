use Rattle.std.proofs.Common.{rules, arith, ◌≡◌, length, ap, ◌∙◌, ◌∷◌, sym}
use Rattle.vax_lines.specs.Lines.{lines}
use Rattle.vax_lines.proofs.LineLaws.{last_line, first_line}
use Rattle.vax_lines.proofs.lines.next_line.Goals as goal

pub returns-in-None-clause-lines : goal.returns-in-None-clause-lines
returns-in-None-clause-lines c =
    let full : length c.args.text.now ≡ 0 → ⊥ = grind arith in
    let none : length c.split_at.result.1.now ≡ 0 = search rules in
    last_line c.args.text.now c.split_at.result.0.now c.split_at.result.1.now c.line_len.result full c.line_len.ensures.count c.line_len.ensures.within c.split_at.ensures.front c.split_at.ensures.back none

pub returns-in-Some-clause-lines : goal.returns-in-Some-clause-lines
returns-in-Some-clause-lines c =
    let is : c.split_at.result.1.now ≡ c.in-Some.field-0-0.now ∷ c.in-Some.behind.now = search rules in
    first_line c.args.text.now c.split_at.result.0.now c.split_at.result.1.now c.in-Some.behind.now c.in-Some.field-0-0.now c.line_len.result c.line_len.ensures.count c.line_len.ensures.within c.split_at.ensures.front c.split_at.ensures.back is ∙ ap (λ l. l ∷ lines c.in-Some.behind.now) (sym c.without_return.ensures)
