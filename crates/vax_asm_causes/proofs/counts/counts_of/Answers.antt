use Rattle.std.proofs.Common.{◌≡◌, ◌∷◌, List, ℕ, Option, ap, rules, sym, ◌∙◌}
use Rattle.std.specs.List.{flat_map}
use Rattle.vax_asm_causes.proofs.Counting.{line_counted}
use Rattle.vax_asm_causes.specs.Counts.{often_in, with_names}
use Rattle.vax_asm_causes.specs.Remarks.{line_names, names_in}
use Rattle.vax_asm_causes.specs.declared.counts.Often.{Often}
use Rattle.vax_lines.specs.Lines.{lines}
use Rattle.vax_asm_causes.proofs.counts.counts_of.Goals as goal

pub loop-line-preserved : goal.loop-line-preserved
loop-line-preserved c =
    let dialect = c.args.dialect in
    let line = c.in-Some.line.now in
    let behind = c.in-Some.behind.now in
    let before = often_in c.loop-line.counts in
    let cut : lines c.loop-line.rest.now ≡ line ∷ lines behind = search rules in
    ap (λ (f : List ℕ → Option Often). with_names (names_in dialect behind) f) c.in_ok-count_line.ensures
    ∙ sym (line_counted dialect line (lines behind) before)
    ∙ ap (λ (l : List (List ℕ)). with_names (flat_map (line_names dialect) l) before) (sym cut)
    ∙ c.loop-line.invariant
