use Rattle.std.proofs.Common.{◌≡◌, ◌∙◌, take, arith}
use Rattle.std.proofs.lemmas.Grind.{common_steps}
use Rattle.std.specs.List.{position_or_len}
use Rattle.vax_strpart.specs.Kernels.{is_escape, translated}
use Rattle.vax_strpart.proofs.MarkLaws.{position-map, end_of, moved}
use Rattle.vax_strpart.proofs.kernels.translate_until.Goals as goal

pub returns-clause-exact : goal.returns-clause-exact
returns-clause-exact c = c.first-found.ensures.exact ∙ position-map (is_escape c.args.table.now c.args.escape) c.args.s.now

pub returns-clause-moved : goal.returns-clause-moved
returns-clause-moved c =
    let test = is_escape c.args.table.now c.args.escape in
    let end : c.unwrap_or-end.result ≡ position_or_len test c.args.s.now = c.unwrap_or-end.ensures ∙ end_of test c.args.s.now c.first-found.result (returns-clause-exact c) in
    let front : c.translate.new.s ≡ translated c.args.table.now (take c.unwrap_or-end.result c.args.s.now) = grind (arith, common_steps) in
    moved c.args.table.now c.args.escape c.unwrap_or-end.result c.args.s.now c.translate.new.s end front
