use Rattle.std.proofs.Common.{◌≡◌, length, arith, rules, vec_len}
use Rattle.std.proofs.lemmas.Grind.{common_steps}
use Rattle.vax_vector_runs.proofs.Settling.{none_taken, part_told, step_told}
use Rattle.vax_vector_runs.proofs.run.end_of.Goals as goal

pub returns-in-Step : goal.returns-in-Step
returns-in-Step c = λ m space all start.
    let e = c.changed.ensures in
    let counted : vec_len c.args.cpu.now.term.input ≡ length c.args.cpu.now.term.input.items = first_of (omega arith, search rules, grind (arith, common_steps)) in
    step_told all c.args.start start c.requires (none_taken c.args.cpu.now.term counted c.requires) c.changed.result c.as_slice-touched.result.now c.in-Step.sent c.as_slice-touched.ensures.value c.in-Step.is
    e.core e.ends e.kept e.pages e.ram

pub returns-in-Some : goal.returns-in-Some
returns-in-Some c = λ m space all start.
    let e = c.changed-in-Some.ensures in
    let counted : vec_len c.args.cpu.now.term.input ≡ length c.args.cpu.now.term.input.items = first_of (omega arith, search rules, grind (arith, common_steps)) in
    part_told all c.args.start start c.requires (none_taken c.args.cpu.now.term counted c.requires) c.changed-in-Some.result c.as_slice-touched.result.now c.in-Some.open c.as_slice-touched.ensures.value c.in-Part.is c.in-Some.is
    e.core e.ends e.kept e.pages e.ram
