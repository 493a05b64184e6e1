use Rattle.std.proofs.Common.{◌≡◌, ◌<◌, false, length, rules, take, true}
use Rattle.std.specs.Prelude.{is_some}
use Rattle.vax_asm_causes.proofs.Making.{front_found, front_passed}
use Rattle.vax_asm_causes.specs.Counts.{often_in}
use Rattle.vax_asm_causes.proofs.made.has_front.Goals as goal

pub returns-then-branch : goal.returns-then-branch
returns-then-branch c =
    let name = c.args.name.now in
    let within : c.loop-i.i < length name = search rules in
    let yes : is_some (often_in c.args.counts.now (take c.loop-i.i name)) ≡ true = search rules in
    front_found (λ text. is_some (often_in c.args.counts.now text)) name c.loop-i.i _ within yes c.loop-i.invariant

pub loop-i-preserved : goal.loop-i-preserved
loop-i-preserved c =
    let name = c.args.name.now in
    let within : c.loop-i.i < length name = search rules in
    let no : is_some (often_in c.args.counts.now (take c.loop-i.i name)) ≡ false = search rules in
    front_passed (λ text. is_some (often_in c.args.counts.now text)) name c.loop-i.i _ within no c.loop-i.invariant
