use Rattle.std.proofs.Common.{◌≡◌, [], false, refl, rules, true}
use Rattle.std.specs.Prelude.{is_some}
use Rattle.vax_asm_causes.proofs.Making.{joined}
use Rattle.vax_asm_causes.specs.Counts.{often_in}
use Rattle.vax_asm_causes.specs.Remarks.{has_end, has_front, has_maker}
use Rattle.vax_asm_causes.specs.declared.made.Maker.TheVariants.{Joint, Split}
use Rattle.vax_asm_causes.proofs.remarks.may_be_made.Goals as goal

pub returns-in_ok-has_end : goal.returns-in_ok-has_end
returns-in_ok-has_end c =
    let name = c.args.name.now in
    let dialect = c.args.reading.now.dialect in
    let source = c.args.reading.now.source.now in
    let often = often_in c.args.reading.now.counts in
    let split : has_maker dialect Split source ≡ false = search rules in
    let joint : has_maker dialect Joint source ≡ true = search rules in
    let front : true ≡ has_front (λ text. is_some (often text)) [] name = search rules in
    joined dialect source name often true c.in_ok-has_end.field-0 c.requires.counted split joint front c.in_ok-has_end.ensures

pub returns-else-branch : goal.returns-else-branch
returns-else-branch c =
    let name = c.args.name.now in
    let dialect = c.args.reading.now.dialect in
    let source = c.args.reading.now.source.now in
    let often = often_in c.args.reading.now.counts in
    let split : has_maker dialect Split source ≡ false = search rules in
    let joint : has_maker dialect Joint source ≡ true = search rules in
    let front : false ≡ has_front (λ text. is_some (often text)) [] name = search rules in
    let is : c.in_ok-has_front.field-0 ≡ false = search rules in
    rw is (joined dialect source name often false (has_end (λ text. is_some (often text)) name) c.requires.counted split joint front refl)
