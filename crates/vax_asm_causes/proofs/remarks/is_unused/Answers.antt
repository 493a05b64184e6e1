use Rattle.std.proofs.Common.{◌≡◌, false, true, not, ap, refl, rules, sym, ◌∙◌}
use Rattle.vax_asm_causes.proofs.Counting as counting
use Rattle.vax_asm_causes.specs.Counts.{is_once, often_in}
use Rattle.vax_asm_causes.specs.Remarks.{is_local, stands_once}
use Rattle.vax_asm_causes.proofs.remarks.is_unused.Goals as goal

pub returns-then-not-branch : goal.returns-then-not-branch
returns-then-not-branch c =
    let name = c.args.name.now in
    let dialect = c.args.reading.now.dialect in
    let source = c.args.reading.now.source.now in
    let other : is_local name ≡ false = search rules in
    let often : is_once (often_in c.args.reading.now.counts name) ≡ false = search rules in
    let once : stands_once dialect source name ≡ false = sym (counting.stands_once dialect source name (often_in c.args.reading.now.counts) c.requires.counted) ∙ often in
    rw other (rw once refl)

pub returns : goal.returns
returns c =
    let name = c.args.name.now in
    let dialect = c.args.reading.now.dialect in
    let source = c.args.reading.now.source.now in
    let other : is_local name ≡ false = search rules in
    let often : is_once (often_in c.args.reading.now.counts name) ≡ true = search rules in
    let once : stands_once dialect source name ≡ true = sym (counting.stands_once dialect source name (often_in c.args.reading.now.counts) c.requires.counted) ∙ often in
    rw other (rw once (ap not c.in_ok-may_be_made.ensures))
