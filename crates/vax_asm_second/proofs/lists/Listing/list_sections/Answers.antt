use Rattle.std.proofs.Common.{rules, ◌≡◌, ◌++◌}
use Rattle.vax_asm_first.specs.View.{section_seen}
use Rattle.vax_asm_sections.specs.View.{section_of}
use Rattle.vax_asm_second.proofs.Listing.{section_listed, sections_listed}
use Rattle.vax_asm_second.specs.Laid.{outputs}
use Rattle.vax_asm_second.specs.View.{known_of}
use Rattle.vax_asm_second.proofs.lists.Listing.list_sections.Goals as goal

pub loop-i-preserved : goal.loop-i-preserved
loop-i-preserved c =
    let before = c.loop-i in
    let after = c.list_pieces.new.self in
    let k = known_of c.args.known in
    let s = section_seen (section_of c.index-sections-i.result) in
    let listed : after.faults.items ≡ before.self.faults.items ++ (outputs k c.in_ok-number.number 0 s.parts).faults = search rules in
    section_listed k c.args.sections.now before.i c.in_ok-number.number c.index-sections-i.result before.self.faults.items after.faults.items _
    c.loop-i-test.true c.index-sections-i.is c.in_ok-number.ensures listed before.invariant

pub returns : goal.returns
returns c =
    sections_listed (known_of c.args.known) c.loop-i.i c.args.sections.now c.loop-i.i c.loop-i.self.faults.items _ c.loop-i-test.false c.loop-i.invariant
