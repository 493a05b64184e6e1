use Rattle.vax_asm_second.proofs.Steps.{section_laid, sections_laid}
use Rattle.vax_asm_second.specs.View.{known_of}
use Rattle.vax_asm_second.proofs.types.Found.lay_all.Goals as goal

pub loop-i-preserved : goal.loop-i-preserved
loop-i-preserved c =
    let before = c.loop-i in
    let after = c.lay.new.self in
    let laid = c.in_ok-section.ensures in
    section_laid (known_of c.args.known) c.args.sections.now before.i c.in_ok-number.number c.index-sections-i.result before.list.items c.add_section.new.list.items _ c.in_ok-section.section
    before.self.relocs.items after.relocs.items _ before.self.fault after.fault _ c.loop-i-test.true c.index-sections-i.is c.in_ok-number.ensures c.in_ok-add_section.ensures laid.section laid.relocs laid.fault before.invariant

pub returns-clause-sections : goal.returns-clause-sections
returns-clause-sections c =
    (sections_laid (known_of c.args.known) c.loop-i.i c.args.sections.now c.loop-i.i c.loop-i.list.items _ c.loop-i.self.relocs.items _ c.loop-i.self.fault _ c.loop-i-test.false c.loop-i.invariant).0

pub returns-clause-relocs : goal.returns-clause-relocs
returns-clause-relocs c =
    (sections_laid (known_of c.args.known) c.loop-i.i c.args.sections.now c.loop-i.i c.loop-i.list.items _ c.loop-i.self.relocs.items _ c.loop-i.self.fault _ c.loop-i-test.false c.loop-i.invariant).1

pub returns-clause-fault : goal.returns-clause-fault
returns-clause-fault c =
    (sections_laid (known_of c.args.known) c.loop-i.i c.args.sections.now c.loop-i.i c.loop-i.list.items _ c.loop-i.self.relocs.items _ c.loop-i.self.fault _ c.loop-i-test.false c.loop-i.invariant).2
