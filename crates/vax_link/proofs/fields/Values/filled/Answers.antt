use Rattle.std.proofs.Common.{◌++◌, List, map, ap, ◌∙◌}
use Rattle.vax_module.specs.declared.Reloc.{Reloc}
use Rattle.vax_module.specs.declared.Section.{Section}
use Rattle.vax_link.specs.Placed.{bytes_in}
use Rattle.vax_link.specs.Values.{filled_from, filled_sections_from}
use Rattle.vax_link.proofs.FieldLaws.{filled_more, filled_past}
use Rattle.vax_link.proofs.fields.Values.filled.Goals as goal

pub loop-owner-preserved : goal.loop-owner-preserved
loop-owner-preserved c = λ region values.
    let modules = c.args.modules.now in
    let owner = c.loop-owner.owner in
    let old = bytes_in c.loop-owner.filled.items in
    filled_more region modules owner c.index-modules-owner.result old (bytes_in c.push_filled.new.filled.items) (filled_from region modules 0 modules) c.loop-owner-test.true c.index-modules-owner.is
    (c.in_ok-push_filled.ensures region modules values
    ∙ ap (λ (relocs : List Reloc). old ++ filled_sections_from region modules owner relocs 0 (map (λ s. s.bytes) c.as_slice.result.now)) c.as_slice-relocs.ensures
    ∙ ap (λ (sections : List Section). old ++ filled_sections_from region modules owner c.index-modules-owner.result.relocs 0 (map (λ s. s.bytes) sections)) c.as_slice.ensures)
    (c.loop-owner.invariant region values)

pub returns : goal.returns
returns c = λ region values.
    let modules = c.args.modules.now in
    filled_past region modules c.loop-owner.owner (bytes_in c.loop-owner.filled.items) (filled_from region modules 0 modules) c.loop-owner-test.false (c.loop-owner.invariant region values)
