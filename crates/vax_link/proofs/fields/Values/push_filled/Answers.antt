use Rattle.std.proofs.Common.{◌++◌, ℕ, List, map, ap, ◌∙◌}
use Rattle.std.specs.List.{fold}
use Rattle.std.proofs.lemmas.List.{map_push}
use Rattle.vax_link.specs.Placed.{bytes_in}
use Rattle.vax_link.specs.Values.{filled_sections_from, with_reloc}
use Rattle.vax_link.proofs.FieldLaws.{sections_more, sections_past}
use Rattle.vax_link.proofs.fields.Values.push_filled.Goals as goal

pub loop-number-preserved : goal.loop-number-preserved
loop-number-preserved c = λ region modules values.
    let owner = c.args.owner in
    let relocs = c.args.relocs.now in
    let sections = c.args.sections.now in
    let i = c.loop-number.number in
    let total = bytes_in c.args.filled.now.items ++ filled_sections_from region modules owner relocs 0 (map (λ s. s.bytes) sections) in
    sections_more region modules owner relocs i sections c.index-sections-number.result (bytes_in c.loop-number.filled.items) (bytes_in c.push.new.self.items) total c.in_ok-filled_section.field-0.items
    c.loop-number-test.true c.index-sections-number.is
    (c.in_ok-filled_section.ensures region modules values ∙ ap (λ (b : List ℕ). fold (with_reloc region modules owner i) b relocs) c.as_slice-bytes.ensures)
    (ap bytes_in c.in_ok-push.ensures.items ∙ map_push (λ v. v.items) c.loop-number.filled.items c.in_ok-filled_section.field-0)
    (c.loop-number.invariant region modules values)

pub returns : goal.returns
returns c = λ region modules values.
    let owner = c.args.owner in
    let relocs = c.args.relocs.now in
    let sections = c.args.sections.now in
    let total = bytes_in c.args.filled.now.items ++ filled_sections_from region modules owner relocs 0 (map (λ s. s.bytes) sections) in
    sections_past region modules owner relocs c.loop-number.number sections (bytes_in c.loop-number.filled.items) total c.loop-number-test.false (c.loop-number.invariant region modules values)
