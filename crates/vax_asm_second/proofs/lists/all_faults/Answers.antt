use Rattle.std.proofs.Common.{◌≡◌, ◌++◌, [], length, map, ap, rules, ◌∙◌}
use Rattle.std.specs.List.{cons_option}
use Rattle.std.specs.Prelude.{option_map}
use Rattle.vax_asm_first.specs.View.{assignment_of, section_seen, standing_of}
use Rattle.vax_asm_scope.specs.Kept.{scope_of}
use Rattle.vax_asm_scope.specs.Scope.{Scope}
use Rattle.vax_asm_scope.specs.View.{texts_of}
use Rattle.vax_asm_sections.specs.View.{section_of}
use Rattle.vax_asm_second.proofs.Listing.{all_listed}
use Rattle.vax_asm_second.proofs.Whole.{IsFound, known_from, seen_count, texts_count}
use Rattle.vax_asm_second.specs.Laid.{laid}
use Rattle.vax_macro.specs.View.{opening_of}
use Rattle.vax_asm_second.proofs.lists.all_faults.Goals as goal

pub returns : goal.returns
returns c =
    let s = standing_of c.args.standing in
    let sections = c.sections-sections.result.now in
    let seen = map section_seen (map section_of sections) in
    let texts = c.in_ok-externals.externals in
    let assigned = map assignment_of c.args.assignments.now in
    let sources = (scope_of c.close.new.self).sources in
    let counted : c.len.result ≡ length texts.items = search rules in
    let found : IsFound s sources (length sections) c.len.result seen (texts_of texts) = record {
      sources = ap (λ (x : Scope). x.sources) c.in_ok-externals.ensures.scope;
      seen = ap (map section_seen) c.sections-sections.ensures;
      count = seen_count sections;
      texts = c.in_ok-externals.ensures.externals;
      named = counted ∙ texts_count texts.items;
    } in
    let one : c.list_sections.new.self.faults.items ≡ (laid (known_from sources (length sections) c.len.result) 0 seen).faults =
    c.in_ok-list_sections.ensures ∙ ap (λ l. l ++ (laid (known_from sources (length sections) c.len.result) 0 seen).faults) c.new-listing.ensures in
    let three = c.in_ok-add.ensures ∙ ap (λ o. c.list_assignments.new.self.faults.items ++ cons_option o []) c.unclosed_fault.ensures in
    all_listed s assigned (option_map opening_of c.args.unclosed) sources (length sections) c.len.result seen (texts_of texts) c.list_sections.new.self.faults.items c.list_assignments.new.self.faults.items _ found one c.in_ok-list_assignments.ensures three
