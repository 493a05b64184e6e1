use Rattle.std.proofs.Common.{◌≡◌, length, map, ap, ◌∙◌, rules}
use Rattle.std.specs.Prelude.{option_map}
use Rattle.vax_asm_second.proofs.Forming.{filled_formed, filled_ordered}
use Rattle.vax_asm_second.proofs.Whole.{IsFound, known_from, error_found, module_found, sections_sound, seen_count, texts_count}
use Rattle.vax_asm_second.specs.Laid.{laid}
use Rattle.vax_asm_sections.specs.View.{section_of}
use Rattle.vax_macro.specs.View.{opening_of}
use Rattle.vax_asm_names.specs.View.{name_of}
use Rattle.vax_asm_first.specs.View.{assignment_of, section_seen, standing_of}
use Rattle.vax_asm_scope.specs.Kept.{scope_of}
use Rattle.vax_asm_scope.specs.Scope.{Scope}
use Rattle.vax_asm_scope.specs.View.{texts_of}
use Rattle.vax_asm_second.proofs.modules.fill_in.Goals as goal

pub returns-in-Err-clause-module : goal.returns-in-Err-clause-module
returns-in-Err-clause-module c =
    let s = standing_of c.args.standing in
    let sections = c.sections-sections.result.now in
    let seen = map section_seen (map section_of sections) in
    let texts = c.in-Ok.externals in
    let assigned = map assignment_of c.args.assignments.now in
    let sources = (scope_of c.close.new.self).sources in
    let counted : c.len.result ≡ length texts.items = search rules in
    let found : IsFound s sources (length sections) c.len.result seen (texts_of texts) = record {
      sources = ap (λ (x : Scope). x.sources) c.in-Ok.ensures.scope;
      seen = ap (map section_seen) c.sections-sections.ensures;
      count = seen_count sections;
      texts = c.in-Ok.ensures.externals;
      named = counted ∙ texts_count texts.items;
    } in
    error_found s assigned (option_map opening_of c.args.unclosed) sources (length sections) c.len.result seen (texts_of texts) c.in-Err.error found c.in-Err.ensures

pub returns-clause-module : goal.returns-clause-module
returns-clause-module c =
    let s = standing_of c.args.standing in
    let sections = c.sections-sections.result.now in
    let seen = map section_seen (map section_of sections) in
    let names = map name_of c.names.result.now in
    let texts = c.in-Ok.externals in
    let assigned = map assignment_of c.args.assignments.now in
    let sources = (scope_of c.close.new.self).sources in
    let counted : c.len.result ≡ length texts.items = search rules in
    let found : IsFound s sources (length sections) c.len.result seen (texts_of texts) = record {
      sources = ap (λ (x : Scope). x.sources) c.in-Ok.ensures.scope;
      seen = ap (map section_seen) c.sections-sections.ensures;
      count = seen_count sections;
      texts = c.in-Ok.ensures.externals;
      named = counted ∙ texts_count texts.items;
    } in
    let laid_so = c.in-Ok-lay.ensures in
    module_found s assigned (option_map opening_of c.args.unclosed) sources (length sections) c.len.result seen names (texts_of texts) c.in-Ok-module.module found
    (c.names.ensures ∙ ap (λ (x : Scope). x.names.all) c.in-Ok.ensures.scope) laid_so.2
    (c.in-Ok-module.ensures (laid (known_from sources (length sections) c.len.result) 0 seen) laid_so.0 laid_so.1)

pub returns-clause-formed : goal.returns-clause-formed
returns-clause-formed c =
    let s = standing_of c.args.standing in
    filled_formed s (map assignment_of c.args.assignments.now) (option_map opening_of c.args.unclosed) c.in-Ok-module.module (sections_sound c.args.standing.layout.sections.items) (returns-clause-module c)

pub returns-clause-ordered : goal.returns-clause-ordered
returns-clause-ordered c =
    let s = standing_of c.args.standing in
    filled_ordered s (map assignment_of c.args.assignments.now) (option_map opening_of c.args.unclosed) c.in-Ok-module.module (sections_sound c.args.standing.layout.sections.items) (returns-clause-module c)
