use Rattle.std.proofs.Common.{refl}
use Rattle.vax_macro.specs.declared.line_types.Lines as code_lines
use Rattle.vax_macro.proofs.Begins.{fresh}
use Rattle.vax_macro.proofs.expander.Expander.new.Goals as goal

pub returns-clause-rest : goal.returns-clause-rest
returns-clause-rest c =
    let l : code_lines.Lines = record { source = c.in_ok-source.source; at = 0; number = 0; frames = c.new.result } in
    fresh c.args.dialect l c.new-2.result c.new-3.result.items c.new-4.result.items c.args.source.now c.new.ensures.items c.in_ok-source.ensures refl refl c.new-2.ensures.empty c.new-3.ensures.items c.new-4.ensures.items
