use Rattle.std.proofs.Common.{ap, sym, ◌∙◌}
use Rattle.std.specs.Prelude.{option_map}
use Rattle.vax_asm_check.proofs.Surveying.{stopped_found}
use Rattle.vax_asm_check.specs.View.{left_of}
use Rattle.vax_macro.specs.Expanders.{read_of, unclosed_of}
use Rattle.vax_macro.specs.View.{opening_of}
use Rattle.vax_asm_check.proofs.survey.Survey.stop.Goals as goal

pub returns-in-None : goal.returns-in-None
returns-in-None c =
    let old = c.args.self in
    let none = sym c.open_begin.ensures ∙ ap (option_map opening_of) c.in-None.is in
    λ o is. stopped_found c.stop_at.result (unclosed_of c.args.expander.now) old.faults.items (read_of c.args.expander.now) c.args.line c.lines_read.result c.args.kind (left_of old.left) old.ended none c.lines_read.ensures c.stop_at.ensures o is
