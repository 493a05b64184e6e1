use Rattle.std.proofs.Common.{ap, ◌∙◌}
use Rattle.std.specs.Prelude.{Some}
use Rattle.vax_macro.specs.Names.{with_entry}
use Rattle.vax_macro.specs.Rest.{Rest}
use Rattle.vax_macro.specs.Templates.{Template}
use Rattle.vax_macro.specs.View.{macros_of, rest_in}
use Rattle.vax_macro.proofs.state_types.State.finish_macro.Goals as goal

pub returns : goal.returns
returns c = λ read.
    c.in_ok-define.ensures read
    ∙ ap (λ (t : Template). let r : Rest = record (rest_in read c.args.self.now) { macros = with_entry c.args.name.items (Some t) (macros_of c.args.self.now.macros) } in r) c.in_ok-kept.ensures
