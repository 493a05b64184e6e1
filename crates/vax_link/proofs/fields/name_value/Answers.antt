use Rattle.std.proofs.Common.{refl, sym, ap, ◌∙◌}
use Rattle.vax_link.specs.Names.{entries_from}
use Rattle.vax_link.specs.Values.{chased_value, known_value, name_value}
use Rattle.vax_link.proofs.FieldLaws.{sum_is}
use Rattle.vax_link.proofs.fields.name_value.Goals as goal

pub returns-in-Ends : goal.returns-in-Ends
unfolding name_value
returns-in-Ends c = λ region layout table.
    let modules = c.args.leads.now.names.modules.now in
    sum_is c.known_value.result c.in-Ends.offset (known_value region modules c.in-Ends.owner c.in-Ends.value) c.in-Ends.offset (c.known_value.ensures region modules layout) refl
    ∙ ap (chased_value region modules) (sym c.in-Ends.is ∙ c.chase.ensures (entries_from 0 modules) table)

pub returns-in-Unknown : goal.returns-in-Unknown
unfolding name_value
returns-in-Unknown c = λ region layout table.
    let modules = c.args.leads.now.names.modules.now in
    ap (chased_value region modules) (sym c.in-Unknown.is ∙ c.chase.ensures (entries_from 0 modules) table)

pub returns-in-Circles : goal.returns-in-Circles
unfolding name_value
returns-in-Circles c = λ region layout table.
    let modules = c.args.leads.now.names.modules.now in
    ap (chased_value region modules) (sym c.in-Circles.is ∙ c.chase.ensures (entries_from 0 modules) table)
