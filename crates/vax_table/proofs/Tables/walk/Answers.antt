use Rattle.std.proofs.Common.{ap, sym, ◌∙◌}
use Rattle.vax_table.specs.Entry.{said_by, entry_at}
use Rattle.vax_table.proofs.Changes.{old_says, none_outside}
use Rattle.vax_table.proofs.Tables.walk.Goals as goal

pub returns-in-Some-clause-value : goal.returns-in-Some-clause-value
returns-in-Some-clause-value c =
    c.said_by.ensures.value ∙ ap said_by (c.entry_at.ensures ∙ ap (λ bytes. entry_at bytes c.in-Some.place) c.deref.ensures.value)
    ∙ sym (old_says _ _ _ c.args.self.now.sound (sym c.place_of.ensures.place ∙ c.in-Some.is))

pub returns-in-None-clause-value : goal.returns-in-None-clause-value
returns-in-None-clause-value c = sym (none_outside _ _ c.args.self.now.sound (sym c.place_of.ensures.place ∙ c.in-None.is))
