use Rattle.std.proofs.Common.{ap, sym, ◌∙◌}
use Rattle.vax_table.specs.Entry.{kept_by, entry_at}
use Rattle.vax_table.proofs.Changes.{old_keeps, none_keeps}
use Rattle.vax_table.proofs.Tables.kept_frame.Goals as goal

pub returns-in-Some : goal.returns-in-Some
returns-in-Some c =
    c.kept_by.ensures.value ∙ ap kept_by (c.entry_at.ensures ∙ ap (λ bytes. entry_at bytes c.in-Some.place) c.deref.ensures.value)
    ∙ sym (old_keeps _ _ _ c.args.self.now.sound (sym c.place_of.ensures.place ∙ c.in-Some.is))

pub returns-in-None : goal.returns-in-None
returns-in-None c = sym (none_keeps _ _ c.args.self.now.sound (sym c.place_of.ensures.place ∙ c.in-None.is))
