use Rattle.std.proofs.Common.{false, ap, sym, ◌∙◌}
use Rattle.vax_table.specs.Entry.{said_by, kept_by, entry_at, prot_in, entry_with}
use Rattle.vax_table.specs.Mapping.{changed, cleared, is_inside}
use Rattle.vax_table.proofs.Changes.{old_says, said_cleared, change_mapped, cleared_mapped, keeps_no_more}
use Rattle.vax_table.proofs.Tables.clear.Goals as goal

pub returns-clause-walked : goal.returns-clause-walked
returns-clause-walked c =
    let old = c.entry_at-old.ensures ∙ ap (λ bytes. entry_at bytes c.place_inside-place.result) c.deref.ensures.value in
    let says = old_says c.args.self.now.memory c.args.page _ c.args.self.now.sound c.place_inside-place.ensures.place in
    let entry = c.entry_with-entry.ensures ∙ ap (λ prot. entry_with false prot false 0) (c.prot_in.ensures.value ∙ ap prot_in old) in
    c.put.ensures.walked
    ∙ ap (changed _ c.args.page)
    (ap said_by entry ∙ said_cleared _ (sym (ap is_inside says) ∙ c.requires.inside) ∙ ap cleared (sym says))

pub returns-clause-kept : goal.returns-clause-kept
returns-clause-kept c =
    let old = c.entry_at-old.ensures ∙ ap (λ bytes. entry_at bytes c.place_inside-place.result) c.deref.ensures.value in
    let entry = c.entry_with-entry.ensures ∙ ap (λ prot. entry_with false prot false 0) (c.prot_in.ensures.value ∙ ap prot_in old) in
    c.put.ensures.kept ∙ ap (changed _ c.args.page) (ap kept_by entry ∙ keeps_no_more _)

pub returns-clause-mapped : goal.returns-clause-mapped
returns-clause-mapped c areas held =
    change_mapped areas held _ _ c.args.page cleared _ (returns-clause-walked c) (cleared_mapped areas held c.args.page)
