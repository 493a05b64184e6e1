use Rattle.std.proofs.Common.{arith, true, false, ap, sym, ◌∙◌}
use Rattle.vax_table.specs.Entry.{said_by, kept_by, entry_at, prot_in, entry_with}
use Rattle.vax_table.specs.Mapping.{changed, set_in, is_inside}
use Rattle.vax_table.proofs.Changes.{old_says, said_set, change_mapped, set_mapped, keeps_none}
use Rattle.vax_table.proofs.Tables.set.Goals as goal

pub returns-clause-walked : goal.returns-clause-walked
returns-clause-walked c =
    let old = c.entry_at-old.ensures ∙ ap (λ bytes. entry_at bytes c.place_inside-place.result) c.deref.ensures.value in
    let says = old_says c.args.self.now.memory c.args.page _ c.args.self.now.sound c.place_inside-place.ensures.place in
    let entry = c.entry_with-entry.ensures ∙ ap (λ prot. entry_with true prot false c.args.frame) (c.prot_in.ensures.value ∙ ap prot_in old) in
    c.put.ensures.walked
    ∙ ap (changed _ c.args.page)
    (ap said_by entry ∙ said_set _ _ (sym (ap is_inside says) ∙ c.requires.inside) c.requires.frame ∙ ap (λ w. set_in w c.args.frame) (sym says))

pub returns-clause-kept : goal.returns-clause-kept
returns-clause-kept c =
    let old = c.entry_at-old.ensures ∙ ap (λ bytes. entry_at bytes c.place_inside-place.result) c.deref.ensures.value in
    let entry = c.entry_with-entry.ensures ∙ ap (λ prot. entry_with true prot false c.args.frame) (c.prot_in.ensures.value ∙ ap prot_in old) in
    c.put.ensures.kept ∙ ap (changed _ c.args.page) (ap kept_by entry ∙ keeps_none _ c.args.frame false (omega (arith, c.requires.frame)))

pub returns-clause-mapped : goal.returns-clause-mapped
returns-clause-mapped c areas held =
    change_mapped areas held _ _ c.args.page (λ w. set_in w c.args.frame) _ (returns-clause-walked c) (set_mapped areas held c.args.page c.args.frame)
