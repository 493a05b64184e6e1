use Rattle.std.proofs.Common.{true, ap, sym, ◌∙◌}
use Rattle.vax_table.specs.Entry.{said_by, kept_by, entry_at, prot_in, frame_in, entry_with}
use Rattle.vax_table.specs.Mapping.{changed, marked, is_resident}
use Rattle.vax_table.proofs.Changes.{old_says, said_marked, change_mapped, marked_mapped, keeps_none, frame_fits_in}
use Rattle.vax_table.proofs.Tables.mark.Goals as goal

pub returns-clause-walked : goal.returns-clause-walked
returns-clause-walked c =
    let old = c.entry_at-old.ensures ∙ ap (λ bytes. entry_at bytes c.place_inside-place.result) c.deref.ensures.value in
    let says = old_says c.args.self.now.memory c.args.page _ c.args.self.now.sound c.place_inside-place.ensures.place in
    let prot = c.prot_in.ensures.value ∙ ap prot_in old in
    let frame = c.frame_in.ensures.value ∙ ap frame_in old in
    let entry = c.entry_with-entry.ensures ∙ ap (λ p. entry_with true p true c.frame_in.result) prot ∙ ap (λ f. entry_with true (prot_in (entry_at c.args.self.now.memory.bytes.items c.place_inside-place.result)) true f) frame in
    c.put.ensures.walked
    ∙ ap (changed _ c.args.page)
    (ap said_by entry ∙ said_marked _ (sym (ap is_resident says) ∙ c.requires.resident) ∙ ap marked (sym says))

pub returns-clause-kept : goal.returns-clause-kept
returns-clause-kept c =
    let old = c.entry_at-old.ensures ∙ ap (λ bytes. entry_at bytes c.place_inside-place.result) c.deref.ensures.value in
    let prot = c.prot_in.ensures.value ∙ ap prot_in old in
    let frame = c.frame_in.ensures.value ∙ ap frame_in old in
    let entry = c.entry_with-entry.ensures ∙ ap (λ p. entry_with true p true c.frame_in.result) prot ∙ ap (λ f. entry_with true (prot_in (entry_at c.args.self.now.memory.bytes.items c.place_inside-place.result)) true f) frame in
    c.put.ensures.kept ∙ ap (changed _ c.args.page) (ap kept_by entry ∙ keeps_none _ _ true (frame_fits_in _))

pub returns-clause-mapped : goal.returns-clause-mapped
returns-clause-mapped c areas held =
    change_mapped areas held _ _ c.args.page marked _ (returns-clause-walked c) (marked_mapped areas held c.args.page)
