use Rattle.std.proofs.Common.{true, false, ap, sym, ◌∙◌}
use Rattle.vax_table.specs.Entry.{said_by, kept_by, entry_at, prot_in, frame_in, entry_with}
use Rattle.vax_table.specs.Layout.{walked_in}
use Rattle.vax_table.specs.Mapping.{changed, cleared, frame_of, is_inside, is_resident}
use Rattle.vax_table.proofs.Changes.{old_says, said_kept, change_mapped, cleared_mapped, resident_is_inside, keeps_frame, frame_said}
use Rattle.vax_table.proofs.Tables.keep.Goals as goal

pub returns-clause-walked : goal.returns-clause-walked
returns-clause-walked c =
    let old = c.entry_at-old.ensures ∙ ap (λ bytes. entry_at bytes c.place_inside-place.result) c.deref.ensures.value in
    let says = old_says c.args.self.now.memory c.args.page _ c.args.self.now.sound c.place_inside-place.ensures.place in
    let prot = c.prot_in.ensures.value ∙ ap prot_in old in
    let frame = c.frame_in.ensures.value ∙ ap frame_in old in
    let entry = c.entry_with-entry.ensures ∙ ap (λ p. entry_with false p true c.frame_in.result) prot ∙ ap (λ f. entry_with false (prot_in (entry_at c.args.self.now.memory.bytes.items c.place_inside-place.result)) true f) frame in
    c.put.ensures.walked
    ∙ ap (changed _ c.args.page)
    (ap said_by entry ∙ said_kept _ (sym (ap is_inside says) ∙ resident_is_inside (walked_in c.args.self.now.memory) c.args.page c.requires.resident) ∙ ap cleared (sym says))

pub returns-clause-kept : goal.returns-clause-kept
returns-clause-kept c =
    let old = c.entry_at-old.ensures ∙ ap (λ bytes. entry_at bytes c.place_inside-place.result) c.deref.ensures.value in
    let says = old_says c.args.self.now.memory c.args.page _ c.args.self.now.sound c.place_inside-place.ensures.place in
    let prot = c.prot_in.ensures.value ∙ ap prot_in old in
    let frame = c.frame_in.ensures.value ∙ ap frame_in old in
    let entry = c.entry_with-entry.ensures ∙ ap (λ p. entry_with false p true c.frame_in.result) prot ∙ ap (λ f. entry_with false (prot_in (entry_at c.args.self.now.memory.bytes.items c.place_inside-place.result)) true f) frame in
    c.put.ensures.kept
    ∙ ap (changed _ c.args.page)
    (ap kept_by entry ∙ keeps_frame _ ∙ sym (frame_said _ (sym (ap is_resident says) ∙ c.requires.resident)) ∙ ap frame_of (sym says))

pub returns-clause-mapped : goal.returns-clause-mapped
returns-clause-mapped c areas held =
    change_mapped areas held _ _ c.args.page cleared _ (returns-clause-walked c) (cleared_mapped areas held c.args.page)
