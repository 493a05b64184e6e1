use Rattle.std.proofs.Common.{◌++◌, ap, ◌∙◌}
use Rattle.std.specs.List.{flat_map}
use Rattle.vax_asm_causes.specs.View.{asked_by}
use Rattle.vax_asm_errors.proofs.Noting.{all_remarked}
use Rattle.vax_asm_errors.specs.Notes.{note}
use Rattle.vax_prelude.specs.View.{title_seen}
use Rattle.vax_asm_errors.proofs.remarks.push_remarks.Goals as goal

pub returns : goal.returns
returns c =
    let title = title_seen c.args.source.title in
    let source = c.args.source.text.now in
    let before = c.args.out.now.items in
    all_remarked c.push_all.result c.args.source.dialect title source (asked_by c.args.wanted) c.in_ok-notes.notes.items before c.push_messages.new.out.items c.push_all.new.out.items c.in_ok-notes.ensures.told c.in_ok-notes.ensures.plain
    (c.in_ok-push_messages.ensures ∙ ap (λ l. before ++ flat_map (note title source) l) c.deref.ensures.value) c.in_ok-all.all.items c.in_ok-all.ensures c.deref-2.result.now c.deref-2.ensures.value c.push_all.ensures
