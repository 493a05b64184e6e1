use Rattle.std.proofs.Common.{◌≡◌, ◌++◌, ℕ, List, length, take, ap, subst, rules, ◌∙◌}
use Rattle.std.specs.Prelude.{OnOk}
use Rattle.std.specs.List.{flat_map}
use Rattle.vax_asm_errors.proofs.Listing.{all_added}
use Rattle.vax_asm_errors.specs.Errors.{ending, error}
use Rattle.vax_asm_second.specs.declared.types.Fault.{Fault}
use Rattle.vax_prelude.specs.View.{title_seen}
use Rattle.vax_asm_errors.proofs.errors.push_errors.Goals as goal

pub returns : goal.returns
returns c =
    let title = title_seen c.args.source.title in
    let source = c.args.source.text.now in
    let found = c.in_ok-found.found.items in
    let said = c.in_ok-said.said.items in
    let before = c.args.out.now.items in
    let told = c.in_ok-said.ensures.faults ∙ c.told.ensures ∙ ap (λ (l : List Fault). take 100 l) c.deref.ensures.value in
    let many : c.len.result ≡ length found = search rules in
    all_added c.push_ending.result c.args.source.dialect title source found said before c.push_each.new.out.items c.push_ending.new.out.items c.in_ok-found.ensures told c.in_ok-said.ensures.plain
    (c.in_ok-push_each.ensures ∙ ap (λ l. before ++ flat_map (error title source) l) c.deref-2.ensures.value) (subst (λ (n : ℕ). OnOk c.push_ending.result (c.push_ending.new.out.items ≡ c.push_each.new.out.items ++ ending title.name n)) many c.push_ending.ensures)
