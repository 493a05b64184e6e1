use Rattle.std.proofs.Common.{◌≡◌, ◌++◌, ◌∷◌, [], ℕ, List, sym, ap, ◌∙◌, append_assoc, arith}
use Rattle.std.proofs.lemmas.Result.{IfOk-equal}
use Rattle.vax_space.specs.declared.Area.{Area}
use Rattle.vax_image.specs.Start.{area, vectors, with_control_block}
use Rattle.vax_image.proofs.Spaces.{control_plain}
use Rattle.vax_image.proofs.starting.push_system.Goals as goal

pub returns-in_ok-push_area-in-len1-up : goal.returns-in_ok-push_area-in-len1-up
returns-in_ok-push_area-in-len1-up c =
    let old = c.args.areas.now.items in
    let from = c.args.from.now in
    let block : c.push_area-in-len1-up.new.areas.items ≡ old ++ area 0x400000 1 2 vectors ∷ [] = c.in_ok-push_area-in-len1-up.ensures ∙ ap (λ (b : List ℕ). old ++ area 0x400000 1 2 b ∷ []) c.as_flattened-in-len1-up.ensures.value in
    let plain : with_control_block from ≡ area 0x400000 1 2 vectors ∷ from = control_plain from c.first-item.result c.first-item.is (omega (arith, c.in-len1-up.len_at_least)) (sym c.if-has_page.ensures) in
    IfOk-equal c.push_copies-in-len1-up.result _ _ (old ++ with_control_block from) c.push_copies-in-len1-up.ensures
    (ap (λ (t : List Area). t ++ from) block ∙ append_assoc old (area 0x400000 1 2 vectors ∷ []) from ∙ ap (λ (t : List Area). old ++ t) (sym plain))
