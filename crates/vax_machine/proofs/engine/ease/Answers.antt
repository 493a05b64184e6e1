use Rattle.std.proofs.Common.{◌≡◌, ◌==◌, refl, sym, ◌∙◌, false, length}
use Rattle.std.proofs.lemmas.Bool.{ne_eqb}
use Rattle.vax_pager.specs.Meaning.{pages}
use Rattle.vax_machine.specs.Conclusion.{eased_pages}
use Rattle.vax_machine.proofs.engine.ease.Goals as goal

pub returns-then-pins-eq-MOST_PINS : goal.returns-then-pins-eq-MOST_PINS
unfolding eased_pages
returns-then-pins-eq-MOST_PINS c =
    let n : length (pages c.args.pager.now).pinned ≡ 40 = sym c.pins.ensures ∙ c.if-pins-eq-MOST_PINS.true in
    rw n c.settle.ensures

pub returns-else-pins-eq-MOST_PINS : goal.returns-else-pins-eq-MOST_PINS
unfolding eased_pages
returns-else-pins-eq-MOST_PINS c =
    let n : (length (pages c.args.pager.now).pinned == 40) ≡ false = ne_eqb _ _ (λ e. c.if-pins-eq-MOST_PINS.false (c.pins.ensures ∙ e)) in
    rw n refl
