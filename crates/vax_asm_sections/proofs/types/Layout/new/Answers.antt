use Rattle.std.proofs.Common.{List, ℕ, [], ◌∷◌, ap, ◌∙◌}
use Rattle.vax_asm_names.specs.ByName.{by_name}
use Rattle.vax_asm_names.proofs.Maps.{nothing_named}
use Rattle.vax_asm_sections.proofs.Numbering.{first_known, names}
use Rattle.vax_asm_sections.proofs.types.Layout.new.Goals as goal

pub invariant_of-result-clause-known : goal.invariant_of-result-clause-known
invariant_of-result-clause-known g c =
    first_known (by_name c.new-numbers.result) (by_name c.add_number.new.numbers) c.in_ok-vec.field-0.items (nothing_named c.new-numbers.result c.new-numbers.ensures.empty)
    (ap names c.in_ok-vec.ensures.items ∙ ap (λ (n : List ℕ). n ∷ []) c.new.ensures.items) c.in_ok-add_number.ensures.added
