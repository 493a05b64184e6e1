use Rattle.std.proofs.Common.{ap, sym, ◌∙◌}
use Rattle.std.proofs.lemmas.Bool.{false≢true}
use Rattle.vax_table.specs.Mapping.{is_inside}
use Rattle.vax_table.proofs.Changes.{none_outside}
use Rattle.vax_table.proofs.memory.Memory.place_inside.Goals as goal

pub unreachable-requires : goal.unreachable-requires
unreachable-requires c = false≢true (sym (ap is_inside (none_outside _ _ c.requires.sound (sym c.place_of.ensures.place ∙ c.in_default.is))) ∙ c.requires.inside)
