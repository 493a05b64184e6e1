use Rattle.std.proofs.Common.{◌≡◌, vec_len}
use Rattle.vax_asm_names.specs.Content.{names_in}
use Rattle.vax_asm_names.specs.Journal.{undone}
use Rattle.vax_asm_names.proofs.types.Content.undo_all.Given as goal

abbrev pub invariant-loop-step : goal.invariant-loop-step
invariant-loop-step l = undone l.steps.items (names_in l.self) ≡ undone l.fn.steps.items (names_in l.fn.self)

abbrev pub decreases-loop-step : goal.decreases-loop-step
decreases-loop-step l = vec_len l.steps
