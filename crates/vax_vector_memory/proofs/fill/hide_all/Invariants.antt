use Rattle.std.proofs.Common.{◌≡◌, ℕ, true, drop}
use Rattle.vax_undo.specs.Plain.{view_of}
use Rattle.vax_vector_memory.specs.Pages.{has_number}
use Rattle.vax_vector_memory.proofs.fill.hide_all.Given as goal

-- only pages that are still to come are resident, and all else is as it was
abbrev pub invariant-loop-page : goal.invariant-loop-page
invariant-loop-page l = record {
  left : (page : ℕ) → (view_of l.memory).resident page ≡ true → has_number (drop l.page-index l.pages) page ≡ true;
  same : view_of l.memory ≡ record (view_of l.fn.memory) { resident = (view_of l.memory).resident };
}
