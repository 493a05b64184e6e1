use Rattle.std.proofs.Common.{◌≡◌, ◌<◌, ℕ, None}
use Rattle.vax_asm_check.specs.View.{IsKept, left_of}
use Rattle.vax_asm_faults.specs.Survey.{survey, survey_of, with_faults}
use Rattle.vax_macro.specs.Expanders.{error_of, rest_of}
use Rattle.vax_macro.specs.Rest.{work}
use Rattle.vax_asm_check.proofs.walk.faults.Given as goal

abbrev pub invariant-statements : goal.invariant-statements
invariant-statements l = record {
  goes : (left : ℕ) × (work (rest_of l.expander) < left) × (with_faults l.survey.faults.items (survey left (rest_of l.expander) (left_of l.survey.left) l.survey.ended) ≡ survey_of l.fn.dialect l.source);
  kept : IsKept l.survey;
  quiet : error_of l.expander ≡ None;
}

abbrev pub decreases-statements : goal.decreases-statements
decreases-statements l = work (rest_of l.expander)
