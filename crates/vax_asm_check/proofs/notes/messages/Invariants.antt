use Rattle.std.proofs.Common.{◌≡◌, ◌<◌, ◌≤◌, ◌++◌, ℕ, None, length, map, take}
use Rattle.vax_asm_check.specs.Faultless.{faultless}
use Rattle.vax_asm_check.specs.Messages.{messages, messages_in}
use Rattle.vax_asm_check.specs.View.{IsKept, left_of, message_seen}
use Rattle.vax_macro.specs.Expanders.{error_of, rest_of}
use Rattle.vax_macro.specs.Rest.{work}
use Rattle.vax_asm_check.proofs.notes.messages.Given as goal

abbrev pub invariant-statements : goal.invariant-statements
invariant-statements l = record {
  goes : (left : ℕ) × (work (rest_of l.expander) < left) × (take 100 (map message_seen l.all.items ++ messages_in l.fn.dialect (faultless left (rest_of l.expander) (left_of l.survey.left) l.survey.ended)) ≡ messages l.fn.dialect l.source);
  few : length l.all.items ≤ 100;
  kept : IsKept l.survey;
  quiet : error_of l.expander ≡ None;
}

abbrev pub decreases-statements : goal.decreases-statements
decreases-statements l = work (rest_of l.expander)
