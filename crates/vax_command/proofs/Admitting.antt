-- Where a count of failed calls has changed: one call failed, the last that was made, and the answer tells it.
use Rattle.std.proofs.Common.{◌≡◌, ◌∙◌, inl, inr}
use Rattle.std.specs.Prelude.{◌⊎◌}
use Rattle.vax_outside.specs.Channels.{Channels}
use Rattle.vax_outside.specs.Faults.{Rose}
use Rattle.vax_outside.specs.declared.faults.Failures.{Failures}
use Rattle.vax_outside.proofs.Counting.{rose_then}
use Rattle.vax_command.specs.Around.{Seen}
use Rattle.vax_command.specs.Ends.{Admits, EndsFrom}
use Rattle.vax_command.specs.declared.status.Status.{Status}
use Rattle.vax_command.specs.declared.status.Status.TheVariants.{WriteFault}

-- no call failed
pub none_admits : (before after : Failures) (fault result : Status) → after.count ≡ before.count → Admits before after fault result
none_admits before after fault result same = λ n. absurd (n same)

-- none had failed before
pub admits_then : (before mid after : Failures) (fault result : Status) → mid.count ≡ before.count → Admits mid after fault result → Admits before after fault result
admits_then before mid after fault result same h = λ n.
    let k = h (λ e. n (e ∙ same)) in
    record { once = rose_then same k.once; answer = k.answer }

answer_from : (before after : Seen Channels) (meant result : Status) (grown : Channels) → EndsFrom before after meant grown result → (result ≡ meant) ⊎ (result ≡ WriteFault)
answer_from before after meant result grown (inl w) = inl w.answer
answer_from before after meant result grown (inr s) = inr s.answer

-- one call failed, and this is to be told
pub fault_admits : (before after : Failures) (seen now : Seen Channels) (fault result : Status) (grown : Channels) → Rose before after → EndsFrom seen now fault grown result → Admits before after fault result
fault_admits before after seen now fault result grown rose ends = λ n. record { once = rose; answer = answer_from seen now fault result grown ends }
