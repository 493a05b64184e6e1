-- What an object tells of its calls that failed.
use Rattle.std.specs.Prelude.{ℕ, Bool, true, false, ◌≡◌, ◌+◌, ◌-◌, ◌^◌, ◌≤◌, min}
use Rattle.std.specs.Bool.{OnTrue, OnFalse}
use Rattle.vax_outside.specs.declared.faults.Failures.{Failures}

-- one more, or the last value of 64 bits
abbrev pub raised : ℕ → ℕ
raised count = min (count + 1) (2 ^ 64 - 1)

-- before the first call
abbrev pub no_failures : Failures
no_failures = record { count = 0; last = false }

-- one call more failed, and no call was made behind it
pub record Rose (before now : Failures) : Type 0 where
  pub count : now.count ≡ raised before.count
  pub last : now.last ≡ true

-- What calls do to this: the count never falls. Where one of them failed it was one, and the last of them; where none did the count stays.
pub record CountsFailure (failed : Bool) (before after : Failures) : Type 0 where
  pub later : before.count ≤ after.count
  pub cause : OnTrue failed (Rose before after)
  pub quiet : OnFalse failed (after.count ≡ before.count)
