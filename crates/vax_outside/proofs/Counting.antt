-- Laws of what is told of calls that failed.
use Rattle.std.proofs.Common.{ℕ, ◌≡◌, ◌≤◌, ◌∙◌, Bool, true, false, ap, subst, sym, arith}
use Rattle.vax_outside.specs.Faults.{CountsFailure, Rose, raised}
use Rattle.vax_outside.specs.declared.faults.Failures.{Failures}

-- where nothing changed and nothing failed
pub counts_still : {failed : Bool} {before after : Failures} → failed ≡ false → after.count ≡ before.count → CountsFailure failed before after
counts_still {failed} {before} {after} fine same =
    subst (λ (b : Bool). CountsFailure b before after) (sym fine) (record { later = omega (arith, same); cause = tt; quiet = same })

-- where a call failed
pub counts_rise : {failed : Bool} {before after : Failures} → failed ≡ true → before.count ≤ after.count → Rose before after → CountsFailure failed before after
counts_rise {failed} {before} {after} bad later rose =
    subst (λ (b : Bool). CountsFailure b before after) (sym bad) (record { later = later; cause = rose; quiet = tt })

-- a call failed behind others that didn't
pub rose_then : {before mid after : Failures} → mid.count ≡ before.count → Rose mid after → Rose before after
rose_then {before} {mid} {after} still rose = record { count = rose.count ∙ ap (λ (n : ℕ). raised n) still; last = rose.last }

counts_from : (failed : Bool) (before mid after : Failures) → mid.count ≡ before.count → CountsFailure failed mid after → CountsFailure failed before after
counts_from true before mid after still counts =
    record { later = let l = counts.later in omega (arith, still, l); cause = rose_then still counts.cause; quiet = tt }
counts_from false before mid after still counts =
    record { later = let l = counts.later in omega (arith, still, l); cause = tt; quiet = counts.quiet ∙ still }

-- the same of another test with this answer, after calls that failed not
pub counts_then : {failed told : Bool} {before mid after : Failures} → told ≡ failed → mid.count ≡ before.count → CountsFailure failed mid after → CountsFailure told before after
counts_then {failed} {told} {before} {mid} {after} same still counts =
    subst (λ (b : Bool). CountsFailure b before after) (sym same) (counts_from failed before mid after still counts)

-- a call that failed raised its count
pub rose_on : {failed : Bool} {before after : Failures} → failed ≡ true → CountsFailure failed before after → Rose before after
rose_on {failed} {before} {after} bad counts = (subst (λ (b : Bool). CountsFailure b before after) bad counts).cause

-- a call that didn't fail left its count
pub still_on : {failed : Bool} {before after : Failures} → failed ≡ false → CountsFailure failed before after → after.count ≡ before.count
still_on {failed} {before} {after} fine counts = (subst (λ (b : Bool). CountsFailure b before after) fine counts).quiet
