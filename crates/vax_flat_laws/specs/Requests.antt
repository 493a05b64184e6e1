-- Requests of interrupts, and the interval clock (VAX Architecture Reference Manual, interrupts; processor registers).
use Rattle.std.specs.Prelude.{◌≡◌, ◌≢◌, ℕ, ◌+◌, ◌%◌, ◌^◌, ◌<◌, ◌≤◌}
use Rattle.std.specs.Int.{bit_at}
use Rattle.vax_word.specs.declared.Core.{Core}

-- the highest of the levels 1 to 15 that is requested, or 0
pub record IsHighest (requests level : ℕ) : Type 0 where
  pub few : level ≤ 15
  pub requested : 0 < level → bit_at requests level ≡ 1
  pub others : (k : ℕ) → level < k → k ≤ 15 → bit_at requests k ≡ 0

-- the request of this level is taken back, and no other, nor is the clock's
pub record IsTakenBack (level : ℕ) (before after : Core) : Type 0 where
  pub own : bit_at after.sisr level ≡ 0
  pub others : (k : ℕ) → k < 16 → k ≢ level → bit_at after.sisr k ≡ bit_at before.sisr k
  pub timer : after.iccs ≡ before.iccs
  pub clock : after.clock ≡ before.clock

-- the clock's request is taken back, and nothing else: it goes on as it was
pub record IsClockTakenBack (before after : Core) : Type 0 where
  pub own : bit_at after.iccs 7 ≡ 0
  pub others : after.iccs % 2 ^ 7 ≡ before.iccs % 2 ^ 7
  pub clock : after.clock ≡ before.clock
  pub requests : after.sisr ≡ before.sisr

-- this level is requested too, but not level 0
pub record IsRequested (level : ℕ) (before after : Core) : Type 0 where
  pub none : level ≡ 0 → after.sisr ≡ before.sisr
  pub own : 0 < level → bit_at after.sisr level ≡ 1
  pub others : (k : ℕ) → k ≢ level → bit_at after.sisr k ≡ bit_at before.sisr k

-- the clock counted one step: it does so where bit 6 is 1, and at the thousandth it begins anew with its request set
pub record IsCounted (iccs clock : ℕ) (after : Core) : Type 0 where
  pub off : bit_at iccs 6 ≡ 0 → (after.iccs ≡ iccs) × (after.clock ≡ clock)
  pub on : bit_at iccs 6 ≡ 1 → clock < 999 → (after.iccs ≡ iccs) × (after.clock ≡ clock + 1)
  pub out : bit_at iccs 6 ≡ 1 → 999 ≤ clock → (bit_at after.iccs 7 ≡ 1) × (after.iccs % 2 ^ 7 ≡ iccs % 2 ^ 7) × (after.clock ≡ 0)
