-- When the bytes that a run holds back are written: behind each line feed, and no later than 1,000,000 steps after they were sent.
use Rattle.std.specs.Prelude.{ℕ, ◌≡◌, ◌≤◌, ◌<◌, ◌+◌, ◌==◌, ◌⊎◌, Bool, false, Option, Some, None, List, [], ◌++◌, length}
use Rattle.std.specs.List.{list_any}
use Rattle.vax_outside.specs.Channels.{Channels, Grew}
use Rattle.vax_machine.specs.declared.held.Held.{Held}

-- the most steps for which a byte is held back
abbrev pub most_steps : ℕ
most_steps = 1000000

-- a byte was sent that ends a line
abbrev pub ends_line : Option ℕ → Bool
ends_line None = false
ends_line (Some byte) = byte == 10

-- no line ends among these bytes
abbrev pub IsOpenLine : List ℕ → Type 0
IsOpenLine bytes = list_any (λ byte. byte == 10) bytes ≡ false

-- behind so many steps the bytes that are held are of a line that goes on, none of them is due, and they are within the steps for which a byte is held
pub record Waits (steps : ℕ) (h : Held) : Type 0 where
  pub line : IsOpenLine h.bytes.items
  pub early : (h.bytes.items ≡ []) ⊎ (steps < h.due)
  pub soon : h.due ≤ steps + most_steps

-- the bytes that were held were written, and others are due within so many steps
pub record AreWritten (steps : ℕ) (after : Held) : Type 0 where
  pub none : after.bytes.items ≡ []
  pub soon : after.due ≤ steps + most_steps

-- they stay, since they aren't due
pub record AreKept (at_once : Bool) (steps : ℕ) (before after : Held) : Type 0 where
  pub same : after ≡ before
  pub later : at_once ≡ false
  pub early : steps < before.due

-- what is due is written, or all at once
abbrev pub WritesDue : Bool → ℕ → Held → Held → Type 0
WritesDue at_once steps before after = AreWritten steps after ⊎ AreKept at_once steps before after

-- From one count of steps to another: the bytes that were held and those that were sent since went to Out in order, but for the last, which are held. Those
-- before are due where they were, or all of them were written; and they wait as they ought to, if they did.
pub record Delivers (since steps : ℕ) (before after : Held) (old new : Option Channels) : Type 0 where
  pub written : Channels
  pub more : List ℕ
  pub is : written.out ++ after.bytes.items ≡ before.bytes.items ++ more
  pub grew : Grew old new written
  pub due : (after.due ≡ before.due) ⊎ (length before.bytes.items ≤ length written.out)
  pub waits : Waits since before → Waits steps after
