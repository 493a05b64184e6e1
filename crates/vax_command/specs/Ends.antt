-- How a call that writes comes to its answer.
use Rattle.std.specs.Prelude.{◌≡◌, ◌≢◌, ◌⊎◌}
use Rattle.vax_outside.specs.Faults.{Rose}
use Rattle.vax_outside.specs.Channels.{Channels, Grew, GrewByPrefix}
use Rattle.vax_outside.specs.declared.faults.Failures.{Failures}
use Rattle.vax_command.specs.Around.{Change, Seen}
use Rattle.vax_command.specs.declared.status.Status.{Status}
use Rattle.vax_command.specs.declared.status.Status.TheVariants.{WriteFault}

-- all was written, no write failed, and the answer is the one that was meant
pub record IsWhole (before after : Seen Channels) (meant : Status) (grown : Channels) (result : Status) : Type 0 where
  pub answer : result ≡ meant
  pub grew : Grew before.told after.told grown
  pub quiet : after.faults.count ≡ before.faults.count

-- a write failed, after a prefix of what was to be written
pub record IsCutShort (before after : Seen Channels) (grown : Channels) (result : Status) : Type 0 where
  pub answer : result ≡ WriteFault
  pub prefix : GrewByPrefix before.told after.told grown
  pub cause : Rose before.faults after.faults

-- the sink before and after, the answer and the growth that are meant, and the answer
abbrev pub EndsFrom : Seen Channels → Seen Channels → Status → Channels → Status → Type 0
EndsFrom before after meant grown result = IsWhole before after meant grown result ⊎ IsCutShort before after grown result

abbrev pub Ends : Change Channels → Status → Channels → Status → Type 0
Ends sink meant grown result = EndsFrom sink.before sink.after meant grown result

-- An answer and a growth of the channels are meant so, and the call has given and written these, but for a write that failed.
pub record EndsSo (sink : Change Channels) (So : Status → Channels → Type 0) (result : Status) : Type 0 where
  pub meant : Status
  pub grown : Channels
  pub so : So meant grown
  pub ends : Ends sink meant grown result

-- A failed call isn't hidden, nor made again: where the count of faults has changed, one call failed, the last that was made, and the answer is this
-- fault or that of a write.
pub record IsAdmitted (before after : Failures) (fault result : Status) : Type 0 where
  pub once : Rose before after
  pub answer : (result ≡ fault) ⊎ (result ≡ WriteFault)

abbrev pub Admits : (before after : Failures) → (fault result : Status) → Type 0
Admits before after fault result = after.count ≢ before.count → IsAdmitted before after fault result
