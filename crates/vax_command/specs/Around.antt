-- What a call sees of the outside: the files, the output channels and the page file, before it and after it.
use Rattle.std.specs.Prelude.{◌≡◌, ℕ, List, [], Option, None}
use Rattle.vax_outside.specs.Blocks.{BlockFile}
use Rattle.vax_outside.specs.Channels.{Channels}
use Rattle.vax_outside.specs.Directory.{Directory}
use Rattle.vax_outside.specs.Faults.{Rose, no_failures}
use Rattle.vax_outside.specs.declared.faults.Failures.{Failures}
use Rattle.vax_prelude.specs.Preludes.{Prelude}

-- what is seen of an object: which of its calls have failed, and what it holds, where it tells that
pub record Seen (T : Type 0) : Type 0 where
  pub faults : Failures
  pub told : Option T

-- an object before a call and after it, and whether it is the same
pub record Change (T : Type 0) : Type 1 where
  pub before : Seen T
  pub after : Seen T
  pub same : Type 0

abbrev pub seen_of : {S T : Type 0} → (faults : S → Failures) → (contents : S → Option T) → S → Seen T
seen_of faults contents object = record { faults = faults object; told = contents object }

abbrev pub change : {S T : Type 0} → (faults : S → Failures) → (contents : S → Option T) → (old new : S) → Change T
change faults contents old new =
    record { before = seen_of faults contents old; after = seen_of faults contents new; same = new ≡ old }

-- one call of the object failed, and none was made behind it
abbrev pub HasFailed : {T : Type 0} → Change T → Type 0
HasFailed object = Rose object.before.faults object.after.faults

-- what a run sees: the channels that it writes to, and the page file
pub record Outside : Type 1 where
  pub sink : Change Channels
  pub pages : Change BlockFile

abbrev pub outside : Change Channels → Change BlockFile → Outside
outside sink pages = record { sink = sink; pages = pages }

-- lines that a command doesn't take, whatever they are
abbrev pub untaken : Change (List (List ℕ))
untaken = record { before = record { faults = no_failures; told = None }; after = record { faults = no_failures; told = None }; same = Unit {0} }

-- what a command sees: the files that it reads too, the lines that it takes, and what stands before each of its sources
pub record Around : Type 1 where
  pub files : Change Directory
  pub sink : Change Channels
  pub pages : Change BlockFile
  pub lines : Change (List (List ℕ))
  pub preludes : List Prelude

-- one that takes no lines, and whose sources have nothing before them
abbrev pub around : Change Directory → Change Channels → Change BlockFile → Around
around files sink pages = record { files = files; sink = sink; pages = pages; lines = untaken; preludes = [] }

-- and these lines beside it
abbrev pub beside : Change (List (List ℕ)) → Around → Around
beside lines seen = record seen { lines = lines }

-- and with these preludes
abbrev pub with_preludes : List Prelude → Around → Around
with_preludes preludes seen = record seen { preludes = preludes }

-- what its run sees
abbrev pub outside_of : Around → Outside
outside_of seen = outside seen.sink seen.pages

-- a page file that a command leaves alone, whatever it is
abbrev pub untouched : Change BlockFile
untouched = record { before = record { faults = no_failures; told = None }; after = record { faults = no_failures; told = None }; same = Unit {0} }
