-- What is watched, on the flat machine.
use Rattle.std.specs.Prelude.{ℕ, ◌==◌, not, nat_eq, Bool, List, map, length, Option}
use Rattle.std.specs.Cmp.Lexicographic.{pointwise}
use Rattle.std.specs.List.{filter}
use Rattle.std.specs.Option.{option_eq}
use Rattle.vax_flat.specs.Step.{Flat}
use Rattle.vax_machine.specs.Console.{memory_from}
use Rattle.vax_debug.specs.declared.watches.Seen.{Seen}
use Rattle.vax_debug.specs.declared.watches.Watch.{Watch}

-- all watches but those that begin at an address
abbrev pub unwatched : ℕ → List Watch → List Watch
unwatched address watches = filter (λ w. not (w.address == address)) watches

abbrev pub saw : ℕ → List (Option ℕ) → Seen
saw address cells = record { address = address; cells = cells }

-- the bytes of a watch, none where no area has one
abbrev pub watched : Flat → Watch → Seen
watched m w = saw w.address (memory_from m.memory w.address w.count)

-- those of all watches
abbrev pub seen_in : List Watch → Flat → List Seen
seen_in watches m = map (watched m) watches

abbrev pub are_other : List (Option ℕ) → List (Option ℕ) → Bool
are_other before after = not (pointwise (option_eq nat_eq) before after)

-- some byte isn't as it was seen; a byte that no area has never changes
abbrev pub is_changed : Flat → Seen → Bool
is_changed m seen = are_other seen.cells (memory_from m.memory seen.address (length seen.cells))
