-- What a plan of a traced run has.
use Rattle.std.specs.Prelude.{ℕ, ◌≤◌, ◌<◌, ◌≡◌, ◌⊎◌, ◌&&◌, Bool, nat_le, map, length, Option, List, [], ◌∷◌}
use Rattle.std.specs.List.{flat_map}
use Rattle.vax_space.specs.declared.Area.{Area}
use Rattle.vax_outside.specs.Blocks.{BlockFile}
use Rattle.vax_pager.specs.Meaning.{pages}
use Rattle.vax_pager.specs.Poking.{OnlyRead}
use Rattle.vax_machine.specs.Console.{ShowsMemory}
use Rattle.vax_machine.specs.Machine.{KeepsPlace, keeping}
use Rattle.vax_machine.specs.declared.engine.Engine.{Engine}
use Rattle.vax_watch.specs.Listing.{watch_line, watched}
use Rattle.vax_watch.specs.declared.watch.Plan.{Plan}
use Rattle.vax_watch.specs.declared.watch.Seen.{Seen}
use Rattle.vax_watch.specs.declared.watch.Watch.{Watch}

-- 1 to 4,096 bytes
abbrev pub is_sized : Watch → Bool
is_sized w = nat_le 1 w.count && nat_le w.count 4096

-- at most 16 of each
pub record AreFew (breaks : List ℕ) (watches : List Watch) : Type 0 where
  pub few_breaks : length breaks ≤ 16
  pub few_watches : length watches ≤ 16

-- more than 16 of one
abbrev pub AreMany : List ℕ → List Watch → Type 0
AreMany breaks watches = (16 < length breaks) ⊎ (16 < length watches)

abbrev pub breaks_of : Plan → List ℕ
breaks_of plan = plan.breaks.items

-- what is asked of a traced run beside its watches: the addresses before which it stops, and whether the text of each instruction is listed
pub record Asked : Type 0 where
  pub breaks : List ℕ
  pub texts : Bool

abbrev pub asked_of : Plan → Asked
asked_of plan = record { breaks = breaks_of plan; texts = plan.texts }

abbrev pub watches_in : List Seen → List Watch
watches_in seen = map (λ s. s.watch) seen

abbrev pub watches_of : Plan → List Watch
watches_of plan = watches_in plan.seen.items

-- the watched bytes as they were seen last
abbrev pub latest_in : List Seen → List (List (Option ℕ))
latest_in seen = map (λ s. s.latest.items) seen

-- the lines of the watches whose bytes differ from those that were seen the time before
abbrev pub changes_in : List Seen → List ℕ
changes_in seen = flat_map (λ s. watch_line s.watch s.earlier.items s.latest.items) seen

-- the watched bytes of a memory
abbrev pub all_watched : List Watch → List Area → List (List (Option ℕ))
all_watched watches memory = map (watched memory) watches

-- memory was looked at alone, and blocks were read at most
pub record IsLookedAt (old : Engine) (before : Option BlockFile) (new : Engine) (after : Option BlockFile) : Type 0 where
  pub cpu : new.cpu ≡ old.cpu
  pub keeps : keeping new ≡ keeping old
  pub same : pages new.pager ≡ pages old.pager
  pub means : KeepsPlace old before new after
  pub reads : OnlyRead before after

-- the bytes of a watch are seen again
pub record LooksAgain (m : Engine) (file : Option BlockFile) (old new : Seen) : Type 0 where
  pub watch : new.watch ≡ old.watch
  pub earlier : new.earlier.items ≡ old.latest.items
  pub latest : ShowsMemory m file old.watch.address old.watch.count new.latest.items

-- and so are those of each
unfoldable pub AreLookedAt : Engine → Option BlockFile → List Seen → List Seen → Type 0
AreLookedAt m file [] [] = Unit {0}
AreLookedAt m file [] (y ∷ ys) = ⊥
AreLookedAt m file (x ∷ xs) [] = ⊥
AreLookedAt m file (x ∷ xs) (y ∷ ys) = LooksAgain m file x y × AreLookedAt m file xs ys
