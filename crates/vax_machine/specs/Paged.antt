-- The run of the flat machine in turns, where pages are absent at first and are served when they are missed.
use Rattle.std.specs.Prelude.{ℕ, zero, suc, ◌+◌, ◌*◌, ◌==◌, Bool, true, false, nat_le, if◌then◌else◌, Option, Some, None, List, [], ◌∷◌, ◌++◌}
use Rattle.std.specs.List.{flat_map}
use Rattle.vax_space.specs.declared.Area.{Area}
use Rattle.vax_space.specs.Areas.{pages_of}
use Rattle.vax_flat.specs.declared.Ending.{Ending}
use Rattle.vax_flat.specs.Memory.{byte_at, bytes_from}
use Rattle.vax_flat.specs.Outcome.{first_missing, marked_by}
use Rattle.vax_flat.specs.Parts.{Place, At, Within, Turn, Completes, Leaves, machine_at, touches_at, turn}
use Rattle.vax_flat.specs.Step.{Flat}
use Rattle.vax_pager.specs.Listing.{is_listed}
use Rattle.vax_pager.specs.Steps.{at}
use Rattle.vax_sched.specs.declared.rule.Target.{Target}
use Rattle.vax_sched.specs.declared.rule.Target.TheVariants.{Page, All}
use Rattle.vax_machine.specs.Residence.{Residence, is_resident, unpinned, taken_out, victim, served}

-- a page that was made absent, with the number of the attempt before which it was, and the bytes that were written to its block, if they were
pub record Eviction : Type 0 where
  pub turn : ℕ
  pub page : ℕ
  pub wrote : Option (List ℕ)

-- where the flat machine is, the steps and the parts that were completed, the attempts that were made, which pages are resident and which of these
-- attempts have written to, the evictions, which pages have a block, and how many blocks were read
pub record Paged : Type 0 where
  pub place : Place
  pub steps : ℕ
  pub parts : ℕ
  pub turns : ℕ
  pub residence : Residence
  pub modified : ℕ → Bool
  pub evictions : List Eviction
  pub blocked : ℕ → Bool
  pub reads : ℕ

-- the pages that a target names: one, or all that an area has, in ascending order
abbrev pub named : List Area → Target → List ℕ
named areas (Page page) = page ∷ []
named areas All = flat_map pages_of areas

-- the pages of several targets, in order
abbrev pub all_named : List Area → List Target → List ℕ
all_named areas targets = flat_map (named areas) targets

-- the bytes of a page of memory
abbrev pub page_bytes : List Area → ℕ → List ℕ
page_bytes memory page = bytes_from (byte_at memory) (512 * page) 512

abbrev pub some_if : Bool → List ℕ → Option (List ℕ)
some_if true bytes = Some bytes
some_if false bytes = None

-- a page is made absent before the attempt of this number; its bytes are written to its block exactly where an attempt has written to it
abbrev pub eviction_of : ℕ → ℕ → Paged → Eviction
eviction_of turn page p = record { turn = turn; page = page; wrote = some_if (p.modified page) (page_bytes (machine_at p.place).memory page) }

-- and isn't modified any more
abbrev pub cleaned : ℕ → (ℕ → Bool) → ℕ → Bool
cleaned page modified other = if other == page then false else modified other

-- and has a block, if it was
abbrev pub blocked_if : Bool → ℕ → (ℕ → Bool) → ℕ → Bool
blocked_if true page blocked = at page true blocked
blocked_if false page blocked = blocked

-- a page is made absent, if it is resident
unfoldable pub evicted : ℕ → Paged → Paged
evicted page p =
    if is_listed page p.residence.order
    then record p {
      residence = taken_out page p.residence;
      modified = cleaned page p.modified;
      evictions = p.evictions ++ eviction_of (p.turns + 1) page p ∷ [];
      blocked = blocked_if (p.modified page) page p.blocked;
    }
    else p

unfoldable pub all_evicted : List ℕ → Paged → Paged
all_evicted [] p = p
all_evicted (page ∷ pages) p = all_evicted pages (evicted page p)

-- the page that made room, if one did
abbrev pub evictions_of : ℕ → Option ℕ → Paged → List Eviction
evictions_of turn None p = []
evictions_of turn (Some page) p = eviction_of turn page p ∷ []

abbrev pub cleaned_of : Option ℕ → (ℕ → Bool) → ℕ → Bool
cleaned_of None modified = modified
cleaned_of (Some page) modified = cleaned page modified

abbrev pub blocked_of : Option ℕ → (ℕ → Bool) → (ℕ → Bool) → ℕ → Bool
blocked_of None modified blocked = blocked
blocked_of (Some page) modified blocked = blocked_if (modified page) page blocked

-- a page that comes in is read, where it has a block and its own frame wasn't kept
abbrev pub is_read : ℕ → Paged → Bool
is_read page p = if is_listed page p.residence.kept then false else p.blocked page

abbrev pub one_if : Bool → ℕ
one_if true = 1
one_if false = 0

-- the pages are modified to which the attempt that comes writes, up to the first page that it misses
abbrev pub marked : Paged → Paged
marked p = record p { modified = marked_by (is_resident p.residence) p.modified (touches_at p.place) }

abbrev pub place_after : Turn → Place
place_after (Completes m) = At m
place_after (Leaves p) = Within p

abbrev pub steps_after : Turn → ℕ → ℕ
steps_after (Completes m) steps = steps + 1
steps_after (Leaves p) steps = steps

-- an attempt: a part is completed and all pins are dropped, or the first page that is missed is served
abbrev pub attempted_by : Option ℕ → Paged → Paged
attempted_by None p = record p {
  place = place_after (turn p.place);
  steps = steps_after (turn p.place) p.steps;
  parts = p.parts + 1;
  turns = p.turns + 1;
  residence = unpinned p.residence;
}
attempted_by (Some page) p = record p {
  turns = p.turns + 1;
  residence = served page p.residence;
  modified = cleaned_of (victim p.residence) p.modified;
  evictions = p.evictions ++ evictions_of (p.turns + 2) (victim p.residence) p;
  blocked = blocked_of (victim p.residence) p.modified p.blocked;
  reads = p.reads + one_if (is_read page p);
}

-- a machine that ended makes no attempt
abbrev pub unless_ended : Option Ending → Paged → Paged → Paged
unless_ended (Some e) p next = p
unless_ended None p next = next

unfoldable pub attempted : Paged → Paged
attempted p = unless_ended (machine_at p.place).ending p (attempted_by (first_missing (is_resident p.residence) (touches_at p.place)) (marked p))

-- one turn: what is due is made absent, and an attempt is made
abbrev pub next_turn : List Area → (ℕ → List Target) → Paged → Paged
next_turn areas due p = attempted (all_evicted (all_named areas (due (p.turns + 1))) p)

-- so many turns
unfoldable pub paged : List Area → (ℕ → List Target) → ℕ → Paged → Paged
paged areas due zero p = p
paged areas due (suc count) p = next_turn areas due (paged areas due count p)

-- why a run stops before a turn
pub data Why : Type 0 where
  ByEnding : Ending → Why
  BySteps : Why
  ByTurns : Why

abbrev pub stop_by : Option Ending → Bool → Bool → Option Why
stop_by (Some e) steps turns = Some (ByEnding e)
stop_by None true turns = Some BySteps
stop_by None false true = Some ByTurns
stop_by None false false = None

-- it does where the run has ended, else at the limit of steps, else at that of turns
unfoldable pub stops : ℕ → ℕ → Paged → Option Why
stops steps turns p = stop_by (machine_at p.place).ending (nat_le steps p.steps) (nat_le turns p.turns)

-- turns that begin at a place, with so many steps counted before; nothing is resident
abbrev pub begun_at : ℕ → ℕ → Place → Paged
begun_at frames steps place = record {
  place = place;
  steps = steps;
  parts = 0;
  turns = 0;
  residence = record { frames = frames; order = []; pinned = []; kept = []; spoiled = 0 };
  modified = λ page. false;
  evictions = [];
  blocked = λ page. false;
  reads = 0;
}

-- from the start
abbrev pub fresh : ℕ → Flat → Paged
fresh frames m = begun_at frames 0 (At m)
