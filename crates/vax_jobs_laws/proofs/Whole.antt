-- Each of several processes is its own flat machine's run.
use Rattle.std.proofs.Common.{◌≡◌, ◌<◌, ℕ, zero, suc, Bool, true, false, List, [], ◌∷◌, Option, Some, None, refl, subst, arith, inl, inr}
use Rattle.std.specs.Prelude.{◌&&◌, is_none, nat_le, nat_lt, slice_get}
use Rattle.std.specs.List.{list_any}
use Rattle.std.proofs.lemmas.Bool.{cases_Bool}
use Rattle.std.proofs.lemmas.Bool.Decides.{nat_tests}
use Rattle.std.proofs.lemmas.Option.{none-some, same_Some}
use Rattle.vax_flat.specs.declared.Ending.{Ending}
use Rattle.vax_flat.specs.Parts.{machine_at, turn}
use Rattle.vax_flat.specs.Step.{Flat}
use Rattle.vax_machine.specs.Paged.{ByEnding, BySteps, Paged, begun_at, stops as run_stops}
use Rattle.vax_machine.specs.declared.event.Limits.{Limits}
use Rattle.vax_machine_laws.proofs.Reaching.{Comes, comes_further, starts as comes_at_start, stops_there}
use Rattle.vax_machine_laws.specs.FlatRun.{IsWholeRun}
use Rattle.vax_jobs.proofs.Alone.{AllHave, have_all, starting_at}
use Rattle.vax_jobs.specs.Alone.{after_turns}
use Rattle.vax_jobs.specs.Shared.{AllDone, ByTurns, Process, Setting, Shared, begun, completed, goes_on, stops}
use Rattle.vax_jobs_laws.specs.Whole.{AreWhole, EndWhole, ReachTheirRuns, stage_in}

abbrev pub Came : ℕ → Flat → Process → Type 0
Came limit start p = Comes limit start (stage_in p)

pub came_further : (limit : ℕ) (start : Flat) (p : Process) → (machine_at p.place).ending ≡ None → p.steps < limit → Came limit start p → Came limit start (completed p)
came_further limit start p going left c = comes_further (turn p.place) limit start (stage_in p) refl going left c

pub all_came : (x : Setting) (starts : List Flat) (count : ℕ) → AllHave (Came x.steps) x.steps (came_further x.steps) (λ start p page c. c) starts (after_turns x starts count).processes
all_came x starts count =
    have_all (Came x.steps) x.steps (came_further x.steps) (λ start p page c. c) starts x (begun x.order starts) count refl
    (record { each = λ job start p a b. starting_at (Came x.steps) starts job start p (λ m. comes_at_start x.steps 64 m) a b })

pub reach_all : (x : Setting) (starts : List Flat) (count : ℕ) → ReachTheirRuns starts (after_turns x starts count).processes
reach_all x starts count = record { each = λ job start p a b. ((all_came x starts count).each job start p a b).reaches }

-- one that doesn't go on

abbrev pub run_limits : ℕ → Limits
run_limits limit = record { steps = limit; turns = 0; listed = false }

abbrev pub run_at : Process → Paged
run_at p = begun_at 64 p.steps p.place

pub stops_ended : (limit : ℕ) (p : Process) (e : Ending) → (machine_at p.place).ending ≡ Some e → run_stops limit 0 (run_at p) ≡ Some (ByEnding e)
unfolding run_stops
stops_ended limit p e is = rw is refl

pub stops_full : (limit : ℕ) (p : Process) → (machine_at p.place).ending ≡ None → nat_le limit p.steps ≡ true → run_stops limit 0 (run_at p) ≡ Some BySteps
unfolding run_stops
stops_full limit p is full = rw (is, full) refl

pub is_full : (a b : ℕ) → nat_lt a b ≡ false → nat_le b a ≡ true
is_full a b h = grind (arith, nat_tests)

ended_by : (limit : ℕ) (start : Flat) (p : Process) (how : Option Ending) → (machine_at p.place).ending ≡ how → Came limit start p → (is_none how && nat_lt p.steps limit) ≡ false → IsWholeRun limit start (stage_in p)
ended_by limit start p (Some e) is c h = (stops_there (ByEnding e) (run_limits limit) start (run_at p) (stops_ended limit p e is) c).0
ended_by limit start p None is c h = (stops_there BySteps (run_limits limit) start (run_at p) (stops_full limit p is (is_full p.steps limit h)) c).0

whole_by : (limit : ℕ) (start : Flat) (p : Process) → Came limit start p → goes_on limit p ≡ false → IsWholeRun limit start (stage_in p)
whole_by limit start p c h = ended_by limit start p (machine_at p.place).ending refl c h

pub end_whole : (x : Setting) (starts : List Flat) (count : ℕ) → EndWhole x.steps starts (after_turns x starts count).processes
end_whole x starts count = record { each = λ job start p a b h. whole_by x.steps start p ((all_came x starts count).each job start p a b) h }

-- where none goes on

pub none_of : (f : Process → Bool) (ps : List Process) (n : ℕ) (p : Process) → list_any f ps ≡ false → slice_get ps n ≡ Some p → f p ≡ false
none_of f [] n p h e = absurd (none-some p e)
none_of f (q ∷ ps) zero p h e = elim (cases_Bool (f q)) [
  | inl t ↦ let no : true ≡ false = rw t at h in cc
  | inr n ↦ subst (λ (z : Process). f z ≡ false) (same_Some q p e) n
]
none_of f (q ∷ ps) (suc k) p h e = elim (cases_Bool (f q)) [
  | inl t ↦ let no : true ≡ false = rw t at h in cc
  | inr n ↦ none_of f ps k p (rw n at h) e
]

pub none_goes : (x : Setting) (s : Shared) → stops x s ≡ Some AllDone → list_any (goes_on x.steps) s.processes ≡ false
unfolding stops
none_goes x s h = elim (cases_Bool (list_any (goes_on x.steps) s.processes)) [
  | inl t ↦ elim (cases_Bool (nat_lt s.turns x.turns)) [
    | inl l ↦ let no : None ≡ Some AllDone = rw (t, l) at h in absurd (none-some AllDone no)
    | inr m ↦ let no : Some ByTurns ≡ Some AllDone = rw (t, m) at h in cc
  ]
  | inr n ↦ n
]

pub done_whole : (x : Setting) (starts : List Flat) (count : ℕ) → stops x (after_turns x starts count) ≡ Some AllDone → AreWhole x.steps starts (after_turns x starts count).processes
done_whole x starts count h = record {
  each = λ job start p a b.
      (end_whole x starts count).each job start p a b
      (none_of (goes_on x.steps) (after_turns x starts count).processes job p (none_goes x (after_turns x starts count) h) b);
}
