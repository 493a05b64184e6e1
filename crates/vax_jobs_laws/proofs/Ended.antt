-- Processes end as their own runs do, and such an end is the only one.
use Rattle.std.proofs.Common.{◌≡◌, ◌≢◌, ◌<◌, ℕ, true, false, List, Option, Some, None, refl, sym, ap, ◌∙◌, subst, arith, inl, inr}
use Rattle.std.specs.Prelude.{◌&&◌, is_none, nat_lt}
use Rattle.std.proofs.lemmas.Bool.{cases_Bool}
use Rattle.std.proofs.lemmas.Bool.Decides.{nat_tests}
use Rattle.vax_flat.specs.declared.Ending.{Ending}
use Rattle.vax_flat.specs.Parts.{At, GoesBy, Place, machine_at}
use Rattle.vax_flat.specs.Step.{Flat, run}
use Rattle.vax_machine.specs.Paged.{Why, ByEnding, BySteps, ByTurns}
use Rattle.vax_machine_laws.proofs.Reaching.{stops_there}
use Rattle.vax_machine_laws.specs.FlatRun.{Reaches, Stage, StopsSo}
use Rattle.vax_jobs.specs.Alone.{after_turns}
use Rattle.vax_jobs.specs.Shared.{AllDone, Process, Setting, goes_on, stops}
use Rattle.vax_jobs_laws.proofs.Whole.{Came, all_came, is_full, none_goes, none_of, run_at, run_limits, stops_ended, stops_full}
use Rattle.vax_jobs_laws.specs.Ended.{End, HaveEnded, IsEnd, why_by}
use Rattle.vax_jobs_laws.specs.Whole.{stage_in}

-- one that doesn't go on

ended_as : (limit : ℕ) (start : Flat) (p : Process) (how : Option Ending) → (machine_at p.place).ending ≡ how → Came limit start p → (is_none how && nat_lt p.steps limit) ≡ false → IsEnd limit start (record { at = stage_in p; why = why_by how })
ended_as limit start p (Some e) is c h = record {
  reaches = c.reaches;
  stops = stops_there (ByEnding e) (run_limits limit) start (run_at p) (stops_ended limit p e is) c;
  ample = λ no. cc;
}
ended_as limit start p None is c h = record {
  reaches = c.reaches;
  stops = stops_there BySteps (run_limits limit) start (run_at p) (stops_full limit p is (is_full p.steps limit h)) c;
  ample = λ no. cc;
}

pub all_ended : (x : Setting) (starts : List Flat) (count : ℕ) → stops x (after_turns x starts count) ≡ Some AllDone → HaveEnded x.steps starts (after_turns x starts count).processes
all_ended x starts count h = record {
  each = λ job start p a b.
      ended_as x.steps start p (machine_at p.place).ending refl ((all_came x starts count).each job start p a b)
      (none_of (goes_on x.steps) (after_turns x starts count).processes job p (none_goes x (after_turns x starts count) h) b);
}

-- the only end

ended_at : (limit : ℕ) (start : Flat) (s : Stage) (e : Ending) → Reaches start s → s.place ≡ At (run limit start) → (run limit start).ending ≡ Some e → (run s.steps start).ending ≡ Some e
ended_at limit start s e r is ended =
    let there : run limit start ≡ run s.steps start = subst (λ (z : Place). GoesBy (run s.steps start) z) is r.goes in
    ap (λ (z : Flat). z.ending) (sym there) ∙ ended

not_before : (limit : ℕ) (start : Flat) (s t : Stage) (e : Ending) → Reaches start s → Reaches start t → s.place ≡ At (run limit start) → (run limit start).ending ≡ Some e → s.steps < t.steps → ⊥
not_before limit start s t e r q is ended low =
    let bad : Some e ≡ None = sym (ended_at limit start s e r is ended) ∙ q.going s.steps low in
    cc

is_below : (a b : ℕ) → nat_lt a b ≡ true → a < b
is_below a b h = grind (arith, nat_tests)

neither_below : (a b : ℕ) → nat_lt a b ≡ false → nat_lt b a ≡ false → a ≡ b
neither_below a b h k = grind (arith, nat_tests)

same_steps : (limit : ℕ) (start : Flat) (s t : Stage) (e : Ending) → Reaches start s → Reaches start t → s.place ≡ At (run limit start) → t.place ≡ At (run limit start) → (run limit start).ending ≡ Some e → s.steps ≡ t.steps
same_steps limit start s t e r q a b ended = elim (cases_Bool (nat_lt s.steps t.steps)) [
  | inl low ↦ absurd (not_before limit start s t e r q a ended (is_below s.steps t.steps low))
  | inr most ↦ elim (cases_Bool (nat_lt t.steps s.steps)) [
    | inl low ↦ absurd (not_before limit start t s e q r b ended (is_below t.steps s.steps low))
    | inr least ↦ neither_below s.steps t.steps most least
  ]
]

abbrev ending_in : Stage → Why → End
ending_in s why = record { at = s; why = why }

same_end : (s t : Stage) (v w : Why) → s.steps ≡ t.steps → s.place ≡ t.place → v ≡ w → ending_in s v ≡ ending_in t w
same_end s t v w n p y = λ i. record { at = record { steps = n i; place = p i }; why = y i }

alike : (limit : ℕ) (start : Flat) (s t : Stage) (v w : Why) → Reaches start s → Reaches start t → StopsSo v limit start s → StopsSo w limit start t → v ≢ ByTurns → w ≢ ByTurns → ending_in s v ≡ ending_in t w
alike limit start s t (ByEnding e) (ByEnding f) r q a b x y =
    let same : Some e ≡ Some f = sym a.1 ∙ b.1 in
    let ending : e ≡ f = cc in
    same_end s t (ByEnding e) (ByEnding f) (same_steps limit start s t e r q a.0.place b.0.place a.1) (a.0.place ∙ sym b.0.place) (ap ByEnding ending)
alike limit start s t (ByEnding e) BySteps r q a b x y = let no : Some e ≡ None = sym a.1 ∙ b.1 in cc
alike limit start s t BySteps (ByEnding f) r q a b x y = let no : None ≡ Some f = sym a.1 ∙ b.1 in cc
alike limit start s t BySteps BySteps r q a b x y = same_end s t BySteps BySteps (a.2 ∙ sym b.2) (a.0.place ∙ sym b.0.place) refl
alike limit start s t ByTurns w r q a b x y = absurd (x refl)
alike limit start s t (ByEnding e) ByTurns r q a b x y = absurd (y refl)
alike limit start s t BySteps ByTurns r q a b x y = absurd (y refl)

pub ends_alike : (limit : ℕ) (start : Flat) (a b : End) → IsEnd limit start a → IsEnd limit start b → a ≡ b
ends_alike limit start a b x y = alike limit start a.at b.at a.why b.why x.reaches y.reaches x.stops y.stops x.ample y.ample
