-- Where an order stands.
use Rattle.std.proofs.Common.{◌≡◌, ◌<◌, ◌≤◌, ℕ, zero, suc, ◌+◌, Bool, true, false, List, [], ◌∷◌, Option, Some, None, length, drop, refl, sym, ap, ◌∙◌, subst, arith, inl, inr}
use Rattle.std.specs.Prelude.{◌&&◌, ◌^◌, nat_le, nat_lt, slice_get}
use Rattle.std.specs.List.{list_all, list_any}
use Rattle.std.specs.Option.{option_map_or}
use Rattle.std.proofs.lemmas.Bool.{cases_Bool, cases_eq, and_parts, ne_eqb}
use Rattle.std.proofs.lemmas.Bool.Decides.{nat_tests}
use Rattle.std.proofs.lemmas.List.{drop_all}
use Rattle.vax_order.proofs.Named.{missing}
use Rattle.vax_order.specs.Orders.{is_line, is_of, names_all}
use Rattle.vax_order.specs.declared.line.Line.{Line}
use Rattle.vax_jobs.specs.Shared.{Process, Setting, Shared, AllDone, ByTurns, first_going, goes, goes_on, job_at, next_position, or_first, stops}
use Rattle.vax_jobs.specs.declared.position.Position.{Position}

drop_at : (xs : List Line) (n : ℕ) (x : Line) → slice_get xs n ≡ Some x → drop n xs ≡ x ∷ drop (suc n) xs
drop_at [] n x e = cc
drop_at (y ∷ xs) zero x e = let same : y ≡ x = cc in ap (λ z. z ∷ xs) same
drop_at (y ∷ xs) (suc n) x e = drop_at xs n x e

-- the line at this number

pub first_here : (going : ℕ → Bool) (order : List Line) (line : ℕ) (l : Line) → slice_get order line ≡ Some l → going l.job ≡ true → first_going going line (drop line order) ≡ Some (record { line = line; left = l.count })
unfolding first_going
first_here going order line l e goes = ap (first_going going line) (drop_at order line l e) ∙ rw goes refl

pub first_next : (going : ℕ → Bool) (order : List Line) (line next : ℕ) (l : Line) → next ≡ line + 1 → slice_get order line ≡ Some l → going l.job ≡ false → first_going going line (drop line order) ≡ first_going going next (drop next order)
unfolding first_going
first_next going order line next l n e goes =
    let one : suc line ≡ next = omega (arith, n) in
    let two : line + 1 ≡ next = sym n in
    ap (first_going going line) (drop_at order line l e) ∙ rw goes (ap (λ k. first_going going (line + 1) (drop k order)) one ∙ ap (λ k. first_going going k (drop next order)) two)

pub first_past : (going : ℕ → Bool) (order : List Line) (line : ℕ) → length order ≤ line → first_going going line (drop line order) ≡ None
unfolding first_going
first_past going order line l = ap (first_going going line) (drop_all line order l)

pub job_is : (order : List Line) (line : ℕ) (l : Line) → slice_get order line ≡ Some l → job_at order line ≡ l.job
job_is order line l e = ap (λ o. option_map_or (λ (k : Line). k.job) o 0) e

is_less : (a b : ℕ) → nat_lt a b ≡ true → a < b
is_less a b h = grind (arith, nat_tests)

-- a line of an order
pub record IsLine (jobs : ℕ) (l : Line) : Type 0 where
  pub job : l.job < jobs
  pub count : 1 ≤ l.count

pub line_in : (jobs : ℕ) (order : List Line) (line : ℕ) (l : Line) → list_all (is_line jobs) order ≡ true → slice_get order line ≡ Some l → IsLine jobs l
line_in jobs [] line l h e = cc
line_in jobs (x ∷ order) zero l h e =
    let same : x ≡ l = cc in
    let parts = and_parts (is_line jobs x) (list_all (is_line jobs) order) h in
    let here = and_parts (nat_lt x.job jobs) (nat_lt 0 x.count && nat_le x.count (10 ^ 9)) parts.0 in
    let some = and_parts (nat_lt 0 x.count) (nat_le x.count (10 ^ 9)) here.1 in
    subst (IsLine jobs) same (record { job = is_less x.job jobs here.0; count = let c = is_less 0 x.count some.0 in omega (arith, c) })
line_in jobs (x ∷ order) (suc line) l h e =
    line_in jobs order line l (and_parts (is_line jobs x) (list_all (is_line jobs) order) h).1 e

-- an order has a line
pub some_line : (jobs : ℕ) (order : List Line) → 1 ≤ jobs → names_all jobs order ≡ true → 0 < length order
unfolding names_all
some_line zero order l h = absurd (omega arith)
some_line (suc jobs) [] l h = let no : false ≡ true = h in cc
some_line (suc jobs) (x ∷ order) l h = omega arith

-- where no line names a process that goes on

no_job : (going : ℕ → Bool) (line : ℕ) (order : List Line) (job : ℕ) → first_going going line order ≡ None → list_any (is_of job) order ≡ true → going job ≡ false
unfolding first_going
no_job going line [] job e h = cc
no_job going line (l ∷ order) job e h = elim (cases_Bool (going l.job)) [
  | inl t ↦ let no : Some (let at : Position = record { line = line; left = l.count } in at) ≡ None = rw t at e in cc
  | inr f ↦ elim (cases_eq l.job job) [
    | inl same ↦ ap going (sym same) ∙ f
    | inr other ↦ no_job going (line + 1) order job (rw f at e) (rw (ne_eqb l.job job other) at h)
  ]
]

named_in : (jobs job : ℕ) (order : List Line) → job < jobs → names_all jobs order ≡ true → list_any (is_of job) order ≡ true
named_in jobs job order l h = elim (cases_Bool (list_any (is_of job) order)) [
  | inl t ↦ t
  | inr f ↦ let no : false ≡ true = sym (missing jobs job order l f) ∙ h in cc
]

all_done : (limit : ℕ) (ps : List Process) → ((job : ℕ) → job < length ps → goes limit ps job ≡ false) → list_any (goes_on limit) ps ≡ false
all_done limit [] h = refl
all_done limit (p ∷ ps) h =
    let here : goes_on limit p ≡ false = h 0 (omega arith) in
    rw here (all_done limit ps (λ job l. h (suc job) (omega arith)))

some_goes : (limit : ℕ) (ps : List Process) (job : ℕ) → goes limit ps job ≡ true → list_any (goes_on limit) ps ≡ true
some_goes limit [] job h = cc
some_goes limit (p ∷ ps) zero h = rw h refl
some_goes limit (p ∷ ps) (suc job) h = elim (cases_Bool (goes_on limit p)) [
  | inl t ↦ rw t refl
  | inr f ↦ rw f (some_goes limit ps job h)
]

second_none : (a b : Option Position) → or_first a b ≡ None → b ≡ None
second_none None b e = e
second_none (Some x) b e = cc

none_first : (going : ℕ → Bool) (order : List Line) (at : Position) → next_position going order at ≡ None → first_going going 0 order ≡ None
unfolding next_position
none_first going order at e = elim (cases_Bool (nat_lt 0 at.left && going (job_at order at.line))) [
  | inl t ↦ let no : Some at ≡ None = rw t at e in cc
  | inr f ↦ second_none (first_going going (at.line + 1) (drop (at.line + 1) order)) (first_going going 0 order) (rw f at e)
]

pub stops_done : (x : Setting) (s : Shared) (at : Position) → names_all (length s.processes) x.order ≡ true → next_position (goes x.steps s.processes) x.order at ≡ None → stops x s ≡ Some AllDone
unfolding stops
stops_done x s at names none =
    let first = none_first (goes x.steps s.processes) x.order at none in
    let done = all_done x.steps s.processes (λ job l. no_job (goes x.steps s.processes) 0 x.order job first (named_in (length s.processes) job x.order l names)) in
    rw done refl

not_less : (a b : ℕ) → b ≤ a → nat_lt a b ≡ false
not_less a b l = grind (arith, nat_tests)

pub less_is : (a b : ℕ) → a < b → nat_lt a b ≡ true
less_is a b l = grind (arith, nat_tests)

pub stops_turns : (x : Setting) (s : Shared) (job : ℕ) → goes x.steps s.processes job ≡ true → x.turns ≤ s.turns → stops x s ≡ Some ByTurns
unfolding stops
stops_turns x s job goes l = rw (some_goes x.steps s.processes job goes, not_less s.turns x.turns l) refl

pub stops_not : (x : Setting) (s : Shared) (job : ℕ) → goes x.steps s.processes job ≡ true → s.turns < x.turns → stops x s ≡ None
unfolding stops
stops_not x s job goes l = rw (some_goes x.steps s.processes job goes, less_is s.turns x.turns l) refl
