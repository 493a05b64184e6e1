-- Evictions of pinned pages are never counted back.
use Rattle.std.proofs.Common.{◌≡◌, ◌<◌, ◌≤◌, ◌+◌, ◌-◌, ◌^◌, ℕ, zero, suc, Bool, true, false, if◌then◌else◌, List, [], ◌∷◌, ◌++◌, Option, Some, None, refl, sym, ap, ◌∙◌, arith}
use Rattle.vax_space.specs.declared.Area.{Area}
use Rattle.vax_outside.specs.Faults.{raised}
use Rattle.vax_flat.specs.declared.Ending.{Ending}
use Rattle.vax_flat.specs.Outcome.{first_missing}
use Rattle.vax_flat.specs.Parts.{machine_at, touches_at}
use Rattle.vax_pager.specs.Listing.{is_listed}
use Rattle.vax_sched.specs.Due.{due}
use Rattle.vax_sched.specs.declared.rule.Rule.{Rule}
use Rattle.vax_machine.specs.Paged.{Paged, all_evicted, all_named, attempted, attempted_by, evicted, marked, paged, unless_ended}
use Rattle.vax_machine.specs.Residence.{Residence, is_resident, served, taken_out, victim, without_victim}

-- as long as the count hasn't come to its last value
abbrev pub Spoils : Residence → Residence → Type 0
Spoils r q = q.spoiled < 2 ^ 64 - 1 → r.spoiled ≤ q.spoiled

pub spoils_then : (a b c : Residence) → Spoils a b → Spoils b c → Spoils a c
spoils_then a b c p q low =
    let y = q low in
    let x = p (omega (arith, y, low)) in
    omega (arith, x, y)

same_spoils : (r q : Residence) → q.spoiled ≡ r.spoiled → Spoils r q
same_spoils r q e low = omega (arith, e)

raised_spoils : (b : Bool) (n : ℕ) → (if b then raised n else n) < 2 ^ 64 - 1 → n ≤ (if b then raised n else n)
raised_spoils true n low = omega (arith, low)
raised_spoils false n low = omega arith

taken_by : (b : Bool) (page : ℕ) (r : Residence) → is_listed page r.order ≡ b → Spoils r (taken_out page r)
unfolding taken_out
taken_by true page r e = rw e (λ low. raised_spoils (is_listed page r.pinned) r.spoiled low)
taken_by false page r e = rw e (λ low. omega arith)

one_evicted : (b : Bool) (page : ℕ) (p : Paged) → is_listed page p.residence.order ≡ b → Spoils p.residence (evicted page p).residence
unfolding evicted
one_evicted true page p e = rw e (taken_by true page p.residence e)
one_evicted false page p e = rw e (same_spoils p.residence p.residence refl)

pub evicted_spoils : (pages : List ℕ) (p : Paged) → Spoils p.residence (all_evicted pages p).residence
unfolding all_evicted
evicted_spoils [] p = same_spoils p.residence p.residence refl
evicted_spoils (page ∷ pages) p = spoils_then p.residence (evicted page p).residence (all_evicted pages (evicted page p)).residence (one_evicted (is_listed page p.residence.order) page p refl) (evicted_spoils pages (evicted page p))

served_same : (v : Option ℕ) (r : Residence) → (without_victim v r).spoiled ≡ r.spoiled
served_same None r = refl
served_same (Some page) r = refl

attempt_by : (missing : Option ℕ) (p : Paged) → (attempted_by missing p).residence.spoiled ≡ p.residence.spoiled
unfolding served
attempt_by None p = refl
attempt_by (Some page) p = served_same (victim p.residence) p.residence

by_ending : (how : Option Ending) (p next : Paged) → next.residence.spoiled ≡ p.residence.spoiled → (unless_ended how p next).residence.spoiled ≡ p.residence.spoiled
by_ending None p next h = h
by_ending (Some e) p next h = refl

attempt_same : (p : Paged) → (attempted p).residence.spoiled ≡ p.residence.spoiled
unfolding attempted
attempt_same p =
    let missing = first_missing (is_resident p.residence) (touches_at p.place) in
    by_ending (machine_at p.place).ending p (attempted_by missing (marked p)) (attempt_by missing (marked p))

pub paged_spoils : (areas : List Area) (rules : List Rule) (count : ℕ) (b : Paged) → Spoils b.residence (paged areas (due rules) count b).residence
unfolding paged
paged_spoils areas rules zero b = same_spoils b.residence b.residence refl
paged_spoils areas rules (suc count) b =
    let p = paged areas (due rules) count b in
    let q = all_evicted (all_named areas (due rules (p.turns + 1))) p in
    spoils_then b.residence p.residence (attempted q).residence (paged_spoils areas rules count b)
    (spoils_then p.residence q.residence (attempted q).residence (evicted_spoils (all_named areas (due rules (p.turns + 1))) p) (same_spoils q.residence (attempted q).residence (attempt_same q)))

-- a schedule without rules evicts nothing

none_named : (areas : List Area) (rules : List Rule) (turn : ℕ) → rules ≡ [] → all_named areas (due rules turn) ≡ []
unfolding due
none_named areas rules turn e = ap (λ (z : List Rule). all_named areas (due z turn)) e

none_evicted : (pages : List ℕ) (p : Paged) → pages ≡ [] → (all_evicted pages p).residence.spoiled ≡ p.residence.spoiled
unfolding all_evicted
none_evicted pages p e = ap (λ (z : List ℕ). (all_evicted z p).residence.spoiled) e

none_in_front : (front rest : List ℕ) → [] ≡ front ++ rest → front ≡ []
none_in_front [] rest e = refl
none_in_front (page ∷ front) rest e = absurd (cc e)

pub cut_unspoiled : (areas : List Area) (rules : List Rule) (turn : ℕ) (front rest : List ℕ) (p : Paged) → all_named areas (due rules turn) ≡ front ++ rest → rules ≡ [] → (all_evicted front p).residence.spoiled ≡ p.residence.spoiled
cut_unspoiled areas rules turn front rest p splits e = none_evicted front p (none_in_front front rest (sym (none_named areas rules turn e) ∙ splits))

pub paged_unspoiled : (areas : List Area) (rules : List Rule) (count : ℕ) (b : Paged) → rules ≡ [] → (paged areas (due rules) count b).residence.spoiled ≡ b.residence.spoiled
unfolding paged
paged_unspoiled areas rules zero b e = refl
paged_unspoiled areas rules (suc count) b e =
    let p = paged areas (due rules) count b in
    let pages = all_named areas (due rules (p.turns + 1)) in
    attempt_same (all_evicted pages p) ∙ (none_evicted pages p (none_named areas rules (p.turns + 1) e) ∙ paged_unspoiled areas rules count b e)
