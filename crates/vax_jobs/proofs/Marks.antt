-- What is counted of the processes of a pool.
use Rattle.std.proofs.Common.{◌≡◌, ℕ, zero, suc, ◌==◌, Bool, true, false, List, [], ◌∷◌, ◌++◌, Option, Some, None, length, map, refl, sym, ap, ◌∙◌, subst, inl, inr}
use Rattle.std.specs.Prelude.{◌&&◌, is_none, nat_lt, slice_get, slice_set}
use Rattle.std.specs.Option.{option_map, option_map_or}
use Rattle.std.proofs.lemmas.Bool.{cases_Bool}
use Rattle.std.proofs.lemmas.List.{length-map, length-set, map-set}
use Rattle.std.proofs.lemmas.Option.{slice_get-map}
use Rattle.vax_pager.specs.Listing.{is_listed, leave_out}
use Rattle.vax_machine.proofs.Running.{served_pins}
use Rattle.vax_machine.specs.Machine.{Keeping}
use Rattle.vax_machine.specs.Residence.{taken_out}
use Rattle.vax_jobs.proofs.Rooms.{altered_is}
use Rattle.vax_jobs.specs.Pool.{keeps_of}
use Rattle.vax_jobs.specs.Pooling.{Pooling, altered, first_free, given, is_pinned, made_room, pins_at, room_of, taken, with_room}
use Rattle.vax_jobs.specs.Running.{Mark, System, Stands, flat_mark, going, kept_mark}
use Rattle.vax_jobs.specs.Shared.{Process, first_unpinned, goes, pins_of, victim, without_victim}
use Rattle.vax_jobs.specs.declared.pool.Pair.{Pair}

pub set_same : {A : Type 0} (xs : List A) (n : ℕ) (x : A) → slice_get xs n ≡ Some x → slice_set xs n x ≡ xs
set_same [] n x e = refl
set_same (y ∷ xs) zero x e = let same : y ≡ x = cc in ap (λ z. z ∷ xs) (sym same)
set_same (y ∷ xs) (suc n) x e = ap (λ ys. y ∷ ys) (set_same xs n x e)

mapped : {A B C : Type 0} (f : A → B) (g : B → C) (o : Option A) (d : C) → option_map_or g (option_map f o) d ≡ option_map_or (λ x. g (f x)) o d
mapped f g None d = refl
mapped f g (Some x) d = refl

-- an element of a list of which another is the image
seen : {A B C : Type 0} (f : A → B) (g : B → C) (xs : List A) (n : ℕ) (d : C) → option_map_or g (slice_get (map f xs) n) d ≡ option_map_or (λ x. g (f x)) (slice_get xs n) d
seen f g xs n d = ap (λ o. option_map_or g o d) (slice_get-map f xs n) ∙ mapped f g (slice_get xs n) d

abbrev mark_pins : Mark → List ℕ
mark_pins m = m.pinned

pub pins_same : (ks : List Keeping) (ps : List Process) → map kept_mark ks ≡ map flat_mark ps → (job : ℕ) → pins_at ks job ≡ pins_of ps job
pins_same ks ps e job =
    sym (seen kept_mark mark_pins ks job []) ∙ ap (λ ms. option_map_or mark_pins (slice_get ms job) []) e ∙ seen flat_mark mark_pins ps job []

abbrev mark_left : ℕ → Mark → Bool
mark_left limit m = is_none m.ended && nat_lt m.steps limit

pub going_same : (limit : ℕ) (p : Pooling) (ps : List Process) → map kept_mark p.processes ≡ map flat_mark ps → (job : ℕ) → going limit p job ≡ goes limit ps job
going_same limit p ps e job =
    sym (seen kept_mark (mark_left limit) p.processes job false) ∙ ap (λ ms. option_map_or (mark_left limit) (slice_get ms job) false) e ∙ seen flat_mark (mark_left limit) ps job false

-- a page that isn't pinned leaves

leave_none : (page : ℕ) (xs : List ℕ) → is_listed page xs ≡ false → leave_out page xs ≡ xs
unfolding is_listed leave_out
leave_none page [] e = refl
leave_none page (x ∷ xs) e = elim (cases_Bool (x == page)) [
  | inl t ↦ let no : true ≡ false = rw t at e in cc
  | inr f ↦ rw f (ap (λ ys. x ∷ ys) (leave_none page xs (rw f at e)))
]

taken_mark : (page : ℕ) (k : Keeping) → is_listed page k.residence.pinned ≡ false → kept_mark (taken page k) ≡ kept_mark k
unfolding taken_out
taken_mark page k free = elim (cases_Bool (is_listed page k.residence.order)) [
  | inl t ↦ rw t (ap (λ (xs : List ℕ). record { steps = k.steps; pinned = xs; ended = k.ended }) (leave_none page k.residence.pinned free))
  | inr f ↦ rw f refl
]

out_by : (ks : List Keeping) (job page : ℕ) (o : Option Keeping) → slice_get ks job ≡ o → is_listed page (option_map_or (λ (k : Keeping). k.residence.pinned) o []) ≡ false → map kept_mark (option_map_or (λ k. slice_set ks job (taken page k)) o ks) ≡ map kept_mark ks
out_by ks job page None e free = refl
out_by ks job page (Some k) e free =
    map-set kept_mark ks job (taken page k) ∙ ap (slice_set (map kept_mark ks) job) (taken_mark page k free)
    ∙ set_same (map kept_mark ks) job (kept_mark k) (slice_get-map kept_mark ks job ∙ ap (option_map kept_mark) e)

free_is : (ks : List Keeping) (pairs : List Pair) (pair : Pair) → first_free ks pairs ≡ Some pair → is_pinned ks pair ≡ false
unfolding first_free
free_is ks [] pair e = cc
free_is ks (x ∷ pairs) pair e = elim (cases_Bool (is_pinned ks x)) [
  | inl t ↦ free_is ks pairs pair (rw t at e)
  | inr f ↦
      let same : Some x ≡ Some pair = rw f at e in
      let q : x ≡ pair = cc in
      subst (λ (z : Pair). is_pinned ks z ≡ false) q f
]

pub room_free : (p : Pooling) (pair : Pair) → room_of p ≡ Some pair → is_pinned p.processes pair ≡ false
unfolding room_of
room_free p pair e = elim (cases_Bool (nat_lt (length p.resident) p.most)) [
  | inl t ↦ let no : None ≡ Some pair = rw t at e in cc
  | inr f ↦ free_is p.processes p.resident pair (rw f at e)
]

room_by : (p : Pooling) (o : Option Pair) → ((pair : Pair) → o ≡ Some pair → is_pinned p.processes pair ≡ false) → map kept_mark (made_room o p).processes ≡ map kept_mark p.processes
room_by p None free = refl
room_by p (Some pair) free = out_by p.processes pair.job pair.page (slice_get p.processes pair.job) refl (free pair refl)

pub room_marks : (p : Pooling) → map kept_mark (with_room p).processes ≡ map kept_mark p.processes
room_marks p = room_by p (room_of p) (room_free p)

room_resident : (p : Pooling) (o : Option Pair) → (made_room o p).resident ≡ without_victim o p.resident
room_resident p None = refl
room_resident p (Some pair) = refl

room_most : (p : Pooling) (o : Option Pair) → (made_room o p).most ≡ p.most
room_most p None = refl
room_most p (Some pair) = refl

pub most_with : (p : Pooling) → (with_room p).most ≡ p.most
most_with p = room_most p (room_of p)

first_same : (ks : List Keeping) (ps : List Process) → map kept_mark ks ≡ map flat_mark ps → (pairs : List Pair) → first_free ks pairs ≡ first_unpinned (pins_of ps) pairs
unfolding first_free first_unpinned
first_same ks ps e [] = refl
first_same ks ps e (x ∷ xs) =
    let same : is_pinned ks x ≡ is_listed x.page (pins_of ps x.job) = ap (is_listed x.page) (pins_same ks ps e x.job) in
    elim (cases_Bool (is_pinned ks x)) [
      | inl t ↦ rw (t, sym same ∙ t) (first_same ks ps e xs)
      | inr f ↦ rw (f, sym same ∙ f) refl
    ]

room_same : (p : Pooling) (ps : List Process) → map kept_mark p.processes ≡ map flat_mark ps → room_of p ≡ victim p.most ps p.resident
unfolding room_of victim
room_same p ps e = elim (cases_Bool (nat_lt (length p.resident) p.most)) [ inl t ↦ rw t refl | inr f ↦ rw f (first_same p.processes ps e p.resident) ]

-- what is resident where room was made
pub left_resident : (p : Pooling) (ps : List Process) (pairs : List Pair) → map kept_mark p.processes ≡ map flat_mark ps → p.resident ≡ pairs → (with_room p).resident ≡ without_victim (victim p.most ps pairs) pairs
left_resident p ps pairs e r =
    subst (λ (xs : List Pair). (with_room p).resident ≡ without_victim (victim p.most ps xs) xs) r
    (room_resident p (room_of p) ∙ ap (λ o. without_victim o p.resident) (room_same p ps e))

-- one process is altered

pub altered_marks : (ks : List Keeping) (job : ℕ) (f : Keeping → Keeping) (k : Keeping) → slice_get ks job ≡ Some k → map kept_mark (altered job f ks) ≡ slice_set (map kept_mark ks) job (kept_mark (f k))
altered_marks ks job f k e = ap (map kept_mark) (altered_is job f ks k e) ∙ map-set kept_mark ks job (f k)

pub unaltered_marks : (ks : List Keeping) (job : ℕ) (f : Keeping → Keeping) (k : Keeping) → slice_get ks job ≡ Some k → kept_mark (f k) ≡ kept_mark k → map kept_mark (altered job f ks) ≡ map kept_mark ks
unaltered_marks ks job f k e same =
    altered_marks ks job f k e ∙ ap (slice_set (map kept_mark ks) job) same
    ∙ set_same (map kept_mark ks) job (kept_mark k) (slice_get-map kept_mark ks job ∙ ap (option_map kept_mark) e)

-- a page came in
pub given_mark : (page : ℕ) (k : Keeping) → kept_mark (given page k) ≡ record { steps = k.steps; pinned = k.residence.pinned ++ page ∷ []; ended = k.ended }
given_mark page k = ap (λ (xs : List ℕ). record { steps = k.steps; pinned = xs; ended = k.ended }) (served_pins page k.residence)

-- a process at a place of both lists
pub mark_at : (ks : List Keeping) (ps : List Process) (job : ℕ) (k : Keeping) (x : Process) → map kept_mark ks ≡ map flat_mark ps → slice_get ks job ≡ Some k → slice_get ps job ≡ Some x → kept_mark k ≡ flat_mark x
mark_at ks ps job k x e a b =
    let left : slice_get (map kept_mark ks) job ≡ Some (kept_mark k) = slice_get-map kept_mark ks job ∙ ap (option_map kept_mark) a in
    let right : slice_get (map flat_mark ps) job ≡ Some (flat_mark x) = slice_get-map flat_mark ps job ∙ ap (option_map flat_mark) b in
    let both : Some (kept_mark k) ≡ Some (flat_mark x) = sym left ∙ ap (λ ms. slice_get ms job) e ∙ right in
    cc

-- as many machines as processes
pub count_is : (y : System) (ps : List Process) → y.pooling.processes ≡ map keeps_of y.machines → Stands y ps → length y.machines ≡ length ps
count_is y ps e h =
    sym (length-map y.machines keeps_of) ∙ ap length (sym e) ∙ sym (length-map y.pooling.processes kept_mark) ∙ ap length h.marks ∙ length-map ps flat_mark

-- the counts of processes

altered_by : (job : ℕ) (f : Keeping → Keeping) (ks : List Keeping) (o : Option Keeping) → length (option_map_or (λ k. slice_set ks job (f k)) o ks) ≡ length ks
altered_by job f ks None = refl
altered_by job f ks (Some k) = length-set ks job (f k)

pub altered_count : (job : ℕ) (f : Keeping → Keeping) (ks : List Keeping) → length (altered job f ks) ≡ length ks
altered_count job f ks = altered_by job f ks (slice_get ks job)

room_count : (p : Pooling) (o : Option Pair) → length (made_room o p).processes ≡ length p.processes
room_count p None = refl
room_count p (Some pair) = altered_count pair.job (taken pair.page) p.processes

pub count_with : (p : Pooling) → length (with_room p).processes ≡ length p.processes
count_with p = room_count p (room_of p)
