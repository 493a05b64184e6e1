-- Evicting all pages is evicting those that are resident.
use Rattle.std.proofs.Common.{ℕ, suc, ◌≡◌, ◌+◌, ◌<◌, ◌≤◌, Bool, true, false, ◌==◌, List, [], ◌∷◌, ◌++◌, length, take, drop, get_or, take-append-drop, drop-cons, refl, ap, sym, ◌∙◌, subst, inl, inr, Option, Result, Ok, Err}
use Rattle.std.specs.List.{filter}
use Rattle.std.proofs.lemmas.Bool.{cases_Bool, false≢true}
use Rattle.std.proofs.lemmas.List.{take_all, take_more}
use Rattle.vax_outside.specs.Blocks.{BlockFile}
use Rattle.vax_outside.specs.Channels.{Channels}
use Rattle.vax_pager.specs.Listing.{is_listed, leave_out}
use Rattle.vax_pager.specs.Meaning.{pages}
use Rattle.vax_pager.proofs.Listing.{in_without}
use Rattle.vax_machine.proofs.Evicting.{failed_in}
use Rattle.vax_machine.proofs.Outputs.{IsErrLike}
use Rattle.vax_machine.proofs.Residents.{resident}
use Rattle.vax_machine.proofs.Tracking.{evicted_append, evicted_away, evicted_there}
use Rattle.vax_machine.specs.Paged.{Paged, all_evicted, evicted}
use Rattle.vax_machine.specs.Residence.{Residence, taken_out}
use Rattle.vax_machine.specs.Calling.{WritesFirst}
use Rattle.vax_machine.specs.Turn.{EvictedAll, Follows, IsBegun, LostPart}
use Rattle.vax_machine.specs.Writing.{Origin}
use Rattle.vax_machine.specs.declared.engine.Engine.{Engine}
use Rattle.vax_machine.specs.declared.event.Fault.{Fault}
use Rattle.vax_machine.specs.declared.event.Fault.TheVariants.{Page, Write}
use Rattle.vax_machine.specs.declared.held.Held.{Held}

-- each resident page passes a test
pub record Covers (q : ℕ → Bool) (p : Paged) : Type 0 where
  pub covers : (page : ℕ) → is_listed page p.residence.order ≡ true → q page ≡ true

order_left : (page : ℕ) (r : Residence) → is_listed page r.order ≡ true → (taken_out page r).order ≡ leave_out page r.order
unfolding taken_out
order_left page r h = rw h refl

listed_left : (x page : ℕ) (xs : List ℕ) → is_listed x (leave_out page xs) ≡ true → is_listed x xs ≡ true
listed_left x page xs h =
    let k = sym (in_without x page xs) ∙ h in
    elim (cases_Bool (x == page)) [
      | inl t ↦ let no : false ≡ true = rw t at k in absurd (false≢true no)
      | inr f ↦ rw f at k
    ]

left_listed : (page x : ℕ) (p : Paged) → is_listed x (evicted page p).residence.order ≡ true → is_listed x p.residence.order ≡ true
left_listed page x p h = elim (cases_Bool (is_listed page p.residence.order)) [
  | inl t ↦
      let e = ap (λ (r : Residence). r.order) (evicted_there page p t).residence ∙ order_left page p.residence t in
      listed_left x page p.residence.order (ap (is_listed x) (sym e) ∙ h)
  | inr f ↦ ap (λ (z : Paged). is_listed x z.residence.order) (sym (evicted_away page p f)) ∙ h
]

still_covers : (q : ℕ → Bool) (page : ℕ) (p : Paged) → Covers q p → Covers q (evicted page p)
still_covers q page p h = record { covers = λ x l. h.covers x (left_listed page x p l) }

not_listed : (q : ℕ → Bool) (page : ℕ) (p : Paged) → Covers q p → q page ≡ false → is_listed page p.residence.order ≡ false
not_listed q page p h f = elim (cases_Bool (is_listed page p.residence.order)) [
  | inl t ↦ absurd (false≢true (sym f ∙ h.covers page t))
  | inr e ↦ e
]

-- the other pages change nothing
skipped : (q : ℕ → Bool) (pages : List ℕ) (p : Paged) → Covers q p → all_evicted (filter q pages) p ≡ all_evicted pages p
unfolding all_evicted
skipped q [] p h = refl
skipped q (x ∷ xs) p h = elim (cases_Bool (q x)) [
  | inl t ↦ rw t (skipped q xs (evicted x p) (still_covers q x p h))
  | inr f ↦ rw f (skipped q xs p h ∙ ap (all_evicted xs) (sym (evicted_away x p (not_listed q x p h f))))
]

-- the pages up to one that is kept
record IsCut (q : ℕ → Bool) (all front : List ℕ) (page : ℕ) : Type 0 where
  first : List ℕ
  last : List ℕ
  splits : all ≡ first ++ page ∷ last
  kept : filter q first ≡ front

both_same : (x y : ℕ) (xs ys : List ℕ) → x ≡ y → xs ≡ ys → x ∷ xs ≡ y ∷ ys
both_same x y xs ys e f = cc

further : (q : ℕ → Bool) (x page : ℕ) (xs front : List ℕ) → q x ≡ false → IsCut q xs front page → IsCut q (x ∷ xs) front page
further q x page xs front o c = record { first = x ∷ c.first; last = c.last; splits = both_same x x xs (c.first ++ page ∷ c.last) refl c.splits; kept = rw o c.kept }

cut_at : (q : ℕ → Bool) (all front rest : List ℕ) (page : ℕ) → filter q all ≡ front ++ page ∷ rest → IsCut q all front page
cut_at q [] [] rest page e = absurd (cc)
cut_at q [] (f ∷ front) rest page e = absurd (cc)
cut_at q (x ∷ xs) [] rest page e = elim (cases_Bool (q x)) [
  | inl t ↦
      let k : x ∷ filter q xs ≡ page ∷ rest = rw t at e in
      let same : x ≡ page = cc in
      record { first = []; last = xs; splits = both_same x page xs xs same refl; kept = refl }
  | inr o ↦
      let k : filter q xs ≡ page ∷ rest = rw o at e in
      further q x page xs [] o (cut_at q xs [] rest page k)
]
cut_at q (x ∷ xs) (f ∷ front) rest page e = elim (cases_Bool (q x)) [
  | inl t ↦
      let k : x ∷ filter q xs ≡ f ∷ (front ++ page ∷ rest) = rw t at e in
      let same : x ≡ f = cc in
      let behind : filter q xs ≡ front ++ page ∷ rest = cc in
      let c = cut_at q xs front rest page behind in
      record { first = x ∷ c.first; last = c.last; splits = both_same x x xs (c.first ++ page ∷ c.last) refl c.splits; kept = rw t (both_same x f (filter q c.first) front same c.kept) }
  | inr o ↦
      let k : filter q xs ≡ f ∷ (front ++ page ∷ rest) = rw o at e in
      further q x page xs (f ∷ front) o (cut_at q xs (f ∷ front) rest page k)
]

module _ (q : ℕ → Bool) (o : Origin) (all some : List ℕ) (p : Paged) (m : Engine) (file : Option BlockFile) (now : Option Channels) (left : Held) (e : some ≡ filter q all) (h : Covers q p) where
  same_end : all_evicted some p ≡ all_evicted all p
  same_end = ap (λ (l : List ℕ). all_evicted l p) e ∙ skipped q all p h

  begun_all : IsBegun o some p m file now left → IsBegun o all p m file now left
  begun_all b =
      let c = cut_at q all b.front b.next.others b.next.page (sym e ∙ (b.splits ∙ ap (λ (l : List ℕ). b.front ++ l) b.next.is)) in
      let there : all_evicted b.front p ≡ all_evicted c.first p = ap (λ (l : List ℕ). all_evicted l p) (sym c.kept) ∙ skipped q c.first p h in
      record {
        front = c.first;
        rest = b.next.page ∷ c.last;
        splits = c.splits;
        next = subst (WritesFirst (b.next.page ∷ c.last)) there (record { page = b.next.page; others = c.last; is = refl; resident = b.next.resident; modified = b.next.modified });
        follows = subst (λ (z : Paged). Follows o z m file now left) there b.follows;
      }

  -- what is so of these pages is so of all
  pub all_done : (r : Result (Unit {0}) Fault) → EvictedAll r o some p m file now left → EvictedAll r o all p m file now left
  all_done (Ok x) d = subst (λ (z : Paged). Follows o z m file now left) same_end d
  all_done (Err Page) d = begun_all d
  all_done (Err Write) d = subst (λ (z : Paged). LostPart o z file now) same_end d

-- the pages that are resident in the machine are those of the run
pub covered : (o : Origin) (p : Paged) (m : Engine) (file : Option BlockFile) (now : Option Channels) (left : Held) → Follows o p m file now left → Covers (resident (pages m.pager).order) p
covered o p m file now left f = record { covers = λ page l. ap (λ (r : Residence). is_listed page r.order) f.tracks.residence ∙ l }

-- several pages, one behind another

module _ (xs : List ℕ) (i : ℕ) (o : Origin) (p : Paged) (m : Engine) (file : Option BlockFile) (now : Option Channels) (left : Held) where
  pub next_done : i < length xs → Follows o (all_evicted (get_or xs i 0 ∷ []) (all_evicted (take i xs) p)) m file now left → Follows o (all_evicted (take (i + 1) xs) p) m file now left
  next_done low f =
      subst (λ (z : Paged). Follows o z m file now left) (sym (ap (λ (l : List ℕ). all_evicted l p) (take_more xs i 0 low) ∙ evicted_append (take i xs) (get_or xs i 0 ∷ []) p)) f

  pub next_failed : (r q : Result (Unit {0}) Fault) → i < length xs → IsErrLike r q → EvictedAll q o (get_or xs i 0 ∷ []) (all_evicted (take i xs) p) m file now left → EvictedAll r o xs p m file now left
  next_failed r q low l h =
      let e : xs ≡ take i xs ++ (get_or xs i 0 ∷ drop (suc i) xs) = sym (take-append-drop i xs) ∙ ap (λ (l : List ℕ). take i xs ++ l) (drop-cons xs i 0 low) in
      failed_in o p m file now left (take i xs) (get_or xs i 0 ∷ []) (drop (suc i) xs) xs r q l e h

  pub last_done : length xs ≤ i → Follows o (all_evicted (take i xs) p) m file now left → Follows o (all_evicted xs p) m file now left
  last_done past f = subst (λ (l : List ℕ). Follows o (all_evicted l p) m file now left) (take_all i xs past) f
