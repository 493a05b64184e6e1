-- Events of one process among several.
use Rattle.std.proofs.Common.{◌≡◌, ◌<◌, ℕ, zero, suc, List, [], ◌∷◌, Option, Some, length, map, refl, sym, ap, ◌∙◌, subst, arith, inl, inr}
use Rattle.std.specs.Prelude.{slice_get, slice_set}
use Rattle.std.specs.Option.{option_map}
use Rattle.std.proofs.lemmas.Bool.{cases_eq}
use Rattle.std.proofs.lemmas.List.{length-set, map-set}
use Rattle.std.proofs.lemmas.Option.{slice_get-map, slice_get_within}
use Rattle.vax_outside.specs.Blocks.{BlockFile}
use Rattle.vax_pager.specs.Meaning.{pages}
use Rattle.vax_pager.proofs.Told.{pager_is, space_is}
use Rattle.vax_machine.specs.Machine.{Keeping, Moves}
use Rattle.vax_machine.specs.Meaning.{engine}
use Rattle.vax_machine.specs.declared.event.Applied.{Applied}
use Rattle.vax_machine.specs.declared.event.Event.{Event}
use Rattle.vax_machine.specs.declared.machine.Machine.{Machine}
use Rattle.vax_window.specs.Windows.{its}
use Rattle.vax_jobs.proofs.Apart.{moves_own, stands_still}
use Rattle.vax_jobs.proofs.Rooms.{IsFine, altered_is, found, get_other, get_same}
use Rattle.vax_jobs.specs.Pool.{AllKeep, HasApplied, Keeps, keeps_of}
use Rattle.vax_jobs.specs.Pooling.{altered}

-- what is so of each machine
pub fine_machine : (m : Machine) → IsFine (keeps_of m)
fine_machine m = record { once = (pager_is m.engine.pager).once; pins = m.sound.pages.pins }

pub some_machine : (x y : Machine) → Some x ≡ Some y → x ≡ y
some_machine x y e = cc

-- the event of one process leaves the others what they stand for
pub others_keep : (job : ℕ) (event : Event) (result : Applied) (was is m : Machine) (before after : Option BlockFile) (i : ℕ) → i < 8 → job < 8 → (i ≡ job → ⊥) → Moves event (engine was) (its job before) result (engine is) (its job after) → Keeps i m before m after
others_keep job event result was is m before after i li lj other moves = λ place means. record {
  processor = means.processor;
  memory = stands_still i job (pages (engine m).pager) before after _ li lj other (space_is (engine m).pager) (moves_own event (engine was) (engine is) result (its job before) (its job after) (space_is (engine was).pager) moves) means.memory;
}

module _ (job : ℕ) (event : Event) (result : Applied) (old : List Machine) (before : Option BlockFile) (new : List Machine) (after : Option BlockFile) where
  pub was_kept : (h : HasApplied job event result old before new after) → slice_get (map keeps_of old) job ≡ Some (keeps_of h.was)
  was_kept h = slice_get-map keeps_of old job ∙ ap (option_map keeps_of) h.there

  pub now_kept : (f : Keeping → Keeping) → (h : HasApplied job event result old before new after) → keeps_of h.is ≡ f (keeps_of h.was) → map keeps_of new ≡ altered job f (map keeps_of old)
  now_kept f h e =
      ap (map keeps_of) h.changed ∙ map-set keeps_of old job h.is ∙ ap (slice_set (map keeps_of old) job) e
      ∙ sym (altered_is job f (map keeps_of old) (keeps_of h.was) (was_kept h))

  same_set : {A : Type 0} (xs : List A) (n : ℕ) (x : A) → slice_get xs n ≡ Some x → slice_set xs n x ≡ xs
  same_set [] n x e = refl
  same_set (y ∷ xs) zero x e = let same : y ≡ x = cc in ap (λ z. z ∷ xs) (sym same)
  same_set (y ∷ xs) (suc n) x e = ap (λ ys. y ∷ ys) (same_set xs n x e)

  pub nothing_kept : (h : HasApplied job event result old before new after) → keeps_of h.is ≡ keeps_of h.was → map keeps_of new ≡ map keeps_of old
  nothing_kept h e =
      ap (map keeps_of) h.changed ∙ map-set keeps_of old job h.is ∙ ap (slice_set (map keeps_of old) job) e
      ∙ same_set (map keeps_of old) job (keeps_of h.was) (was_kept h)

  pub same_count : HasApplied job event result old before new after → length new ≡ length old
  same_count h = ap length h.changed ∙ length-set old job h.is

  pub at_other : (h : HasApplied job event result old before new after) → (i : ℕ) → (i ≡ job → ⊥) → slice_get new i ≡ slice_get old i
  at_other h i other = ap (λ ms. slice_get ms i) h.changed ∙ get_other old job i h.is other

  pub at_job : (h : HasApplied job event result old before new after) → slice_get new job ≡ Some h.is
  at_job h = ap (λ ms. slice_get ms job) h.changed ∙ get_same old job h.was h.is h.there

  pub others_after : (h : HasApplied job event result old before new after) → (i : ℕ) → (i ≡ job → ⊥) → (m n : Machine) → slice_get old i ≡ Some m → slice_get new i ≡ Some n → Keeps i m before n after
  others_after h i other m n a b =
      let same : m ≡ n = some_machine m n (sym a ∙ sym (at_other h i other) ∙ b) in
      subst (λ (x : Machine). Keeps i m before x after) same (h.others i other m a)

  pub all_keep : (h : HasApplied job event result old before new after) → Keeps job h.was before h.is after → AllKeep old before new after
  all_keep h own = record {
    count = same_count h;
    each = λ i m n a b. elim (cases_eq i job) [
      | inl same ↦
          let first : m ≡ h.was = some_machine m h.was (sym a ∙ ap (slice_get old) same ∙ h.there) in
          let next : n ≡ h.is = some_machine n h.is (sym b ∙ ap (slice_get new) same ∙ at_job h) in
          subst (λ (k : ℕ). Keeps k m before n after) (sym same) (subst (λ (x : Machine). Keeps job m before x after) (sym next) (subst (λ (x : Machine). Keeps job x before h.is after) (sym first) own))
      | inr other ↦ others_after h i other m n a b
    ];
  }

pub all_same : (ms : List Machine) (file after : Option BlockFile) → after ≡ file → AllKeep ms file ms after
all_same ms file after e = record {
  count = refl;
  each = λ i m n a b.
      let same : m ≡ n = some_machine m n (sym a ∙ b) in
      subst (λ (x : Machine). Keeps i m file x after) same (subst (λ (f : Option BlockFile). Keeps i m file m f) (sym e) (λ place means. means));
}

pub keep_then : (old mid new : List Machine) (before between after : Option BlockFile) → AllKeep old before mid between → AllKeep mid between new after → AllKeep old before new after
keep_then old mid new before between after h k = record {
  count = k.count ∙ h.count;
  each = λ i m n a b.
      let there : i < length mid = omega (arith, slice_get_within old i m a, h.count) in
      let x = found mid i there in
      λ place means. k.each i x.0 n x.1 b place (h.each i m x.0 a x.1 place means);
}
