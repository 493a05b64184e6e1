-- Processes at the start stand where turns begin.
use Rattle.std.proofs.Common.{◌≡◌, ℕ, zero, suc, true, false, List, [], ◌∷◌, Some, map, refl, sym, ap, ◌∙◌, subst}
use Rattle.std.specs.Prelude.{slice_get}
use Rattle.std.specs.Option.{option_map}
use Rattle.std.specs.List.{AllZip}
use Rattle.std.proofs.lemmas.Option.{none-some, same_Some, slice_get-map}
use Rattle.vax_outside.specs.Blocks.{BlockFile}
use Rattle.vax_flat.specs.Step.{Flat}
use Rattle.vax_pager.specs.Listing.{is_listed}
use Rattle.vax_machine.specs.Machine.{Means}
use Rattle.vax_machine.specs.Meaning.{engine}
use Rattle.vax_machine.specs.Paged.{Paged}
use Rattle.vax_machine.specs.declared.machine.Machine.{Machine}
use Rattle.vax_jobs.specs.Beginning.{Begins, IsFresh, machines, pooling, start_of}
use Rattle.vax_jobs.specs.Pool.{keeps_of}
use Rattle.vax_jobs.specs.Running.{IsReady, IsTouching, flat_mark, kept_mark, system_of}
use Rattle.vax_jobs.specs.Shared.{Process, Setting, begun, starting}
use Rattle.vax_jobs.specs.declared.job.Job.{Job}
use Rattle.vax_jobs.specs.declared.jobs.Jobs.{Jobs}

fresh_mark : (most : ℕ) (job : Job) (m : Machine) → BlockFile → IsFresh most job m → kept_mark (keeps_of m) ≡ flat_mark (starting (start_of job))
fresh_mark most job m file h =
    let steps = ap (λ (p : Paged). p.steps) h.starts in
    let pins = ap (λ (p : Paged). p.residence.pinned) h.starts in
    let ended = ap (λ (f : Flat). f.ending) (h.means file).processor.machine in
    λ i. record { steps = steps i; pinned = pins i; ended = ended i }

marks_at : (most : ℕ) (jobs : List Job) (ms : List Machine) → BlockFile → AllZip (IsFresh most) jobs ms → map kept_mark (map keeps_of ms) ≡ map flat_mark (map starting (map start_of jobs))
marks_at most [] [] file all = refl
marks_at most [] (m ∷ ms) file all = absurd all
marks_at most (job ∷ jobs) [] file all = absurd all
marks_at most (job ∷ jobs) (m ∷ ms) file all =
    let head = fresh_mark most job m file all.0 in
    let tail = marks_at most jobs ms file all.1 in
    λ i. head i ∷ tail i

-- an element of the second list has one of the first beside it
pub record IsBeside {A B : Type 0} (R : A → B → Type 0) (xs : List A) (n : ℕ) (y : B) : Type 0 where
  pub x : A
  pub there : slice_get xs n ≡ Some x
  pub has : R x y

beside : {A B : Type 0} (R : A → B → Type 0) (xs : List A) (ys : List B) (n : ℕ) (y : B) → AllZip R xs ys → slice_get ys n ≡ Some y → IsBeside R xs n y
beside R [] [] n y all e = absurd (none-some y e)
beside R [] (z ∷ ys) n y all e = absurd all
beside R (x ∷ xs) [] n y all e = absurd all
beside R (x ∷ xs) (z ∷ ys) zero y all e = record { x = x; there = refl; has = subst (R x) (same_Some z y e) all.0 }
beside R (x ∷ xs) (z ∷ ys) (suc n) y all e = let b = beside R xs ys n y all.1 e in record { x = b.x; there = b.there; has = b.has }

means_at : (most : ℕ) (jobs : List Job) (ms : List Machine) (file : BlockFile) (job : ℕ) (m : Machine) (p : Process) → AllZip (IsFresh most) jobs ms → slice_get ms job ≡ Some m → slice_get (map starting (map start_of jobs)) job ≡ Some p → Means (engine m) (Some file) p.place
means_at most jobs ms file job m p all a b =
    let z = beside (IsFresh most) jobs ms job m all a in
    let here : slice_get (map starting (map start_of jobs)) job ≡ Some (starting (start_of z.x)) =
    slice_get-map starting (map start_of jobs) job ∙ ap (option_map starting) (slice_get-map start_of jobs job ∙ ap (option_map start_of) z.there) in
    subst (λ (q : Process). Means (engine m) (Some file) q.place) (same_Some (starting (start_of z.x)) p (sym here ∙ b)) (z.has.means file)

touches_none : (start : Flat) → IsTouching (starting start)
unfolding is_listed
touches_none start page h = let no : false ≡ true = h in cc

touching_at : (starts : List Flat) (job : ℕ) (p : Process) → slice_get (map starting starts) job ≡ Some p → IsTouching p
touching_at [] job p e = absurd (none-some p e)
touching_at (s ∷ starts) zero p e = subst IsTouching (same_Some (starting s) p e) (touches_none s)
touching_at (s ∷ starts) (suc job) p e = touching_at starts job p e

pub ready : (jobs : List Job) (most : ℕ) (r : Jobs) (x : Setting) (file : BlockFile) → Begins jobs most r → IsReady x (system_of (pooling r) (machines r) (Some file)) (begun x.order (map start_of jobs))
ready jobs most r x file h = record {
  tracks = record {
    stands = record {
      marks = marks_at most jobs (machines r) file h.fresh;
      means = λ job m p a b. means_at most jobs (machines r) _ job m p h.fresh a b;
    };
    resident = h.resident;
  };
  touching = record { each = touching_at (map start_of jobs) };
  at = refl;
  turns = refl;
  sent = refl;
}
