-- Processes at the start.
use Rattle.std.proofs.Common.{◌≡◌, ℕ, zero, suc, List, [], ◌∷◌, ◌++◌, Some, None, length, map, refl, sym, ap, ◌∙◌, subst, arith, append_assoc}
use Rattle.std.specs.Prelude.{slice_get}
use Rattle.std.specs.List.{AllZip}
use Rattle.std.proofs.lemmas.List.{append-nil, length-map}
use Rattle.vax_machine.specs.Machine.{Keeping}
use Rattle.vax_machine.specs.declared.machine.Machine.{Machine}
use Rattle.vax_jobs.specs.Beginning.{IsCount, IsFresh, IsMost}
use Rattle.vax_jobs.specs.Pool.{keeps_of}
use Rattle.vax_jobs.specs.Pooling.{IsPooling, IsShare, pages_in}
use Rattle.vax_jobs.specs.declared.job.Job.{Job}

-- the machines of some processes were made, and others are left
pub record HasMade (most : ℕ) (jobs left : List Job) (machines : List Machine) : Type 0 where
  pub done : List Job
  pub whole : jobs ≡ done ++ left
  pub fresh : AllZip (IsFresh most) done machines

zip_push : (most : ℕ) (jobs : List Job) (machines : List Machine) (job : Job) (m : Machine) → AllZip (IsFresh most) jobs machines → IsFresh most job m → AllZip (IsFresh most) (jobs ++ job ∷ []) (machines ++ m ∷ [])
zip_push most [] [] job m all one = (one, tt)
zip_push most [] (y ∷ ys) job m all one = absurd all
zip_push most (x ∷ xs) [] job m all one = absurd all
zip_push most (x ∷ xs) (y ∷ ys) job m all one = (all.0, zip_push most xs ys job m all.1 one)

pub made_none : (most : ℕ) (jobs : List Job) → HasMade most jobs jobs []
made_none most jobs = record { done = []; whole = refl; fresh = tt }

pub made_more : (most : ℕ) (jobs left rest : List Job) (machines more : List Machine) (job : Job) (m : Machine) → HasMade most jobs left machines → left ≡ job ∷ rest → more ≡ machines ++ m ∷ [] → IsFresh most job m → HasMade most jobs rest more
made_more most jobs left rest machines more job m h is e one = record {
  done = h.done ++ job ∷ [];
  whole = h.whole ∙ ap (λ js. h.done ++ js) is ∙ sym (append_assoc h.done (job ∷ []) rest);
  fresh = subst (λ (ms : List Machine). AllZip (IsFresh most) (h.done ++ job ∷ []) ms) (sym e) (zip_push most h.done machines job m h.fresh one);
}

pub made_all : (most : ℕ) (jobs : List Job) (machines : List Machine) → HasMade most jobs [] machines → AllZip (IsFresh most) jobs machines
made_all most jobs machines h = subst (λ (js : List Job). AllZip (IsFresh most) js machines) (sym (h.whole ∙ append-nil h.done)) h.fresh

zip-length : (most : ℕ) (jobs : List Job) (machines : List Machine) → AllZip (IsFresh most) jobs machines → length machines ≡ length jobs
zip-length most [] [] all = refl
zip-length most [] (y ∷ ys) all = absurd all
zip-length most (x ∷ xs) [] all = absurd all
zip-length most (x ∷ xs) (y ∷ ys) all = ap suc (zip-length most xs ys all.1)

no_pages : (job : ℕ) → pages_in job [] ≡ []
unfolding pages_in
no_pages job = refl

share_at : (most i : ℕ) (jobs : List Job) (machines : List Machine) (k : Keeping) (job : ℕ) → AllZip (IsFresh most) jobs machines → slice_get (map keeps_of machines) i ≡ Some k → IsShare most job [] k.residence
share_at most i [] [] k job all e = absurd (let no_way : None ≡ Some k = e in cc)
share_at most i [] (y ∷ ys) k job all e = absurd all
share_at most i (x ∷ xs) [] k job all e = absurd all
share_at most zero (x ∷ xs) (y ∷ ys) k job all e =
    let same : keeps_of y ≡ k = let is : Some (keeps_of y) ≡ Some k = e in cc in
    let fresh = all.0.starts in
    subst (λ (n : Keeping). IsShare most job [] n.residence) same (record { order = ap (λ p. p.residence.order) fresh ∙ sym (no_pages job); frames = ap (λ p. p.residence.frames) fresh })
share_at most (suc i) (x ∷ xs) (y ∷ ys) k job all e = share_at most i xs ys k job all.1 e

pub new_pool : (most : ℕ) (jobs : List Job) (machines : List Machine) → IsCount (length jobs) → IsMost (length jobs) most → AllZip (IsFresh most) jobs machines → IsPooling (record { most = most; resident = []; processes = map keeps_of machines })
new_pool most jobs machines count bound all =
    let same : length (map keeps_of machines) ≡ length jobs = length-map machines keeps_of ∙ zip-length most jobs machines all in
    record {
      some = omega (arith, same, count.0);
      few = omega (arith, same, count.1);
      least = omega (arith, same, bound.0);
      most = bound.1;
      held = omega arith;
      named = refl;
      shares = λ job k e. share_at most job jobs machines k job all e;
    }
