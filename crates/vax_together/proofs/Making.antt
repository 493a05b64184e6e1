-- The processes of programs.
use Rattle.std.proofs.Common.{◌≡◌, ◌≤◌, ◌<◌, ◌+◌, Bool, true, false, if◌then◌else◌, ℕ, zero, suc, List, [], ◌∷◌, ◌++◌, length, map, take, refl, sym, ap, ◌∙◌, subst, arith}
use Rattle.std.specs.List.{All, AllZip}
use Rattle.std.specs.Prelude.{get_or}
use Rattle.std.proofs.lemmas.List.{length-map, map_more}
use Rattle.vax_image.specs.declared.Image.{Image}
use Rattle.vax_jobs.specs.Beginning.{start_of}
use Rattle.vax_jobs.specs.declared.job.Job.{Job}
use Rattle.vax_together.specs.Starting.{HasInput, start_under, starts_of}

pub short_inputs : (input : List ℕ) (jobs : List Job) → length input ≤ 4194304 → All (HasInput input) jobs → All (λ (j : Job). length j.input.items ≤ 4194304) jobs
short_inputs input jobs l h = λ k d within. let e = ap length (h k d within) in omega (arith, e, l)

pub count_of : (system : Image) (users : List Image) (input : List ℕ) (jobs : List Job) → map start_of jobs ≡ starts_of system users input → length jobs ≡ length users
count_of system users input jobs e = sym (length-map jobs start_of) ∙ ap length e ∙ length-map users (start_under system input)

pub zip_count : {A B : Type 0} (R : A → B → Type 0) (xs : List A) (ys : List B) → AllZip R xs ys → length ys ≡ length xs
zip_count R [] [] h = refl
zip_count R [] (y ∷ ys) h = absurd h
zip_count R (x ∷ xs) [] h = absurd h
zip_count R (x ∷ xs) (y ∷ ys) h = ap suc (zip_count R xs ys h.1)

pub map_push : {A B : Type 0} (f : A → B) (xs : List A) (x : A) → map f (xs ++ x ∷ []) ≡ map f xs ++ f x ∷ []
map_push f [] x = refl
map_push f (y ∷ ys) x = ap (λ zs. f y ∷ zs) (map_push f ys x)

pub all_push : (input : List ℕ) (jobs : List Job) (job : Job) → All (HasInput input) jobs → HasInput input job → All (HasInput input) (jobs ++ job ∷ [])
all_push input [] job h one zero d l = one
all_push input [] job h one (suc k) d l = absurd (omega (arith, l))
all_push input (j ∷ jobs) job h one zero d l = h 0 d (omega arith)
all_push input (j ∷ jobs) job h one (suc k) d l = all_push input jobs job (λ n e m. h (suc n) e (omega (arith, m))) one k d (omega (arith, l))

pub started_more : (system : Image) (users : List Image) (input : List ℕ) (i : ℕ) (jobs more : List Job) (job : Job) (user : Image) → i < length users → user ≡ get_or users i user → map start_of jobs ≡ starts_of system (take i users) input → more ≡ jobs ++ job ∷ [] → start_of job ≡ start_under system input user → map start_of more ≡ starts_of system (take (i + 1) users) input
started_more system users input i jobs more job user l is before grown one =
    ap (map start_of) grown ∙ map_push start_of jobs job ∙ ap (λ fs. fs ++ start_of job ∷ []) before
    ∙ ap (λ f. map (start_under system input) (take i users) ++ f ∷ []) (one ∙ ap (start_under system input) is)
    ∙ sym (map_more (start_under system input) users i user l)

pub inputs_more : (input : List ℕ) (jobs more : List Job) (job : Job) → All (HasInput input) jobs → more ≡ jobs ++ job ∷ [] → HasInput input job → All (HasInput input) more
inputs_more input jobs more job h grown one = subst (All (HasInput input)) (sym grown) (all_push input jobs job h one)

pub pushed : {A : Type 0} (b : Bool) (before after : List A) (x : A) → after ≡ (if b then before ++ x ∷ [] else before) → b ≡ true → after ≡ before ++ x ∷ []
pushed true before after x e h = e
pushed false before after x e h = let no : false ≡ true = h in cc
