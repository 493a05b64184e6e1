-- Programs that run together are read, and then linked, one behind the other.
use Rattle.std.proofs.Common.{◌≡◌, ◌⊎◌, inl, inr, ℕ, suc, ◌+◌, ◌<◌, ◌++◌, List, [], ◌∷◌, length, take, drop, Result, Ok, Err, refl, sym, ap, ◌∙◌, append_assoc, append-nil, subst, IsErrAnd, length-drop, arith}
use Rattle.std.proofs.lemmas.List.{drop-drop}
use Rattle.std.specs.Prelude.{Vec}
use Rattle.std.specs.Global.{Global}
use Rattle.vax_dialect.specs.declared.Dialect.{Dialect}
use Rattle.vax_image.specs.declared.Base.TheVariants as base
use Rattle.vax_command.specs.ReadingView.{texts}
use Rattle.vax_command.specs.declared.status.Status.{Status}
use Rattle.vax_command.specs.declared.status.Status.TheVariants.{NoMemory}
use Rattle.vax_program.specs.Program.{Refusal, parts_of}
use Rattle.vax_top.specs.Loaded.{IsRefused, and_then}
use Rattle.vax_top.specs.LoadedView.{Loads}
use Rattle.vax_top.specs.Together.{all_parts, and_rest}

-- what stands before others
abbrev pub ahead : {X : Type 0} → List X → Result (List X) Refusal → Result (List X) Refusal
ahead front (Ok others) = Ok (front ++ others)
ahead front (Err refusal) = Err refusal

module _ {X : Type 0} where
  pub ahead_nil : (front : List X) (all : Result (List X) Refusal) → front ≡ [] → ahead front all ≡ all
  ahead_nil front (Ok others) e = rw e refl
  ahead_nil front (Err refusal) e = refl

  pub one_more : (front more : List X) (x : X) (one : Result X Refusal) (rest all : Result (List X) Refusal)
      → more ≡ front ++ x ∷ [] → one ≡ Ok x → ahead front (and_rest one rest) ≡ all → ahead more rest ≡ all
  one_more front more x one (Ok others) all grown is same =
      ap (λ (l : List X). Ok (l ++ others)) grown ∙ ap Ok (append_assoc front (x ∷ []) others)
      ∙ ap (λ (r : Result X Refusal). ahead front (and_rest r (Ok others))) (sym is) ∙ same
  one_more front more x one (Err refusal) all grown is same =
      ap (λ (r : Result X Refusal). ahead front (and_rest r (Err refusal))) (sym is) ∙ same

  pub all_done : (front : List X) (rest all : Result (List X) Refusal) → rest ≡ Ok [] → ahead front rest ≡ all → all ≡ Ok front
  all_done front rest all none same =
      sym same ∙ ap (ahead front) none ∙ ap Ok (append-nil front)

  -- a refusal of one is that of all
  pub one_refused : (front : List X) (one : Result X Refusal) (rest all : Result (List X) Refusal) (status : Status)
      → ahead front (and_rest one rest) ≡ all → IsRefused one status ⊎ (status ≡ NoMemory) → IsRefused all status ⊎ (status ≡ NoMemory)
  one_refused front one rest all status same (inl r) =
      inl (record { refusal = r.refusal; found = sym same ∙ ap (λ (o : Result X Refusal). ahead front (and_rest o rest)) r.found; answer = r.answer })
  one_refused front one rest all status same (inr e) = inr e

-- the first of those that are left stands alone in a list of its own
first_parts : (dialect : Dialect) (number : ℕ) (ys one others : List (Vec ℕ Global)) → 0 < length ys → one ≡ take 1 ys → others ≡ drop 1 ys
    → all_parts dialect number (texts ys) ≡ and_rest (parts_of dialect base.User number (texts one)) (all_parts dialect (suc number) (texts others))
first_parts dialect number [] one others some is e = absurd (omega arith)
first_parts dialect number (y ∷ ys) one others some is e = rw (is, e) refl

pub parts_at : (dialect : Dialect) (number i : ℕ) (xs one : List (Vec ℕ Global)) → i < length xs → one ≡ take 1 (drop i xs)
    → all_parts dialect number (texts (drop i xs)) ≡ and_rest (parts_of dialect base.User number (texts one)) (all_parts dialect (number + 1) (texts (drop (i + 1) xs)))
parts_at dialect number i xs one lt is =
    let behind : drop (i + 1) xs ≡ drop 1 (drop i xs) = sym (drop-drop 1 i xs ∙ ap (λ k. drop k xs) (omega arith)) in
    let next : suc number ≡ number + 1 = omega arith in
    first_parts dialect number (drop i xs) one (drop (i + 1) xs) (omega (arith, length-drop i xs)) is behind
    ∙ ap (λ n. and_rest (parts_of dialect base.User number (texts one)) (all_parts dialect n (texts (drop (i + 1) xs)))) next

-- an error of one is that of all
pub err_loads : {X Y : Type 0} (seen : X → Y) (e : Status) (r : Result X Status) (loaded : Result Y Refusal) → IsErrAnd r (λ x. x ≡ e) → IsRefused loaded e ⊎ (e ≡ NoMemory) → Loads seen r loaded
err_loads seen e (Ok v) loaded is h = absurd is
err_loads seen e (Err x) loaded is h = subst (λ (z : Status). IsRefused loaded z ⊎ (z ≡ NoMemory)) (sym is) h

-- what is refused first is so with what comes behind it
module _ {X Y : Type 0} where
  pub then_refused : (loaded : Result X Refusal) (next : X → Result Y Refusal) (status : Status) → IsRefused loaded status ⊎ (status ≡ NoMemory) → IsRefused (and_then loaded next) status ⊎ (status ≡ NoMemory)
  then_refused loaded next status (inl r) = inl (record { refusal = r.refusal; found = ap (λ (l : Result X Refusal). and_then l next) r.found; answer = r.answer })
  then_refused loaded next status (inr e) = inr e

  pub then_next : (loaded : Result X Refusal) (next : X → Result Y Refusal) (x : X) (all : Result Y Refusal) → loaded ≡ Ok x → next x ≡ all → and_then loaded next ≡ all
  then_next loaded next x all is same = ap (λ (l : Result X Refusal). and_then l next) is ∙ same
