-- Turns that make no attempt.
use Rattle.std.proofs.Common.{◌≡◌, ℕ, Bool, true, List, [], ◌∷◌, Option, Some, None, refl, sym, ◌∙◌, subst, inl, inr, ◌⊎◌}
use Rattle.std.specs.Prelude.{slice_get}
use Rattle.std.proofs.lemmas.Bool.{eq-eqb}
use Rattle.vax_outside.specs.Blocks.{BlockFile}
use Rattle.vax_pager.specs.Listing.{first, is_listed}
use Rattle.vax_machine.specs.Meaning.{memory_of}
use Rattle.vax_machine.specs.declared.event.Applied.{Applied}
use Rattle.vax_machine.specs.declared.event.Applied.TheVariants as applied
use Rattle.vax_machine.specs.declared.event.Event.TheVariants as event
use Rattle.vax_machine.specs.declared.machine.Machine.{Machine}
use Rattle.vax_jobs.proofs.Serving.{clean_keeps, unflushed}
use Rattle.vax_jobs.proofs.Shares.{there_at}
use Rattle.vax_jobs.proofs.Turns.{some_machine}
use Rattle.vax_jobs.specs.Pool.{AllKeep, HasApplied, keeps_of}
use Rattle.vax_jobs.specs.Pooling.{Pooling, TakesOut, is_there}
use Rattle.vax_jobs.specs.Turning.{Cleans, HasTurned, MovesOut}
use Rattle.vax_jobs.specs.declared.turn.Turn.TheVariants.{Out, Clean}
use Rattle.vax_jobs.specs.declared.turn.Turned.{Turned}
use Rattle.vax_jobs.specs.declared.turn.Turned.TheVariants.{Moved, Failed}

pub out_moved : (p q : Pooling) (place job page : ℕ) → slice_get p.resident place ≡ Some (record { job = job; page = page }) → TakesOut place p q → MovesOut job page (is_there p.resident job page) Moved p q
out_moved p q place job page there takes =
    subst (λ (b : Bool). MovesOut job page b Moved p q) (sym (there_at p.resident place (record { job = job; page = page }) there)) (inr (refl, takes (record { job = job; page = page }) there))

pub out_unmoved : (p q : Pooling) (place job page : ℕ) → slice_get p.resident place ≡ Some (record { job = job; page = page }) → q ≡ p → MovesOut job page (is_there p.resident job page) Failed p q
out_unmoved p q place job page there same =
    subst (λ (b : Bool). MovesOut job page b Failed p q) (sym (there_at p.resident place (record { job = job; page = page }) there)) (inl (refl, same))

pub out_turned : (job page : ℕ) (result : Turned) (p : Pooling) (old : List Machine) (before : Option BlockFile) (new : List Machine) (after : Option BlockFile) → AllKeep old before new after → HasTurned (Out job page) result p old before new after
out_turned job page result p old before new after keeps = record { own = keeps.each job; others = λ i other. keeps.each i }

first_listed : (xs : List ℕ) (page : ℕ) → first xs ≡ Some page → is_listed page xs ≡ true
unfolding is_listed
first_listed [] page e = absurd (let no_way : None ≡ Some page = e in cc)
first_listed (x ∷ xs) page e = let same : x ≡ page = cc in rw (eq-eqb x page same) refl

pub clean_failed : (job page : ℕ) (answer : Applied) (old : List Machine) (before : Option BlockFile) (new : List Machine) (after : Option BlockFile) (m : Machine) → HasApplied job (event.Flush page) answer old before new after → slice_get old job ≡ Some m → first (memory_of m).modified ≡ Some page → (answer ≡ applied.Flushed → ⊥) → answer ≡ applied.Failed
clean_failed job page answer old before new after m h there found other =
    let same : m ≡ h.was = some_machine m h.was (sym there ∙ h.there) in
    let listed : is_listed page (memory_of h.was).modified ≡ true = subst (λ (x : Machine). is_listed page (memory_of x).modified ≡ true) same (first_listed (memory_of m).modified page found) in
    unflushed (is_listed page (memory_of h.was).modified) answer (keeps_of h.was) (keeps_of h.is) listed other h.applies.0

pub clean_turned : (job page : ℕ) (answer : Applied) (result : Turned) (p : Pooling) (old : List Machine) (before : Option BlockFile) (new : List Machine) (after : Option BlockFile) (m : Machine) → HasApplied job (event.Flush page) answer old before new after → slice_get old job ≡ Some m → first (memory_of m).modified ≡ Some page → (result ≡ Moved) ⊎ (result ≡ Failed) → HasTurned (Clean job) result p old before new after
clean_turned job page answer result p old before new after m h there found is =
    let keeps = clean_keeps job old before new after page answer h in
    record {
      own = λ x n a b.
          let same : m ≡ x = some_machine m x (sym there ∙ a) in
          let cleans : Cleans (first (memory_of x).modified) result = subst (λ (y : Machine). Cleans (first (memory_of y).modified) result) same (subst (λ (o : Option ℕ). Cleans o result) (sym found) is) in
          (keeps.each job x n a b, cleans);
      others = λ i other. keeps.each i;
    }
