-- Faults of the text of a source, told where they are.
use Rattle.std.proofs.Common.{◌≡◌, ◌⊎◌, inl, inr, ℕ, List, Result, Ok, refl, ap, ◌∙◌}
use Rattle.vax_command.specs.declared.status.Status.{Status}
use Rattle.vax_command.specs.declared.status.Status.TheVariants.{NoMemory}
use Rattle.vax_prelude.specs.Preludes.{InPrelude as AtPrelude, InSource, Place, Prelude, told_at}
use Rattle.vax_program.specs.Program.{InImage, InPrelude, Link, Refusal, Source}
use Rattle.vax_top.specs.Loaded.{IsRefused, placed, placed_as, refused_as, told_in, told_of}
use Rattle.vax_top.specs.LoadedView.{retold}

-- the answer to a refusal, told again, is the answer to the refusal that is told there
placed_so : (file kind : ℕ) (place : Place) → placed_as file kind place ≡ refused_as (placed file kind place)
placed_so file kind (AtPrelude number name line) = refl
placed_so file kind (InSource line) = refl

retold_so : (preludes : List Prelude) (why : Refusal) → retold preludes (refused_as why) ≡ refused_as (told_of preludes why)
retold_so preludes (Source file line kind) = placed_so file kind (told_at preludes line)
retold_so preludes (Link kind name address) = refl
retold_so preludes (InImage place kind) = refl
retold_so preludes (InPrelude file line kind) = refl

module _ {X Y : Type 0} (seen : X → Y) (preludes : List Prelude) (loaded meant : Result Y Refusal) where
  pub told_loads : (x : X) → loaded ≡ Ok (seen x) → meant ≡ told_in preludes loaded → meant ≡ Ok (seen x)
  told_loads x is e = e ∙ ap (told_in preludes) is

  pub told_refused : (status result : Status) → IsRefused loaded status ⊎ (status ≡ NoMemory) → result ≡ retold preludes status → meant ≡ told_in preludes loaded → IsRefused meant result ⊎ (result ≡ NoMemory)
  told_refused status result (inl r) same e =
      inl (record {
        refusal = told_of preludes r.refusal;
        found = e ∙ ap (told_in preludes) r.found;
        answer = same ∙ ap (retold preludes) r.answer ∙ retold_so preludes r.refusal;
      })
  told_refused status result (inr none) same e = inr (same ∙ ap (retold preludes) none)
