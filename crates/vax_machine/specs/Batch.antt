-- Several attempts of a machine, made at once.
use Rattle.std.specs.Prelude.{ℕ, zero, suc, ◌≡◌, ◌<◌, Bool, Option, None}
use Rattle.vax_outside.specs.Blocks.{BlockFile}
use Rattle.vax_flat.specs.Outcome.{first_missing, marked_by}
use Rattle.vax_flat.specs.Parts.{Place, At, Completes, machine_at, touches_at, turn}
use Rattle.vax_flat.specs.Step.{Flat}
use Rattle.vax_pager.specs.Meaning.{pages}
use Rattle.vax_machine.specs.Machine.{Goes, IsTry, Keeping, Means, keeping, modified_of, residence, tried}
use Rattle.vax_machine.specs.Residence.{is_resident}
use Rattle.vax_machine.specs.declared.engine.Engine.{Engine}
use Rattle.vax_machine.specs.declared.event.Applied.{Applied}
use Rattle.vax_machine.specs.declared.event.Applied.TheVariants.{Stepped}

-- so many attempts, each of which completes a step with no byte sent
unfoldable pub several : ℕ → Keeping → Keeping
several zero m = m
several (suc count) m = tried (Stepped None) (several count m)

-- a place, and the pages that are modified there
pub record Spot : Type 0 where
  pub place : Place
  pub modified : ℕ → Bool

-- each of so many attempts completes a step at once, and the run goes on
unfoldable pub Advances : (ℕ → Bool) → ℕ → Spot → Spot → Type 0
Advances resident zero from to = to ≡ from
Advances resident (suc count) from to =
    (mid : Spot) × (next : Flat) × Advances resident count from mid × (first_missing resident (touches_at mid.place) ≡ None) × (turn mid.place ≡ Completes next)
    × (next.ending ≡ None) × (to ≡ record { place = At next; modified = marked_by resident mid.modified (touches_at mid.place) })

-- these attempts from a place, and then one with this answer
pub record GoesFar (count : ℕ) (old : Engine) (result : Applied) (new : Engine) (file : Option BlockFile) (place : Place) : Type 0 where
  pub here : Spot
  pub advances : Advances (is_resident (residence old)) count (record { place = place; modified = modified_of old }) here
  pub silent : (machine_at here.place).output ≡ (machine_at place).output
  pub goes : Goes result (is_resident (residence old)) new file here.place
  pub marks : modified_of new ≡ marked_by (is_resident (residence old)) here.modified (touches_at here.place)

-- so many attempts of a machine that goes on, fewer than `most`, each of which completes a step with no byte sent, and then one with this answer
pub record HasTriedSeveral (most : ℕ) (old : Engine) (result : Applied) (new : Engine) : Type 0 where
  pub count : ℕ
  pub few : count < most
  pub answer : IsTry result
  pub keeps : keeping new ≡ tried result (several count (keeping old))
  pub blocked : (pages new.pager).blocked ≡ (pages old.pager).blocked
  pub goes : (file : Option BlockFile) → (place : Place) → Means old file place → GoesFar count old result new file place

-- where so many attempts lead from a place, each of which completes a step with no byte sent
pub record ComesFar (count : ℕ) (old new : Engine) (file : Option BlockFile) (place : Place) : Type 0 where
  pub here : Spot
  pub advances : Advances (is_resident (residence old)) count (record { place = place; modified = modified_of old }) here
  pub silent : (machine_at here.place).output ≡ (machine_at place).output
  pub means : Means new file here.place
  pub marks : modified_of new ≡ here.modified

-- so many attempts of a machine that goes on, each of which completes a step with no byte sent
pub record HasAdvanced (count : ℕ) (old new : Engine) : Type 0 where
  pub keeps : keeping new ≡ several count (keeping old)
  pub goes : (file : Option BlockFile) → (place : Place) → Means old file place → ComesFar count old new file place
