-- An attempt touches few windows and pages, and misses none where all are resident.
use Rattle.std.proofs.Common.{◌≡◌, ℕ, Bool, None, List, [], ap, ◌∙◌, arith}
use Rattle.vax_space.specs.declared.Area.{Area}
use Rattle.vax_flat.specs.declared.Flow.TheVariants as flow
use Rattle.vax_flat.specs.State.{State}
use Rattle.vax_flat.specs.Outcome.{first_missing, or_else, outcome_of, touches_of}
use Rattle.vax_flat.specs.Memory.{AllResident}
use Rattle.vax_flat.specs.Step.{Flat, state_of, leaf, touches_after}
use Rattle.vax_flat.specs.Parts.{Place, At, Within, machine_at, tree_at, gone_back, outcome_at, touches_at}
use Rattle.vax_flat.specs.Bound.{AreFew, LieIn}
use Rattle.vax_flat.proofs.Closed.{touches_lie}
use Rattle.vax_flat.proofs.Joined.{first_missing-append}
use Rattle.vax_flat.proofs.Runs.{after_none, none_missing}
use Rattle.vax_flat.proofs.Bounds.{part_adds, later_adds}
use Rattle.vax_flat.proofs.Steps.{joined, nothing, touched_after}

left_nothing : (opcode units : ℕ) (t : State) (memory : List Area) → LieIn [] 0 (touches_of (leaf (flow.More opcode units) t) memory)
unfolding touches_of
left_nothing opcode units t memory = record { others = []; few = omega arith; covered = tt }

first_lies : (m : Flat) → LieIn [] 16 (touches_of (tree_at (At m) (state_of m)) m.memory)
first_lies m = part_adds _ touches_lie [] 0 leaf nothing left_nothing (state_of m) m.memory

pub attempt_is_few : (place : Place) → AreFew (touches_at place)
attempt_is_few (At m) = joined 16 2 _ _ (omega arith) (first_lies m) (touched_after (gone_back (At m)) (outcome_at (At m)))
attempt_is_few (Within p) =
    joined 6 2 _ _ (omega arith) (later_adds _ touches_lie [] 0 leaf nothing left_nothing p.opcode (state_of p.now) p.now.memory) (touched_after (gone_back (Within p)) (outcome_at (Within p)))

-- where every page is resident, an attempt misses none
pub none_missing_attempt : (place : Place) (resident : ℕ → Bool) → AllResident resident (machine_at place).memory → first_missing resident (touches_at place) ≡ None
none_missing_attempt place resident all =
    let tree = tree_at place (state_of (machine_at place)) in
    let memory = (machine_at place).memory in
    first_missing-append resident (touches_of tree memory) (touches_after (gone_back place) (outcome_of tree memory))
    ∙ (ap (λ x. or_else x (first_missing resident (touches_after (gone_back place) (outcome_of tree memory)))) (none_missing tree resident memory all)
    ∙ after_none (gone_back place) resident (outcome_of tree memory) all)
