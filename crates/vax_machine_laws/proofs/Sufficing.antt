-- Enough turns end a run.
use Rattle.std.proofs.Common.{ℕ, ◌≡◌, ◌+◌, ◌-◌, ◌*◌, ◌^◌, ◌<◌, arith, Some}
use Rattle.vax_machine.proofs.Bound.{turns_bounded}
use Rattle.vax_machine.specs.Laws.{IsProper, Run, state_at}
use Rattle.vax_machine.specs.Paged.{ByTurns, stops}
use Rattle.vax_machine.specs.declared.event.Limits.{Limits}
use Rattle.vax_machine_laws.proofs.Parting.{fewer_parts, run_stages}
use Rattle.vax_machine_laws.proofs.Reaching.{run_comes, run_turns, stops_there, turns_out}
use Rattle.vax_machine_laws.proofs.Spoiling.{few_spoiled}
use Rattle.vax_machine_laws.specs.FlatRun.{GoesOnFor, IsOver, stage, stage_of}

pub turns_suffice : (limits : Limits) (r : Run) (count parts : ℕ) → IsProper r → limits.turns < 2 ^ 64 - 1 → GoesOnFor limits r count → stops limits.steps limits.turns (state_at r count) ≡ Some ByTurns → IsOver limits.steps (stage r.start parts) → limits.turns < 41 * parts + (state_at r count).residence.spoiled
turns_suffice limits r count parts proper low goes stopped over =
    let p = state_at r count in
    let turns = run_turns limits r count goes in
    let t = turns.0 in
    let few = turns.1 in
    let out = turns_out limits p stopped in
    let spoiled = few_spoiled r count in
    let bound = turns_bounded r count proper (omega (arith, spoiled, t, few, low)) in
    let less = fewer_parts limits.steps p.parts parts r.start (stage_of p) (run_stages r count) (stops_there ByTurns limits r.start p stopped (run_comes limits r count goes)) over in
    omega (arith, out, bound, less)
