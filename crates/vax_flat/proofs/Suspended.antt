-- What a string instruction that was left in registers goes on from.
use Rattle.std.proofs.Common.{◌≡◌, ℕ, ◌<◌, ◌^◌, ◌/◌, ◌%◌, None, List, slice_index, refl, sym, ap, ◌∙◌}
use Rattle.vax_word.specs.declared.Psl.{Psl}
use Rattle.vax_space.specs.declared.Access.TheVariants.{Read, Write}
use Rattle.vax_space.specs.declared.Area.{Area}
use Rattle.vax_space.specs.Reference.{violation}
use Rattle.vax_strpart.specs.declared.packing.Progress.{Progress}
use Rattle.vax_strpart.specs.Packing.{packed}
use Rattle.vax_flat.specs.declared.Flow.{Flow}
use Rattle.vax_flat.specs.State.{State}
use Rattle.vax_flat.specs.Accesses.{Accesses, Leaf}
use Rattle.vax_flat.specs.Outcome.{outcome_of}
use Rattle.vax_flat.specs.Step.{Flat, state_of}
use Rattle.vax_flat.specs.String.{low_registers, with_low, left, suspended, continued, from_registers, IsReady}
use Rattle.vax_flat.specs.StringMove.{moved_count}
use Rattle.vax_flat.proofs.StringState.{Sixteen, sixteen, is_sixteen, mode_low, continued_suspended, unpacked_suspended}
use Rattle.vax_flat.proofs.StringGoing.{Family, Seeking, Scanning, Comparing, Moving, Escaping, Matching, Holds, IsSound, Goes, fin, later_of, later_is, part_of, goes}

-- what a machine with this core, memory and input place goes on from
pub suspended_kept : (q : Progress) (u : State) → ((suspended q u).input ≡ u.input) × ((suspended q u).taken ≡ u.taken) × ((suspended q u).sent ≡ u.sent)
unfolding suspended left with_low
suspended_kept q u = (refl, refl, refl)

pub state_there : (m : Flat) (s : State) (memory : List Area) → s.input ≡ m.input → s.sent ≡ None → state_of (record m { core = s.core; memory = memory; taken = s.taken }) ≡ s
state_there m s memory input sent k = record { core = s.core; input = sym input k; taken = s.taken; sent = sym sent k }

ready_low_by : (s : State) (regs : List ℕ) (psl : Psl) (xs : List ℕ) → Sixteen regs → slice_index regs 15 < 2 ^ 32 → psl.0 / 2 ^ 27 % 2 ≡ 0 → IsReady (with_low xs (record s { core = record s.core { regs = regs; psl = psl } }))
unfolding with_low
ready_low_by s regs psl xs (sixteen a b c d e f g h i j k l m n o p) pc clear = record { full = refl; pc = pc; clear = clear }

pub ready_low : (s : State) (xs : List ℕ) → IsReady s → IsReady (with_low xs s)
ready_low s xs ready = ready_low_by s s.core.regs s.core.psl xs (is_sixteen s.core.regs ready.full) ready.pc ready.clear

pub holds_low : (f : Family) (p : Progress) (s : State) (xs : List ℕ) (m : List Area) → Holds f p s m → Holds f p (with_low xs s) m
holds_low (Seeking equal) p s xs m h = h
holds_low (Scanning some) p s xs m h = h
holds_low Comparing p s xs m h = h
holds_low (Moving translate) p s xs m h = (
  h.0,
  record {
    source = ap (λ k. violation m p.addr1 (moved_count p) k Read) (mode_low s xs) ∙ h.1.source;
    table = λ t. ap (λ k. violation m p.table 256 k Read) (mode_low s xs) ∙ h.1.table t;
    apart = h.1.apart;
    destination = ap (λ k. violation m p.addr2 p.len2 k Write) (mode_low s xs) ∙ h.1.destination;
  },
  h.2,
)
holds_low Escaping p s xs m h = (
  h.0,
  record {
    source = ap (λ k. violation m p.addr1 (moved_count p) k Read) (mode_low s xs) ∙ h.1.source;
    table = λ t. ap (λ k. violation m p.table 256 k Read) (mode_low s xs) ∙ h.1.table t;
    apart = h.1.apart;
    destination = ap (λ k. violation m p.addr2 (moved_count p) k Write) (mode_low s xs) ∙ h.1.destination;
  },
  h.2,
)
holds_low Matching p s xs m h = h

pub kept_low : (xs : List ℕ) (u : State) → ((with_low xs u).input ≡ u.input) × ((with_low xs u).taken ≡ u.taken) × ((with_low xs u).sent ≡ u.sent)
unfolding with_low
kept_low xs u = (refl, refl, refl)

-- from registers that were left
module _ (f : Family) (q : Progress) (u : State) (memory : List Area) (ready : IsReady u) (sound : IsSound f q u memory) where
  abbrev pub on : State
  on = with_low (packed q (low_registers u)) u

  pub by_registers : (tree : Progress → State → (Flow → State → Accesses Leaf) → Accesses Leaf) → from_registers q.op tree (suspended q u) fin ≡ tree q on fin
  by_registers tree =
      ap (λ r. tree r (continued r.delta (suspended q u)) fin) (unpacked_suspended q u ready.full sound.proper)
      ∙ ap (λ s. tree q s fin) (continued_suspended q u ready sound.short)

  pub sound_on : IsSound f q on memory
  sound_on = record { proper = sound.proper; short = sound.short; holds = holds_low f q u (packed q (low_registers u)) memory sound.holds }

  pub ready_on : IsReady on
  ready_on = ready_low u (packed q (low_registers u)) ready

  -- the next part, and how it goes
  pub later_part : outcome_of (from_registers q.op (later_of f) (suspended q u) fin) memory ≡ outcome_of (part_of f q on fin) memory
  later_part = ap (λ tree. outcome_of tree memory) (by_registers (later_of f) ∙ later_is f q on memory fin sound_on.holds)

  pub later_goes : Goes f q on memory (outcome_of (part_of f q on fin) memory)
  later_goes = goes f q on memory ready_on sound_on
