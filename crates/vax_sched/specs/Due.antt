-- What a schedule asks of a turn.
use Rattle.std.specs.Prelude.{◌≡◌, ◌<◌, ℕ, ◌+◌, ◌%◌, ◌^◌, ◌==◌, List, [], ◌++◌, length, map, Option, None, Some, if◌then◌else◌}
use Rattle.std.specs.List.{filter, filter_map}
use Rattle.vax_sched.specs.declared.rule.Target.{Target}
use Rattle.vax_sched.specs.declared.rule.Target.TheVariants.{Page}
use Rattle.vax_sched.specs.declared.rule.Fixed.{Fixed}
use Rattle.vax_sched.specs.declared.rule.Repeated.{Repeated}
use Rattle.vax_sched.specs.declared.rule.Rule.{Rule}
use Rattle.vax_sched.specs.declared.rule.Rule.TheVariants.{At, Each}

-- the target of an `at` line for this turn
abbrev pub fixed_target : ℕ → Rule → Option Target
fixed_target turn (At rule) = if rule.turn == turn then Some (Page rule.page) else None
fixed_target turn (Each rule) = None

-- the target of an `each` line whose number divides the turn
abbrev pub repeated_target : ℕ → Rule → Option Target
repeated_target turn (At rule) = None
repeated_target turn (Each rule) = if turn % rule.turns == 0 then Some rule.target else None

-- the targets due at a turn: first the `at` lines for it, then the `each` lines whose number divides it, in the file's order
unfoldable pub due : List Rule → ℕ → List Target
due rules turn = filter_map (fixed_target turn) rules ++ filter_map (repeated_target turn) rules

-- the `at` lines for a turn
abbrev pub fixed_now : ℕ → List Fixed → List Fixed
fixed_now turn rules = filter (λ rule. rule.turn == turn) rules

-- the `each` lines whose number divides a turn
abbrev pub repeated_now : ℕ → List Repeated → List Repeated
repeated_now turn rules = filter (λ rule. turn % rule.turns == 0) rules

-- the targets of `at` lines for a turn, then of those `each` lines whose number divides it
abbrev pub targets_of : ℕ → List Fixed → List Repeated → List Target
targets_of turn fixed repeated = map (λ rule. Page rule.page) fixed ++ map (λ rule. rule.target) (repeated_now turn repeated)

-- Nothing is asked of the turns of a gap that begins at a turn, and something of the turn behind it unless that is the last number of 64 bits.
pub record IsGap {A : Type 0} (asks : ℕ → List A) (turn gap : ℕ) : Type 0 where
  pub quiet : (k : ℕ) → k < gap → asks (turn + k) ≡ []
  pub next : turn + gap + 1 < 2 ^ 64 → 0 < length (asks (turn + gap))
