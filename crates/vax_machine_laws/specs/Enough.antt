-- How many turns are enough for a run.
use Rattle.std.specs.Prelude.{◌+◌, ℕ, zero, suc, List, [], ◌∷◌, length}
use Rattle.vax_space.specs.declared.Area.{Area}
use Rattle.vax_sched.specs.declared.rule.Rule.{Rule}
use Rattle.vax_sched.specs.declared.rule.Rule.TheVariants.{At, Each}
use Rattle.vax_sched.specs.declared.rule.Target.{Target}
use Rattle.vax_machine.specs.Paged.{all_named}

-- how many pages are named for the first so many turns
unfoldable pub pages_due : List Area → (ℕ → List Target) → ℕ → ℕ
pages_due areas asks zero = 0
pages_due areas asks (suc turns) = pages_due areas asks turns + length (all_named areas (asks (suc turns)))

abbrev pub IsFixed : Rule → Type 0
IsFixed (At rule) = Unit {0}
IsFixed (Each rule) = ⊥

-- each line of a schedule is for one turn
unfoldable pub IsOnlyFixed : List Rule → Type 0
IsOnlyFixed [] = Unit {0}
IsOnlyFixed (rule ∷ rules) = IsFixed rule × IsOnlyFixed rules
