-- The text of a schedule, without comments and blank lines.
use Rattle.std.specs.Prelude.{ℕ, ◌*◌, List, [], ◌∷◌, ◌++◌, codes, decimal}
use Rattle.std.specs.List.{flat_map}
use Rattle.vax_outside.specs.Hex.{hex}
use Rattle.vax_sched.specs.declared.rule.Target.{Target}
use Rattle.vax_sched.specs.declared.rule.Target.TheVariants.{Page, All}
use Rattle.vax_sched.specs.declared.rule.Rule.{Rule}
use Rattle.vax_sched.specs.declared.rule.Rule.TheVariants.{At, Each}

-- the address of its first byte, in eight capital digits
abbrev pub page_text : ℕ → List ℕ
page_text page = hex 8 (512 * page)

abbrev pub target_text : Target → List ℕ
target_text (Page page) = page_text page
target_text All = codes "all"

-- the line of an `at` rule
unfoldable pub at_line : ℕ → ℕ → List ℕ
at_line turn page = codes "at " ++ (decimal turn ++ (32 ∷ page_text page ++ 10 ∷ []))

abbrev pub each_line : ℕ → Target → List ℕ
each_line turns target = codes "each " ++ (decimal turns ++ (32 ∷ target_text target ++ 10 ∷ []))

abbrev pub rule_line : Rule → List ℕ
rule_line (At rule) = at_line rule.turn rule.page
rule_line (Each rule) = each_line rule.turns rule.target

unfoldable pub printed : List Rule → List ℕ
printed rules = flat_map rule_line rules
