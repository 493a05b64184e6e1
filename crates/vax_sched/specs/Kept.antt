-- What a schedule keeps: its rules, and those of each kind by themselves.
use Rattle.std.specs.Prelude.{◌≡◌, ◌<◌, ◌^◌, Bool, true, false, ◌&&◌, nat_lt, nat_le, List, length, Option, None, Some}
use Rattle.std.specs.List.{filter_map, list_all}
use Rattle.std.specs.List.Sorted.{IsNonDecreasingBy}
use Rattle.vax_sched.specs.Rules.{Reading, silent, says, malformed}
use Rattle.vax_sched.specs.Faults.{is_late}
use Rattle.vax_sched.specs.declared.rule.Target.{Target}
use Rattle.vax_sched.specs.declared.rule.Target.TheVariants.{Page, All}
use Rattle.vax_sched.specs.declared.rule.Fixed.{Fixed}
use Rattle.vax_sched.specs.declared.rule.Repeated.{Repeated}
use Rattle.vax_sched.specs.declared.rule.Rule.{Rule}
use Rattle.vax_sched.specs.declared.rule.Rule.TheVariants.{At, Each}

abbrev pub fixed_in : Rule → Option Fixed
fixed_in (At rule) = Some rule
fixed_in (Each rule) = None

abbrev pub repeated_in : Rule → Option Repeated
repeated_in (At rule) = None
repeated_in (Each rule) = Some rule

abbrev pub is_page : Target → Bool
is_page (Page page) = nat_lt page (2 ^ 23)
is_page All = true

-- its numbers are in their ranges
abbrev pub is_proper : Rule → Bool
is_proper (At rule) = nat_lt 0 rule.turn && (nat_le rule.turn (10 ^ 15) && nat_lt rule.page (2 ^ 23))
is_proper (Each rule) = nat_lt 0 rule.turns && (nat_le rule.turns (10 ^ 9) && is_page rule.target)

abbrev pub is_proper_reading : Reading → Bool
is_proper_reading silent = true
is_proper_reading (says rule) = is_proper rule
is_proper_reading malformed = true

abbrev pub Ascends : List Fixed → Type 0
Ascends fixed = IsNonDecreasingBy (λ rule. rule.turn) fixed

pub record IsKept (rules : List Rule) (fixed : List Fixed) (repeated : List Repeated) : Type 0 where
  pub fixed_are : fixed ≡ filter_map fixed_in rules
  pub repeated_are : repeated ≡ filter_map repeated_in rules
  pub proper : list_all is_proper rules ≡ true
  pub ordered : Ascends fixed
  pub few : length rules < 2 ^ 31

-- a turn can be divided by its number
abbrev pub is_divisor : Repeated → Bool
is_divisor rule = nat_lt 0 rule.turns

abbrev pub is_late_reading : List Rule → Reading → Bool
is_late_reading before silent = false
is_late_reading before (says rule) = is_late before rule
is_late_reading before malformed = false
