-- Which texts are schedules of a space, and the first fault of the others.
use Rattle.std.specs.Prelude.{◌≡◌, ◌<◌, ℕ, ◌+◌, Bool, true, false, not, nat_lt, List, length, take, slice_index_or, Option, None, Some, is_some, Result, Ok, Err, ⊤, if◌then◌else◌}
use Rattle.std.specs.List.{list_any, All}
use Rattle.vax_space.specs.declared.Area.{Area}
use Rattle.vax_space.specs.Areas.{area_of}
use Rattle.vax_lines.specs.Lines.{Text}
use Rattle.vax_sched.specs.Rules.{Reading, silent, says, malformed, readings, rules}
use Rattle.vax_sched.specs.declared.rule.Target.{Target}
use Rattle.vax_sched.specs.declared.rule.Target.TheVariants.{Page, All as Every}
use Rattle.vax_sched.specs.declared.rule.Rule.{Rule}
use Rattle.vax_sched.specs.declared.rule.Rule.TheVariants.{At, Each}
use Rattle.vax_sched.specs.declared.reader.SchedError.{SchedError}
use Rattle.vax_sched.specs.declared.reader.SchedError.TheVariants.{Fault, NoMemory}

-- an area has the page
abbrev pub has_page : List Area → ℕ → Bool
has_page areas page = is_some (area_of areas page)

abbrev pub has_target : List Area → Target → Bool
has_target areas (Page page) = has_page areas page
has_target areas Every = true

-- an area has the page that the rule names, if it names one
abbrev pub is_placed : List Area → Rule → Bool
is_placed areas (At rule) = has_page areas rule.page
is_placed areas (Each rule) = has_target areas rule.target

-- an `at` line with a greater turn
abbrev pub is_after : ℕ → Rule → Bool
is_after turn (At rule) = nat_lt turn rule.turn
is_after turn (Each rule) = false

-- an `at` line whose turn is below that of an earlier one
abbrev pub is_late : List Rule → Rule → Bool
is_late before (At rule) = list_any (is_after rule.turn) before
is_late before (Each rule) = false

-- the kind of a rule's fault behind these rules: 2 for a page of no area, 3 for an `at` line out of order
abbrev pub rule_fault : List Area → List Rule → Rule → Option ℕ
rule_fault areas before rule =
    if not (is_placed areas rule) then Some 2
    else if is_late before rule then Some 3
    else None

-- the kind of a line's fault behind these rules: 1 for another form, else its rule's
abbrev pub fault_of : List Area → List Rule → Reading → Option ℕ
fault_of areas before silent = None
fault_of areas before (says rule) = rule_fault areas before rule
fault_of areas before malformed = Some 1

-- the kind of the fault of line k, from 0
abbrev pub fault_at : List Area → List Reading → ℕ → Option ℕ
fault_at areas read k = fault_of areas (rules (take k read)) (slice_index_or read k silent)

-- no line before line k has a fault
abbrev pub PassesTo : List Area → List Reading → ℕ → Type 0
PassesTo areas read k = (j : ℕ) → j < k → fault_at areas read j ≡ None

-- no line has a fault, and these are the rules
pub record IsRead (areas : List Area) (read : List Reading) (said : List Rule) : Type 0 where
  pub sound : PassesTo areas read (length read)
  pub rules_are : said ≡ rules read

-- the first line with a fault, from 1, and the fault's kind
pub record IsFirst (areas : List Area) (read : List Reading) (line kind : ℕ) : Type 0 where
  pub place : ℕ
  pub within : place < length read
  pub before : PassesTo areas read place
  pub here : fault_at areas read place ≡ Some kind
  pub counted : line ≡ place + 1

-- the text is a schedule of the space, with these rules
abbrev pub Denotes : List Area → Text → List Rule → Type 0
Denotes areas text said = IsRead areas (readings text) said

-- the first fault of the text
abbrev pub IsFirstFault : List Area → Text → ℕ → ℕ → Type 0
IsFirstFault areas text line kind = IsFirst areas (readings text) line kind

-- an area of the space has each page that the rules name
abbrev pub ArePlaced : List Area → List Rule → Type 0
ArePlaced areas said = All (λ rule. is_placed areas rule ≡ true) said

-- the rules of a text without fault, or the first fault of others
abbrev pub Reads : List Area → List Reading → Result (List Rule) SchedError → Type 0
Reads areas read (Ok said) = IsRead areas read said
Reads areas read (Err (Fault line kind)) = IsFirst areas read line kind
Reads areas read (Err NoMemory) = ⊤
