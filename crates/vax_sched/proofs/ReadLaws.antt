-- One line after the other.
use Rattle.std.proofs.Common.{◌≡◌, ◌<◌, ◌≤◌, ℕ, ◌+◌, true, false, not, Bool, List, [], ◌∷◌, ◌++◌, Option, Some, None, length, take, drop, get_or, refl, sym, ap, ◌∙◌, arith, add-one, below_more, length-append, if◌then◌else◌}
use Rattle.std.proofs.Math.Seq.{drop-cons}
use Rattle.std.proofs.lemmas.List.{take_more, take_all, length-drop, append-nil}
use Rattle.std.proofs.lemmas.List.Elements.{filter_map-append, All-push}
use Rattle.std.specs.List.{filter_map}
use Rattle.vax_space.specs.declared.Area.{Area}
use Rattle.vax_lines.specs.Lines.{Text, lines}
use Rattle.vax_sched.specs.Rules.{Reading, silent, says, malformed, line_of, readings, rule_in, rules}
use Rattle.vax_sched.specs.Kept.{is_late_reading}
use Rattle.vax_sched.specs.Faults.{fault_of, fault_at, is_placed, is_late, PassesTo, IsRead, IsFirst, ArePlaced}
use Rattle.vax_sched.specs.declared.rule.Rule.{Rule}
use Rattle.vax_sched.proofs.DueLaws.{picked}

-- line k is this, and those stand behind it
pub record IsNext (read : List Reading) (k : ℕ) (x : Reading) (behind : List Reading) : Type 0 where
  pub within : k < length read
  pub here : get_or read k silent ≡ x
  pub left : drop (k + 1) read ≡ behind
  pub longer : take (k + 1) read ≡ take k read ++ x ∷ []

next_is : (read : List Reading) (k : ℕ) (x : Reading) (behind : List Reading) → drop k read ≡ x ∷ behind → IsNext read k x behind
next_is read k x behind e =
    let within : k < length read = omega (arith, length-drop k read, ap length e) in
    let split : get_or read k silent ∷ drop (k + 1) read ≡ x ∷ behind = rw add-one (sym (drop-cons read k silent within) ∙ e) in
    let here : get_or read k silent ≡ x = cc in
    record {
      within = within;
      here = here;
      left = cc;
      longer = take_more read k silent within ∙ ap (λ y. take k read ++ y ∷ []) here;
    }

-- the next line of a text, by what reading its first line gives
pub next_reading : (text rest line behind : Text) (k : ℕ) (x : Reading) → readings rest ≡ drop k (readings text) → lines rest ≡ line ∷ lines behind → x ≡ line_of line → IsNext (readings text) k x (readings behind)
next_reading text rest line behind k x e l is =
    let first : readings rest ≡ line_of line ∷ readings behind = rw l refl in
    let split : drop k (readings text) ≡ x ∷ readings behind = sym e ∙ first ∙ ap (λ y. y ∷ readings behind) (sym is) in
    next_is (readings text) k x (readings behind) split

-- a line with a fault
pub line_fault : (areas : List Area) (read : List Reading) (k : ℕ) (x : Reading) (behind : List Reading) (said : List Rule) (number kind : ℕ) → IsNext read k x behind → PassesTo areas read k → said ≡ rules (take k read) → fault_of areas said x ≡ Some kind → number ≡ k + 1 → IsFirst areas read number kind
line_fault areas read k x behind said number kind next passed kept f n =
    record { place = k; within = next.within; before = passed; here = rw (next.here, ← kept) f; counted = n }

-- one more line has passed
pub passes_more : (areas : List Area) (read : List Reading) (k : ℕ) (x : Reading) (behind : List Reading) (said : List Rule) → IsNext read k x behind → PassesTo areas read k → said ≡ rules (take k read) → fault_of areas said x ≡ None → PassesTo areas read (k + 1)
passes_more areas read k x behind said next passed kept f =
    let here : fault_at areas read k ≡ None = rw (next.here, ← kept) f in
    below_more _ k passed here

-- and is kept
pub keeps_more : (read : List Reading) (k : ℕ) (x : Reading) (behind : List Reading) (said more : List Rule) → IsNext read k x behind → said ≡ rules (take k read) → more ≡ said ++ filter_map rule_in (x ∷ []) → more ≡ rules (take (k + 1) read)
keeps_more read k x behind said more next kept m =
    m ∙ ap (λ s. s ++ filter_map rule_in (x ∷ [])) kept ∙ sym (filter_map-append rule_in (take k read) (x ∷ [])) ∙ ap rules (sym next.longer)

-- the fault of a rule, by what its two tests answer
abbrev pub verdict : Bool → Bool → Option ℕ
verdict a b = if not a then Some 2 else if b then Some 3 else None

tests_pass : (a b : Bool) → verdict a b ≡ None → (a ≡ true) × (b ≡ false)
tests_pass true true e = absurd (cc)
tests_pass true false e = (refl, refl)
tests_pass false b e = absurd (cc)

-- the page of a line without fault is there
pub placed_more : (areas : List Area) (said more : List Rule) (x : Reading) → ArePlaced areas said → fault_of areas said x ≡ None → more ≡ said ++ filter_map rule_in (x ∷ []) → ArePlaced areas more
placed_more areas said more silent all f m = rw (m, append-nil) all
placed_more areas said more (says rule) all f m = rw m (All-push (λ r. is_placed areas r ≡ true) said rule all (tests_pass (is_placed areas rule) (is_late said rule) f).0)
placed_more areas said more malformed all f m = rw (m, append-nil) all

-- a line without fault is in order
pub in_order : (areas : List Area) (said : List Rule) (x : Reading) → fault_of areas said x ≡ None → is_late_reading said x ≡ false
in_order areas said silent f = refl
in_order areas said (says rule) f = (tests_pass (is_placed areas rule) (is_late said rule) f).1
in_order areas said malformed f = refl

-- no line is left
pub all_read : (areas : List Area) (text rest : Text) (k : ℕ) (said : List Rule) → readings rest ≡ drop k (readings text) → lines rest ≡ [] → PassesTo areas (readings text) k → said ≡ rules (take k (readings text)) → IsRead areas (readings text) said
all_read areas text rest k said e l passed kept =
    let none : readings rest ≡ [] = rw l refl in
    let short : length (readings text) ≤ k = omega (arith, length-drop k (readings text), ap length (sym e ∙ none)) in
    record {
      sound = λ j h. passed j (omega arith);
      rules_are = kept ∙ ap rules (take_all k (readings text) short);
    }

-- one line more is at most one rule more
pub one_longer : (said more : List Rule) (x : Reading) → more ≡ said ++ filter_map rule_in (x ∷ []) → length more ≤ length said + 1
one_longer said more x e =
    let a = picked rule_in (x ∷ []) in
    rw (e, length-append said (filter_map rule_in (x ∷ []))) (omega (arith, a))
