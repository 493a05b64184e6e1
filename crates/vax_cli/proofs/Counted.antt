-- So many names and distinct options are no more than 37 items, with four files of macros.
use Rattle.std.proofs.Common.{◌≡◌, ◌≤◌, ◌+◌, ◌&&◌, ◌||◌, ℕ, Bool, true, false, nat_le, List, [], ◌∷◌, length, Option, None, Some, is_none, refl, arith}
use Rattle.std.proofs.lemmas.Bool.Decides.{nat_tests}
use Rattle.std.specs.Option.{option_and_then}
use Rattle.vax_cli.specs.Table.{Text, may_repeat, takes_files}
use Rattle.vax_cli.specs.Values.{at_most}
use Rattle.vax_cli.specs.Items.{Item, name, setting, names, value, values, are_distinct}
use Rattle.vax_cli.specs.Words.{checked, is_plain}
use Rattle.vax_cli.specs.declared.table.Key.{Key}
use Rattle.vax_cli.specs.declared.table.Key.TheVariants as key
use Rattle.vax_cli.specs.declared.table.Verb.{Verb}
use Rattle.vax_cli.specs.declared.table.Verb.TheVariants as verb

-- 1 where an option is there
unfoldable present : Option Text → ℕ
present None = 0
present (Some word) = 1

present-some : (word : Text) → present (Some word) ≡ 1
unfolding present
present-some word = refl

present-none : (o : Option Text) → is_none o ≡ true → present o ≡ 0
unfolding present
present-none None e = refl
present-none (Some word) e = absurd (cc e)

present-one : (o : Option Text) → present o ≤ 1
unfolding present
present-one None = omega arith
present-one (Some word) = omega arith

-- how many options are there
abbrev given : List Item → ℕ
given items =
    present (value key.Input items) + present (value key.System items) + present (value key.Schedule items) + present (value key.Frames items)
    + present (value key.Steps items) + present (value key.Turns items) + present (value key.Dump items) + present (value key.Record items)
    + present (value key.Base items) + present (value key.Format items) + present (value key.Script items) + present (value key.Seed items)
    + present (value key.Size items) + present (value key.Strict items) + present (value key.Break items) + present (value key.Watch items)
    + present (value key.Text items) + present (value key.Opcode items) + present (value key.Count items) + present (value key.Absent items) + present (value key.Mode items)
    + present (value key.Order items) + present (value key.Pool items) + present (value key.Dialect items) + present (value key.Prompt items)
    + length (values key.Macros items)

-- an option that wasn't there, or one more of those that may stand there several times
one_more : (k : Key) (word : Text) (items : List Item) → (may_repeat k || is_none (value k items)) ≡ true → given (setting k word ∷ items) ≡ given items + 1
one_more key.Input word items e = omega (arith, present-some word, present-none (value key.Input items) e)
one_more key.System word items e = omega (arith, present-some word, present-none (value key.System items) e)
one_more key.Schedule word items e = omega (arith, present-some word, present-none (value key.Schedule items) e)
one_more key.Frames word items e = omega (arith, present-some word, present-none (value key.Frames items) e)
one_more key.Steps word items e = omega (arith, present-some word, present-none (value key.Steps items) e)
one_more key.Turns word items e = omega (arith, present-some word, present-none (value key.Turns items) e)
one_more key.Dump word items e = omega (arith, present-some word, present-none (value key.Dump items) e)
one_more key.Record word items e = omega (arith, present-some word, present-none (value key.Record items) e)
one_more key.Base word items e = omega (arith, present-some word, present-none (value key.Base items) e)
one_more key.Format word items e = omega (arith, present-some word, present-none (value key.Format items) e)
one_more key.Script word items e = omega (arith, present-some word, present-none (value key.Script items) e)
one_more key.Seed word items e = omega (arith, present-some word, present-none (value key.Seed items) e)
one_more key.Size word items e = omega (arith, present-some word, present-none (value key.Size items) e)
one_more key.Strict word items e = omega (arith, present-some word, present-none (value key.Strict items) e)
one_more key.Break word items e = omega (arith, present-some word, present-none (value key.Break items) e)
one_more key.Watch word items e = omega (arith, present-some word, present-none (value key.Watch items) e)
one_more key.Text word items e = omega (arith, present-some word, present-none (value key.Text items) e)
one_more key.Opcode word items e = omega (arith, present-some word, present-none (value key.Opcode items) e)
one_more key.Count word items e = omega (arith, present-some word, present-none (value key.Count items) e)
one_more key.Absent word items e = omega (arith, present-some word, present-none (value key.Absent items) e)
one_more key.Mode word items e = omega (arith, present-some word, present-none (value key.Mode items) e)
one_more key.Order word items e = omega (arith, present-some word, present-none (value key.Order items) e)
one_more key.Pool word items e = omega (arith, present-some word, present-none (value key.Pool items) e)
one_more key.Dialect word items e = omega (arith, present-some word, present-none (value key.Dialect items) e)
one_more key.Prompt word items e = omega (arith, present-some word, present-none (value key.Prompt items) e)
one_more key.Macros word items e = omega arith

few_given : (items : List Item) → length (values key.Macros items) ≤ 4 → given items ≤ 29
few_given items few =
    omega (
      arith,
      few,
      present-one (value key.Input items),
      present-one (value key.System items),
      present-one (value key.Schedule items),
      present-one (value key.Frames items),
      present-one (value key.Steps items),
      present-one (value key.Turns items),
      present-one (value key.Dump items),
      present-one (value key.Record items),
      present-one (value key.Base items),
      present-one (value key.Format items),
      present-one (value key.Script items),
      present-one (value key.Seed items),
      present-one (value key.Size items),
      present-one (value key.Strict items),
      present-one (value key.Break items),
      present-one (value key.Watch items),
      present-one (value key.Text items),
      present-one (value key.Opcode items),
      present-one (value key.Count items),
      present-one (value key.Absent items),
      present-one (value key.Mode items),
      present-one (value key.Order items),
      present-one (value key.Pool items),
      present-one (value key.Dialect items),
      present-one (value key.Prompt items),
    )

both : (a b : Bool) → (a && b) ≡ true → (a ≡ true) × (b ≡ true)
both true b e = (refl, e)
both false b e = absurd (cc e)

counted : (items : List Item) → are_distinct items ≡ true → length items ≤ length (names items) + given items
counted [] e = omega arith
counted (name word ∷ items) e = omega (arith, counted items e)
counted (setting k word ∷ items) e =
    let each = both (may_repeat k || is_none (value k items)) (are_distinct items) e in
    omega (arith, counted items each.1, one_more k word items each.0)

few_names : (v : Verb) (count : ℕ) → takes_files v count ≡ true → count ≤ 8
few_names verb.Bare count e = grind (arith, nat_tests)
few_names verb.Run count e = grind (arith, nat_tests)
few_names verb.Build count e = grind (arith, nat_tests)
few_names verb.List count e = grind (arith, nat_tests)
few_names verb.Listing count e = grind (arith, nat_tests)
few_names verb.Check count e = grind (arith, nat_tests)
few_names verb.Console count e = grind (arith, nat_tests)
few_names verb.Debug count e = grind (arith, nat_tests)
few_names verb.Trace count e = grind (arith, nat_tests)
few_names verb.Save count e = grind (arith, nat_tests)
few_names verb.Resume count e = grind (arith, nat_tests)
few_names verb.Jobs count e = grind (arith, nat_tests)
few_names verb.Work count e = grind (arith, nat_tests)
few_names verb.Vectors count e = grind (arith, nat_tests)

four : (n : ℕ) → nat_le n 4 ≡ true → n ≤ 4
four n e = grind (arith, nat_tests)

few_items : (v : Verb) (items : List Item) → is_plain v items ≡ true → length items ≤ 37
few_items v items e =
    let each = both (takes_files v (length (names items)) && are_distinct items) (nat_le (length (values key.Macros items)) 4) e in
    let own = both (takes_files v (length (names items))) (are_distinct items) each.0 in
    omega (arith, counted items own.1, few_names v (length (names items)) own.0, few_given items (four (length (values key.Macros items)) each.1))

short : (n : ℕ) → nat_le n 37 ≡ false → n ≤ 37 → ⊥
short n e l = grind (arith, nat_tests)

too_long : (v : Verb) (items : List Item) (b : Bool) → is_plain v items ≡ b → nat_le (length items) 37 ≡ false → None ≡ checked v items
too_long v items true e long = absurd (short (length items) long (few_items v items e))
too_long v items false e long = rw e refl

by_length : (v : Verb) (items : List Item) (b : Bool) → nat_le (length items) 37 ≡ b → option_and_then (checked v) (at_most 37 items) ≡ checked v items
by_length v items true e = rw e refl
by_length v items false e = rw (e, ← too_long v items _ refl e) refl

-- more than 37 items are none of a command
pub few_checked : (v : Verb) (items : Option (List Item)) → option_and_then (checked v) (option_and_then (at_most 37) items) ≡ option_and_then (checked v) items
few_checked v None = refl
few_checked v (Some items) = by_length v items _ refl

pub none_checked : (v : Verb) (items : Option (List Item)) → None ≡ option_and_then (at_most 37) items → None ≡ option_and_then (checked v) items
none_checked v items e = rw (← few_checked v items, ← e) refl
