-- Names and options in the words behind a command.
use Rattle.std.specs.Prelude.{ℕ, Bool, true, false, not, nat_lt, ◌&&◌, ◌||◌, ◌==◌, List, [], ◌∷◌, length, Option, None, Some, is_none, if◌then◌else◌}
use Rattle.std.specs.Option.{option_map, option_and_then}
use Rattle.std.specs.List.{before_first, after_first, position_or_len}
use Rattle.vax_cli.specs.Table.{Text, key_of, is_same, may_repeat}
use Rattle.vax_cli.specs.declared.table.Key.{Key}

-- neither empty nor beginning with a dash
abbrev pub is_plain : Text → Bool
is_plain [] = false
is_plain (b ∷ bs) = not (b == 45)

-- a name, or an option with its value
pub data Item : Type 0 where
  name : Text → Item
  setting : Key → Text → Item

-- what a word says: an item, or the option whose value the next word is
pub data Reading : Type 0 where
  whole : Item → Reading
  opened : Key → Reading

abbrev pub is_equals : ℕ → Bool
is_equals c = c == 61

abbrev pub setting_of : Key → Text → Option Item
setting_of key value = if is_plain value then Some (setting key value) else None

-- What a word says, behind an option whose value it is, or behind none: then it is a name, an option with its value behind `=`, or an option alone.
abbrev pub read_word : List Key → Option Key → Text → Option Reading
read_word keys (Some key) word = option_map whole (setting_of key word)
read_word keys None word =
    if is_plain word then Some (whole (name word))
    else if nat_lt (position_or_len is_equals word) (length word)
    then option_and_then (λ key. option_map whole (setting_of key (after_first is_equals word))) (key_of keys (before_first is_equals word))
    else option_map opened (key_of keys word)

-- what a word says, and the words behind it
abbrev pub followed : Reading → (Option Key → Option (List Item)) → Option (List Item)
followed (whole item) rest = option_map (λ items. item ∷ items) (rest None)
followed (opened key) rest = rest (Some key)

-- the items that words say, behind an option whose value the first of them is, or behind none
abbrev pub items_from : List Key → Option Key → List Text → Option (List Item)
items_from keys pending [] = if is_none pending then Some [] else None
items_from keys pending (word ∷ words) = option_and_then (λ reading. followed reading (λ pending. items_from keys pending words)) (read_word keys pending word)

-- the names, in order
abbrev pub names : List Item → List Text
names [] = []
names (name word ∷ items) = word ∷ names items
names (setting key value ∷ items) = names items

-- the value of an option, if it is there
abbrev pub value : Key → List Item → Option Text
value wanted [] = None
value wanted (name word ∷ items) = value wanted items
value wanted (setting key word ∷ items) = if is_same key wanted then Some word else value wanted items

-- the values of an option that may stand there several times, in order
abbrev pub values : Key → List Item → List Text
values wanted [] = []
values wanted (name word ∷ items) = values wanted items
values wanted (setting key word ∷ items) = if is_same key wanted then word ∷ values wanted items else values wanted items

-- each option is there at most once, but for one that may stand there several times
abbrev pub are_distinct : List Item → Bool
are_distinct [] = true
are_distinct (name word ∷ items) = are_distinct items
are_distinct (setting key word ∷ items) = (may_repeat key || is_none (value key items)) && are_distinct items
