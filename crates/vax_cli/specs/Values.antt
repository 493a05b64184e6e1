-- What the values of options say.
use Rattle.std.specs.Prelude.{ℕ, Bool, true, false, nat_le, nat_lt, ◌&&◌, ◌==◌, ◌-◌, ◌^◌, List, [], ◌∷◌, length, codes, Option, None, Some, if◌then◌else◌}
use Rattle.std.specs.Option.{option_map, option_and_then}
use Rattle.std.specs.List.{list_all, before_first, after_first, position_or_len, slice_split}
use Rattle.std.specs.Char.{digit_value}
use Rattle.std.specs.Str.{bytes_eq}
use Rattle.std.specs.Str.Parse.{digits_value}
use Rattle.vax_cli.specs.Table.{Text}
use Rattle.vax_dialect.specs.declared.Dialect.{Dialect}
use Rattle.vax_dialect.specs.declared.Dialect.TheVariants.{Vax, Vms}
use Rattle.vax_cli.specs.declared.command.DumpItem.{DumpItem}
use Rattle.vax_cli.specs.declared.command.Base.{Base}
use Rattle.vax_cli.specs.declared.command.Base.TheVariants as base
use Rattle.vax_cli.specs.declared.command.Format.{Format}
use Rattle.vax_cli.specs.declared.command.Strictness.{Strictness}
use Rattle.vax_cli.specs.declared.command.Strictness.TheVariants.{Off}
use Rattle.vax_cli.specs.declared.command.Format.TheVariants as format

-- the number that digits alone write, if it isn't above the greatest
unfoldable pub digits : ℕ → ℕ → Text → Option ℕ
digits radix most [] = None
digits radix most (c ∷ cs) =
    if list_all (λ d. nat_lt (digit_value d) radix) (c ∷ cs) && nat_le (digits_value radix (c ∷ cs)) most
    then Some (digits_value radix (c ∷ cs)) else None

-- a zero stands in front of more digits
abbrev pub is_padded : Text → Bool
is_padded [] = false
is_padded (c ∷ []) = false
is_padded (c ∷ d ∷ cs) = c == 48

-- a decimal number
abbrev pub decimal : ℕ → Text → Option ℕ
decimal most word = if is_padded word then None else digits 10 most word

-- a number that isn't below the least
abbrev pub from_least : ℕ → Option ℕ → Option ℕ
from_least least (Some n) = if nat_lt n least then None else Some n
from_least least None = None

-- the number of an option: its usual value where nothing is said, else one from the least to the greatest
abbrev pub number_of : ℕ → ℕ → ℕ → Option Text → Option ℕ
number_of usual least most None = Some usual
number_of usual least most (Some word) = from_least least (decimal most word)

-- so many pages may be resident: 64 to 32,768
abbrev pub frames_of : Option Text → Option ℕ
frames_of word = number_of 256 64 32768 word

-- the most steps of a run: 0 to 10^15
abbrev pub steps_of : Option Text → Option ℕ
steps_of word = number_of 10000000 0 (10 ^ 15) word

-- the most turns of a run: 1 to 10^15
abbrev pub turns_of : Option Text → Option ℕ
turns_of word = number_of (10 ^ 12) 1 (10 ^ 15) word

-- the number that a workload is made from: 0 to 2^32 - 1
abbrev pub seed_of : Option Text → Option ℕ
seed_of word = number_of 1 0 (2 ^ 32 - 1) word

-- the size of a workload: 1 to 5,000
abbrev pub size_of : Option Text → Option ℕ
size_of word = number_of 100 1 5000 word

abbrev pub base_of : Option Text → Option Base
base_of None = Some base.User
base_of (Some word) = if bytes_eq word (codes "user") then Some base.User else if bytes_eq word (codes "bare") then Some base.Bare else None

-- the dialect of sources: the smaller one where nothing is said
abbrev pub dialect_of : Option Text → Option Dialect
dialect_of None = Some Vax
dialect_of (Some word) = if bytes_eq word (codes "vax") then Some Vax else if bytes_eq word (codes "vms") then Some Vms else None

abbrev pub format_of : Option Text → Option Format
format_of None = Some format.First
format_of (Some word) = if bytes_eq word (codes "1") then Some format.First else if bytes_eq word (codes "2") then Some format.Second else None

-- what an exit status tells of the end of a run, of which it may tell so much
abbrev pub strictness : Strictness → Bool → Strictness
strictness most true = most
strictness most false = Off

-- whether an option is on
abbrev pub switch_of : Option Text → Option Bool
switch_of None = Some false
switch_of (Some word) = if bytes_eq word (codes "on") then Some true else if bytes_eq word (codes "off") then Some false else None

abbrev pub is_colon : ℕ → Bool
is_colon c = c == 58

abbrev pub is_comma : ℕ → Bool
is_comma c = c == 44

-- an address of eight hexadecimal digits
abbrev pub address_of : Text → Option ℕ
address_of word = if length word == 8 then digits 16 (2 ^ 32 - 1) word else None

-- how many bytes: 1 to 4,096
abbrev pub count_of : Text → Option ℕ
count_of word = from_least 1 (decimal 4096 word)

abbrev pub dump_between : Text → Text → Option DumpItem
dump_between address count =
    option_and_then (λ address. option_map (λ count. record { address = address; count = count }) (count_of count)) (address_of address)

-- an address and a count, with a colon between them
abbrev pub dump_item : Text → Option DumpItem
dump_item word =
    if nat_lt (position_or_len is_colon word) (length word) then dump_between (before_first is_colon word) (after_first is_colon word) else None

abbrev pub dump_items : List Text → Option (List DumpItem)
dump_items [] = Some []
dump_items (word ∷ words) = option_and_then (λ item. option_map (λ items. item ∷ items) (dump_items words)) (dump_item word)

-- a list, if it isn't longer than so many
abbrev pub at_most : {A : Type 0} → ℕ → List A → Option (List A)
at_most most items = if nat_le (length items) most then Some items else None

-- the parts of a text between its commas, if there is a text
abbrev pub parts_behind : Option Text → List Text
parts_behind None = []
parts_behind (Some text) = slice_split is_comma text

-- one to sixteen items, with commas between them; none where nothing is said
abbrev pub dumps_of : Option Text → Option (List DumpItem)
dumps_of None = Some []
dumps_of (Some word) = option_and_then (at_most 16) (dump_items (slice_split is_comma word))
