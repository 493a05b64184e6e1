-- The numbers of a line.
use Rattle.std.specs.Prelude.{ℕ, ◌==◌, ◌&&◌, Bool, nat_lt, nat_le, [], ◌∷◌, Option, None, Some, if◌then◌else◌}
use Rattle.std.specs.List.{list_all}
use Rattle.std.specs.Char.{digit_value}
use Rattle.std.specs.Str.Parse.{digits_value}
use Rattle.vax_lines.specs.Lines.{Text}

abbrev pub are_digits : ℕ → Text → Bool
are_digits radix w = list_all (λ c. nat_lt (digit_value c) radix) w

-- the number that digits write, if it isn't above the greatest
abbrev pub number_in : ℕ → ℕ → Text → Option ℕ
number_in radix most w = if are_digits radix w && nat_le (digits_value radix w) most then Some (digits_value radix w) else None

-- a number, if it isn't 0
abbrev pub from_one : Option ℕ → Option ℕ
from_one (Some n) = if n == 0 then None else Some n
from_one None = None

-- a decimal number from 1 to the greatest, without sign or leading zero
unfoldable pub number : ℕ → Text → Option ℕ
number most [] = None
number most (c ∷ cs) = if c == 48 then None else from_one (number_in 10 most (c ∷ cs))
