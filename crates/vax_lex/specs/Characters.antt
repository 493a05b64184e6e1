-- The characters of a source (VAX MACRO and Instruction Set Reference Manual, "Character set" and "Numbers").
use Rattle.std.specs.Prelude.{ℕ, ◌+◌, ◌*◌, Bool, true, false, not, ◌&&◌, ◌||◌, ◌==◌, nat_lt, List, [], ◌∷◌, map, drop, if◌then◌else◌}
use Rattle.std.specs.List.{prefix_len}
use Rattle.std.specs.Char.{is_ascii_alphabetic, is_ascii_digit, is_ascii_graphic, to_ascii_uppercase, digit_value}

-- space, tab and form feed
abbrev pub is_blank : ℕ → Bool
is_blank b = (b == 32) || (b == 9) || (b == 12)

-- a letter, a digit, `_`, `$` or `.`
abbrev pub is_name_character : ℕ → Bool
is_name_character b = is_ascii_alphabetic b || is_ascii_digit b || (b == 95) || (b == 36) || (b == 46)

-- printable, and none of `<`, `=`, `;` and `-`
abbrev pub is_delimiter : ℕ → Bool
is_delimiter b = is_ascii_graphic b && not (b == 60) && not (b == 61) && not (b == 59) && not (b == 45)

-- b is a digit of this radix; letters are digits from ten on, in either case
abbrev pub is_digit : ℕ → ℕ → Bool
is_digit radix b = nat_lt (digit_value b) radix

-- the radix of `^B`, `^O`, `^D` and `^X`; every other letter has radix 0, which has no digits
abbrev pub radix_of : ℕ → ℕ
radix_of c =
    if to_ascii_uppercase c == 66 then 2
    else (if to_ascii_uppercase c == 79 then 8
    else (if to_ascii_uppercase c == 68 then 10
    else (if to_ascii_uppercase c == 88 then 16
    else 0)))

-- the number whose digits are n's and then these
unfoldable pub number_after : ℕ → ℕ → List ℕ → ℕ
number_after radix n [] = n
number_after radix n (d ∷ ds) = number_after radix (n * radix + digit_value d) ds

-- the number that the digits write, highest first
abbrev pub number_of : ℕ → List ℕ → ℕ
number_of radix digits = number_after radix 0 digits

-- the text is this word of capitals, in letters of either case
abbrev pub spells : List ℕ → List ℕ → Bool
spells [] [] = true
spells (c ∷ word) (b ∷ text) = (to_ascii_uppercase b == c) && spells word text
spells [] (b ∷ text) = false
spells (c ∷ word) [] = false

abbrev pub is_zero : ℕ → Bool
is_zero b = b == 48

-- How a name is kept: in capitals, and the number of a local label without zeros before it.
abbrev pub canonical_name : List ℕ → List ℕ
canonical_name text = map to_ascii_uppercase (drop (prefix_len is_zero text) text)
