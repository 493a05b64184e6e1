-- The values of names, the names of addresses, and the statements that are there.
use Rattle.std.specs.Prelude.{ℕ, ◌+◌, ◌-◌, ◌==◌, ◌&&◌, ◌||◌, not, Bool, true, is_some, nat_le, nat_lt, List, [], ◌∷◌, Option, None, Some, if◌then◌else◌}
use Rattle.std.specs.Str.{bytes_eq}
use Rattle.vax_debug_words.specs.Expressions.{is_hexadecimal, longword}
use Rattle.vax_debug_names.specs.declared.Symbol.{Symbol}
use Rattle.vax_debug_names.specs.declared.SourceLine.{SourceLine}
use Rattle.vax_debug_names.specs.declared.Near.{Near}

-- that of the first symbol with this name
unfoldable pub value_of : List Symbol → List ℕ → Option ℕ
value_of [] name = None
value_of (symbol ∷ symbols) name = if bytes_eq symbol.name name then Some symbol.value else value_of symbols name

abbrev pub or_number : Option ℕ → List ℕ → Option ℕ
or_number (Some value) word = Some value
or_number None word = longword word

-- a symbol's value, or else a number in hexadecimal digits
unfoldable pub number_of : List Symbol → List ℕ → Option ℕ
number_of symbols word = or_number (value_of symbols word) word

-- digits that are no name, of a number of more than 32 bits
unfoldable pub is_too_large : List Symbol → List ℕ → Bool
is_too_large symbols word = not (is_some (number_of symbols word)) && is_hexadecimal word

-- a distance is less than the one that was found, if one was
abbrev pub is_less : ℕ → Option Near → Bool
is_less distance None = true
is_less distance (Some near) = nat_lt distance near.distance

-- a symbol names its own address, and the bytes up to its section's end
abbrev pub is_within : (reach distance : ℕ) → Bool
is_within reach distance = distance == 0 || nat_lt distance reach

-- a symbol that is an address in the program, and names this one
abbrev pub reaches : ℕ → Symbol → Bool
reaches address symbol =
    (symbol.is_place && nat_le symbol.value address) && is_within symbol.reach (address - symbol.value)

-- of what was found and a symbol the nearer: the symbol only where it is
unfoldable pub nearer : (index address : ℕ) → Symbol → Option Near → Option Near
nearer index address symbol found =
    if reaches address symbol && is_less (address - symbol.value) found
    then Some (record { index = index; distance = address - symbol.value })
    else found

-- the nearest of what was found and of symbols from one number on
unfoldable pub nearest_from : (index address : ℕ) → Option Near → List Symbol → Option Near
nearest_from index address found [] = found
nearest_from index address found (symbol ∷ symbols) =
    nearest_from (index + 1) address (nearer index address symbol found) symbols

-- of all symbols
abbrev pub nearest : List Symbol → (address : ℕ) → Option Near
nearest symbols address = nearest_from 0 address None symbols

-- the first statement whose first byte is at an address
unfoldable pub line_at : List SourceLine → (address : ℕ) → Option SourceLine
line_at [] address = None
line_at (line ∷ lines) address = if line.address == address then Some line else line_at lines address
