-- The names of registers: R0 to R15, AP, FP, SP and PC (VAX MACRO and Instruction Set Reference Manual, "Symbols").
use Rattle.std.specs.Prelude.{ℕ, ◌+◌, ◌-◌, ◌&&◌, ◌==◌, nat_le, if◌then◌else◌, List, [], ◌∷◌, Option, Some, None}
use Rattle.std.specs.Char.{to_ascii_uppercase}

abbrev pub two_capitals : ℕ → ℕ → Option ℕ
two_capitals a b =
    if a == 82 then (if nat_le 48 b && nat_le b 57 then Some (b - 48) else None)
    else (if (a == 65) && (b == 80) then Some 12
    else (if (a == 70) && (b == 80) then Some 13
    else (if (a == 83) && (b == 80) then Some 14
    else (if (a == 80) && (b == 67) then Some 15
    else None))))

abbrev pub two_characters : ℕ → ℕ → Option ℕ
two_characters a b = two_capitals (to_ascii_uppercase a) (to_ascii_uppercase b)

abbrev pub three_characters : ℕ → ℕ → ℕ → Option ℕ
three_characters a b c =
    if (to_ascii_uppercase a == 82) && (b == 49) && nat_le 48 c && nat_le c 53 then Some (10 + (c - 48)) else None

abbrev pub register_of : List ℕ → Option ℕ
register_of [] = None
register_of (a ∷ []) = None
register_of (a ∷ b ∷ []) = two_characters a b
register_of (a ∷ b ∷ c ∷ []) = three_characters a b c
register_of (a ∷ b ∷ c ∷ d ∷ more) = None
