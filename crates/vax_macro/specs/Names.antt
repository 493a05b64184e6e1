-- Names, and functions from names.
use Rattle.std.specs.Prelude.{ℕ, Bool, false, not, ◌&&◌, nat_le, cond, List, [], ◌∷◌, length, Option, codes}
use Rattle.std.specs.List.{list_all}
use Rattle.std.specs.Char.{is_ascii_digit}
use Rattle.std.specs.Str.{bytes_eq}
use Rattle.vax_lex.specs.Characters.{is_name_character}

-- a name of 1 to 31 characters that begins with no digit; `.` is none
abbrev pub is_name : List ℕ → Bool
is_name [] = false
is_name (b ∷ text) =
    not (is_ascii_digit b) && list_all is_name_character (b ∷ text) && nat_le (length (b ∷ text)) 31 && not (bytes_eq (b ∷ text) (codes "."))

-- these values, but x at the name
abbrev pub with_entry : {X : Type 0} → List ℕ → Option X → (List ℕ → Option X) → List ℕ → Option X
with_entry name x entries n = cond (bytes_eq name n) x (entries n)
