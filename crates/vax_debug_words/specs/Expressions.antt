-- Numbers, names and expressions of a debugger's line.
use Rattle.std.specs.Prelude.{ℕ, ◌<◌, ◌≤◌, ◌-◌, ◌%◌, ◌^◌, ◌==◌, ◌&&◌, ◌||◌, not, Bool, nat_lt, nat_le, List, [], ◌∷◌, codes, length, take, drop, map, Option, None, Some, option_map, if◌then◌else◌}
use Rattle.std.specs.List.{list_all, prefix_len}
use Rattle.std.specs.Char.{to_ascii_uppercase, is_ascii_alphanumeric, is_ascii_hexdigit}
use Rattle.vax_lines.specs.Lines.{Text}
use Rattle.vax_lines.specs.Numbers.{number, number_in}
use Rattle.vax_debug_words.specs.Commands.{is_called}
use Rattle.vax_debug_words.specs.declared.request.Base.{Base}
use Rattle.vax_debug_words.specs.declared.request.Base.TheVariants as is
use Rattle.vax_debug_words.specs.declared.request.Expression.{Expression}

-- hexadecimal digits, one at least
unfoldable pub is_hexadecimal : Text → Bool
is_hexadecimal w = nat_lt 0 (length w) && list_all is_ascii_hexdigit w

-- a number of 32 bits in hexadecimal digits, with zeros before it or without
unfoldable pub longword : Text → Option ℕ
longword w = if length w == 0 then None else number_in 16 (2 ^ 32 - 1) w

-- the number of a register in decimal, 0 to 15
unfoldable pub register_number : Text → Option ℕ
register_number w = if is_called (codes "0") w then Some 0 else number 15 w

-- `R` with a number
unfoldable pub numbered : Text → Option ℕ
numbered [] = None
numbered (c ∷ cs) = if to_ascii_uppercase c == 82 then register_number cs else None

-- a register by any of its names
unfoldable pub register : Text → Option ℕ
register w =
    if is_called (codes "AP") w then Some 12
    else if is_called (codes "FP") w then Some 13
    else if is_called (codes "SP") w then Some 14
    else if is_called (codes "PC") w then Some 15
    else numbered w

-- a letter, a digit, a dollar sign, a point or a low line
abbrev pub is_name_byte : ℕ → Bool
is_name_byte c = is_ascii_alphanumeric c || c == 36 || c == 46 || c == 95

-- a name of 1 to 31 such characters, in capitals
unfoldable pub name : Text → Option (List ℕ)
name w =
    if nat_lt 0 (length w) && nat_le (length w) 31 && list_all is_name_byte w then Some (map to_ascii_uppercase w) else None

-- a register behind an `@`, since only its contents are an address or a number
abbrev pub of_register : (through n : ℕ) → Option Base
of_register through n = if through == 0 then None else Some (is.Register n)

abbrev pub base_by : ℕ → Option ℕ → Option (List ℕ) → Option Base
base_by through (Some n) word = of_register through n
base_by through None word = option_map is.Named word

-- a register, or else a name
abbrev pub base_of : ℕ → Text → Option Base
base_of through w = base_by through (register w) (name w)

-- what is taken off an address
abbrev pub negative : ℕ → ℕ
negative n = (2 ^ 32 - n) % 2 ^ 32

-- nothing, or a sign with a number
unfoldable pub offset : Text → Option ℕ
offset [] = Some 0
offset (c ∷ cs) = if c == 43 then longword cs else option_map negative (longword cs)

-- up to a sign
abbrev pub base_len : Text → ℕ
base_len w = prefix_len (λ c. not (c == 43 || c == 45)) w

abbrev pub joined : ℕ → Option Base → Option ℕ → Option Expression
joined through None offset = None
joined through (Some base) offset = option_map (λ n. record { base = base; through = through; offset = n }) offset

-- `@`s, a base, and what is added to it or taken off
abbrev pub behind_signs : ℕ → Text → Option Expression
behind_signs through w = joined through (base_of through (take (base_len w) w)) (offset (drop (base_len w) w))

abbrev pub signs : Text → ℕ
signs w = prefix_len (λ c. c == 64) w

-- at most 16 `@`s
unfoldable pub expression : Text → Option Expression
expression w = if nat_lt 16 (signs w) then None else behind_signs (signs w) (drop (signs w) w)

-- a register's number is below 16
abbrev pub IsBase : Base → Type 0
IsBase (is.Register n) = n < 16
IsBase (is.Named word) = Unit {0}

-- its base is proper, and it has at most 16 `@`s
pub record IsExpression (e : Expression) : Type 0 where
  pub base : IsBase e.base
  pub through : e.through ≤ 16
