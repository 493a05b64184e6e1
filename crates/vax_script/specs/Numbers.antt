-- The numbers of a script.
use Rattle.std.specs.Prelude.{ℕ, ◌-◌, ◌^◌, ◌==◌, ◌||◌, nat_lt, List, [], ◌∷◌, length, codes, Option, None, Some, option_map, if◌then◌else◌}
use Rattle.std.specs.Str.{bytes_eq}
use Rattle.vax_lines.specs.Lines.{Text}
use Rattle.vax_lines.specs.Numbers.{number, number_in}

-- the number of a register, 0 to 15
abbrev pub register_number : Text → Option ℕ
register_number w = if bytes_eq w (codes "0") then Some 0 else number 15 w

-- a register's name: R0 to R15
unfoldable pub register : Text → Option ℕ
register [] = None
register (c ∷ cs) = if c == 82 then register_number cs else None

-- eight hexadecimal digits
unfoldable pub longword : Text → Option ℕ
longword w = if length w == 8 then number_in 16 (2 ^ 32 - 1) w else None

-- two hexadecimal digits
abbrev pub byte : ℕ → ℕ → Option ℕ
byte high low = number_in 16 255 (high ∷ low ∷ [])

-- one byte more in front
abbrev pub begun : Option ℕ → Option (List ℕ) → Option (List ℕ)
begun None more = None
begun (Some b) more = option_map (λ bytes. b ∷ bytes) more

-- bytes of two hexadecimal digits each
unfoldable pub bytes : Text → Option (List ℕ)
bytes [] = Some []
bytes (high ∷ []) = None
bytes (high ∷ low ∷ rest) = begun (byte high low) (bytes rest)

-- 1 to 64 bytes
unfoldable pub some_bytes : Text → Option (List ℕ)
some_bytes w = if length w == 0 || nat_lt 128 (length w) then None else bytes w
