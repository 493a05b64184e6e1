-- Values and what operators make of them (VAX MACRO and Instruction Set Reference Manual, "Terms and expressions",
-- "Unary operators" and "Operation operators"). Values have 64 bits and wrap, or operators see 32 of them, by the dialect.
use Rattle.std.specs.Prelude.{ℕ, zero, ℤ, pos, negsuc, ◌+◌, min, Bool, true, false, ◌==◌, nat_lt, List, [], ◌∷◌, length, ◌*◌, ◌&&◌, nat_le, Option, Some, None, Result, Ok, Err, ok_or, if◌then◌else◌, codes}
use Rattle.std.specs.Int.{w32, w64, int_wrapping_add, int_wrapping_sub, int_wrapping_mul, int_wrapping_div, int_wrapping_neg, int_bit_and, int_bit_or, int_bit_xor, int_bit_not, cast_signed, int_shl, int_shr}
use Rattle.std.specs.Int.{cast_unsigned}
use Rattle.std.specs.Prelude.{◌%◌}
use Rattle.std.specs.Str.{bytes_eq}
use Rattle.vax_dialect.specs.declared.Dialect.{Dialect}
use Rattle.vax_dialect.specs.Differences.{has_longword_values}
use Rattle.vax_lex.specs.declared.value.Value.{Value}
use Rattle.vax_lex.specs.declared.value.Value.TheVariants.{Absolute, Section, External}
use Rattle.vax_lex.specs.declared.value.ExprError.{ExprError}
use Rattle.vax_lex.specs.declared.value.ExprError.TheVariants.{Form, Unknown, Range}

-- the operators between two terms: `+`, `-`, `*`, `/`, `@`, `&`, `!` and `\`
pub data Operation : Type 0 where
  addition : Operation
  subtraction : Operation
  multiplication : Operation
  division : Operation
  arithmetic_shift : Operation
  logical_and : Operation
  inclusive_or : Operation
  exclusive_or : Operation

-- A shift to the left, or to the right for a negative count. From 64 places on nothing is left, or the sign.
abbrev pub shifted : ℤ → ℤ → ℤ
shifted x (pos n) = if nat_lt n 64 then int_shl w64 x n else pos 0
shifted x (negsuc n) = int_shr x (min (n + 1) 63)

-- x / y, towards 0
abbrev pub quotient : ℤ → ℤ → Result Value ExprError
quotient x (pos zero) = Err Range
quotient x y = Ok (Absolute (int_wrapping_div w64 x y))

-- An operator at two numbers.
abbrev pub arithmetic : Operation → ℤ → ℤ → Result Value ExprError
arithmetic addition x y = Ok (Absolute (int_wrapping_add w64 x y))
arithmetic subtraction x y = Ok (Absolute (int_wrapping_sub w64 x y))
arithmetic multiplication x y = Ok (Absolute (int_wrapping_mul w64 x y))
arithmetic division x y = quotient x y
arithmetic arithmetic_shift x y = Ok (Absolute (shifted x y))
arithmetic logical_and x y = Ok (Absolute (int_bit_and w64 x y))
arithmetic inclusive_or x y = Ok (Absolute (int_bit_or w64 x y))
arithmetic exclusive_or x y = Ok (Absolute (int_bit_xor w64 x y))

-- The sum of two values, of which at most one is relocatable or external.
abbrev pub sum_of : Value → Value → Result Value ExprError
sum_of (Absolute x) (Absolute y) = arithmetic addition x y
sum_of (Absolute x) (Section s y) = Ok (Section s (int_wrapping_add w64 y x))
sum_of (Absolute x) (External i y) = Ok (External i (int_wrapping_add w64 y x))
sum_of (Section s x) (Absolute y) = Ok (Section s (int_wrapping_add w64 x y))
sum_of (External i x) (Absolute y) = Ok (External i (int_wrapping_add w64 x y))
sum_of x y = Err Form

-- A value less a number, or the distance of two places of one section.
abbrev pub difference_of : Value → Value → Result Value ExprError
difference_of (Absolute x) (Absolute y) = arithmetic subtraction x y
difference_of (Section s x) (Absolute y) = Ok (Section s (int_wrapping_sub w64 x y))
difference_of (External i x) (Absolute y) = Ok (External i (int_wrapping_sub w64 x y))
difference_of (Section s x) (Section t y) = if s == t then Ok (Absolute (int_wrapping_sub w64 x y)) else Err Form
difference_of x y = Err Form

-- Every other operator is for two numbers.
abbrev pub product_of : Operation → Value → Value → Result Value ExprError
product_of operator (Absolute x) (Absolute y) = arithmetic operator x y
product_of operator x y = Err Form

abbrev pub apply : Operation → Value → Value → Result Value ExprError
apply addition x y = sum_of x y
apply subtraction x y = difference_of x y
apply operator x y = product_of operator x y

-- Of two errors the first in the order Form, Unknown, Range counts.
abbrev pub first_error : ExprError → ExprError → ExprError
first_error Form e = Form
first_error Unknown Form = Form
first_error Unknown Unknown = Unknown
first_error Unknown Range = Unknown
first_error Range e = e

-- A value that no other operand of this operator could make right: on the left, and on the right.
abbrev pub refuses_left : Operation → Value → Bool
refuses_left addition x = false
refuses_left subtraction x = false
refuses_left operator (Absolute x) = false
refuses_left operator x = true

abbrev pub refuses_right : Operation → Value → Bool
refuses_right addition y = false
refuses_right subtraction (External i y) = true
refuses_right subtraction y = false
refuses_right operator (Absolute y) = false
refuses_right operator y = true

-- An operator at two terms, of which each has a value or an error.
abbrev pub combine : Operation → Result Value ExprError → Result Value ExprError → Result Value ExprError
combine operator (Ok x) (Ok y) = apply operator x y
combine operator (Ok x) (Err e) = Err (if refuses_left operator x then Form else e)
combine operator (Err d) (Ok y) = Err (if refuses_right operator y then Form else d)
combine operator (Err d) (Err e) = Err (first_error d e)

-- The signs `-` and `^C` are for numbers.
abbrev pub negated : Result Value ExprError → Result Value ExprError
negated (Ok (Absolute x)) = Ok (Absolute (int_wrapping_neg w64 x))
negated (Ok x) = Err Form
negated (Err e) = Err e

abbrev pub complemented : Result Value ExprError → Result Value ExprError
complemented (Ok (Absolute x)) = Ok (Absolute (int_bit_not w64 x))
complemented (Ok x) = Err Form
complemented (Err e) = Err e

-- What expressions are read by: the dialect, and the values of names.
pub record Sense : Type 0 where
  pub dialect : Dialect
  pub value : List ℕ → Option Value

-- the low 32 bits of a number, as a signed number
abbrev pub longword : ℤ → ℤ
longword x = cast_signed w32 (cast_unsigned w64 x % 4294967296)

-- A number as operators see it and give it.
abbrev pub fitted_number : Dialect → ℤ → ℤ
fitted_number dialect x = if has_longword_values dialect then longword x else x

abbrev pub fitted_value : Dialect → Value → Value
fitted_value dialect (Absolute x) = Absolute (fitted_number dialect x)
fitted_value dialect (Section s x) = Section s (fitted_number dialect x)
fitted_value dialect (External i x) = External i (fitted_number dialect x)

abbrev pub fitted : Dialect → Result Value ExprError → Result Value ExprError
fitted dialect (Ok v) = Ok (fitted_value dialect v)
fitted dialect (Err e) = Err e

-- An operator at two terms, and the signs before one, in a dialect.
abbrev pub combined : Dialect → Operation → Result Value ExprError → Result Value ExprError → Result Value ExprError
combined dialect operator left right = fitted dialect (combine operator (fitted dialect left) (fitted dialect right))

abbrev pub minus_of : Dialect → Result Value ExprError → Result Value ExprError
minus_of dialect term = fitted dialect (negated (fitted dialect term))

abbrev pub complement_of : Dialect → Result Value ExprError → Result Value ExprError
complement_of dialect term = fitted dialect (complemented (fitted dialect term))

-- the value of a name
abbrev pub named : Sense → List ℕ → Result Value ExprError
named names name = ok_or (names.value name) Unknown

-- 1 to 8 characters, the first in the low byte
abbrev pub little_endian : List ℕ → ℕ
little_endian [] = 0
little_endian (c ∷ text) = c + 256 * little_endian text

abbrev pub characters_value : List ℕ → Result Value ExprError
characters_value text =
    if nat_le 1 (length text) && nat_le (length text) 8 then Ok (Absolute (cast_signed w64 (little_endian text))) else Err Form

-- The bit of a register or an overflow trap in a register mask.
abbrev pub mask_bit : List ℕ → Option ℕ
mask_bit name =
    if bytes_eq name (codes "R0") then Some 0
    else (if bytes_eq name (codes "R1") then Some 1
    else (if bytes_eq name (codes "R2") then Some 2
    else (if bytes_eq name (codes "R3") then Some 3
    else (if bytes_eq name (codes "R4") then Some 4
    else (if bytes_eq name (codes "R5") then Some 5
    else (if bytes_eq name (codes "R6") then Some 6
    else (if bytes_eq name (codes "R7") then Some 7
    else (if bytes_eq name (codes "R8") then Some 8
    else (if bytes_eq name (codes "R9") then Some 9
    else (if bytes_eq name (codes "R10") then Some 10
    else (if bytes_eq name (codes "R11") then Some 11
    else (if bytes_eq name (codes "R12") then Some 12
    else (if bytes_eq name (codes "R13") then Some 13
    else (if bytes_eq name (codes "R14") then Some 14
    else (if bytes_eq name (codes "AP") then Some 12
    else (if bytes_eq name (codes "FP") then Some 13
    else (if bytes_eq name (codes "SP") then Some 14
    else (if bytes_eq name (codes "IV") then Some 14
    else (if bytes_eq name (codes "DV") then Some 15
    else None)))))))))))))))))))
