-- What is wrong with a saved state, by numbers.
use Rattle.std.specs.Prelude.{ℕ}

-- its first four bytes aren't VAXS
abbrev pub no_magic : ℕ
no_magic = 1

-- its version isn't 1, or the word behind that isn't 0
abbrev pub other_version : ℕ
other_version = 2

-- it counts more than 10^18 steps
abbrev pub many_steps : ℕ
many_steps = 3

-- no processor has these registers between two attempts
abbrev pub wrong_core : ℕ
wrong_core = 4

-- no string instruction is open so
abbrev pub wrong_open : ℕ
wrong_open = 5

-- more of the input is taken than there is
abbrev pub wrong_input : ℕ
wrong_input = 6

-- the areas are those of no space
abbrev pub wrong_area : ℕ
wrong_area = 7

-- it ends inside the field
abbrev pub ends_early : ℕ
ends_early = 8

-- bytes stand behind the last field
abbrev pub goes_on : ℕ
goes_on = 9

-- a page doesn't ascend, lies in no area, or has no byte that isn't 0
abbrev pub wrong_page : ℕ
wrong_page = 10
