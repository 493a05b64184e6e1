-- What is wrong with a file, by numbers.
use Rattle.std.specs.Prelude.{ℕ}

-- its first four bytes aren't VAXI
abbrev pub no_magic : ℕ
no_magic = 1

-- its version is neither 1 nor 2
abbrev pub other_version : ℕ
other_version = 2

-- its base is neither that of a bare program nor that of a user's
abbrev pub other_base : ℕ
other_base = 3

-- it has no areas, or too many areas or texts
abbrev pub wrong_count : ℕ
wrong_count = 4

-- an area has no page, begins before the end of the one before it, or lies outside its part of memory
abbrev pub wrong_pages : ℕ
wrong_pages = 5

-- a protection code is none
abbrev pub no_protection : ℕ
no_protection = 6

-- there are more bytes than an area's pages hold, or a text has no bytes or too many
abbrev pub wrong_length : ℕ
wrong_length = 7

-- it ends inside the field
abbrev pub ends_early : ℕ
ends_early = 8

-- bytes stand behind the last field
abbrev pub goes_on : ℕ
goes_on = 9

-- the transfer address lies in no area
abbrev pub begins_nowhere : ℕ
begins_nowhere = 10

-- a text's number is another than that of the one spelling, or a text isn't used
abbrev pub wrong_text : ℕ
wrong_text = 12
