-- What a line says.
use Rattle.std.specs.Prelude.{ℕ, ◌/◌, ◌%◌, ◌^◌, ◌==◌, Bool, ◌||◌, List, [], ◌∷◌, length, map, codes, Option, None, Some, if◌then◌else◌}
use Rattle.std.specs.Option.{option_map}
use Rattle.std.specs.List.{list_all, filter_map}
use Rattle.std.specs.Str.{bytes_eq}
use Rattle.vax_lines.specs.Lines.{Text, begins_with, lines}
use Rattle.vax_lines.specs.Words.{words, is_trimmed}
use Rattle.vax_lines.specs.Numbers.{number, number_in}
use Rattle.vax_sched.specs.declared.rule.Target.{Target}
use Rattle.vax_sched.specs.declared.rule.Target.TheVariants.{Page, All}
use Rattle.vax_sched.specs.declared.rule.Rule.{Rule}
use Rattle.vax_sched.specs.declared.rule.Rule.TheVariants.{At, Each}

-- a multiple of a page's 512 bytes, and its page's number
abbrev pub page_at : Option ℕ → Option ℕ
page_at (Some address) = if address % 512 == 0 then Some (address / 512) else None
page_at None = None

-- eight hexadecimal digits: the address of a page's first byte
unfoldable pub page : Text → Option ℕ
page w = if length w == 8 then page_at (number_in 16 0xFFFFFFFF w) else None

-- a page, or `all`
unfoldable pub target : Text → Option Target
target w = if bytes_eq w (codes "all") then Some All else option_map Page (page w)

abbrev pub fixed : Option ℕ → Option ℕ → Option Rule
fixed (Some t) (Some p) = Some (At (record { turn = t; page = p }))
fixed (Some t) None = None
fixed None p = None

abbrev pub repeated : Option ℕ → Option Target → Option Rule
repeated (Some n) (Some t) = Some (Each (record { turns = n; target = t }))
repeated (Some n) None = None
repeated None t = None

-- `at T PAGE`, `each N PAGE` or `each N all`
unfoldable pub rule_of : List Text → Option Rule
rule_of (verb ∷ count ∷ what ∷ []) =
    if bytes_eq verb (codes "at") then fixed (number (10 ^ 15) count) (page what)
    else if bytes_eq verb (codes "each") then repeated (number (10 ^ 9) count) (target what)
    else None
rule_of ws = None

-- a line that says nothing, one with a rule, or one of no form
pub data Reading : Type 0 where
  silent : Reading
  says : Rule → Reading
  malformed : Reading

-- a space or a tab
abbrev pub is_blank : ℕ → Bool
is_blank c = c == 32 || c == 9

-- a blank line, or one whose first byte is `;`
abbrev pub is_silent : Text → Bool
is_silent line = list_all is_blank line || begins_with 59 line

abbrev pub said : Option Rule → Reading
said (Some rule) = says rule
said None = malformed

unfoldable pub line_of : Text → Reading
line_of line =
    if is_silent line then silent
    else if is_trimmed line then said (rule_of (words line))
    else malformed

-- the lines of a text, each read by itself
abbrev pub readings : Text → List Reading
readings text = map line_of (lines text)

abbrev pub rule_in : Reading → Option Rule
rule_in silent = None
rule_in (says rule) = Some rule
rule_in malformed = None

-- the rules of these lines, in their order
abbrev pub rules : List Reading → List Rule
rules read = filter_map rule_in read
