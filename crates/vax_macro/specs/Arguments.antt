-- Arguments of macros as whole texts (VAX MACRO and Instruction Set Reference Manual, "Arguments in a macro").
use Rattle.std.specs.Prelude.{ℕ, zero, suc, ◌+◌, ◌-◌, Bool, true, false, not, ◌&&◌, ◌||◌, ◌==◌, List, [], ◌∷◌, length, take, drop, Option, Some, None, if◌then◌else◌}
use Rattle.std.specs.Char.{is_ascii_alphabetic, is_ascii_graphic}
use Rattle.std.specs.List.{prefix_len}
use Rattle.vax_lex.specs.Characters.{is_blank, is_name_character}

-- a blank or a comma
abbrev pub is_separator : ℕ → Bool
is_separator b = is_blank b || (b == 44)

abbrev pub is_no_separator : ℕ → Bool
is_no_separator b = not (is_separator b)

-- A byte of an argument without brackets. In the larger language a comment may stand right behind it.
abbrev pub is_bare : Bool → ℕ → Bool
is_bare larger b = is_no_separator b && not (larger && (b == 59))

abbrev pub behind_blanks : List ℕ → List ℕ
behind_blanks text = drop (prefix_len is_blank text) text

-- this byte stands first
abbrev pub begins_with : ℕ → List ℕ → Bool
begins_with byte [] = false
begins_with byte (b ∷ text) = b == byte

-- how many brackets are open behind a byte, unless it closes the text
abbrev pub depth_after : ℕ → ℕ → Option ℕ
depth_after depth b =
    if b == 60 then Some (depth + 1)
    else (if b == 62 then (if depth == 0 then None else Some (depth - 1))
    else Some depth)

abbrev pub one_further : Option ℕ → Option ℕ
one_further (Some k) = Some (k + 1)
one_further None = None

abbrev pub closing_from : Option ℕ → (ℕ → Option ℕ) → Option ℕ
closing_from (Some depth) next = one_further (next depth)
closing_from None next = Some 0

-- where the bracket stands that closes a text, of which so many inner ones are open
unfoldable pub closing : ℕ → List ℕ → Option ℕ
closing depth [] = None
closing depth (b ∷ text) = closing_from (depth_after depth b) (λ d. closing d text)

-- the text that stands at a place, if one does, and what is behind it
pub record Taken : Type 0 where
  pub text : Option (List ℕ)
  pub rest : List ℕ

-- A text in brackets that are closed, in the larger language one between two of the byte behind a `^`, or one up to a
-- separator.
abbrev pub bracketed : List ℕ → Option ℕ → Option Taken
bracketed text (Some n) = Some (record { text = Some (take n text); rest = drop (n + 1) text })
bracketed text None = None

abbrev pub bare : List ℕ → ℕ → Taken
bare text n = record { text = if n == 0 then None else Some (take n text); rest = drop n text }

-- a byte that ends a text which begins with `^` and that byte: a printable one, but no letter, `<` or `;`
abbrev pub is_edge : ℕ → Bool
is_edge b = is_ascii_graphic b && not (is_ascii_alphabetic b) && not (b == 60) && not (b == 59)

abbrev pub edged_at : List ℕ → ℕ → Option Taken
edged_at text n = if n == length text then None else Some (record { text = Some (take n text); rest = drop (n + 1) text })

abbrev pub edged : List ℕ → Option Taken
edged [] = None
edged (b ∷ text) = if is_edge b then edged_at text (prefix_len (λ c. not (c == b)) text) else None

-- whether a text begins with `^` and such a byte
abbrev pub begins_edge : List ℕ → Bool
begins_edge [] = false
begins_edge (b ∷ text) = is_edge b

abbrev pub has_edge : List ℕ → Bool
has_edge text = begins_with 94 text && begins_edge (drop 1 text)

unfoldable pub taken : Bool → List ℕ → Option Taken
taken larger text =
    if begins_with 60 text then bracketed (drop 1 text) (closing 0 (drop 1 text))
    else (if larger && has_edge text then edged (drop 1 text)
    else Some (bare text (prefix_len (is_bare larger) text)))

-- an argument: `name=` before it, if that is a keyword, and its text, if there is one
pub record Argument : Type 0 where
  pub keyword : Option (List ℕ)
  pub text : Option (List ℕ)

pub record ArgumentTaken : Type 0 where
  pub argument : Argument
  pub rest : List ℕ

abbrev pub with_keyword : Option (List ℕ) → Option Taken → Option ArgumentTaken
with_keyword keyword None = None
with_keyword keyword (Some t) = Some (record { argument = record { keyword = keyword; text = t.text }; rest = t.rest })

-- the length of what may be a name
abbrev pub name_length : List ℕ → ℕ
name_length text = prefix_len is_name_character text

unfoldable pub argument : Bool → (List ℕ → Bool) → List ℕ → Option ArgumentTaken
argument larger is_keyword text =
    let n = name_length text in
    if begins_with 61 (drop n text) && is_keyword (take n text) then with_keyword (Some (take n text)) (taken larger (drop 1 (drop n text)))
    else with_keyword None (taken larger text)

-- what follows an argument: nothing, another one, or a text right behind a bracket
pub data Following : Type 0 where
  nothing_more : Following
  another : List ℕ → Following
  unparted : Following

abbrev pub following_first : Bool → List ℕ → List ℕ → Following
following_first larger rest [] = nothing_more
following_first larger rest (b ∷ text) =
    if b == 44 then another (behind_blanks text)
    else (if larger && (b == 59) then nothing_more
    else (if length (b ∷ text) == length rest then unparted else another (b ∷ text)))

abbrev pub following : Bool → List ℕ → Following
following larger rest = following_first larger rest (behind_blanks rest)

-- an argument, and what is behind it
abbrev pub prepend : Argument → Option (List Argument) → Option (List Argument)
prepend a (Some arguments) = Some (a ∷ arguments)
prepend a None = None

abbrev pub and_then : Argument → Following → (List ℕ → Option (List Argument)) → Option (List Argument)
and_then a nothing_more next = Some (a ∷ [])
and_then a (another text) next = prepend a (next text)
and_then a unparted next = None

abbrev pub then_others : Bool → Option ArgumentTaken → (List ℕ → Option (List Argument)) → Option (List Argument)
then_others larger None next = None
then_others larger (Some t) next = and_then t.argument (following larger t.rest) next

-- Arguments with separators between them, at most so many: none, if a bracket is not closed or not followed by a separator.
unfoldable pub arguments_from : ℕ → Bool → (List ℕ → Bool) → List ℕ → Option (List Argument)
arguments_from zero larger is_keyword text = None
arguments_from (suc n) larger is_keyword text = then_others larger (argument larger is_keyword text) (λ rest. arguments_from n larger is_keyword rest)

-- whether no argument stands at the head of a text
abbrev pub is_at_end : Bool → List ℕ → Bool
is_at_end larger [] = true
is_at_end larger (b ∷ text) = larger && (b == 59)

-- The arguments of a text. Each takes a byte at least, or the separator behind it does. In the larger language a comment may
-- stand behind them, and within brackets a `;` is a byte as others are.
unfoldable pub arguments : Bool → (List ℕ → Bool) → List ℕ → Option (List Argument)
arguments larger is_keyword text =
    if is_at_end larger (behind_blanks text) then Some []
    else arguments_from (length (behind_blanks text) + 1) larger is_keyword (behind_blanks text)
