-- The names in an expression (VAX MACRO and Instruction Set Reference Manual, "Terms and expressions").
use Rattle.std.specs.Prelude.{ℕ, Bool, false, ◌||◌, ◌==◌, if◌then◌else◌, List, [], ◌∷◌, ◌++◌, codes}
use Rattle.std.specs.Str.{bytes_eq}
use Rattle.vax_lex.specs.Grammar.{Symbol, number, name, characters, mark, Term, constant, named_by, quoted, mask as mask_of, single_mask, plus, minus, complement, bracketed, Joined, finish, joined, Expression}

-- Of a tree: the names that are terms. Letters of operators and names of registers in a mask are none.
abbrev mutual
  pub names_of_term : Term → List (List ℕ)
  names_of_term (constant n) = []
  names_of_term (named_by s) = s ∷ []
  names_of_term (quoted text) = []
  names_of_term (mask_of registers) = []
  names_of_term (single_mask register) = []
  names_of_term (plus t) = names_of_term t
  names_of_term (minus t) = names_of_term t
  names_of_term (complement t) = names_of_term t
  names_of_term (bracketed t more) = names_of_term t ++ names_of_joined more

  pub names_of_joined : Joined → List (List ℕ)
  names_of_joined finish = []
  names_of_joined (joined operator t more) = names_of_term t ++ names_of_joined more

abbrev pub names_of : Expression → List (List ℕ)
names_of e = names_of_term e.first ++ names_of_joined e.more

-- Of symbols: where a name is a term; behind `^`; behind `^M`, whose one register may stand there without brackets; in a mask.
pub data Place : Type 0 where
  at_term : Place
  behind_caret : Place
  behind_mask : Place
  in_mask : Place

abbrev pub behind_name : Place → List ℕ → Place
behind_name at_term s = at_term
behind_name behind_caret s = if bytes_eq s (codes "M") then behind_mask else at_term
behind_name behind_mask s = at_term
behind_name in_mask s = in_mask

abbrev pub behind_mark : Place → ℕ → Place
behind_mark at_term m = if m == 94 then behind_caret else at_term
behind_mark behind_caret m = at_term
behind_mark behind_mask m = if m == 62 then at_term else in_mask
behind_mark in_mask m = if m == 62 then at_term else in_mask

abbrev pub behind : Place → Symbol → Place
behind p (name s) = behind_name p s
behind p (mark m) = behind_mark p m
behind p (number n) = p
behind p (characters text) = p

abbrev pub used_by : Place → Symbol → List (List ℕ)
used_by at_term (name s) = s ∷ []
used_by p symbol = []

-- the names that symbols use, from a place on
abbrev pub used : Place → List Symbol → List (List ℕ)
used p [] = []
used p (s ∷ symbols) = used_by p s ++ used (behind p s) symbols

-- whether `.` is among names
abbrev pub has_place : List (List ℕ) → Bool
has_place [] = false
has_place (text ∷ texts) = bytes_eq text (codes ".") || has_place texts

-- whether an expression uses `.`, the place where its statement begins
abbrev pub uses_place : List Symbol → Bool
uses_place symbols = has_place (used at_term symbols)
