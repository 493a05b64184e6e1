-- The value of symbols as a function of them: which expression they spell, read from the left, and its value.
use Rattle.std.specs.Prelude.{ℕ, zero, suc, List, [], ◌∷◌, length, Option, Some, None, Result, Err, ◌==◌, if◌then◌else◌, codes}
use Rattle.std.specs.Str.{bytes_eq}
use Rattle.vax_lex.specs.Grammar.{Symbol, number, name, characters, mark, Term, constant, named_by, quoted, mask, single_mask, plus, minus, complement, bracketed, Joined, finish, joined, operator_of_mark, value_of}
use Rattle.vax_lex.specs.Values.{Operation, Sense}
use Rattle.vax_lex.specs.declared.value.Value.{Value}
use Rattle.vax_lex.specs.declared.value.ExprError.{ExprError}
use Rattle.vax_lex.specs.declared.value.ExprError.TheVariants.{Form}

-- a term, or terms joined to one, and the symbols behind them
pub record TermRead : Type 0 where
  pub term : Term
  pub rest : List Symbol

pub record JoinedRead : Type 0 where
  pub more : Joined
  pub rest : List Symbol

pub record NamesRead : Type 0 where
  pub first : List ℕ
  pub others : List (List ℕ)
  pub rest : List Symbol

-- a term behind a sign
abbrev pub signed : (Term → Term) → Option TermRead → Option TermRead
signed sign (Some r) = Some (record { term = sign r.term; rest = r.rest })
signed sign None = None

-- the bracket that ends an expression
abbrev pub closed : Term → Joined → List Symbol → Option TermRead
closed t more (mark m ∷ rest) = if m == 62 then Some (record { term = bracketed t more; rest = rest }) else None
closed t more _ = None

abbrev pub closed_by : Term → Option JoinedRead → Option TermRead
closed_by t (Some r) = closed t r.more r.rest
closed_by t None = None

-- names with commas between them up to the bracket that ends them
abbrev pub with_name : List ℕ → Option NamesRead → Option NamesRead
with_name s (Some r) = Some (record { first = s; others = r.first ∷ r.others; rest = r.rest })
with_name s None = None

abbrev pub mask_names : List Symbol → Option NamesRead
mask_names (name s ∷ mark m ∷ rest) =
    if m == 62 then Some (record { first = s; others = []; rest = rest })
    else (if m == 44 then with_name s (mask_names rest) else None)
mask_names _ = None

abbrev pub mask_of : Option NamesRead → Option TermRead
mask_of (Some r) = Some (record { term = mask (r.first ∷ r.others); rest = r.rest })
mask_of None = None

abbrev pub mask_list : List Symbol → Option TermRead
mask_list (mark m ∷ rest) = if m == 62 then Some (record { term = mask []; rest = rest }) else None
mask_list symbols = mask_of (mask_names symbols)

abbrev pub mask_in : List Symbol → Option TermRead
mask_in (mark m ∷ rest) = if m == 60 then mask_list rest else None
mask_in (name s ∷ rest) = Some (record { term = single_mask s; rest = rest })
mask_in _ = None

abbrev pub quoted_in : List Symbol → Option TermRead
quoted_in (characters text ∷ rest) = Some (record { term = quoted text; rest = rest })
quoted_in _ = None

-- behind `^`: the letter, and what it is for
abbrev pub operated : List Symbol → (List Symbol → Option TermRead) → Option TermRead
operated (name s ∷ rest) term =
    if bytes_eq s (codes "C") then signed complement (term rest)
    else (if bytes_eq s (codes "A") then quoted_in rest
    else (if bytes_eq s (codes "M") then mask_in rest
    else None))
operated _ term = None

abbrev pub join : Operation → Term → Option JoinedRead → Option JoinedRead
join operator t (Some r) = Some (record { more = joined operator t r.more; rest = r.rest })
join operator t None = None

abbrev pub behind : Option TermRead → (TermRead → Option JoinedRead) → (Term → Option JoinedRead → Option TermRead) → Option TermRead
behind (Some r) more whole = whole r.term (more r)
behind None more whole = None

abbrev pub joining : Operation → Option TermRead → (TermRead → Option JoinedRead) → Option JoinedRead
joining operator (Some r) more = join operator r.term (more r)
joining operator None more = None

abbrev pub joined_by : Option Operation → List Symbol → (Operation → Option JoinedRead) → Option JoinedRead
joined_by (Some operator) symbols more = more operator
joined_by None symbols more = Some (record { more = finish; rest = symbols })

-- The term that symbols begin with, and the terms that are joined to one, read in at most so many steps.
unfoldable mutual
  pub term_in : ℕ → List Symbol → Option TermRead
  term_in zero symbols = None
  term_in (suc n) [] = None
  term_in (suc n) (number k ∷ rest) = Some (record { term = constant k; rest = rest })
  term_in (suc n) (name s ∷ rest) = Some (record { term = named_by s; rest = rest })
  term_in (suc n) (characters text ∷ rest) = None
  term_in (suc n) (mark m ∷ rest) =
      if m == 43 then signed plus (term_in n rest)
      else (if m == 45 then signed minus (term_in n rest)
      else (if m == 60 then behind (term_in n rest) (λ (r : TermRead). joined_in n r.rest) closed_by
      else (if m == 94 then operated rest (λ (s : List Symbol). term_in n s)
      else None)))

  pub joined_in : ℕ → List Symbol → Option JoinedRead
  joined_in zero symbols = None
  joined_in (suc n) (mark m ∷ rest) =
      joined_by (operator_of_mark m) (mark m ∷ rest) (λ (operator : Operation). joining operator (term_in n rest) (λ (r : TermRead). joined_in n r.rest))
  joined_in (suc n) symbols = Some (record { more = finish; rest = symbols })

-- The value of the expression that these symbols are, all of them.
abbrev pub whole_value : Sense → Term → Option JoinedRead → Result Value ExprError
whole_value names t None = Err Form
whole_value names t (Some r) = elim r.rest [ [] ↦ value_of names (record { first = t; more = r.more }) | _ ↦ Err Form ]

abbrev pub value_behind : Sense → ℕ → Option TermRead → Result Value ExprError
value_behind names steps None = Err Form
value_behind names steps (Some r) = whole_value names r.term (joined_in steps r.rest)

unfoldable pub value_at : Sense → List Symbol → Result Value ExprError
value_at names symbols = value_behind names (suc (length symbols)) (term_in (suc (length symbols)) symbols)
