-- Symbols spell one term at most, and its length is seen from its front.
use Rattle.std.proofs.Common.{◌≡◌, ℕ, List, [], ◌∷◌, refl, ap, arith, sym}
use Rattle.vax_lex.specs.Grammar.{Symbol, number, name, characters, mark, Term, constant, named_by, quoted, mask, single_mask, plus, minus, complement, bracketed, Joined, finish, joined, operator_mark, names_then, term_then, joined_then}
use Rattle.vax_lex.specs.Reading.{NotOperator}
use Rattle.vax_lex.specs.Values.{Operation, addition, subtraction, multiplication, division, arithmetic_shift, logical_and, inclusive_or, exclusive_or}

-- what tells the terms apart: their first symbol, and behind a `^` the letter
abbrev pub first_code : List Symbol → ℕ
first_code [] = 1000
first_code (number n ∷ rest) = 1001
first_code (name s ∷ rest) = 1002
first_code (characters s ∷ rest) = 1003
first_code (mark m ∷ rest) = m

abbrev pub letter_code : List Symbol → ℕ
letter_code (first ∷ name (c ∷ []) ∷ rest) = c
letter_code _ = 1000

abbrev pub second_code : List Symbol → ℕ
second_code (first ∷ mark m ∷ rest) = m
second_code _ = 1000

abbrev pub third_code : List Symbol → ℕ
third_code (first ∷ second ∷ mark m ∷ rest) = m
third_code _ = 1000

-- of numbers of operators
operator_code : (a b : Operation) → operator_mark a ≡ operator_mark b → a ≡ b
operator_code addition addition e = refl
operator_code subtraction subtraction e = refl
operator_code multiplication multiplication e = refl
operator_code division division e = refl
operator_code arithmetic_shift arithmetic_shift e = refl
operator_code logical_and logical_and e = refl
operator_code inclusive_or inclusive_or e = refl
operator_code exclusive_or exclusive_or e = refl
operator_code _ _ e = absurd (omega (arith, e))

pub bracket_ends : (rest : List Symbol) → NotOperator (mark 62 ∷ rest)
bracket_ends rest addition more e = absurd (omega (arith, ap first_code e))
bracket_ends rest subtraction more e = absurd (omega (arith, ap first_code e))
bracket_ends rest multiplication more e = absurd (omega (arith, ap first_code e))
bracket_ends rest division more e = absurd (omega (arith, ap first_code e))
bracket_ends rest arithmetic_shift more e = absurd (omega (arith, ap first_code e))
bracket_ends rest logical_and more e = absurd (omega (arith, ap first_code e))
bracket_ends rest inclusive_or more e = absurd (omega (arith, ap first_code e))
bracket_ends rest exclusive_or more e = absurd (omega (arith, ap first_code e))

pub unique_names : (a b : List (List ℕ)) (r s : List Symbol) → names_then a (mark 62 ∷ r) ≡ names_then b (mark 62 ∷ s) → (a ≡ b) × (r ≡ s)
unique_names [] [] r s e = (refl, cc)
unique_names [] (y ∷ []) r s e = absurd (omega (arith, ap first_code e))
unique_names [] (y ∷ z ∷ b) r s e = absurd (omega (arith, ap first_code e))
unique_names (x ∷ []) [] r s e = absurd (omega (arith, ap first_code e))
unique_names (x ∷ w ∷ a) [] r s e = absurd (omega (arith, ap first_code e))
unique_names (x ∷ []) (y ∷ []) r s e = (cc, cc)
unique_names (x ∷ []) (y ∷ z ∷ b) r s e = absurd (omega (arith, ap second_code e))
unique_names (x ∷ w ∷ a) (y ∷ []) r s e = absurd (omega (arith, ap second_code e))
unique_names (x ∷ w ∷ a) (y ∷ z ∷ b) r s e =
    let rest : names_then (w ∷ a) (mark 62 ∷ r) ≡ names_then (z ∷ b) (mark 62 ∷ s) = cc in
    let same = unique_names (w ∷ a) (z ∷ b) r s rest in
    let here : x ≡ y = cc in
    let there : w ∷ a ≡ z ∷ b = same.0 in
    (cc, same.1)

mutual
  pub unique_term : (t u : Term) (r s : List Symbol) → term_then t r ≡ term_then u s → (t ≡ u) × (r ≡ s)
  unique_term (constant m) (constant n) r s e = (cc, cc)
  unique_term (named_by a) (named_by b) r s e = (cc, cc)
  unique_term (quoted a) (quoted b) r s e = (cc, cc)
  unique_term (mask a) (mask b) r s e =
      let rest : names_then a (mark 62 ∷ r) ≡ names_then b (mark 62 ∷ s) = cc in
      let same = unique_names a b r s rest in
      (ap mask same.0, same.1)
  unique_term (single_mask a) (single_mask b) r s e = (cc, cc)
  unique_term (mask a) (single_mask b) r s e = absurd (omega (arith, ap third_code e))
  unique_term (single_mask a) (mask b) r s e = absurd (omega (arith, ap third_code e))
  unique_term (plus t) (plus u) r s e =
      let same = unique_term t u r s cc in (ap plus same.0, same.1)
  unique_term (minus t) (minus u) r s e =
      let same = unique_term t u r s cc in (ap minus same.0, same.1)
  unique_term (complement t) (complement u) r s e =
      let same = unique_term t u r s cc in (ap complement same.0, same.1)
  unique_term (bracketed t m) (bracketed u n) r s e =
      let first = unique_term t u (joined_then m (mark 62 ∷ r)) (joined_then n (mark 62 ∷ s)) cc in
      let more = unique_joined m n (mark 62 ∷ r) (mark 62 ∷ s) (bracket_ends r) (bracket_ends s) first.1 in
      let here : t ≡ u = first.0 in
      let there : m ≡ n = more.0 in
      let rest : mark 62 ∷ r ≡ mark 62 ∷ s = more.1 in
      (cc, cc)
  unique_term _ _ r s e = absurd (omega (arith, ap first_code e, ap letter_code e))

  pub unique_joined : (m n : Joined) (r s : List Symbol) → NotOperator r → NotOperator s → joined_then m r ≡ joined_then n s → (m ≡ n) × (r ≡ s)
  unique_joined finish finish r s p q e = (refl, e)
  unique_joined finish (joined b u n) r s p q e = absurd (p b (term_then u (joined_then n s)) e)
  unique_joined (joined a t m) finish r s p q e = absurd (q a (term_then t (joined_then m r)) (sym e))
  unique_joined (joined a t m) (joined b u n) r s p q e =
      let here : a ≡ b = operator_code a b (ap first_code e) in
      let rest : term_then t (joined_then m r) ≡ term_then u (joined_then n s) = cc in
      let first = unique_term t u (joined_then m r) (joined_then n s) rest in
      let more = unique_joined m n r s p q first.1 in
      let there : t ≡ u = first.0 in
      let behind : m ≡ n = more.0 in
      (cc, more.1)
