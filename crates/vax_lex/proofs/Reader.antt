-- The reader of expressions reads exactly the expression that symbols spell.
use Rattle.std.proofs.Common.{◌≡◌, ◌≢◌, ◌<◌, ◌≤◌, ℕ, zero, suc, Bool, true, false, cond, List, [], ◌∷◌, length, Option, Some, None, Result, Err, refl, ap, arith, ◌∙◌, sym, subst, ⊎_elim}
use Rattle.std.specs.Prelude.{◌==◌, codes}
use Rattle.std.specs.Str.{bytes_eq}
use Rattle.std.proofs.lemmas.Bool.Decides.{nat_tests}
use Rattle.std.proofs.lemmas.Slice.Eq.{bytes_eq-Decides}
use Rattle.vax_lex.specs.Grammar.{Symbol, number, name, characters, mark, Term, constant, named_by, quoted, mask, single_mask, plus, minus, complement, bracketed, Joined, finish, joined, operator_mark, operator_of_mark, names_then, term_then, joined_then, Expression, spelling, value_of, Evaluates}
use Rattle.vax_lex.specs.Reading.{NotOperator}
use Rattle.vax_lex.specs.Values.{Operation, Sense}
use Rattle.vax_lex.specs.Expressions.{TermRead, JoinedRead, NamesRead, signed, closed, closed_by, with_name, mask_names, mask_of, mask_list, mask_in, quoted_in, operated, join, behind, joining, joined_by, term_in, joined_in, whole_value, value_behind, value_at}
use Rattle.vax_lex.specs.declared.value.Value.{Value}
use Rattle.vax_lex.specs.declared.value.ExprError.{ExprError}
use Rattle.vax_lex.specs.declared.value.ExprError.TheVariants.{Form}
use Rattle.vax_lex.proofs.Symbols.{mark_operator, operator_known}
use Rattle.vax_lex.proofs.Unique.{bracket_ends}

-- ---- What is read spells the symbols.

abbrev pub TermIs : List Symbol → Option TermRead → Type 0
TermIs symbols None = Unit {0}
TermIs symbols (Some r) = term_then r.term r.rest ≡ symbols

abbrev pub JoinedIs : List Symbol → Option JoinedRead → Type 0
JoinedIs symbols None = Unit {0}
JoinedIs symbols (Some r) = joined_then r.more r.rest ≡ symbols

abbrev pub NamesIs : List Symbol → Option NamesRead → Type 0
NamesIs symbols None = Unit {0}
NamesIs symbols (Some r) = names_then (r.first ∷ r.others) (mark 62 ∷ r.rest) ≡ symbols

term_if : (symbols : List Symbol) (t : Bool) (x y : Option TermRead) → (t ≡ true → TermIs symbols x) → (t ≡ false → TermIs symbols y) → TermIs symbols (cond t x y)
term_if symbols true x y f g = f refl
term_if symbols false x y f g = g refl

names_if : (symbols : List Symbol) (t : Bool) (x y : Option NamesRead) → (t ≡ true → NamesIs symbols x) → (t ≡ false → NamesIs symbols y) → NamesIs symbols (cond t x y)
names_if symbols true x y f g = f refl
names_if symbols false x y f g = g refl

same_code : (m n : ℕ) → (m == n) ≡ true → m ≡ n
same_code m n e = grind (arith, nat_tests)

with_name_is : (s : List ℕ) (rest : List Symbol) (o : Option NamesRead) → NamesIs rest o → NamesIs (name s ∷ mark 44 ∷ rest) (with_name s o)
with_name_is s rest None h = tt
with_name_is s rest (Some r) h = ap (λ (y : List Symbol). name s ∷ mark 44 ∷ y) h

mask_names_is : (symbols : List Symbol) → NamesIs symbols (mask_names symbols)
mask_names_is (name s ∷ mark m ∷ rest) =
    names_if (name s ∷ mark m ∷ rest) (m == 62) _ _
    (λ e. ap (λ (k : ℕ). name s ∷ mark k ∷ rest) (sym (same_code m 62 e)))
    (λ _. names_if (name s ∷ mark m ∷ rest) (m == 44) _ None
    (λ e. let P : ℕ → Type 0 = λ k. NamesIs (name s ∷ mark k ∷ rest) (with_name s (mask_names rest)) in subst P (sym (same_code m 44 e)) (with_name_is s rest (mask_names rest) (mask_names_is rest)))
    (λ _. tt))
mask_names_is _ = tt

mask_of_is : (symbols : List Symbol) (o : Option NamesRead) → NamesIs symbols o → TermIs (mark 94 ∷ name (77 ∷ []) ∷ mark 60 ∷ symbols) (mask_of o)
mask_of_is symbols None h = tt
mask_of_is symbols (Some r) h = ap (λ (y : List Symbol). mark 94 ∷ name (77 ∷ []) ∷ mark 60 ∷ y) h

mask_list_is : (symbols : List Symbol) → TermIs (mark 94 ∷ name (77 ∷ []) ∷ mark 60 ∷ symbols) (mask_list symbols)
mask_list_is (mark m ∷ rest) = term_if _ (m == 62) _ None (λ e. ap (λ (k : ℕ). mark 94 ∷ name (77 ∷ []) ∷ mark 60 ∷ mark k ∷ rest) (sym (same_code m 62 e))) (λ _. tt)
mask_list_is [] = tt
mask_list_is (number n ∷ rest) = tt
mask_list_is (name s ∷ rest) = mask_of_is (name s ∷ rest) (mask_names (name s ∷ rest)) (mask_names_is (name s ∷ rest))
mask_list_is (characters s ∷ rest) = tt

mask_in_is : (symbols : List Symbol) → TermIs (mark 94 ∷ name (77 ∷ []) ∷ symbols) (mask_in symbols)
mask_in_is (mark m ∷ rest) = term_if _ (m == 60) _ None (λ e. let P : ℕ → Type 0 = λ k. TermIs (mark 94 ∷ name (77 ∷ []) ∷ mark k ∷ rest) (mask_list rest) in subst P (sym (same_code m 60 e)) (mask_list_is rest)) (λ _. tt)
mask_in_is [] = tt
mask_in_is (number n ∷ rest) = tt
mask_in_is (name s ∷ rest) = refl
mask_in_is (characters s ∷ rest) = tt

quoted_in_is : (symbols : List Symbol) → TermIs (mark 94 ∷ name (65 ∷ []) ∷ symbols) (quoted_in symbols)
quoted_in_is (characters s ∷ rest) = refl
quoted_in_is [] = tt
quoted_in_is (number n ∷ rest) = tt
quoted_in_is (name s ∷ rest) = tt
quoted_in_is (mark m ∷ rest) = tt

same_word : (s word : List ℕ) → bytes_eq s word ≡ true → s ≡ word
same_word s word e = (bytes_eq-Decides s word).0 e

complement_is : (rest : List Symbol) (o : Option TermRead) → TermIs rest o → TermIs (mark 94 ∷ name (67 ∷ []) ∷ rest) (signed complement o)
complement_is rest None h = tt
complement_is rest (Some r) h = ap (λ (y : List Symbol). mark 94 ∷ name (67 ∷ []) ∷ y) h

operated_is : (symbols : List Symbol) (term : List Symbol → Option TermRead) → ((rest : List Symbol) → TermIs rest (term rest)) → TermIs (mark 94 ∷ symbols) (operated symbols term)
operated_is (name s ∷ rest) term h =
    let at : List ℕ → List Symbol = λ word. mark 94 ∷ name word ∷ rest in
    term_if (at s) (bytes_eq s (codes "C")) _ _
    (λ e. let P : List ℕ → Type 0 = λ word. TermIs (mark 94 ∷ name word ∷ rest) (signed complement (term rest)) in subst P (sym (same_word s (67 ∷ []) e)) (complement_is rest (term rest) (h rest)))
    (λ _. term_if (at s) (bytes_eq s (codes "A")) _ _
    (λ e. let P : List ℕ → Type 0 = λ word. TermIs (mark 94 ∷ name word ∷ rest) (quoted_in rest) in subst P (sym (same_word s (65 ∷ []) e)) (quoted_in_is rest))
    (λ _. term_if (at s) (bytes_eq s (codes "M")) _ None
    (λ e. let P : List ℕ → Type 0 = λ word. TermIs (mark 94 ∷ name word ∷ rest) (mask_in rest) in subst P (sym (same_word s (77 ∷ []) e)) (mask_in_is rest))
    (λ _. tt)))
operated_is [] term h = tt
operated_is (number n ∷ rest) term h = tt
operated_is (mark m ∷ rest) term h = tt
operated_is (characters s ∷ rest) term h = tt

plus_is : (rest : List Symbol) (o : Option TermRead) → TermIs rest o → TermIs (mark 43 ∷ rest) (signed plus o)
plus_is rest None h = tt
plus_is rest (Some r) h = ap (λ (y : List Symbol). mark 43 ∷ y) h

minus_is : (rest : List Symbol) (o : Option TermRead) → TermIs rest o → TermIs (mark 45 ∷ rest) (signed minus o)
minus_is rest None h = tt
minus_is rest (Some r) h = ap (λ (y : List Symbol). mark 45 ∷ y) h

closed_is : (t : Term) (more : Joined) (symbols rest : List Symbol) → term_then t (joined_then more rest) ≡ symbols → TermIs (mark 60 ∷ symbols) (closed t more rest)
closed_is t more symbols (mark m ∷ rest) h = term_if _ (m == 62) _ None
    (λ e. ap (λ (k : ℕ). mark 60 ∷ term_then t (joined_then more (mark k ∷ rest))) (sym (same_code m 62 e)) ∙ ap (λ (y : List Symbol). mark 60 ∷ y) h) (λ _. tt)
closed_is t more symbols [] h = tt
closed_is t more symbols (number n ∷ rest) h = tt
closed_is t more symbols (name s ∷ rest) h = tt
closed_is t more symbols (characters s ∷ rest) h = tt

closed_by_is : (t : Term) (symbols rest : List Symbol) (o : Option JoinedRead) → term_then t rest ≡ symbols → JoinedIs rest o → TermIs (mark 60 ∷ symbols) (closed_by t o)
closed_by_is t symbols rest None h i = tt
closed_by_is t symbols rest (Some r) h i = closed_is t r.more symbols r.rest (ap (term_then t) i ∙ h)

behind_is : (symbols : List Symbol) (o : Option TermRead) (more : TermRead → Option JoinedRead) → TermIs symbols o → ((r : TermRead) → JoinedIs r.rest (more r)) → TermIs (mark 60 ∷ symbols) (behind o more closed_by)
behind_is symbols None more h i = tt
behind_is symbols (Some r) more h i = closed_by_is r.term symbols r.rest (more r) h (i r)

join_is : (operator : Operation) (t : Term) (symbols rest : List Symbol) (o : Option JoinedRead) → term_then t rest ≡ symbols → JoinedIs rest o → JoinedIs (mark (operator_mark operator) ∷ symbols) (join operator t o)
join_is operator t symbols rest None h i = tt
join_is operator t symbols rest (Some r) h i = ap (λ (y : List Symbol). mark (operator_mark operator) ∷ y) (ap (term_then t) i ∙ h)

joining_is : (operator : Operation) (symbols : List Symbol) (o : Option TermRead) (more : TermRead → Option JoinedRead) → TermIs symbols o → ((r : TermRead) → JoinedIs r.rest (more r)) → JoinedIs (mark (operator_mark operator) ∷ symbols) (joining operator o more)
joining_is operator symbols None more h i = tt
joining_is operator symbols (Some r) more h i = join_is operator r.term symbols r.rest (more r) h (i r)

joined_by_is : (m : ℕ) (rest : List Symbol) (o : Option Operation) (more : Operation → Option JoinedRead) → operator_of_mark m ≡ o → ((operator : Operation) → JoinedIs (mark (operator_mark operator) ∷ rest) (more operator)) → JoinedIs (mark m ∷ rest) (joined_by o (mark m ∷ rest) more)
joined_by_is m rest None more e h = refl
joined_by_is m rest (Some operator) more e h = let P : ℕ → Type 0 = λ k. JoinedIs (mark k ∷ rest) (more operator) in subst P (sym (mark_operator m operator e)) (h operator)

mutual
  unfolding term_in joined_in

  pub term_in_is : (n : ℕ) (symbols : List Symbol) → TermIs symbols (term_in n symbols)
  term_in_is zero symbols = tt
  term_in_is (suc n) [] = tt
  term_in_is (suc n) (number k ∷ rest) = refl
  term_in_is (suc n) (name s ∷ rest) = refl
  term_in_is (suc n) (characters s ∷ rest) = tt
  term_in_is (suc n) (mark m ∷ rest) =
      let P : Option TermRead → ℕ → Type 0 = λ o k. TermIs (mark k ∷ rest) o in
      term_if (mark m ∷ rest) (m == 43) _ _ (λ e. subst (P (signed plus (term_in n rest))) (sym (same_code m 43 e)) (plus_is rest (term_in n rest) (term_in_is n rest)))
      (λ _. term_if (mark m ∷ rest) (m == 45) _ _ (λ e. subst (P (signed minus (term_in n rest))) (sym (same_code m 45 e)) (minus_is rest (term_in n rest) (term_in_is n rest)))
      (λ _. term_if (mark m ∷ rest) (m == 60) _ _ (λ e. subst (P (behind (term_in n rest) (λ (r : TermRead). joined_in n r.rest) closed_by)) (sym (same_code m 60 e)) (behind_is rest (term_in n rest) (λ (r : TermRead). joined_in n r.rest) (term_in_is n rest) (λ r. joined_in_is n r.rest)))
      (λ _. term_if (mark m ∷ rest) (m == 94) _ None (λ e. subst (P (operated rest (λ (s : List Symbol). term_in n s))) (sym (same_code m 94 e)) (operated_is rest (λ (s : List Symbol). term_in n s) (λ s. term_in_is n s)))
      (λ _. tt))))

  pub joined_in_is : (n : ℕ) (symbols : List Symbol) → JoinedIs symbols (joined_in n symbols)
  joined_in_is zero symbols = tt
  joined_in_is (suc n) [] = refl
  joined_in_is (suc n) (number k ∷ rest) = refl
  joined_in_is (suc n) (name s ∷ rest) = refl
  joined_in_is (suc n) (characters s ∷ rest) = refl
  joined_in_is (suc n) (mark m ∷ rest) = joined_by_is m rest (operator_of_mark m) _ refl (λ operator. joining_is operator rest (term_in n rest) (λ (r : TermRead). joined_in n r.rest) (term_in_is n rest) (λ r. joined_in_is n r.rest))

-- ---- An expression that the symbols spell is read.

names_longer : (names : List (List ℕ)) (rest : List Symbol) → length rest ≤ length (names_then names rest)
names_longer [] rest = omega arith
names_longer (r ∷ []) rest = omega arith
names_longer (r ∷ s ∷ names) rest = omega (arith, names_longer (s ∷ names) rest)

mutual
  pub term_longer : (t : Term) (rest : List Symbol) → length rest < length (term_then t rest)
  term_longer (constant n) rest = omega arith
  term_longer (named_by s) rest = omega arith
  term_longer (quoted text) rest = omega arith
  term_longer (mask names) rest = omega (arith, names_longer names (mark 62 ∷ rest))
  term_longer (single_mask register) rest = omega arith
  term_longer (plus t) rest = omega (arith, term_longer t rest)
  term_longer (minus t) rest = omega (arith, term_longer t rest)
  term_longer (complement t) rest = omega (arith, term_longer t rest)
  term_longer (bracketed t more) rest = omega (arith, term_longer t (joined_then more (mark 62 ∷ rest)), joined_longer more (mark 62 ∷ rest))

  pub joined_longer : (more : Joined) (rest : List Symbol) → length rest ≤ length (joined_then more rest)
  joined_longer finish rest = omega arith
  joined_longer (joined operator t more) rest = omega (arith, term_longer t (joined_then more rest), joined_longer more rest)

names_read : (r : List ℕ) (names : List (List ℕ)) (rest : List Symbol) → mask_names (names_then (r ∷ names) (mark 62 ∷ rest)) ≡ Some (record { first = r; others = names; rest = rest })
names_read r [] rest = refl
names_read r (s ∷ names) rest = ap (with_name r) (names_read s names rest)

mask_read : (names : List (List ℕ)) (rest : List Symbol) → mask_in (mark 60 ∷ names_then names (mark 62 ∷ rest)) ≡ Some (record { term = mask names; rest = rest })
mask_read [] rest = refl
mask_read (r ∷ []) rest = ap mask_of (names_read r [] rest)
mask_read (r ∷ s ∷ names) rest = ap mask_of (names_read r (s ∷ names) rest)

no_operator_here : (m : ℕ) (rest : List Symbol) (o : Option Operation) → NotOperator (mark m ∷ rest) → operator_of_mark m ≡ o → o ≡ None
no_operator_here m rest None q e = refl
no_operator_here m rest (Some operator) q e = absurd (q operator rest (ap (λ (k : ℕ). mark k ∷ rest) (mark_operator m operator e)))

mutual
  unfolding term_in joined_in

  pub term_read : (n : ℕ) (t : Term) (rest : List Symbol) → length (term_then t rest) ≤ n → term_in n (term_then t rest) ≡ Some (record { term = t; rest = rest })
  term_read zero t rest h = absurd (omega (arith, term_longer t rest))
  term_read (suc n) (constant k) rest h = refl
  term_read (suc n) (named_by s) rest h = refl
  term_read (suc n) (quoted text) rest h = refl
  term_read (suc n) (mask names) rest h = mask_read names rest
  term_read (suc n) (single_mask register) rest h = refl
  term_read (suc n) (plus t) rest h = ap (signed plus) (term_read n t rest (omega arith))
  term_read (suc n) (minus t) rest h = ap (signed minus) (term_read n t rest (omega arith))
  term_read (suc n) (complement t) rest h = ap (signed complement) (term_read n t rest (omega arith))
  term_read (suc n) (bracketed t more) rest h =
      let first = term_read n t (joined_then more (mark 62 ∷ rest)) (omega arith) in
      let second = joined_read n more (mark 62 ∷ rest) (bracket_ends rest) (omega (arith, term_longer t (joined_then more (mark 62 ∷ rest)))) in
      ap (λ (o : Option TermRead). behind o (λ (r : TermRead). joined_in n r.rest) closed_by) first ∙ ap (closed_by t) second

  pub joined_read : (n : ℕ) (more : Joined) (rest : List Symbol) → NotOperator rest → length (joined_then more rest) < n → joined_in n (joined_then more rest) ≡ Some (record { more = more; rest = rest })
  joined_read zero more rest q h = absurd (omega arith)
  joined_read (suc n) finish [] q h = refl
  joined_read (suc n) finish (number k ∷ rest) q h = refl
  joined_read (suc n) finish (name s ∷ rest) q h = refl
  joined_read (suc n) finish (characters s ∷ rest) q h = refl
  joined_read (suc n) finish (mark m ∷ rest) q h = ap (λ (o : Option Operation). joined_by o (mark m ∷ rest) (λ (operator : Operation). joining operator (term_in n rest) (λ (r : TermRead). joined_in n r.rest))) (no_operator_here m rest (operator_of_mark m) q refl)
  joined_read (suc n) (joined operator t more) rest q h =
      let first = term_read n t (joined_then more rest) (omega arith) in
      let second = joined_read n more rest q (omega (arith, term_longer t (joined_then more rest))) in
      ap (λ (o : Option Operation). joined_by o (mark (operator_mark operator) ∷ term_then t (joined_then more rest)) (λ (p : Operation). joining p (term_in n (term_then t (joined_then more rest))) (λ (r : TermRead). joined_in n r.rest))) (operator_known operator)
      ∙ ap (λ (o : Option TermRead). joining operator o (λ (r : TermRead). joined_in n r.rest)) first ∙ ap (join operator t) second

-- ---- The value.

not_operator_end : NotOperator []
not_operator_end operator rest e = cc

-- the value of an expression that the symbols spell
pub value_spelled : (names : Sense) (symbols : List Symbol) (e : Expression) → spelling e ≡ symbols → value_at names symbols ≡ value_of names e
unfolding value_at
value_spelled names symbols e i =
    let P : List Symbol → Type 0 = λ s. value_behind names (suc (length s)) (term_in (suc (length s)) s) ≡ value_of names e in
    let all : List Symbol = spelling e in
    let first = term_read (suc (length (spelling e))) e.first (joined_then e.more []) (omega arith) in
    let second = joined_read (suc (length (spelling e))) e.more [] not_operator_end (omega (arith, term_longer e.first (joined_then e.more []))) in
    subst P i (ap (value_behind names (suc (length (spelling e)))) first ∙ ap (whole_value names e.first) second)

whole_none : (names : Sense) (symbols rest : List Symbol) (t : Term) (o : Option JoinedRead) → term_then t rest ≡ symbols → JoinedIs rest o → ((e : Expression) → spelling e ≢ symbols) → whole_value names t o ≡ Err Form
whole_none names symbols rest t None h i none = refl
whole_none names symbols rest t (Some r) h i none = last r.rest i
  where
    last : (left : List Symbol) → joined_then r.more left ≡ rest → whole_value names t (Some (record { more = r.more; rest = left })) ≡ Err Form
    last [] e = absurd (none (record { first = t; more = r.more }) (ap (term_then t) e ∙ h))
    last (s ∷ left) e = refl

term_none : (names : Sense) (symbols : List Symbol) (n : ℕ) (o : Option TermRead) → TermIs symbols o → ((e : Expression) → spelling e ≢ symbols) → value_behind names n o ≡ Err Form
term_none names symbols n None h none = refl
term_none names symbols n (Some r) h none = whole_none names symbols r.rest r.term (joined_in n r.rest) h (joined_in_is n r.rest) none

-- symbols that spell none
pub value_none : (names : Sense) (symbols : List Symbol) → ((e : Expression) → spelling e ≢ symbols) → value_at names symbols ≡ Err Form
unfolding value_at
value_none names symbols none = term_none names symbols (suc (length symbols)) (term_in (suc (length symbols)) symbols) (term_in_is (suc (length symbols)) symbols) none

-- what an expression evaluates to
pub evaluates_at : (names : Sense) (symbols : List Symbol) (answer : Result Value ExprError) → Evaluates names symbols answer → answer ≡ value_at names symbols
evaluates_at names symbols answer v = ⊎_elim
    (λ (p : (e : Expression) × (spelling e ≡ symbols) × (answer ≡ value_of names e)). p.2 ∙ sym (value_spelled names symbols p.0 p.1))
    (λ (p : ((e : Expression) → spelling e ≢ symbols) × (answer ≡ Err Form)). p.1 ∙ sym (value_none names symbols p.0)) v
