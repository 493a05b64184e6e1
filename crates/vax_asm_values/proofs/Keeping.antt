-- An expression that has a value keeps it when more names have one.
use Rattle.std.proofs.Common.{◌≡◌, ℕ, suc, List, [], ◌∷◌, length, Option, Some, None, Result, Ok, Err, refl}
use Rattle.vax_lex.specs.Grammar.{Symbol, Term, constant, named_by, quoted, mask, single_mask, plus, minus, complement, bracketed, Joined, finish, joined, term_value, joined_value}
use Rattle.vax_lex.specs.Expressions.{TermRead, JoinedRead, term_in, joined_in, whole_value, value_behind, value_at}
use Rattle.vax_dialect.specs.declared.Dialect.{Dialect}
use Rattle.vax_lex.specs.Values.{Operation, Sense, combine, combined, complement_of, complemented, fitted, minus_of, named, negated}
use Rattle.vax_lex.specs.declared.value.Value.{Value}
use Rattle.vax_lex.specs.declared.value.ExprError.{ExprError}
use Rattle.vax_lex.specs.declared.value.ExprError.TheVariants.{Unknown}

-- every value of the one is one of the other
abbrev pub Keeps : {X : Type 0} → (X → Option Value) → (X → Option Value) → Type 0
Keeps {X} f g = (x : X) (v : Value) → f x ≡ Some v → g x ≡ Some v

abbrev Below : Result Value ExprError → Result Value ExprError → Type 0
Below r s = (v : Value) → r ≡ Ok v → s ≡ Ok v

combine_below : (op : Operation) (l m r s : Result Value ExprError) → Below l m → Below r s → Below (combine op l r) (combine op m s)
combine_below op (Ok x) m (Ok y) s left right v e = rw (left x refl) (rw (right y refl) e)
combine_below op (Ok x) m (Err d) s left right v e = absurd cc
combine_below op (Err c) m (Ok y) s left right v e = absurd cc
combine_below op (Err c) m (Err d) s left right v e = absurd cc

negated_below : (r s : Result Value ExprError) → Below r s → Below (negated r) (negated s)
negated_below (Ok x) s h v e = rw (h x refl) e
negated_below (Err d) s h v e = absurd cc

complemented_below : (r s : Result Value ExprError) → Below r s → Below (complemented r) (complemented s)
complemented_below (Ok x) s h v e = rw (h x refl) e
complemented_below (Err d) s h v e = absurd cc

fitted_below : (d : Dialect) (r s : Result Value ExprError) → Below r s → Below (fitted d r) (fitted d s)
fitted_below d (Ok x) s h v e = rw (h x refl) e
fitted_below d (Err c) s h v e = absurd cc

combined_below : (d : Dialect) (op : Operation) (l m r s : Result Value ExprError) → Below l m → Below r s → Below (combined d op l r) (combined d op m s)
combined_below d op l m r s left right =
    fitted_below d (combine op (fitted d l) (fitted d r)) (combine op (fitted d m) (fitted d s))
    (combine_below op (fitted d l) (fitted d m) (fitted d r) (fitted d s) (fitted_below d l m left) (fitted_below d r s right))

minus_below : (d : Dialect) (r s : Result Value ExprError) → Below r s → Below (minus_of d r) (minus_of d s)
minus_below d r s h = fitted_below d (negated (fitted d r)) (negated (fitted d s)) (negated_below (fitted d r) (fitted d s) (fitted_below d r s h))

complement_below : (d : Dialect) (r s : Result Value ExprError) → Below r s → Below (complement_of d r) (complement_of d s)
complement_below d r s h = fitted_below d (complemented (fitted d r)) (complemented (fitted d s)) (complemented_below (fitted d r) (fitted d s) (fitted_below d r s h))

-- expressions of a dialect under values of names
abbrev pub under : Dialect → (List ℕ → Option Value) → Sense
under d f = record { dialect = d; value = f }

found_below : (d : Dialect) (o p : Option Value) → ((v : Value) → o ≡ Some v → p ≡ Some v) → (f g : List ℕ → Option Value) (name : List ℕ) → f name ≡ o → g name ≡ p
    → Below (named (under d f) name) (named (under d g) name)
found_below d (Some x) p h f g name a b v e = rw b (rw (h x refl) (rw a at e))
found_below d None p h f g name a b v e = let none : Err Unknown ≡ Ok v = rw a at e in absurd cc

named_below : (d : Dialect) (f g : List ℕ → Option Value) → Keeps f g → (name : List ℕ) → Below (named (under d f) name) (named (under d g) name)
named_below d f g h name = found_below d (f name) (g name) (h name) f g name refl refl

mutual
  term_below : (d : Dialect) (f g : List ℕ → Option Value) → Keeps f g → (t : Term) → Below (term_value (under d f) t) (term_value (under d g) t)
  term_below d f g h (constant n) = λ v e. e
  term_below d f g h (named_by s) = named_below d f g h s
  term_below d f g h (quoted text) = λ v e. e
  term_below d f g h (mask registers) = λ v e. e
  term_below d f g h (single_mask register) = λ v e. e
  term_below d f g h (plus t) = term_below d f g h t
  term_below d f g h (minus t) = minus_below d (term_value (under d f) t) (term_value (under d g) t) (term_below d f g h t)
  term_below d f g h (complement t) = complement_below d (term_value (under d f) t) (term_value (under d g) t) (term_below d f g h t)
  term_below d f g h (bracketed t more) = joined_below d f g h (term_value (under d f) t) (term_value (under d g) t) (term_below d f g h t) more

  joined_below : (d : Dialect) (f g : List ℕ → Option Value) → Keeps f g → (l m : Result Value ExprError) → Below l m → (more : Joined) → Below (joined_value (under d f) l more) (joined_value (under d g) m more)
  joined_below d f g h l m less finish = less
  joined_below d f g h l m less (joined op t more) =
      joined_below d f g h (combined d op l (term_value (under d f) t)) (combined d op m (term_value (under d g) t)) (combined_below d op l m (term_value (under d f) t) (term_value (under d g) t) less (term_below d f g h t)) more

rest_below : (d : Dialect) (f g : List ℕ → Option Value) → Keeps f g → (t : Term) (more : Joined) (rest : List Symbol) → Below (whole_value (under d f) t (Some (record { more = more; rest = rest }))) (whole_value (under d g) t (Some (record { more = more; rest = rest })))
rest_below d f g h t more [] = joined_below d f g h (term_value (under d f) t) (term_value (under d g) t) (term_below d f g h t) more
rest_below d f g h t more (s ∷ rest) = λ v e. e

whole_below : (d : Dialect) (f g : List ℕ → Option Value) → Keeps f g → (t : Term) (o : Option JoinedRead) → Below (whole_value (under d f) t o) (whole_value (under d g) t o)
whole_below d f g h t None = λ v e. e
whole_below d f g h t (Some r) = rest_below d f g h t r.more r.rest

behind_below : (d : Dialect) (f g : List ℕ → Option Value) → Keeps f g → (steps : ℕ) (o : Option TermRead) → Below (value_behind (under d f) steps o) (value_behind (under d g) steps o)
behind_below d f g h steps None = λ v e. e
behind_below d f g h steps (Some r) = whole_below d f g h r.term (joined_in steps r.rest)

pub value_kept : (d : Dialect) (f g : List ℕ → Option Value) → Keeps f g → (symbols : List Symbol) (v : Value) → value_at (under d f) symbols ≡ Ok v → value_at (under d g) symbols ≡ Ok v
unfolding value_at
value_kept d f g h symbols = behind_below d f g h (suc (length symbols)) (term_in (suc (length symbols)) symbols)
