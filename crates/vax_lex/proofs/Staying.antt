-- A fault that is certain stays when more names have values.
use Rattle.std.proofs.Common.{◌≡◌, ℕ, ℤ, pos, Bool, true, false, List, [], ◌∷◌, Option, Some, None, Result, Ok, Err, refl, ap, ◌∙◌, sym, subst, ⊎_elim}
use Rattle.std.proofs.lemmas.Bool.{false_from_ne_true, false≢true}
use Rattle.std.proofs.lemmas.Bool.Decides.{Decides-int_eq}
use Rattle.std.specs.Prelude.{◌&&◌, ◌||◌, ◌≢◌, ok_or, if◌then◌else◌}
use Rattle.std.specs.Ordering.{int_eq}
use Rattle.vax_lex.specs.Certain.{Keeps, HasNone, with_values, is_zero, is_division, begins_with_zero, divides_by_zero, certain_by}
use Rattle.vax_lex.specs.Grammar.{Symbol, mark, Term, constant, named_by, quoted, mask, single_mask, plus, minus, complement, bracketed, Joined, finish, joined, operator_mark, names_then, term_then, joined_then, term_value, joined_value, Expression, spelling, value_of, Evaluates}
use Rattle.vax_lex.specs.Values.{Operation, addition, subtraction, multiplication, division, arithmetic_shift, logical_and, inclusive_or, exclusive_or, Sense, apply, product_of, quotient, combine, combined, complement_of, complemented, fitted, fitted_value, minus_of, negated, first_error, refuses_left, refuses_right}
use Rattle.vax_dialect.specs.declared.Dialect.{Dialect}
use Rattle.vax_lex.specs.declared.value.Value.{Value}
use Rattle.vax_lex.specs.declared.value.Value.TheVariants.{Absolute, Section, External}
use Rattle.vax_lex.specs.declared.value.ExprError.{ExprError}
use Rattle.vax_lex.specs.declared.value.ExprError.TheVariants.{Form, Unknown, Range}
use Rattle.vax_lex.proofs.Dividing.{term_is}
use Rattle.vax_lex.proofs.Quotients.{quotient_by_0}
use Rattle.vax_lex.proofs.Reader.{value_spelled, value_none}

abbrev NotOk : Result Value ExprError → Type 0
NotOk r = (v : Value) → r ≡ Ok v → ⊥

-- what becomes of a result once more names have values: a value stays, and so does a fault but for an unknown name
abbrev Later : Result Value ExprError → Result Value ExprError → Type 0
Later (Ok x) s = s ≡ Ok x
Later (Err Form) s = NotOk s
Later (Err Unknown) s = Unit {0}
Later (Err Range) s = NotOk s

not_ok : (e : ExprError) → NotOk (Err e)
not_ok e v is = cc

later_itself : (r : Result Value ExprError) → Later r r
later_itself (Ok x) = refl
later_itself (Err Form) = not_ok Form
later_itself (Err Unknown) = tt
later_itself (Err Range) = not_ok Range

-- an operator has a value only where its operands have

record Operands (op : Operation) (l r : Result Value ExprError) (v : Value) : Type 0 where
  left : Value
  left_is : l ≡ Ok left
  right : Value
  right_is : r ≡ Ok right
  gives : apply op left right ≡ Ok v

operands : (op : Operation) (l r : Result Value ExprError) (v : Value) → combine op l r ≡ Ok v → Operands op l r v
operands op (Ok x) (Ok y) v e = record { left = x; left_is = refl; right = y; right_is = refl; gives = e }
operands op (Ok x) (Err d) v e = absurd cc
operands op (Err d) (Ok y) v e = absurd cc
operands op (Err d) (Err f) v e = absurd cc

left_not_ok : (op : Operation) (l r : Result Value ExprError) → NotOk l → NotOk (combine op l r)
left_not_ok op l r h v e = let o = operands op l r v e in h o.left o.left_is

right_not_ok : (op : Operation) (l r : Result Value ExprError) → NotOk r → NotOk (combine op l r)
right_not_ok op l r h v e = let o = operands op l r v e in h o.right o.right_is

record Numbers (x y : Value) : Type 0 where
  left : ℤ
  left_is : x ≡ Absolute left
  right : ℤ
  right_is : y ≡ Absolute right

numbers : (op : Operation) (x y v : Value) → product_of op x y ≡ Ok v → Numbers x y
numbers op (Absolute a) (Absolute b) v e = record { left = a; left_is = refl; right = b; right_is = refl }
numbers op (Absolute a) (Section s b) v e = absurd cc
numbers op (Absolute a) (External i b) v e = absurd cc
numbers op (Section s a) y v e = absurd cc
numbers op (External i a) y v e = absurd cc

number_left : (op : Operation) → ((a : ℤ) → refuses_left op (Absolute a) ≡ false) → (x y v : Value) → refuses_left op x ≡ true → product_of op x y ≡ Ok v → ⊥
number_left op takes x y v r e = let n = numbers op x y v e in false≢true (sym (ap (refuses_left op) n.left_is ∙ takes n.left) ∙ r)

number_right : (op : Operation) → ((a : ℤ) → refuses_right op (Absolute a) ≡ false) → (x y v : Value) → refuses_right op y ≡ true → product_of op x y ≡ Ok v → ⊥
number_right op takes x y v r e = let n = numbers op x y v e in false≢true (sym (ap (refuses_right op) n.right_is ∙ takes n.right) ∙ r)

refused_left : (op : Operation) (x y v : Value) → refuses_left op x ≡ true → apply op x y ≡ Ok v → ⊥
refused_left addition x y v r e = false≢true r
refused_left subtraction x y v r e = false≢true r
refused_left multiplication x y v r e = number_left multiplication (λ a. refl) x y v r e
refused_left division x y v r e = number_left division (λ a. refl) x y v r e
refused_left arithmetic_shift x y v r e = number_left arithmetic_shift (λ a. refl) x y v r e
refused_left logical_and x y v r e = number_left logical_and (λ a. refl) x y v r e
refused_left inclusive_or x y v r e = number_left inclusive_or (λ a. refl) x y v r e
refused_left exclusive_or x y v r e = number_left exclusive_or (λ a. refl) x y v r e

external_right : (x y v : Value) → refuses_right subtraction y ≡ true → apply subtraction x y ≡ Ok v → ⊥
external_right x (Absolute b) v r e = false≢true r
external_right x (Section s b) v r e = false≢true r
external_right (Absolute a) (External i b) v r e = cc
external_right (Section s a) (External i b) v r e = cc
external_right (External j a) (External i b) v r e = cc

refused_right : (op : Operation) (x y v : Value) → refuses_right op y ≡ true → apply op x y ≡ Ok v → ⊥
refused_right addition x y v r e = false≢true r
refused_right subtraction x y v r e = external_right x y v r e
refused_right multiplication x y v r e = number_right multiplication (λ a. refl) x y v r e
refused_right division x y v r e = number_right division (λ a. refl) x y v r e
refused_right arithmetic_shift x y v r e = number_right arithmetic_shift (λ a. refl) x y v r e
refused_right logical_and x y v r e = number_right logical_and (λ a. refl) x y v r e
refused_right inclusive_or x y v r e = number_right inclusive_or (λ a. refl) x y v r e
refused_right exclusive_or x y v r e = number_right exclusive_or (λ a. refl) x y v r e

error_right : (op : Operation) (m s : Result Value ExprError) (e : ExprError) → Later (Err e) s → Later (Err e) (combine op m s)
error_right op m s Form h = right_not_ok op m s h
error_right op m s Unknown h = tt
error_right op m s Range h = right_not_ok op m s h

error_left : (op : Operation) (m s : Result Value ExprError) (e : ExprError) → Later (Err e) m → Later (Err e) (combine op m s)
error_left op m s Form h = left_not_ok op m s h
error_left op m s Unknown h = tt
error_left op m s Range h = left_not_ok op m s h

value_left : (op : Operation) (x : Value) (m s : Result Value ExprError) (e : ExprError) (b : Bool) → refuses_left op x ≡ b → m ≡ Ok x → Later (Err e) s → Later (Err (if b then Form else e)) (combine op m s)
value_left op x m s e true r is h = λ v ok.
    let o = operands op m s v ok in
    let same : o.left ≡ x = let p = o.left_is in cc in
    refused_left op o.left o.right v (ap (refuses_left op) same ∙ r) o.gives
value_left op x m s e false r is h = error_right op m s e h

value_right : (op : Operation) (y : Value) (m s : Result Value ExprError) (d : ExprError) (b : Bool) → refuses_right op y ≡ b → s ≡ Ok y → Later (Err d) m → Later (Err (if b then Form else d)) (combine op m s)
value_right op y m s d true r is h = λ v ok.
    let o = operands op m s v ok in
    let same : o.right ≡ y = let p = o.right_is in cc in
    refused_right op o.left o.right v (ap (refuses_right op) same ∙ r) o.gives
value_right op y m s d false r is h = error_left op m s d h

two_errors : (op : Operation) (m s : Result Value ExprError) (d e : ExprError) → Later (Err d) m → Later (Err e) s → Later (Err (first_error d e)) (combine op m s)
two_errors op m s Form e h i = left_not_ok op m s h
two_errors op m s Unknown Form h i = right_not_ok op m s i
two_errors op m s Unknown Unknown h i = tt
two_errors op m s Unknown Range h i = tt
two_errors op m s Range e h i = error_right op m s e i

combine_later : (op : Operation) (l m r s : Result Value ExprError) → Later l m → Later r s → Later (combine op l r) (combine op m s)
combine_later op (Ok x) m (Ok y) s h i = rw h (rw i (later_itself (apply op x y)))
combine_later op (Ok x) m (Err e) s h i = value_left op x m s e (refuses_left op x) refl h i
combine_later op (Err d) m (Ok y) s h i = value_right op y m s d (refuses_right op y) refl i h
combine_later op (Err d) m (Err e) s h i = two_errors op m s d e h i

negated_of : (s : Result Value ExprError) (v : Value) → negated s ≡ Ok v → (u : Value) × (s ≡ Ok u)
negated_of (Ok u) v e = (u, refl)
negated_of (Err d) v e = absurd cc

complemented_of : (s : Result Value ExprError) (v : Value) → complemented s ≡ Ok v → (u : Value) × (s ≡ Ok u)
complemented_of (Ok u) v e = (u, refl)
complemented_of (Err d) v e = absurd cc

negated_later : (r s : Result Value ExprError) → Later r s → Later (negated r) (negated s)
negated_later (Ok x) s h = rw h (later_itself (negated (Ok x)))
negated_later (Err Form) s h = λ v e. let u = negated_of s v e in h u.0 u.1
negated_later (Err Unknown) s h = tt
negated_later (Err Range) s h = λ v e. let u = negated_of s v e in h u.0 u.1

complemented_later : (r s : Result Value ExprError) → Later r s → Later (complemented r) (complemented s)
complemented_later (Ok x) s h = rw h (later_itself (complemented (Ok x)))
complemented_later (Err Form) s h = λ v e. let u = complemented_of s v e in h u.0 u.1
complemented_later (Err Unknown) s h = tt
complemented_later (Err Range) s h = λ v e. let u = complemented_of s v e in h u.0 u.1

-- what operators see of a term

fitted_of : (d : Dialect) (s : Result Value ExprError) (v : Value) → fitted d s ≡ Ok v → (u : Value) × (s ≡ Ok u)
fitted_of d (Ok u) v e = (u, refl)
fitted_of d (Err f) v e = absurd cc

fitted_later : (d : Dialect) (r s : Result Value ExprError) → Later r s → Later (fitted d r) (fitted d s)
fitted_later d (Ok x) s h = ap (fitted d) h
fitted_later d (Err Form) s h = λ v e. let u = fitted_of d s v e in h u.0 u.1
fitted_later d (Err Unknown) s h = tt
fitted_later d (Err Range) s h = λ v e. let u = fitted_of d s v e in h u.0 u.1

combined_later : (d : Dialect) (op : Operation) (l m r s : Result Value ExprError) → Later l m → Later r s → Later (combined d op l r) (combined d op m s)
combined_later d op l m r s h i =
    fitted_later d (combine op (fitted d l) (fitted d r)) (combine op (fitted d m) (fitted d s))
    (combine_later op (fitted d l) (fitted d m) (fitted d r) (fitted d s) (fitted_later d l m h) (fitted_later d r s i))

minus_later : (d : Dialect) (r s : Result Value ExprError) → Later r s → Later (minus_of d r) (minus_of d s)
minus_later d r s h = fitted_later d (negated (fitted d r)) (negated (fitted d s)) (negated_later (fitted d r) (fitted d s) (fitted_later d r s h))

complement_later : (d : Dialect) (r s : Result Value ExprError) → Later r s → Later (complement_of d r) (complement_of d s)
complement_later d r s h = fitted_later d (complemented (fitted d r)) (complemented (fitted d s)) (complemented_later (fitted d r) (fitted d s) (fitted_later d r s h))

-- the operands of an operator in a dialect

record Terms (d : Dialect) (op : Operation) (l r : Result Value ExprError) : Type 0 where
  left : Value
  left_is : l ≡ Ok left
  right : Value
  right_is : r ≡ Ok right
  given : Value
  gives : apply op (fitted_value d left) (fitted_value d right) ≡ Ok given

terms : (d : Dialect) (op : Operation) (l r : Result Value ExprError) (v : Value) → combined d op l r ≡ Ok v → Terms d op l r
terms d op l r v e =
    let c = fitted_of d (combine op (fitted d l) (fitted d r)) v e in
    let o = operands op (fitted d l) (fitted d r) c.0 c.1 in
    let x = fitted_of d l o.left o.left_is in
    let y = fitted_of d r o.right o.right_is in
    let here : Ok (fitted_value d x.0) ≡ Ok o.left = ap (fitted d) (sym x.1) ∙ o.left_is in
    let there : Ok (fitted_value d y.0) ≡ Ok o.right = ap (fitted d) (sym y.1) ∙ o.right_is in
    let left : fitted_value d x.0 ≡ o.left = cc in
    let right : fitted_value d y.0 ≡ o.right = cc in
    record {
      left = x.0;
      left_is = x.1;
      right = y.0;
      right_is = y.1;
      given = c.0;
      gives = ap (λ z. apply op z (fitted_value d y.0)) left ∙ ap (apply op o.left) right ∙ o.gives;
    }

minus_term : (d : Dialect) (s : Result Value ExprError) (v : Value) → minus_of d s ≡ Ok v → (u : Value) × (s ≡ Ok u)
minus_term d s v e =
    let n = fitted_of d (negated (fitted d s)) v e in
    let f = negated_of (fitted d s) n.0 n.1 in
    fitted_of d s f.0 f.1

complement_term : (d : Dialect) (s : Result Value ExprError) (v : Value) → complement_of d s ≡ Ok v → (u : Value) × (s ≡ Ok u)
complement_term d s v e =
    let n = fitted_of d (complemented (fitted d s)) v e in
    let f = complemented_of (fitted d s) n.0 n.1 in
    fitted_of d s f.0 f.1

found_later : (o p : Option Value) → ((v : Value) → o ≡ Some v → p ≡ Some v) → Later (ok_or o Unknown) (ok_or p Unknown)
found_later (Some x) p h = ap (λ q. ok_or q Unknown) (h x refl)
found_later None p h = tt

mutual
  term_later : (names : Sense) (more : List ℕ → Option Value) → Keeps names.value more → (t : Term) → Later (term_value names t) (term_value (with_values names more) t)
  term_later names more h (constant n) = refl
  term_later names more h (named_by s) = found_later (names.value s) (more s) (h s)
  term_later names more h (quoted text) = later_itself (term_value names (quoted text))
  term_later names more h (mask registers) = later_itself (term_value names (mask registers))
  term_later names more h (single_mask register) = later_itself (term_value names (single_mask register))
  term_later names more h (plus t) = term_later names more h t
  term_later names more h (minus t) = minus_later names.dialect (term_value names t) (term_value (with_values names more) t) (term_later names more h t)
  term_later names more h (complement t) = complement_later names.dialect (term_value names t) (term_value (with_values names more) t) (term_later names more h t)
  term_later names more h (bracketed t j) = joined_later names more h (term_value names t) (term_value (with_values names more) t) (term_later names more h t) j

  joined_later : (names : Sense) (more : List ℕ → Option Value) → Keeps names.value more → (l m : Result Value ExprError) → Later l m → (j : Joined) → Later (joined_value names l j) (joined_value (with_values names more) m j)
  joined_later names more h l m less finish = less
  joined_later names more h l m less (joined op t j) =
      joined_later names more h (combined names.dialect op l (term_value names t)) (combined names.dialect op m (term_value (with_values names more) t))
      (combined_later names.dialect op l m (term_value names t) (term_value (with_values names more) t) less (term_later names more h t)) j

value_later : (names : Sense) (more : List ℕ → Option Value) → Keeps names.value more → (e : Expression) → Later (value_of names e) (value_of (with_values names more) e)
value_later names more h e = joined_later names more h (term_value names e.first) (term_value (with_values names more) e.first) (term_later names more h e.first) e.more

-- what has a value divides by no 0

first_of : (names : Sense) (l : Result Value ExprError) (j : Joined) (v : Value) → joined_value names l j ≡ Ok v → (u : Value) × (l ≡ Ok u)
first_of names l finish v e = (v, e)
first_of names l (joined op t j) v e =
    let n = first_of names (combined names.dialect op l (term_value names t)) j v e in
    let o = terms names.dialect op l (term_value names t) n.0 n.1 in
    (o.left, o.left_is)

divisor : (a b : ℤ) (v : Value) → quotient a b ≡ Ok v → int_eq b (pos 0) ≡ false
divisor a b v e =
    false_from_ne_true (int_eq b (pos 0)) (λ is. let none : Err Range ≡ Ok v = sym (quotient_by_0 a b ((Decides-int_eq b (pos 0)).0 is)) ∙ e in cc)

divided : (x y v : Value) → product_of division x y ≡ Ok v → is_zero (Ok y) ≡ false
divided x y v e =
    let n = numbers division x y v e in
    let left = ap (λ a. product_of division a y) (sym n.left_is) in
    let right = ap (product_of division (Absolute n.left)) (sym n.right_is) in
    ap (λ b. is_zero (Ok b)) n.right_is ∙ divisor n.left n.right v (right ∙ left ∙ e)

no_zero : (y : Value) (r : Result Value ExprError) → Later r (Ok y) → is_zero (Ok y) ≡ false → is_zero r ≡ false
no_zero y (Ok z) h e = ap is_zero (sym h) ∙ e
no_zero y (Err d) h e = refl

not_by_zero : (op : Operation) (x y v : Value) (r : Result Value ExprError) → Later r (Ok y) → apply op x y ≡ Ok v → (is_division (mark (operator_mark op)) && is_zero r) ≡ false
not_by_zero addition x y v r h e = refl
not_by_zero subtraction x y v r h e = refl
not_by_zero multiplication x y v r h e = refl
not_by_zero division x y v r h e = no_zero y r h (divided x y v e)
not_by_zero arithmetic_shift x y v r h e = refl
not_by_zero logical_and x y v r h e = refl
not_by_zero inclusive_or x y v r h e = refl
not_by_zero exclusive_or x y v r h e = refl

mask_passed : (names : Sense) (registers : List (List ℕ)) (rest : List Symbol) → divides_by_zero names (names_then registers (mark 62 ∷ rest)) ≡ divides_by_zero names rest
mask_passed names [] rest = refl
mask_passed names (r ∷ []) rest = refl
mask_passed names (r ∷ s ∷ registers) rest = mask_passed names (s ∷ registers) rest

mutual
  term_passed : (names : Sense) (more : List ℕ → Option Value) → Keeps names.value more → (t : Term) (rest : List Symbol) (v : Value) → term_value (with_values names more) t ≡ Ok v
      → divides_by_zero names (term_then t rest) ≡ divides_by_zero names rest
  term_passed names more h (constant n) rest v e = refl
  term_passed names more h (named_by s) rest v e = refl
  term_passed names more h (quoted text) rest v e = refl
  term_passed names more h (mask registers) rest v e = mask_passed names registers rest
  term_passed names more h (single_mask register) rest v e = refl
  term_passed names more h (plus t) rest v e = term_passed names more h t rest v e
  term_passed names more h (minus t) rest v e = let u = minus_term names.dialect (term_value (with_values names more) t) v e in term_passed names more h t rest u.0 u.1
  term_passed names more h (complement t) rest v e = let u = complement_term names.dialect (term_value (with_values names more) t) v e in term_passed names more h t rest u.0 u.1
  term_passed names more h (bracketed t j) rest v e =
      let u = first_of (with_values names more) (term_value (with_values names more) t) j v e in
      term_passed names more h t (joined_then j (mark 62 ∷ rest)) u.0 u.1 ∙ joined_passed names more h (term_value (with_values names more) t) j (mark 62 ∷ rest) v e

  joined_passed : (names : Sense) (more : List ℕ → Option Value) → Keeps names.value more → (l : Result Value ExprError) (j : Joined) (rest : List Symbol) (v : Value) → joined_value (with_values names more) l j ≡ Ok v
      → divides_by_zero names (joined_then j rest) ≡ divides_by_zero names rest
  joined_passed names more h l finish rest v e = refl
  joined_passed names more h l (joined op t j) rest v e =
      let n = first_of (with_values names more) (combined names.dialect op l (term_value (with_values names more) t)) j v e in
      let o = terms names.dialect op l (term_value (with_values names more) t) n.0 n.1 in
      let behind = term_then t (joined_then j rest) in
      let P : Result Value ExprError → Type 0 = λ r. Later (fitted names.dialect (term_value names t)) (fitted names.dialect r) in
      let later = fitted_later names.dialect (term_value names t) (term_value (with_values names more) t) (term_later names more h t) in
      let zero_there : is_zero (fitted names.dialect (term_value names t)) ≡ begins_with_zero names behind = term_is names behind (joined_then j rest) t (term_value names t) refl refl in
      let none = not_by_zero op (fitted_value names.dialect o.left) (fitted_value names.dialect o.right) o.given (fitted names.dialect (term_value names t)) (subst P o.right_is later) o.gives in
      ap (λ b. (is_division (mark (operator_mark op)) && b) || divides_by_zero names behind) (sym zero_there)
      ∙ ap (λ b. b || divides_by_zero names behind) none
      ∙ term_passed names more h t (joined_then j rest) o.right o.right_is
      ∙ joined_passed names more h (combined names.dialect op l (term_value (with_values names more) t)) j rest v e

none_divided : (names : Sense) (more : List ℕ → Option Value) → Keeps names.value more → (e : Expression) (v : Value) → value_of (with_values names more) e ≡ Ok v → divides_by_zero names (spelling e) ≡ false
none_divided names more h e v is =
    let u = first_of (with_values names more) (term_value (with_values names more) e.first) e.more v is in
    term_passed names more h e.first (joined_then e.more []) u.0 u.1 ∙ joined_passed names more h (term_value (with_values names more) e.first) e.more [] v is

-- the fault stays

no_fault : (answer : Result Value ExprError) (b : Bool) (f : ExprError) (v : Value) → Later answer (Ok v) → b ≡ false → certain_by b answer ≡ Some f → ⊥
no_fault (Ok x) b f v h i e = cc
no_fault (Err Form) b f v h i e = h v refl
no_fault (Err Unknown) b f v h i e = let none : None ≡ Some f = sym (ap (λ c. certain_by c (Err Unknown)) i) ∙ e in cc
no_fault (Err Range) b f v h i e = h v refl

pub stays : (names : Sense) (symbols : List Symbol) (answer : Result Value ExprError) (f : ExprError) → Evaluates names symbols answer
    → certain_by (divides_by_zero names symbols) answer ≡ Some f → HasNone names symbols
stays names symbols answer f evaluates certain more h v ok =
    ⊎_elim
    (λ (p : (e : Expression) × (spelling e ≡ symbols) × (answer ≡ value_of names e)).
    let P : Result Value ExprError → Type 0 = λ r. Later r (Ok v) in
    let Q : Result Value ExprError → Type 0 = λ r. Later (value_of names p.0) r in
    let value : value_of (with_values names more) p.0 ≡ Ok v = sym (value_spelled (with_values names more) symbols p.0 p.1) ∙ ok in
    no_fault answer (divides_by_zero names symbols) f v (subst P (sym p.2) (subst Q value (value_later names more h p.0)))
    (ap (divides_by_zero names) (sym p.1) ∙ none_divided names more h p.0 v value) certain)
    (λ (p : ((e : Expression) → spelling e ≢ symbols) × (answer ≡ Err Form)).
    let none : Err Form ≡ Ok v = sym (value_none (with_values names more) symbols p.0) ∙ ok in cc)
    evaluates
