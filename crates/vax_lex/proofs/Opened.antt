-- What is open before a term, and what is read when it closes.
use Rattle.std.proofs.Common.{◌≡◌, ◌<◌, ◌≤◌, ◌+◌, ◌-◌, ℕ, true, false, List, [], ◌∷◌, length, Some, None, Result, refl, ap, arith, sym, subst}
use Rattle.std.specs.Prelude.{◌==◌, reverse, slice_get}
use Rattle.std.proofs.lemmas.Bool.Decides.{nat_tests}
use Rattle.std.proofs.lemmas.List.{length-drop, length-reverse}
use Rattle.vax_lex.specs.Grammar.{Symbol, mark, symbols_of, is_that_mark, operator_in}
use Rattle.vax_lex.specs.Nesting.{Begins, Closes, Due, IsOpen, SoFar, applied, is_bracket}
use Rattle.vax_lex.specs.Reading.{ReadsTerm}
use Rattle.vax_lex.specs.Values.{Sense}
use Rattle.vax_lex.specs.Views.{operation_view}
use Rattle.vax_lex.specs.declared.expression.Read.{Read}
use Rattle.vax_lex.specs.declared.nesting.Closed.TheVariants as ends
use Rattle.vax_lex.specs.declared.nesting.Open.{Open}
use Rattle.vax_lex.specs.declared.nesting.Open.TheVariants.{Plus, Minus, Complement, Bracket, Operator}
use Rattle.vax_lex.specs.declared.token.Token.{Token}
use Rattle.vax_lex.specs.declared.value.Binary.{Binary}
use Rattle.vax_lex.specs.declared.value.Value.{Value}
use Rattle.vax_lex.specs.declared.value.ExprError.{ExprError}
use Rattle.vax_lex.proofs.Parsing.{plus_read, minus_read, no_minus, complement_read, no_complement, bracket_read, no_bracket, no_bracket_end, so_far_begin, so_far_more, so_far_none, so_far_end, no_first}
use Rattle.vax_lex.proofs.Symbols.{Stands, length-symbols, mark_stands, operator_stands}

module _ (line : List ℕ) (tokens : List Token) where
  abbrev all : List Symbol
  all = symbols_of line tokens

  room : (at : ℕ) (s : Symbol) → Begins all at s → at < length tokens
  room at s h = omega (arith, length-symbols line tokens, length-drop at all, ap length h)

  -- a symbol that is at a place
  pub stands : (at : ℕ) (s : Symbol) → Begins all at s → Stands line tokens at s
  stands at s h = record { room = room at s h; is = h }

  module _ (names : Sense) where
    -- no term behind, and none here
    none_out : (begin : ℕ) (opening : Open) (term : ℕ) → IsOpen names all begin opening term → ReadsTerm names all term None → ReadsTerm names all begin None
    none_out begin Plus term h r =
        let P : ℕ → Type 0 = λ k. ReadsTerm names all k None in plus_read line tokens names begin None (stands begin _ h.0) (subst P h.1 r)
    none_out begin Minus term h r =
        let P : ℕ → Type 0 = λ k. ReadsTerm names all k None in no_minus line tokens names begin (stands begin _ h.0) (subst P h.1 r)
    none_out begin Complement term h r =
        let P : ℕ → Type 0 = λ k. ReadsTerm names all k None in no_complement line tokens names begin (stands begin _ h.0) (stands (begin + 1) _ h.1) (subst P h.2 r)
    none_out begin Bracket term h r =
        let P : ℕ → Type 0 = λ k. ReadsTerm names all k None in no_bracket line tokens names begin (stands begin _ h.0) (no_first line tokens names (begin + 1) (subst P h.1 r))
    none_out begin (Operator left operator) term h r =
        let P : ℕ → Type 0 = λ k. ReadsTerm names all k None in
        no_bracket line tokens names begin (stands begin _ h.0)
        (so_far_none line tokens names (begin + 1) h.1 left (operation_view operator) h.2 (stands h.1 _ h.3) (subst P h.4 r))

    pub none_due : (at : ℕ) (opened : List Open) (term : ℕ) → Due names all at opened term → ReadsTerm names all term None → ReadsTerm names all at None
    none_due at [] term h r = let P : ℕ → Type 0 = λ k. ReadsTerm names all k None in subst P h r
    none_due at (opening ∷ outer) term h r = none_due at outer h.0 h.2 (none_out h.0 opening term h.1 r)

    -- a sign and its term
    pub sign_out : (begin : ℕ) (opening : Open) (term : ℕ) (r : Read) (answer : Result Value ExprError) → is_bracket opening ≡ false
        → IsOpen names all begin opening term
        → ReadsTerm names all term (Some r) → answer ≡ applied names.dialect opening r.answer → ReadsTerm names all begin
        (Some (record { answer = answer; end = r.end }))
    sign_out begin Plus term r answer b h t v =
        let P : ℕ → Type 0 = λ k. ReadsTerm names all k (Some r) in
        let Q : Result Value ExprError → Type 0 = λ a. ReadsTerm names all begin (Some (record { answer = a; end = r.end })) in
        subst Q (sym v) (plus_read line tokens names begin (Some r) (stands begin _ h.0) (subst P h.1 t))
    sign_out begin Minus term r answer b h t v =
        let P : ℕ → Type 0 = λ k. ReadsTerm names all k (Some r) in minus_read line tokens names begin r answer (stands begin _ h.0) (subst P h.1 t) v
    sign_out begin Complement term r answer b h t v =
        let P : ℕ → Type 0 = λ k. ReadsTerm names all k (Some r) in complement_read line tokens names begin r answer (stands begin _ h.0) (stands (begin + 1) _ h.1) (subst P h.2 t) v
    sign_out begin Bracket term r answer b h t v = absurd cc
    sign_out begin (Operator left operator) term r answer b h t v = absurd cc

    -- a bracket, and its terms so far
    pub in_bracket : (begin : ℕ) (opening : Open) (term : ℕ) (r : Read) (answer : Result Value ExprError) → is_bracket opening ≡ true
        → IsOpen names all begin opening term
        → ReadsTerm names all term (Some r) → answer ≡ applied names.dialect opening r.answer → Begins all begin (mark 60) × SoFar names all
        (begin + 1) answer r.end
    in_bracket begin Plus term r answer b h t v = absurd cc
    in_bracket begin Minus term r answer b h t v = absurd cc
    in_bracket begin Complement term r answer b h t v = absurd cc
    in_bracket begin Bracket term r answer b h t v =
        let P : ℕ → Type 0 = λ k. ReadsTerm names all k (Some r) in
        let Q : Result Value ExprError → Type 0 = λ a. SoFar names all (begin + 1) a r.end in
        (h.0, subst Q (sym v) (so_far_begin line tokens names (begin + 1) r (subst P h.1 t)))
    in_bracket begin (Operator left operator) term r answer b h t v =
        let P : ℕ → Type 0 = λ k. ReadsTerm names all k (Some r) in
        (h.0, so_far_more line tokens names (begin + 1) h.1 left answer (operation_view operator) r h.2 (stands h.1 _ h.3) (subst P h.4 t) v)

    -- the end of a bracket
    pub bracket_out : (begin : ℕ) (answer : Result Value ExprError) (end : ℕ) → Begins all begin (mark 60) → SoFar names all (begin + 1) answer end
        → operator_in (slice_get tokens end) ≡ None → Stands line tokens end (mark 62) → ReadsTerm names all begin
        (Some (record { answer = answer; end = end + 1 }))
    bracket_out begin answer end h s o b =
        bracket_read line tokens names begin (record {
          answer =
              answer;
          end = end;
        }) (stands begin _ h) (so_far_end line tokens names (begin + 1) end answer s o) b

    pub no_end : (begin : ℕ) (answer : Result Value ExprError) (end : ℕ) → Begins all begin (mark 60) → SoFar names all (begin + 1) answer end
        → operator_in (slice_get tokens end) ≡ None → is_that_mark 62 (slice_get tokens end) ≡ false → ReadsTerm names all begin None
    no_end begin answer end h s o b =
        no_bracket_end line tokens names begin (record {
          answer =
              answer;
          end = end;
        }) (stands begin _ h) (so_far_end line tokens names (begin + 1) end answer s o) b

    -- each of what is open takes a place
    open_room : (begin : ℕ) (opening : Open) (term : ℕ) → IsOpen names all begin opening term → begin < term
    open_room begin Plus term h = omega (arith, h.1)
    open_room begin Minus term h = omega (arith, h.1)
    open_room begin Complement term h = omega (arith, h.2)
    open_room begin Bracket term h = omega (arith, h.1)
    open_room begin (Operator left operator) term h = let s = h.2 in omega (arith, h.4, s.begins)

    pub due_room : (at : ℕ) (opened : List Open) (term : ℕ) → Due names all at opened term → at + length opened ≤ term
    due_room at [] term h = omega (arith, h)
    due_room at (opening ∷ outer) term h = omega (arith, due_room at outer h.0 h.2, open_room h.0 opening term h.1)

    pub opens_room : (begin : ℕ) (opening : Open) (term : ℕ) → IsOpen names all begin opening term → begin < length tokens
    opens_room begin Plus term h = room begin _ h.0
    opens_room begin Minus term h = room begin _ h.0
    opens_room begin Complement term h = room begin _ h.0
    opens_room begin Bracket term h = room begin _ h.0
    opens_room begin (Operator left operator) term h = room begin _ h.0

-- No more fits, and the next term is further on.
pub deeper : (line : List ℕ) (tokens : List Token) (names : Sense) (at place next : ℕ) (items : List Open) (opening : Open) → (length items == 16) ≡ true
    → Due names (symbols_of line tokens) at (reverse items) place
    → IsOpen names (symbols_of line tokens) place opening next → length tokens - place < length tokens - at
deeper line tokens names at place next items opening full due is =
    let size : length items ≡ 16 = grind (arith, nat_tests) in
    omega (arith, size, length-reverse items, due_room line tokens names at (reverse items) place due, opens_room line tokens names place opening next is)

-- What is still open behind a term that has been read.
pub record Closing (line : List ℕ) (tokens : List Token) (names : Sense) (at end : ℕ) (stack : List Open) (read : Read) : Type 0 where
  pub term : ℕ
  pub due : Due names (symbols_of line tokens) at stack term
  pub reads : ReadsTerm names (symbols_of line tokens) term (Some read)
  pub further : end ≤ read.end

abbrev pub ClosesSoFar : Sense → List Token → List Open → Read → List Open → Read → Type 0
ClosesSoFar names tokens before first after read =
    (line : List ℕ) (at term : ℕ) → Due names (symbols_of line tokens) at before term → ReadsTerm names (symbols_of line tokens) term (Some first)
    → Closing line tokens names at first.end after read

module _ (names : Sense) (tokens : List Token) (before : List Open) (first : Read) where
  pub closes_begin : ClosesSoFar names tokens before first before first
  closes_begin line at term d r = record { term = term; due = d; reads = r; further = omega arith }

  -- the innermost, and what is around it
  inner : (line : List ℕ) (at : ℕ) (stack after : List Open) (opening : Open) (read : Read) → stack ≡ opening ∷ after
      → Closing line tokens names at first.end stack read
      → Closing line tokens names at first.end (opening ∷ after) read
  inner line at stack after opening read e c = let P : List Open → Type 0 = λ s. Closing line tokens names at first.end s read in subst P e c

  pub closes_sign : (stack after : List Open) (opening : Open) (read : Read) (answer : Result Value ExprError)
      → ClosesSoFar names tokens before first stack read → stack ≡ opening ∷ after
      → is_bracket opening ≡ false → answer ≡ applied names.dialect opening read.answer → ClosesSoFar names tokens before first after
      (record { answer = answer; end = read.end })
  closes_sign stack after opening read answer so e b v line at term d r =
      let c = inner line at stack after opening read e (so line at term d r) in
      let due = c.due in
      record { term = due.0; due = due.2; reads = sign_out line tokens names due.0 opening c.term read answer b due.1 c.reads v; further = c.further }

  pub closes_bracket : (stack after : List Open) (opening : Open) (read : Read) (answer : Result Value ExprError)
      → ClosesSoFar names tokens before first stack read → stack ≡ opening ∷ after
      → is_bracket opening ≡ true → answer ≡ applied names.dialect opening read.answer → operator_in (slice_get tokens read.end) ≡ None → is_that_mark 62
      (slice_get tokens read.end) ≡ true
      → ClosesSoFar names tokens before first after (record { answer = answer; end = read.end + 1 })
  closes_bracket stack after opening read answer so e b v o m line at term d r =
      let c = inner line at stack after opening read e (so line at term d r) in
      let due = c.due in
      let bracket = in_bracket line tokens names due.0 opening c.term read answer b due.1 c.reads v in
      record {
        term = due.0;
        due = due.2;
        reads = bracket_out line tokens names due.0 answer read.end bracket.0 bracket.1 o (mark_stands line tokens read.end 62 m);
        further = omega (arith, c.further);
      }

  pub closes_nothing : (stack after : List Open) (opening : Open) (read : Read) (answer : Result Value ExprError)
      → ClosesSoFar names tokens before first stack read → stack ≡ opening ∷ after
      → is_bracket opening ≡ true → answer ≡ applied names.dialect opening read.answer → operator_in (slice_get tokens read.end) ≡ None → is_that_mark 62
      (slice_get tokens read.end) ≡ false
      → Closes names tokens before first after ends.Nothing
  closes_nothing stack after opening read answer so e b v o m line at term d r =
      let c = inner line at stack after opening read e (so line at term d r) in
      let due = c.due in
      let bracket = in_bracket line tokens names due.0 opening c.term read answer b due.1 c.reads v in
      none_due line tokens names at after due.0 due.2 (no_end line tokens names due.0 answer read.end bracket.0 bracket.1 o m)

  pub closes_operator : (stack after new : List Open) (opening : Open) (read : Read) (answer : Result Value ExprError) (operator : Binary)
      → ClosesSoFar names tokens before first stack read → stack ≡ opening ∷ after
      → is_bracket opening ≡ true → answer ≡ applied names.dialect opening read.answer → operator_in (slice_get tokens read.end) ≡ Some
      (operation_view operator)
      → new ≡ Operator answer operator ∷ after → Closes names tokens before first new (ends.Next (read.end + 1))
  closes_operator stack after new opening read answer operator so e b v o n line at term d r =
      let c = inner line at stack after opening read e (so line at term d r) in
      let due = c.due in
      let bracket = in_bracket line tokens names due.0 opening c.term read answer b due.1 c.reads v in
      let there = operator_stands line tokens read.end (operation_view operator) o in
      let P : List Open → Type 0 = λ s. Due names (symbols_of line tokens) at s (read.end + 1) in (
        omega (arith, c.further),
        omega (arith, there.room, length-symbols line tokens),
        subst P (sym n)
            (due.0, (bracket.0, read.end, bracket.1, there.is, refl), due.2),
      )

  pub closes_whole : (stack after : List Open) (read : Read) → ClosesSoFar names tokens before first stack read → stack ≡ []
      → Closes names tokens before first after (ends.Whole read)
  closes_whole stack after read so e line at term d r =
      let c = so line at term d r in
      let P : List Open → Type 0 = λ s. Closing line tokens names at first.end s read in
      let last = subst P e c in
      let Q : ℕ → Type 0 = λ k. ReadsTerm names (symbols_of line tokens) k (Some read) in
      subst Q last.due last.reads
