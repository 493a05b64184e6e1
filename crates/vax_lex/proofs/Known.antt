-- What the scanner's place says of the parts before it, in the language's terms.
use Rattle.std.proofs.Common.{◌≡◌, ℕ, zero, suc, ◌+◌, ◌-◌, Bool, true, false, not, cond, List, [], ◌∷◌, refl, arith, subst}
use Rattle.std.specs.Prelude.{◌&&◌, ◌==◌, nat_le, codes}
use Rattle.std.proofs.lemmas.Bool.Decides.{nat_tests}
use Rattle.vax_dialect.specs.declared.Dialect.{Dialect}
use Rattle.vax_lex.specs.Characters.{spells}
use Rattle.vax_lex.specs.Statements.{Operator, text_directive, immediate_if, other_operator, operator_of, operand_place, is_text_directive, compares_texts, tests_text, Subject, on_two_texts, on_text, on_no_text, subject_of, argument_place, Place, statement, first_name, behind_label, text_piece, bracketed_piece, condition_name, condition_end, expression_rest, text_argument, between_arguments, operands, Before, nothing_special, size_letter, operator_caret, text_sign, label_colon, is_mark, is_name, is_text, is_caret, is_size, is_size_letter, is_colon, expression_after, begun_after, operand_after, place_after, before_after, piece_due}
use Rattle.vax_lex.specs.Parts.{Part, space, word, sign, quotation, numeric}
use Rattle.vax_lex.specs.Directives.{is_space, is_sign, is_bracket, Blanks, no_blanks, a_blank, Nested, nested_nothing, nested_part, nested_group, Piece, quoted_text, bracketed_value, Pieces, no_pieces, blank_more, piece_more, Tested, tested_nothing, tested_part, tested_group, Argument, argument_begins, argument_group, argument_more, is_of_first, is_of_last, Last, last_missing, last_given, Second, parted_by_comma, parted_by_blanks, Two, first_missing, first_given, Parted, by_blank, by_comma, begun_part, begun_group, Condition, two_texts, one_text, no_text, two_touching, text_touching, no_text_touching, is_immediate_if, StatementDue, at_line, behind_blank, behind_condition, OperatorDue, without_label, with_label, Labelled, one_colon, two_colons, PieceDue, behind_labelled, first_piece, later_piece}
use Rattle.vax_lex.specs.declared.token.TokenKind.{TokenKind}
use Rattle.vax_lex.specs.declared.token.TokenKind.TheVariants.{Name, Number, Mark, Text}
use Rattle.vax_lex.proofs.Behind.{after, behind, step}

-- what stands from a start on so far, and what the whole of it brings
record Due (SoFar Whole : List Part → List Part → Type 0) (Brings : List Part → Type 0) (whole : List Part) : Type 0 where
  start : List Part
  ends : (all : List Part) → Whole start all → Brings all
  so_far : SoFar start whole

more : {S W : List Part → List Part → Type 0} {B : List Part → Type 0} {whole : List Part} (k : Due S W B whole) (longer : List Part) → S k.start longer → Due S W B longer
more k longer s = record { start = k.start; ends = k.ends; so_far = s }

-- so many brackets are open, and in the innermost each `<` has its `>`
abbrev InBrackets : List Part → List Part → Type 0
InBrackets before whole = Nested (sign 60 ∷ before) whole

abbrev Open : ℕ → List Part → List Part → Type 0
Open zero before whole = ⊥
Open (suc zero) before whole = InBrackets before whole
Open (suc (suc d)) before whole = (outer : List Part) × Open (suc d) before outer × InBrackets outer whole

-- so many are open, and behind the last of them this holds
abbrev In : (List Part → Type 0) → ℕ → List Part → Type 0
In Holds d whole = Due (Open d) InBrackets (λ inner. Holds (sign 62 ∷ inner)) whole

-- or none is, and this holds
abbrev Within : (List Part → Type 0) → ℕ → List Part → Type 0
Within Holds zero whole = Holds whole
Within Holds (suc d) whole = In Holds (suc d) whole

-- a comma ends a condition here
abbrev Ended : List Part → Type 0
Ended whole = StatementDue (sign 44 ∷ whole)

module _ (dialect : Dialect) where
  -- pieces may follow
  abbrev PiecesDue : List Part → Type 0
  PiecesDue whole = Due Pieces Pieces (λ all. (byte : ℕ) → PieceDue dialect byte all) whole

  -- the name of a condition may follow
  abbrev Conditional : List Part → Type 0
  Conditional whole = Due Blanks Blanks (λ blanks. (name : List ℕ) (all : List Part) → Condition name (word name ∷ blanks) all → Ended all) whole

  -- what a condition tests that is no text
  abbrev Expression : List Part → Type 0
  Expression whole = Due Tested Tested Ended whole

  -- what begins with the last argument, or with the first of two
  abbrev Rest : Bool → List Part → List Part → Type 0
  Rest true = Last
  Rest false = Two

  abbrev goes_on : Bool → Part → Bool
  goes_on true = is_of_last
  goes_on false = is_of_first

  -- what the argument brings
  abbrev Brings : Bool → List Part → Type 0
  Brings true whole = Ended whole
  Brings false whole = (all : List Part) → Second whole all → Ended all

  abbrev Unbegun : Bool → List Part → Type 0
  Unbegun last whole = Due Blanks (Rest last) Ended whole

  abbrev Begun : Bool → List Part → Type 0
  Begun last whole = Due (Argument (goes_on last)) (Argument (goes_on last)) (Brings last) whole

  -- the name is that of the operator
  abbrev Names : Operator → List ℕ → Type 0
  Names text_directive name = is_text_directive dialect name ≡ true
  Names immediate_if name = is_immediate_if name ≡ true
  Names other_operator name = Unit {0}

  -- a name that may be a label or the operator of its statement, and blanks
  record FirstName (o : Operator) (whole : List Part) : Type 0 where
    before : List Part
    name : List ℕ
    due : StatementDue before
    is : Names o name
    blanks : Blanks (word name ∷ before) whole

  -- the name is that of a condition on the subject
  abbrev Tests : Subject → List ℕ → Type 0
  Tests on_two_texts name = compares_texts name ≡ true
  Tests on_text name = (compares_texts name ≡ false) × (tests_text name ≡ true)
  Tests on_no_text name = (compares_texts name ≡ false) × (tests_text name ≡ false)

  -- the name of a condition
  record Named (s : Subject) (whole : List Part) : Type 0 where
    name : List ℕ
    is : Tests s name
    ends : (all : List Part) → Condition name whole all → Ended all

  abbrev Known : Place → Before → List Part → Type 0
  Known statement b whole = StatementDue whole
  Known (first_name o) b whole = FirstName o whole
  Known behind_label b whole = Labelled whole × (is_colon b ≡ true → Labelled (sign 58 ∷ whole))
  Known text_piece b whole = PiecesDue whole
  Known (bracketed_piece d) b whole = In PiecesDue d whole
  Known condition_name b whole = Conditional whole
  Known (condition_end s) b whole = Named s whole
  Known (expression_rest d) b whole = Within Expression d whole
  Known (text_argument last false zero) b whole = Unbegun last whole
  Known (text_argument last false (suc d)) b whole = ⊥
  Known (text_argument last true d) b whole = Within (Begun last) d whole
  Known between_arguments b whole = Due (λ first. Blanks (space ∷ first)) Second Ended whole
  Known operands b whole = Unit {0}

  -- the token that a part is which is no blank
  abbrev kind_of : Part → TokenKind
  kind_of (word name) = Name
  kind_of (sign m) = Mark m
  kind_of quotation = Text
  kind_of _ = Number 0

  abbrev text_of : Part → List ℕ
  text_of (word name) = name
  text_of _ = []

  -- tests of a part
  by_mark : (n : ℕ) (p : Part) (x y : Place) (b : Before) (whole : List Part) → (is_sign n p ≡ true → Known x b (sign n ∷ whole)) → (is_sign n p ≡ false → Known y b (p ∷ whole)) → Known (cond (is_mark n (kind_of p)) x y) b (p ∷ whole)
  by_mark n (sign m) x y b whole f g = by_test (m == n) refl
    where
      by_test : (t : Bool) → (m == n) ≡ t → Known (cond t x y) b (sign m ∷ whole)
      by_test true e = let same : n ≡ m = grind (arith, nat_tests) in subst (λ (k : ℕ). Known x b (sign k ∷ whole)) same (f e)
      by_test false e = g e
  by_mark n p x y b whole f g = g refl

  and_true : (t : Bool) → t ≡ (t && true)
  and_true true = refl
  and_true false = refl

  and_false : (t : Bool) → false ≡ (t && false)
  and_false true = refl
  and_false false = refl

  by_mark_if : (n : ℕ) (p : Part) (u : Bool) (x y : Place) (b : Before) (whole : List Part) → (u ≡ true → is_sign n p ≡ true → Known x b (sign n ∷ whole)) → ((u ≡ true → is_sign n p ≡ false) → Known y b (p ∷ whole)) → Known (cond (is_mark n (kind_of p) && u) x y) b (p ∷ whole)
  by_mark_if n p true x y b whole f g = subst (λ (t : Bool). Known (cond t x y) b (p ∷ whole)) (and_true (is_mark n (kind_of p))) (by_mark n p x y b whole (f refl) (λ e. g (λ _. e)))
  by_mark_if n p false x y b whole f g = subst (λ (t : Bool). Known (cond t x y) b (p ∷ whole)) (and_false (is_mark n (kind_of p))) (g (λ e. absurd cc))

  by_name : (p : Part) (x : List ℕ → Place) (y : Place) (b : Before) (whole : List Part) → ((name : List ℕ) → Known (x name) b (word name ∷ whole)) → Known y b (p ∷ whole) → Known (cond (is_name (kind_of p)) (x (text_of p)) y) b (p ∷ whole)
  by_name (word name) x y b whole f g = f name
  by_name p x y b whole f g = g

  by_text : (p : Part) (x y : Place) (b : Before) (whole : List Part) → Known x b (quotation ∷ whole) → Known y b (p ∷ whole) → Known (cond (is_text (kind_of p)) x y) b (p ∷ whole)
  by_text quotation x y b whole f g = f
  by_text p x y b whole f g = g

  -- brackets
  inside : (B : List Part → Type 0) (d : ℕ) (whole : List Part) (p : Part) → is_bracket p ≡ false → In B (suc d) whole → In B (suc d) (p ∷ whole)
  inside B d whole p n k = more k (p ∷ whole) (open_more d k.so_far)
    where
      open_more : (d : ℕ) → Open (suc d) k.start whole → Open (suc d) k.start (p ∷ whole)
      open_more zero o = nested_part p n o
      open_more (suc d) o = (o.0, o.1, nested_part p n o.2)

  deeper : (B : List Part → Type 0) (d : ℕ) (whole : List Part) → In B (suc d) whole → In B (suc (suc d)) (sign 60 ∷ whole)
  deeper B d whole k = record { start = k.start; ends = k.ends; so_far = (whole, k.so_far, nested_nothing) }

  closed : (B : List Part → Type 0) (d : ℕ) (whole : List Part) → In B (suc d) whole → Within B d (sign 62 ∷ whole)
  closed B zero whole k = k.ends whole k.so_far
  closed B (suc d) whole k = record { start = k.start; ends = k.ends; so_far = open_closed d k.so_far }
    where
      open_closed : (d : ℕ) → Open (suc (suc d)) k.start whole → Open (suc d) k.start (sign 62 ∷ whole)
      open_closed zero o = nested_group o.1 o.2
      open_closed (suc d) (outer, (rest, o, n), m) = (rest, o, nested_group n m)

  bracket_steps : (B : List Part → Type 0) (d : ℕ) (x y z : Place) (b : Before) (whole : List Part) (p : Part) → In B (suc d) whole
      → (In B (suc (suc d)) (sign 60 ∷ whole) → Known x b (sign 60 ∷ whole)) → (Within B d (sign 62 ∷ whole) → Known y b (sign 62 ∷ whole)) → (In B (suc d) (p ∷ whole) → Known z b (p ∷ whole))
      → Known (cond (is_mark 60 (kind_of p)) x (cond (is_mark 62 (kind_of p)) y z)) b (p ∷ whole)
  bracket_steps B d x y z b whole p k f g h =
      by_mark 60 p x _ b whole (λ _. f (deeper B d whole k)) (λ e. by_mark 62 p y z b whole (λ _. g (closed B d whole k)) (λ i. h (inside B d whole p (rw (e, i) refl) k)))

  raised : (P : ℕ → Type 0) (d : ℕ) → P (suc (suc d)) → P (suc d + 1)
  raised P d k = subst P (omega arith) k

  lowered : (P : ℕ → Type 0) (d : ℕ) → P d → P (suc d - 1)
  lowered P d k = subst P (omega arith) k

  piece_closed : (d : ℕ) (b : Before) (whole : List Part) → Within PiecesDue d whole → Known (cond (nat_le (suc d) 1) text_piece (bracketed_piece (suc d - 1))) b whole
  piece_closed zero b whole k = k
  piece_closed (suc d) b whole k =
      let two : false ≡ nat_le (suc (suc d)) 1 = grind (arith, nat_tests) in
      subst (λ (t : Bool). Known (cond t text_piece (bracketed_piece (suc (suc d) - 1))) b whole) two (lowered (λ (n : ℕ). In PiecesDue n whole) (suc d) k)

  -- which operator a name is, and which condition
  operator_named : (name : List ℕ) → Names (operator_of dialect name) name
  operator_named name = by_tests (is_text_directive dialect name) (spells (codes ".IIF") name) refl refl
    where
      by_tests : (s t : Bool) → is_text_directive dialect name ≡ s → spells (codes ".IIF") name ≡ t → Names (cond s text_directive (cond t immediate_if other_operator)) name
      by_tests true t e f = e
      by_tests false true e f = f
      by_tests false false e f = tt

  condition_named : (name : List ℕ) → Tests (subject_of name) name
  condition_named name = by_tests (compares_texts name) (tests_text name) refl refl
    where
      by_tests : (s t : Bool) → compares_texts name ≡ s → tests_text name ≡ t → Tests (cond s on_two_texts (cond t on_text on_no_text)) name
      by_tests true t e f = e
      by_tests false true e f = (e, f)
      by_tests false false e f = (e, f)

  -- pieces
  text_steps : (p : Part) (b : Before) (whole : List Part) → ((all : List Part) → Piece whole all → PiecesDue all) → Known (operand_after text_piece (kind_of p) (text_of p)) b (p ∷ whole)
  text_steps p b whole piece = by_text p text_piece _ b whole (piece (quotation ∷ whole) quoted_text)
      (by_mark 60 p (bracketed_piece 1) operands b whole (λ _. record { start = whole; ends = λ inner n. piece (sign 62 ∷ inner) (bracketed_value n); so_far = nested_nothing }) (λ _. tt))

  first_text : (whole all : List Part) → FirstName text_directive whole → Piece whole all → PiecesDue all
  first_text whole all k piece = record { start = all; ends = λ longer pieces byte. later_piece k.name k.due k.is k.blanks piece pieces; so_far = no_pieces }

  -- behind an operator
  conditional : (before : List Part) (name : List ℕ) (whole : List Part) → OperatorDue before → is_immediate_if name ≡ true → Blanks (word name ∷ before) whole → Conditional whole
  conditional before name whole due is blanks = record { start = word name ∷ before; ends = λ all more condition longer c. behind_condition name condition due is more c; so_far = blanks }

  condition_steps : (p : Part) (b : Before) (whole : List Part) → Conditional whole → Known (operand_after condition_name (kind_of p) (text_of p)) b (p ∷ whole)
  condition_steps p b whole k = by_name p (λ (name : List ℕ). condition_end (subject_of name)) operands b whole (λ name. record { name = name; is = condition_named name; ends = k.ends whole k.so_far name }) tt

  first_operand : (o : Operator) (p : Part) (b : Before) (whole : List Part) → FirstName o whole → Known (operand_after (operand_place o) (kind_of p) (text_of p)) b (p ∷ whole)
  first_operand text_directive p b whole k = text_steps p b whole (λ all piece. first_text whole all k piece)
  first_operand immediate_if p b whole k = condition_steps p b whole (conditional k.before k.name whole (without_label k.due) k.is k.blanks)
  first_operand other_operator p b whole k = tt

  labelled_operator : (o : Operator) (name : List ℕ) (b : Before) (whole : List Part) → Names o name → Labelled whole → Known (operand_place o) b (word name ∷ whole)
  labelled_operator text_directive name b whole is label = record { start = word name ∷ whole; ends = λ all pieces byte. behind_labelled name label is pieces; so_far = no_pieces }
  labelled_operator immediate_if name b whole is label = conditional whole name (word name ∷ whole) (with_label label) is no_blanks
  labelled_operator other_operator name b whole is label = tt

  -- a label
  blank_label : {whole : List Part} → Labelled whole → Labelled (space ∷ whole)
  blank_label (one_colon name due blanks more) = one_colon name due blanks (a_blank more)
  blank_label (two_colons name due blanks more) = two_colons name due blanks (a_blank more)

  no_colon_blank : (t : Bool) → is_colon (cond t text_sign nothing_special) ≡ true → ⊥
  no_colon_blank true e = cc
  no_colon_blank false e = cc

  no_colon : (p : Part) (b : Before) → is_colon (before_after (record { place = behind_label; before = b }) (kind_of p) (text_of p)) ≡ true → ⊥
  no_colon (word name) b e = by_tests (is_caret b) (spells (codes "A") name) (is_size_letter name) e
    where
      by_tests : (x y z : Bool) → is_colon (cond x (cond y text_sign nothing_special) (cond z size_letter nothing_special)) ≡ true → ⊥
      by_tests true true z e = cc
      by_tests true false z e = cc
      by_tests false y true e = cc
      by_tests false y false e = cc
  no_colon (sign m) b e = by_tests (m == 94) (is_size b) (m == 58) e
    where
      by_tests : (x y z : Bool) → is_colon (cond x (cond y nothing_special operator_caret) (cond (z && false) label_colon nothing_special)) ≡ true → ⊥
      by_tests true true z e = cc
      by_tests true false z e = cc
      by_tests false y true e = cc
      by_tests false y false e = cc
  no_colon p b e = cc

  -- behind the name of a condition: what parts the argument from it, and what touches it
  parted : (s : Subject) (b : Before) (whole start : List Part) → Parted whole start → Named s whole → Known (argument_place s) b start
  parted on_two_texts b whole start parts k = record { start = start; ends = λ all two. k.ends all (two_texts k.is parts two); so_far = no_blanks }
  parted on_text b whole start parts k = record { start = start; ends = λ all last. k.ends all (one_text k.is.0 k.is.1 parts last); so_far = no_blanks }
  parted on_no_text b whole start parts k = record { start = start; ends = λ all tested. k.ends all (no_text k.is.0 k.is.1 parts tested); so_far = tested_nothing }

  argument_starts : (last : Bool) (x : Place) (b : Before) (whole : List Part) (p : Part) → is_space p ≡ false → (is_sign 44 p ≡ true → Known x b (sign 44 ∷ whole)) → ((all : List Part) → Argument (goes_on last) whole all → Brings last all)
      → Known (cond (is_mark 44 (kind_of p)) x (cond (is_mark 60 (kind_of p) && true) (text_argument last true 1) (text_argument last true 0))) b (p ∷ whole)
  argument_starts last x b whole p s comma ends = by_mark 44 p x _ b whole comma (λ e. by_mark_if 60 p true (text_argument last true 1) (text_argument last true 0) b whole
      (λ _ _. record { start = whole; ends = λ inner n. record { start = whole; ends = ends; so_far = argument_group n }; so_far = nested_nothing })
      (λ f. let g = f refl in record { start = whole; ends = ends; so_far = argument_begins p (rw (s, e, g) refl) }))

  expression_steps : (b : Before) (whole : List Part) (p : Part) → (is_sign 44 p ≡ true → StatementDue (sign 44 ∷ whole)) → ((inner : List Part) → InBrackets whole inner → Expression (sign 62 ∷ inner))
      → ((q : Part) → is_sign 44 q ≡ false → is_sign 60 q ≡ false → is_space q ≡ false → Expression (q ∷ whole)) → is_space p ≡ false → Known (expression_after 0 (kind_of p)) b (p ∷ whole)
  expression_steps b whole p comma group part s = by_mark 60 p (expression_rest 1) _ b whole (λ _. record { start = whole; ends = group; so_far = nested_nothing })
      (λ e. by_mark 62 p (expression_rest 0) _ b whole (λ _. part (sign 62) refl refl refl)
      (λ _. by_mark_if 44 p true statement (expression_rest 0) b whole (λ _ c. comma c) (λ f. part p (f refl) e s)))

  touching : (s : Subject) (p : Part) (b : Before) (whole : List Part) → is_space p ≡ false → is_sign 44 p ≡ false → Named s whole → Known (begun_after s (kind_of p)) b (p ∷ whole)
  touching on_two_texts p b whole s e k = argument_starts false (text_argument true false 0) b whole p s (λ f. absurd cc) (λ first argument all second. k.ends all (two_touching k.is argument second))
  touching on_text p b whole s e k = argument_starts true statement b whole p s (λ f. absurd cc) (λ all argument. k.ends all (text_touching k.is.0 k.is.1 argument))
  touching on_no_text p b whole s e k = expression_steps b whole p (λ f. absurd cc)
      (λ inner n. record { start = sign 62 ∷ inner; ends = λ all tested. k.ends all (no_text_touching k.is.0 k.is.1 (begun_group n) tested); so_far = tested_nothing })
      (λ q c o s. record { start = q ∷ whole; ends = λ all tested. k.ends all (no_text_touching k.is.0 k.is.1 (begun_part q (rw (s, c, o) refl)) tested); so_far = tested_nothing }) s

  -- arguments
  no_argument : (last : Bool) (b : Before) (whole : List Part) → Unbegun last whole → Known (cond last statement (text_argument true false 0)) b (sign 44 ∷ whole)
  no_argument true b whole k = k.ends whole (last_missing k.so_far)
  no_argument false b whole k = record { start = sign 44 ∷ whole; ends = λ all last. k.ends all (first_missing k.so_far last); so_far = no_blanks }

  given : (last : Bool) (whole all : List Part) → Unbegun last whole → Argument (goes_on last) whole all → Brings last all
  given true whole all k argument = k.ends all (last_given k.so_far argument)
  given false whole all k argument = λ longer second. k.ends longer (first_given k.so_far argument second)

  argument_ends : (last : Bool) (b : Before) (whole : List Part) → Begun last whole → Known (cond last statement (text_argument true false 0)) b (sign 44 ∷ whole)
  argument_ends true b whole k = k.ends whole k.so_far
  argument_ends false b whole k = record { start = sign 44 ∷ whole; ends = λ all last. k.ends whole k.so_far all (parted_by_comma no_blanks last); so_far = no_blanks }

  is_more : (last : Bool) (p : Part) → is_space p ≡ false → is_sign 44 p ≡ false → goes_on last p ≡ true
  is_more true p s e = rw e refl
  is_more false p s e = rw (s, e) refl

  widened : {before whole : List Part} → Blanks (space ∷ before) whole → Blanks before whole
  widened no_blanks = a_blank no_blanks
  widened (a_blank more) = a_blank (widened more)

  none_open : (d : ℕ) → (suc d == 0) ≡ true → ⊥
  none_open d e = grind (arith, nat_tests)

  -- a step of the scanner by a blank, and by a token
  blank_known : (place : Place) (b : Before) (whole : List Part) → Known place b whole → Known (step dialect space b place) (after dialect (record { place = place; before = b }) space).before (space ∷ whole)
  blank_known statement b whole k = behind_blank k
  blank_known (first_name o) b whole k = record { before = k.before; name = k.name; due = k.due; is = k.is; blanks = a_blank k.blanks }
  blank_known behind_label b whole k = (blank_label k.0, λ e. absurd (no_colon_blank _ e))
  blank_known text_piece b whole k = more k (space ∷ whole) (blank_more k.so_far)
  blank_known (bracketed_piece zero) b whole k = absurd k.so_far
  blank_known (bracketed_piece (suc d)) b whole k = inside PiecesDue d whole space refl k
  blank_known condition_name b whole k = more k (space ∷ whole) (a_blank k.so_far)
  blank_known (condition_end s) b whole k = parted s _ whole (space ∷ whole) by_blank k
  blank_known (expression_rest zero) b whole k = more k (space ∷ whole) (tested_part space refl refl k.so_far)
  blank_known (expression_rest (suc d)) b whole k = inside Expression d whole space refl k
  blank_known (text_argument true false zero) b whole k = more k (space ∷ whole) (a_blank k.so_far)
  blank_known (text_argument false false zero) b whole k = more k (space ∷ whole) (a_blank k.so_far)
  blank_known (text_argument last false (suc d)) b whole k = absurd k
  blank_known (text_argument true true zero) b whole k = more k (space ∷ whole) (argument_more space refl k.so_far)
  blank_known (text_argument false true zero) b whole k = record { start = whole; ends = k.ends whole k.so_far; so_far = no_blanks }
  blank_known (text_argument true true (suc d)) b whole k = inside (Begun true) d whole space refl k
  blank_known (text_argument false true (suc d)) b whole k = inside (Begun false) d whole space refl k
  blank_known between_arguments b whole k = more k (space ∷ whole) (a_blank k.so_far)
  blank_known operands b whole k = tt

  token_known : (place : Place) (p : Part) (b : Before) (whole : List Part) → is_space p ≡ false → Known place b whole
      → Known (place_after dialect (record { place = place; before = b }) (kind_of p) (text_of p)) (before_after (record { place = place; before = b }) (kind_of p) (text_of p)) (p ∷ whole)
  token_known statement p b whole s k = by_name p (λ (name : List ℕ). first_name (operator_of dialect name)) operands _ whole
      (λ name. record { before = whole; name = name; due = k; is = operator_named name; blanks = no_blanks }) tt
  token_known (first_name o) p b whole s k = by_mark 58 p behind_label _ _ whole
      (λ _. (one_colon k.name k.due k.blanks no_blanks, λ _. two_colons k.name k.due k.blanks no_blanks)) (λ _. first_operand o p _ whole k)
  token_known behind_label p b whole s k = by_name p (λ (name : List ℕ). operand_place (operator_of dialect name)) _ _ whole (λ name. labelled_operator (operator_of dialect name) name _ whole (operator_named name) k.0)
      (by_mark_if 58 p (is_colon b) behind_label operands _ whole (λ e _. (k.1 e, λ f. absurd (no_colon p b f))) (λ _. tt))
  token_known text_piece p b whole s k = text_steps p _ whole (λ all piece. more k all (piece_more whole k.so_far piece))
  token_known (bracketed_piece zero) p b whole s k = absurd k.so_far
  token_known (bracketed_piece (suc d)) p b whole s k = bracket_steps PiecesDue d (bracketed_piece (suc d + 1)) _ _ _ whole p k
      (λ i. raised (λ (n : ℕ). In PiecesDue n (sign 60 ∷ whole)) d i) (λ i. piece_closed d _ (sign 62 ∷ whole) i) (λ i. i)
  token_known condition_name p b whole s k = condition_steps p _ whole k
  token_known (condition_end subject) p b whole s k = by_mark 44 p (argument_place subject) _ _ whole
      (λ _. parted subject _ whole (sign 44 ∷ whole) by_comma k) (λ e. touching subject p _ whole s e k)
  token_known (expression_rest zero) p b whole s k = expression_steps _ whole p (λ _. k.ends whole k.so_far)
      (λ inner n. more k (sign 62 ∷ inner) (tested_group k.so_far n)) (λ q c o _. more k (q ∷ whole) (tested_part q c o k.so_far)) s
  token_known (expression_rest (suc d)) p b whole s k = bracket_steps Expression d (expression_rest (suc d + 1)) (expression_rest (suc d - 1)) _ _ whole p k
      (λ i. raised (λ (n : ℕ). Within Expression n (sign 60 ∷ whole)) d i) (λ i. lowered (λ (n : ℕ). Within Expression n (sign 62 ∷ whole)) d i)
      (λ i. by_mark_if 44 p (suc d == 0) statement (expression_rest (suc d)) _ whole (λ e _. absurd (none_open d e)) (λ _. i))
  token_known (text_argument last false zero) p b whole s k = argument_starts last _ _ whole p s (λ _. no_argument last _ whole k) (λ all argument. given last whole all k argument)
  token_known (text_argument last false (suc d)) p b whole s k = absurd k
  token_known (text_argument last true zero) p b whole s k = by_mark 44 p _ _ _ whole (λ _. argument_ends last _ whole k)
      (λ e. by_mark_if 60 p false (text_argument last true 1) (text_argument last true 0) _ whole (λ f _. absurd cc) (λ _. more k (p ∷ whole) (argument_more p (is_more last p s e) k.so_far)))
  token_known (text_argument last true (suc d)) p b whole s k = bracket_steps (Begun last) d (text_argument last true (suc d + 1)) (text_argument last true d) (text_argument last true (suc d)) _ whole p k
      (λ i. raised (λ (n : ℕ). Within (Begun last) n (sign 60 ∷ whole)) d i) (λ i. i) (λ i. i)
  token_known between_arguments p b whole s k = by_mark 44 p (text_argument true false 0) _ _ whole
      (λ _. record { start = sign 44 ∷ whole; ends = λ all last. k.ends all (parted_by_comma (widened k.so_far) last); so_far = no_blanks })
      (λ e. argument_starts true statement _ whole p s (λ f. absurd cc) (λ all argument. k.ends all (parted_by_blanks k.so_far argument)))
  token_known operands p b whole s k = tt

  known : (before : List Part) → Known (behind dialect before).place (behind dialect before).before before
  known [] = at_line
  known (p ∷ before) = by_part p (behind dialect before).place (behind dialect before).before (known before)
    where
      by_part : (p : Part) (place : Place) (b : Before) → Known place b before → Known (step dialect p b place) (after dialect (record { place = place; before = b }) p).before (p ∷ before)
      by_part space place b k = blank_known place b before k
      by_part (word name) place b k = token_known place (word name) b before refl k
      by_part (sign m) place b k = token_known place (sign m) b before refl k
      by_part quotation place b k = token_known place quotation b before refl k
      by_part numeric place b k = token_known place numeric b before refl k

  -- where the scanner's place is that of a piece, the language has one
  not_true : (t : Bool) → not t ≡ true → t ≡ false
  not_true true e = absurd cc
  not_true false e = refl

  due_by : (b : ℕ) (place : Place) (x : Before) (before : List Part) → Known place x before → piece_due place b ≡ true → PieceDue dialect b before
  due_by b text_piece x before k e = k.ends before k.so_far b
  due_by b (first_name text_directive) x before k e = first_piece k.name k.due k.is k.blanks (not_true (b == 58) e)
  due_by b place x before k e = absurd cc

  pub due_told : (b : ℕ) (before : List Part) → piece_due (behind dialect before).place b ≡ true → PieceDue dialect b before
  due_told b before e = due_by b (behind dialect before).place (behind dialect before).before before (known before) e
