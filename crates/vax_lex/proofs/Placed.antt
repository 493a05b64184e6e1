-- Where the language has a piece of text, the scanner's place is that of one.
use Rattle.std.proofs.Common.{◌≡◌, ℕ, suc, ◌-◌, Bool, true, false, not, cond, List, [], ◌∷◌, refl, ap, ◌∙◌, arith}
use Rattle.std.specs.Prelude.{◌&&◌, ◌||◌, ◌==◌, nat_le, codes}
use Rattle.std.proofs.lemmas.Bool.Decides.{nat_tests}
use Rattle.vax_dialect.specs.declared.Dialect.{Dialect}
use Rattle.vax_lex.specs.Characters.{spells}
use Rattle.vax_lex.specs.Statements.{text_directive, immediate_if, other_operator, operator_of, operand_place, is_text_directive, compares_texts, tests_text, Subject, on_two_texts, on_text, on_no_text, subject_of, argument_place, Place, statement, first_name, behind_label, text_piece, bracketed_piece, condition_name, condition_end, expression_rest, text_argument, between_arguments, operands, Before, label_colon, is_first_name, is_colon, piece_due}
use Rattle.vax_lex.specs.Parts.{Part, space, word, sign, quotation, numeric}
use Rattle.vax_lex.specs.Directives.{is_space, is_sign, is_bracket, Blanks, no_blanks, a_blank, Nested, nested_nothing, nested_part, nested_group, Piece, quoted_text, bracketed_value, Pieces, no_pieces, blank_more, piece_more, Tested, tested_nothing, tested_part, tested_group, Argument, argument_begins, argument_group, argument_more, is_of_first, is_of_last, Last, last_missing, last_given, Second, parted_by_comma, parted_by_blanks, Two, first_missing, first_given, Parted, by_blank, by_comma, Begun, begun_part, begun_group, Condition, two_texts, one_text, no_text, two_touching, text_touching, no_text_touching, is_immediate_if, StatementDue, at_line, behind_blank, behind_condition, OperatorDue, without_label, with_label, Labelled, one_colon, two_colons, PieceDue, behind_labelled, first_piece, later_piece}
use Rattle.vax_lex.proofs.Behind.{behind, step, steps_to}

module _ (dialect : Dialect) where
  -- the place of what stands behind parts
  abbrev pub At : List Part → Place → Type 0
  At before place = (behind dialect before).place ≡ place

  goes : (p : Part) (before : List Part) (x y : Place) → At before x → step dialect p (behind dialect before).before x ≡ y → At (p ∷ before) y
  goes p before x y e f = steps_to dialect p before x e ∙ f

  -- blanks
  blanks_keep : {before whole : List Part} (x : Place) → ((b : Before) → step dialect space b x ≡ x) → Blanks before whole → At before x → At whole x
  blanks_keep x k no_blanks e = e
  blanks_keep x k (a_blank {whole = whole} more) e = goes space whole x x (blanks_keep x k more e) (k (behind dialect whole).before)

  -- places in brackets
  pub record Deepens (deep : ℕ → Place) : Type 0 where
    pub other : (p : Part) (b : Before) (d : ℕ) → is_bracket p ≡ false → step dialect p b (deep d) ≡ deep d
    pub opens : (b : Before) (d : ℕ) → step dialect (sign 60) b (deep d) ≡ deep (suc d)
    pub closes : (b : Before) (d : ℕ) → step dialect (sign 62) b (deep (suc d)) ≡ deep d

  nested_keeps : {before whole : List Part} (deep : ℕ → Place) (is : Deepens deep) (d : ℕ) → Nested before whole → At before (deep d) → At whole (deep d)
  nested_keeps deep is d nested_nothing e = e
  nested_keeps deep is d (nested_part {whole = whole} p n more) e = goes p whole (deep d) (deep d) (nested_keeps deep is d more e) (is.other p (behind dialect whole).before d n)
  nested_keeps deep is d (nested_group {outer = outer} {inner = inner} o i) e =
      let opened = goes (sign 60) outer (deep d) (deep (suc d)) (nested_keeps deep is d o e) (is.opens (behind dialect outer).before d) in
      goes (sign 62) inner (deep (suc d)) (deep d) (nested_keeps deep is (suc d) i opened) (is.closes (behind dialect inner).before d)

  -- tests of a sign that is no bracket and no comma
  if_both : {A : Type 0} (s t : Bool) (x y z : A) → (s || t) ≡ false → cond s x (cond t y z) ≡ z
  if_both true t x y z e = absurd cc
  if_both false true x y z e = absurd cc
  if_both false false x y z e = refl

  abbrev deep_piece : ℕ → Place
  deep_piece d = bracketed_piece (suc d)

  two_open : (d : ℕ) → nat_le (suc (suc d)) 1 ≡ false
  two_open d = grind (arith, nat_tests)

  one_left : (d : ℕ) → cond (nat_le (suc (suc d)) 1) text_piece (bracketed_piece (suc (suc d) - 1)) ≡ bracketed_piece (suc d)
  one_left d = ap (λ (t : Bool). cond t text_piece (bracketed_piece (suc (suc d) - 1))) (two_open d) ∙ ap bracketed_piece (omega arith)

  piece_deepens : Deepens deep_piece
  piece_deepens = record {
    other = λ p b d n. by_part p b d n;
    opens = λ b d. ap bracketed_piece (omega arith);
    closes = λ b d. one_left d;
  }
    where
      by_part : (p : Part) (b : Before) (d : ℕ) → is_bracket p ≡ false → step dialect p b (deep_piece d) ≡ deep_piece d
      by_part space b d n = refl
      by_part (word name) b d n = refl
      by_part (sign m) b d n = if_both (m == 60) (m == 62) _ _ _ n
      by_part quotation b d n = refl
      by_part numeric b d n = refl

  abbrev deep_expression : ℕ → Place
  deep_expression d = expression_rest (suc d)

  some_open : (d : ℕ) → (suc d == 0) ≡ false
  some_open d = grind (arith, nat_tests)

  no_comma : (t u : Bool) (x y : Place) → u ≡ false → cond (t && u) x y ≡ y
  no_comma true true x y e = absurd cc
  no_comma true false x y e = refl
  no_comma false u x y e = refl

  expression_deepens : Deepens deep_expression
  expression_deepens = record {
    other = λ p b d n. by_part p b d n;
    opens = λ b d. ap expression_rest (omega arith);
    closes = λ b d. ap expression_rest (omega arith);
  }
    where
      by_part : (p : Part) (b : Before) (d : ℕ) → is_bracket p ≡ false → step dialect p b (deep_expression d) ≡ deep_expression d
      by_part space b d n = refl
      by_part (word name) b d n = refl
      by_part (sign m) b d n = if_both (m == 60) (m == 62) _ _ _ n ∙ no_comma (m == 44) (suc d == 0) _ _ (some_open d)
      by_part quotation b d n = refl
      by_part numeric b d n = refl

  abbrev deep_argument : Bool → ℕ → Place
  deep_argument last d = text_argument last true (suc d)

  argument_deepens : (last : Bool) → Deepens (deep_argument last)
  argument_deepens last = record {
    other = λ p b d n. by_part p b d n;
    opens = λ b d. ap (text_argument last true) (omega arith);
    closes = λ b d. refl;
  }
    where
      blank_part : (b : Before) (l : Bool) (d : ℕ) → step dialect space b (deep_argument l d) ≡ deep_argument l d
      blank_part b true d = refl
      blank_part b false d = refl

      by_part : (p : Part) (b : Before) (d : ℕ) → is_bracket p ≡ false → step dialect p b (deep_argument last d) ≡ deep_argument last d
      by_part space b d n = blank_part b last d
      by_part (word name) b d n = refl
      by_part (sign m) b d n = if_both (m == 60) (m == 62) _ _ _ n
      by_part quotation b d n = refl
      by_part numeric b d n = refl

  -- pieces
  piece_keeps : {before whole : List Part} → Piece before whole → At before text_piece → At whole text_piece
  piece_keeps (quoted_text {before = before}) e = goes quotation before text_piece text_piece e refl
  piece_keeps (bracketed_value {before = before} {inner = inner} n) e =
      let opened = goes (sign 60) before text_piece (bracketed_piece 1) e refl in
      goes (sign 62) inner (bracketed_piece 1) text_piece (nested_keeps deep_piece piece_deepens 0 n opened) refl

  pieces_keep : {before whole : List Part} → Pieces before whole → At before text_piece → At whole text_piece
  pieces_keep no_pieces e = e
  pieces_keep (blank_more {whole = whole} more) e = goes space whole text_piece text_piece (pieces_keep more e) refl
  pieces_keep (piece_more pieces more p) e = piece_keeps p (pieces_keep more e)

  -- what is no text
  tested_step : (p : Part) (b : Before) → is_sign 44 p ≡ false → is_sign 60 p ≡ false → step dialect p b (expression_rest 0) ≡ expression_rest 0
  tested_step p b c o = by_part p b c o
    where
      by_tests : (s t u : Bool) → u ≡ false → s ≡ false → cond s (expression_rest 1) (cond t (expression_rest 0) (cond (u && true) statement (expression_rest 0))) ≡ expression_rest 0
      by_tests true t u c o = absurd cc
      by_tests false true u c o = refl
      by_tests false false true c o = absurd cc
      by_tests false false false c o = refl

      by_part : (p : Part) (b : Before) → is_sign 44 p ≡ false → is_sign 60 p ≡ false → step dialect p b (expression_rest 0) ≡ expression_rest 0
      by_part space b c o = refl
      by_part (word name) b c o = refl
      by_part (sign m) b c o = by_tests (m == 60) (m == 62) (m == 44) c o
      by_part quotation b c o = refl
      by_part numeric b c o = refl

  tested_keeps : {before whole : List Part} → Tested before whole → At before (expression_rest 0) → At whole (expression_rest 0)
  tested_keeps tested_nothing e = e
  tested_keeps (tested_part {whole = whole} p c o more) e = goes p whole (expression_rest 0) (expression_rest 0) (tested_keeps more e) (tested_step p (behind dialect whole).before c o)
  tested_keeps (tested_group {outer = outer} {inner = inner} o i) e =
      let opened = goes (sign 60) outer (expression_rest 0) (expression_rest 1) (tested_keeps o e) refl in
      goes (sign 62) inner (expression_rest 1) (expression_rest 0) (nested_keeps deep_expression expression_deepens 0 i opened) refl

  -- arguments: where one is due, a part that is no blank and no comma begins it
  abbrev pub ArgumentDue : Bool → List Part → Type 0
  ArgumentDue last before = (p : Part) → is_space p ≡ false → is_sign 44 p ≡ false → (behind dialect (p ∷ before)).place ≡ step dialect p (behind dialect before).before (text_argument last false 0)

  due_at : (last : Bool) (before : List Part) → At before (text_argument last false 0) → ArgumentDue last before
  due_at last before e p s c = steps_to dialect p before (text_argument last false 0) e

  due_between : (before : List Part) → At before between_arguments → ArgumentDue true before
  due_between before e p s c = steps_to dialect p before between_arguments e ∙ by_part p s c
    where
      by_test : (t : Bool) (x y z : Place) → t ≡ false → cond t x (cond t y z) ≡ cond t y z
      by_test true x y z e = absurd cc
      by_test false x y z e = refl

      by_part : (p : Part) → is_space p ≡ false → is_sign 44 p ≡ false → step dialect p (behind dialect before).before between_arguments ≡ step dialect p (behind dialect before).before (text_argument true false 0)
      by_part space s c = absurd cc
      by_part (word name) s c = refl
      by_part (sign m) s c = by_test (m == 44) _ _ _ c
      by_part quotation s c = refl
      by_part numeric s c = refl

  begins_facts : (s t u : Bool) → (not s && not t && not u) ≡ true → (s ≡ false) × (t ≡ false) × (u ≡ false)
  begins_facts true t u e = absurd cc
  begins_facts false true u e = absurd cc
  begins_facts false false true e = absurd cc
  begins_facts false false false e = (refl, refl, refl)

  if_neither : (s t : Bool) (x y z : Place) → s ≡ false → t ≡ false → cond s x (cond (t && true) y z) ≡ z
  if_neither true t x y z c o = absurd cc
  if_neither false true x y z c o = absurd cc
  if_neither false false x y z c o = refl

  argument_begun : (last : Bool) (p : Part) (b : Before) → is_space p ≡ false → is_sign 44 p ≡ false → is_sign 60 p ≡ false → step dialect p b (text_argument last false 0) ≡ text_argument last true 0
  argument_begun last space b s c o = absurd cc
  argument_begun last (word name) b s c o = refl
  argument_begun last (sign m) b s c o = if_neither (m == 44) (m == 60) _ _ _ c o
  argument_begun last quotation b s c o = refl
  argument_begun last numeric b s c o = refl

  if_begun : (s t : Bool) (x y z : Place) → s ≡ false → cond s x (cond (t && false) y z) ≡ z
  if_begun true t x y z c = absurd cc
  if_begun false true x y z c = refl
  if_begun false false x y z c = refl

  -- an argument goes on where a part is not its end
  GoesOn : Bool → (Part → Bool) → Type 0
  GoesOn last goes_on = (p : Part) (b : Before) → goes_on p ≡ true → step dialect p b (text_argument last true 0) ≡ text_argument last true 0

  not_true : (t : Bool) → not t ≡ true → t ≡ false
  not_true true e = absurd cc
  not_true false e = refl

  last_goes_on : GoesOn true is_of_last
  unfolding GoesOn
  last_goes_on space b g = refl
  last_goes_on (word name) b g = refl
  last_goes_on (sign m) b g = if_begun (m == 44) (m == 60) _ _ _ (not_true (m == 44) g)
  last_goes_on quotation b g = refl
  last_goes_on numeric b g = refl

  first_goes_on : GoesOn false is_of_first
  unfolding GoesOn
  first_goes_on space b g = absurd cc
  first_goes_on (word name) b g = refl
  first_goes_on (sign m) b g = if_begun (m == 44) (m == 60) _ _ _ (not_true (m == 44) g)
  first_goes_on quotation b g = refl
  first_goes_on numeric b g = refl

  argument_placed : {goes_on : Part → Bool} {before whole : List Part} (last : Bool) → GoesOn last goes_on → Argument goes_on before whole → ArgumentDue last before → At whole (text_argument last true 0)
  unfolding GoesOn
  argument_placed last g (argument_begins {before = before} p n) e =
      let facts = begins_facts (is_space p) (is_sign 44 p) (is_sign 60 p) n in
      e p facts.0 facts.1 ∙ argument_begun last p (behind dialect before).before facts.0 facts.1 facts.2
  argument_placed last g (argument_group {before = before} {inner = inner} n) e =
      goes (sign 62) inner (text_argument last true 1) (text_argument last true 0) (nested_keeps (deep_argument last) (argument_deepens last) 0 n (e (sign 60) refl refl)) refl
  argument_placed last g (argument_more {whole = whole} p on more) e = goes p whole (text_argument last true 0) (text_argument last true 0) (argument_placed last g more e) (g p (behind dialect whole).before on)

  -- the comma behind the last argument ends the condition
  abbrev pub Done : List Part → Type 0
  Done whole = At (sign 44 ∷ whole) statement

  last_done : {before whole : List Part} → Last before whole → At before (text_argument true false 0) → Done whole
  last_done {before = before} (last_missing {whole = whole} blanks) e = goes (sign 44) whole (text_argument true false 0) statement (blanks_keep (text_argument true false 0) (λ b. refl) blanks e) refl
  last_done {before = before} {whole = whole} (last_given {blanks = start} blanks argument) e =
      let due = due_at true start (blanks_keep (text_argument true false 0) (λ b. refl) blanks e) in
      goes (sign 44) whole (text_argument true true 0) statement (argument_placed true last_goes_on argument due) refl

  first_placed : {before blanks first : List Part} → Blanks before blanks → Argument is_of_first blanks first → At before (text_argument false false 0) → At first (text_argument false true 0)
  first_placed {blanks = start} blanks argument e = argument_placed false first_goes_on argument (due_at false start (blanks_keep (text_argument false false 0) (λ b. refl) blanks e))

  -- blanks behind the first argument
  parted : {first whole : List Part} → Blanks first whole → At first (text_argument false true 0) → At (sign 44 ∷ whole) (text_argument true false 0)
  parted {first = first} no_blanks e = goes (sign 44) first (text_argument false true 0) (text_argument true false 0) e refl
  parted {first = first} (a_blank {whole = whole} more) e = goes (sign 44) (space ∷ whole) between_arguments (text_argument true false 0) (between more e) refl
    where
      between : {first whole : List Part} → Blanks first whole → At first (text_argument false true 0) → At (space ∷ whole) between_arguments
      between {first = first} no_blanks e = goes space first (text_argument false true 0) between_arguments e refl
      between (a_blank {whole = whole} more) e = goes space (space ∷ whole) between_arguments between_arguments (between more e) refl

  second_done : {first whole : List Part} → Second first whole → At first (text_argument false true 0) → Done whole
  second_done (parted_by_comma gap last) e = last_done last (parted gap e)
  second_done {first = first} {whole = whole} (parted_by_blanks {behind = start} gap last) e =
      let between = goes space first (text_argument false true 0) between_arguments e refl in
      let due = due_between start (blanks_keep between_arguments (λ b. refl) gap between) in
      goes (sign 44) whole (text_argument true true 0) statement (argument_placed true last_goes_on last due) refl

  two_done : {before whole : List Part} → Two before whole → At before (text_argument false false 0) → Done whole
  two_done (first_missing {blanks = start} blanks last) e =
      last_done last (goes (sign 44) start (text_argument false false 0) (text_argument true false 0) (blanks_keep (text_argument false false 0) (λ b. refl) blanks e) refl)
  two_done (first_given blanks argument second) e = second_done second (first_placed blanks argument e)

  tested_done : {before whole : List Part} → Tested before whole → At before (expression_rest 0) → Done whole
  tested_done {whole = whole} tested e = goes (sign 44) whole (expression_rest 0) statement (tested_keeps tested e) refl

  -- right behind the name of a condition
  subject_by : (name : List ℕ) (s t : Bool) → compares_texts name ≡ s → tests_text name ≡ t → subject_of name ≡ cond s on_two_texts (cond t on_text on_no_text)
  subject_by name s t e f = ap (λ (x : Bool). cond x on_two_texts (cond (tests_text name) on_text on_no_text)) e ∙ ap (λ (y : Bool). cond s on_two_texts (cond y on_text on_no_text)) f

  on_subject : (name : List ℕ) (before : List Part) (s : Subject) → subject_of name ≡ s → At before (condition_end (subject_of name)) → At before (condition_end s)
  on_subject name before s e f = f ∙ ap condition_end e

  parted_from : {before start : List Part} (s : Subject) → Parted before start → At before (condition_end s) → At start (argument_place s)
  parted_from {before = before} s by_blank e = goes space before (condition_end s) (argument_place s) e refl
  parted_from {before = before} s by_comma e = goes (sign 44) before (condition_end s) (argument_place s) e refl

  not_first : (t : Bool) (x y : Place) → t ≡ false → cond t x y ≡ y
  not_first true x y e = absurd cc
  not_first false x y e = refl

  -- a part that touches the name, and is no comma, is read as one behind what parts the argument from it
  touching : (s : Subject) (p : Part) (b : Before) → is_space p ≡ false → is_sign 44 p ≡ false → step dialect p b (condition_end s) ≡ step dialect p b (argument_place s)
  touching s space b n c = absurd cc
  touching on_two_texts (word name) b n c = refl
  touching on_text (word name) b n c = refl
  touching on_no_text (word name) b n c = refl
  touching on_two_texts (sign m) b n c = not_first (m == 44) _ _ c
  touching on_text (sign m) b n c = not_first (m == 44) _ _ c
  touching on_no_text (sign m) b n c = not_first (m == 44) _ _ c
  touching on_two_texts quotation b n c = refl
  touching on_text quotation b n c = refl
  touching on_no_text quotation b n c = refl
  touching on_two_texts numeric b n c = refl
  touching on_text numeric b n c = refl
  touching on_no_text numeric b n c = refl

  due_touching : (s : Subject) (last : Bool) (before : List Part) → argument_place s ≡ text_argument last false 0 → At before (condition_end s) → ArgumentDue last before
  due_touching s last before is e p n c = steps_to dialect p before (condition_end s) e ∙ touching s p (behind dialect before).before n c ∙ ap (step dialect p (behind dialect before).before) is

  begun_placed : {before first : List Part} → Begun before first → At before (condition_end on_no_text) → At first (expression_rest 0)
  begun_placed {before = before} (begun_part p n) e =
      let facts = begins_facts (is_space p) (is_sign 44 p) (is_sign 60 p) n in
      steps_to dialect p before (condition_end on_no_text) e ∙ touching on_no_text p (behind dialect before).before facts.0 facts.1 ∙ tested_step p (behind dialect before).before facts.1 facts.2
  begun_placed {before = before} (begun_group {inner = inner} n) e =
      let opened = goes (sign 60) before (condition_end on_no_text) (expression_rest 1) e refl in
      goes (sign 62) inner (expression_rest 1) (expression_rest 0) (nested_keeps deep_expression expression_deepens 0 n opened) refl

  condition_done : {name : List ℕ} {before whole : List Part} → Condition name before whole → At before (condition_end (subject_of name)) → Done whole
  condition_done {name = name} {before = before} (two_texts c parts two) e = two_done two (parted_from on_two_texts parts (on_subject name before on_two_texts (subject_by name true _ c refl) e))
  condition_done {name = name} {before = before} (one_text c t parts last) e = last_done last (parted_from on_text parts (on_subject name before on_text (subject_by name false true c t) e))
  condition_done {name = name} {before = before} (no_text c t parts tested) e = tested_done tested (parted_from on_no_text parts (on_subject name before on_no_text (subject_by name false false c t) e))
  condition_done {name = name} {before = before} (two_touching c argument second) e =
      second_done second (argument_placed false first_goes_on argument (due_touching on_two_texts false before refl (on_subject name before on_two_texts (subject_by name true _ c refl) e)))
  condition_done {name = name} {before = before} {whole = whole} (text_touching c t argument) e =
      goes (sign 44) whole (text_argument true true 0) statement (argument_placed true last_goes_on argument (due_touching on_text true before refl (on_subject name before on_text (subject_by name false true c t) e))) refl
  condition_done {name = name} {before = before} (no_text_touching c t begun tested) e = tested_done tested (begun_placed begun (on_subject name before on_no_text (subject_by name false false c t) e))

  -- which operator a name is
  text_operator : (name : List ℕ) → is_text_directive dialect name ≡ true → operator_of dialect name ≡ text_directive
  text_operator name e = ap (λ (t : Bool). cond t text_directive (cond (spells (codes ".IIF") name) immediate_if other_operator)) e

  second_letter : (name : List ℕ) → spells (codes ".IIF") name ≡ true → is_text_directive dialect name ≡ false
  second_letter [] e = absurd cc
  second_letter (a ∷ []) e = grind (arith, nat_tests)
  second_letter (a ∷ b ∷ name) e = grind (arith, nat_tests)

  immediate_operator : (name : List ℕ) → is_immediate_if name ≡ true → operator_of dialect name ≡ immediate_if
  immediate_operator name e =
      ap (λ (t : Bool). cond t text_directive (cond (spells (codes ".IIF") name) immediate_if other_operator)) (second_letter name e)
      ∙ ap (λ (t : Bool). cond t immediate_if other_operator) e

  -- the colons of a label
  colon_placed : (before start : List Part) (name : List ℕ) → At before statement → Blanks (word name ∷ before) start → At (sign 58 ∷ start) behind_label
  colon_placed before start name due blanks =
      let first = goes (word name) before statement (first_name (operator_of dialect name)) due refl in
      goes (sign 58) start (first_name (operator_of dialect name)) behind_label (blanks_keep (first_name (operator_of dialect name)) (λ b. refl) blanks first) refl

  second_colon : (before start : List Part) (name : List ℕ) → At before statement → Blanks (word name ∷ before) start → step dialect (sign 58) (behind dialect (sign 58 ∷ start)).before behind_label ≡ behind_label
  second_colon before start name due blanks =
      let first = goes (word name) before statement (first_name (operator_of dialect name)) due refl in
      let there = blanks_keep (first_name (operator_of dialect name)) (λ b. refl) blanks first in
      by_test (is_first_name (behind dialect start).place) (ap is_first_name there)
    where
      by_test : (t : Bool) → t ≡ true → cond (is_colon (cond t label_colon Before.nothing_special)) behind_label operands ≡ behind_label
      by_test true e = refl
      by_test false e = absurd cc

  mutual
    pub statement_placed : {whole : List Part} → StatementDue whole → At whole statement
    statement_placed at_line = refl
    statement_placed (behind_blank {whole = whole} more) = goes space whole statement statement (statement_placed more) refl
    statement_placed (behind_condition {before = before} {blanks = start} name condition due is blanks tests) =
        condition_done tests (condition_named before start name condition due is blanks)

    condition_named : (before start : List Part) (name condition : List ℕ) → OperatorDue before → is_immediate_if name ≡ true → Blanks (word name ∷ before) start → At (word condition ∷ start) (condition_end (subject_of condition))
    condition_named before start name condition (without_label due) is blanks =
        let first = goes (word name) before statement (first_name immediate_if) (statement_placed due) (ap first_name (immediate_operator name is)) in
        goes (word condition) start (first_name immediate_if) (condition_end (subject_of condition)) (blanks_keep (first_name immediate_if) (λ b. refl) blanks first) refl
    condition_named before start name condition (with_label label) is blanks =
        let first = goes (word name) before behind_label condition_name (label_placed label) (ap operand_place (immediate_operator name is)) in
        goes (word condition) start condition_name (condition_end (subject_of condition)) (blanks_keep condition_name (λ b. refl) blanks first) refl

    pub label_placed : {whole : List Part} → Labelled whole → At whole behind_label
    label_placed (one_colon {before = before} {blanks = start} name due blanks more) = blanks_keep behind_label (λ b. refl) more (colon_placed before start name (statement_placed due) blanks)
    label_placed (two_colons {before = before} {blanks = start} name due blanks more) =
        blanks_keep behind_label (λ b. refl) more (goes (sign 58) (sign 58 ∷ start) behind_label behind_label (colon_placed before start name (statement_placed due) blanks) (second_colon before start name (statement_placed due) blanks))

  -- where a piece is due
  pub due_placed : {b : ℕ} {whole : List Part} → PieceDue dialect b whole → piece_due (behind dialect whole).place b ≡ true
  due_placed {b = b} (behind_labelled {before = before} name label is pieces) =
      let first = goes (word name) before behind_label text_piece (label_placed label) (ap operand_place (text_operator name is)) in
      ap (λ (x : Place). piece_due x b) (pieces_keep pieces first)
  due_placed {b = b} (first_piece {before = before} name due is blanks n) =
      let first = goes (word name) before statement (first_name text_directive) (statement_placed due) (ap first_name (text_operator name is)) in
      ap (λ (x : Place). piece_due x b) (blanks_keep (first_name text_directive) (λ c. refl) blanks first) ∙ ap not n
  due_placed {b = b} (later_piece {before = before} {blanks = start} name due is blanks piece pieces) =
      let first = goes (word name) before statement (first_name text_directive) (statement_placed due) (ap first_name (text_operator name is)) in
      let there = blanks_keep (first_name text_directive) (λ c. refl) blanks first in
      ap (λ (x : Place). piece_due x b) (pieces_keep pieces (begun piece there))
    where
      begun : {before whole : List Part} → Piece before whole → At before (first_name text_directive) → At whole text_piece
      begun (quoted_text {before = before}) e = goes quotation before (first_name text_directive) text_piece e refl
      begun (bracketed_value {before = before} {inner = inner} n) e =
          let opened = goes (sign 60) before (first_name text_directive) (bracketed_piece 1) e refl in
          goes (sign 62) inner (bracketed_piece 1) text_piece (nested_keeps deep_piece piece_deepens 0 n opened) refl
