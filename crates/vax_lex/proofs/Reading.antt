-- The pieces of a line are the ones that the language has there, and it has no others.
use Rattle.std.proofs.Common.{◌≡◌, ◌≤◌, ℕ, zero, suc, ◌+◌, Bool, true, false, cond, List, [], ◌∷◌, ◌++◌, length, take, drop, refl, ap, ◌∙◌, arith, sym, subst, inl, inr, ⊎_elim, append_assoc}
use Rattle.std.specs.Prelude.{Result, Vec}
use Rattle.std.specs.Prelude.{◌⊎◌, ◌&&◌, ◌||◌, ◌==◌}
use Rattle.std.proofs.lemmas.List.{length-take, length-drop, take-append-drop}
use Rattle.std.proofs.Math.Seq.{take-append_seam, drop-append_seam}
use Rattle.std.proofs.lemmas.Bool.Decides.{nat_tests}
use Rattle.vax_dialect.specs.declared.Dialect.{Dialect}
use Rattle.vax_dialect.specs.declared.Dialect.TheVariants.{Vax}
use Rattle.vax_lex.specs.Characters.{is_delimiter}
use Rattle.vax_lex.specs.Statements.{Context, context_after, line_start, text_due, is_caret, is_size, is_text_sign, piece_due}
use Rattle.vax_lex.specs.Tokens.{Head, blank, no_more, begins, too_wide, no_token, quoted, plain, head_of, piece, pieces_from, pieces_of, HeadFits, Answers, tokens_in, tokens_of}
use Rattle.vax_lex.specs.Parts.{Element, gap, token, wide, stray, characters, Part, part_of, behind_operator, behind_size, behind_text_operator}
use Rattle.vax_lex.specs.Directives.{PieceDue}
use Rattle.vax_lex.specs.Written.{Scans, TextDue, Stands, operator_letter, quoted_text, operand_caret, longest, written, Ends, AreWritten, pieces_at, IsWritten}
use Rattle.vax_lex.specs.declared.token.Piece.{Piece}
use Rattle.vax_lex.specs.declared.token.Token.{Token}
use Rattle.vax_lex.specs.declared.token.LexError.{LexError}
use Rattle.vax_lex.specs.declared.token.PieceKind.TheVariants as kinds
use Rattle.vax_lex.specs.declared.token.TokenKind.{TokenKind}
use Rattle.vax_lex.specs.declared.token.TokenKind.TheVariants.{Name, Number, Mark}
use Rattle.vax_lex.proofs.Behind.{behind, token_after, wide_after, stray_after, operator_is, size_is, text_is}
use Rattle.vax_lex.proofs.Placed.{due_placed}
use Rattle.vax_lex.proofs.Known.{due_told}
use Rattle.vax_lex.proofs.Heads.{head_fits}
use Rattle.vax_lex.proofs.Vocabulary.{head}
use Rattle.vax_lex.proofs.Longest.{longest_is, is_longest, quoted_is, is_quoted}
use Rattle.vax_lex.proofs.Lines.{step, steps}

-- a text is due by the scanner's test where it is due in the language
and_both : (s t : Bool) → s ≡ true → t ≡ true → (s && t) ≡ true
and_both true t e f = f
and_both false t e f = absurd cc

pub and_first : (s t : Bool) → (s && t) ≡ true → s ≡ true
and_first true t e = refl
and_first false t e = absurd cc

pub and_second : (s t : Bool) → (s && t) ≡ true → t ≡ true
and_second true t e = e
and_second false t e = absurd cc

or_first : (s t : Bool) → s ≡ true → (s || t) ≡ true
or_first true t e = refl
or_first false t e = absurd cc

or_second : (s t : Bool) → t ≡ true → (s || t) ≡ true
or_second true t e = refl
or_second false t e = e

or_either : (s t : Bool) → (s || t) ≡ true → (s ≡ true) ⊎ (t ≡ true)
or_either true t e = inl refl
or_either false t e = inr e

module _ (dialect : Dialect) where
  text_due_by : (b : ℕ) (before : List Part) → TextDue dialect b before → text_due (behind dialect before) b ≡ true
  text_due_by b before (d, u) = and_both (is_delimiter b) _ d (⊎_elim
      (λ (e : behind_text_operator before ≡ true). or_first _ (piece_due (behind dialect before).place b) (text_is dialect before ∙ e))
      (λ (p : PieceDue dialect b before). or_second (is_text_sign (behind dialect before).before) _ (due_placed dialect p)) u)

  text_due_is : (b : ℕ) (before : List Part) → text_due (behind dialect before) b ≡ true → TextDue dialect b before
  text_due_is b before e = (
    and_first (is_delimiter b) _ e,
    ⊎_elim
        (λ (f : is_text_sign (behind dialect before).before ≡ true). inl (sym (text_is dialect before) ∙ f))
        (λ (f : piece_due (behind dialect before).place b ≡ true). inr (due_told dialect b before f))
        (or_either (is_text_sign (behind dialect before).before) (piece_due (behind dialect before).place b) (and_second (is_delimiter b) _ e)),
  )

  no_text_due : (b : ℕ) (before : List Part) → (TextDue dialect b before → ⊥) → text_due (behind dialect before) b ≡ false
  no_text_due b before n = by_test (text_due (behind dialect before) b) refl
    where
      by_test : (t : Bool) → text_due (behind dialect before) b ≡ t → t ≡ false
      by_test true e = absurd (n (text_due_is b before e))
      by_test false e = refl

  not_due : (b : ℕ) (before : List Part) → text_due (behind dialect before) b ≡ false → TextDue dialect b before → ⊥
  not_due b before e d = let f : text_due (behind dialect before) b ≡ true = text_due_by b before d in cc

  -- what the scanner finds behind these parts
  abbrev found : List Part → ℕ → List ℕ → Head
  found before b bytes = cond (is_caret (behind dialect before).before) (begins Name 1) (cond (text_due (behind dialect before) b) (quoted b bytes) (cond (is_size (behind dialect before).before && (b == 94)) (begins (Mark 94) 1) (plain (b ∷ bytes))))

  finds : (before : List Part) (b : ℕ) (bytes : List ℕ) → head_of (behind dialect before) (b ∷ bytes) ≡ found before b bytes
  unfolding head_of
  finds before b bytes = refl

  -- Where an element stands the scanner finds it.
  stands_found : (before : List Part) (e : Element) (rest : List ℕ) (b : ℕ) (bytes : List ℕ) → Stands dialect before e rest → characters e ++ rest ≡ b ∷ bytes → head_of (behind dialect before) (b ∷ bytes) ≡ head e
  stands_found before e rest b bytes (operator_letter c o is) f =
      finds before b bytes ∙ ap (λ (t : Bool). cond t (begins Name 1) (cond (text_due (behind dialect before) b) (quoted b bytes) (cond (is_size (behind dialect before).before && (b == 94)) (begins (Mark 94) 1) (plain (b ∷ bytes))))) (operator_is dialect before ∙ o) ∙ sym (ap head is)
  stands_found before e rest b bytes (quoted_text c more o is due q) f =
      let first : c ≡ b = cc in
      let same : more ≡ bytes = cc in
      let here : text_due (behind dialect before) b ≡ true = ap (text_due (behind dialect before)) (sym first) ∙ text_due_by c before due in
      finds before b bytes
      ∙ ap (λ (t : Bool). cond t (begins Name 1) (cond (text_due (behind dialect before) b) (quoted b bytes) (cond (is_size (behind dialect before).before && (b == 94)) (begins (Mark 94) 1) (plain (b ∷ bytes))))) (operator_is dialect before ∙ o)
      ∙ ap (λ (t : Bool). cond t (quoted b bytes) (cond (is_size (behind dialect before).before && (b == 94)) (begins (Mark 94) 1) (plain (b ∷ bytes)))) here
      ∙ ap (λ (x : ℕ). quoted x bytes) (sym first) ∙ ap (quoted c) (sym same) ∙ quoted_is c e rest more q is
  stands_found before e rest b bytes (operand_caret o n s is) f =
      let there : 94 ∷ rest ≡ b ∷ bytes = ap (λ (x : Element). characters x ++ rest) (sym is) ∙ f in
      let first : b ≡ 94 = cc in
      let none : text_due (behind dialect before) b ≡ false = ap (text_due (behind dialect before)) first ∙ no_text_due 94 before n in
      finds before b bytes
      ∙ ap (λ (t : Bool). cond t (begins Name 1) (cond (text_due (behind dialect before) b) (quoted b bytes) (cond (is_size (behind dialect before).before && (b == 94)) (begins (Mark 94) 1) (plain (b ∷ bytes))))) (operator_is dialect before ∙ o)
      ∙ ap (λ (t : Bool). cond t (quoted b bytes) (cond (is_size (behind dialect before).before && (b == 94)) (begins (Mark 94) 1) (plain (b ∷ bytes)))) none
      ∙ ap (λ (t : Bool). cond t (begins (Mark 94) 1) (plain (b ∷ bytes))) (ap (λ (t : Bool). t && (b == 94)) (size_is dialect before ∙ s) ∙ ap (λ (x : ℕ). x == 94) first)
      ∙ sym (ap head is)
  stands_found before e rest b bytes (longest c more o is n s q) f =
      let first : c ≡ b = cc in
      let same : more ≡ bytes = cc in
      let none : text_due (behind dialect before) b ≡ false = ap (text_due (behind dialect before)) (sym first) ∙ no_text_due c before n in
      finds before b bytes
      ∙ ap (λ (t : Bool). cond t (begins Name 1) (cond (text_due (behind dialect before) b) (quoted b bytes) (cond (is_size (behind dialect before).before && (b == 94)) (begins (Mark 94) 1) (plain (b ∷ bytes))))) (operator_is dialect before ∙ o)
      ∙ ap (λ (t : Bool). cond t (quoted b bytes) (cond (is_size (behind dialect before).before && (b == 94)) (begins (Mark 94) 1) (plain (b ∷ bytes)))) none
      ∙ ap (λ (t : Bool). cond t (begins (Mark 94) 1) (plain (b ∷ bytes))) (ap (λ (x : Bool). x && (b == 94)) (size_is dialect before) ∙ ap (λ (x : ℕ). behind_size before && (x == 94)) (sym first) ∙ s)
      ∙ ap (λ (x : ℕ). plain (x ∷ bytes)) (sym first) ∙ ap (λ (x : List ℕ). plain (c ∷ x)) (sym same) ∙ longest_is e rest c more q is

  -- an element is at least one byte
  begins_with : (before : List Part) (e : Element) (rest : List ℕ) → Stands dialect before e rest → (b : ℕ) × (bytes : List ℕ) × (characters e ++ rest ≡ b ∷ bytes)
  begins_with before e rest (operator_letter c o is) = (c, rest, ap (λ (x : Element). characters x ++ rest) is)
  begins_with before e rest (quoted_text c more o is due q) = (c, more, is)
  begins_with before e rest (operand_caret o n s is) = (94, rest, ap (λ (x : Element). characters x ++ rest) is)
  begins_with before e rest (longest c more o is n s q) = (c, more, is)

  stands_head : (before : List Part) (e : Element) (rest : List ℕ) → Stands dialect before e rest → head_of (behind dialect before) (characters e ++ rest) ≡ head e
  stands_head before e rest s =
      let front = begins_with before e rest s in
      ap (head_of (behind dialect before)) front.2 ∙ stands_found before e rest front.0 front.1 s front.2

  -- the scanner's step over an element
  passes_over : (before : List Part) (at : ℕ) (e : Element) (rest : List ℕ) → Stands dialect before e rest
      → pieces_from dialect (behind dialect before) at zero (characters e ++ rest) ≡ step dialect (behind dialect before) at (characters e ++ rest) (head e)
  passes_over before at e rest s =
      let P : Head → Type 0 = λ h. HeadFits (characters e ++ rest) h in
      steps dialect (behind dialect before) at (characters e ++ rest) (head e) (sym (stands_head before e rest s)) (subst P (stands_head before e rest s) (head_fits (behind dialect before) (characters e ++ rest)))

-- behind the comment's sign
semicolon : (t u v : Bool) (x y z : Head) → t ≡ false → cond t x (cond (u && false) y z) ≡ z
semicolon true u v x y z e = absurd cc
semicolon false true v x y z e = refl
semicolon false false v x y z e = refl

module _ (dialect : Dialect) where
  comment_found : (before : List Part) (bytes : List ℕ) → behind_operator before ≡ false → head_of (behind dialect before) (59 ∷ bytes) ≡ no_more
  unfolding plain
  comment_found before bytes o = finds dialect before 59 bytes ∙ semicolon (is_caret (behind dialect before).before) (is_size (behind dialect before).before) false (begins Name 1) (begins (Mark 94) 1) no_more (operator_is dialect before ∙ o)

  ends_here : (before : List Part) (at : ℕ) (comment : List ℕ) → Ends before comment → pieces_from dialect (behind dialect before) at zero comment ≡ []
  unfolding pieces_from
  ends_here before at [] e = refl
  ends_here before at (b ∷ bytes) (is, o) =
      ap (λ (x : ℕ). pieces_from dialect (behind dialect before) at zero (x ∷ bytes)) is
      ∙ steps dialect (behind dialect before) at (59 ∷ bytes) no_more (sym (comment_found before bytes o)) (inr refl)

  -- A line that is written as elements has their pieces.
  pub pieces_are : (before : List Part) (at : ℕ) (elements : List Element) (comment : List ℕ) → AreWritten dialect before elements comment
      → pieces_from dialect (behind dialect before) at zero (written elements ++ comment) ≡ pieces_at at elements
  pieces_are before at [] comment e = ends_here before at comment e
  pieces_are before at (gap b ∷ elements) comment (s, more) =
      passes_over dialect before at (gap b) (written elements ++ comment) s ∙ pieces_are (part_of (gap b) ∷ before) (at + 1) elements comment more
  pieces_are before at (token kind text ∷ elements) comment (s, more) =
      let rest = written elements ++ comment in
      let split : (text ++ written elements) ++ comment ≡ text ++ rest = append_assoc text (written elements) comment in
      let next : context_after dialect (behind dialect before) kind (take (length text) (text ++ rest)) ≡ behind dialect (part_of (token kind text) ∷ before) =
      ap (context_after dialect (behind dialect before) kind) (take-append_seam text rest) ∙ token_after dialect (behind dialect before) kind text in
      ap (pieces_from dialect (behind dialect before) at zero) split
      ∙ passes_over dialect before at (token kind text) rest s
      ∙ ap (λ (c : Context). piece (kinds.Token kind) at (length text) ∷ pieces_from dialect c (at + length text) zero (drop (length text) (text ++ rest))) next
      ∙ ap (λ (bytes : List ℕ). piece (kinds.Token kind) at (length text) ∷ pieces_from dialect (behind dialect (part_of (token kind text) ∷ before)) (at + length text) zero bytes) (drop-append_seam text rest)
      ∙ ap (λ (ps : List Piece). piece (kinds.Token kind) at (length text) ∷ ps) (pieces_are (part_of (token kind text) ∷ before) (at + length text) elements comment more)
  pieces_are before at (wide text ∷ elements) comment (s, more) =
      let rest = written elements ++ comment in
      let split : (text ++ written elements) ++ comment ≡ text ++ rest = append_assoc text (written elements) comment in
      let next : context_after dialect (behind dialect before) (Number 0) (take (length text) (text ++ rest)) ≡ behind dialect (part_of (wide text) ∷ before) =
      wide_after dialect (behind dialect before) (take (length text) (text ++ rest)) in
      ap (pieces_from dialect (behind dialect before) at zero) split
      ∙ passes_over dialect before at (wide text) rest s
      ∙ ap (λ (c : Context). piece kinds.Wide at (length text) ∷ pieces_from dialect c (at + length text) zero (drop (length text) (text ++ rest))) next
      ∙ ap (λ (bytes : List ℕ). piece kinds.Wide at (length text) ∷ pieces_from dialect (behind dialect (part_of (wide text) ∷ before)) (at + length text) zero bytes) (drop-append_seam text rest)
      ∙ ap (λ (ps : List Piece). piece kinds.Wide at (length text) ∷ ps) (pieces_are (part_of (wide text) ∷ before) (at + length text) elements comment more)
  pieces_are before at (stray b ∷ elements) comment (s, more) =
      let rest = written elements ++ comment in
      passes_over dialect before at (stray b) rest s
      ∙ ap (λ (c : Context). piece kinds.Bad at 1 ∷ pieces_from dialect c (at + 1) zero rest) (stray_after dialect (behind dialect before) b (b ∷ []))
      ∙ ap (λ (ps : List Piece). piece kinds.Bad at 1 ∷ ps) (pieces_are (part_of (stray b) ∷ before) (at + 1) elements comment more)

  pub only_pieces : (line : List ℕ) (pieces : List Piece) → IsWritten dialect line pieces → pieces ≡ pieces_of dialect line
  unfolding pieces_of
  only_pieces line pieces w = sym w.are ∙ sym (pieces_are [] 0 w.elements w.comment w.stand) ∙ ap (pieces_from dialect line_start 0 zero) w.spells

-- Where the scanner finds an element it stands.
pub one_byte : (text : List ℕ) → length text ≡ 1 → (b : ℕ) × (text ≡ b ∷ [])
one_byte [] e = absurd (omega (arith, e))
one_byte (b ∷ []) e = (b, refl)
one_byte (b ∷ c ∷ text) e = absurd (omega (arith, e))

pub token_only : (kind : TokenKind) (e : Element) → begins kind 1 ≡ head e → (b : ℕ) × (e ≡ token kind (b ∷ []))
token_only kind (gap b) e = absurd cc
token_only kind (token other text) e =
    let same : other ≡ kind = cc in
    let one : length text ≡ 1 = cc in
    let is = one_byte text one in
    (is.0, ap (λ (x : TokenKind). token x text) same ∙ ap (token kind) is.1)
token_only kind (wide text) e = absurd cc
token_only kind (stray b) e = absurd cc

pub first_byte : (e : Element) (rest bytes : List ℕ) (b c : ℕ) (kind : TokenKind) → characters e ++ rest ≡ b ∷ bytes → e ≡ token kind (c ∷ []) → c ≡ b
first_byte e rest bytes b c kind f is = let there : c ∷ rest ≡ b ∷ bytes = ap (λ (x : Element). characters x ++ rest) (sym is) ∙ f in cc

module _ (dialect : Dialect) where
  found_stands : (before : List Part) (e : Element) (rest : List ℕ) (b : ℕ) (bytes : List ℕ) → characters e ++ rest ≡ b ∷ bytes → found dialect before b bytes ≡ head e → Stands dialect before e rest
  found_stands before e rest b bytes f h = by_tests (is_caret (behind dialect before).before) (text_due (behind dialect before) b) (is_size (behind dialect before).before && (b == 94)) refl refl refl h
    where
      by_tests : (t u v : Bool) → is_caret (behind dialect before).before ≡ t → text_due (behind dialect before) b ≡ u → (is_size (behind dialect before).before && (b == 94)) ≡ v
          → cond t (begins Name 1) (cond u (quoted b bytes) (cond v (begins (Mark 94) 1) (plain (b ∷ bytes)))) ≡ head e → Stands dialect before e rest
      by_tests true u v p q r i = let is = token_only Name e i in operator_letter is.0 (sym (operator_is dialect before) ∙ p) is.1
      by_tests false true v p q r i = quoted_text b bytes (sym (operator_is dialect before) ∙ p) f (text_due_is dialect b before q) (is_quoted b e rest bytes f i)
      by_tests false false true p q r i =
          let is = token_only (Mark 94) e i in
          let caret : b ≡ 94 = let t : (b == 94) ≡ true = and_second (is_size (behind dialect before).before) _ r in grind (arith, nat_tests) in
          let sign : is.0 ≡ 94 = first_byte e rest bytes b is.0 (Mark 94) f is.1 ∙ caret in
          let none : text_due (behind dialect before) 94 ≡ false = ap (text_due (behind dialect before)) (sym caret) ∙ q in
          operand_caret (sym (operator_is dialect before) ∙ p) (not_due dialect 94 before none) (sym (size_is dialect before) ∙ and_first _ (b == 94) r) (is.1 ∙ ap (λ (x : ℕ). token (Mark 94) (x ∷ [])) sign)
      by_tests false false false p q r i =
          longest b bytes (sym (operator_is dialect before) ∙ p) f (not_due dialect b before q) (ap (λ (x : Bool). x && (b == 94)) (sym (size_is dialect before)) ∙ r) (is_longest e rest b bytes f i)

  -- Each line is written somehow.
  pub record Readable (before : List Part) (bytes : List ℕ) : Type 0 where
    pub elements : List Element
    pub comment : List ℕ
    pub spells : written elements ++ comment ≡ bytes
    pub stand : AreWritten dialect before elements comment

  one_element : (before : List Part) (e : Element) (rest : List ℕ) (b : ℕ) (bytes : List ℕ) → characters e ++ rest ≡ b ∷ bytes → head_of (behind dialect before) (b ∷ bytes) ≡ head e
      → Readable (part_of e ∷ before) rest → Readable before (b ∷ bytes)
  one_element before e rest b bytes f h r =
      let stands : Stands dialect before e rest = found_stands before e rest b bytes f (sym (finds dialect before b bytes) ∙ h) in
      let P : List ℕ → Type 0 = λ x. Stands dialect before e x in
      record {
        elements = e ∷ r.elements;
        comment = r.comment;
        spells = append_assoc (characters e) (written r.elements) r.comment ∙ ap (λ (x : List ℕ). characters e ++ x) r.spells ∙ f;
        stand = (subst P (sym r.spells) stands, r.stand);
      }

  no_comment : (before : List Part) (b : ℕ) (bytes : List ℕ) → head_of (behind dialect before) (b ∷ bytes) ≡ no_more → HeadFits (b ∷ bytes) no_more → Ends before (b ∷ bytes)
  no_comment before b bytes h f = (⊎_elim (λ (e : length (b ∷ bytes) ≡ 0). absurd (omega (arith, e))) (λ (e : b ≡ 59). e) f, sym (operator_is dialect before) ∙ by_test (is_caret (behind dialect before).before) (sym (finds dialect before b bytes) ∙ h))
    where
      by_test : (t : Bool) → cond t (begins Name 1) (cond (text_due (behind dialect before) b) (quoted b bytes) (cond (is_size (behind dialect before).before && (b == 94)) (begins (Mark 94) 1) (plain (b ∷ bytes)))) ≡ no_more → t ≡ false
      by_test true e = absurd cc
      by_test false e = refl

  by_head : (n : ℕ) (before : List Part) (b : ℕ) (bytes : List ℕ) (h : Head) → length (b ∷ bytes) ≤ suc n → head_of (behind dialect before) (b ∷ bytes) ≡ h → HeadFits (b ∷ bytes) h
      → ((next : List Part) (rest : List ℕ) → length rest ≤ n → Readable next rest) → Readable before (b ∷ bytes)
  by_head n before b bytes blank l e f more = one_element before (gap b) bytes b bytes refl e (more (part_of (gap b) ∷ before) bytes (omega (arith, l)))
  by_head n before b bytes no_more l e f more = record { elements = []; comment = b ∷ bytes; spells = refl; stand = no_comment before b bytes e f }
  by_head n before b bytes (begins kind k) l e f more =
      let text = take k (b ∷ bytes) in
      let size : length text ≡ k = omega (arith, length-take k (b ∷ bytes), f.1) in
      one_element before (token kind text) (drop k (b ∷ bytes)) b bytes (take-append-drop k (b ∷ bytes)) (e ∙ ap (begins kind) (sym size))
      (more (part_of (token kind text) ∷ before) (drop k (b ∷ bytes)) (omega (arith, l, length-drop k (b ∷ bytes), f.0)))
  by_head n before b bytes (too_wide k) l e f more =
      let text = take k (b ∷ bytes) in
      let size : length text ≡ k = omega (arith, length-take k (b ∷ bytes), f.1) in
      one_element before (wide text) (drop k (b ∷ bytes)) b bytes (take-append-drop k (b ∷ bytes)) (e ∙ ap too_wide (sym size))
      (more (part_of (wide text) ∷ before) (drop k (b ∷ bytes)) (omega (arith, l, length-drop k (b ∷ bytes), f.0)))
  by_head n before b bytes no_token l e f more = one_element before (stray b) bytes b bytes refl e (more (part_of (stray b) ∷ before) bytes (omega (arith, l)))

  readable : (n : ℕ) (before : List Part) (bytes : List ℕ) → length bytes ≤ n → Readable before bytes
  readable n before [] l = record { elements = []; comment = []; spells = refl; stand = tt }
  readable zero before (b ∷ bytes) l = absurd (omega (arith, l))
  readable (suc n) before (b ∷ bytes) l = by_head n before b bytes (head_of (behind dialect before) (b ∷ bytes)) l refl (head_fits (behind dialect before) (b ∷ bytes)) (λ next rest m. readable n next rest m)

  pub the_pieces : (line : List ℕ) → IsWritten dialect line (pieces_of dialect line)
  unfolding pieces_of
  the_pieces line =
      let r = readable (length line) [] line (omega arith) in
      record { elements = r.elements; comment = r.comment; spells = r.spells; stand = r.stand; are = sym (pieces_are dialect [] 0 r.elements r.comment r.stand) ∙ ap (pieces_from dialect line_start 0 zero) r.spells }

  -- at an answer
  pub written_by : (line : List ℕ) (items : List Piece) → items ≡ pieces_of dialect line → IsWritten dialect line items
  written_by line items e = let P : List Piece → Type 0 = λ ps. IsWritten dialect line ps in subst P (sym e) (the_pieces line)

  pub written_only : (line : List ℕ) (items : List Piece) → items ≡ pieces_of dialect line → (ps : List Piece) → IsWritten dialect line ps → ps ≡ items
  written_only line items e ps w = only_pieces dialect line ps w ∙ sym e

pub scans_by : {A : Type 0} (line : List ℕ) (r : Result (Vec Token A) LexError) → Answers r (tokens_of Vax line) → Scans line r
scans_by line r a = (pieces_of Vax line, the_pieces Vax line, a)

pub scans_only : {A : Type 0} (line : List ℕ) (r : Result (Vec Token A) LexError) → Answers r (tokens_of Vax line) → (ps : List Piece) → IsWritten Vax line ps → Answers r (tokens_in ps)
scans_only line r a ps w = let P : List Piece → Type 0 = λ x. Answers r (tokens_in x) in subst P (sym (only_pieces Vax line ps w)) a
