-- The names of a text are those that the language has there, and it has no others.
use Rattle.std.proofs.Common.{◌≡◌, ◌<◌, ◌≤◌, ℕ, zero, suc, ◌+◌, Bool, true, false, not, cond, List, [], ◌∷◌, ◌++◌, length, take, drop, refl, ap, ◌∙◌, arith, sym, subst, ⊎_elim}
use Rattle.std.specs.Prelude.{◌&&◌, ◌==◌, codes}
use Rattle.std.proofs.lemmas.List.{length-take, length-drop, take-append-drop}
use Rattle.std.proofs.Math.Seq.{take-append_seam, drop-append_seam}
use Rattle.std.proofs.lemmas.Bool.Decides.{nat_tests}
use Rattle.vax_dialect.specs.declared.Dialect.TheVariants.{Vax}
use Rattle.vax_lex.specs.Characters.{spells}
use Rattle.vax_lex.specs.Statements.{Context, context_after, context_after_blank, is_caret, is_size, is_text_sign, is_size_letter, is_first_name, is_name}
use Rattle.vax_lex.specs.Tokens.{Head, blank, no_more, begins, too_wide, no_token, plain, stray_kind, HeadFits}
use Rattle.vax_lex.specs.Words.{word_of, word_at, word, Word, with_name, names_from, names_of, text_start}
use Rattle.vax_lex.specs.Parts.{Element, gap, token, wide, stray, characters, Part, space, sign, numeric, part_of, behind_operator, behind_size}
use Rattle.vax_lex.specs.Written.{written}
use Rattle.vax_lex.specs.Named.{StandsAnywhere, letter_there, caret_there, longest_there, comment_there, AreFound, names_at, HasNames}
use Rattle.vax_lex.specs.declared.token.Span.{Span}
use Rattle.vax_lex.specs.declared.token.TokenKind.{TokenKind}
use Rattle.vax_lex.specs.declared.token.TokenKind.TheVariants.{Name, Number, Mark, Text}
use Rattle.vax_lex.proofs.Behind.{caret_name, size_name, caret_mark, size_mark, caret_blank, size_blank}
use Rattle.vax_lex.specs.Vocabulary.{IsWord, Longest, longest_word, no_word}
use Rattle.vax_lex.proofs.Vocabulary.{head, some}
use Rattle.vax_lex.proofs.Longest.{longest_is, is_longest}
use Rattle.vax_lex.proofs.Heads.{word_fits_is}
use Rattle.vax_lex.proofs.Naming.{word_step}
use Rattle.vax_lex.proofs.Reading.{token_only, first_byte, and_first, and_second}

-- what the scanner knows of the parts right before
pub record Knows (c : Context) (before : List Part) : Type 0 where
  pub operator : is_caret c.before ≡ behind_operator before
  pub size : is_size c.before ≡ behind_size before

knows_blank : (c : Context) (before : List Part) → Knows (context_after_blank c) (space ∷ before)
knows_blank c before = record { operator = caret_blank (is_text_sign c.before); size = size_blank (is_text_sign c.before) }

knows_token : (c : Context) (before : List Part) (kind : TokenKind) (text : List ℕ) → Knows c before → Knows (context_after Vax c kind text) (part_of (token kind text) ∷ before)
knows_token c before Name text k = record {
  operator = caret_name (is_caret c.before) (spells (codes "A") text) (is_size_letter text);
  size = size_name (is_caret c.before) (spells (codes "A") text) (is_size_letter text) ∙ ap (λ (t : Bool). not t && is_size_letter text) k.operator;
}
knows_token c before (Number n) text k = record { operator = refl; size = refl }
knows_token c before (Mark m) text k = record {
  operator = caret_mark (m == 94) (is_size c.before) ((m == 58) && is_first_name c.place) ∙ ap (λ (t : Bool). (m == 94) && not t) k.size;
  size = size_mark (m == 94) (is_size c.before) ((m == 58) && is_first_name c.place);
}
knows_token c before Text text k = record { operator = refl; size = refl }

knows_stray : (c : Context) (before : List Part) (b : ℕ) (text : List ℕ) → Knows c before → Knows (context_after Vax c (stray_kind b) text) (part_of (stray b) ∷ before)
knows_stray c before b text k = by_test (b == 94)
  where
    by_test : (t : Bool) → Knows (context_after Vax c (cond t (Number 0) (Mark b)) text) (cond t numeric (sign b) ∷ before)
    by_test true = knows_token c before (Number 0) text k
    by_test false = knows_token c before (Mark b) text k

-- what is found
word_found : (c : Context) (b : ℕ) (bytes : List ℕ) (t u : Bool) → is_caret c.before ≡ t → (is_size c.before && (b == 94)) ≡ u → word_of c (b ∷ bytes) ≡ cond t (begins Name 1) (cond u (begins (Mark 94) 1) (plain (b ∷ bytes)))
unfolding word_of
word_found c b bytes t u e f = ap (λ (x : Bool). cond x (begins Name 1) (cond (is_size c.before && (b == 94)) (begins (Mark 94) 1) (plain (b ∷ bytes)))) e ∙ ap (λ (x : Bool). cond t (begins Name 1) (cond x (begins (Mark 94) 1) (plain (b ∷ bytes)))) f

-- the word of an element
abbrev IsWordOf : Context → List ℕ → Element → Type 0
IsWordOf c bytes e = word c bytes ≡ word_at c bytes (head e)

at_comment : (bytes : List ℕ) → plain (59 ∷ bytes) ≡ no_more
unfolding plain
at_comment bytes = refl

no_caret : (t : Bool) → (t && false) ≡ false
no_caret true = refl
no_caret false = refl

stands_word : (c : Context) (before : List Part) (e : Element) (rest : List ℕ) → Knows c before → StandsAnywhere before e rest → ((b : ℕ) × (bytes : List ℕ) × (characters e ++ rest ≡ b ∷ bytes)) × IsWordOf c (characters e ++ rest) e
stands_word c before e rest k (letter_there b o is) =
    let spelt : characters e ++ rest ≡ b ∷ rest = ap (λ (x : Element). characters x ++ rest) is in
    ((b, rest, spelt), ap (word_at c (characters e ++ rest)) (ap (word_of c) spelt ∙ word_found c b rest true _ (k.operator ∙ o) refl ∙ sym (ap head is)))
stands_word c before e rest k (caret_there o s is) =
    let spelt : characters e ++ rest ≡ 94 ∷ rest = ap (λ (x : Element). characters x ++ rest) is in
    ((94, rest, spelt), ap (word_at c (characters e ++ rest)) (ap (word_of c) spelt ∙ word_found c 94 rest false true (k.operator ∙ o) (ap (λ (t : Bool). t && true) (k.size ∙ s)) ∙ sym (ap head is)))
stands_word c before e rest k (longest_there b bytes o spelt s l) =
    ((b, bytes, spelt), ap (word_at c (characters e ++ rest)) (ap (word_of c) spelt ∙ word_found c b bytes false false (k.operator ∙ o) (ap (λ (t : Bool). t && (b == 94)) k.size ∙ s) ∙ longest_is e rest b bytes l spelt))
stands_word c before e rest k (comment_there o is) =
    let spelt : characters e ++ rest ≡ 59 ∷ rest = ap (λ (x : Element). characters x ++ rest) is in
    ((59, rest, spelt), ap (word_at c (characters e ++ rest)) (ap (word_of c) spelt ∙ word_found c 59 rest false false (k.operator ∙ o) (no_caret (is_size c.before)) ∙ at_comment rest) ∙ sym (ap (λ (x : Element). word_at c (characters e ++ rest) (head x)) is))

-- one element
over : (c : Context) (before : List Part) (at : ℕ) (e : Element) (rest : List ℕ) (w : Word) → Knows c before → StandsAnywhere before e rest → w ≡ word_at c (characters e ++ rest) (head e) → 0 < w.length
    → names_from c at zero (characters e ++ rest) ≡ with_name w at (names_from w.context (at + w.length) zero (drop w.length (characters e ++ rest)))
over c before at e rest w k s is l =
    let there = stands_word c before e rest k s in
    word_step c at (characters e ++ rest) w (omega (arith, ap length there.0.2)) (is ∙ sym there.1) l

some_token : (c : Context) (before : List Part) (kind : TokenKind) (text rest : List ℕ) → StandsAnywhere before (token kind text) rest → 0 < length text
some_token c before kind text rest (letter_there b o is) = let long : length (characters (token kind text)) ≡ 1 = ap (λ (x : Element). length (characters x)) is in omega (arith, long)
some_token c before kind text rest (caret_there o s is) = let long : length (characters (token kind text)) ≡ 1 = ap (λ (x : Element). length (characters x)) is in omega (arith, long)
some_token c before kind text rest (longest_there b bytes o spelt s l) = some_word kind text rest l
  where
    open_word : (kind : TokenKind) (text rest : List ℕ) → IsWord (token kind text) rest → 0 < length text
    open_word kind text rest w = omega (arith, some (token kind text) rest w)

    some_word : (kind : TokenKind) (text rest : List ℕ) → Longest (token kind text) rest → 0 < length text
    some_word kind text rest (longest_word w m) = open_word kind text rest w
    some_word kind text rest (no_word b is n m) = absurd cc
some_token c before kind text rest (comment_there o is) = absurd cc

some_wide : (before : List Part) (text rest : List ℕ) → StandsAnywhere before (wide text) rest → 0 < length text
some_wide before text rest (letter_there b o is) = absurd cc
some_wide before text rest (caret_there o s is) = absurd cc
some_wide before text rest (longest_there b bytes o spelt s l) = some_word text rest l
  where
    some_word : (text rest : List ℕ) → Longest (wide text) rest → 0 < length text
    some_word text rest (longest_word w m) = omega (arith, some (wide text) rest w)
    some_word text rest (no_word b is n m) = absurd cc
some_wide before text rest (comment_there o is) = absurd cc

-- A text that consists of elements has their names.
with_names : (kind : TokenKind) (text : List ℕ) (at : ℕ) (c : Context) (elements : List Element) → with_name (record { length = length text; is_name = is_name kind; context = c }) at (names_at (at + length text) elements) ≡ names_at at (token kind text ∷ elements)
with_names Name text at c elements = refl
with_names (Number n) text at c elements = refl
with_names (Mark m) text at c elements = refl
with_names Text text at c elements = refl

names_are : (c : Context) (before : List Part) (at : ℕ) (elements : List Element) → Knows c before → AreFound before elements → names_from c at zero (written elements) ≡ names_at at elements
unfolding names_from
names_are c before at [] k f = refl
names_are c before at (gap b ∷ elements) k (s, more) =
    over c before at (gap b) (written elements) (record { length = 1; is_name = false; context = context_after_blank c }) k s refl (omega arith)
    ∙ names_are (context_after_blank c) (space ∷ before) (at + 1) elements (knows_blank c before) more
names_are c before at (token kind text ∷ elements) k (s, more) =
    let rest = written elements in
    let next = context_after Vax c kind (take (length text) (text ++ rest)) in
    let same : take (length text) (text ++ rest) ≡ text = take-append_seam text rest in
    let P : List ℕ → Type 0 = λ x. Knows (context_after Vax c kind x) (part_of (token kind text) ∷ before) in
    over c before at (token kind text) rest (record { length = length text; is_name = is_name kind; context = next }) k s refl (some_token c before kind text rest s)
    ∙ ap (λ (x : List ℕ). with_name (record { length = length text; is_name = is_name kind; context = next }) at (names_from next (at + length text) zero x)) (drop-append_seam text rest)
    ∙ ap (λ (x : List Span). with_name (record { length = length text; is_name = is_name kind; context = next }) at x) (names_are next (part_of (token kind text) ∷ before) (at + length text) elements (subst P (sym same) (knows_token c before kind text k)) more)
    ∙ with_names kind text at next elements
names_are c before at (wide text ∷ elements) k (s, more) =
    let rest = written elements in
    let next = context_after Vax c (Number 0) (take (length text) (text ++ rest)) in
    over c before at (wide text) rest (record { length = length text; is_name = false; context = next }) k s refl (some_wide before text rest s)
    ∙ ap (names_from next (at + length text) zero) (drop-append_seam text rest)
    ∙ names_are next (part_of (wide text) ∷ before) (at + length text) elements (record { operator = refl; size = refl }) more
names_are c before at (stray b ∷ elements) k (s, more) =
    over c before at (stray b) (written elements) (record { length = 1; is_name = false; context = context_after Vax c (stray_kind b) (b ∷ []) }) k s refl (omega arith)
    ∙ names_are (context_after Vax c (stray_kind b) (b ∷ [])) (part_of (stray b) ∷ before) (at + 1) elements (knows_stray c before b (b ∷ []) k) more

pub only_names : (text : List ℕ) (names : List Span) → HasNames text names → names ≡ names_of text
unfolding names_of
only_names text names h = sym h.are ∙ sym (names_are text_start [] 0 h.elements (record { operator = refl; size = refl }) h.found) ∙ ap (names_from text_start 0 zero) h.spells

-- Each text consists of elements.
record Split (before : List Part) (bytes : List ℕ) : Type 0 where
  elements : List Element
  spells : written elements ≡ bytes
  found : AreFound before elements

one_more : (before : List Part) (e : Element) (rest bytes : List ℕ) → characters e ++ rest ≡ bytes → StandsAnywhere before e rest → Split (part_of e ∷ before) rest → Split before bytes
one_more before e rest bytes f s r =
    let P : List ℕ → Type 0 = λ x. StandsAnywhere before e x in
    record { elements = e ∷ r.elements; spells = ap (λ (x : List ℕ). characters e ++ x) r.spells ∙ f; found = (subst P (sym r.spells) s, r.found) }

head_stands : (before : List Part) (e : Element) (rest : List ℕ) (b : ℕ) (bytes : List ℕ) (t u : Bool) → characters e ++ rest ≡ b ∷ bytes → behind_operator before ≡ t → (behind_size before && (b == 94)) ≡ u
    → cond t (begins Name 1) (cond u (begins (Mark 94) 1) (plain (b ∷ bytes))) ≡ head e → StandsAnywhere before e rest
head_stands before e rest b bytes true u f o s h = let is = token_only Name e h in letter_there is.0 o is.1
head_stands before e rest b bytes false true f o s h =
    let is = token_only (Mark 94) e h in
    let test : (b == 94) ≡ true = and_second (behind_size before) (b == 94) s in
    let caret : b ≡ 94 = grind (arith, nat_tests) in
    let sign : is.0 ≡ 94 = first_byte e rest bytes b is.0 (Mark 94) f is.1 ∙ caret in
    caret_there o (and_first (behind_size before) (b == 94) s) (is.1 ∙ ap (λ (x : ℕ). token (Mark 94) (x ∷ [])) sign)
head_stands before e rest b bytes false false f o s h = longest_there b bytes o f s (is_longest e rest b bytes f h)

found_as : (c : Context) (before : List Part) (b : ℕ) (bytes : List ℕ) → Knows c before → word_of c (b ∷ bytes) ≡ cond (behind_operator before) (begins Name 1) (cond (behind_size before && (b == 94)) (begins (Mark 94) 1) (plain (b ∷ bytes)))
found_as c before b bytes k = word_found c b bytes (behind_operator before) (behind_size before && (b == 94)) k.operator (ap (λ (t : Bool). t && (b == 94)) k.size)

stands_there : (c : Context) (before : List Part) (e : Element) (rest : List ℕ) (b : ℕ) (bytes : List ℕ) → Knows c before → characters e ++ rest ≡ b ∷ bytes → word_of c (b ∷ bytes) ≡ head e → StandsAnywhere before e rest
stands_there c before e rest b bytes k f h = head_stands before e rest b bytes (behind_operator before) (behind_size before && (b == 94)) f refl refl (sym (found_as c before b bytes k) ∙ h)

comment_stands : (c : Context) (before : List Part) (b : ℕ) (bytes : List ℕ) → Knows c before → word_of c (b ∷ bytes) ≡ no_more → HeadFits (b ∷ bytes) no_more → StandsAnywhere before (stray b) bytes
comment_stands c before b bytes k h f =
    let sign : b ≡ 59 = ⊎_elim (λ (e : length (b ∷ bytes) ≡ 0). absurd (omega (arith, e))) (λ (e : b ≡ 59). e) f in
    comment_there (by_test (behind_operator before) (sym (found_as c before b bytes k) ∙ h)) (ap stray sign)
  where
    by_test : (t : Bool) → cond t (begins Name 1) (cond (behind_size before && (b == 94)) (begins (Mark 94) 1) (plain (b ∷ bytes))) ≡ no_more → t ≡ false
    by_test true e = absurd cc
    by_test false e = refl

by_head : (n : ℕ) (c : Context) (before : List Part) (b : ℕ) (bytes : List ℕ) (h : Head) → length (b ∷ bytes) ≤ suc n → Knows c before → word_of c (b ∷ bytes) ≡ h → HeadFits (b ∷ bytes) h
    → ((d : Context) (next : List Part) (rest : List ℕ) → length rest ≤ n → Knows d next → Split next rest) → Split before (b ∷ bytes)
by_head n c before b bytes blank l k e f more =
    one_more before (gap b) bytes (b ∷ bytes) refl (stands_there c before (gap b) bytes b bytes k refl e) (more (context_after_blank c) (space ∷ before) bytes (omega (arith, l)) (knows_blank c before))
by_head n c before b bytes no_more l k e f more =
    one_more before (stray b) bytes (b ∷ bytes) refl (comment_stands c before b bytes k e f) (more (context_after Vax c (stray_kind b) (b ∷ [])) (part_of (stray b) ∷ before) bytes (omega (arith, l)) (knows_stray c before b (b ∷ []) k))
by_head n c before b bytes (begins kind j) l k e f more =
    let text = take j (b ∷ bytes) in
    let size : length text ≡ j = omega (arith, length-take j (b ∷ bytes), f.1) in
    one_more before (token kind text) (drop j (b ∷ bytes)) (b ∷ bytes) (take-append-drop j (b ∷ bytes)) (stands_there c before (token kind text) (drop j (b ∷ bytes)) b bytes k (take-append-drop j (b ∷ bytes)) (e ∙ ap (begins kind) (sym size)))
    (more (context_after Vax c kind text) (part_of (token kind text) ∷ before) (drop j (b ∷ bytes)) (omega (arith, l, length-drop j (b ∷ bytes), f.0)) (knows_token c before kind text k))
by_head n c before b bytes (too_wide j) l k e f more =
    let text = take j (b ∷ bytes) in
    let size : length text ≡ j = omega (arith, length-take j (b ∷ bytes), f.1) in
    one_more before (wide text) (drop j (b ∷ bytes)) (b ∷ bytes) (take-append-drop j (b ∷ bytes)) (stands_there c before (wide text) (drop j (b ∷ bytes)) b bytes k (take-append-drop j (b ∷ bytes)) (e ∙ ap too_wide (sym size)))
    (more (context_after Vax c (Number 0) text) (part_of (wide text) ∷ before) (drop j (b ∷ bytes)) (omega (arith, l, length-drop j (b ∷ bytes), f.0)) (record { operator = refl; size = refl }))
by_head n c before b bytes no_token l k e f more =
    one_more before (stray b) bytes (b ∷ bytes) refl (stands_there c before (stray b) bytes b bytes k refl e) (more (context_after Vax c (stray_kind b) (b ∷ [])) (part_of (stray b) ∷ before) bytes (omega (arith, l)) (knows_stray c before b (b ∷ []) k))

split : (n : ℕ) (c : Context) (before : List Part) (bytes : List ℕ) → length bytes ≤ n → Knows c before → Split before bytes
split n c before [] l k = record { elements = []; spells = refl; found = tt }
split zero c before (b ∷ bytes) l k = absurd (omega (arith, l))
split (suc n) c before (b ∷ bytes) l k = by_head n c before b bytes (word_of c (b ∷ bytes)) l k refl (word_fits_is c (b ∷ bytes) (word_of c (b ∷ bytes)) refl) (λ d next rest m j. split n d next rest m j)

pub the_names : (text : List ℕ) → HasNames text (names_of text)
unfolding names_of
the_names text =
    let s = split (length text) text_start [] text (omega arith) (record { operator = refl; size = refl }) in
    record { elements = s.elements; spells = s.spells; found = s.found; are = sym (names_are text_start [] 0 s.elements (record { operator = refl; size = refl }) s.found) ∙ ap (names_from text_start 0 zero) s.spells }

-- at an answer
pub names_by : (text : List ℕ) (items : List Span) → items ≡ names_of text → HasNames text items
names_by text items e = let P : List Span → Type 0 = λ ns. HasNames text ns in subst P (sym e) (the_names text)

pub names_only : (text : List ℕ) (items : List Span) → items ≡ names_of text → (names : List Span) → HasNames text names → names ≡ items
names_only text items e names h = only_names text names h ∙ sym e
