-- What begins at a place of a line lies within the line.
use Rattle.std.proofs.Common.{◌≡◌, ◌<◌, ◌≤◌, ◌^◌, ℕ, ◌+◌, Bool, true, false, cond, min, List, [], ◌∷◌, length, get_or, take, drop, Option, Some, None, refl, ap, arith, ◌∙◌, sym, subst, inl, inr}
use Rattle.std.specs.Prelude.{◌&&◌, ◌==◌, nat_lt, position}
use Rattle.std.specs.List.{prefix_len}
use Rattle.std.specs.Char.{is_ascii_graphic}
use Rattle.std.proofs.lemmas.List.{length-take, length-drop, get_or-drop}
use Rattle.std.proofs.lemmas.List.Sums.{prefix_len-le-length}
use Rattle.std.proofs.lemmas.Bool.Decides.{nat_tests}
use Rattle.vax_lex.specs.Characters.{is_blank, is_digit, is_name_character, radix_of, number_of}
use Rattle.vax_lex.specs.Statements.{Context, text_due, is_caret, is_size}
use Rattle.vax_lex.specs.Tokens.{Head, begins, too_wide, HeadFits, head_of, plain, caret, based, numeral, quoted, text_head, number_head, digit_run, is_label_number, is_operator_letter}
use Rattle.vax_lex.specs.declared.token.TokenKind.TheVariants.{Name, Number, Mark}
use Rattle.vax_lex.specs.Words.{word_of}
use Rattle.vax_lex.proofs.Canonical.{name_short, label_short}

fits_if : (bytes : List ℕ) (t : Bool) (x y : Head) → (t ≡ true → HeadFits bytes x) → (t ≡ false → HeadFits bytes y) → HeadFits bytes (cond t x y)
fits_if bytes true x y f g = f refl
fits_if bytes false x y f g = g refl

number_fits : (bytes : List ℕ) (number n : ℕ) → 0 < n → n ≤ length bytes → HeadFits bytes (number_head number n)
number_fits bytes number n some within = fits_if bytes (nat_lt number (2 ^ 64)) (begins (Number number) n) (too_wide n) (λ _. (some, within, tt)) (λ _. (some, within))

-- a `$` behind digits that write a small number
label_facts : (number : ℕ) (rest : List ℕ) → is_label_number number rest ≡ true → (0 < length rest) × (get_or rest 0 0 ≡ 36) × (number ≤ 65535)
label_facts number [] e = cc
label_facts number (b ∷ rest) e = grind (arith, nat_tests)

numeral_fits : (bytes : List ℕ) → 0 < digit_run 10 bytes → HeadFits bytes (numeral bytes)
unfolding numeral
numeral_fits bytes some = fits_if bytes (is_label_number (number_of 10 (take (digit_run 10 bytes) bytes)) (drop (digit_run 10 bytes) bytes)) _ _
    (λ e. let facts : (0 < length (drop (digit_run 10 bytes) bytes)) × (get_or (drop (digit_run 10 bytes) bytes) 0 0 ≡ 36) × (number_of 10 (take (digit_run 10 bytes) bytes) ≤ 65535) = label_facts _ _ e in
    let room : digit_run 10 bytes < length bytes = omega (arith, length-drop (digit_run 10 bytes) bytes, facts.0) in
    let dollar : get_or bytes (digit_run 10 bytes) 0 ≡ 36 = sym (get_or-drop (digit_run 10 bytes) bytes 0 0 ∙ ap (λ (k : ℕ). get_or bytes k 0) (omega arith)) ∙ facts.1 in
    (omega arith, omega arith, label_short bytes (digit_run 10 bytes) room dollar facts.2))
    (λ _. number_fits bytes _ (digit_run 10 bytes) some (prefix_len-le-length (is_digit 10) bytes))

based_fits : (b c radix : ℕ) (bytes : List ℕ) → HeadFits (b ∷ c ∷ bytes) (based radix bytes)
unfolding based
based_fits b c radix bytes = fits_if (b ∷ c ∷ bytes) (digit_run radix bytes == 0) _ _ (λ _. omega arith)
    (λ _. number_fits (b ∷ c ∷ bytes) _ (digit_run radix bytes + 2) (omega arith) (omega (arith, prefix_len-le-length (is_digit radix) bytes)))

caret_fits : (b : ℕ) (bytes : List ℕ) → HeadFits (b ∷ bytes) (caret bytes)
caret_fits b [] = omega arith
caret_fits b (c ∷ bytes) = fits_if (b ∷ c ∷ bytes) (is_operator_letter c) _ _ (λ _. (omega arith, omega arith, tt)) (λ _. based_fits b c (radix_of c) bytes)

text_fits : (b : ℕ) (bytes : List ℕ) (o : Option ℕ) → ((k : ℕ) → o ≡ Some k → k < length bytes) → HeadFits (b ∷ bytes) (text_head o)
text_fits b bytes None f = omega arith
text_fits b bytes (Some k) f =
    let lt : k < length bytes = f k refl in
    (omega arith, omega arith, omega (arith, length-take (k + 2) (b ∷ bytes)))

found_within : (i n k : ℕ) → cond (nat_lt i n) (Some i) None ≡ Some k → k < n
found_within i n k e = grind (arith, nat_tests)

quoted_fits : (b : ℕ) (bytes : List ℕ) → HeadFits (b ∷ bytes) (quoted b bytes)
unfolding quoted
quoted_fits b bytes = text_fits b bytes (position (λ k. k == b) bytes) (λ k e. found_within _ _ k e)

-- the first byte passes, so at least one does
some_pass : (p : ℕ → Bool) (b : ℕ) (bytes : List ℕ) → p b ≡ true → 0 < prefix_len p (b ∷ bytes)
some_pass p b bytes e = rw e (omega arith)

cut_fits : (b : ℕ) (bytes : List ℕ) → is_name_character b ≡ true → HeadFits (b ∷ bytes) (begins Name (min 31 (prefix_len is_name_character (b ∷ bytes))))
cut_fits b bytes e =
    let some : 0 < prefix_len is_name_character (b ∷ bytes) = some_pass is_name_character b bytes e in
    let most : prefix_len is_name_character (b ∷ bytes) ≤ length (b ∷ bytes) = prefix_len-le-length is_name_character (b ∷ bytes) in
    (omega arith, omega arith, name_short (b ∷ bytes) (min 31 (prefix_len is_name_character (b ∷ bytes))) (omega arith))

pub plain_fits : (bytes : List ℕ) → HeadFits bytes (plain bytes)
unfolding plain
plain_fits [] = inl refl
plain_fits (b ∷ bytes) =
    let mark : HeadFits (b ∷ bytes) (begins (Mark b) 1) = (omega arith, omega arith, tt) in
    fits_if (b ∷ bytes) (is_blank b) _ _ (λ e. (omega arith, e)) (λ _.
    fits_if (b ∷ bytes) (b == 59) _ _ (λ e. inr (grind (arith, nat_tests))) (λ _.
    fits_if (b ∷ bytes) (is_digit 10 b) _ _ (λ e. numeral_fits (b ∷ bytes) (some_pass (is_digit 10) b bytes e)) (λ _.
    fits_if (b ∷ bytes) (is_name_character b) _ _ (λ e. cut_fits b bytes e) (λ _.
    fits_if (b ∷ bytes) (b == 94) _ _ (λ _. caret_fits b bytes) (λ _.
    fits_if (b ∷ bytes) (is_ascii_graphic b) _ _ (λ _. mark) (λ _. omega arith))))))

pub head_fits : (c : Context) (bytes : List ℕ) → HeadFits bytes (head_of c bytes)
unfolding head_of
head_fits c [] = inl refl
head_fits c (b ∷ bytes) =
    let name : HeadFits (b ∷ bytes) (begins Name 1) = (omega arith, omega arith, name_short (b ∷ bytes) 1 (omega arith)) in
    let mark : HeadFits (b ∷ bytes) (begins (Mark 94) 1) = (omega arith, omega arith, tt) in
    fits_if (b ∷ bytes) (is_caret c.before) _ _ (λ _. name) (λ _.
    fits_if (b ∷ bytes) (text_due c b) _ _ (λ _. quoted_fits b bytes) (λ _.
    fits_if (b ∷ bytes) (is_size c.before && (b == 94)) _ _ (λ _. mark) (λ _. plain_fits (b ∷ bytes))))

-- what a text begins with lies within the text
word_fits : (c : Context) (bytes : List ℕ) → HeadFits bytes (word_of c bytes)
unfolding word_of
word_fits c [] = inl refl
word_fits c (b ∷ bytes) =
    let name : HeadFits (b ∷ bytes) (begins Name 1) = (omega arith, omega arith, name_short (b ∷ bytes) 1 (omega arith)) in
    let mark : HeadFits (b ∷ bytes) (begins (Mark 94) 1) = (omega arith, omega arith, tt) in
    fits_if (b ∷ bytes) (is_caret c.before) _ _ (λ _. name) (λ _.
    fits_if (b ∷ bytes) (is_size c.before && (b == 94)) _ _ (λ _. mark) (λ _. plain_fits (b ∷ bytes)))

pub word_fits_is : (c : Context) (bytes : List ℕ) (h : Head) → h ≡ word_of c bytes → HeadFits bytes h
word_fits_is c bytes h e = let P : Head → Type 0 = λ x. HeadFits bytes x in subst P (sym e) (word_fits c bytes)
