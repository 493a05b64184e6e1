-- What the scanner finds is the longest word at its place, or a quoted text, and nothing else is.
use Rattle.std.proofs.Common.{◌≡◌, ◌<◌, ◌≤◌, ℕ, zero, suc, ◌+◌, ◌^◌, Bool, true, false, not, cond, List, [], ◌∷◌, ◌++◌, length, get_or, take, drop, refl, ap, ◌∙◌, arith, sym, subst, inl, inr, ⊎_elim, append_assoc, min}
use Rattle.std.specs.Prelude.{◌⊎◌, ◌==◌, nat_lt, Some, None}
use Rattle.std.specs.List.{prefix_len, list_all}
use Rattle.std.specs.Char.{is_ascii_graphic}
use Rattle.std.proofs.lemmas.List.{length-take, take-append-drop, append-nil, drop_more}
use Rattle.std.proofs.Common.{length-append}
use Rattle.std.proofs.Math.Seq.{take-append_seam}
use Rattle.std.proofs.lemmas.List.Sums.{prefix_len-le-length, prefix_len_stops}
use Rattle.std.proofs.lemmas.Bool.Decides.{nat_tests}
use Rattle.vax_lex.specs.Characters.{is_blank, is_digit, is_name_character, radix_of, number_of}
use Rattle.vax_lex.specs.Tokens.{Head, blank, no_more, begins, too_wide, no_token, plain, numeral, caret, number_head, is_label_number, is_operator_letter, digit_run, HeadFits, quoted, text_head}
use Rattle.vax_lex.specs.Tokens as tokens
use Rattle.vax_lex.specs.Parts.{Element, gap, token, wide, stray, characters}
use Rattle.vax_lex.specs.Vocabulary.{IsName, AreDigits, IsNumber, decimal, based, BeginsOperator, IsWord, Longest, longest_word, no_word, Quoted, quotation, unclosed}
use Rattle.vax_lex.specs.declared.token.TokenKind.{TokenKind}
use Rattle.vax_lex.specs.declared.token.TokenKind.TheVariants.{Name, Number, Mark, Text}
use Rattle.vax_lex.proofs.Heads.{plain_fits}
use Rattle.vax_lex.proofs.Vocabulary.{head, size, bound, some, word_found, run_all, run_ends, all_run}

-- which element has this head
token_of : (kind : TokenKind) (n : ℕ) (e : Element) → begins kind n ≡ head e → (text : List ℕ) × (e ≡ token kind text) × (length text ≡ n)
token_of kind n (gap b) h = absurd cc
token_of kind n (token other text) h = let same : other ≡ kind = cc in (text, ap (λ (k : TokenKind). token k text) same, cc)
token_of kind n (wide text) h = absurd cc
token_of kind n (stray b) h = absurd cc

wide_of : (n : ℕ) (e : Element) → too_wide n ≡ head e → (text : List ℕ) × (e ≡ wide text) × (length text ≡ n)
wide_of n (gap b) h = absurd cc
wide_of n (token other text) h = absurd cc
wide_of n (wide text) h = (text, refl, cc)
wide_of n (stray b) h = absurd cc

gap_of : (e : Element) → blank ≡ head e → (b : ℕ) × (e ≡ gap b)
gap_of (gap b) h = (b, refl)
gap_of (token other text) h = absurd cc
gap_of (wide text) h = absurd cc
gap_of (stray b) h = absurd cc

stray_of : (e : Element) → no_token ≡ head e → (b : ℕ) × (e ≡ stray b)
stray_of (gap b) h = absurd cc
stray_of (token other text) h = absurd cc
stray_of (wide text) h = absurd cc
stray_of (stray b) h = (b, refl)

no_end : (e : Element) → no_more ≡ head e → ⊥
no_end (gap b) h = cc
no_end (token other text) h = cc
no_end (wide text) h = cc
no_end (stray b) h = cc

-- two fronts of one list that are equally long
pub same_front : (a r b s xs : List ℕ) → a ++ r ≡ xs → b ++ s ≡ xs → length a ≡ length b → a ≡ b
same_front a r b s xs e f l = sym (take-append_seam a r) ∙ ap (take (length a)) (e ∙ sym f) ∙ ap (λ (k : ℕ). take k (b ++ s)) l ∙ take-append_seam b s

front_is : (text rest xs : List ℕ) (n : ℕ) → text ++ rest ≡ xs → length text ≡ n → text ≡ take n xs
front_is text rest xs n e l = sym (take-append_seam text rest) ∙ ap (take (length text)) e ∙ ap (λ (k : ℕ). take k xs) l

-- a word, or a byte where none begins
data Found (e : Element) (rest : List ℕ) : Type 0 where
  a_word : IsWord e rest → Found e rest
  none : (b : ℕ) → e ≡ stray b → (b == 59) ≡ false → Found e rest

word_at : (e f : Element) (rest : List ℕ) → e ≡ f → IsWord f rest → Found e rest
word_at e f rest is w = let P : Element → Type 0 = λ x. Found x rest in subst P (sym is) (a_word w)

none_at : (e : Element) (rest bytes : List ℕ) (b : ℕ) → characters e ++ rest ≡ b ∷ bytes → no_token ≡ head e → (b == 59) ≡ false → Found e rest
none_at e rest bytes b f h n =
    let is = stray_of e h in
    let there : is.0 ∷ rest ≡ b ∷ bytes = ap (λ (x : Element). characters x ++ rest) (sym is.1) ∙ f in
    let same : is.0 ≡ b = cc in
    none is.0 is.1 (ap (λ (x : ℕ). x == 59) same ∙ n)

are_digits : (radix k : ℕ) (xs : List ℕ) → 1 ≤ k → k ≤ digit_run radix xs → AreDigits radix (take k xs)
are_digits radix zero xs l m = absurd (omega (arith, l))
are_digits radix (suc k) [] l m = absurd (omega (arith, m))
are_digits radix (suc k) (x ∷ xs) l m = run_all (is_digit radix) (suc k) (x ∷ xs) m

text_in : (e f : Element) (rest xs : List ℕ) → e ≡ f → characters e ++ rest ≡ xs → characters f ++ rest ≡ xs
text_in e f rest xs is g = ap (λ (x : Element). characters x ++ rest) (sym is) ∙ g

-- a number
number_word : (n k : ℕ) (t : Bool) (e : Element) (rest xs : List ℕ) → nat_lt n (2 ^ 64) ≡ t → characters e ++ rest ≡ xs → cond t (begins (Number n) k) (too_wide k) ≡ head e → IsNumber n (take k xs) → Found e rest
number_word n k true e rest xs l f h is =
    let found = token_of (Number n) k e h in
    let text : found.0 ≡ take k xs = front_is found.0 rest xs k (text_in e (token (Number n) found.0) rest xs found.1 f) found.2 in
    let P : List ℕ → Type 0 = λ x. IsNumber n x in
    word_at e (token (Number n) found.0) rest found.1 (subst P (sym text) is, grind (arith, nat_tests))
number_word n k false e rest xs l f h is =
    let found = wide_of k e h in
    let text : found.0 ≡ take k xs = front_is found.0 rest xs k (text_in e (wide found.0) rest xs found.1 f) found.2 in
    let P : List ℕ → Type 0 = λ x. IsNumber n x in
    word_at e (wide found.0) rest found.1 (n, subst P (sym text) is, grind (arith, nat_tests))

label_told : (n : ℕ) (rest : List ℕ) → is_label_number n rest ≡ true → (more : List ℕ) × (rest ≡ 36 ∷ more) × (1 ≤ n) × (n ≤ 65535)
label_told n [] e = absurd cc
label_told n (b ∷ rest) e =
    let dollar : b ≡ 36 = grind (arith, nat_tests) in
    (rest, ap (λ (x : ℕ). x ∷ rest) dollar, grind (arith, nat_tests), grind (arith, nat_tests))

numeral_word : (k : ℕ) (t : Bool) (e : Element) (rest xs : List ℕ) → 1 ≤ k → k ≤ digit_run 10 xs → k ≤ length xs → characters e ++ rest ≡ xs
    → is_label_number (number_of 10 (take k xs)) (drop k xs) ≡ t → cond t (begins Name (k + 1)) (number_head (number_of 10 (take k xs)) k) ≡ head e → Found e rest
numeral_word k true e rest xs l m r f g h =
    let found = token_of Name (k + 1) e h in
    let told = label_told (number_of 10 (take k xs)) (drop k xs) g in
    let split : (take k xs ++ 36 ∷ []) ++ told.0 ≡ xs = append_assoc (take k xs) (36 ∷ []) told.0 ∙ ap (λ (x : List ℕ). take k xs ++ x) (sym told.1) ∙ take-append-drop k xs in
    let long : length found.0 ≡ length (take k xs ++ 36 ∷ []) = omega (arith, found.2, length-append (take k xs) (36 ∷ []), length-take k xs, r) in
    let text : found.0 ≡ take k xs ++ 36 ∷ [] = same_front found.0 rest (take k xs ++ 36 ∷ []) told.0 xs (text_in e (token Name found.0) rest xs found.1 f) split long in
    word_at e (token Name found.0) rest found.1 (inr (record { digits = take k xs; are = are_digits 10 k xs l m; is = text; least = told.2; most = told.3 }))
numeral_word k false e rest xs l m r f g h = number_word (number_of 10 (take k xs)) k (nat_lt (number_of 10 (take k xs)) (2 ^ 64)) e rest xs refl f h (decimal (take k xs) (are_digits 10 k xs l m) refl)

numeral_found : (e : Element) (rest : List ℕ) (b : ℕ) (bytes : List ℕ) → characters e ++ rest ≡ b ∷ bytes → is_digit 10 b ≡ true → numeral (b ∷ bytes) ≡ head e → Found e rest
unfolding numeral
numeral_found e rest b bytes f d h =
    let some_digit : 1 ≤ digit_run 10 (b ∷ bytes) = digit_first (is_digit 10 b) (digit_run 10 bytes) d in
    numeral_word (digit_run 10 (b ∷ bytes)) (is_label_number (number_of 10 (take (digit_run 10 (b ∷ bytes)) (b ∷ bytes))) (drop (digit_run 10 (b ∷ bytes)) (b ∷ bytes))) e rest (b ∷ bytes) some_digit (omega arith) (prefix_len-le-length (is_digit 10) (b ∷ bytes)) f refl h
  where
    digit_first : (t : Bool) (k : ℕ) → t ≡ true → 1 ≤ cond t (1 + k) 0
    digit_first true k e = omega arith
    digit_first false k e = absurd cc

-- what a `^` begins
caret_word : (e : Element) (rest bytes : List ℕ) → characters e ++ rest ≡ 94 ∷ bytes → begins (Mark 94) 1 ≡ head e → BeginsOperator bytes → Found e rest
caret_word e rest bytes f h o =
    let found = token_of (Mark 94) 1 e h in
    let there : found.0 ++ rest ≡ 94 ∷ bytes = text_in e (token (Mark 94) found.0) rest (94 ∷ bytes) found.1 f in
    let text : found.0 ≡ 94 ∷ [] = same_front found.0 rest (94 ∷ []) bytes (94 ∷ bytes) there refl found.2 in
    let all : 94 ∷ rest ≡ 94 ∷ bytes = ap (λ (x : List ℕ). x ++ rest) (sym text) ∙ there in
    let behind : bytes ≡ rest = cc in
    let P : List ℕ → Type 0 = λ x. BeginsOperator x in
    word_at e (token (Mark 94) found.0) rest found.1 (text, record { printable = refl; of_no_name = refl; no_comment = refl; caret = λ _. subst P behind o })

based_word : (t : Bool) (e : Element) (rest : List ℕ) (c : ℕ) (bytes : List ℕ) → characters e ++ rest ≡ 94 ∷ c ∷ bytes → (digit_run (radix_of c) bytes == 0) ≡ t
    → cond t no_token (number_head (number_of (radix_of c) (take (digit_run (radix_of c) bytes) bytes)) (digit_run (radix_of c) bytes + 2)) ≡ head e → Found e rest
based_word true e rest c bytes f z h = none_at e rest (c ∷ bytes) 94 f h refl
based_word false e rest c bytes f z h =
    let some_digits : 1 ≤ digit_run (radix_of c) bytes = grind (arith, nat_tests) in
    let digits = take (digit_run (radix_of c) bytes) bytes in
    let same : suc (suc (digit_run (radix_of c) bytes)) ≡ digit_run (radix_of c) bytes + 2 = omega arith in
    let text : 94 ∷ c ∷ digits ≡ take (digit_run (radix_of c) bytes + 2) (94 ∷ c ∷ bytes) = ap (λ (k : ℕ). take k (94 ∷ c ∷ bytes)) same in
    let P : List ℕ → Type 0 = λ x. IsNumber (number_of (radix_of c) digits) x in
    number_word (number_of (radix_of c) digits) (digit_run (radix_of c) bytes + 2) (nat_lt (number_of (radix_of c) digits) (2 ^ 64)) e rest (94 ∷ c ∷ bytes) refl f h
    (subst P text (based c digits (are_digits (radix_of c) (digit_run (radix_of c) bytes) bytes some_digits (omega arith)) refl))

caret_found : (e : Element) (rest bytes : List ℕ) → characters e ++ rest ≡ 94 ∷ bytes → caret bytes ≡ head e → Found e rest
unfolding tokens.based
caret_found e rest [] f h = none_at e rest [] 94 f h refl
caret_found e rest (c ∷ bytes) f h = by_letter (is_operator_letter c) refl h
  where
    by_letter : (t : Bool) → is_operator_letter c ≡ t → cond t (begins (Mark 94) 1) (tokens.based (radix_of c) bytes) ≡ head e → Found e rest
    by_letter true o g = caret_word e rest (c ∷ bytes) f g o
    by_letter false o g = based_word (digit_run (radix_of c) bytes == 0) e rest c bytes f refl g

-- a name
name_word : (e : Element) (rest : List ℕ) (b : ℕ) (bytes : List ℕ) (n : ℕ) → characters e ++ rest ≡ b ∷ bytes → is_digit 10 b ≡ false → 1 ≤ n → n ≤ 31 → n ≤ prefix_len is_name_character (b ∷ bytes)
    → begins Name n ≡ head e → Found e rest
name_word e rest b bytes zero f d l m r h = absurd (omega (arith, l))
name_word e rest b bytes (suc n) f d l m r h =
    let found = token_of Name (suc n) e h in
    let text : found.0 ≡ take (suc n) (b ∷ bytes) = front_is found.0 rest (b ∷ bytes) (suc n) (text_in e (token Name found.0) rest (b ∷ bytes) found.1 f) found.2 in
    let is : IsName (b ∷ take n bytes) = (d, run_all is_name_character (suc n) (b ∷ bytes) r, omega (arith, ap length text, found.2, m)) in
    let P : List ℕ → Type 0 = λ x. IsName x in
    word_at e (token Name found.0) rest found.1 (inl (subst P (sym text) is))

name_found : (e : Element) (rest : List ℕ) (b : ℕ) (bytes : List ℕ) → characters e ++ rest ≡ b ∷ bytes → is_digit 10 b ≡ false → is_name_character b ≡ true
    → begins Name (min 31 (prefix_len is_name_character (b ∷ bytes))) ≡ head e → Found e rest
name_found e rest b bytes f d n h =
    let some_name : 1 ≤ prefix_len is_name_character (b ∷ bytes) = first (is_name_character b) (prefix_len is_name_character bytes) n in
    name_word e rest b bytes (min 31 (prefix_len is_name_character (b ∷ bytes))) f d (omega (arith, some_name)) (omega arith) (omega arith) h
  where
    first : (t : Bool) (k : ℕ) → t ≡ true → 1 ≤ cond t (1 + k) 0
    first true k e = omega arith
    first false k e = absurd cc

-- a mark
mark_found : (e : Element) (rest : List ℕ) (b : ℕ) (bytes : List ℕ) → characters e ++ rest ≡ b ∷ bytes → (b == 59) ≡ false → is_name_character b ≡ false → (b == 94) ≡ false → is_ascii_graphic b ≡ true
    → begins (Mark b) 1 ≡ head e → Found e rest
mark_found e rest b bytes f n m c g h =
    let found = token_of (Mark b) 1 e h in
    let text : found.0 ≡ b ∷ [] = same_front found.0 rest (b ∷ []) bytes (b ∷ bytes) (text_in e (token (Mark b) found.0) rest (b ∷ bytes) found.1 f) refl found.2 in
    word_at e (token (Mark b) found.0) rest found.1 (text, record { printable = g; of_no_name = m; no_comment = n; caret = λ i. absurd cc })

gap_found : (e : Element) (rest : List ℕ) (b : ℕ) (bytes : List ℕ) → characters e ++ rest ≡ b ∷ bytes → is_blank b ≡ true → blank ≡ head e → Found e rest
gap_found e rest b bytes f s h =
    let is = gap_of e h in
    let there : is.0 ∷ rest ≡ b ∷ bytes = text_in e (gap is.0) rest (b ∷ bytes) is.1 f in
    let same : is.0 ≡ b = cc in
    word_at e (gap is.0) rest is.1 (ap is_blank same ∙ s)

found : (e : Element) (rest : List ℕ) (b : ℕ) (bytes : List ℕ) → characters e ++ rest ≡ b ∷ bytes → plain (b ∷ bytes) ≡ head e → Found e rest
unfolding plain
found e rest b bytes f h = by_tests (is_blank b) (b == 59) (is_digit 10 b) (is_name_character b) (b == 94) (is_ascii_graphic b) refl refl refl refl refl refl h
  where
    by_tests : (s t u v w x : Bool) → is_blank b ≡ s → (b == 59) ≡ t → is_digit 10 b ≡ u → is_name_character b ≡ v → (b == 94) ≡ w → is_ascii_graphic b ≡ x
        → cond s blank (cond t no_more (cond u (numeral (b ∷ bytes)) (cond v (begins Name (min 31 (prefix_len is_name_character (b ∷ bytes)))) (cond w (caret bytes) (cond x (begins (Mark b) 1) no_token))))) ≡ head e → Found e rest
    by_tests true t u v w x i j k l m n g = gap_found e rest b bytes f i g
    by_tests false true u v w x i j k l m n g = absurd (no_end e g)
    by_tests false false true v w x i j k l m n g = numeral_found e rest b bytes f k g
    by_tests false false false true w x i j k l m n g = name_found e rest b bytes f k l g
    by_tests false false false false true x i j k l m n g =
        let same : b ≡ 94 = grind (arith, nat_tests) in
        caret_found e rest bytes (f ∙ ap (λ (y : ℕ). y ∷ bytes) same) g
    by_tests false false false false false true i j k l m n g = mark_found e rest b bytes f j l m n g
    by_tests false false false false false false i j k l m n g = none_at e rest bytes b f g j

-- how long a word's head says that it is
word_size : (e : Element) (rest : List ℕ) → IsWord e rest → size (head e) ≡ length (characters e)
word_size (gap b) rest w = refl
word_size (token kind text) rest w = refl
word_size (wide text) rest w = refl
word_size (stray b) rest w = absurd w

pub is_longest : (e : Element) (rest : List ℕ) (b : ℕ) (bytes : List ℕ) → characters e ++ rest ≡ b ∷ bytes → plain (b ∷ bytes) ≡ head e → Longest e rest
is_longest e rest b bytes f h = by_found (found e rest b bytes f h)
  where
    by_found : Found e rest → Longest e rest
    by_found (a_word w) = longest_word w (λ g more v same. omega (arith, bound g more v, ap (λ (x : List ℕ). size (plain x)) (same ∙ f), ap size h, word_size e rest w))
    by_found (none x is n) = no_word x is n (λ g more v same.
        let there : x ∷ rest ≡ b ∷ bytes = text_in e (stray x) rest (b ∷ bytes) is f in
        let nothing : size (head e) ≡ 0 = ap (λ (y : Element). size (head y)) is in
        omega (arith, bound g more v, some g more v, ap (λ (y : List ℕ). size (plain y)) (same ∙ there), ap size h, nothing))

-- what the scanner finds at a place, as an element
record Candidate (b : ℕ) (bytes : List ℕ) : Type 0 where
  e : Element
  rest : List ℕ
  spells : characters e ++ rest ≡ b ∷ bytes
  found : plain (b ∷ bytes) ≡ head e

candidate : (b : ℕ) (bytes : List ℕ) (h : Head) → plain (b ∷ bytes) ≡ h → HeadFits (b ∷ bytes) h → Candidate b bytes ⊎ ((b ≡ 59) × (h ≡ no_more))
candidate b bytes blank g f = inl (record { e = gap b; rest = bytes; spells = refl; found = g })
candidate b bytes no_more g f = inr (⊎_elim (λ (e : length (b ∷ bytes) ≡ 0). absurd (omega (arith, e))) (λ (e : b ≡ 59). e) f, refl)
candidate b bytes (begins kind k) g f = inl (record { e = token kind (take k (b ∷ bytes)); rest = drop k (b ∷ bytes); spells = take-append-drop k (b ∷ bytes); found = g ∙ ap (begins kind) (omega (arith, length-take k (b ∷ bytes), f.1)) })
candidate b bytes (too_wide k) g f = inl (record { e = wide (take k (b ∷ bytes)); rest = drop k (b ∷ bytes); spells = take-append-drop k (b ∷ bytes); found = g ∙ ap too_wide (omega (arith, length-take k (b ∷ bytes), f.1)) })
candidate b bytes no_token g f = inl (record { e = stray b; rest = bytes; spells = refl; found = g })

at_comment : (e : Element) (rest : List ℕ) (b : ℕ) (bytes : List ℕ) → Longest e rest → characters e ++ rest ≡ b ∷ bytes → b ≡ 59 → plain (b ∷ bytes) ≡ no_more → ⊥
at_comment e rest b bytes (longest_word w m) f s h = omega (arith, bound e rest w, some e rest w, ap (λ (x : List ℕ). size (plain x)) f, ap size h)
at_comment e rest b bytes (no_word x is n m) f s h =
    let there : x ∷ rest ≡ b ∷ bytes = text_in e (stray x) rest (b ∷ bytes) is f in
    let same : x ≡ b = cc in
    let sign : (59 == 59) ≡ false = ap (λ (y : ℕ). y == 59) (sym s ∙ sym same) ∙ n in
    cc

by_candidate : (e : Element) (rest : List ℕ) (b : ℕ) (bytes : List ℕ) → Longest e rest → characters e ++ rest ≡ b ∷ bytes → (c : Candidate b bytes) → Found c.e c.rest → plain (b ∷ bytes) ≡ head e
by_candidate e rest b bytes (longest_word w m) f c (a_word v) =
    let longer = m c.e c.rest v (c.spells ∙ sym f) in
    let long : length (characters e) ≡ size (plain (characters e ++ rest)) = omega (arith, longer, bound e rest w, ap (λ (x : List ℕ). size (plain x)) f, ap size c.found, word_size c.e c.rest v) in
    ap plain (sym f) ∙ word_found e rest w long
by_candidate e rest b bytes (longest_word w m) f c (none x is n) =
    absurd (omega (arith, bound e rest w, some e rest w, ap (λ (y : List ℕ). size (plain y)) f, ap size c.found, ap (λ (y : Element). size (head y)) is))
by_candidate e rest b bytes (no_word x is n m) f c (a_word v) = absurd (m c.e c.rest v (c.spells ∙ sym f ∙ ap (λ (y : Element). characters y ++ rest) is))
by_candidate e rest b bytes (no_word x is n m) f c (none y js o) = c.found ∙ ap head js ∙ sym (ap head is)

pub longest_is : (e : Element) (rest : List ℕ) (b : ℕ) (bytes : List ℕ) → Longest e rest → characters e ++ rest ≡ b ∷ bytes → plain (b ∷ bytes) ≡ head e
longest_is e rest b bytes l f = ⊎_elim
    (λ (c : Candidate b bytes). by_candidate e rest b bytes l f c (found c.e c.rest b bytes c.spells c.found))
    (λ (c : (b ≡ 59) × (plain (b ∷ bytes) ≡ no_more)). absurd (at_comment e rest b bytes l f c.0 c.1))
    (candidate b bytes (plain (b ∷ bytes)) refl (plain_fits (b ∷ bytes)))

-- quoted texts
is_other : ℕ → ℕ → Bool
is_other delimiter b = not (b == delimiter)

itself : (d : ℕ) → (d == d) ≡ true
itself d = grind (arith, nat_tests)

take_all : (xs : List ℕ) → take (length xs) xs ≡ xs
take_all xs = ap (take (length xs)) (sym (append-nil xs)) ∙ take-append_seam xs []

not_false : (t : Bool) → not t ≡ false → t ≡ true
not_false true e = refl
not_false false e = absurd cc

quoted_found : (t : Bool) (d : ℕ) (e : Element) (rest bytes : List ℕ) (k : ℕ) → characters e ++ rest ≡ d ∷ bytes → prefix_len (λ b. not (b == d)) bytes ≡ k → nat_lt k (length bytes) ≡ t
    → text_head (cond t (Some k) None) ≡ head e → Quoted d e rest
quoted_found true d e rest bytes k f r l h =
    let text = token_of Text (k + 2) e h in
    let room : k < length bytes = grind (arith, nat_tests) in
    let stops : (get_or bytes k 0 == d) ≡ true = not_false _ (ap (λ (j : ℕ). not (get_or bytes j 0 == d)) (sym r) ∙ prefix_len_stops (λ b. not (b == d)) bytes 0 (omega (arith, r, room))) in
    let here : get_or bytes k 0 ≡ d = grind (arith, nat_tests) in
    let split : take k bytes ++ d ∷ drop (k + 1) bytes ≡ bytes = ap (λ (x : ℕ). take k bytes ++ x ∷ drop (k + 1) bytes) (sym here) ∙ ap (λ (x : List ℕ). take k bytes ++ x) (sym (drop_more bytes k 0 room)) ∙ take-append-drop k bytes in
    let whole : (d ∷ take k bytes ++ d ∷ []) ++ drop (k + 1) bytes ≡ d ∷ bytes = ap (λ (x : List ℕ). d ∷ x) (append_assoc (take k bytes) (d ∷ []) (drop (k + 1) bytes) ∙ split) in
    let long : length text.0 ≡ length (d ∷ take k bytes ++ d ∷ []) = omega (arith, text.2, length-append (take k bytes) (d ∷ []), length-take k bytes, room) in
    let is : text.0 ≡ d ∷ take k bytes ++ d ∷ [] = same_front text.0 rest (d ∷ take k bytes ++ d ∷ []) (drop (k + 1) bytes) (d ∷ bytes) (text_in e (token Text text.0) rest (d ∷ bytes) text.1 f) whole long in
    quotation (take k bytes) (run_all (λ b. not (b == d)) k bytes (omega (arith, r))) (text.1 ∙ ap (token Text) is)
quoted_found false d e rest bytes k f r l h =
    let is = stray_of e h in
    let there : is.0 ∷ rest ≡ d ∷ bytes = text_in e (stray is.0) rest (d ∷ bytes) is.1 f in
    let same : is.0 ≡ d = cc in
    let behind : rest ≡ bytes = cc in
    let long : length bytes ≤ k = grind (arith, nat_tests) in
    let all : list_all (λ b. not (b == d)) (take (length bytes) bytes) ≡ true = run_all (λ b. not (b == d)) (length bytes) bytes (omega (arith, r, long)) in
    unclosed (ap (list_all (λ b. not (b == d))) (behind ∙ sym (take_all bytes)) ∙ all) (is.1 ∙ ap stray same)

pub is_quoted : (d : ℕ) (e : Element) (rest bytes : List ℕ) → characters e ++ rest ≡ d ∷ bytes → quoted d bytes ≡ head e → Quoted d e rest
unfolding quoted
is_quoted d e rest bytes f h = quoted_found (nat_lt (prefix_len (λ b. not (b == d)) bytes) (length bytes)) d e rest bytes (prefix_len (λ b. not (b == d)) bytes) f refl refl h

quoted_at : (d : ℕ) (bytes : List ℕ) (k : ℕ) (t : Bool) → prefix_len (λ b. not (b == d)) bytes ≡ k → nat_lt k (length bytes) ≡ t → quoted d bytes ≡ text_head (cond t (Some k) None)
unfolding quoted
quoted_at d bytes k t e f = ap (λ (j : ℕ). text_head (cond (nat_lt j (length bytes)) (Some j) None)) e ∙ ap (λ (x : Bool). text_head (cond x (Some k) None)) f

pub quoted_is : (d : ℕ) (e : Element) (rest bytes : List ℕ) → Quoted d e rest → characters e ++ rest ≡ d ∷ bytes → quoted d bytes ≡ head e
quoted_is d e rest bytes (quotation inner all is) f =
    let there : (d ∷ inner ++ d ∷ []) ++ rest ≡ d ∷ bytes = text_in e (token Text (d ∷ inner ++ d ∷ [])) rest (d ∷ bytes) is f in
    let tail : (inner ++ d ∷ []) ++ rest ≡ bytes = cc in
    let split : inner ++ d ∷ rest ≡ bytes = sym (append_assoc inner (d ∷ []) rest) ∙ tail in
    let run : prefix_len (λ b. not (b == d)) bytes ≡ length inner = ap (prefix_len (λ b. not (b == d))) (sym split) ∙ run_ends (λ b. not (b == d)) inner d rest all (ap not (itself d)) in
    let long : length inner + 1 ≤ length bytes = omega (arith, ap length split, length-append inner (d ∷ rest)) in
    let room : nat_lt (length inner) (length bytes) ≡ true = grind (arith, nat_tests) in
    quoted_at d bytes (length inner) true run room ∙ ap (begins Text) (omega (arith, length-append inner (d ∷ []))) ∙ sym (ap head is)
quoted_is d e rest bytes (unclosed all is) f =
    let there : d ∷ rest ≡ d ∷ bytes = text_in e (stray d) rest (d ∷ bytes) is f in
    let behind : rest ≡ bytes = cc in
    let full : length bytes ≤ prefix_len (λ b. not (b == d)) bytes =
    omega (arith, all_run (λ b. not (b == d)) bytes [] (ap (list_all (λ b. not (b == d))) (sym behind) ∙ all), ap (prefix_len (λ b. not (b == d))) (append-nil bytes)) in
    let run : prefix_len (λ b. not (b == d)) bytes ≡ length bytes = omega (arith, full, prefix_len-le-length (λ b. not (b == d)) bytes) in
    let room : nat_lt (length bytes) (length bytes) ≡ false = grind (arith, nat_tests) in
    quoted_at d bytes (length bytes) false run room ∙ sym (ap head is)
