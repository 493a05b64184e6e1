-- The scanner finds the longest word at a place.
use Rattle.std.proofs.Common.{◌≡◌, ◌<◌, ◌≤◌, ℕ, zero, suc, ◌+◌, ◌^◌, Bool, true, false, cond, List, [], ◌∷◌, ◌++◌, length, take, drop, refl, ap, ◌∙◌, arith, sym, ⊎_elim, append_assoc, min}
use Rattle.std.specs.Prelude.{◌&&◌, ◌||◌, ◌==◌, nat_lt}
use Rattle.std.specs.List.{prefix_len, list_all}
use Rattle.std.specs.Char.{is_ascii_graphic, digit_value, to_ascii_uppercase}
use Rattle.std.proofs.Common.{length-append}
use Rattle.std.proofs.Math.Seq.{take-append_seam, drop-append_seam}
use Rattle.std.proofs.lemmas.Bool.Decides.{nat_tests}
use Rattle.vax_lex.specs.Characters.{is_blank, is_digit, is_name_character, radix_of, number_of}
use Rattle.vax_lex.specs.Tokens.{Head, blank, no_more, begins, too_wide, no_token, plain, numeral, caret, number_head, is_label_number, is_operator_letter, digit_run}
use Rattle.vax_lex.specs.Tokens as tokens
use Rattle.vax_lex.specs.Parts.{Element, gap, token, wide, stray, characters}
use Rattle.vax_lex.specs.Vocabulary.{IsName, AreDigits, IsLocalLabel, IsNumber, decimal, based, BeginsOperator, IsMark, IsWord}
use Rattle.vax_lex.specs.declared.token.TokenKind.TheVariants.{Name, Number, Mark, Text}

-- what the scanner finds where this element stands
abbrev pub head : Element → Head
head (gap b) = blank
head (token kind text) = begins kind (length text)
head (wide text) = too_wide (length text)
head (stray b) = no_token

-- runs
and_left : (s t : Bool) → (s && t) ≡ true → s ≡ true
and_left true t e = refl
and_left false t e = absurd cc

and_right : (s t : Bool) → (s && t) ≡ true → t ≡ true
and_right true t e = e
and_right false t e = absurd cc

and_both : (s t : Bool) → s ≡ true → t ≡ true → (s && t) ≡ true
and_both true t e f = f
and_both false t e f = absurd cc

longer_run : (t : Bool) (n k : ℕ) → t ≡ true → n ≤ k → n + 1 ≤ cond t (1 + k) 0
longer_run true n k e l = omega arith
longer_run false n k e l = absurd cc

pub all_run : (p : ℕ → Bool) (front rest : List ℕ) → list_all p front ≡ true → length front ≤ prefix_len p (front ++ rest)
all_run p [] rest e = omega arith
all_run p (x ∷ front) rest e =
    let more = all_run p front rest (and_right (p x) (list_all p front) e) in
    let here = longer_run (p x) (length front) (prefix_len p (front ++ rest)) (and_left (p x) (list_all p front) e) more in
    omega (arith, here)

exact_run : (t : Bool) (n k : ℕ) → t ≡ true → k ≡ n → cond t (1 + k) 0 ≡ suc n
exact_run true n k e l = omega (arith, l)
exact_run false n k e l = absurd cc

pub run_ends : (p : ℕ → Bool) (front : List ℕ) (x : ℕ) (rest : List ℕ) → list_all p front ≡ true → p x ≡ false → prefix_len p (front ++ x ∷ rest) ≡ length front
run_ends p [] x rest e f = ap (λ (t : Bool). cond t (1 + prefix_len p rest) 0) f
run_ends p (y ∷ front) x rest e f = exact_run (p y) (length front) _ (and_left (p y) (list_all p front) e) (run_ends p front x rest (and_right (p y) (list_all p front) e) f)

shorter_run : (t : Bool) (n k : ℕ) → suc n ≤ cond t (1 + k) 0 → (t ≡ true) × (n ≤ k)
shorter_run true n k l = (refl, omega (arith, l))
shorter_run false n k l = absurd (omega (arith, l))

pub run_all : (p : ℕ → Bool) (n : ℕ) (xs : List ℕ) → n ≤ prefix_len p xs → list_all p (take n xs) ≡ true
run_all p zero xs l = refl
run_all p (suc n) [] l = absurd (omega (arith, l))
run_all p (suc n) (x ∷ xs) l =
    let less = shorter_run (p x) n (prefix_len p xs) l in
    and_both (p x) (list_all p (take n xs)) less.0 (run_all p n xs less.1)

-- how long what is found is
abbrev pub size : Head → ℕ
size blank = 1
size no_more = 0
size (begins kind n) = n
size (too_wide n) = n
size no_token = 0

bound_if : (t : Bool) (x y : Head) (k : ℕ) → k ≤ size x → k ≤ size y → k ≤ size (cond t x y)
bound_if true x y k f g = f
bound_if false x y k f g = g

-- what is found, by its tests
plain_is : (b : ℕ) (bytes : List ℕ) (s t u v w x : Bool) → is_blank b ≡ s → (b == 59) ≡ t → is_digit 10 b ≡ u → is_name_character b ≡ v → (b == 94) ≡ w → is_ascii_graphic b ≡ x
    → plain (b ∷ bytes) ≡ cond s blank (cond t no_more (cond u (numeral (b ∷ bytes)) (cond v (begins Name (min 31 (prefix_len is_name_character (b ∷ bytes)))) (cond w (caret bytes) (cond x (begins (Mark b) 1) no_token)))))
unfolding plain
plain_is b bytes s t u v w x e f g h i j =
    ap (λ (a : Bool). cond a blank (cond (b == 59) no_more (cond (is_digit 10 b) (numeral (b ∷ bytes)) (cond (is_name_character b) (begins Name (min 31 (prefix_len is_name_character (b ∷ bytes)))) (cond (b == 94) (caret bytes) (cond (is_ascii_graphic b) (begins (Mark b) 1) no_token)))))) e
    ∙ ap (λ (a : Bool). cond s blank (cond a no_more (cond (is_digit 10 b) (numeral (b ∷ bytes)) (cond (is_name_character b) (begins Name (min 31 (prefix_len is_name_character (b ∷ bytes)))) (cond (b == 94) (caret bytes) (cond (is_ascii_graphic b) (begins (Mark b) 1) no_token)))))) f
    ∙ ap (λ (a : Bool). cond s blank (cond t no_more (cond a (numeral (b ∷ bytes)) (cond (is_name_character b) (begins Name (min 31 (prefix_len is_name_character (b ∷ bytes)))) (cond (b == 94) (caret bytes) (cond (is_ascii_graphic b) (begins (Mark b) 1) no_token)))))) g
    ∙ ap (λ (a : Bool). cond s blank (cond t no_more (cond u (numeral (b ∷ bytes)) (cond a (begins Name (min 31 (prefix_len is_name_character (b ∷ bytes)))) (cond (b == 94) (caret bytes) (cond (is_ascii_graphic b) (begins (Mark b) 1) no_token)))))) h
    ∙ ap (λ (a : Bool). cond s blank (cond t no_more (cond u (numeral (b ∷ bytes)) (cond v (begins Name (min 31 (prefix_len is_name_character (b ∷ bytes)))) (cond a (caret bytes) (cond (is_ascii_graphic b) (begins (Mark b) 1) no_token)))))) i
    ∙ ap (λ (a : Bool). cond s blank (cond t no_more (cond u (numeral (b ∷ bytes)) (cond v (begins Name (min 31 (prefix_len is_name_character (b ∷ bytes)))) (cond w (caret bytes) (cond a (begins (Mark b) 1) no_token)))))) j

-- the classes of characters
digit_facts : (b : ℕ) → is_digit 10 b ≡ true → (48 ≤ b) × (b ≤ 57)
digit_facts b e = grind (arith, nat_tests)

name_facts : (b : ℕ) → is_name_character b ≡ true → (is_blank b ≡ false) × ((b == 59) ≡ false)
name_facts b e = grind (arith, nat_tests)

digit_named : (b : ℕ) → is_digit 10 b ≡ true → is_name_character b ≡ true
digit_named b e = let f : (48 ≤ b) × (b ≤ 57) = digit_facts b e in grind (arith, nat_tests)

graphic_facts : (b : ℕ) → is_ascii_graphic b ≡ true → is_blank b ≡ false
graphic_facts b e = grind (arith, nat_tests)

no_digit : (b : ℕ) → is_name_character b ≡ false → is_digit 10 b ≡ false
no_digit b e = by_test (is_digit 10 b) refl
  where
    by_test : (t : Bool) → is_digit 10 b ≡ t → t ≡ false
    by_test true f = absurd (let g : is_name_character b ≡ true = digit_named b f in cc)
    by_test false f = refl

-- what is found at each sort of word
pub at_gap : (b : ℕ) (rest : List ℕ) → is_blank b ≡ true → plain (b ∷ rest) ≡ blank
at_gap b rest e = plain_is b rest true _ _ _ _ _ e refl refl refl refl refl

pub at_name : (b : ℕ) (rest : List ℕ) → is_name_character b ≡ true → is_digit 10 b ≡ false → plain (b ∷ rest) ≡ begins Name (min 31 (prefix_len is_name_character (b ∷ rest)))
at_name b rest n d = let f = name_facts b n in plain_is b rest false false false true _ _ f.0 f.1 d n refl refl

pub at_digit : (b : ℕ) (rest : List ℕ) → is_digit 10 b ≡ true → plain (b ∷ rest) ≡ numeral (b ∷ rest)
at_digit b rest d = let f = name_facts b (digit_named b d) in plain_is b rest false false true _ _ _ f.0 f.1 d refl refl refl

pub at_caret : (bytes : List ℕ) → plain (94 ∷ bytes) ≡ caret bytes
unfolding plain
at_caret bytes = refl

operator_caret : (rest : List ℕ) → BeginsOperator rest → caret rest ≡ begins (Mark 94) 1
operator_caret [] o = absurd o
operator_caret (b ∷ bytes) o = ap (λ (t : Bool). cond t (begins (Mark 94) 1) (tokens.based (radix_of b) bytes)) o

pub at_mark : (m : ℕ) (rest : List ℕ) → IsMark m rest → plain (m ∷ rest) ≡ begins (Mark m) 1
at_mark m rest is = by_test (m == 94) refl
  where
    by_test : (t : Bool) → (m == 94) ≡ t → plain (m ∷ rest) ≡ begins (Mark m) 1
    by_test true e =
        let same : m ≡ 94 = grind (arith, nat_tests) in
        ap (λ (x : ℕ). plain (x ∷ rest)) same ∙ at_caret rest ∙ operator_caret rest (is.caret e) ∙ ap (λ (x : ℕ). begins (Mark x) 1) (sym same)
    by_test false e = plain_is m rest false false false false false true (graphic_facts m is.printable) is.no_comment (no_digit m is.of_no_name) is.of_no_name e is.printable

-- digits
digits_run : (radix : ℕ) (digits rest : List ℕ) → AreDigits radix digits → (1 ≤ length digits) × (length digits ≤ digit_run radix (digits ++ rest)) × (list_all (is_digit radix) digits ≡ true)
digits_run radix [] rest are = absurd are
digits_run radix (d ∷ digits) rest are = (omega arith, all_run (is_digit radix) (d ∷ digits) rest are, are)

number_size : (n k : ℕ) → size (number_head n k) ≡ k
number_size n k = by_test (nat_lt n (2 ^ 64))
  where
    by_test : (t : Bool) → size (cond t (begins (Number n) k) (too_wide k)) ≡ k
    by_test true = refl
    by_test false = refl

numeral_bound : (bytes : List ℕ) → digit_run 10 bytes ≤ size (numeral bytes)
unfolding numeral
numeral_bound bytes = bound_if (is_label_number (number_of 10 (take (digit_run 10 bytes) bytes)) (drop (digit_run 10 bytes) bytes)) _ _ (digit_run 10 bytes) (omega arith) (omega (arith, number_size (number_of 10 (take (digit_run 10 bytes) bytes)) (digit_run 10 bytes)))

numeral_at : (bytes : List ℕ) (k : ℕ) (digits rest : List ℕ) → digit_run 10 bytes ≡ k → take k bytes ≡ digits → drop k bytes ≡ rest
    → numeral bytes ≡ cond (is_label_number (number_of 10 digits) rest) (begins Name (k + 1)) (number_head (number_of 10 digits) k)
unfolding numeral
numeral_at bytes k digits rest e f g =
    ap (λ (j : ℕ). cond (is_label_number (number_of 10 (take j bytes)) (drop j bytes)) (begins Name (j + 1)) (number_head (number_of 10 (take j bytes)) j)) e
    ∙ ap (λ (ds : List ℕ). cond (is_label_number (number_of 10 ds) (drop k bytes)) (begins Name (k + 1)) (number_head (number_of 10 ds) k)) f
    ∙ ap (λ (r : List ℕ). cond (is_label_number (number_of 10 digits) r) (begins Name (k + 1)) (number_head (number_of 10 digits) k)) g

label_number : (n : ℕ) (rest : List ℕ) → 1 ≤ n → n ≤ 65535 → is_label_number n (36 ∷ rest) ≡ true
label_number n rest l m = grind (arith, nat_tests)

at_label : (digits rest : List ℕ) → AreDigits 10 digits → 1 ≤ number_of 10 digits → number_of 10 digits ≤ 65535 → plain (digits ++ 36 ∷ rest) ≡ begins Name (length digits + 1)
at_label [] rest are l m = absurd are
at_label (d ∷ digits) rest are l m =
    at_digit d (digits ++ 36 ∷ rest) (and_left (is_digit 10 d) (list_all (is_digit 10) digits) are)
    ∙ numeral_at (d ∷ digits ++ 36 ∷ rest) (length (d ∷ digits)) (d ∷ digits) (36 ∷ rest) (run_ends (is_digit 10) (d ∷ digits) 36 rest are refl) (take-append_seam (d ∷ digits) (36 ∷ rest)) (drop-append_seam (d ∷ digits) (36 ∷ rest))
    ∙ ap (λ (t : Bool). cond t (begins Name (length (d ∷ digits) + 1)) (number_head (number_of 10 (d ∷ digits)) (length (d ∷ digits)))) (label_number (number_of 10 (d ∷ digits)) rest l m)

-- a radix that has digits is no operator's
radix_letter : (u v : ℕ) → nat_lt v (cond (u == 66) 2 (cond (u == 79) 8 (cond (u == 68) 10 (cond (u == 88) 16 0)))) ≡ true → ((u == 65) || (u == 67) || (u == 77)) ≡ false
radix_letter u v e = grind (arith, nat_tests)

no_operator : (letter : ℕ) (digits : List ℕ) → AreDigits (radix_of letter) digits → is_operator_letter letter ≡ false
no_operator letter [] are = absurd are
no_operator letter (d ∷ digits) are = radix_letter (to_ascii_uppercase letter) (digit_value d) (and_left (is_digit (radix_of letter) d) (list_all (is_digit (radix_of letter)) digits) are)

some_digits : (k : ℕ) → 1 ≤ k → (k == 0) ≡ false
some_digits k l = grind (arith, nat_tests)

based_at : (radix : ℕ) (bytes : List ℕ) → 1 ≤ digit_run radix bytes → tokens.based radix bytes ≡ number_head (number_of radix (take (digit_run radix bytes) bytes)) (digit_run radix bytes + 2)
unfolding tokens.based
based_at radix bytes l = ap (λ (t : Bool). cond t no_token (number_head (number_of radix (take (digit_run radix bytes) bytes)) (digit_run radix bytes + 2))) (some_digits (digit_run radix bytes) l)

at_based : (letter : ℕ) (digits rest : List ℕ) → AreDigits (radix_of letter) digits
    → plain (94 ∷ letter ∷ digits ++ rest) ≡ number_head (number_of (radix_of letter) (take (digit_run (radix_of letter) (digits ++ rest)) (digits ++ rest))) (digit_run (radix_of letter) (digits ++ rest) + 2)
at_based letter digits rest are =
    let run = digits_run (radix_of letter) digits rest are in
    at_caret (letter ∷ digits ++ rest)
    ∙ ap (λ (t : Bool). cond t (begins (Mark 94) 1) (tokens.based (radix_of letter) (digits ++ rest))) (no_operator letter digits are)
    ∙ based_at (radix_of letter) (digits ++ rest) (omega (arith, run.0, run.1))

-- No word is longer than what is found.
number_bound : (n : ℕ) (text rest : List ℕ) → IsNumber n text → length text ≤ size (plain (text ++ rest))
number_bound n [] rest (decimal digits are is) = absurd are
number_bound n (d ∷ text) rest (decimal digits are is) =
    let run = digits_run 10 (d ∷ text) rest are in
    let found : plain (d ∷ text ++ rest) ≡ numeral (d ∷ text ++ rest) = at_digit d (text ++ rest) (and_left (is_digit 10 d) (list_all (is_digit 10) text) are) in
    omega (arith, run.1, numeral_bound (d ∷ text ++ rest), ap size found)
number_bound n text rest (based letter digits are is) =
    let run = digits_run (radix_of letter) digits rest are in
    omega (arith, run.1, ap size (at_based letter digits rest are), number_size (number_of (radix_of letter) (take (digit_run (radix_of letter) (digits ++ rest)) (digits ++ rest))) (digit_run (radix_of letter) (digits ++ rest) + 2))

name_bound : (text rest : List ℕ) → IsName text → length text ≤ size (plain (text ++ rest))
name_bound [] rest is = absurd is
name_bound (b ∷ text) rest (d, n, l) =
    omega (arith, l, ap size (at_name b (text ++ rest) (and_left (is_name_character b) (list_all is_name_character text) n) d), all_run is_name_character (b ∷ text) rest n)

label_bound : (text rest : List ℕ) → IsLocalLabel text → plain (text ++ rest) ≡ begins Name (length text)
label_bound text rest is =
    let split : text ++ rest ≡ is.digits ++ 36 ∷ rest = ap (λ (x : List ℕ). x ++ rest) is.is ∙ append_assoc is.digits (36 ∷ []) rest in
    let long : length is.digits + 1 ≡ length text = omega (arith, ap length is.is, length-append is.digits (36 ∷ [])) in
    ap plain split ∙ at_label is.digits rest is.are is.least is.most ∙ ap (begins Name) long

pub bound : (e : Element) (rest : List ℕ) → IsWord e rest → length (characters e) ≤ size (plain (characters e ++ rest))
bound (gap b) rest w = omega (arith, ap size (at_gap b rest w))
bound (token Name text) rest w = ⊎_elim (λ (is : IsName text). name_bound text rest is) (λ (is : IsLocalLabel text). omega (arith, ap size (label_bound text rest is))) w
bound (token (Number n) text) rest w = number_bound n text rest w.0
bound (token (Mark m) text) rest w = omega (arith, ap length w.0, ap (λ (x : List ℕ). size (plain (x ++ rest))) w.0, ap size (at_mark m rest w.1))
bound (token Text text) rest w = absurd w
bound (wide text) rest w = number_bound w.0 text rest w.1
bound (stray b) rest w = absurd w

-- a word is at least one byte
some_digit : (radix : ℕ) (digits : List ℕ) → AreDigits radix digits → 1 ≤ length digits
some_digit radix [] are = absurd are
some_digit radix (d ∷ digits) are = omega arith

some_number : (n : ℕ) (text : List ℕ) → IsNumber n text → 1 ≤ length text
some_number n text (decimal digits are is) = some_digit 10 text are
some_number n text (based letter digits are is) = omega arith

some_name : (text : List ℕ) → IsName text → 1 ≤ length text
some_name [] is = absurd is
some_name (b ∷ text) is = omega arith

pub some : (e : Element) (rest : List ℕ) → IsWord e rest → 1 ≤ length (characters e)
some (gap b) rest w = omega arith
some (token Name text) rest w = ⊎_elim (λ (is : IsName text). some_name text is) (λ (is : IsLocalLabel text). omega (arith, ap length is.is, length-append is.digits (36 ∷ []))) w
some (token (Number n) text) rest w = some_number n text w.0
some (token (Mark m) text) rest w = omega (arith, ap length w.0)
some (token Text text) rest w = absurd w
some (wide text) rest w = some_number w.0 text w.1
some (stray b) rest w = absurd w

-- A word that is as long as what is found is found.
decimal_found : (d : ℕ) (text rest : List ℕ) (k : ℕ) (t : Bool) → AreDigits 10 (d ∷ text) → digit_run 10 (d ∷ text ++ rest) ≡ k → length (d ∷ text) ≤ k → length (d ∷ text) ≡ size (plain (d ∷ text ++ rest))
    → is_label_number (number_of 10 (take k (d ∷ text ++ rest))) (drop k (d ∷ text ++ rest)) ≡ t → plain (d ∷ text ++ rest) ≡ number_head (number_of 10 (d ∷ text)) (length (d ∷ text))
decimal_found d text rest k true are r m l e =
    let found : plain (d ∷ text ++ rest) ≡ begins Name (k + 1) = at_digit d (text ++ rest) (and_left (is_digit 10 d) (list_all (is_digit 10) text) are) ∙ numeral_at (d ∷ text ++ rest) k (take k (d ∷ text ++ rest)) (drop k (d ∷ text ++ rest)) r refl refl ∙ ap (λ (t : Bool). cond t (begins Name (k + 1)) (number_head (number_of 10 (take k (d ∷ text ++ rest))) k)) e in
    absurd (omega (arith, ap size found, m, l))
decimal_found d text rest k false are r m l e =
    let found : plain (d ∷ text ++ rest) ≡ number_head (number_of 10 (take k (d ∷ text ++ rest))) k = at_digit d (text ++ rest) (and_left (is_digit 10 d) (list_all (is_digit 10) text) are) ∙ numeral_at (d ∷ text ++ rest) k (take k (d ∷ text ++ rest)) (drop k (d ∷ text ++ rest)) r refl refl ∙ ap (λ (t : Bool). cond t (begins Name (k + 1)) (number_head (number_of 10 (take k (d ∷ text ++ rest))) k)) e in
    let same : k ≡ length (d ∷ text) = omega (arith, ap size found, number_size (number_of 10 (take k (d ∷ text ++ rest))) k, l) in
    found ∙ ap (λ (j : ℕ). number_head (number_of 10 (take j (d ∷ text ++ rest))) j) same ∙ ap (λ (ds : List ℕ). number_head (number_of 10 ds) (length (d ∷ text))) (take-append_seam (d ∷ text) rest)

number_found : (n : ℕ) (text rest : List ℕ) → IsNumber n text → length text ≡ size (plain (text ++ rest)) → plain (text ++ rest) ≡ number_head n (length text)
number_found n [] rest (decimal digits are is) l = absurd are
number_found n (d ∷ text) rest (decimal digits are is) l =
    decimal_found d text rest (digit_run 10 (d ∷ text ++ rest)) (is_label_number (number_of 10 (take (digit_run 10 (d ∷ text ++ rest)) (d ∷ text ++ rest))) (drop (digit_run 10 (d ∷ text ++ rest)) (d ∷ text ++ rest))) are refl (digits_run 10 (d ∷ text) rest are).1 l refl
    ∙ ap (λ (x : ℕ). number_head x (length (d ∷ text))) is
number_found n text rest (based letter digits are is) l =
    let k = digit_run (radix_of letter) (digits ++ rest) in
    let found = at_based letter digits rest are in
    let same : k ≡ length digits = omega (arith, ap size found, number_size (number_of (radix_of letter) (take k (digits ++ rest))) (k + 2), l) in
    found ∙ ap (λ (j : ℕ). number_head (number_of (radix_of letter) (take j (digits ++ rest))) (j + 2)) same
    ∙ ap (λ (ds : List ℕ). number_head (number_of (radix_of letter) ds) (length digits + 2)) (take-append_seam digits rest)
    ∙ ap (λ (x : ℕ). number_head x (length digits + 2)) is ∙ ap (number_head n) (omega arith)

small_head : (n k : ℕ) → n < 2 ^ 64 → number_head n k ≡ begins (Number n) k
small_head n k l = let t : nat_lt n (2 ^ 64) ≡ true = grind (arith, nat_tests) in ap (λ (x : Bool). cond x (begins (Number n) k) (too_wide k)) t

large_head : (n k : ℕ) → 2 ^ 64 ≤ n → number_head n k ≡ too_wide k
large_head n k l = let t : nat_lt n (2 ^ 64) ≡ false = grind (arith, nat_tests) in ap (λ (x : Bool). cond x (begins (Number n) k) (too_wide k)) t

name_found : (text rest : List ℕ) → IsName text → length text ≡ size (plain (text ++ rest)) → plain (text ++ rest) ≡ begins Name (length text)
name_found [] rest is l = absurd is
name_found (b ∷ text) rest (d, n, m) l =
    let found = at_name b (text ++ rest) (and_left (is_name_character b) (list_all is_name_character text) n) d in
    found ∙ ap (begins Name) (sym (ap size found) ∙ sym l)

pub word_found : (e : Element) (rest : List ℕ) → IsWord e rest → length (characters e) ≡ size (plain (characters e ++ rest)) → plain (characters e ++ rest) ≡ head e
word_found (gap b) rest w l = at_gap b rest w
word_found (token Name text) rest w l = ⊎_elim (λ (is : IsName text). name_found text rest is l) (λ (is : IsLocalLabel text). label_bound text rest is) w
word_found (token (Number n) text) rest w l = number_found n text rest w.0 l ∙ small_head n (length text) w.1
word_found (token (Mark m) text) rest w l = ap (λ (x : List ℕ). plain (x ++ rest)) w.0 ∙ at_mark m rest w.1 ∙ ap (begins (Mark m)) (sym (ap length w.0))
word_found (token Text text) rest w l = absurd w
word_found (wide text) rest w l = number_found w.0 text rest w.1 l ∙ large_head w.0 (length text) w.2
word_found (stray b) rest w l = absurd w
