-- A printed schedule is read as the same schedule.
use Rattle.std.proofs.Common.{◌≡◌, ◌<◌, ◌≤◌, ℕ, ◌+◌, ◌-◌, ◌*◌, ◌/◌, ◌%◌, ◌^◌, ◌==◌, true, false, not, Bool, ◌&&◌, List, [], ◌∷◌, ◌++◌, Some, length, map, get_or, zero, suc, refl, sym, ap, ◌∙◌, arith, nat_lt, nat_le, length-append, append_assoc, subst, lit<}
use Rattle.std.specs.Prelude.{decimal, codes}
use Rattle.std.specs.Char.{digit_value}
use Rattle.std.specs.List.{list_all, flat_map}
use Rattle.std.specs.Str.Parse.{AllDigits, digits_value, digits_value_after}
use Rattle.std.proofs.lemmas.Bool.Decides.{nat_tests}
use Rattle.std.proofs.lemmas.Fmt.{decimal_is_IsNumeral, first_decimal, decimal_nonempty}
use Rattle.std.proofs.lemmas.List.Folds.{list_all-append}
use Rattle.vax_outside.specs.Hex.{hex, hex_digit}
use Rattle.vax_lines.specs.Lines.{Text, lines, begun}
use Rattle.vax_lines.specs.Words.{words, longer, is_trimmed}
use Rattle.std.specs.Str.{bytes_eq}
use Rattle.vax_lines.specs.Numbers.{number, number_in, are_digits}
use Rattle.vax_sched.specs.Rules.{page, target, rule_of, is_silent, line_of, says, readings}
use Rattle.vax_lines.proofs.WordLaws.{words-longer, words-alone}
use Rattle.vax_sched.specs.Printed.{page_text, target_text, at_line, rule_line, printed}
use Rattle.vax_sched.specs.Kept.{is_proper, is_page}
use Rattle.vax_sched.specs.declared.rule.Target.{Target}
use Rattle.vax_sched.specs.declared.rule.Target.TheVariants.{Page, All}
use Rattle.vax_sched.specs.declared.rule.Fixed.{Fixed}
use Rattle.vax_sched.specs.declared.rule.Repeated.{Repeated}
use Rattle.vax_sched.specs.declared.rule.Rule.{Rule}
use Rattle.vax_sched.specs.declared.rule.Rule.TheVariants.{At, Each}

some : {A : Type 0} (x : A) (xs : List A) → length (x ∷ xs) ≡ suc (length xs)
some x xs = grind arith

both_true : (a b : Bool) → (a && b) ≡ true → (a ≡ true) × (b ≡ true)
both_true true true e = (refl, refl)
both_true true false e = absurd (cc)
both_true false b e = absurd (cc)

less : (a b : ℕ) → nat_lt a b ≡ true → a < b
less a b e = grind (arith, nat_tests)

at_most : (a b : ℕ) → nat_le a b ≡ true → a ≤ b
at_most a b e = grind (arith, nat_tests)

is_less : (a b : ℕ) → a < b → nat_lt a b ≡ true
is_less a b l = grind (arith, nat_tests)

is_at_most : (a b : ℕ) → a ≤ b → nat_le a b ≡ true
is_at_most a b l = grind (arith, nat_tests)

-- a byte of a printed number or word: no space, CR or LF
abbrev is_plain : ℕ → Bool
is_plain c = not (c == 32) && (not (c == 10) && not (c == 13))

plain_by : (c : ℕ) (a b d : Bool) → (c == 32) ≡ a → (c == 10) ≡ b → (c == 13) ≡ d → digit_value c < 36 → is_plain c ≡ true
plain_by c true b d e f g l =
    let is : c ≡ 32 = grind (arith, nat_tests) in
    let no : digit_value c ≡ 36 = ap digit_value is in
    absurd (omega arith)
plain_by c false true d e f g l =
    let is : c ≡ 10 = grind (arith, nat_tests) in
    let no : digit_value c ≡ 36 = ap digit_value is in
    absurd (omega arith)
plain_by c false false true e f g l =
    let is : c ≡ 13 = grind (arith, nat_tests) in
    let no : digit_value c ≡ 36 = ap digit_value is in
    absurd (omega arith)
plain_by c false false false e f g l = rw (e, f, g) refl

plain_digit : (c : ℕ) → digit_value c < 36 → is_plain c ≡ true
plain_digit c l = plain_by c (c == 32) (c == 10) (c == 13) refl refl refl l

plain_digits : (radix : ℕ) (w : Text) → radix ≤ 36 → AllDigits radix w → list_all is_plain w ≡ true
plain_digits radix [] l d = refl
plain_digits radix (c ∷ cs) l d = rw (plain_digit c (omega (arith, d.0)), plain_digits radix cs l d.1) refl

digits_are : (radix : ℕ) (w : Text) → AllDigits radix w → are_digits radix w ≡ true
digits_are radix [] d = refl
digits_are radix (c ∷ cs) d = rw (is_less _ _ d.0, digits_are radix cs d.1) refl

-- the parts of these tests

word_parts : (c : ℕ) (cs : Text) → list_all is_plain (c ∷ cs) ≡ true → (is_plain c ≡ true) × (list_all is_plain cs ≡ true)
word_parts c cs e = both_true (is_plain c) (list_all is_plain cs) e

plain_parts : (c : ℕ) → is_plain c ≡ true → (not (c == 32) ≡ true) × ((not (c == 10) && not (c == 13)) ≡ true)
plain_parts c e = both_true (not (c == 32)) (not (c == 10) && not (c == 13)) e

at_parts : (r : Fixed) → is_proper (At r) ≡ true → (0 < r.turn) × (r.turn ≤ 10 ^ 15) × (r.page < 2 ^ 23)
at_parts r e =
    let h = both_true (nat_lt 0 r.turn) (nat_le r.turn (10 ^ 15) && nat_lt r.page (2 ^ 23)) e in
    let k = both_true (nat_le r.turn (10 ^ 15)) (nat_lt r.page (2 ^ 23)) h.1 in
    (less 0 r.turn h.0, at_most r.turn (10 ^ 15) k.0, less r.page (2 ^ 23) k.1)

each_parts : (r : Repeated) → is_proper (Each r) ≡ true → (0 < r.turns) × (r.turns ≤ 10 ^ 9) × (is_page r.target ≡ true)
each_parts r e =
    let h = both_true (nat_lt 0 r.turns) (nat_le r.turns (10 ^ 9) && is_page r.target) e in
    let k = both_true (nat_le r.turns (10 ^ 9)) (is_page r.target) h.1 in
    (less 0 r.turns h.0, at_most r.turns (10 ^ 9) k.0, k.1)

-- numbers

number_of_digits : (most n c : ℕ) (cs : Text) → AllDigits 10 (c ∷ cs) → digits_value 10 (c ∷ cs) ≡ n → 48 < c → 0 < n → n ≤ most → number most (c ∷ cs) ≡ Some n
unfolding number
number_of_digits most n c cs d v f p l =
    let first : (c == 48) ≡ false = grind (arith, nat_tests) in
    let small : nat_le (digits_value 10 (c ∷ cs)) most ≡ true = rw v (is_at_most n most l) in
    let in_range : number_in 10 most (c ∷ cs) ≡ Some n = rw (digits_are 10 (c ∷ cs) d, small) (ap Some v) in
    let not_zero : (n == 0) ≡ false = grind (arith, nat_tests) in
    rw (first, in_range, not_zero) refl

number_from : (most n : ℕ) (w : Text) → w ≡ decimal n → 0 < n → n ≤ most → most < 2 ^ 64 → number most w ≡ Some n
number_from most n [] e p l m = absurd (omega (arith, ap length e, decimal_nonempty n (omega arith)))
number_from most n (c ∷ cs) e p l m =
    let numeral = decimal_is_IsNumeral n (omega arith) in
    let P : Text → Type 0 = λ w. AllDigits 10 w in
    let digits : AllDigits 10 (c ∷ cs) = subst P (sym e) numeral.0.1 in
    let value : digits_value 10 (c ∷ cs) ≡ n = ap (digits_value 10) e ∙ numeral.1 in
    let head : get_or (decimal n) 0 0 ≡ c = ap (λ w. get_or w 0 0) (sym e) in
    number_of_digits most n c cs digits value (omega (arith, head, first_decimal n p (omega arith))) p l

number-decimal : (most n : ℕ) → 0 < n → n ≤ most → most < 2 ^ 64 → number most (decimal n) ≡ Some n
number-decimal most n p l m = number_from most n (decimal n) refl p l m

plain-decimal : (n : ℕ) → n < 2 ^ 64 → list_all is_plain (decimal n) ≡ true
plain-decimal n l = plain_digits 10 (decimal n) (omega arith) (decimal_is_IsNumeral n l).0.1

-- addresses

hex_digit_back : (x : ℕ) → x < 16 → digit_value (hex_digit x) ≡ x
hex_digit_back zero l = refl
hex_digit_back (suc zero) l = refl
hex_digit_back (suc (suc zero)) l = refl
hex_digit_back (suc (suc (suc zero))) l = refl
hex_digit_back (suc (suc (suc (suc zero)))) l = refl
hex_digit_back (suc (suc (suc (suc (suc zero))))) l = refl
hex_digit_back (suc (suc (suc (suc (suc (suc zero)))))) l = refl
hex_digit_back (suc (suc (suc (suc (suc (suc (suc zero))))))) l = refl
hex_digit_back (suc (suc (suc (suc (suc (suc (suc (suc zero)))))))) l = refl
hex_digit_back (suc (suc (suc (suc (suc (suc (suc (suc (suc zero))))))))) l = refl
hex_digit_back (suc (suc (suc (suc (suc (suc (suc (suc (suc (suc zero)))))))))) l = refl
hex_digit_back (suc (suc (suc (suc (suc (suc (suc (suc (suc (suc (suc zero))))))))))) l = refl
hex_digit_back (suc (suc (suc (suc (suc (suc (suc (suc (suc (suc (suc (suc zero)))))))))))) l = refl
hex_digit_back (suc (suc (suc (suc (suc (suc (suc (suc (suc (suc (suc (suc (suc zero))))))))))))) l = refl
hex_digit_back (suc (suc (suc (suc (suc (suc (suc (suc (suc (suc (suc (suc (suc (suc zero)))))))))))))) l = refl
hex_digit_back (suc (suc (suc (suc (suc (suc (suc (suc (suc (suc (suc (suc (suc (suc (suc zero))))))))))))))) l = refl
hex_digit_back (suc (suc (suc (suc (suc (suc (suc (suc (suc (suc (suc (suc (suc (suc (suc (suc n)))))))))))))))) l = absurd (omega arith)

-- the eight digits of a number of 32 bits
abbrev eight : ℕ → ℕ → ℕ → ℕ → ℕ → ℕ → ℕ → ℕ → Text
eight a b c d e f g h =
    hex_digit a ∷ hex_digit b ∷ hex_digit c ∷ hex_digit d ∷ hex_digit e ∷ hex_digit f ∷ hex_digit g ∷ hex_digit h ∷ []

after : (n x : ℕ) (cs : Text) → x < 16 → digits_value_after 16 n (hex_digit x ∷ cs) ≡ digits_value_after 16 (n * 16 + x) cs
after n x cs l = ap (λ v. digits_value_after 16 (n * 16 + v) cs) (hex_digit_back x l)

eight_value : (a b c d e f g h : ℕ) → a < 16 → b < 16 → c < 16 → d < 16 → e < 16 → f < 16 → g < 16 → h < 16 → digits_value 16 (eight a b c d e f g h) ≡ (((((((0 * 16 + a) * 16 + b) * 16 + c) * 16 + d) * 16 + e) * 16 + f) * 16 + g) * 16 + h
eight_value a b c d e f g h ka kb kc kd ke kf kg kh =
    after 0 a (hex_digit b ∷ hex_digit c ∷ hex_digit d ∷ hex_digit e ∷ hex_digit f ∷ hex_digit g ∷ hex_digit h ∷ []) ka
    ∙ after (0 * 16 + a) b (hex_digit c ∷ hex_digit d ∷ hex_digit e ∷ hex_digit f ∷ hex_digit g ∷ hex_digit h ∷ []) kb
    ∙ after ((0 * 16 + a) * 16 + b) c (hex_digit d ∷ hex_digit e ∷ hex_digit f ∷ hex_digit g ∷ hex_digit h ∷ []) kc
    ∙ after (((0 * 16 + a) * 16 + b) * 16 + c) d (hex_digit e ∷ hex_digit f ∷ hex_digit g ∷ hex_digit h ∷ []) kd
    ∙ after ((((0 * 16 + a) * 16 + b) * 16 + c) * 16 + d) e (hex_digit f ∷ hex_digit g ∷ hex_digit h ∷ []) ke
    ∙ after (((((0 * 16 + a) * 16 + b) * 16 + c) * 16 + d) * 16 + e) f (hex_digit g ∷ hex_digit h ∷ []) kf
    ∙ after ((((((0 * 16 + a) * 16 + b) * 16 + c) * 16 + d) * 16 + e) * 16 + f) g (hex_digit h ∷ []) kg
    ∙ after (((((((0 * 16 + a) * 16 + b) * 16 + c) * 16 + d) * 16 + e) * 16 + f) * 16 + g) h ([]) kh

is_digit : (x : ℕ) → x < 16 → digit_value (hex_digit x) < 16
is_digit x l = omega (arith, hex_digit_back x l)

eight_digits : (a b c d e f g h : ℕ) → a < 16 → b < 16 → c < 16 → d < 16 → e < 16 → f < 16 → g < 16 → h < 16 → AllDigits 16 (eight a b c d e f g h)
eight_digits a b c d e f g h ka kb kc kd ke kf kg kh =
    (is_digit a ka, (is_digit b kb, (is_digit c kc, (is_digit d kd, (is_digit e ke, (is_digit f kf, (is_digit g kg, (is_digit h kh, tt))))))))

hex_is : (n : ℕ) → hex 8 n ≡ eight (n / 268435456 % 16) (n / 16777216 % 16) (n / 1048576 % 16) (n / 65536 % 16) (n / 4096 % 16) (n / 256 % 16) (n / 16 % 16) (n / 1 % 16)
unfolding hex
hex_is n = refl

-- a number by its digits, each the remainder of a quotient
joined : (n a b c d e f g h : ℕ) → h ≡ n → g ≡ h / 16 → f ≡ g / 16 → e ≡ f / 16 → d ≡ e / 16 → c ≡ d / 16 → b ≡ c / 16 → a ≡ b / 16 → a < 16 → (((((((0 * 16 + a % 16) * 16 + b % 16) * 16 + c % 16) * 16 + d % 16) * 16 + e % 16) * 16 + f % 16) * 16 + g % 16) * 16 + h % 16 ≡ n
joined n a b c d e f g h kh kg kf ke kd kc kb ka l = omega arith

hex_value : (n : ℕ) → n < 2 ^ 32 → digits_value 16 (hex 8 n) ≡ n
hex_value n l =
    ap (digits_value 16) (hex_is n)
    ∙ eight_value (n / 268435456 % 16) (n / 16777216 % 16) (n / 1048576 % 16) (n / 65536 % 16) (n / 4096 % 16) (n / 256 % 16) (n / 16 % 16) (n / 1 % 16) (omega arith) (omega arith) (omega arith) (omega arith) (omega arith) (omega arith) (omega arith) (omega arith)
    ∙ joined n (n / 268435456) (n / 16777216) (n / 1048576) (n / 65536) (n / 4096) (n / 256) (n / 16) (n / 1) (omega arith) (omega arith) (omega arith) (omega arith) (omega arith) (omega arith) (omega arith) (omega arith) (omega arith)

hex_digits : (n : ℕ) → AllDigits 16 (hex 8 n)
hex_digits n =
    let P : Text → Type 0 = λ w. AllDigits 16 w in
    subst P (sym (hex_is n)) (eight_digits (n / 268435456 % 16) (n / 16777216 % 16) (n / 1048576 % 16) (n / 65536 % 16) (n / 4096 % 16) (n / 256 % 16) (n / 16 % 16) (n / 1 % 16) (omega arith) (omega arith) (omega arith) (omega arith) (omega arith) (omega arith) (omega arith) (omega arith))

length-hex : (n : ℕ) → length (hex 8 n) ≡ 8
length-hex n = ap length (hex_is n)

multiple : (p : ℕ) → (512 * p % 512 == 0) ≡ true
multiple p = let zero_is : 512 * p % 512 ≡ 0 = omega arith in grind (arith, nat_tests)

page_back : (p : ℕ) → p < 2 ^ 23 → page (page_text p) ≡ Some p
unfolding page
page_back p l =
    let value : digits_value 16 (hex 8 (512 * p)) ≡ 512 * p = hex_value (512 * p) (omega arith) in
    let small : nat_le (512 * p) 0xFFFFFFFF ≡ true = is_at_most _ _ (omega arith) in
    let whole : (512 * p % 512 == 0) ≡ true = multiple p in
    let back : 512 * p / 512 ≡ p = omega arith in
    rw (length-hex (512 * p), digits_are 16 _ (hex_digits (512 * p)), value, small, whole, back) refl

and_false : (b : Bool) → (b && false) ≡ false
and_false true = refl
and_false false = refl

other_length : (xs ys : Text) → (length xs ≡ length ys → ⊥) → bytes_eq xs ys ≡ false
other_length [] [] n = absurd (n refl)
other_length [] (y ∷ ys) n = refl
other_length (x ∷ xs) [] n = refl
other_length (x ∷ xs) (y ∷ ys) n = rw (other_length xs ys (λ e. n (some x xs ∙ ap suc e ∙ sym (some y ys)))) (and_false (x == y))

-- an address is not `all`
not_all : (p : ℕ) → p < 2 ^ 23 → target (page_text p) ≡ Some (Page p)
unfolding target
not_all p l =
    let other : bytes_eq (page_text p) (codes "all") ≡ false = other_length (page_text p) (codes "all") (omega (arith, length-hex (512 * p))) in
    rw (other, page_back p l) refl

-- the last word of a line
target_back : (t : Target) → is_page t ≡ true → target (target_text t) ≡ Some t
unfolding target
target_back (Page p) l = not_all p (less _ _ l)
target_back All l = refl

-- words and lines

was_not : (b : Bool) → not b ≡ true → b ≡ false
was_not true e = absurd (cc)
was_not false e = refl

-- the first byte of a plain word is no space
no_space : (c : ℕ) (cs : Text) → list_all is_plain (c ∷ cs) ≡ true → (c == 32) ≡ false
no_space c cs e = was_not (c == 32) (plain_parts c (word_parts c cs e).0).0

words-front : (w rest : Text) → list_all is_plain w ≡ true → 0 < length w → words (w ++ 32 ∷ rest) ≡ w ∷ words rest
words-front [] rest e l = absurd (omega arith)
words-front (c ∷ []) rest e l = words-alone c (32 ∷ rest) (no_space c [] e) refl
words-front (c ∷ d ∷ ds) rest e l =
    let h = word_parts c (d ∷ ds) e in
    words-longer c (d ∷ (ds ++ 32 ∷ rest)) (no_space c (d ∷ ds) e) (ap not (no_space d ds h.1))
    ∙ ap (longer c) (words-front (d ∷ ds) rest h.1 (omega (arith, some d ds)))

words-last : (w : Text) → list_all is_plain w ≡ true → 0 < length w → words w ≡ w ∷ []
words-last [] e l = absurd (omega arith)
words-last (c ∷ []) e l = words-alone c [] (no_space c [] e) refl
words-last (c ∷ d ∷ ds) e l =
    let h = word_parts c (d ∷ ds) e in
    words-longer c (d ∷ ds) (no_space c (d ∷ ds) e) (ap not (no_space d ds h.1))
    ∙ ap (longer c) (words-last (d ∷ ds) h.1 (omega (arith, some d ds)))

-- neither CR nor LF
abbrev stays : ℕ → Bool
stays c = not (c == 10) && not (c == 13)

lines-line : (line rest : Text) → list_all stays line ≡ true → lines (line ++ 10 ∷ rest) ≡ line ∷ lines rest
lines-line [] rest e = refl
lines-line (c ∷ cs) rest e =
    let h = both_true (stays c) (list_all stays cs) e in
    let k = both_true (not (c == 10)) (not (c == 13)) h.0 in
    rw (was_not (c == 10) k.0, was_not (c == 13) k.1) (ap (begun c) (lines-line cs rest h.1))

-- a printed number or target is a word of plain bytes
abbrev pub IsWord : Text → Type 0
IsWord w = (list_all is_plain w ≡ true) × (0 < length w)

word-decimal : (n : ℕ) → n < 2 ^ 64 → IsWord (decimal n)
word-decimal n l = (plain-decimal n l, decimal_nonempty n l)

word-target : (t : Target) → IsWord (target_text t)
word-target (Page p) = (plain_digits 16 (hex 8 (512 * p)) (omega arith) (hex_digits (512 * p)), omega (arith, length-hex (512 * p)))
word-target All = (refl, lit< tt)

-- a line of three words
abbrev three : Text → Text → Text → Text
three verb count what = verb ++ 32 ∷ (count ++ 32 ∷ what)

words-three : (verb count what : Text) → IsWord verb → IsWord count → IsWord what → words (three verb count what) ≡ verb ∷ count ∷ what ∷ []
words-three verb count what a b c =
    words-front verb (count ++ 32 ∷ what) a.0 a.1 ∙ ap (λ l. verb ∷ l) (words-front count what b.0 b.1 ∙ ap (λ l. count ∷ l) (words-last what c.0 c.1))

plain_at : (w : Text) (i : ℕ) → list_all is_plain w ≡ true → i < length w → (get_or w i 0 == 32) ≡ false
plain_at [] i e l = absurd (omega arith)
plain_at (c ∷ cs) zero e l = no_space c cs e
plain_at (c ∷ cs) (suc i) e l = plain_at cs i (word_parts c cs e).1 (omega (arith, some c cs))

behind_front : (xs ys : Text) (i : ℕ) → get_or (xs ++ ys) (length xs + i) 0 ≡ get_or ys i 0
behind_front [] ys i = ap (λ k. get_or ys k 0) (omega arith)
behind_front (x ∷ xs) ys i =
    let step : length (x ∷ xs) + i ≡ suc (length xs + i) = omega (arith, some x xs) in
    ap (λ k. get_or (x ∷ (xs ++ ys)) k 0) step ∙ behind_front xs ys i

-- the last byte of a line is that of its last word
last_of : (front what : Text) → 0 < length what → get_or (front ++ what) (length (front ++ what) - 1) 0 ≡ get_or what (length what - 1) 0
last_of front what l =
    let at : length (front ++ what) - 1 ≡ length front + (length what - 1) = omega (arith, length-append front what) in
    ap (λ k. get_or (front ++ what) k 0) at ∙ behind_front front what (length what - 1)

three_is : (verb count what : Text) → three verb count what ≡ (verb ++ 32 ∷ (count ++ 32 ∷ [])) ++ what
three_is verb count what = simp append_assoc

trimmed-three : (verb count what : Text) → IsWord verb → IsWord what → is_trimmed (three verb count what) ≡ true
trimmed-three [] count what a c = absurd (omega (arith, a.1))
trimmed-three (v ∷ vs) count what a c =
    let first : (v == 32) ≡ false = no_space v vs a.0 in
    let line = three (v ∷ vs) count what in
    let last : get_or line (length line - 1) 0 ≡ get_or what (length what - 1) 0 =
    ap (λ l. get_or l (length l - 1) 0) (three_is (v ∷ vs) count what) ∙ last_of ((v ∷ vs) ++ 32 ∷ (count ++ 32 ∷ [])) what c.1 in
    let end : (get_or line (length line - 1) 0 == 32) ≡ false = ap (λ b. b == 32) last ∙ plain_at what (length what - 1) c.0 (omega (arith, c.1)) in
    rw (first, end) refl

-- a line that says something
read_three : (verb count what : Text) (rule : Rule) → is_silent (three verb count what) ≡ false → IsWord verb → IsWord count → IsWord what → rule_of (verb ∷ count ∷ what ∷ []) ≡ Some rule → line_of (three verb count what) ≡ says rule
unfolding line_of
read_three verb count what rule s a b c r =
    rw (s, trimmed-three verb count what a c, words-three verb count what a b c, r) refl

read_at : (t p : ℕ) → 0 < t → t ≤ 10 ^ 15 → p < 2 ^ 23 → line_of (three (codes "at") (decimal t) (page_text p)) ≡ says (At (record { turn = t; page = p }))
unfolding rule_of
read_at t p low high l =
    read_three (codes "at") (decimal t) (page_text p) (At (record { turn = t; page = p })) refl (refl, lit< tt) (word-decimal t (omega arith)) (word-target (Page p))
    (rw (number-decimal (10 ^ 15) t low high (lit< tt), page_back p l) refl)

read_each : (n : ℕ) (t : Target) → 0 < n → n ≤ 10 ^ 9 → is_page t ≡ true → line_of (three (codes "each") (decimal n) (target_text t)) ≡ says (Each (record { turns = n; target = t }))
unfolding rule_of
read_each n t low high l =
    read_three (codes "each") (decimal n) (target_text t) (Each (record { turns = n; target = t })) refl (refl, lit< tt) (word-decimal n (omega arith)) (word-target t)
    (rw (number-decimal (10 ^ 9) n low high (lit< tt), target_back t l) refl)

-- the line of a rule without its LF
abbrev bare : Rule → Text
bare (At r) = three (codes "at") (decimal r.turn) (page_text r.page)
bare (Each r) = three (codes "each") (decimal r.turns) (target_text r.target)

bare_line : (r : Rule) → rule_line r ≡ bare r ++ 10 ∷ []
unfolding at_line
bare_line (At r) = simp append_assoc
bare_line (Each r) = simp append_assoc

stays_word : (w : Text) → list_all is_plain w ≡ true → list_all stays w ≡ true
stays_word [] e = refl
stays_word (c ∷ cs) e =
    let h = word_parts c cs e in
    let here : stays c ≡ true = (plain_parts c h.0).1 in
    rw (here, stays_word cs h.1) refl

stays_three : (verb count what : Text) → IsWord verb → IsWord count → IsWord what → list_all stays (three verb count what) ≡ true
stays_three verb count what a b c =
    list_all-append stays verb (32 ∷ (count ++ 32 ∷ what))
    ∙ rw (stays_word verb a.0, list_all-append stays count (32 ∷ what), stays_word count b.0, stays_word what c.0) refl

stays_bare : (r : Rule) → is_proper r ≡ true → list_all stays (bare r) ≡ true
stays_bare (At r) e =
    stays_three (codes "at") (decimal r.turn) (page_text r.page) (refl, lit< tt) (word-decimal r.turn (omega (arith, (at_parts r e).1))) (word-target (Page r.page))
stays_bare (Each r) e =
    stays_three (codes "each") (decimal r.turns) (target_text r.target) (refl, lit< tt) (word-decimal r.turns (omega (arith, (each_parts r e).1))) (word-target r.target)

read_bare : (r : Rule) → is_proper r ≡ true → line_of (bare r) ≡ says r
read_bare (At r) e = let h = at_parts r e in read_at r.turn r.page h.0 h.1 h.2
read_bare (Each r) e = let h = each_parts r e in read_each r.turns r.target h.0 h.1 h.2

-- the lines of the printed rules say them
pub readings-printed : (rs : List Rule) → list_all is_proper rs ≡ true → readings (printed rs) ≡ map says rs
unfolding printed
readings-printed [] e = refl
readings-printed (r ∷ rs) e =
    let h = both_true (is_proper r) (list_all is_proper rs) e in
    let text : rule_line r ++ flat_map rule_line rs ≡ bare r ++ 10 ∷ flat_map rule_line rs = ap (λ l. l ++ flat_map rule_line rs) (bare_line r) ∙ append_assoc (bare r) (10 ∷ []) (flat_map rule_line rs) in
    ap readings text ∙ ap (map line_of) (lines-line (bare r) (flat_map rule_line rs) (stays_bare r h.0))
    ∙ rw (read_bare r h.0) (ap (λ l. says r ∷ l) (readings-printed rs h.1))
