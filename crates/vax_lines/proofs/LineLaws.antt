-- The first line of a text.
use Rattle.std.proofs.Common.{◌≡◌, ◌<◌, ℕ, ◌+◌, ◌==◌, ◌&&◌, Bool, true, false, not, List, [], ◌∷◌, ◌++◌, ◌≤◌, if◌then◌else◌, take, drop, get_or, suc, refl, sym, ap, ◌∙◌, arith, length}
use Rattle.std.proofs.Math.Seq.{drop-cons}
use Rattle.std.proofs.lemmas.List.{length-drop, take_all}
use Rattle.std.specs.List.{prefix_len}
use Rattle.vax_lines.specs.Lines.{Text, begins_with, begun, lines, without_return}

abbrev is_text : ℕ → Bool
is_text c = not (c == 10)

one_more : (n : ℕ) → 1 + n ≡ suc n
one_more n = omega arith

-- the bytes before the first LF
abbrev front : Text → Text
front cs = take (prefix_len is_text cs) cs

-- what stands behind the first LF
abbrev behind : Text → Text
behind cs = drop (suc (prefix_len is_text cs)) cs

longer : (c : ℕ) (cs : Text) → (c == 10) ≡ false → prefix_len is_text (c ∷ cs) ≡ suc (prefix_len is_text cs)
longer c cs e = rw (e, one_more) refl

-- a CR right before a LF
abbrev is_pair : ℕ → Text → Bool
is_pair c cs = c == 13 && begins_with 10 cs

goes_on : (c : ℕ) (cs : Text) → (c == 10) ≡ false → is_pair c cs ≡ false → lines (c ∷ cs) ≡ begun c (lines cs)
goes_on c cs e f = rw (e, f) refl

-- the last byte of a text is no LF
no_pair : (c d : ℕ) (cs : Text) → (d == 10) ≡ false → is_pair c (d ∷ cs) ≡ false
no_pair c d cs e = grind (arith, e)

alone : (c : ℕ) → is_pair c [] ≡ false
alone c = grind arith

begins : (c : ℕ) (cs : Text) → (c == 10) ≡ true → prefix_len is_text (c ∷ cs) ≡ 0
begins c cs e = rw e refl

some : (c : ℕ) (cs : Text) → length (c ∷ cs) ≡ suc (length cs)
some c cs = grind arith

last_alone : (c : ℕ) (b : Bool) → (c == 10) ≡ b → prefix_len is_text (c ∷ []) ≡ length (c ∷ []) → lines (c ∷ []) ≡ (c ∷ []) ∷ []
last_alone c true e l = absurd (omega (arith, begins c [] e, some c []))
last_alone c false e l = goes_on c [] e (alone c)

last_more : (c d : ℕ) (ds : Text) (a : Bool) → (c == 10) ≡ a → (b : Bool) → (d == 10) ≡ b → prefix_len is_text (c ∷ d ∷ ds) ≡ length (c ∷ d ∷ ds) → (prefix_len is_text (d ∷ ds) ≡ length (d ∷ ds) → lines (d ∷ ds) ≡ (d ∷ ds) ∷ []) → lines (c ∷ d ∷ ds) ≡ (c ∷ d ∷ ds) ∷ []
last_more c d ds true e b f l ih = absurd (omega (arith, begins c (d ∷ ds) e, some c (d ∷ ds)))
last_more c d ds false e true f l ih = absurd (omega (arith, longer c (d ∷ ds) e, begins d ds f, some c (d ∷ ds), some d ds))
last_more c d ds false e false f l ih =
    let rest : prefix_len is_text (d ∷ ds) ≡ length (d ∷ ds) = omega (arith, longer c (d ∷ ds) e, some c (d ∷ ds)) in
    goes_on c (d ∷ ds) e (no_pair c d ds f) ∙ ap (begun c) (ih rest)

-- a text without LF is one line
pub lines-last : (c : ℕ) (cs : Text) → prefix_len is_text (c ∷ cs) ≡ length (c ∷ cs) → lines (c ∷ cs) ≡ (c ∷ cs) ∷ []
lines-last c [] l = last_alone c (c == 10) refl l
lines-last c (d ∷ ds) l = last_more c d ds (c == 10) refl (d == 10) refl l (λ h. lines-last d ds h)

-- the first line, and those of what stands behind its LF
abbrev split_line : Text → List Text
split_line cs = without_return (front cs) ∷ lines (behind cs)

at_once : (c : ℕ) (cs : Text) → (c == 10) ≡ true → lines (c ∷ cs) ≡ split_line (c ∷ cs)
at_once c cs e =
    let here : lines (c ∷ cs) ≡ [] ∷ lines cs = rw e refl in
    here ∙ rw (begins c cs e) refl

first_alone : (c : ℕ) (b : Bool) → (c == 10) ≡ b → prefix_len is_text (c ∷ []) < length (c ∷ []) → lines (c ∷ []) ≡ split_line (c ∷ [])
first_alone c true e l = at_once c [] e
first_alone c false e l = absurd (omega (arith, longer c [] e, some c []))

-- a CR and a LF
pair_ends : (c d : ℕ) (ds : Text) → (c == 10) ≡ false → (c == 13) ≡ true → (d == 10) ≡ true → lines (c ∷ d ∷ ds) ≡ split_line (c ∷ d ∷ ds)
pair_ends c d ds e r f =
    let here : lines (c ∷ d ∷ ds) ≡ [] ∷ lines ds = rw (e, r, f) refl in
    let one : prefix_len is_text (c ∷ d ∷ ds) ≡ 1 = longer c (d ∷ ds) e ∙ ap suc (begins d ds f) in
    let line : without_return (c ∷ []) ≡ [] = rw r refl in
    here ∙ rw (one, line) refl

-- another byte right before a LF
line_ends : (c d : ℕ) (ds : Text) → (c == 10) ≡ false → (c == 13) ≡ false → (d == 10) ≡ true → lines (d ∷ ds) ≡ split_line (d ∷ ds) → lines (c ∷ d ∷ ds) ≡ split_line (c ∷ d ∷ ds)
line_ends c d ds e r f ih =
    let no : is_pair c (d ∷ ds) ≡ false = rw r refl in
    let one : prefix_len is_text (c ∷ d ∷ ds) ≡ 1 = longer c (d ∷ ds) e ∙ ap suc (begins d ds f) in
    let line : without_return (c ∷ []) ≡ c ∷ [] = rw r refl in
    let rest : lines (d ∷ ds) ≡ [] ∷ lines ds = rw f refl in
    goes_on c (d ∷ ds) e no ∙ ap (begun c) rest ∙ rw (one, line) refl

-- a byte and one more of the same line
line_goes_on : (c d : ℕ) (ds : Text) → (c == 10) ≡ false → (d == 10) ≡ false → lines (d ∷ ds) ≡ split_line (d ∷ ds) → lines (c ∷ d ∷ ds) ≡ split_line (c ∷ d ∷ ds)
line_goes_on c d ds e f ih =
    let two : prefix_len is_text (c ∷ d ∷ ds) ≡ suc (suc (prefix_len is_text ds)) = longer c (d ∷ ds) e ∙ ap suc (longer d ds f) in
    goes_on c (d ∷ ds) e (no_pair c d ds f) ∙ ap (begun c) ih ∙ rw (two, longer d ds f) refl

first_more : (c d : ℕ) (ds : Text) (a : Bool) → (c == 10) ≡ a → (b : Bool) → (d == 10) ≡ b → (r : Bool) → (c == 13) ≡ r → prefix_len is_text (c ∷ d ∷ ds) < length (c ∷ d ∷ ds) → (prefix_len is_text (d ∷ ds) < length (d ∷ ds) → lines (d ∷ ds) ≡ split_line (d ∷ ds)) → lines (c ∷ d ∷ ds) ≡ split_line (c ∷ d ∷ ds)
first_more c d ds true e b f r g l ih = at_once c (d ∷ ds) e
first_more c d ds false e true f true g l ih = pair_ends c d ds e g f
first_more c d ds false e true f false g l ih = line_ends c d ds e g f (at_once d ds f)
first_more c d ds false e false f r g l ih =
    let rest : prefix_len is_text (d ∷ ds) < length (d ∷ ds) = omega (arith, longer c (d ∷ ds) e, some c (d ∷ ds)) in
    line_goes_on c d ds e f (ih rest)

-- a text with a LF has the line before it, and the lines behind it
pub lines-first : (c : ℕ) (cs : Text) → prefix_len is_text (c ∷ cs) < length (c ∷ cs) → lines (c ∷ cs) ≡ split_line (c ∷ cs)
lines-first c [] l = first_alone c (c == 10) refl l
lines-first c (d ∷ ds) l = first_more c d ds (c == 10) refl (d == 10) refl (c == 13) refl l (λ h. lines-first d ds h)

empty_list : (xs : Text) → length xs ≡ 0 → xs ≡ []
empty_list [] e = refl
empty_list (x ∷ xs) e = absurd (omega (arith, some x xs))

take_length : (xs : Text) → take (length xs) xs ≡ xs
take_length xs = take_all (length xs) xs (omega arith)

after_drop : (xs : Text) (n x : ℕ) (rest : Text) → drop n xs ≡ x ∷ rest → drop (suc n) xs ≡ rest
after_drop xs n x rest e =
    let within : n < length xs = omega (arith, ap length e, length-drop n xs, some x rest) in
    let split : get_or xs n 0 ∷ drop (suc n) xs ≡ x ∷ rest = sym (drop-cons xs n 0 within) ∙ e in
    cc

-- the bytes behind no LF
pub last_line : (text line rest : Text) (n : ℕ) → (length text ≡ 0 → ⊥) → n ≡ prefix_len is_text text → n ≤ length text → line ≡ take n text → rest ≡ drop n text → length rest ≡ 0 → lines text ≡ line ∷ lines rest
last_line [] line rest n full count le f a none = absurd (full refl)
last_line (c ∷ cs) line rest n full count le f a none =
    let all : n ≡ length (c ∷ cs) = omega (arith, ap length a, length-drop n (c ∷ cs)) in
    let whole : line ≡ c ∷ cs = f ∙ ap (λ k. take k (c ∷ cs)) all ∙ take_length (c ∷ cs) in
    let nothing : rest ≡ [] = empty_list rest none in
    rw (whole, nothing) (lines-last c cs (sym count ∙ all))

-- the bytes before a LF, without a CR at their end
pub first_line : (text line rest after : Text) (x n : ℕ) → n ≡ prefix_len is_text text → n ≤ length text → line ≡ take n text → rest ≡ drop n text → rest ≡ x ∷ after → lines text ≡ without_return line ∷ lines after
first_line [] line rest after x n count le f a is =
    let nothing : Text = [] in
    absurd (omega (arith, ap length is, ap length a, length-drop n nothing, some x after))
first_line (c ∷ cs) line rest after x n count le f a is =
    let within : n < length (c ∷ cs) = omega (arith, ap length is, ap length a, length-drop n (c ∷ cs), some x after) in
    let fronts : line ≡ take (prefix_len is_text (c ∷ cs)) (c ∷ cs) = f ∙ ap (λ k. take k (c ∷ cs)) count in
    let one : drop (suc n) (c ∷ cs) ≡ after = after_drop (c ∷ cs) n x after (sym a ∙ is) in
    let back : drop (suc (prefix_len is_text (c ∷ cs))) (c ∷ cs) ≡ after = ap (λ k. drop (suc k) (c ∷ cs)) (sym count) ∙ one in
    rw fronts (lines-first c cs (omega (arith, count)) ∙ rw back refl)

cons_if : (c : ℕ) (cs : Text) (x : ℕ) (b : Bool) → c ∷ (if b then cs else (cs ++ x ∷ [])) ≡ (if b then c ∷ cs else (c ∷ cs ++ x ∷ []))
cons_if c cs x true = refl
cons_if c cs x false = refl

without_two : (c x : ℕ) (b : Bool) → (x == 13) ≡ b → without_return (c ∷ x ∷ []) ≡ (if b then c ∷ [] else (c ∷ x ∷ []))
without_two c x true e = rw e refl
without_two c x false e = rw e refl

without_last : (rest : Text) (x : ℕ) (b : Bool) → (x == 13) ≡ b → without_return (rest ++ x ∷ []) ≡ (if b then rest else (rest ++ x ∷ []))
without_last [] x true e = rw e refl
without_last [] x false e = rw e refl
without_last (c ∷ []) x b e = without_two c x b e
without_last (c ∷ d ∷ ds) x b e = ap (λ y. c ∷ y) (without_last (d ∷ ds) x b e) ∙ cons_if c (d ∷ ds) x b

pub without_return-last : (line rest : Text) (x : ℕ) → line ≡ rest ++ x ∷ [] → (x == 13) ≡ true → rest ≡ without_return line
without_return-last line rest x is e = sym (ap without_return is ∙ without_last rest x true e)

pub without_return-other : (line rest : Text) (x : ℕ) → line ≡ rest ++ x ∷ [] → (x == 13) ≡ false → line ≡ without_return line
without_return-other line rest x is e = is ∙ sym (ap without_return is ∙ without_last rest x false e)

pub without_return-none : (line : Text) → length line ≡ 0 → line ≡ without_return line
without_return-none [] e = refl
without_return-none (x ∷ xs) e = absurd (omega (arith, some x xs))
