-- Spaces are passed over, and a word is as long as it can be.
use Rattle.std.proofs.Common.{◌≡◌, ℕ, ◌+◌, ◌==◌, not, Bool, true, false, List, [], ◌∷◌, take, drop, length, suc, refl, sym, ap, ◌∙◌, arith}
use Rattle.std.specs.List.{prefix_len}
use Rattle.vax_lines.specs.Lines.{Text}
use Rattle.vax_lines.specs.Words.{is_word_byte, begins_word, longer, words}

abbrev is_space : ℕ → Bool
is_space c = c == 32

one_more : (n : ℕ) → 1 + n ≡ suc n
one_more n = omega arith

spaces_step : (c : ℕ) (cs : Text) (b : Bool) → (c == 32) ≡ b → words (drop (prefix_len is_space cs) cs) ≡ words cs → words (drop (prefix_len is_space (c ∷ cs)) (c ∷ cs)) ≡ words (c ∷ cs)
spaces_step c cs true e ih = rw (e, one_more) ih
spaces_step c cs false e ih =
    let none : prefix_len is_space (c ∷ cs) ≡ 0 = rw e refl in
    ap (λ n. words (drop n (c ∷ cs))) none

-- the same words stand behind the spaces
pub words-spaces : (cs : Text) → words (drop (prefix_len (λ b. b == 32) cs) cs) ≡ words cs
words-spaces [] = refl
words-spaces (c ∷ cs) = spaces_step c cs (c == 32) refl (words-spaces cs)

behind_step : (x : ℕ) (xs : Text) (c : ℕ) (rest : Text) (b : Bool) → (x == 32) ≡ b → drop (prefix_len is_space (x ∷ xs)) (x ∷ xs) ≡ c ∷ rest → (drop (prefix_len is_space xs) xs ≡ c ∷ rest → (c == 32) ≡ false) → (c == 32) ≡ false
behind_step x xs c rest true f e ih =
    let more : drop (prefix_len is_space (x ∷ xs)) (x ∷ xs) ≡ drop (prefix_len is_space xs) xs = rw (f, one_more) refl in
    ih (sym more ∙ e)
behind_step x xs c rest false f e ih =
    let none : prefix_len is_space (x ∷ xs) ≡ 0 = rw f refl in
    let same : x ∷ xs ≡ c ∷ rest = sym (ap (λ n. drop n (x ∷ xs)) none) ∙ e in
    let head : x ≡ c = cc in
    ap (λ n. n == 32) (sym head) ∙ f

-- the first byte behind the spaces is none
behind_spaces : (cs : Text) (c : ℕ) (rest : Text) → drop (prefix_len (λ b. b == 32) cs) cs ≡ c ∷ rest → (c == 32) ≡ false
behind_spaces [] c rest e = cc
behind_spaces (x ∷ xs) c rest e = behind_step x xs c rest (x == 32) refl e (λ f. behind_spaces xs c rest f)

-- the word in front, and what stands behind it
abbrev split_word : Text → List Text
split_word cs = take (prefix_len is_word_byte cs) cs ∷ words (drop (prefix_len is_word_byte cs) cs)

split-longer : (c : ℕ) (cs : Text) → (c == 32) ≡ false → longer c (split_word cs) ≡ split_word (c ∷ cs)
split-longer c cs e = rw (e, one_more) refl

split-alone : (c : ℕ) (cs : Text) → (c == 32) ≡ false → prefix_len is_word_byte cs ≡ 0 → (c ∷ []) ∷ words cs ≡ split_word (c ∷ cs)
split-alone c cs e z = rw (e, z) refl

pub words-longer : (c : ℕ) (cs : Text) → (c == 32) ≡ false → begins_word cs ≡ true → words (c ∷ cs) ≡ longer c (words cs)
words-longer c cs e f = rw (e, f) refl

pub words-alone : (c : ℕ) (cs : Text) → (c == 32) ≡ false → begins_word cs ≡ false → words (c ∷ cs) ≡ (c ∷ []) ∷ words cs
words-alone c cs e f = rw (e, f) refl

word_more : (c d : ℕ) (cs : Text) → (c == 32) ≡ false → (b : Bool) → (d == 32) ≡ b → (b ≡ false → words (d ∷ cs) ≡ split_word (d ∷ cs)) → words (c ∷ d ∷ cs) ≡ split_word (c ∷ d ∷ cs)
word_more c d cs e false f ih = words-longer c (d ∷ cs) e (ap not f) ∙ ap (longer c) (ih refl) ∙ split-longer c (d ∷ cs) e
word_more c d cs e true f ih =
    let none : prefix_len is_word_byte (d ∷ cs) ≡ 0 = rw f refl in
    words-alone c (d ∷ cs) e (ap not f) ∙ split-alone c (d ∷ cs) e none

-- a text that begins with a byte of a word begins with that word
pub words-word : (c : ℕ) (cs : Text) → (c == 32) ≡ false → words (c ∷ cs) ≡ split_word (c ∷ cs)
words-word c [] e = rw e refl
words-word c (d ∷ cs) e = word_more c d cs e (d == 32) refl (λ t. words-word d cs t)

-- no word stands behind the spaces
pub no_word : (text behind : Text) (n : ℕ) → n ≡ prefix_len is_space text → behind ≡ drop n text → length behind ≡ 0 → words text ≡ []
no_word text [] n count back none = sym (words-spaces text) ∙ ap words (ap (λ k. drop k text) (sym count) ∙ sym back)
no_word text (c ∷ cs) n count back none = absurd (cc none)

-- the first word of a text is the word behind its spaces
pub word_first : (text behind : Text) (n m : ℕ) (front after : Text) → n ≡ prefix_len is_space text → behind ≡ drop n text → (length behind ≡ 0 → ⊥) → m ≡ prefix_len is_word_byte behind → front ≡ take m behind → after ≡ drop m behind → words text ≡ front ∷ words after
word_first text [] n m front after count back some len f a = absurd (some refl)
word_first text (c ∷ cs) n m front after count back some len f a =
    let is : drop (prefix_len is_space text) text ≡ c ∷ cs = ap (λ k. drop k text) (sym count) ∙ sym back in
    let split : words text ≡ split_word (c ∷ cs) = sym (words-spaces text) ∙ ap words is ∙ words-word c cs (behind_spaces text c cs is) in
    let fronts : front ≡ take (prefix_len is_word_byte (c ∷ cs)) (c ∷ cs) = f ∙ ap (λ k. take k (c ∷ cs)) len in
    let afters : after ≡ drop (prefix_len is_word_byte (c ∷ cs)) (c ∷ cs) = a ∙ ap (λ k. drop k (c ∷ cs)) len in
    rw (fronts, afters) split
