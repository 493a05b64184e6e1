-- How many lines a text has, by each of two definitions.
use Rattle.std.proofs.Common.{◌≡◌, ◌≤◌, ◌<◌, ℕ, suc, ◌==◌, Bool, true, false, cond, List, [], ◌∷◌, length, refl, sym, ap, ◌∙◌, arith}
use Rattle.std.specs.List.{onto_first, slice_split}
use Rattle.std.specs.Str.Lines.{lines_of_parts}
use Rattle.std.specs.Str.Lines.{lines as std_lines}
use Rattle.std.proofs.lemmas.Bool.Decides.{nat_tests}
use Rattle.std.proofs.lemmas.List.Splits.{length-slice_split, slice_split-cons_no, slice_split-cons_yes}
use Rattle.std.specs.Prelude.{◌&&◌}
use Rattle.vax_lines.specs.Lines.{Text, begins_with, begun, lines}

abbrev is_feed : ℕ → Bool
is_feed b = b == 10

abbrev parts_of : Text → List Text
parts_of text = slice_split is_feed text

-- a CR right before a LF
abbrev is_pair : ℕ → Text → Bool
is_pair c cs = c == 13 && begins_with 10 cs

some_parts : (text : Text) → 0 < length (parts_of text)
some_parts text = omega (arith, length-slice_split is_feed text)

part_more : (x : Text) (parts : List Text) → 0 < length parts → length (lines_of_parts (x ∷ parts)) ≡ suc (length (lines_of_parts parts))
part_more x [] h = absurd (omega (arith, h))
part_more x (y ∷ more) h = refl

one_part : (c : ℕ) (cs : Text) → length (lines_of_parts ((c ∷ cs) ∷ [])) ≡ 1
one_part c cs =
    let some : (suc (length cs) == 0) ≡ false = grind (arith, nat_tests) in
    ap (λ (t : Bool). length (cond t [] ((c ∷ cs) ∷ []))) some

few_parts : (p : Text) → length (lines_of_parts (p ∷ [])) ≤ 1
few_parts [] = omega arith
few_parts (c ∷ cs) = omega (arith, one_part c cs)

begun_more : (c : ℕ) (all : List Text) (n : ℕ) → length all ≡ suc n → length (begun c all) ≡ suc n
begun_more c [] n h = absurd (omega (arith, h))
begun_more c (l ∷ all) n h = h

begun_one : (c : ℕ) (all : List Text) → length all ≤ 1 → length (begun c all) ≡ 1
begun_one c [] h = refl
begun_one c (l ∷ []) h = refl
begun_one c (l ∷ k ∷ all) h = absurd (omega (arith, h))

at_pair : (b : Bool) (c : ℕ) (cs : Text) (n : ℕ) → (c == 10) ≡ false → is_pair c cs ≡ b → length (lines cs) ≡ suc n → length (lines (c ∷ cs)) ≡ suc n
at_pair true c cs n e f h = rw (e, f) h
at_pair false c cs n e f h = rw (e, f) (begun_more c (lines cs) n h)

alone : (c : ℕ) → is_pair c [] ≡ false
alone c = grind arith

no_pair_by : (b : Bool) (c d : ℕ) (ds p : Text) → (d == 10) ≡ b → parts_of (d ∷ ds) ≡ p ∷ [] → is_pair c (d ∷ ds) ≡ false
no_pair_by true c d ds p e h =
    let both : p ∷ [] ≡ [] ∷ parts_of ds = sym h ∙ slice_split-cons_yes is_feed d ds e in
    absurd (omega (arith, ap length both, some_parts ds))
no_pair_by false c d ds p e h = grind (arith, e)

no_pair : (c : ℕ) (cs p : Text) → parts_of cs ≡ p ∷ [] → is_pair c cs ≡ false
no_pair c [] p h = alone c
no_pair c (d ∷ ds) p h = no_pair_by (d == 10) c d ds p refl h

unpaired : (c : ℕ) (cs : Text) → (c == 10) ≡ false → is_pair c cs ≡ false → lines (c ∷ cs) ≡ begun c (lines cs)
unpaired c cs e f = rw (e, f) refl

onto : (c : ℕ) (cs : Text) (parts : List Text) → parts_of cs ≡ parts → (c == 10) ≡ false → length (lines cs) ≡ length (lines_of_parts parts) → length (lines (c ∷ cs)) ≡ length (lines_of_parts (onto_first c parts))
onto c cs [] is e h = absurd (omega (arith, ap length is, some_parts cs))
onto c cs (p ∷ []) is e h =
    let one : length (begun c (lines cs)) ≡ 1 = begun_one c (lines cs) (omega (arith, h, few_parts p)) in
    ap length (unpaired c cs e (no_pair c cs p is)) ∙ (one ∙ sym (one_part c p))
onto c cs (p ∷ q ∷ parts) is e h = at_pair (is_pair c cs) c cs (length (lines_of_parts (q ∷ parts))) e refl h

feed : (c : ℕ) (cs : Text) → (c == 10) ≡ true → lines (c ∷ cs) ≡ [] ∷ lines cs
feed c cs e = rw e refl

by_first : (b : Bool) (c : ℕ) (cs : Text) → (c == 10) ≡ b → length (lines cs) ≡ length (lines_of_parts (parts_of cs)) → length (lines (c ∷ cs)) ≡ length (lines_of_parts (parts_of (c ∷ cs)))
by_first true c cs e h =
    ap length (feed c cs e) ∙ (ap suc h ∙ (sym (part_more [] (parts_of cs) (some_parts cs)) ∙ ap (λ (l : List Text). length (lines_of_parts l)) (sym (slice_split-cons_yes is_feed c cs e))))
by_first false c cs e h = onto c cs (parts_of cs) refl e h ∙ ap (λ (l : List Text). length (lines_of_parts l)) (sym (slice_split-cons_no is_feed c cs e))

pub lines_counted : (text : Text) → length (lines text) ≡ length (std_lines text)
lines_counted [] = refl
lines_counted (c ∷ cs) = by_first (c == 10) c cs refl (lines_counted cs)
