-- The first line of a text.
use Rattle.std.proofs.Common.{◌≡◌, ◌<◌, ◌≤◌, ℕ, suc, ◌+◌, ◌==◌, Bool, true, false, cond, List, [], ◌∷◌, length, take, drop, refl, ap, sym, ◌∙◌, arith}
use Rattle.std.specs.List.{slice_split, onto_first, position_or_len, before_first, after_first}
use Rattle.std.specs.Str.Lines.{lines, lines_of_parts, strip_carriage_return}
use Rattle.std.proofs.lemmas.List.{drop_all}
use Rattle.std.proofs.lemmas.Bool.Decides.{nat_tests}
use Rattle.std.proofs.lemmas.List.Splits.{slice_split_first, slice_split-cons_no, length-slice_split}

abbrev pub is_feed : ℕ → Bool
is_feed b = b == 10

parts_cons : (x : List ℕ) (parts : List (List ℕ)) → 0 < length parts → lines_of_parts (x ∷ parts) ≡ strip_carriage_return x ∷ lines_of_parts parts
parts_cons x [] h = absurd (omega (arith, h))
parts_cons x (y ∷ more) h = refl

-- with a line feed behind it
pub line_first : (text : List ℕ) (end : ℕ) → end ≡ position_or_len is_feed text → end < length text → lines text ≡ strip_carriage_return (take end text) ∷ lines (drop (end + 1) text)
line_first text end e h =
    rw e (ap lines_of_parts (slice_split_first is_feed text 0 (rw e at h))
    ∙ parts_cons (before_first is_feed text) (slice_split is_feed (after_first is_feed text)) (omega (arith, length-slice_split is_feed (after_first is_feed text))))

found_first : (x : ℕ) (xs : List ℕ) → is_feed x ≡ true → position_or_len is_feed (x ∷ xs) ≡ 0
found_first x xs h = rw h refl

found_later : (x : ℕ) (xs : List ℕ) → is_feed x ≡ false → position_or_len is_feed (x ∷ xs) ≡ 1 + position_or_len is_feed xs
found_later x xs h = rw h refl

one_part : (xs : List ℕ) → position_or_len is_feed xs ≡ length xs → slice_split is_feed xs ≡ xs ∷ []
one_part [] h = refl
one_part (x ∷ xs) h = at_head (is_feed x) refl (one_part xs)
  where
    at_head : (b : Bool) → is_feed x ≡ b → (position_or_len is_feed xs ≡ length xs → slice_split is_feed xs ≡ xs ∷ []) → slice_split is_feed (x ∷ xs) ≡ (x ∷ xs) ∷ []
    at_head true e more = absurd (omega (arith, h, found_first x xs e))
    at_head false e more = slice_split-cons_no is_feed x xs e ∙ ap (onto_first x) (more (omega (arith, h, found_later x xs e)))

some_line : (text : List ℕ) → 0 < length text → lines_of_parts (text ∷ []) ≡ text ∷ []
some_line [] h = absurd (omega (arith, h))
some_line (b ∷ text) h =
    let some : (suc (length text) == 0) ≡ false = grind (arith, nat_tests) in
    ap (λ (t : Bool). cond t [] ((b ∷ text) ∷ [])) some

-- with none
pub line_last : (text : List ℕ) (end : ℕ) → end ≡ position_or_len is_feed text → 0 < length text → length text ≤ end → end ≤ length text → lines text ≡ text ∷ lines (drop (length text) text)
line_last text end e some h k =
    let all : position_or_len is_feed text ≡ length text = omega (arith, e, h, k) in
    ap lines_of_parts (one_part text all) ∙ some_line text some ∙ ap (λ (rest : List ℕ). text ∷ lines rest) (sym (drop_all (length text) text (omega arith)))
