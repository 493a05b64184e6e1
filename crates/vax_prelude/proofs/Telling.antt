-- A line of joined texts is the line that is told.
use Rattle.std.proofs.Common.{◌≡◌, ◌<◌, ◌≤◌, ◌+◌, ◌-◌, ◌==◌, ◌&&◌, ◌++◌, ℕ, zero, suc, nat_le, Bool, true, false, List, [], ◌∷◌, length, refl, ap, sym, ◌∙◌, arith, append_assoc}
use Rattle.std.proofs.lemmas.Bool.Decides.{nat_tests}
use Rattle.std.specs.List.{flat_map}
use Rattle.vax_lines.specs.Lines.{Text, begins_with, begun, lines}
use Rattle.vax_prelude.specs.Laws.{AreEnded, line_at, line_of, text_from}
use Rattle.vax_prelude.specs.Preludes.{InPrelude, InSource, Place, Prelude, ends, told_at, told_from}

-- ---- the lines of two texts, the first of which ends

abbrev HasLine : List Text → Type 0
HasLine all = (first : Text) × (rest : List Text) × (all ≡ first ∷ rest)

begun_has : (c : ℕ) (all : List Text) → HasLine (begun c all)
begun_has c [] = (c ∷ [], [], refl)
begun_has c (line ∷ rest) = (c ∷ line, rest, refl)

second : (a b : Bool) → (a && b) ≡ true → b ≡ true
second true b e = e
second false b e = absurd (cc e)

has_by : (c : ℕ) (cs : Text) (a b : Bool) → (c == 10) ≡ a → (c == 13 && begins_with 10 cs) ≡ b → (begins_with 10 cs ≡ true → HasLine (lines cs)) → HasLine (lines (c ∷ cs))
has_by c cs true b e f more = ([], lines cs, rw e refl)
has_by c cs false true e f more =
    let begins : begins_with 10 cs ≡ true = second (c == 13) (begins_with 10 cs) f in
    let h = more begins in
    let same : lines (c ∷ cs) ≡ lines cs = rw (e, f) refl in
    (h.0, h.1, same ∙ h.2)
has_by c cs false false e f more =
    let h = begun_has c (lines cs) in
    let same : lines (c ∷ cs) ≡ begun c (lines cs) = rw (e, f) refl in
    (h.0, h.1, same ∙ h.2)

has_line : (c : ℕ) (cs : Text) → HasLine (lines (c ∷ cs))
has_line c [] = has_by c [] (c == 10) (c == 13 && begins_with 10 []) refl refl (λ no. absurd (cc no))
has_line c (d ∷ ds) = has_by c (d ∷ ds) (c == 10) (c == 13 && begins_with 10 (d ∷ ds)) refl refl (λ begins. has_line d ds)

begun_front : (c : ℕ) (front behind : List Text) → HasLine front → begun c (front ++ behind) ≡ begun c front ++ behind
begun_front c [] behind h = absurd (let e : [] ≡ h.0 ∷ h.1 = h.2 in cc)
begun_front c (line ∷ rest) behind h = refl

split_by : (c d : ℕ) (ds text : Text) (a b : Bool) → (c == 10) ≡ a → (c == 13 && (d == 10)) ≡ b → lines (d ∷ (ds ++ text)) ≡ lines (d ∷ ds) ++ lines text → lines (c ∷ d ∷ (ds ++ text)) ≡ lines (c ∷ d ∷ ds) ++ lines text
split_by c d ds text true b e f more = rw e (ap (λ (l : List Text). [] ∷ l) more)
split_by c d ds text false true e f more = rw (e, f) more
split_by c d ds text false false e f more = rw (e, f) (ap (begun c) more ∙ begun_front c (lines (d ∷ ds)) (lines text) (has_line d ds))

lines_split : (front text : Text) → ends front ≡ true → lines (front ++ text) ≡ lines front ++ lines text
unfolding ends
lines_split [] text e = refl
lines_split (c ∷ []) text e = rw e refl
lines_split (c ∷ d ∷ ds) text e = split_by c d ds text (c == 10) (c == 13 && (d == 10)) refl refl (lines_split (d ∷ ds) text e)

-- ---- a line of two lists

none_at : (all : List Text) → line_of 0 all ≡ []
none_at [] = refl
none_at (line ∷ more) = refl

within_by : (m : ℕ) (line : Text) (front behind : List Text) (b : Bool) → (m == 0) ≡ b → line_of m (front ++ behind) ≡ line_of m front → line_of (suc m) (line ∷ (front ++ behind)) ≡ line_of (suc m) (line ∷ front)
within_by m line front behind true e more = rw e refl
within_by m line front behind false e more = rw e more

line_within : (n : ℕ) (front behind : List Text) → n ≤ length front → line_of n (front ++ behind) ≡ line_of n front
line_within n [] behind few = let none : n ≡ 0 = omega (arith, few) in rw none (none_at behind)
line_within zero (line ∷ front) behind few = refl
line_within (suc m) (line ∷ front) behind few = within_by m line front behind (m == 0) refl (line_within m front behind (omega (arith, few)))

line_behind : (n : ℕ) (front behind : List Text) → length front < n → line_of n (front ++ behind) ≡ line_of (n - length front) behind
line_behind n [] behind many = let same : n - 0 ≡ n = omega arith in rw same refl
line_behind zero (line ∷ front) behind many = absurd (omega (arith, many))
line_behind (suc m) (line ∷ front) behind many =
    let some : (m == 0) ≡ false = grind (arith, nat_tests, many) in
    let same : suc m - suc (length front) ≡ m - length front = omega arith in
    rw (some, same) (line_behind m front behind (omega (arith, many)))

-- ---- whose line it is

abbrev shown : (first : ℕ) → List Prelude → Text → Place → Text
shown first preludes source (InPrelude number name line) = line_of line (lines (text_from first number preludes))
shown first preludes source (InSource line) = line_of line (lines source)

later_by : (first f : ℕ) (p : Prelude) (all : List Prelude) (source : Text) (q : Prelude) (rest : List Prelude) (line : ℕ) (b : Bool) → first < f → nat_le line (length (lines q.text)) ≡ b
    → shown first (p ∷ all) source (told_from (suc f) rest (line - length (lines q.text))) ≡ shown (suc first) all source (told_from (suc f) rest (line - length (lines q.text)))
    → shown first (p ∷ all) source (told_from f (q ∷ rest) line) ≡ shown (suc first) all source (told_from f (q ∷ rest) line)
later_by first f p all source q rest line true less e more =
    let other : (first == f) ≡ false = grind (arith, nat_tests, less) in
    rw (e, other) refl
later_by first f p all source q rest line false less e more = rw e more

shown_later : (first f : ℕ) (p : Prelude) (all : List Prelude) (source : Text) (rest : List Prelude) (line : ℕ) → first < f → shown first (p ∷ all) source (told_from f rest line) ≡ shown (suc first) all source (told_from f rest line)
shown_later first f p all source [] line less = refl
shown_later first f p all source (q ∷ rest) line less =
    later_by first f p all source q rest line (nat_le line (length (lines q.text))) less refl (shown_later first (suc f) p all source rest (line - length (lines q.text)) (omega (arith, less)))

abbrev Says : ℕ → List Prelude → Text → ℕ → Type 0
Says first preludes source line = line_of line (lines (flat_map (λ p. p.text) preludes ++ source)) ≡ shown first preludes source (told_from first preludes line)

same_number : (n : ℕ) → (n == n) ≡ true
same_number n = grind (arith, nat_tests)

says_at : (first : ℕ) (p : Prelude) (rest : List Prelude) (source : Text) (line : ℕ) (b : Bool) → nat_le line (length (lines p.text)) ≡ b → Says (suc first) rest source (line - length (lines p.text))
    → line_of line (lines p.text ++ lines (flat_map (λ p. p.text) rest ++ source)) ≡ shown first (p ∷ rest) source (told_from first (p ∷ rest) line)
says_at first p rest source line true e more =
    let few : line ≤ length (lines p.text) = grind (arith, nat_tests, e) in
    rw (e, same_number first) (line_within line (lines p.text) (lines (flat_map (λ (p : Prelude). p.text) rest ++ source)) few)
says_at first p rest source line false e more =
    let many : length (lines p.text) < line = grind (arith, nat_tests, e) in
    rw e (line_behind line (lines p.text) (lines (flat_map (λ (p : Prelude). p.text) rest ++ source)) many ∙ more
    ∙ sym (shown_later first (suc first) p rest source rest (line - length (lines p.text)) (omega arith)))

says_by : (first : ℕ) (p : Prelude) (rest : List Prelude) (source : Text) (line : ℕ) (b : Bool) → nat_le line (length (lines p.text)) ≡ b → ends p.text ≡ true → Says (suc first) rest source (line - length (lines p.text)) → Says first (p ∷ rest) source line
says_by first p rest source line b e ended more =
    let others : Text = flat_map (λ (p : Prelude). p.text) rest ++ source in
    let texts : lines ((p.text ++ flat_map (λ (p : Prelude). p.text) rest) ++ source) ≡ lines p.text ++ lines others = ap lines (append_assoc p.text (flat_map (λ (p : Prelude). p.text) rest) source) ∙ lines_split p.text others ended in
    ap (line_of line) texts ∙ says_at first p rest source line b e more

says : (first : ℕ) (preludes : List Prelude) (source : Text) (line : ℕ) → AreEnded preludes → Says first preludes source line
says first [] source line h = refl
says first (p ∷ rest) source line (one, others) = says_by first p rest source line (nat_le line (length (lines p.text))) refl one (says (suc first) rest source (line - length (lines p.text)) others)

seen_so : (preludes : List Prelude) (source : Text) (place : Place) → shown 1 preludes source place ≡ line_at preludes source place
seen_so preludes source (InPrelude number name line) = refl
seen_so preludes source (InSource line) = refl

pub told_so : (preludes : List Prelude) (source : Text) (line : ℕ) → AreEnded preludes → line_of line (lines (flat_map (λ p. p.text) preludes ++ source)) ≡ line_at preludes source (told_at preludes line)
unfolding told_at
told_so preludes source line h = says 1 preludes source line h ∙ seen_so preludes source (told_from 1 preludes line)
