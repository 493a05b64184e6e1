-- Behind the lines of a source none of its rows is left.
use Rattle.std.proofs.Common.{◌≡◌, ◌+◌, ◌<◌, ℕ, Bool, true, false, cond, List, [], ◌∷◌, length, refl, subst, arith}
use Rattle.std.proofs.lemmas.Bool.Decides.{nat_tests}
use Rattle.std.proofs.lemmas.List.Elements.{All-cons, All-head, All-nil, All-tail}
use Rattle.std.specs.Prelude.{All, nat_le}
use Rattle.std.specs.Str.Lines.{lines as std_lines}
use Rattle.vax_asm.specs.Walk.{Assembly, names_in, nothing}
use Rattle.vax_dialect.specs.declared.Dialect.{Dialect}
use Rattle.vax_lines.specs.Lines.{lines}
use Rattle.vax_macro.specs.Rest.{Rest, started}
use Rattle.vax_macro_laws.proofs.Numbers.{begun_of, opened_of}
use Rattle.vax_macro_laws.specs.Numbering.{IsLine, IsOfLines, OpensOfLines}
use Rattle.vax_asm_listing.proofs.Texts.{lines_counted}
use Rattle.vax_asm_listing.specs.Listing.{is_own, is_up_to, others_left, own_left, source_left}
use Rattle.vax_asm_listing.specs.Rows.{IsTrace, OpenAll, Opens}
use Rattle.vax_asm_listing.specs.declared.types.Row.{Row}
use Rattle.vax_asm_listing.specs.declared.types.Trace.{Trace}

-- ---- the lines of rows

abbrev AreOfLines : (most : ℕ) → List Row → Type 0
AreOfLines most rows = All (λ (r : Row). IsLine most r.origin.line) rows

given_of : (most : ℕ) (before : Rest) (a : Assembly) (row : Row) (after : Rest) → Opens before a row.origin row.text after → IsOfLines most before → IsLine most row.origin.line × IsOfLines most after
given_of most before a row after o h = subst (OpensOfLines most) o.given (opened_of most o.steps (names_in a.standing) before h)

rows_of : (most : ℕ) (rest : Rest) (a : Assembly) (rows : List Row) (end : Rest) (b : Assembly) → OpenAll rest a rows end b → IsOfLines most rest → AreOfLines most rows
rows_of most rest a [] end b h is = All-nil (λ (r : Row). IsLine most r.origin.line)
rows_of most rest a (row ∷ rows) end b (after, c, opens, first, others) is =
    let one = given_of most rest a row after opens is in
    All-cons (λ (r : Row). IsLine most r.origin.line) row rows one.0 (rows_of most after c rows end b others one.1)

-- ---- what is left

abbrev either : {A : Type 0} → (P : A → Type 0) (b : Bool) (x y : A) → P x → P y → P (cond b x y)
either P true x y h k = h
either P false x y h k = k

others_of : (most number : ℕ) (rows : List Row) → AreOfLines most rows → AreOfLines most (others_left number rows)
unfolding others_left
others_of most number [] h = h
others_of most number (r ∷ rows) h =
    either (AreOfLines most) (is_up_to number r) (others_left number rows) (r ∷ rows) (others_of most number rows (All-tail (λ (r : Row). IsLine most r.origin.line) r rows h)) h

own_of : (most number : ℕ) (text : List ℕ) (rows : List Row) → AreOfLines most rows → AreOfLines most (own_left number text rows)
unfolding own_left
own_of most number text [] h = h
own_of most number text (r ∷ rows) h =
    either (AreOfLines most) (is_own number text r) rows (r ∷ rows) (All-tail (λ (r : Row). IsLine most r.origin.line) r rows h) h

-- the first of these rows is of a line behind so many
abbrev IsBehind : (number : ℕ) → List Row → Type 0
IsBehind number [] = Unit {0}
IsBehind number (r ∷ rows) = number < r.origin.line

over : (a b : ℕ) → nat_le a b ≡ false → b < a
over a b h = grind (arith, nat_tests)

behind_by : (t : Bool) (number : ℕ) (r : Row) (rows : List Row) → is_up_to number r ≡ t → IsBehind number (others_left number rows) → IsBehind number (cond t (others_left number rows) (r ∷ rows))
behind_by true number r rows e h = h
behind_by false number r rows e h = over r.origin.line number e

others_behind : (number : ℕ) (rows : List Row) → IsBehind number (others_left number rows)
unfolding others_left
others_behind number [] = tt
others_behind number (r ∷ rows) = behind_by (is_up_to number r) number r rows refl (others_behind number rows)

none_left : (most number : ℕ) (texts : List (List ℕ)) (rows : List Row) → number + length texts ≡ most → IsBehind number rows → AreOfLines most rows → source_left number texts rows ≡ []
unfolding source_left
none_left most number [] [] is behind h = refl
none_left most number [] (r ∷ rows) is behind h = absurd (let one = All-head (λ (r : Row). IsLine most r.origin.line) r rows h in omega (arith, is, behind, one.1))
none_left most number (t ∷ texts) rows is behind h =
    let own : List Row = own_left (number + 1) t rows in
    none_left most (number + 1) texts (others_left (number + 1) own) (omega (arith, is)) (others_behind (number + 1) own) (others_of most (number + 1) own (own_of most (number + 1) t rows h))

first_behind : (most : ℕ) (rows : List Row) → AreOfLines most rows → IsBehind 0 rows
first_behind most [] h = tt
first_behind most (r ∷ rows) h = (let one = All-head (λ (r : Row). IsLine most r.origin.line) r rows h in omega (arith, one.0))

pub all_listed : (dialect : Dialect) (source : List ℕ) (t : Trace) → IsTrace dialect source t → source_left 0 (lines source) t.notes.rows.items ≡ []
all_listed dialect source t h =
    let most : ℕ = length (std_lines source) in
    let rows : List Row = t.notes.rows.items in
    let of : AreOfLines most rows = rows_of most (started dialect source) (nothing dialect) rows h.left h.behind h.rows (begun_of dialect source) in
    none_left most 0 (lines source) rows (omega (arith, lines_counted source)) (first_behind most rows of) of
