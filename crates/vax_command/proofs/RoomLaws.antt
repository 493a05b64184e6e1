-- Memory that is read piece by piece.
use Rattle.std.proofs.Common.{◌≡◌, ◌≤◌, ◌+◌, ◌++◌, ◌∷◌, [], ℕ, suc, List, Option, All, ap, arith, drop, length, map, refl, subst, sym, take, ◌∙◌}
use Rattle.std.proofs.Math.Seq.{take-append_seam}
use Rattle.std.proofs.lemmas.List.{append_assoc}
use Rattle.vax_space.specs.declared.Area.{Area}
use Rattle.vax_machine.specs.Console.{memory_from, pages_in}
use Rattle.vax_report.specs.declared.Dump.{Dump}
use Rattle.vax_cli.specs.Said.{IsDump}
use Rattle.vax_command.specs.Room.{item_of, items_of, pages_shown}
use Rattle.vax_command.specs.Went.{shown}
use Rattle.vax_command.specs.declared.dump.Blank.{Blank}

-- one more was read
pub one_filled : (memory : List Area) (dumps all : List Dump) (blank : Blank) (rest before : List Blank) (cells : List (Option ℕ)) → before ≡ blank ∷ rest → dumps ++ map (shown memory) (items_of before) ≡ all → cells ≡ memory_from memory blank.address (length blank.cells.items)
    → (dumps ++ record { addr = blank.address; bytes = cells } ∷ []) ++ map (shown memory) (items_of rest) ≡ all
one_filled memory dumps all blank rest before cells e h is =
    let shows : record { addr = blank.address; bytes = cells } ≡ shown memory (item_of blank) = ap (λ bytes. record { addr = blank.address; bytes = bytes }) is in
    let one : (dumps ++ record { addr = blank.address; bytes = cells } ∷ []) ++ map (shown memory) (items_of rest) ≡ dumps ++ (shown memory (item_of blank) ∷ map (shown memory) (items_of rest)) =
    append_assoc dumps (record { addr = blank.address; bytes = cells } ∷ []) (map (shown memory) (items_of rest)) ∙ ap (λ (d : Dump). dumps ++ (d ∷ map (shown memory) (items_of rest))) shows in
    one ∙ (ap (λ (bs : List Blank). dumps ++ map (shown memory) (items_of bs)) (sym e) ∙ h)

-- each has few cells

first_small : (blank : Blank) (rest : List Blank) → All IsDump (items_of (blank ∷ rest)) → IsDump (item_of blank)
first_small blank rest h = h 0 (item_of blank) (omega arith)

pub few_cells : (before rest : List Blank) (blank : Blank) → before ≡ blank ∷ rest → All IsDump (items_of before) → length blank.cells.items ≤ 4096
few_cells before rest blank e h = (first_small blank rest (subst (λ (bs : List Blank). All IsDump (items_of bs)) e h)).few

behind_small : (blank : Blank) (rest : List Blank) → All IsDump (items_of (blank ∷ rest)) → All IsDump (items_of rest)
behind_small blank rest h = λ k d l. h (suc k) d (omega (arith, l))

pub others_small : (before rest : List Blank) (blank : Blank) → before ≡ blank ∷ rest → All IsDump (items_of before) → All IsDump (items_of rest)
others_small before rest blank e h = behind_small blank rest (subst (λ (bs : List Blank). All IsDump (items_of bs)) e h)

-- there is room for those that are left
pub room_left : (before rest : List Blank) (blank : Blank) (n m most now : ℕ) → before ≡ blank ∷ rest → length before + n ≤ most → m ≡ n + 1 → now ≡ most → length rest + m ≤ now
room_left before rest blank n m most now e h grown same =
    let one : length before ≡ suc (length rest) = ap length e in
    omega (arith, one, h, grown, same)

-- all cells were written
pub written_all : (cells before : List (Option ℕ)) (count : ℕ) → count ≡ length cells → take count (cells ++ drop (length cells) before) ≡ cells
written_all cells before count e = rw e (take-append_seam cells (drop (length cells) before))

-- where one is left there are some
pub not_none : (before rest : List Blank) (blank : Blank) → before ≡ blank ∷ rest → before ≡ [] → ⊥
not_none before rest blank e none = let no : [] ≡ blank ∷ rest = sym none ∙ e in cc no

-- the pages of the first item and those of the others
pub one_shown : (before rest : List Blank) (blank : Blank) (cells : List (Option ℕ)) → before ≡ blank ∷ rest → cells ≡ blank.cells.items → pages_shown (items_of before) ≡ pages_in blank.address (length cells) + pages_shown (items_of rest)
unfolding pages_shown
one_shown before rest blank cells e is =
    ap (λ (bs : List Blank). pages_shown (items_of bs)) e ∙ ap (λ (z : List (Option ℕ)). pages_in blank.address (length z) + pages_shown (items_of rest)) (sym is)

-- where nothing is asked for there is no room
pub none_asked : (blanks : List Blank) → items_of blanks ≡ [] → blanks ≡ []
none_asked [] e = refl
none_asked (blank ∷ rest) e = let bad : item_of blank ∷ items_of rest ≡ [] = e in cc
