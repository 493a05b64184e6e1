-- MATCHC: the first place at which an object stands in a string
-- (VAX MACRO and Instruction Set Reference Manual, character string instructions).
use Rattle.std.specs.Prelude.{ℕ, suc, zero, ◌+◌, ◌-◌, ◌/◌, Bool, true, false, ◌==◌, ◌||◌, ◌&&◌, nat_lt, if◌then◌else◌, List, [], ◌∷◌, slice_index}
use Rattle.vax_word.specs.declared.Codes.{Codes}
use Rattle.vax_strpart.specs.declared.packing.Progress.{Progress}
use Rattle.vax_flat.specs.declared.Flow.{Flow}
use Rattle.vax_flat.specs.Memory.{after}
use Rattle.vax_flat.specs.State.{State}
use Rattle.vax_flat.specs.Accesses.{Accesses, Leaf}
use Rattle.vax_flat.specs.Operand.{plus, read_at}
use Rattle.vax_flat.specs.String.{low_registers, leaves, completed}

-- R0 to R3
abbrev pub matched_low : ℕ → ℕ → ℕ → ℕ → List ℕ → List ℕ
matched_low left object rest behind old = left ∷ object ∷ rest ∷ behind ∷ slice_index old 4 ∷ slice_index old 5 ∷ []

abbrev pub match_codes : Bool → Codes
match_codes found = record { n = false; z = found; v = false; c = false }

-- the object of the progress stands at the present place
unfoldable pub matched : Progress → State → (Flow → State → Accesses Leaf) → Accesses Leaf
matched p s next =
    completed (matched_low 0 (plus p.addr1 p.len1) (p.len2 - p.len1) (plus p.addr2 p.len1) (low_registers s)) (match_codes true) s next

-- it stands nowhere
unfoldable pub unmatched : Progress → State → (Flow → State → Accesses Leaf) → Accesses Leaf
unmatched p s next =
    completed (matched_low p.len1 p.addr1 0 (plus p.addr2 p.len2) (low_registers s)) (match_codes false) s next

-- so many bytes of two strings are compared one after another, up to the first that differ
unfoldable pub agreeing : ℕ → ℕ → ℕ → State → (Bool → State → Accesses Leaf) → Accesses Leaf
agreeing zero a b s next = next true s
agreeing (suc count) a b s next =
    read_at a 1 s (λ x s.
    read_at b 1 s (λ y s.
    if x == y then agreeing count (after a) (after b) s next else next false s))

-- the next place of the string
abbrev pub at_next_place : Progress → Progress
at_next_place p = record p { len2 = p.len2 - 1; addr2 = plus p.addr2 1; done = 0 }

-- the object is looked for at so many places, one after another; at the first so many bytes are known to agree
unfoldable pub match : ℕ → Progress → State → (Flow → State → Accesses Leaf) → Accesses Leaf
match zero p s next = unmatched p s next
match (suc places) p s next =
    agreeing (p.len1 - p.done) (plus p.addr1 p.done) (plus p.addr2 p.done) s (λ agree s.
    if agree then matched p s next else match places (at_next_place p) s next)

-- there are no places where the object is longer than the string
unfoldable pub places_of : Progress → ℕ
places_of p = if nat_lt p.len2 p.len1 then 0 else p.len2 - p.len1 + 1

-- the whole instruction, or what remains of it
abbrev pub whole_match : Progress → State → (Flow → State → Accesses Leaf) → Accesses Leaf
whole_match p s next = match (places_of p) p s next

-- one byte of the object is compared, and then this remains
unfoldable pub match_unit : Progress → State → (Progress → State → Accesses Leaf) → Accesses Leaf
match_unit p s next =
    read_at (plus p.addr1 p.done) 1 s (λ x s.
    read_at (plus p.addr2 p.done) 1 s (λ y s.
    if x == y then next (record p { done = p.done + 1 }) s else next (at_next_place p) s))

-- the two bytes that the next unit compares lie in these two pages
abbrev pub is_near : ℕ → ℕ → Progress → Bool
is_near first second p =
    let a = plus p.addr1 p.done / 512 in
    let b = plus p.addr2 p.done / 512 in
    (a == first || a == second) && (b == first || b == second)

-- the end of a part that made so many units
abbrev pub match_end : Progress → ℕ → State → (Flow → State → Accesses Leaf) → Accesses Leaf
match_end p units s next =
    if nat_lt p.len2 p.len1 then unmatched p s next
    else if p.done == p.len1 then matched p s next
    else leaves p units s next

-- what remains once a part made so many units: at most so many more, in these pages
unfoldable pub match_on : ℕ → ℕ → ℕ → ℕ → Progress → State → (Flow → State → Accesses Leaf) → Accesses Leaf
match_on zero units first second p s next = match_end p units s next
match_on (suc more) units first second p s next =
    if nat_lt p.len2 p.len1 then unmatched p s next
    else if p.done == p.len1 then matched p s next
    else if is_near first second p then match_unit p s (λ p s. match_on more (units + 1) first second p s next)
    else leaves p units s next

-- a part: at most 512 units, in the pages of its first
unfoldable pub match_part : Progress → State → (Flow → State → Accesses Leaf) → Accesses Leaf
match_part p s next = match_on 512 0 (plus p.addr1 p.done / 512) (plus p.addr2 p.done / 512) p s next
