-- CMPC3 and CMPC5: two strings compared, the shorter filled
-- (VAX MACRO and Instruction Set Reference Manual, character string instructions).
use Rattle.std.specs.Prelude.{ℕ, suc, zero, ◌+◌, ◌-◌, ◌/◌, ◌^◌, true, false, ◌==◌, nat_le, min, max, if◌then◌else◌, List, [], ◌∷◌, ◌++◌, slice_index, replicate}
use Rattle.vax_word.specs.declared.Size.TheVariants.{B}
use Rattle.vax_word.specs.Arithmetic.{compared}
use Rattle.vax_space.specs.declared.Access.TheVariants.{Read}
use Rattle.vax_strpart.specs.declared.packing.Progress.{Progress}
use Rattle.vax_strpart.specs.Kernels.{first_difference}
use Rattle.vax_flat.specs.declared.Flow.{Flow}
use Rattle.vax_flat.specs.declared.Rest.{Rest}
use Rattle.vax_flat.specs.State.{State}
use Rattle.vax_flat.specs.Accesses.{Accesses, Leaf}
use Rattle.vax_flat.specs.Operand.{plus, read_at, check_at}
use Rattle.vax_flat.specs.String.{low_registers, leaves, completed, read_span, room_up}
use Rattle.vax_flat.specs.StringSearch.{if_found}

-- the rest behind so many bytes; that of a string that is exhausted is empty, past its end
abbrev pub behind : ℕ → Rest → Rest
behind count r = record { len = r.len - count; addr = plus r.addr (min count r.len) }

-- R0 to R3: what is left of both strings
abbrev pub compared_in : Rest → Rest → List ℕ → List ℕ
compared_in a b old = a.len ∷ a.addr ∷ b.len ∷ b.addr ∷ slice_index old 4 ∷ slice_index old 5 ∷ []

-- the strings differ here, or they are equal and nothing is left
unfoldable pub differs : Rest → Rest → ℕ → ℕ → State → (Flow → State → Accesses Leaf) → Accesses Leaf
differs a b x y s next = completed (compared_in a b (low_registers s)) (compared B x y) s next

unfoldable pub equals : Rest → Rest → State → (Flow → State → Accesses Leaf) → Accesses Leaf
equals a b s next =
    completed (compared_in a b (low_registers s)) (record { n = false; z = true; v = false; c = false }) s next

-- the first byte of what is left, or the fill
unfoldable pub byte_or : ℕ → Rest → State → (ℕ → State → Accesses Leaf) → Accesses Leaf
byte_or fill r s next = if r.len == 0 then next fill s else read_at r.addr 1 s next

-- so many pairs of bytes are compared one after another, up to the first that differ
unfoldable pub compare : ℕ → ℕ → Rest → Rest → State → (Flow → State → Accesses Leaf) → Accesses Leaf
compare fill zero a b s next = equals a b s next
compare fill (suc pairs) a b s next =
    byte_or fill a s (λ x s.
    byte_or fill b s (λ y s.
    if x == y then compare fill pairs (behind 1 a) (behind 1 b) s next else differs a b x y s next))

abbrev pub first_of : Progress → Rest
first_of p = record { len = p.len1; addr = p.addr1 }

abbrev pub second_of : Progress → Rest
second_of p = record { len = p.len2; addr = p.addr2 }

-- the pairs of both strings
abbrev pub pairs_of : Progress → ℕ
pairs_of p = max p.len1 p.len2

-- the whole instruction, or what remains of it
abbrev pub whole_compare : Progress → State → (Flow → State → Accesses Leaf) → Accesses Leaf
whole_compare p s next =
    compare p.byte (pairs_of p - p.done) (behind p.done (first_of p)) (behind p.done (second_of p)) s next

-- the page of the first byte of what is left, or none that is beside another
abbrev pub first_page : Rest → ℕ
first_page r = if r.len == 0 then 2 ^ 23 + 1 else r.addr / 512

-- how many pairs a part has at most, so that one string stays in the pages of the part's first pair
unfoldable pub string_room : Rest → ℕ → ℕ
string_room r page = if nat_le r.len (room_up r.addr page) then 512 else room_up r.addr page

unfoldable pub compare_room : Progress → ℕ
compare_room p =
    let a = behind p.done (first_of p) in
    let b = behind p.done (second_of p) in
    min (min 512 (pairs_of p - p.done)) (min (string_room a (first_page b)) (string_room b (first_page a)))

-- so many bytes of a string, with the fill behind its end
unfoldable pub filled_run : ℕ → ℕ → Rest → State → (List ℕ → State → Accesses Leaf) → Accesses Leaf
filled_run fill count r s next =
    if r.len == 0 then next (replicate count fill) s
    else read_span r.addr (min count r.len) s (λ bytes s. next (bytes ++ replicate (count - min count r.len) fill) s)

-- the first byte of what is left of a string, where something is left, is read, or only checked
unfoldable pub first_read : Rest → State → (State → Accesses Leaf) → Accesses Leaf
first_read r s next = if r.len == 0 then next s else read_at r.addr 1 s (λ x s. next s)

unfoldable pub first_checked : Rest → State → (State → Accesses Leaf) → Accesses Leaf
first_checked r s next = if r.len == 0 then next s else check_at r.addr 1 Read s next

-- the end of a part that has so many pairs of the strings
unfoldable pub compare_end : Progress → ℕ → Rest → Rest → List ℕ → List ℕ → State → (Flow → State → Accesses Leaf) → Accesses Leaf
compare_end p count a b xs ys s next =
    if_found (first_difference xs ys)
    (λ i. differs (behind i a) (behind i b) (slice_index xs i) (slice_index ys i) s next)
    (if count == pairs_of p - p.done then equals (behind count a) (behind count b) s next
    else leaves (record p { done = p.done + count }) count s next)

-- A part of so many pairs. Its first pair goes before the runs, of which one may go on in the other's page, so that a violation of the second
-- string is met behind the first byte of the first.
unfoldable pub compare_run : Progress → ℕ → State → (Flow → State → Accesses Leaf) → Accesses Leaf
compare_run p count s next =
    let a = behind p.done (first_of p) in
    let b = behind p.done (second_of p) in
    first_read a s (λ s.
    first_checked b s (λ s.
    filled_run p.byte count a s (λ xs s.
    filled_run p.byte count b s (λ ys s.
    compare_end p count a b xs ys s next))))

unfoldable pub compare_part : Progress → State → (Flow → State → Accesses Leaf) → Accesses Leaf
compare_part p s next =
    if pairs_of p - p.done == 0 then equals (behind p.done (first_of p)) (behind p.done (second_of p)) s next
    else compare_run p (compare_room p) s next
