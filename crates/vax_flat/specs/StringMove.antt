-- MOVC3, MOVC5, MOVTC and MOVTUC: a string is moved, as it is or by a table
-- (VAX MACRO and Instruction Set Reference Manual, character string instructions).
use Rattle.std.specs.Prelude.{◌≡◌, ℕ, ◌<◌, suc, zero, ◌+◌, ◌-◌, ◌/◌, ◌^◌, Bool, true, false, not, ◌==◌, ◌&&◌, ◌||◌, nat_le, nat_lt, min, max, if◌then◌else◌, None, List, [], ◌∷◌, length, take, drop, replicate}
use Rattle.vax_word.specs.declared.Size.TheVariants.{W}
use Rattle.vax_word.specs.Arithmetic.{compared}
use Rattle.vax_space.specs.declared.Access.TheVariants.{Read, Write}
use Rattle.vax_strpart.specs.declared.packing.Progress.{Progress}
use Rattle.vax_strpart.specs.declared.packing.Layout.TheVariants.{Moves, Translates}
use Rattle.vax_strpart.specs.Packing.{layout_of}
use Rattle.vax_strpart.specs.Kernels.{translated}
use Rattle.vax_space.specs.declared.Area.{Area}
use Rattle.vax_space.specs.Reference.{violation}
use Rattle.vax_flat.specs.declared.Exception.TheVariants.{Operand}
use Rattle.vax_flat.specs.declared.Flow.{Flow}
use Rattle.vax_flat.specs.State.{State, mode}
use Rattle.vax_flat.specs.Accesses.{Accesses, Raises, Leaf}
use Rattle.vax_flat.specs.Operand.{plus, check_at}
use Rattle.vax_flat.specs.String.{leaves, completed, read_run_at, write_run_at, read_span, to_page_end, room_up, room_down}

-- how far one address lies behind another
abbrev pub distance : ℕ → ℕ → ℕ
distance from to = plus to (2 ^ 32 - from)

-- two ranges that aren't empty have a byte in common
abbrev pub overlaps : ℕ → ℕ → ℕ → ℕ → Bool
overlaps a m b n = nat_lt (distance a b) m || nat_lt (distance b a) n

-- the bytes that are moved; the destination's others are filled
abbrev pub moved_count : Progress → ℕ
moved_count p = min p.len1 p.len2

-- a move goes backward where the destination begins among the source's bytes behind the first
unfoldable pub is_backward : Progress → Bool
is_backward p = nat_lt 0 (distance p.addr1 p.addr2) && nat_lt (distance p.addr1 p.addr2) (moved_count p)

-- MOVTC and MOVTUC move by a table, MOVC3 and MOVC5 as it is
abbrev pub by_table : Bool → Progress → Bool
by_table translate p = translate && not (moved_count p == 0)

-- a table that would be written over is reserved
abbrev pub is_reserved : Bool → Progress → Bool
is_reserved translate p = by_table translate p && overlaps p.addr2 p.len2 p.table 256

-- the strings and the table are checked before the first byte is moved
unfoldable pub table_checked : Bool → Progress → State → (State → Accesses Leaf) → Accesses Leaf
table_checked translate p s next = if by_table translate p then check_at p.table 256 Read s next else next s

unfoldable pub move_checked : Bool → Progress → ℕ → State → (State → Accesses Leaf) → Accesses Leaf
move_checked translate p written s next =
    check_at p.addr1 (moved_count p) Read s (λ s.
    table_checked translate p s (λ s.
    check_at p.addr2 written Write s next))

-- so many bytes of the source, as they are moved
unfoldable pub moved_bytes : Bool → Progress → ℕ → ℕ → State → (List ℕ → State → Accesses Leaf) → Accesses Leaf
moved_bytes translate p addr count s next =
    if count == 0 then next [] s
    else read_run_at addr count s (λ bytes s.
    if translate then read_run_at p.table 256 s (λ table s. next (translated table bytes) s) else next bytes s)

-- R0 to R5 at the end
abbrev pub moved_low : Bool → Progress → List ℕ
moved_low translate p =
    let left = p.len1 - moved_count p in
    let source = plus p.addr1 (moved_count p) in
    let end = plus p.addr2 p.len2 in
    if translate then left ∷ source ∷ 0 ∷ p.table ∷ 0 ∷ end ∷ [] else left ∷ source ∷ 0 ∷ end ∷ 0 ∷ 0 ∷ []

-- the lengths are compared
unfoldable pub moved : Bool → Progress → State → (Flow → State → Accesses Leaf) → Accesses Leaf
moved translate p s next = completed (moved_low translate p) (compared W p.len1 p.len2) s next

-- The bytes that aren't moved yet are read, all before the first is written, and then written; then the rest of the destination is filled. At
-- the start these are all.
unfoldable pub move_rest : Bool → Progress → State → (Flow → State → Accesses Leaf) → Accesses Leaf
move_rest translate p s next =
    let n = moved_count p in
    let first = if is_backward p then 0 else min p.done n in
    let filled = max p.done n in
    moved_bytes translate p (plus p.addr1 first) (n - p.done) s (λ bytes s.
    write_run_at (plus p.addr2 first) bytes s (λ s.
    write_run_at (plus p.addr2 filled) (replicate (p.len2 - filled) p.byte) s (λ s.
    moved translate p s next)))

-- MOVC3, MOVC5, MOVTC
unfoldable pub whole_move : Bool → Progress → State → (Flow → State → Accesses Leaf) → Accesses Leaf
whole_move translate p s next =
    if is_reserved translate p then Raises Operand
    else move_checked translate p p.len2 s (λ s. move_rest translate p s next)

-- bytes written as so many runs of at most eight
unfoldable pub write_pieces : ℕ → ℕ → List ℕ → State → (State → Accesses Leaf) → Accesses Leaf
write_pieces zero addr bytes s next = next s
write_pieces (suc count) addr bytes s next =
    write_run_at addr (take 8 bytes) s (λ s. write_pieces count (plus addr 8) (drop 8 bytes) s next)

abbrev pub pieces_of : List ℕ → ℕ
pieces_of bytes = (length bytes + 7) / 8

-- A run that goes on in the next page: its smaller piece goes first, in runs of eight bytes. That may be the piece in the first page,
unfoldable pub write_high_last : ℕ → List ℕ → State → (State → Accesses Leaf) → Accesses Leaf
write_high_last addr bytes s next =
    let first = to_page_end addr in
    write_pieces (pieces_of (take first bytes)) addr (take first bytes) s (λ s.
    write_run_at (plus addr first) (drop first bytes) s next)

-- or else the one in the next page, behind one byte in the first.
unfoldable pub write_low_last : ℕ → List ℕ → State → (State → Accesses Leaf) → Accesses Leaf
write_low_last addr bytes s next =
    let first = to_page_end addr in
    write_run_at addr (take 1 bytes) s (λ s.
    write_pieces (pieces_of (drop first bytes)) (plus addr first) (drop first bytes) s (λ s.
    write_run_at addr (take first bytes) s next))

-- a run of at most 512 bytes that may go on in the next page
unfoldable pub write_span : ℕ → List ℕ → State → (State → Accesses Leaf) → Accesses Leaf
write_span addr bytes s next =
    if nat_le (length bytes) (to_page_end addr) then write_run_at addr bytes s next
    else if nat_le (to_page_end addr) 256 then write_high_last addr bytes s next
    else write_low_last addr bytes s next

-- the lowest of the indices of so many bytes that are moved next
unfoldable pub lowest : Progress → ℕ → ℕ
lowest p count = if is_backward p then moved_count p - (p.done + count) else p.done

-- how many bytes a part has room for, from its first source and destination byte
unfoldable pub run_room : Progress → ℕ → ℕ → ℕ
run_room p a b =
    if is_backward p then min (room_down a (b / 512)) (room_down b (a / 512)) else min (room_up a (b / 512)) (room_up b (a / 512))

unfoldable pub move_room : Progress → ℕ
move_room p =
    min (min 512 (moved_count p - p.done)) (run_room p (plus p.addr1 (lowest p 1)) (plus p.addr2 (lowest p 1)))

-- the end of a part of so many units
unfoldable pub move_end : Bool → Progress → ℕ → State → (Flow → State → Accesses Leaf) → Accesses Leaf
move_end translate p count s next =
    if p.done + count == p.len2 then moved translate p s next else leaves (record p { done = p.done + count }) count s next

-- bytes by the table, where there is one
unfoldable pub table_applied : Bool → Progress → List ℕ → State → (List ℕ → State → Accesses Leaf) → Accesses Leaf
table_applied translate p bytes s next =
    if translate then read_span p.table 256 s (λ table s. next (translated table bytes) s) else next bytes s

-- a part that moves so many bytes
unfoldable pub move_run : Bool → Progress → ℕ → State → (Flow → State → Accesses Leaf) → Accesses Leaf
move_run translate p count s next =
    read_span (plus p.addr1 (lowest p count)) count s (λ bytes s.
    table_applied translate p bytes s (λ bytes s.
    write_span (plus p.addr2 (lowest p count)) bytes s (λ s.
    move_end translate p count s next)))

-- a part that fills so many bytes
unfoldable pub fill_room : Progress → ℕ
fill_room p = min (min 512 (p.len2 - p.done)) (to_page_end (plus p.addr2 p.done))

unfoldable pub fill_run : Bool → Progress → ℕ → State → (Flow → State → Accesses Leaf) → Accesses Leaf
fill_run translate p count s next =
    write_run_at (plus p.addr2 p.done) (replicate count p.byte) s (λ s. move_end translate p count s next)

unfoldable pub move_part : Bool → Progress → State → (Flow → State → Accesses Leaf) → Accesses Leaf
move_part translate p s next =
    if p.done == p.len2 then moved translate p s next
    else if nat_lt p.done (moved_count p) then move_run translate p (move_room p) s next
    else fill_run translate p (fill_room p) s next

-- the first part, with the checks
unfoldable pub move_start : Bool → Progress → State → (Flow → State → Accesses Leaf) → Accesses Leaf
move_start translate p s next =
    if is_reserved translate p then Raises Operand
    else move_checked translate p p.len2 s (λ s. move_part translate p s next)

-- a move's numbers are in their ranges, and its opcode is one of a move that does or doesn't go by a table
pub record IsMove (translate : Bool) (p : Progress) : Type 0 where
  pub layout : layout_of p.op ≡ (if translate then Translates else Moves)
  pub addr1 : p.addr1 < 2 ^ 32
  pub addr2 : p.addr2 < 2 ^ 32
  pub table : p.table < 2 ^ 32
  pub delta : p.delta < 2 ^ 8

-- what was checked at a move's start
pub record IsChecked (translate : Bool) (p : Progress) (s : State) (memory : List Area) : Type 0 where
  pub source : violation memory p.addr1 (moved_count p) (mode s) Read ≡ None
  pub table : by_table translate p ≡ true → violation memory p.table 256 (mode s) Read ≡ None
  pub apart : is_reserved translate p ≡ false
  pub destination : violation memory p.addr2 p.len2 (mode s) Write ≡ None
