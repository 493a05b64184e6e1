-- MOVTUC: a string is moved by a table up to a byte that escapes
-- (VAX MACRO and Instruction Set Reference Manual, character string instructions).
use Rattle.std.specs.Prelude.{None, ◌<◌, ◌≡◌, ℕ, ◌+◌, ◌-◌, ◌/◌, Bool, true, false, not, ◌==◌, ◌&&◌, ◌||◌, nat_le, nat_lt, min, if◌then◌else◌, List, [], ◌∷◌, length, slice_index, take}
use Rattle.std.specs.List.{position_or_len}
use Rattle.vax_word.specs.declared.Size.TheVariants.{W}
use Rattle.vax_word.specs.Arithmetic.{compared}
use Rattle.vax_space.specs.declared.Access.TheVariants.{Read, Write}
use Rattle.vax_space.specs.declared.Area.{Area}
use Rattle.vax_space.specs.Reference.{violation}
use Rattle.vax_strpart.specs.declared.packing.Progress.{Progress}
use Rattle.vax_strpart.specs.Kernels.{translated, is_escape}
use Rattle.vax_flat.specs.declared.Exception.TheVariants.{Operand}
use Rattle.vax_flat.specs.declared.Flow.{Flow}
use Rattle.vax_flat.specs.State.{State, mode}
use Rattle.vax_flat.specs.Accesses.{Accesses, Raises, Leaf}
use Rattle.vax_flat.specs.Operand.{plus}
use Rattle.vax_flat.specs.String.{leaves, completed, read_run_at, write_run_at, read_span, room_up}
use Rattle.vax_flat.specs.StringMove.{overlaps, moved_count, move_checked, is_reserved, write_span}

-- a table that would be written over is reserved, and so are strings that overlap without being the same
abbrev pub is_escape_reserved : Progress → Bool
is_escape_reserved p =
    is_reserved true p
    || (not (moved_count p == 0) && (not (p.addr1 == p.addr2) && overlaps p.addr2 (moved_count p) p.addr1 (moved_count p)))

-- R0 to R5 once so many bytes are moved
abbrev pub escaped_low : Progress → ℕ → List ℕ
escaped_low p count = (p.len1 - count) ∷ plus p.addr1 count ∷ 0 ∷ p.table ∷ (p.len2 - count) ∷ plus p.addr2 count ∷ []

-- the lengths are compared, and V is set where a byte escaped
unfoldable pub escaped : Progress → ℕ → Bool → State → (Flow → State → Accesses Leaf) → Accesses Leaf
escaped p count escape s next = completed (escaped_low p count) (record (compared W p.len1 p.len2) { v = escape }) s next

-- The bytes that aren't moved yet are read, then those before the first that escapes are written. At the start these are all.
unfoldable pub escape_rest : Progress → State → (Flow → State → Accesses Leaf) → Accesses Leaf
escape_rest p s next =
    let left = moved_count p - p.done in
    if left == 0 then escaped p (moved_count p) false s next
    else read_run_at (plus p.addr1 p.done) left s (λ bytes s.
    read_run_at p.table 256 s (λ table s.
    let count = position_or_len (is_escape table p.byte) bytes in
    write_run_at (plus p.addr2 p.done) (translated table (take count bytes)) s (λ s.
    escaped p (p.done + count) (nat_lt count left) s next)))

unfoldable pub whole_escape : Progress → State → (Flow → State → Accesses Leaf) → Accesses Leaf
whole_escape p s next =
    if is_escape_reserved p then Raises Operand
    else move_checked true p (moved_count p) s (λ s. escape_rest p s next)

-- How many bytes a part moves at most. The byte that escapes touches no destination, so a part reads one more where the source allows it.
unfoldable pub escape_room : Progress → ℕ
escape_room p =
    let a = plus p.addr1 p.done in
    let b = plus p.addr2 p.done in
    min (min 512 (moved_count p - p.done)) (min (room_up a (b / 512)) (room_up b (a / 512)))

unfoldable pub source_room : Progress → ℕ
source_room p =
    let a = plus p.addr1 p.done in
    let b = plus p.addr2 p.done in
    min (min 512 (moved_count p - p.done)) (min (room_up a (b / 512)) (room_up b (a / 512) + 1))

-- so many translated bytes are written, if any are
unfoldable pub written_some : ℕ → List ℕ → State → (State → Accesses Leaf) → Accesses Leaf
written_some addr bytes s next = if length bytes == 0 then next s else write_span addr bytes s next

-- the end of a part that has so many bytes before the first that escapes, this room in the destination, and so many bytes of the source
abbrev pub escape_close : Progress → ℕ → ℕ → ℕ → State → (Flow → State → Accesses Leaf) → Accesses Leaf
escape_close p count room len s next =
    let moved = min count room in
    if nat_le count room && nat_lt count len then escaped p (p.done + count) true s next
    else if p.done + moved == moved_count p then escaped p (moved_count p) false s next
    else leaves (record p { done = p.done + moved }) moved s next

-- the same of a part that has read these bytes of the source
unfoldable pub escape_end : Progress → ℕ → List ℕ → List ℕ → State → (Flow → State → Accesses Leaf) → Accesses Leaf
escape_end p room bytes table s next =
    let count = position_or_len (is_escape table p.byte) bytes in
    written_some (plus p.addr2 p.done) (translated table (take (min count room) bytes)) s (λ s.
    escape_close p count room (length bytes) s next)

-- A part that reads at most so many bytes, and has this room in the destination. Where its first byte escapes, it is all that the part reads of the
-- source: what follows may lie in the destination's page, which then no byte of the part needs.
unfoldable pub escape_run : Progress → ℕ → ℕ → State → (Flow → State → Accesses Leaf) → Accesses Leaf
escape_run p count room s next =
    read_span (plus p.addr1 p.done) 1 s (λ first s.
    read_span p.table 256 s (λ table s.
    if is_escape table p.byte (slice_index first 0) then escaped p p.done true s next
    else read_span (plus p.addr1 p.done) count s (λ bytes s.
    escape_end p room bytes table s next)))

unfoldable pub escape_part : Progress → State → (Flow → State → Accesses Leaf) → Accesses Leaf
escape_part p s next =
    if p.done == moved_count p then escaped p (moved_count p) false s next
    else escape_run p (source_room p) (escape_room p) s next

unfoldable pub escape_start : Progress → State → (Flow → State → Accesses Leaf) → Accesses Leaf
escape_start p s next =
    if is_escape_reserved p then Raises Operand
    else move_checked true p (moved_count p) s (λ s. escape_part p s next)

-- what was checked at the start of MOVTUC
pub record IsEscapeChecked (p : Progress) (s : State) (memory : List Area) : Type 0 where
  pub source : violation memory p.addr1 (moved_count p) (mode s) Read ≡ None
  pub table : 0 < moved_count p → violation memory p.table 256 (mode s) Read ≡ None
  pub apart : is_escape_reserved p ≡ false
  pub destination : violation memory p.addr2 (moved_count p) (mode s) Write ≡ None
