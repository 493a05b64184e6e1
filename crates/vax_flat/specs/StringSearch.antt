-- LOCC, SKPC, SCANC and SPANC: the first byte of a string that is, or isn't, of a kind
-- (VAX MACRO and Instruction Set Reference Manual, character string instructions).
use Rattle.std.specs.Prelude.{ℕ, suc, zero, ◌-◌, Bool, true, false, not, ◌==◌, ◌&&◌, nat_le, nat_lt, min, if◌then◌else◌, Option, Some, None, List, [], ◌∷◌, ◌++◌, length, take, slice_index, bit_and, replicate}
use Rattle.std.specs.List.{position, position_or_len}
use Rattle.vax_word.specs.declared.Codes.{Codes}
use Rattle.vax_space.specs.declared.Access.TheVariants.{Read}
use Rattle.vax_strpart.specs.declared.packing.Progress.{Progress}
use Rattle.vax_strpart.specs.Kernels.{is_hit, is_miss}
use Rattle.vax_flat.specs.declared.Flow.{Flow}
use Rattle.vax_flat.specs.Memory.{after}
use Rattle.vax_flat.specs.State.{State, mode}
use Rattle.vax_flat.specs.Accesses.{Accesses, Leaf}
use Rattle.vax_flat.specs.Operand.{plus, read_at, check_at, asked}
use Rattle.vax_flat.specs.String.{low_registers, leaves, completed, read_run_at, to_page_end}

-- R0 and R1: what is left of the string from the byte found on, and its address
abbrev pub found_in : ℕ → ℕ → List ℕ → List ℕ
found_in left addr old = left ∷ addr ∷ slice_index old 2 ∷ slice_index old 3 ∷ slice_index old 4 ∷ slice_index old 5 ∷ []

-- and of a search by a table R2 and R3: 0, and the table
abbrev pub found_by : ℕ → ℕ → ℕ → List ℕ → List ℕ
found_by table left addr old = left ∷ addr ∷ 0 ∷ table ∷ slice_index old 4 ∷ slice_index old 5 ∷ []

-- Z where nothing is left
abbrev pub found_codes : ℕ → Codes
found_codes left = record { n = false; z = left == 0; v = false; c = false }

-- LOCC looks for a byte that is the character, and SKPC for one that isn't
abbrev pub is_sought : Bool → ℕ → ℕ → Bool
is_sought equal character byte = if equal then byte == character else not (byte == character)

-- SCANC looks for a byte whose table byte has a bit of the mask, and SPANC for one whose table byte has none
abbrev pub is_masked : Bool → ℕ → ℕ → Bool
is_masked some mask entry = if some then not (bit_and entry mask == 0) else bit_and entry mask == 0

-- LOCC and SKPC end here, with so much of the string left
unfoldable pub located : ℕ → ℕ → State → (Flow → State → Accesses Leaf) → Accesses Leaf
located left addr s next = completed (found_in left addr (low_registers s)) (found_codes left) s next

-- SCANC and SPANC
unfoldable pub scanned : ℕ → ℕ → ℕ → State → (Flow → State → Accesses Leaf) → Accesses Leaf
scanned table left addr s next = completed (found_by table left addr (low_registers s)) (found_codes left) s next

-- how a byte is examined, and how a search ends
abbrev pub Examines : Type 0
Examines = ℕ → State → (Bool → State → Accesses Leaf) → Accesses Leaf

abbrev pub Finishes : Type 0
Finishes = ℕ → ℕ → State → (Flow → State → Accesses Leaf) → Accesses Leaf

-- by itself
unfoldable pub by_byte : Bool → ℕ → Examines
by_byte equal character byte s next = next (is_sought equal character byte) s

-- by its table byte
unfoldable pub by_entry : Bool → ℕ → ℕ → Examines
by_entry some mask table byte s next = read_at (plus table byte) 1 s (λ entry s. next (is_masked some mask entry) s)

-- the bytes are read and examined one after another, up to the first that is found
unfoldable pub sought : Examines → Finishes → ℕ → ℕ → State → (Flow → State → Accesses Leaf) → Accesses Leaf
sought examine finish zero addr s next = finish 0 addr s next
sought examine finish (suc left) addr s next =
    read_at addr 1 s (λ byte s.
    examine byte s (λ found s.
    if found then finish (suc left) addr s next else sought examine finish left (after addr) s next))

-- LOCC, SKPC
abbrev pub whole_search : Bool → Progress → State → (Flow → State → Accesses Leaf) → Accesses Leaf
whole_search equal p s next = sought (by_byte equal p.byte) located p.len1 p.addr1 s next

-- SCANC, SPANC
abbrev pub whole_scan : Bool → Progress → State → (Flow → State → Accesses Leaf) → Accesses Leaf
whole_scan some p s next = sought (by_entry some p.byte p.table) (scanned p.table) p.len1 p.addr1 s next

-- what remains once so many bytes are searched
abbrev pub searched : Progress → ℕ → Progress
searched p count = record p { len1 = p.len1 - count; addr1 = plus p.addr1 count }

-- the bytes of a part: at most 512, in one page
unfoldable pub search_room : Progress → ℕ
search_room p = min (min 512 p.len1) (to_page_end p.addr1)

abbrev pub if_found : {X : Type 0} → Option ℕ → (ℕ → X) → X → X
if_found (Some i) found none = found i
if_found None found none = none

-- the end of a part that has these bytes of the string
unfoldable pub search_end : Finishes → (ℕ → Bool) → Progress → List ℕ → State → (Flow → State → Accesses Leaf) → Accesses Leaf
search_end finish is_found p bytes s next =
    if_found (position is_found bytes) (λ i. finish (p.len1 - i) (plus p.addr1 i) s next)
    (if length bytes == p.len1 then finish 0 (plus p.addr1 (length bytes)) s next
    else leaves (searched p (length bytes)) (length bytes) s next)

-- a part of LOCC or SKPC that reads so many bytes
unfoldable pub search_run : Bool → Progress → ℕ → State → (Flow → State → Accesses Leaf) → Accesses Leaf
search_run equal p count s next =
    read_run_at p.addr1 count s (λ bytes s. search_end located (is_sought equal p.byte) p bytes s next)

unfoldable pub search_part : Bool → Progress → State → (Flow → State → Accesses Leaf) → Accesses Leaf
search_part equal p s next =
    if p.len1 == 0 then located 0 p.addr1 s next else search_run equal p (search_room p) s next

-- The bytes of a table that may be read. It lies in one page or in two, of which each may be read whole or not at all; what may not is 0 here.
-- The entries from a first up to an end may be read.
unfoldable pub piece_read : ℕ → ℕ → State → (Bool → List ℕ → State → Accesses Leaf) → Accesses Leaf
piece_read addr len s next =
    asked addr len (mode s) Read s (λ allowed s.
    if allowed then read_run_at addr len s (λ bytes s. next true bytes s) else next false (replicate len 0) s)

-- how many of the table's bytes lie in its first page
abbrev pub table_split : ℕ → ℕ
table_split table = min 256 (to_page_end table)

abbrev pub known_from : Bool → ℕ → ℕ
known_from first split = if first then 0 else split

abbrev pub known_to : Bool → ℕ → ℕ
known_to second split = if second then 256 else split

unfoldable pub table_read : ℕ → State → (ℕ → ℕ → List ℕ → State → Accesses Leaf) → Accesses Leaf
table_read table s next =
    if table_split table == 256 then piece_read table 256 s (λ first bytes s. next (known_from first 256) 256 bytes s)
    else piece_read table (table_split table) s (λ first low s.
    piece_read (plus table (table_split table)) (256 - table_split table) s (λ second high s.
    next (known_from first (table_split table)) (known_to second (table_split table)) (low ++ high) s))

-- the byte's entry is one that may not be read
abbrev pub is_unknown : ℕ → ℕ → ℕ → Bool
is_unknown from to byte = not (nat_le from byte && nat_lt byte to)

abbrev pub is_masked_entry : Bool → List ℕ → ℕ → ℕ → Bool
is_masked_entry some entries mask byte = if some then is_hit entries mask byte else is_miss entries mask byte

-- The end of a part of SCANC or SPANC that has these bytes of the string, of which so many have entries that are known. The first goes by its
-- own entry where it has none of these.
unfoldable pub scan_end : Bool → Progress → ℕ → List ℕ → List ℕ → State → (Flow → State → Accesses Leaf) → Accesses Leaf
scan_end some p known entries bytes s next =
    if known == 0
    then read_at (plus p.table (slice_index bytes 0)) 1 s (λ entry s. search_end (scanned p.table) (λ byte. is_masked some p.byte entry) p (take 1 bytes) s next)
    else search_end (scanned p.table) (is_masked_entry some entries p.byte) p (take known bytes) s next

-- a part of SCANC or SPANC that reads so many bytes; it goes on up to the first whose entry may not be read, and this is a violation where it
-- is the part's first
unfoldable pub scan_run : Bool → Progress → ℕ → State → (Flow → State → Accesses Leaf) → Accesses Leaf
scan_run some p count s next =
    read_run_at p.addr1 count s (λ bytes s.
    table_read p.table s (λ from to entries s.
    check_at (plus p.table (slice_index bytes 0)) 1 Read s (λ s.
    scan_end some p (position_or_len (is_unknown from to) bytes) entries bytes s next)))

unfoldable pub scan_part : Bool → Progress → State → (Flow → State → Accesses Leaf) → Accesses Leaf
scan_part some p s next =
    if p.len1 == 0 then scanned p.table 0 p.addr1 s next else scan_run some p (search_room p) s next
