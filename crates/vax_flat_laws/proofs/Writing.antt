-- What parts of moves write.
use Rattle.std.proofs.Common.{◌≡◌, ◌≢◌, ℕ, zero, suc, ◌+◌, ◌-◌, ◌/◌, ◌%◌, ◌^◌, ◌<◌, ◌≤◌, min, Bool, true, false, List, [], ◌∷◌, length, get_or, None, refl, ap, ◌∙◌, sym, subst, arith}
use Rattle.std.specs.List.{position_or_len}
use Rattle.std.specs.Prelude.{◌==◌, ◌&&◌, if◌then◌else◌, nat_le, nat_lt, not, replicate, slice_index, take}
use Rattle.std.proofs.lemmas.Bool.{eq-eqb, le-ltb, lt-ltb, ne_eqb}
use Rattle.std.proofs.lemmas.Bool.Decides.{nat_tests}
use Rattle.std.proofs.lemmas.List.{get_or-map, get_or-replicate, get_or-take, length-map, length-replicate, length-take-le}
use Rattle.std.proofs.lemmas.List.Sums.{prefix_len-le-length, prefix_len_passes}
use Rattle.vax_space.specs.declared.Access.{Access}
use Rattle.vax_space.specs.declared.Access.TheVariants.{Read, Write}
use Rattle.vax_space.specs.declared.Area.{Area}
use Rattle.vax_space.specs.Reference.{may_access, page_of, violation}
use Rattle.vax_strpart.specs.Kernels.{is_escape, translated}
use Rattle.vax_strpart.specs.declared.packing.Progress.{Progress}
use Rattle.vax_flat.specs.Accesses.{Accesses, Leaf}
use Rattle.vax_flat.specs.Memory.{IsWhole, after, byte_at, bytes_from, written_run}
use Rattle.vax_flat.specs.Operand.{plus}
use Rattle.vax_flat.specs.Outcome.{Outcome, outcome_of}
use Rattle.vax_flat.specs.Port.{AreBytes, put_run}
use Rattle.vax_flat.specs.State.{State, mode}
use Rattle.vax_flat.specs.Step.{leaf}
use Rattle.vax_flat.specs.String.{completed, leaves, read_span, room_down, room_up}
use Rattle.vax_flat.specs.StringEscape.{IsEscapeChecked, escape_close, escape_end, escape_part, escape_room, escape_run, escaped, source_room, written_some}
use Rattle.vax_flat.specs.StringMove.{IsChecked, IsMove, fill_room, fill_run, is_backward, lowest, move_end, move_part, move_room, move_run, moved, moved_count, run_room, table_applied, write_span}
use Rattle.vax_flat.proofs.Memory.{byte_at-written_run}
use Rattle.vax_flat.proofs.StringCompare.{span_is}
use Rattle.vax_flat.proofs.StringSearch.{length_run}
use Rattle.vax_flat.proofs.StringMemory.{allowed_at, allowed_part, nothing_written, run_written, span_written}
use Rattle.vax_flat.proofs.StringMove.{shaped, some_up, source, source_length, table_due}
use Rattle.vax_flat_laws.specs.Maximal.{moved_index}
use Rattle.vax_flat_laws.specs.Moved.{HasEscaped, HasFilled, HasMoved, IfLeftMemory, Wrote, as_moved}

-- ---- runs of bytes

run_at : (byte : ℕ → ℕ) (addr : ℕ) (bytes : List ℕ) (j : ℕ) → addr < 2 ^ 32 → length bytes ≤ 2 ^ 32 → j < length bytes → put_run byte addr bytes (plus addr j) ≡ get_or bytes j 0
unfolding put_run
run_at byte addr [] j small few less = absurd (omega arith)
run_at byte addr (b ∷ bytes) zero small few less =
    let here : plus addr 0 ≡ addr = omega arith in
    rw (eq-eqb (plus addr 0) addr here) refl
run_at byte addr (b ∷ bytes) (suc j) small few less =
    let other : plus addr (suc j) ≢ addr = λ e. omega arith in
    let next : plus addr (suc j) ≡ plus (after addr) j = omega arith in
    rw (ne_eqb (plus addr (suc j)) addr other) (ap (put_run byte (after addr) bytes) next ∙ run_at byte (after addr) bytes j (omega arith) (omega arith) (omega arith))

run_beside : (byte : ℕ → ℕ) (addr : ℕ) (bytes : List ℕ) (place : ℕ) → addr < 2 ^ 32 → ((i : ℕ) → i < length bytes → place ≢ plus addr i) → put_run byte addr bytes place ≡ byte place
unfolding put_run
run_beside byte addr [] place small apart = refl
run_beside byte addr (b ∷ bytes) place small apart =
    let first : plus addr 0 ≡ addr = omega arith in
    rw (ne_eqb place addr (λ e. apart 0 (omega arith) (e ∙ sym first)))
    (run_beside byte (after addr) bytes place (omega arith) (λ i less e. apart (suc i) (omega arith) (e ∙ (let next : plus (after addr) i ≡ plus addr (suc i) = omega arith in next))))

byte_of : (byte : ℕ → ℕ) (addr count i : ℕ) → addr < 2 ^ 32 → i < count → get_or (bytes_from byte addr count) i 0 ≡ byte (plus addr i)
unfolding bytes_from
byte_of byte addr zero i small less = absurd (omega arith)
byte_of byte addr (suc count) zero small less = ap byte (let here : addr ≡ plus addr 0 = omega arith in here)
byte_of byte addr (suc count) (suc i) small less = byte_of byte (after addr) count i (omega arith) (omega arith) ∙ ap byte (let next : plus (after addr) i ≡ plus addr (suc i) = omega arith in next)

-- a run that was written, its bytes in an order of their own
wrote_run : (memory : List Area) (addr made m : ℕ) (bytes : List ℕ) (access : Access) (place content at : ℕ → ℕ) → IsWhole memory → violation memory addr (length bytes) m access ≡ None → addr < 2 ^ 32 → length bytes ≡ made → made ≤ 512
    → ((j : ℕ) → j < made → (at j < made) × (place j ≡ plus addr (at j)) × (get_or bytes (at j) 0 ≡ content j))
    → ((i : ℕ) → i < made → (j : ℕ) × (j < made) × (at j ≡ i))
    → Wrote place content memory made (written_run memory addr bytes)
wrote_run memory addr made m bytes access place content at whole free small long few each all = record {
  written = λ j less. let e = each j less in
      ap (byte_at (written_run memory addr bytes)) e.1 ∙ byte_at-written_run memory addr bytes (plus addr (at j)) m access whole free
      ∙ run_at (byte_at memory) addr bytes (at j) small (omega (arith, long)) (omega (arith, e.0, long)) ∙ e.2;
  others = λ other apart. byte_at-written_run memory addr bytes other m access whole free
      ∙ run_beside (byte_at memory) addr bytes other small (λ i less is. let j = all i (omega (arith, long)) in apart j.0 j.1 (is ∙ ap (plus addr) (sym j.2) ∙ sym (each j.0 j.1).1));
}

-- ---- the order of a move

index_of : (b : Bool) (count done made j : ℕ) → j < made → done + made ≤ count → (if b then count - (done + j + 1) else done + j) ≡ (if b then count - (done + made) else done) + (if b then made - 1 - j else j)
index_of true count done made j less within = omega arith
index_of false count done made j less within = refl

abbrev order : Bool → (made j : ℕ) → ℕ
order b made j = if b then made - 1 - j else j

order_within : (b : Bool) (made j : ℕ) → j < made → order b made j < made
order_within true made j less = omega arith
order_within false made j less = less

order_back : (b : Bool) (made j : ℕ) → j < made → order b made (order b made j) ≡ j
order_back true made j less = omega arith
order_back false made j less = refl

-- ---- a part that moves

tables : (translate : Bool) (p : Progress) (s : State) (m : List Area) (raw : List ℕ) (k : List ℕ → State → Accesses Leaf) → (translate ≡ true → p.table < 2 ^ 32) → (translate ≡ true → violation m p.table 256 (mode s) Read ≡ None)
    → outcome_of (table_applied translate p raw s k) m ≡ outcome_of (k (shaped translate p m raw) s) m
unfolding table_applied
tables true p s m raw k small free = span_is p.table 256 s m _ (small refl) (λ i h. allowed_at m p.table 256 i (mode s) Read (small refl) h (free refl))
tables false p s m raw k small free = refl

shaped_at : (b : Bool) (p : Progress) (m : List Area) (addr count i : ℕ) → AreBytes (byte_at m) → addr < 2 ^ 32 → (b ≡ true → p.table < 2 ^ 32) → i < count → get_or (shaped b p m (bytes_from (byte_at m) addr count)) i 0 ≡ as_moved b p.table m (byte_at m (plus addr i))
shaped_at true p m addr count i are small table less =
    let raw : List ℕ = bytes_from (byte_at m) addr count in
    let entries : List ℕ = bytes_from (byte_at m) p.table 256 in
    let byte : get_or raw i 0 ≡ byte_at m (plus addr i) = byte_of (byte_at m) addr count i small less in
    get_or-map (λ x. slice_index entries x) raw i 0 0 (omega (arith, length_run (byte_at m) addr count))
    ∙ ap (λ x. slice_index entries x) byte ∙ byte_of (byte_at m) p.table 256 (byte_at m (plus addr i)) (table refl) (are.below (plus addr i))
shaped_at false p m addr count i are small table less = byte_of (byte_at m) addr count i small less

memory_end : (P : ℕ → List Area → Type 0) (translate : Bool) (p : Progress) (made : ℕ) (s : State) (m : List Area) → P made m → IfLeftMemory P (outcome_of (move_end translate p made s leaf) m)
unfolding move_end moved completed leaves outcome_of
memory_end P translate p made s m holds = either (p.done + made == p.len2) where
  either : (b : Bool) → IfLeftMemory P (outcome_of (if b then moved translate p s leaf else leaves (record p { done = p.done + made }) made s leaf) m)
  either true = tt
  either false = holds

some_down : (addr page : ℕ) → 0 < room_down addr page
unfolding room_down
some_down addr page = by_page (addr / 512 == page + 1)
  where
    by_page : (b : Bool) → 0 < (if b then 512 else addr % 512 + 1)
    by_page true = omega arith
    by_page false = omega arith

some_run : (p : Progress) (a b : ℕ) → 0 < run_room p a b
unfolding run_room
some_run p a b = by_way (is_backward p) where
  by_way : (back : Bool) → 0 < (if back then min (room_down a (b / 512)) (room_down b (a / 512)) else min (room_up a (b / 512)) (room_up b (a / 512)))
  by_way true = let h = some_down a (b / 512) in let k = some_down b (a / 512) in omega arith
  by_way false = let h = some_up a (b / 512) in let k = some_up b (a / 512) in omega arith

module _ (translate : Bool) (p : Progress) (s : State) (m : List Area) (whole : IsWhole m) (are : AreBytes (byte_at m)) (is : IsMove translate p) (checked : IsChecked translate p s m) where
  abbrev count : ℕ
  count = moved_count p

  lowest_within : (j : ℕ) → p.done + j ≤ count → lowest p j + j ≤ count
  unfolding lowest
  lowest_within j h = by_way (is_backward p) where
    by_way : (b : Bool) → (if b then count - (p.done + j) else p.done) + j ≤ count
    by_way true = omega arith
    by_way false = omega arith

  part_moves : (j : ℕ) → 0 < j → j ≤ 512 → p.done + j ≤ count
      → outcome_of (move_run translate p j s leaf) m ≡ outcome_of (move_end translate p j s leaf) (written_run m (plus p.addr2 (lowest p j)) (source translate p m (plus p.addr1 (lowest p j)) j))
  unfolding move_run
  part_moves j some most within =
      let low = lowest p j in
      let lw = lowest_within j within in
      let a1 = is.addr1 in
      let a2 = is.addr2 in
      let raw = bytes_from (byte_at m) (plus p.addr1 low) j in
      let ys = source translate p m (plus p.addr1 low) j in
      let len = source_length translate p m (plus p.addr1 low) j in
      span_is (plus p.addr1 low) j s m _ (omega arith) (λ i h. let e : plus (plus p.addr1 low) i ≡ plus p.addr1 (low + i) = omega arith in ap (λ a. may_access m (page_of a) (mode s) Read) e ∙ allowed_at m p.addr1 count (low + i) (mode s) Read a1 (omega arith) checked.source)
      ∙ tables translate p s m raw (λ bytes t. write_span (plus p.addr2 (lowest p j)) bytes t (λ t. move_end translate p j t leaf)) (λ yes'. is.table) (λ yes'. checked.table (table_due translate count yes' (omega arith)))
      ∙ span_written s _ (plus p.addr2 low) ys m (omega arith) (omega arith) (omega arith)
      (ap (λ k. violation m (plus p.addr2 low) k (mode s) Write) len ∙ allowed_part m p.addr2 p.len2 low j (mode s) Write a2 (omega arith) checked.destination)

  room : p.done < count → (0 < move_room p) × (move_room p ≤ 512) × (p.done + move_room p ≤ count)
  unfolding move_room
  room h = let r = some_run p (plus p.addr1 (lowest p 1)) (plus p.addr2 (lowest p 1)) in (omega arith, omega arith, omega arith)

  has_moved : (j : ℕ) → 0 < j → j ≤ 512 → p.done + j ≤ count → HasMoved translate p m j (written_run m (plus p.addr2 (lowest p j)) (source translate p m (plus p.addr1 (lowest p j)) j))
  unfolding lowest
  has_moved made some few within =
      let b : Bool = is_backward p in
      let low : ℕ = lowest p made in
      let lw = lowest_within made within in
      let a1 = is.addr1 in
      let a2 = is.addr2 in
      let bytes : List ℕ = source translate p m (plus p.addr1 low) made in
      let long : length bytes ≡ made = source_length translate p m (plus p.addr1 low) made in
      wrote_run m (plus p.addr2 low) made (mode s) bytes Write (λ j. plus p.addr2 (moved_index p j)) (λ j. as_moved translate p.table m (byte_at m (plus p.addr1 (moved_index p j)))) (order b made) whole
      (ap (λ k. violation m (plus p.addr2 low) k (mode s) Write) long ∙ allowed_part m p.addr2 p.len2 low made (mode s) Write a2 (omega arith) checked.destination)
      (omega arith) long few
      (λ j less.
      let index : moved_index p j ≡ low + order b made j = index_of b count p.done made j less within in
      let inside : order b made j < made = order_within b made j less in (
        inside,
        ap (plus p.addr2) index ∙ (let place : plus p.addr2 (low + order b made j) ≡ plus (plus p.addr2 low) (order b made j) = omega arith in place),
        shaped_at translate p m (plus p.addr1 low) made (order b made j) are (omega arith) (λ e. is.table) inside
            ∙ ap (λ a. as_moved translate p.table m (byte_at m a)) ((let place : plus (plus p.addr1 low) (order b made j) ≡ plus p.addr1 (low + order b made j) = omega arith in place) ∙ ap (plus p.addr1) (sym index)),
      ))
      (λ i less. (order b made i, order_within b made i less, order_back b made i less))

  pub part_moved : p.done < count → IfLeftMemory (HasMoved translate p m) (outcome_of (move_part translate p s leaf) m)
  unfolding move_part
  part_moved some =
      let r = room some in
      let after_part : List Area = written_run m (plus p.addr2 (lowest p (move_room p))) (source translate p m (plus p.addr1 (lowest p (move_room p))) (move_room p)) in
      rw (ne_eqb p.done p.len2 (λ e. omega arith), lt-ltb p.done count some)
      (subst (λ (o : Outcome Leaf). IfLeftMemory (HasMoved translate p m) o) (sym (part_moves (move_room p) r.0 r.1 r.2))
      (memory_end (HasMoved translate p m) translate p (move_room p) s after_part (has_moved (move_room p) r.0 r.1 r.2)))

-- ---- a part that fills

module _ (translate : Bool) (p : Progress) (s : State) (m : List Area) (whole : IsWhole m) (is : IsMove translate p) (checked : IsChecked translate p s m) where
  fill : p.done < p.len2 → (0 < fill_room p) × (fill_room p ≤ 512) × (p.done + fill_room p ≤ p.len2)
  unfolding fill_room
  fill h = (omega arith, omega arith, omega arith)

  has_filled : (made : ℕ) → made ≤ 512 → p.done + made ≤ p.len2 → HasFilled p m made (written_run m (plus p.addr2 p.done) (replicate made p.byte))
  has_filled made few within =
      let a2 = is.addr2 in
      let long : length (replicate made p.byte) ≡ made = length-replicate made p.byte in
      wrote_run m (plus p.addr2 p.done) made (mode s) (replicate made p.byte) Write (λ j. plus p.addr2 (p.done + j)) (λ j. p.byte) (λ j. j) whole
      (ap (λ k. violation m (plus p.addr2 p.done) k (mode s) Write) long ∙ allowed_part m p.addr2 p.len2 p.done made (mode s) Write a2 within checked.destination)
      (omega arith) long few
      (λ j less. (less, (let place : plus p.addr2 (p.done + j) ≡ plus (plus p.addr2 p.done) j = omega arith in place), get_or-replicate made j p.byte 0 less))
      (λ i less. (i, less, refl))

  part_fills : (j : ℕ) → j ≤ 512 → p.done + j ≤ p.len2 → outcome_of (fill_run translate p j s leaf) m ≡ outcome_of (move_end translate p j s leaf) (written_run m (plus p.addr2 p.done) (replicate j p.byte))
  unfolding fill_run
  part_fills j most within =
      run_written s _ (plus p.addr2 p.done) (replicate j p.byte) m (ap (λ k. violation m (plus p.addr2 p.done) k (mode s) Write) (length-replicate j p.byte) ∙ allowed_part m p.addr2 p.len2 p.done j (mode s) Write is.addr2 within checked.destination)

  pub part_filled : moved_count p ≤ p.done → p.done < p.len2 → IfLeftMemory (HasFilled p m) (outcome_of (move_part translate p s leaf) m)
  unfolding move_part
  part_filled none some =
      let r = fill some in
      rw (ne_eqb p.done p.len2 (λ e. omega arith), le-ltb p.done (moved_count p) none)
      (subst (λ (o : Outcome Leaf). IfLeftMemory (HasFilled p m) o) (sym (part_fills (fill_room p) r.1 r.2))
      (memory_end (HasFilled p m) translate p (fill_room p) s (written_run m (plus p.addr2 p.done) (replicate (fill_room p) p.byte)) (has_filled (fill_room p) r.1 r.2)))

-- ---- MOVTUC

some_written : (addr : ℕ) (ys : List ℕ) (s : State) (m : List Area) (k : State → Accesses Leaf) → addr < 2 ^ 32 → length ys ≤ 512 → violation m addr (length ys) (mode s) Write ≡ None → outcome_of (written_some addr ys s k) m ≡ outcome_of (k s) (written_run m addr ys)
unfolding written_some
some_written addr [] s m k small few free = ap (outcome_of (k s)) (sym (nothing_written m addr))
some_written addr (y ∷ ys) s m k small few free =
    let n : (length (y ∷ ys) == 0) ≡ false = grind (arith, nat_tests) in
    rw n (span_written s k addr (y ∷ ys) m small (omega arith) few free)

escape_memory : (P : ℕ → List Area → Type 0) (p : Progress) (count room len : ℕ) (s : State) (m : List Area) → P (min count room) m → IfLeftMemory P (outcome_of (escape_close p count room len s leaf) m)
unfolding escaped completed leaves outcome_of
escape_memory P p count room len s m holds = first (nat_le count room && nat_lt count len) (p.done + min count room == moved_count p) where
  first : (b c : Bool) → IfLeftMemory P (outcome_of (if b then escaped p (p.done + count) true s leaf else (if c then escaped p (moved_count p) false s leaf else leaves (record p { done = p.done + min count room }) (min count room) s leaf)) m)
  first true c = tt
  first false true = tt
  first false false = holds

room_few : (p : Progress) → (escape_room p ≤ 512) × (escape_room p ≤ moved_count p - p.done)
unfolding escape_room
room_few p = (omega arith, omega arith)

source_few : (p : Progress) → source_room p ≤ moved_count p - p.done
unfolding source_room
source_few p = omega arith

module _ (p : Progress) (s : State) (m : List Area) (whole : IsWhole m) (are : AreBytes (byte_at m)) (is : IsMove true p) (checked : IsEscapeChecked p s m) (some : p.done < moved_count p) where
  abbrev from : ℕ
  from = plus p.addr1 p.done

  abbrev to : ℕ
  to = plus p.addr2 p.done

  abbrev entries : List ℕ
  entries = bytes_from (byte_at m) p.table 256

  abbrev here : List ℕ
  here = bytes_from (byte_at m) from (source_room p)

  abbrev clear : ℕ
  clear = position_or_len (is_escape entries p.byte) here

  abbrev made : ℕ
  made = min clear (escape_room p)

  abbrev content : ℕ → ℕ
  content j = as_moved true p.table m (byte_at m (plus p.addr1 (p.done + j)))

  here_long : length here ≡ source_room p
  here_long = length_run (byte_at m) from (source_room p)

  clear_within : clear ≤ source_room p
  clear_within = omega (arith, prefix_len-le-length (λ x. not (is_escape entries p.byte x)) here, here_long)

  byte_here : (j : ℕ) → j < source_room p → get_or here j 0 ≡ byte_at m (plus p.addr1 (p.done + j))
  byte_here j less = let a1 = is.addr1 in byte_of (byte_at m) from (source_room p) j (omega arith) less ∙ ap (byte_at m) (let place : plus from j ≡ plus p.addr1 (p.done + j) = omega arith in place)

  entry_here : (j : ℕ) → j < source_room p → slice_index entries (get_or here j 0) ≡ content j
  entry_here j less = ap (λ x. slice_index entries x) (byte_here j less) ∙ byte_of (byte_at m) p.table 256 (byte_at m (plus p.addr1 (p.done + j))) is.table (are.below (plus p.addr1 (p.done + j)))

  no_escape : (j : ℕ) → j < clear → content j ≢ p.byte
  no_escape j less e =
      let passes : not (is_escape entries p.byte (get_or here j 0)) ≡ true = prefix_len_passes (λ x. not (is_escape entries p.byte x)) here j 0 less in
      let same : is_escape entries p.byte (get_or here j 0) ≡ true = eq-eqb (slice_index entries (get_or here j 0)) p.byte (entry_here j (omega (arith, clear_within)) ∙ e) in
      let never : not true ≡ true = ap not (sym same) ∙ passes in cc

  taken_long : length (take made here) ≡ made
  taken_long = length-take-le made here (omega (arith, clear_within, here_long))

  long : length (translated entries (take made here)) ≡ made
  long = length-map (take made here) (λ x. slice_index entries x) ∙ taken_long

  byte_written : (j : ℕ) → j < made → get_or (translated entries (take made here)) j 0 ≡ content j
  byte_written j less =
      get_or-map (λ x. slice_index entries x) (take made here) j 0 0 (omega (arith, taken_long))
      ∙ ap (λ x. slice_index entries x) (get_or-take made here j 0 less) ∙ entry_here j (omega (arith, clear_within))

  free : violation m to (length (translated entries (take made here))) (mode s) Write ≡ None
  free =
      let few = room_few p in
      ap (λ k. violation m to k (mode s) Write) long ∙ allowed_part m p.addr2 (moved_count p) p.done made (mode s) Write is.addr2 (let most = few.1 in omega arith) checked.destination

  has_escaped : HasEscaped p m made (written_run m to (translated entries (take made here)))
  has_escaped = record {
    wrote = let few = room_few p in
        wrote_run m to made (mode s) (translated entries (take made here)) Write (λ j. plus p.addr2 (p.done + j)) content (λ j. j) whole free (omega arith) long (let most = few.0 in omega arith)
        (λ j less. (less, (let a2 = is.addr2 in let place : plus p.addr2 (p.done + j) ≡ plus to j = omega arith in place), byte_written j less))
        (λ i less. (i, less, refl));
    clear = λ j less. no_escape j (omega arith);
  }

  run_left : IfLeftMemory (HasEscaped p m) (outcome_of (escape_end p (escape_room p) here entries s leaf) m)
  unfolding escape_end
  run_left =
      let few = room_few p in
      subst (λ (o : Outcome Leaf). IfLeftMemory (HasEscaped p m) o) (sym (some_written to (translated entries (take made here)) s m _ (omega arith) (let most = few.0 in omega (arith, long)) free))
      (escape_memory (HasEscaped p m) p clear (escape_room p) (length here) s (written_run m to (translated entries (take made here))) has_escaped)

  none_left : IfLeftMemory (HasEscaped p m) (outcome_of (escaped p p.done true s leaf) m)
  unfolding escaped completed outcome_of
  none_left = tt

  source_free : (i : ℕ) → p.done + i < moved_count p → may_access m (page_of (plus from i)) (mode s) Read ≡ true
  source_free i less =
      let a1 = is.addr1 in
      let e : plus from i ≡ plus p.addr1 (p.done + i) = omega arith in
      ap (λ a. may_access m (page_of a) (mode s) Read) e ∙ allowed_at m p.addr1 (moved_count p) (p.done + i) (mode s) Read a1 less checked.source

  either_left : (b : Bool) → IfLeftMemory (HasEscaped p m) (outcome_of (if b then escaped p p.done true s leaf else read_span from (source_room p) s (λ bytes s. escape_end p (escape_room p) bytes entries s leaf)) m)
  either_left true = none_left
  either_left false =
      subst (λ (o : Outcome Leaf). IfLeftMemory (HasEscaped p m) o)
      (sym (span_is from (source_room p) s m (λ bytes s. escape_end p (escape_room p) bytes entries s leaf) (omega arith) (λ i less. source_free i (let few = source_few p in omega arith)))) run_left

  pub part_escaped : IfLeftMemory (HasEscaped p m) (outcome_of (escape_part p s leaf) m)
  unfolding escape_part escape_run
  part_escaped =
      rw (ne_eqb p.done (moved_count p) (λ e. omega arith))
      (subst (λ (o : Outcome Leaf). IfLeftMemory (HasEscaped p m) o)
      (sym (span_is from 1 s m _ (omega arith) (λ i less. source_free i (omega arith))
      ∙ span_is p.table 256 s m _ is.table (λ i less. allowed_at m p.table 256 i (mode s) Read is.table less (checked.table (omega arith)))))
      (either_left (is_escape entries p.byte (slice_index (bytes_from (byte_at m) from 1) 0))))
