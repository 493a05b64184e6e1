-- What follows an access counts right, and so does the access with it.
use Rattle.std.proofs.Common.{◌≡◌, ℕ, suc, zero, ◌+◌, ◌-◌, ◌^◌, ◌<◌, ◌≤◌, Bool, true, false, cond, if◌then◌else◌, nat_lt, Option, Some, None, List, length, take, drop, refl, sym, ap, subst, ◌∙◌, arith, length-take, length-drop}
use Rattle.std.specs.Prelude.{nat_le}
use Rattle.std.specs.List.{position, position_or_len}
use Rattle.std.proofs.lemmas.Bool.Decides.{nat_tests}
use Rattle.vax_space.specs.declared.Access.{Access}
use Rattle.vax_space.specs.declared.Access.TheVariants.{Read, Write}
use Rattle.vax_space.specs.declared.Area.{Area}
use Rattle.vax_space.specs.declared.Violation.{Violation}
use Rattle.vax_space.specs.Reference.{violation}
use Rattle.vax_strpart.specs.declared.packing.Progress.{Progress}
use Rattle.vax_strpart.specs.Packing.{unpacked, IsProper}
use Rattle.vax_flat.specs.declared.Flow.{Flow}
use Rattle.vax_flat.specs.declared.Flow.TheVariants as flow
use Rattle.vax_flat.specs.Memory.{byte_at, bytes_from, number, written_run}
use Rattle.vax_flat.specs.State.{State, mode}
use Rattle.vax_flat.specs.Accesses.{Accesses, Leaf, Went, Found}
use Rattle.vax_flat.specs.Outcome.{Outcome, Ends, Raised, outcome_of, unless_violated}
use Rattle.vax_flat.specs.Operand.{plus, read_at, check_at}
use Rattle.vax_flat.specs.Bound.{LeavesNoPart}
use Rattle.vax_flat.specs.String.{low_registers, suspended, leaves, read_run_at, write_run_at, read_span, to_page_end}
use Rattle.vax_flat.specs.StringAgree.{IsBehind}
use Rattle.vax_flat.specs.StringMove.{write_pieces, pieces_of, write_span, write_high_last, write_low_last}
use Rattle.vax_flat.specs.StringSearch.{if_found}
use Rattle.vax_flat.proofs.StringState.{unpacked_suspended}
use Rattle.vax_flat.proofs.StringCompare.{run_append}
use Rattle.vax_flat.proofs.StringMemory.{Apart, bytes_outside}
use Rattle.vax_flat_units.specs.Units.{Counts}

-- a piece of a run is apart from what the run is apart from
piece_apart : (addr len skip count b n : ℕ) → ((i : ℕ) → i < count → skip + i < len) → Apart addr len b n → Apart (plus addr skip) count b n
piece_apart addr len skip count b n within apart i j h k e =
    let same : plus addr (skip + i) ≡ plus (plus addr skip) i = omega arith in
    apart (skip + i) j (within i h) k (same ∙ e)

front_apart : (addr len count b n : ℕ) → ((i : ℕ) → i < count → i < len) → Apart addr len b n → Apart addr count b n
front_apart addr len count b n within apart i j h k e = apart i j (within i h) k e

-- bytes apart from a run are as they were
abbrev pub Kept : List Area → ℕ → ℕ → List Area → Type 0
Kept m addr len n = (b count : ℕ) → b < 2 ^ 32 → Apart addr len b count → bytes_from (byte_at n) b count ≡ bytes_from (byte_at m) b count

module _ (units : Progress → List Area → ℕ) (opcode all : ℕ) (s : State) where
  abbrev pub Right : Accesses Leaf → List Area → Type 0
  Right tree m = Counts units opcode all (outcome_of tree m)

  pub none_right : (o : Outcome Leaf) → LeavesNoPart o → Counts units opcode all o
  none_right (Ends (Went flow.Done t) m) h = tt
  none_right (Ends (Went flow.Clocked t) m) h = tt
  none_right (Ends (Went (flow.Trap kind) t) m) h = tt
  none_right (Ends (Went (flow.More by made) t) m) h = absurd h
  none_right (Ends (Went (flow.Ended e) t) m) h = tt
  none_right (Ends (Found operand t) m) h = tt
  none_right (Raised e) h = tt

  unless_right : (v : Option Violation) (o : Outcome Leaf) → Counts units opcode all o → Counts units opcode all (unless_violated v o)
  unless_right (Some v) o r = tt
  unless_right None o r = r

  pub if_right : (b : Bool) (x y : Accesses Leaf) (m : List Area) → (b ≡ true → Right x m) → (b ≡ false → Right y m) → Right (if b then x else y) m
  if_right true x y m g h = g refl
  if_right false x y m g h = h refl

  pub found_right : {X : Type 0} (test : X → Bool) (xs : List X) (found : ℕ → Accesses Leaf) (none : Accesses Leaf) (m : List Area) → ((i : ℕ) → Right (found i) m) → (length xs ≤ position_or_len test xs → Right none m) → Right (if_found (position test xs) found none) m
  found_right test xs found none m g h = by (nat_lt (position_or_len test xs) (length xs)) refl
    where
      by : (b : Bool) → nat_lt (position_or_len test xs) (length xs) ≡ b → Right (if_found (cond b (Some (position_or_len test xs)) None) found none) m
      by true is = g (position_or_len test xs)
      by false is = h (grind (arith, nat_tests))

  -- reads
  pub run_right : (addr len : ℕ) (next : List ℕ → State → Accesses Leaf) (m : List Area) → Right (next (bytes_from (byte_at m) addr len) s) m → Right (read_run_at addr len s next) m
  unfolding read_run_at outcome_of
  run_right addr len next m r = unless_right (violation m addr len (mode s) Read) _ r

  pub byte_right : (addr : ℕ) (next : ℕ → State → Accesses Leaf) (m : List Area) → Right (next (number (byte_at m) addr 1) s) m → Right (read_at addr 1 s next) m
  unfolding read_at outcome_of
  byte_right addr next m r = unless_right (violation m addr 1 (mode s) Read) _ r

  pub check_right : (addr len : ℕ) (access : Access) (next : State → Accesses Leaf) (m : List Area) → Right (next s) m → Right (check_at addr len access s next) m
  unfolding check_at outcome_of
  check_right addr len access next m r = unless_right (violation m addr len (mode s) access) _ r

  pub span_right : (addr len : ℕ) (next : List ℕ → State → Accesses Leaf) (m : List Area) → addr < 2 ^ 32 → Right (next (bytes_from (byte_at m) addr len) s) m → Right (read_span addr len s next) m
  unfolding read_span
  span_right addr len next m small r =
      if_right (nat_le len (to_page_end addr)) _ _ m (λ fits. run_right addr len next m r)
      (λ beyond.
      let n = to_page_end addr in
      let more : n < len = grind (arith, nat_tests) in
      let e : n + (len - n) ≡ len = omega arith in
      run_right addr n _ m (run_right (plus addr n) (len - n) _ m
      (subst (λ bytes. Right (next bytes s) m) (sym (run_append (byte_at m) n (len - n) addr small ∙ ap (bytes_from (byte_at m) addr) e)) r)))

  -- of which the bytes don't matter
  pub any_right : (addr len : ℕ) (next : List ℕ → State → Accesses Leaf) (m : List Area) → ((bytes : List ℕ) → Right (next bytes s) m) → Right (read_span addr len s next) m
  unfolding read_span
  any_right addr len next m r =
      if_right (nat_le len (to_page_end addr)) _ _ m (λ fits. run_right addr len next m (r _)) (λ beyond. run_right addr _ _ m (run_right _ _ _ m (r _)))

  -- writes
  pub written_right : (addr : ℕ) (bytes : List ℕ) (next : State → Accesses Leaf) (m : List Area) → addr < 2 ^ 32 → ((n : List Area) → Kept m addr (length bytes) n → Right (next s) n) → Right (write_run_at addr bytes s next) m
  unfolding write_run_at outcome_of
  written_right addr bytes next m small r =
      unless_right (violation m addr (length bytes) (mode s) Write) _ (r (written_run m addr bytes) (λ b count below apart. bytes_outside m addr bytes b count small below apart))

  pieces_right : (count addr : ℕ) (bytes : List ℕ) (next : State → Accesses Leaf) (m : List Area) → addr < 2 ^ 32 → ((n : List Area) → Kept m addr (length bytes) n → Right (next s) n) → Right (write_pieces count addr bytes s next) m
  unfolding write_pieces
  pieces_right zero addr bytes next m small r = r m (λ b count below apart. refl)
  pieces_right (suc count) addr bytes next m small r =
      let len = length-take 8 bytes in
      let rest = length-drop 8 bytes in
      written_right addr (take 8 bytes) _ m small (λ n kept.
      pieces_right count (plus addr 8) (drop 8 bytes) next n (omega arith) (λ o again.
      r o (λ b c below apart.
      again b c below (piece_apart addr (length bytes) 8 (length (drop 8 bytes)) b c (λ i h. omega arith) apart)
      ∙ kept b c below (front_apart addr (length bytes) (length (take 8 bytes)) b c (λ i h. omega arith) apart))))

  pub span_written_right : (addr : ℕ) (bytes : List ℕ) (next : State → Accesses Leaf) (m : List Area) → addr < 2 ^ 32 → ((n : List Area) → Kept m addr (length bytes) n → Right (next s) n) → Right (write_span addr bytes s next) m
  unfolding write_span write_high_last write_low_last
  span_written_right addr bytes next m small r =
      let first = to_page_end addr in
      let all_bytes = length bytes in
      let low = length-take first bytes in
      let high = length-drop first bytes in
      let one = length-take 1 bytes in
      if_right (nat_le (length bytes) first) _ _ m (λ fits. written_right addr bytes next m small r)
      (λ beyond. if_right (nat_le first 256) _ _ m
      (λ near.
      pieces_right (pieces_of (take first bytes)) addr (take first bytes) _ m small (λ n kept.
      written_right (plus addr first) (drop first bytes) next n (omega arith) (λ o again.
      r o (λ b c below apart.
      again b c below (piece_apart addr all_bytes first (length (drop first bytes)) b c (λ i h. omega arith) apart)
      ∙ kept b c below (front_apart addr all_bytes (length (take first bytes)) b c (λ i h. omega arith) apart)))))
      (λ far.
      written_right addr (take 1 bytes) _ m small (λ n kept.
      pieces_right (pieces_of (drop first bytes)) (plus addr first) (drop first bytes) _ n (omega arith) (λ o again.
      written_right addr (take first bytes) next o small (λ u last.
      r u (λ b c below apart.
      last b c below (front_apart addr all_bytes (length (take first bytes)) b c (λ i h. omega arith) apart)
      ∙ (again b c below (piece_apart addr all_bytes first (length (drop first bytes)) b c (λ i h. omega arith) apart)
      ∙ kept b c below (front_apart addr all_bytes (length (take 1 bytes)) b c (λ i h. omega arith) apart))))))))

  -- a part leaves something
  pub left_right : (next : Flow → State → Accesses Leaf) → IsBehind next → length s.core.regs ≡ 16 → (q : Progress) (made : ℕ) (m : List Area) → q.op ≡ opcode → IsProper q → 1 ≤ made → 1 ≤ units q m → all ≡ made + units q m → Right (leaves q made s next) m
  unfolding leaves outcome_of
  left_right next behind full q made m same proper some rest sum =
      let held : q ≡ unpacked opcode (low_registers (suspended q s)) = sym (ap (λ o. unpacked o (low_registers (suspended q s))) (sym same) ∙ unpacked_suspended q s full proper) in
      rw (behind.more q.op made (suspended q s)) (record {
        same = same;
        some = some;
        rest = subst (λ r. 1 ≤ units r m) held rest;
        sum = sum ∙ ap (λ r. made + units r m) held;
      })
