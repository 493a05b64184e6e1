-- A whole move that is completed writes a byte for each of its units, but for a byte that escapes.
use Rattle.std.proofs.Common.{◌≡◌, ℕ, suc, ◌+◌, ◌-◌, ◌/◌, max, Bool, true, false, not, ◌==◌, nat_lt, if◌then◌else◌, Option, Some, None, List, [], ◌∷◌, length, take, replicate, refl, sym, ap, subst, ◌∙◌, inl, inr, arith}
use Rattle.std.specs.List.{position_or_len}
use Rattle.std.proofs.lemmas.Bool.{cases_lt, eqb-true}
use Rattle.std.proofs.lemmas.Bool.Decides.{nat_tests}
use Rattle.std.proofs.lemmas.List.{length-map, length-replicate, length-take-le}
use Rattle.std.proofs.lemmas.List.Sums.{prefix_len-le-length}
use Rattle.vax_word.specs.declared.Codes.{Codes}
use Rattle.vax_word.specs.declared.Size.TheVariants.{W}
use Rattle.vax_word.specs.Arithmetic.{compared}
use Rattle.vax_word.specs.Status.{codes_of, with_codes}
use Rattle.vax_word.proofs.StatusLemmas.{codes_of-packed}
use Rattle.vax_space.specs.declared.Access.{Access}
use Rattle.vax_space.specs.declared.Access.TheVariants.{Read, Write}
use Rattle.vax_space.specs.declared.Area.{Area}
use Rattle.vax_space.specs.declared.Violation.{Violation}
use Rattle.vax_space.specs.Reference.{violation}
use Rattle.vax_strpart.specs.declared.packing.Progress.{Progress}
use Rattle.vax_strpart.specs.Kernels.{translated, is_escape}
use Rattle.vax_flat.specs.declared.Exception.TheVariants.{Operand}
use Rattle.vax_flat.specs.declared.Flow.TheVariants as flow
use Rattle.vax_flat.specs.Memory.{byte_at, bytes_from, written_run}
use Rattle.vax_flat.specs.State.{State, mode, with_conditions}
use Rattle.vax_flat.specs.Accesses.{Accesses, Raises, Leaf, Went}
use Rattle.vax_flat.specs.Outcome.{Ends, outcome_of, touches_of, unless_violated, unless_stopped}
use Rattle.vax_flat.specs.Operand.{plus, check_at}
use Rattle.vax_flat.specs.Step.{leaf}
use Rattle.vax_flat.specs.String.{completed, with_low, read_run_at, write_run_at}
use Rattle.vax_flat.specs.StringMove.{by_table, is_reserved, moved, moved_bytes, moved_count, move_checked, move_rest, table_checked, whole_move}
use Rattle.vax_flat.specs.StringEscape.{escaped, escaped_low, escape_rest, is_escape_reserved, whole_escape}
use Rattle.vax_flat.proofs.StringSearch.{length_run}
use Rattle.vax_flat_units.specs.Units.{to_first, move_units, escape_units}
use Rattle.vax_flat_units.specs.Wholes.{IfCompleted, bytes_written, if_escaped}

-- trees that write, with what the state at the end adds
module _ (adds : State → ℕ) (s : State) where
  abbrev Writes : ℕ → Accesses Leaf → List Area → Type 0
  Writes n tree m = IfCompleted tree m (λ t ranges. bytes_written ranges + adds t ≡ n)

  same_writes : (n k : ℕ) (tree : Accesses Leaf) (m : List Area) → n ≡ k → Writes n tree m → Writes k tree m
  same_writes n k tree m e r t o is = r t o is ∙ e

  raised_writes : (n : ℕ) (m : List Area) → Writes n (Raises Operand) m
  unfolding outcome_of
  raised_writes n m t o e = absurd (cc)

  if_writes : (b : Bool) (n : ℕ) (x y : Accesses Leaf) (m : List Area) → (b ≡ true → Writes n x m) → (b ≡ false → Writes n y m) → Writes n (if b then x else y) m
  if_writes true n x y m f g = f refl
  if_writes false n x y m f g = g refl

  end_writes : (values : List ℕ) (codes : Codes) (m : List Area) → Writes (adds (with_low values (with_conditions s codes))) (completed values codes s leaf) m
  unfolding completed outcome_of touches_of bytes_written
  end_writes values codes m t o e =
      let is : with_low values (with_conditions s codes) ≡ t = cc in
      let z : 0 + adds t ≡ adds t = omega arith in
      z ∙ ap adds (sym is)

  run_over : (addr len n : ℕ) (next : List ℕ → State → Accesses Leaf) (m : List Area) → Writes n (next (bytes_from (byte_at m) addr len) s) m → Writes n (read_run_at addr len s next) m
  unfolding read_run_at outcome_of touches_of bytes_written
  run_over addr len n next m r = by (violation m addr len (mode s) Read)
    where
      by : (v : Option Violation) → (t : State) (o : List Area) → unless_violated v (outcome_of (next (bytes_from (byte_at m) addr len) s) m) ≡ Ends (Went flow.Done t) o → bytes_written (unless_stopped v (record { addr = addr; len = len; writes = false } ∷ touches_of (next (bytes_from (byte_at m) addr len) s) m)) + adds t ≡ n
      by (Some v) t o e = absurd (cc)
      by None t o e = r t o e

  check_over : (addr len n : ℕ) (access : Access) (next : State → Accesses Leaf) (m : List Area) → Writes n (next s) m → Writes n (check_at addr len access s next) m
  unfolding check_at outcome_of touches_of bytes_written
  check_over addr len n access next m r = by (violation m addr len (mode s) access)
    where
      by : (v : Option Violation) → (t : State) (o : List Area) → unless_violated v (outcome_of (next s) m) ≡ Ends (Went flow.Done t) o → bytes_written (unless_stopped v (touches_of (next s) m)) + adds t ≡ n
      by (Some v) t o e = absurd (cc)
      by None t o e = r t o e

  run_writes : (addr n : ℕ) (bytes : List ℕ) (next : State → Accesses Leaf) (m : List Area) → Writes n (next s) (written_run m addr bytes) → Writes (length bytes + n) (write_run_at addr bytes s next) m
  unfolding write_run_at outcome_of touches_of bytes_written
  run_writes addr n bytes next m r = by (violation m addr (length bytes) (mode s) Write)
    where
      by : (v : Option Violation) → (t : State) (o : List Area) → unless_violated v (outcome_of (next s) (written_run m addr bytes)) ≡ Ends (Went flow.Done t) o →
          bytes_written (unless_stopped v (record { addr = addr; len = length bytes; writes = true } ∷ touches_of (next s) (written_run m addr bytes))) + adds t ≡ length bytes + n
      by (Some v) t o e = absurd (cc)
      by None t o e = let h = r t o e in omega arith

  checked_over : (translate : Bool) (p : Progress) (written n : ℕ) (k : State → Accesses Leaf) (m : List Area) → Writes n (k s) m → Writes n (move_checked translate p written s k) m
  unfolding move_checked table_checked
  checked_over translate p written n k m r =
      let last = check_over p.addr2 written n Write k m r in
      check_over p.addr1 (moved_count p) n Read _ m (if_writes (by_table translate p) n _ _ m (λ yes'. check_over p.table 256 n Read _ m last) (λ no'. last))

  bytes_over : (translate : Bool) (p : Progress) (addr count n : ℕ) (k : List ℕ → State → Accesses Leaf) (m : List Area) → ((bytes : List ℕ) → length bytes ≡ count → Writes n (k bytes s) m) → Writes n (moved_bytes translate p addr count s k) m
  unfolding moved_bytes
  bytes_over translate p addr count n k m r =
      if_writes (count == 0) n _ _ m (λ none. r [] (sym (eqb-true _ _ none)))
      (λ some. run_over addr count n _ m
      (if_writes translate n _ _ m
      (λ by. run_over p.table 256 n _ m (r _ (length-map (bytes_from (byte_at m) addr count) _ ∙ length_run (byte_at m) addr count)))
      (λ as_is. r _ (length_run (byte_at m) addr count))))

-- MOVC3, MOVC5, MOVTC
moved_writes : (translate : Bool) (p : Progress) (s : State) (m : List Area) → Writes (λ t. 0) s 0 (moved translate p s leaf) m
unfolding moved
moved_writes translate p s m = end_writes (λ t. 0) s _ _ m

rest_writes : (translate : Bool) (p : Progress) (s : State) (m : List Area) → Writes (λ t. 0) s (move_units p m) (move_rest translate p s leaf) m
unfolding move_rest move_units
rest_writes translate p s m =
    let count = moved_count p in
    let filled = max p.done count in
    bytes_over (λ t. 0) s translate p _ (count - p.done) _ _ m (λ bytes len.
    let size = length-replicate (p.len2 - filled) p.byte in
    let e : length bytes + (length (replicate (p.len2 - filled) p.byte) + 0) ≡ (count - p.done) + (p.len2 - filled) = omega (arith, len, size) in
    same_writes (λ t. 0) s _ _ _ m e
    (run_writes (λ t. 0) s _ _ bytes (λ t. write_run_at (plus p.addr2 filled) (replicate (p.len2 - filled) p.byte) t (λ u. moved translate p u leaf)) m
    (run_writes (λ t. 0) s _ 0 (replicate (p.len2 - filled) p.byte) (λ u. moved translate p u leaf) _ (moved_writes translate p s _))))

move_writes : (translate : Bool) (p : Progress) (s : State) (m : List Area) → Writes (λ t. 0) s (move_units p m) (whole_move translate p s leaf) m
unfolding whole_move
move_writes translate p s m =
    if_writes (λ t. 0) s (is_reserved translate p) _ _ _ m (λ reserved. raised_writes (λ t. 0) s _ m)
    (λ fine. checked_over (λ t. 0) s translate p p.len2 _ _ m (rest_writes translate p s m))

pub move_is : (translate : Bool) (p : Progress) (s : State) (m : List Area) → IfCompleted (whole_move translate p s leaf) m (λ t ranges. bytes_written ranges ≡ move_units p m)
move_is translate p s m t o e = let h = move_writes translate p s m t o e in omega arith

-- MOVTUC
first_is : (found : ℕ → Bool) (xs : List ℕ) → to_first found xs ≡ position_or_len found xs + (if nat_lt (position_or_len found xs) (length xs) then 1 else 0)
unfolding to_first
first_is found [] = refl
first_is found (x ∷ xs) = by (found x) refl (first_is found xs)
  where
    more : (n : ℕ) → nat_lt (1 + n) (suc (length xs)) ≡ nat_lt n (length xs)
    more n = elim (cases_lt n (length xs)) [
      | inl l ↦ let a : nat_lt (1 + n) (suc (length xs)) ≡ true = grind (arith, nat_tests) in let b : nat_lt n (length xs) ≡ true = grind (arith, nat_tests) in a ∙ sym b
      | inr g ↦ let a : nat_lt (1 + n) (suc (length xs)) ≡ false = grind (arith, nat_tests) in let b : nat_lt n (length xs) ≡ false = grind (arith, nat_tests) in a ∙ sym b
    ]

    by : (b : Bool) → found x ≡ b → to_first found xs ≡ position_or_len found xs + (if nat_lt (position_or_len found xs) (length xs) then 1 else 0) →
        (if found x then 1 else suc (to_first found xs)) ≡ position_or_len found (x ∷ xs) + (if nat_lt (position_or_len found (x ∷ xs)) (suc (length xs)) then 1 else 0)
    by true is rest = let t : nat_lt 0 (suc (length xs)) ≡ true = grind (arith, nat_tests) in rw (is, t) refl
    by false is rest = rw (is, more (position_or_len found xs)) (omega (arith, rest))

escaped_writes : (p : Progress) (count : ℕ) (b : Bool) (s : State) (m : List Area) → Writes if_escaped s (if b then 1 else 0) (escaped p count b s leaf) m
unfolding escaped with_low with_codes
escaped_writes p count b s m =
    let codes : Codes = record (compared W p.len1 p.len2) { v = b } in
    let is : codes_of (with_conditions s codes).core.psl ≡ codes = codes_of-packed (s.core.psl.0 / 16) codes in
    subst (λ n. Writes if_escaped s n (completed (escaped_low p count) codes s leaf) m) (ap (λ (k : Codes). if k.v then 1 else 0) is) (end_writes if_escaped s (escaped_low p count) codes m)

no_bytes : (found : ℕ → Bool) (byte : ℕ → ℕ) (addr n : ℕ) → n ≡ 0 → to_first found (bytes_from byte addr n) ≡ 0
unfolding to_first bytes_from
no_bytes found byte addr n e = rw e refl

rest_escapes : (p : Progress) (s : State) (m : List Area) → Writes if_escaped s (escape_units p m) (escape_rest p s leaf) m
unfolding escape_rest escape_units
rest_escapes p s m =
    let left = moved_count p - p.done in
    let xs = bytes_from (byte_at m) (plus p.addr1 p.done) left in
    let table = bytes_from (byte_at m) p.table 256 in
    let found = is_escape table p.byte in
    let count = position_or_len found xs in
    let len = length_run (byte_at m) (plus p.addr1 p.done) left in
    if_writes if_escaped s (left == 0) _ _ _ m
    (λ none. same_writes if_escaped s _ _ _ m (sym (no_bytes found (byte_at m) (plus p.addr1 p.done) left (eqb-true _ _ none))) (escaped_writes p (moved_count p) false s m))
    (λ some.
    let size : length (translated table (take count xs)) ≡ count = length-map (take count xs) _ ∙ length-take-le count xs (prefix_len-le-length (λ x. not (found x)) xs) in
    let e : length (translated table (take count xs)) + (if nat_lt count left then 1 else 0) ≡ to_first found xs =
    ap (λ n. n + (if nat_lt count left then 1 else 0)) size ∙ (ap (λ n. count + (if nat_lt count n then 1 else 0)) (sym len) ∙ sym (first_is found xs)) in
    run_over if_escaped s _ left _ _ m (run_over if_escaped s p.table 256 _ _ m
    (same_writes if_escaped s _ _ _ m e (run_writes if_escaped s _ _ (translated table (take count xs)) (λ t. escaped p (p.done + count) (nat_lt count left) t leaf) m (escaped_writes p _ (nat_lt count left) s _)))))

pub escape_is : (p : Progress) (s : State) (m : List Area) → IfCompleted (whole_escape p s leaf) m (λ t ranges. bytes_written ranges + if_escaped t ≡ escape_units p m)
unfolding whole_escape
escape_is p s m =
    if_writes if_escaped s (is_escape_reserved p) _ _ _ m (λ reserved. raised_writes if_escaped s _ m)
    (λ fine. checked_over if_escaped s true p (moved_count p) _ _ m (rest_escapes p s m))
