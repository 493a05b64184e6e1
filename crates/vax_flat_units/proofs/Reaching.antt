-- Units up to the first that violates, and what follows an access: where it leaves a part, no unit of that part violates.
use Rattle.std.proofs.Common.{◌≡◌, ℕ, suc, zero, ◌+◌, ◌-◌, ◌^◌, ◌<◌, ◌≤◌, Bool, true, false, cond, if◌then◌else◌, nat_lt, Option, Some, None, List, length, refl, sym, ap, subst, ◌∙◌, inl, inr, arith}
use Rattle.std.specs.Prelude.{nat_le}
use Rattle.std.specs.List.{position, position_or_len}
use Rattle.std.proofs.lemmas.Bool.{cases_lt}
use Rattle.std.proofs.lemmas.Bool.Decides.{nat_tests}
use Rattle.vax_space.specs.declared.Access.{Access}
use Rattle.vax_space.specs.declared.Access.TheVariants.{Read}
use Rattle.vax_space.specs.declared.Area.{Area}
use Rattle.vax_space.specs.declared.Violation.{Violation}
use Rattle.vax_space.specs.Reference.{violation, may_access, page_of}
use Rattle.vax_strpart.specs.declared.packing.Progress.{Progress}
use Rattle.vax_strpart.specs.Packing.{unpacked, IsProper}
use Rattle.vax_flat.specs.declared.Flow.{Flow}
use Rattle.vax_flat.specs.declared.Flow.TheVariants as flow
use Rattle.vax_flat.specs.Memory.{byte_at, bytes_from, number}
use Rattle.vax_flat.specs.State.{State, mode}
use Rattle.vax_flat.specs.Accesses.{Accesses, Leaf, Went, Found}
use Rattle.vax_flat.specs.Outcome.{Outcome, Ends, Raised, outcome_of, unless_violated}
use Rattle.vax_flat.specs.Operand.{plus, read_at, check_at}
use Rattle.vax_flat.specs.Bound.{LeavesNoPart}
use Rattle.vax_flat.specs.String.{low_registers, suspended, leaves, read_run_at, read_span, to_page_end}
use Rattle.vax_flat.specs.StringAgree.{IsBehind}
use Rattle.vax_flat.specs.StringSearch.{if_found}
use Rattle.vax_flat.proofs.StringState.{unpacked_suspended}
use Rattle.vax_flat.proofs.StringMemory.{allowed_at}
use Rattle.vax_flat.proofs.StringCompare.{run_append}
use Rattle.vax_flat_units.specs.Violations.{to_violation, is_barred}

one_or : (b : Bool) (n count : ℕ) → n ≤ count → (if b then 1 else suc n) ≤ suc count
one_or true n count few = omega arith
one_or false n count few = omega arith

pub few_reached : (violates : ℕ → Bool) (n : ℕ) → to_violation violates n ≤ n
unfolding to_violation
few_reached violates zero = omega arith
few_reached violates (suc n) = one_or (violates 0) _ n (few_reached (λ i. violates (suc i)) n)

some_or : (b : Bool) (n : ℕ) → 1 ≤ (if b then 1 else suc n)
some_or true n = omega arith
some_or false n = omega arith

pub some_reached : (violates : ℕ → Bool) (n : ℕ) → 1 ≤ n → 1 ≤ to_violation violates n
unfolding to_violation
some_reached violates zero h = absurd (omega arith)
some_reached violates (suc n) h = some_or (violates 0) (to_violation (λ i. violates (suc i)) n)

pub alike : (v w : ℕ → Bool) (n : ℕ) → ((i : ℕ) → v i ≡ w i) → to_violation v n ≡ to_violation w n
alike v w n same = ap (λ f. to_violation f n) (λ k i. same i k)

-- units of which none violates are passed over
passed : (v : ℕ → Bool) (made n : ℕ) → ((i : ℕ) → i < made → v i ≡ false) → to_violation v (made + n) ≡ made + to_violation (λ i. v (made + i)) n
unfolding to_violation
passed v zero n clear =
    let z : 0 + n ≡ n = omega arith in
    let e = alike v (λ i. v (0 + i)) n (λ i. let a : i ≡ 0 + i = omega arith in ap v a) in
    ap (to_violation v) z ∙ omega (arith, e)
passed v (suc made) n clear =
    let z : suc made + n ≡ suc (made + n) = omega arith in
    let rest = passed (λ i. v (suc i)) made n (λ i h. clear (suc i) (omega arith)) in
    let e = alike (λ i. v (suc (made + i))) (λ i. v (suc made + i)) n (λ i. let a : suc (made + i) ≡ suc made + i = omega arith in ap v a) in
    let first : v 0 ≡ false = clear 0 (omega arith) in
    ap (to_violation v) z ∙ (first_of (v 0) (to_violation (λ i. v (suc i)) (made + n)) first ∙ omega (arith, rest, e))
  where
    first_of : (b : Bool) (k : ℕ) → b ≡ false → (if b then 1 else suc k) ≡ suc k
    first_of b k e = rw e refl

-- of the units that are left, which v says of, so many are made, and w says of the others
pub record IsClear (v w : ℕ → Bool) (made : ℕ) : Type 0 where
  pub clear : (i : ℕ) → i < made → v i ≡ false
  pub shift : (i : ℕ) → w i ≡ v (made + i)

pub reached_so : (v w : ℕ → Bool) (all made rest : ℕ) → IsClear v w made → all ≡ made + rest → to_violation v all ≡ made + to_violation w rest
reached_so v w all made rest is sum =
    let e = alike w (λ i. v (made + i)) rest is.shift in
    let p = passed v made rest is.clear in
    ap (to_violation v) sum ∙ omega (arith, p, e)

-- a byte that may be read
pub not_barred : (memory : List Area) (in_mode addr : ℕ) → may_access memory (page_of addr) in_mode Read ≡ true → is_barred memory in_mode addr ≡ false
not_barred memory in_mode addr good = rw good refl

-- where a part left something, none of its units violates
abbrev pub Clears : (Progress → ℕ → Bool) → ℕ → (ℕ → Bool) → Outcome Leaf → Type 0
Clears violates opcode v (Ends (Went flow.Done s) memory) = Unit {0}
Clears violates opcode v (Ends (Went flow.Clocked s) memory) = Unit {0}
Clears violates opcode v (Ends (Went (flow.Trap kind) s) memory) = Unit {0}
Clears violates opcode v (Ends (Went (flow.More by made) s) memory) = IsClear v (violates (unpacked opcode (low_registers s))) made
Clears violates opcode v (Ends (Went (flow.Ended e) s) memory) = Unit {0}
Clears violates opcode v (Ends (Found operand s) memory) = Unit {0}
Clears violates opcode v (Raised e) = Unit {0}

module _ (violates : Progress → ℕ → Bool) (opcode : ℕ) (v : ℕ → Bool) (s : State) (m : List Area) where
  abbrev pub Clear : Accesses Leaf → Type 0
  Clear tree = Clears violates opcode v (outcome_of tree m)

  pub none_clear : (o : Outcome Leaf) → LeavesNoPart o → Clears violates opcode v o
  none_clear (Ends (Went flow.Done t) memory) h = tt
  none_clear (Ends (Went flow.Clocked t) memory) h = tt
  none_clear (Ends (Went (flow.Trap kind) t) memory) h = tt
  none_clear (Ends (Went (flow.More by made) t) memory) h = absurd h
  none_clear (Ends (Went (flow.Ended e) t) memory) h = tt
  none_clear (Ends (Found operand t) memory) h = tt
  none_clear (Raised e) h = tt

  unless_clear : (found : Option Violation) (o : Outcome Leaf) → (found ≡ None → Clears violates opcode v o) → Clears violates opcode v (unless_violated found o)
  unless_clear (Some x) o r = tt
  unless_clear None o r = r refl

  pub if_clear : (b : Bool) (x y : Accesses Leaf) → (b ≡ true → Clear x) → (b ≡ false → Clear y) → Clear (if b then x else y)
  if_clear true x y g h = g refl
  if_clear false x y g h = h refl

  pub found_clear : {X : Type 0} (test : X → Bool) (xs : List X) (found : ℕ → Accesses Leaf) (none : Accesses Leaf) → ((i : ℕ) → Clear (found i)) → Clear none → Clear (if_found (position test xs) found none)
  found_clear test xs found none g h = by (nat_lt (position_or_len test xs) (length xs))
    where
      by : (b : Bool) → Clear (if_found (cond b (Some (position_or_len test xs)) None) found none)
      by true = g (position_or_len test xs)
      by false = h

  pub run_clear : (addr len : ℕ) (next : List ℕ → State → Accesses Leaf) → (violation m addr len (mode s) Read ≡ None → Clear (next (bytes_from (byte_at m) addr len) s)) → Clear (read_run_at addr len s next)
  unfolding read_run_at outcome_of
  run_clear addr len next r = unless_clear (violation m addr len (mode s) Read) _ r

  pub byte_clear : (addr : ℕ) (next : ℕ → State → Accesses Leaf) → (violation m addr 1 (mode s) Read ≡ None → Clear (next (number (byte_at m) addr 1) s)) → Clear (read_at addr 1 s next)
  unfolding read_at outcome_of
  byte_clear addr next r = unless_clear (violation m addr 1 (mode s) Read) _ r

  pub check_clear : (addr len : ℕ) (access : Access) (next : State → Accesses Leaf) → (violation m addr len (mode s) access ≡ None → Clear (next s)) → Clear (check_at addr len access s next)
  unfolding check_at outcome_of
  check_clear addr len access next r = unless_clear (violation m addr len (mode s) access) _ r

  abbrev pub May : ℕ → Type 0
  May addr = may_access m (page_of addr) (mode s) Read ≡ true

  -- bytes that may be read, each of them
  pub span_clear : (addr len : ℕ) (next : List ℕ → State → Accesses Leaf) → addr < 2 ^ 32 → (((i : ℕ) → i < len → May (plus addr i)) → Clear (next (bytes_from (byte_at m) addr len) s)) → Clear (read_span addr len s next)
  unfolding read_span
  span_clear addr len next small r =
      if_clear (nat_le len (to_page_end addr)) _ _ (λ fits. run_clear addr len next (λ free. r (λ i h. allowed_at m addr len i (mode s) Read small h free)))
      (λ beyond.
      let n = to_page_end addr in
      let more : n < len = grind (arith, nat_tests) in
      let e : n + (len - n) ≡ len = omega arith in
      run_clear addr n _ (λ low. run_clear (plus addr n) (len - n) _ (λ high.
      subst (λ bytes. Clear (next bytes s)) (sym (run_append (byte_at m) n (len - n) addr small ∙ ap (bytes_from (byte_at m) addr) e))
      (r (λ i h. elim (cases_lt i n) [
        | inl l ↦ allowed_at m addr n i (mode s) Read small l low
        | inr g ↦
            let a : plus (plus addr n) (i - n) ≡ plus addr i = omega arith in
            subst May a (allowed_at m (plus addr n) (len - n) (i - n) (mode s) Read (omega arith) (omega arith) high)
      ])))))

  -- a part leaves something
  pub left_clear : (next : Flow → State → Accesses Leaf) → IsBehind next → length s.core.regs ≡ 16 → (q : Progress) (made : ℕ) → q.op ≡ opcode → IsProper q → IsClear v (violates q) made → Clear (leaves q made s next)
  unfolding leaves outcome_of
  left_clear next behind full q made same proper is =
      let held : q ≡ unpacked opcode (low_registers (suspended q s)) = sym (ap (λ o. unpacked o (low_registers (suspended q s))) (sym same) ∙ unpacked_suspended q s full proper) in
      rw (behind.more q.op made (suspended q s)) (subst (λ r. IsClear v (violates r) made) held is)
