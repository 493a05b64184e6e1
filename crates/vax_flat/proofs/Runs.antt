-- Runs of the flat machine.
use Rattle.std.proofs.Common.{◌≡◌, ℕ, zero, suc, ◌+◌, Bool, true, false, Option, Some, None, List, [], ◌∷◌, ◌++◌, length, refl, sym, ap, ◌∙◌, arith, append_assoc, append-nil}
use Rattle.vax_space.specs.declared.Access.{Access}
use Rattle.vax_space.specs.declared.Access.TheVariants.{Read, Write}
use Rattle.vax_space.specs.declared.Area.{Area}
use Rattle.vax_space.specs.declared.Violation.{Violation}
use Rattle.vax_space.specs.Reference.{page_of, violation}
use Rattle.vax_flat.specs.declared.Ending.{Ending}
use Rattle.vax_flat.specs.declared.Flow.TheVariants as flow
use Rattle.vax_flat.specs.Memory.{AllResident, after, byte_at, number, bytes_from, written, written_run}
use Rattle.vax_flat.specs.Port.{first_absent}
use Rattle.vax_flat.specs.Accesses.{Accesses, Done, Raises, Checks, Asks, Reads, Writes, ReadsRun, WritesRun, Leaf, Went, Found}
use Rattle.vax_flat.specs.Outcome.{Outcome, Ends, Raised, Range, outcome_of, touches_of, first_missing, unless_stopped, is_allowed}
use Rattle.vax_flat.specs.Step.{Flat, step, step_from, run, state_of, whole_step, whole_delivery, concluded, after_instruction, after_delivery, touches_after, with_byte_sent}
use Rattle.vax_flat.proofs.Memory.{allowed_first, mapped_where_accessible, is_mapped-written, is_mapped-written_run}

-- a range that is allowed has no absent page then
none_absent : (resident : ℕ → Bool) (areas : List Area) (addr len mode : ℕ) (access : Access) → AllResident resident areas → violation areas addr len mode access ≡ None → first_absent resident addr len ≡ None
unfolding first_absent
none_absent resident areas addr zero mode access all h = refl
none_absent resident areas addr (suc len) mode access all h =
    let g = allowed_first areas addr len mode access h in
    let here : resident (page_of addr) ≡ true = all (page_of addr) (mapped_where_accessible areas (page_of addr) mode access g.0) in
    rw here (none_absent resident areas (after addr) len mode access all g.1)

none_more : (resident : ℕ → Bool) (v : Option Violation) (range : Range) (ranges : List Range) → (v ≡ None → first_absent resident range.addr range.len ≡ None) → (v ≡ None → first_missing resident ranges ≡ None) → first_missing resident (unless_stopped v (range ∷ ranges)) ≡ None
unfolding first_missing
none_more resident (Some v) range ranges here rest = refl
none_more resident None range ranges here rest = rw (here refl) (rest refl)

checked_more : (resident : ℕ → Bool) (v : Option Violation) (ranges : List Range) → first_missing resident ranges ≡ None → first_missing resident (unless_stopped v ranges) ≡ None
unfolding first_missing
checked_more resident (Some v) ranges rest = refl
checked_more resident None ranges rest = rest

still_resident : (resident : ℕ → Bool) (areas : List Area) (addr len value : ℕ) → AllResident resident areas → AllResident resident (written areas addr len value)
still_resident resident areas addr len value all = λ page h. all page (sym (is_mapped-written areas addr len value page) ∙ h)

still_resident_run : (resident : ℕ → Bool) (areas : List Area) (addr : ℕ) (bytes : List ℕ) → AllResident resident areas → AllResident resident (written_run areas addr bytes)
still_resident_run resident areas addr bytes all = λ page h. all page (sym (is_mapped-written_run areas addr bytes page) ∙ h)

-- where every page of the areas is resident, no page that a tree touches is absent
pub none_missing : {A : Type 0} (tree : Accesses A) (resident : ℕ → Bool) (memory : List Area) → AllResident resident memory → first_missing resident (touches_of tree memory) ≡ None
unfolding touches_of first_missing
none_missing (Done x) resident memory all = refl
none_missing (Raises e) resident memory all = refl
none_missing (Checks addr len mode access next) resident memory all = checked_more resident (violation memory addr len mode access) _ (none_missing next resident memory all)
none_missing (Asks addr len mode access next) resident memory all = none_missing (next (is_allowed (violation memory addr len mode access))) resident memory all
none_missing (Reads addr len mode next) resident memory all =
    none_more resident (violation memory addr len mode Read) (record { addr = addr; len = len; writes = false }) _ (none_absent resident memory addr len mode Read all) (λ fine. none_missing (next (number (byte_at memory) addr len)) resident memory all)
none_missing (Writes addr len value mode next) resident memory all =
    none_more resident (violation memory addr len mode Write) (record { addr = addr; len = len; writes = true }) _ (none_absent resident memory addr len mode Write all) (λ fine. none_missing next resident (written memory addr len value) (still_resident resident memory addr len value all))
none_missing (ReadsRun addr len mode next) resident memory all =
    none_more resident (violation memory addr len mode Read) (record { addr = addr; len = len; writes = false }) _ (none_absent resident memory addr len mode Read all) (λ fine. none_missing (next (bytes_from (byte_at memory) addr len)) resident memory all)
none_missing (WritesRun addr bytes mode next) resident memory all =
    none_more resident (violation memory addr (length bytes) mode Write) (record { addr = addr; len = length bytes; writes = true }) _ (none_absent resident memory addr (length bytes) mode Write all) (λ fine. none_missing next resident (written_run memory addr bytes) (still_resident_run resident memory addr bytes all))

pub after_none : (m : Flat) (resident : ℕ → Bool) (outcome : Outcome Leaf) → AllResident resident m.memory → first_missing resident (touches_after m outcome) ≡ None
unfolding first_missing
after_none m resident (Ends leaf memory) all = refl
after_none m resident (Raised e) all = none_missing (whole_delivery e (state_of m)) resident m.memory all

-- one run after another
pub run-run : (a b : ℕ) (m : Flat) → run a (run b m) ≡ run (a + b) m
unfolding run
run-run zero b m = let e : b ≡ zero + b = omega arith in ap (λ n. run n m) e
run-run (suc a) b m =
    let e : suc a + b ≡ suc (a + b) = omega arith in
    ap step (run-run a b m) ∙ ap (λ n. run n m) (sym e)

-- a machine that has ended stays as it is
pub step_ended : (m : Flat) (e : Ending) → m.ending ≡ Some e → step m ≡ m
step_ended m e h = ap (λ x. step_from x m) h

-- one that goes on after a step was going on before it
going_before : (m : Flat) (e : Option Ending) → m.ending ≡ e → (step m).ending ≡ None → m.ending ≡ None
going_before m None h g = h
going_before m (Some e) h g = sym (ap (λ (x : Flat). x.ending) (step_ended m e h)) ∙ g

pub going_back : (n k : ℕ) (m : Flat) → (run (k + n) m).ending ≡ None → (run n m).ending ≡ None
unfolding run
going_back n zero m g = let e : zero + n ≡ n = omega arith in ap (λ (i : ℕ). (run i m).ending) (sym e) ∙ g
going_back n (suc k) m g =
    let e : suc k + n ≡ suc (k + n) = omega arith in
    going_back n k m (going_before (run (k + n) m) _ refl (ap (λ (i : ℕ). (run i m).ending) (sym e) ∙ g))

-- a step only appends to the output
pub record Extends (before after : List ℕ) : Type 0 where
  pub more : List ℕ
  pub is : after ≡ before ++ more

extends_same : (output : List ℕ) → Extends output output
extends_same output = record { more = []; is = sym (append-nil output) }

extends_sent : (output : List ℕ) (sent : Option ℕ) → Extends output (with_byte_sent output sent)
extends_sent output None = extends_same output
extends_sent output (Some byte) = record { more = byte ∷ []; is = refl }

extends_concluded : (m : Flat) (leaf : Leaf) (memory : List Area) → Extends m.output (concluded m leaf memory).output
extends_concluded m (Went flow.Done s) memory = extends_sent m.output s.sent
extends_concluded m (Went flow.Clocked s) memory = extends_same m.output
extends_concluded m (Went (flow.Trap kind) s) memory = extends_same m.output
extends_concluded m (Went (flow.More opcode units) s) memory = extends_same m.output
extends_concluded m (Went (flow.Ended e) s) memory = extends_same m.output
extends_concluded m (Found operand s) memory = extends_same m.output

extends_delivery : (m : Flat) (outcome : Outcome Leaf) → Extends m.output (after_delivery m outcome).output
extends_delivery m (Ends leaf memory) = extends_concluded m leaf memory
extends_delivery m (Raised e) = extends_same m.output

extends_instruction : (m : Flat) (outcome : Outcome Leaf) → Extends m.output (after_instruction m outcome).output
extends_instruction m (Ends leaf memory) = extends_concluded m leaf memory
extends_instruction m (Raised e) = extends_delivery m (outcome_of (whole_delivery e (state_of m)) m.memory)

extends_from : (e : Option Ending) (m : Flat) → Extends m.output (step_from e m).output
extends_from None m = extends_instruction m (outcome_of (whole_step (state_of m)) m.memory)
extends_from (Some e) m = extends_same m.output

extends_again : (a b c : List ℕ) → Extends a b → Extends b c → Extends a c
extends_again a b c x y = record { more = x.more ++ y.more; is = y.is ∙ (ap (λ l. l ++ y.more) x.is ∙ append_assoc a x.more y.more) }

pub output_extends : (n k : ℕ) (m : Flat) → Extends (run n m).output (run (k + n) m).output
unfolding run
output_extends n zero m = let e : zero + n ≡ n = omega arith in rw e (extends_same (run n m).output)
output_extends n (suc k) m =
    let e : suc k + n ≡ suc (k + n) = omega arith in
    rw e (extends_again _ _ _ (output_extends n k m) (extends_from (run (k + n) m).ending (run (k + n) m)))
