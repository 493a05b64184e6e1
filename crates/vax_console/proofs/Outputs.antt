-- What a flat machine has sent only grows.
use Rattle.std.proofs.Common.{◌≡◌, ◌≤◌, ◌+◌, ◌-◌, ℕ, zero, suc, min, Bool, true, false, if◌then◌else◌, List, [], ◌∷◌, ◌++◌, append-nil, append_assoc, Option, Some, None, refl, sym, ap, subst, ◌∙◌, arith}
use Rattle.vax_space.specs.declared.Area.{Area}
use Rattle.vax_flat.specs.declared.Ending.{Ending}
use Rattle.vax_flat.specs.declared.Flow.TheVariants as flow
use Rattle.vax_flat.specs.Accesses.{Leaf, Went, Found}
use Rattle.vax_flat.specs.Outcome.{Outcome, Ends, Raised, outcome_of}
use Rattle.vax_flat.specs.Parts.{Partway, Place, At, Within, Turn, Completes, Leaves, GoesBy, after_part, gone_back, left_by, machine_at, outcome_at, partway, turn, turn_from, units_after, units_done}
use Rattle.vax_flat.specs.Step.{Flat, after_delivery, after_instruction, concluded, state_of, step_from, whole_delivery, whole_step, with_byte_sent}
use Rattle.vax_machine.specs.Console.{with_bytes}
use Rattle.vax_script.specs.declared.request.Request.{Request}
use Rattle.vax_script.specs.declared.request.Request.TheVariants.{ExamineRegister, ExamineMemory, DepositRegister, DepositMemory, Next, Continue, Show}
use Rattle.vax_script.specs.declared.request.Line.{Line}
use Rattle.vax_script.specs.declared.request.Line.TheVariants.{Blank, Request as Asks, Malformed}
use Rattle.vax_console.specs.Transcript.{Session, advanced, after_line, answered, left, may_deposit, session_after, step_by, with_machine}

-- a list and more behind it
abbrev pub Further : List ℕ → List ℕ → Type 0
Further a b = (more : List ℕ) × (b ≡ a ++ more)

pub further_same : (a b : List ℕ) → b ≡ a → Further a b
further_same a b e = ([], e ∙ sym (append-nil a))

pub further_then : (a b c : List ℕ) → Further a b → Further b c → Further a c
further_then a b c p q = (p.0 ++ q.0, q.1 ∙ (ap (λ (z : List ℕ). z ++ q.0) p.1 ∙ append_assoc a p.0 q.0))

-- a step

byte_further : (output : List ℕ) (sent : Option ℕ) → Further output (with_byte_sent output sent)
byte_further output None = further_same output output refl
byte_further output (Some b) = (b ∷ [], refl)

concluded_further : (m : Flat) (l : Leaf) (memory : List Area) → Further m.output (concluded m l memory).output
concluded_further m (Went flow.Done s) memory = byte_further m.output s.sent
concluded_further m (Went flow.Clocked s) memory = further_same m.output m.output refl
concluded_further m (Went (flow.Trap kind) s) memory = further_same m.output m.output refl
concluded_further m (Went (flow.More opcode units) s) memory = further_same m.output m.output refl
concluded_further m (Went (flow.Ended e) s) memory = further_same m.output m.output refl
concluded_further m (Found operand s) memory = further_same m.output m.output refl

delivery_further : (m : Flat) (o : Outcome Leaf) → Further m.output (after_delivery m o).output
delivery_further m (Ends l memory) = concluded_further m l memory
delivery_further m (Raised e) = further_same m.output m.output refl

instruction_further : (m : Flat) (o : Outcome Leaf) → Further m.output (after_instruction m o).output
instruction_further m (Ends l memory) = concluded_further m l memory
instruction_further m (Raised e) = delivery_further m (outcome_of (whole_delivery e (state_of m)) m.memory)

from_further : (how : Option Ending) (m : Flat) → Further m.output (step_from how m).output
from_further (Some e) m = further_same m.output m.output refl
from_further None m = instruction_further m (outcome_of (whole_step (state_of m)) m.memory)

-- the steps of a session

by_further : (how : Option Ending) (s : Session) → Further s.machine.output (step_by how s).machine.output
by_further (Some e) s = further_same s.machine.output s.machine.output refl
by_further None s = from_further s.machine.ending s.machine

advanced_further : (count : ℕ) (s : Session) → Further s.machine.output (advanced count s).machine.output
unfolding advanced
advanced_further zero s = further_same s.machine.output s.machine.output refl
advanced_further (suc count) s = further_then s.machine.output (advanced count s).machine.output _ (advanced_further count s) (by_further (advanced count s).machine.ending (advanced count s))

more_further : (more count : ℕ) (s : Session) → Further (advanced count s).machine.output (advanced (more + count) s).machine.output
unfolding advanced
more_further zero count s =
    let is : zero + count ≡ count = omega arith in
    further_same _ _ (ap (λ (n : ℕ). (advanced n s).machine.output) is)
more_further (suc more) count s =
    let is : suc more + count ≡ suc (more + count) = omega arith in
    let next = further_then (advanced count s).machine.output (advanced (more + count) s).machine.output _ (more_further more count s) (by_further (advanced (more + count) s).machine.ending (advanced (more + count) s)) in
    subst (λ (n : ℕ). Further (advanced count s).machine.output (advanced n s).machine.output) (sym is) next

pub steps_further : (count most : ℕ) (s : Session) → count ≤ most → Further (advanced count s).machine.output (advanced most s).machine.output
steps_further count most s l =
    let is : (most - count) + count ≡ most = omega (arith, l) in
    subst (λ (n : ℕ). Further (advanced count s).machine.output (advanced n s).machine.output) is (more_further (most - count) count s)

-- a part sends nothing, and ends nothing

record IsSilent (m next : Flat) : Type 0 where
  pub output : next.output ≡ m.output
  pub ending : next.ending ≡ m.ending

silent_then : (a b c : Flat) → IsSilent a b → IsSilent b c → IsSilent a c
silent_then a b c p q = record { output = q.output ∙ p.output; ending = q.ending ∙ p.ending }

leaves_silent : (m : Flat) (units : ℕ) (o : Outcome Leaf) (q : Partway) → turn_from m units o ≡ Leaves q → IsSilent m q.now
leaves_silent m units (Ends (Went flow.Done s) memory) q e = absurd (cc e)
leaves_silent m units (Ends (Went flow.Clocked s) memory) q e = absurd (cc e)
leaves_silent m units (Ends (Went (flow.Trap kind) s) memory) q e = absurd (cc e)
leaves_silent m units (Ends (Went (flow.More opcode more) s) memory) q e =
    let k : record { opcode = opcode; start = m.core; units = units_after units more; now = record m { core = s.core; memory = memory; taken = s.taken } } ≡ q = cc in
    record { output = ap (λ (z : Partway). z.now.output) (sym k); ending = ap (λ (z : Partway). z.now.ending) (sym k) }
leaves_silent m units (Ends (Went (flow.Ended x) s) memory) q e = absurd (cc e)
leaves_silent m units (Ends (Found operand s) memory) q e = absurd (cc e)
leaves_silent m units (Raised x) q e = absurd (cc e)

left_is : (t : Turn) (q : Partway) → left_by t ≡ Some q → t ≡ Leaves q
left_is (Completes m) q e = cc
left_is (Leaves p) q e = let k : p ≡ q = cc in ap (λ (z : Partway). Leaves z) k

back_silent : (place : Place) (next : Flat) → IsSilent (gone_back place) next → IsSilent (machine_at place) next
back_silent place next h = record { output = h.output; ending = h.ending }

part_silent : (place : Place) (q : Partway) → left_by (turn place) ≡ Some q → IsSilent (machine_at place) q.now
part_silent place q e = back_silent place q.now (leaves_silent (gone_back place) (units_done place) (outcome_at place) q (left_is (turn place) q e))

after_silent : (o : Option Partway) (q : Partway) (m : Flat) → ((p : Partway) → o ≡ Some p → IsSilent m p.now) → after_part o ≡ Some q → IsSilent m q.now
after_silent None q m before e = absurd (cc e)
after_silent (Some p) q m before e = silent_then m p.now q.now (before p refl) (part_silent (Within p) q e)

partway_silent : (count : ℕ) (m : Flat) (q : Partway) → partway count m ≡ Some q → IsSilent m q.now
unfolding partway
partway_silent zero m q e = part_silent (At m) q e
partway_silent (suc count) m q e = after_silent (partway count m) q m (λ p is. partway_silent count m p is) e

goes_silent : (m : Flat) (place : Place) → GoesBy m place → IsSilent m (machine_at place)
goes_silent m (At n) e = record { output = ap (λ (z : Flat). z.output) e; ending = ap (λ (z : Flat). z.ending) e }
goes_silent m (Within q) (count, e) = partway_silent count m q e

pub goes_output : (m : Flat) (place : Place) → GoesBy m place → (machine_at place).output ≡ m.output
goes_output m place g = (goes_silent m place g).output

pub goes_ending : (m : Flat) (place : Place) → GoesBy m place → (machine_at place).ending ≡ m.ending
goes_ending m place g = (goes_silent m place g).ending

-- lines

put_further : (b : Bool) (s t : Session) → t.machine.output ≡ s.machine.output → Further s.machine.output (if b then t else s).machine.output
put_further true s t e = further_same s.machine.output t.machine.output e
put_further false s t e = further_same s.machine.output s.machine.output refl

request_further : (limit : ℕ) (s : Session) (r : Request) → Further s.machine.output (answered limit s r).machine.output
unfolding answered
request_further limit s (ExamineRegister n) = further_same _ _ refl
request_further limit s (ExamineMemory addr count) = further_same _ _ refl
request_further limit s (DepositRegister n value) = further_same _ _ refl
request_further limit s (DepositMemory addr bytes) = put_further (may_deposit s.machine.memory addr _) s (with_machine (with_bytes addr bytes s.machine) s) refl
request_further limit s (Next count) = advanced_further (min count (left limit s)) s
request_further limit s Continue = advanced_further (left limit s) s
request_further limit s Show = further_same _ _ refl

line_further : (limit : ℕ) (s : Session) (l : Line) → Further s.machine.output (after_line limit s l).machine.output
line_further limit s Blank = further_same _ _ refl
line_further limit s (Asks r) = request_further limit s r
line_further limit s Malformed = further_same _ _ refl

pub lines_further : (limit : ℕ) (s : Session) (lines : List Line) → Further s.machine.output (session_after limit s lines).machine.output
unfolding session_after
lines_further limit s [] = further_same _ _ refl
lines_further limit s (l ∷ lines) = further_then s.machine.output (after_line limit s l).machine.output _ (line_further limit s l) (lines_further limit (after_line limit s l) lines)
