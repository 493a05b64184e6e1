-- The requests that make no steps, by what the machine did.
use Rattle.std.proofs.Common.{◌≡◌, ℕ, Bool, true, false, List, [], ◌∷◌, append-nil, codes, length, slice_index, Option, Some, None, Result, Ok, refl, sym, ap, subst}
use Rattle.vax_space.specs.declared.Area.{Area}
use Rattle.vax_space.specs.declared.Access.TheVariants.{Write}
use Rattle.vax_space.specs.Reference.{violation}
use Rattle.vax_outside.specs.Blocks.{BlockFile}
use Rattle.vax_outside.specs.Channels.{Channels}
use Rattle.vax_outside.specs.declared.faults.Failures.{Failures}
use Rattle.vax_outside.proofs.Growth.{grew_nothing}
use Rattle.vax_flat.specs.Outcome.{is_allowed}
use Rattle.vax_flat.specs.Parts.{At}
use Rattle.vax_flat.specs.Port.{layout}
use Rattle.vax_flat.specs.Step.{Flat}
use Rattle.vax_flat.proofs.Alike.{violation-alike}
use Rattle.vax_pager.specs.Meaning.{pages}
use Rattle.vax_pager.specs.Paging.{Paging, StandsWith}
use Rattle.vax_report.specs.Lines.{line, memory_line, register_line}
use Rattle.vax_report.specs.Report.{report}
use Rattle.vax_machine.specs.Console.{Deposits, memory_from, with_bytes, with_register}
use Rattle.vax_machine.specs.Machine.{Means, keeping}
use Rattle.vax_machine.specs.declared.engine.Engine.{Engine}
use Rattle.vax_machine.specs.declared.event.Limits.{Limits}
use Rattle.vax_script.specs.declared.request.Request.TheVariants.{ExamineRegister, ExamineMemory, DepositRegister, DepositMemory, Show}
use Rattle.vax_script.specs.declared.request.Line.TheVariants.{Blank, Request as Asks, Malformed}
use Rattle.vax_console.specs.Transcript.{answered, done_line, last_of, may_deposit, reply, with_machine}
use Rattle.vax_console.specs.Ends.{Goes, Replies, session_on}
use Rattle.vax_console.specs.declared.stopped.Stopped.{Stopped}
use Rattle.vax_console.proofs.Replying.{line_done, simple_goes}

-- what the flat machine has of the processor

pub same_core : (m : Engine) (file : Option BlockFile) (flat : Flat) → Means m file (At flat) → flat.core ≡ m.cpu.core
same_core m file flat means = sym (ap (λ (z : Flat). z.core) means.processor.machine)

pub same_ending : (m : Engine) (file : Option BlockFile) (flat : Flat) → Means m file (At flat) → flat.ending ≡ m.ended
same_ending m file flat means = sym (ap (λ (z : Flat). z.ending) means.processor.machine)

pub same_taken : (m : Engine) (file : Option BlockFile) (flat : Flat) → Means m file (At flat) → flat.taken ≡ m.cpu.term.place
same_taken m file flat means = sym (ap (λ (z : Flat). z.taken) means.processor.machine)

same_layout : (s : Paging) (file : Option BlockFile) (memory : List Area) → StandsWith s file memory → layout s.areas ≡ layout memory
same_layout s None memory b = absurd b
same_layout s (Some f) memory b = sym b.areas

pub same_right : (m : Engine) (file : Option BlockFile) (flat : Flat) (addr count : ℕ) → Means m file (At flat) → is_allowed (violation (keeping m).areas addr count 0 Write) ≡ may_deposit flat.memory addr count
same_right m file flat addr count means = ap is_allowed (violation-alike (keeping m).areas flat.memory addr count 0 Write (same_layout (pages m.pager) file flat.memory means.memory))

pub deposits_as : (b said : Bool) (addr : ℕ) (bytes : List ℕ) (old new : Engine) (before after : Option BlockFile) → b ≡ said → Deposits (Ok b) addr bytes old before new after → Deposits (Ok said) addr bytes old before new after
deposits_as b said addr bytes old new before after e d = subst (λ (z : Bool). Deposits (Ok z) addr bytes old before new after) e d

-- each request

pub register_goes : (r : Result (Unit {0}) Stopped) (limits : Limits) (flat : Flat) (n : ℕ) (m : Engine) (file : Option BlockFile) (before now : Failures) (old new : Option Channels) → Means m file (At flat) →
    Replies r before now old new (register_line n (slice_index m.cpu.core.regs n)) → Goes r limits (session_on m flat) (Asks (ExamineRegister n) ∷ []) m file old new
unfolding reply answered
register_goes r limits flat n m file before now old new means p =
    let is : register_line n (slice_index flat.core.regs n) ≡ register_line n (slice_index m.cpu.core.regs n) = ap (λ z. register_line n (slice_index z.regs n)) (same_core m file flat means) in
    simple_goes r limits (session_on m flat) (session_on m flat) (Asks (ExamineRegister n)) (register_line n (slice_index m.cpu.core.regs n)) m file before now old new refl is refl means refl p

pub memory_goes : (r : Result (Unit {0}) Stopped) (limits : Limits) (flat : Flat) (addr count : ℕ) (m1 m2 : Engine) (file : Option BlockFile) (before now : Failures) (old new : Option Channels) → m2.steps ≡ m1.steps → Means m2 file (At flat) →
    Replies r before now old new (memory_line addr (memory_from flat.memory addr count)) → Goes r limits (session_on m1 flat) (Asks (ExamineMemory addr count) ∷ []) m2 file old new
unfolding reply answered
memory_goes r limits flat addr count m1 m2 file before now old new steps means p =
    simple_goes r limits (session_on m1 flat) (session_on m1 flat) (Asks (ExamineMemory addr count)) (memory_line addr (memory_from flat.memory addr count)) m2 file before now old new refl refl steps means refl p

pub put_in_goes : (r : Result (Unit {0}) Stopped) (limits : Limits) (flat : Flat) (n value : ℕ) (m1 m2 : Engine) (file : Option BlockFile) (before now : Failures) (old new : Option Channels) → m2.steps ≡ m1.steps → Means m2 file (At (with_register n value flat)) →
    Replies r before now old new done_line → Goes r limits (session_on m1 flat) (Asks (DepositRegister n value) ∷ []) m2 file old new
unfolding reply answered
put_in_goes r limits flat n value m1 m2 file before now old new steps means p =
    simple_goes r limits (session_on m1 flat) (with_machine (with_register n value flat) (session_on m1 flat)) (Asks (DepositRegister n value)) done_line m2 file before now old new refl refl steps means refl p

put_there : (limits : Limits) (flat : Flat) (addr : ℕ) (bytes : List ℕ) (m : Engine) → may_deposit flat.memory addr (length bytes) ≡ true → answered limits.steps (session_on m flat) (DepositMemory addr bytes) ≡ with_machine (with_bytes addr bytes flat) (session_on m flat)
unfolding answered
put_there limits flat addr bytes m allowed = rw allowed refl

put_done : (limits : Limits) (flat : Flat) (addr : ℕ) (bytes : List ℕ) (m : Engine) → may_deposit flat.memory addr (length bytes) ≡ true → reply limits.steps (session_on m flat) (DepositMemory addr bytes) ≡ done_line
unfolding reply
put_done limits flat addr bytes m allowed = rw allowed refl

pub put_at_goes : (r : Result (Unit {0}) Stopped) (limits : Limits) (flat : Flat) (addr : ℕ) (bytes : List ℕ) (m1 m2 : Engine) (file : Option BlockFile) (before now : Failures) (old new : Option Channels) → may_deposit flat.memory addr (length bytes) ≡ true → m2.steps ≡ m1.steps → Means m2 file (At (with_bytes addr bytes flat)) →
    Replies r before now old new done_line → Goes r limits (session_on m1 flat) (Asks (DepositMemory addr bytes) ∷ []) m2 file old new
put_at_goes r limits flat addr bytes m1 m2 file before now old new allowed steps means p =
    simple_goes r limits (session_on m1 flat) (with_machine (with_bytes addr bytes flat) (session_on m1 flat)) (Asks (DepositMemory addr bytes)) done_line m2 file before now old new (put_there limits flat addr bytes m1 allowed) (put_done limits flat addr bytes m1 allowed) steps means refl p

pub refused_goes : (r : Result (Unit {0}) Stopped) (limits : Limits) (flat : Flat) (addr : ℕ) (bytes : List ℕ) (m : Engine) (file : Option BlockFile) (before now : Failures) (old new : Option Channels) → may_deposit flat.memory addr (length bytes) ≡ false → Means m file (At flat) →
    Replies r before now old new (line (codes "?ADDRESS")) → Goes r limits (session_on m flat) (Asks (DepositMemory addr bytes) ∷ []) m file old new
unfolding reply answered
refused_goes r limits flat addr bytes m file before now old new refused means p =
    simple_goes r limits (session_on m flat) (session_on m flat) (Asks (DepositMemory addr bytes)) (line (codes "?ADDRESS")) m file before now old new (rw refused refl) (rw refused refl) refl means refl p

pub show_goes : (r : Result (Unit {0}) Stopped) (limits : Limits) (flat : Flat) (m : Engine) (file : Option BlockFile) (before now : Failures) (old new : Option Channels) → Means m file (At flat) →
    Replies r before now old new (report m.cpu.core (last_of m.ended) m.steps 0 m.cpu.term.place []) → Goes r limits (session_on m flat) (Asks Show ∷ []) m file old new
unfolding reply answered
show_goes r limits flat m file before now old new means p =
    let core = same_core m file flat means in
    let ending = same_ending m file flat means in
    let taken = same_taken m file flat means in
    let is : report flat.core (last_of flat.ending) m.steps 0 flat.taken [] ≡ report m.cpu.core (last_of m.ended) m.steps 0 m.cpu.term.place [] = λ i. report (core i) (last_of (ending i)) m.steps 0 (taken i) [] in
    simple_goes r limits (session_on m flat) (session_on m flat) (Asks Show) (report m.cpu.core (last_of m.ended) m.steps 0 m.cpu.term.place []) m file before now old new refl is refl means refl p

pub malformed_goes : (r : Result (Unit {0}) Stopped) (limits : Limits) (flat : Flat) (m : Engine) (file : Option BlockFile) (before now : Failures) (old new : Option Channels) → Means m file (At flat) →
    Replies r before now old new (line (codes "?COMMAND")) → Goes r limits (session_on m flat) (Malformed ∷ []) m file old new
malformed_goes r limits flat m file before now old new means p =
    simple_goes r limits (session_on m flat) (session_on m flat) Malformed (line (codes "?COMMAND")) m file before now old new refl refl refl means refl p

pub blank_goes : (limits : Limits) (flat : Flat) (m : Engine) (file : Option BlockFile) (old : Option Channels) → Means m file (At flat) → Goes (Ok tt) limits (session_on m flat) (Blank ∷ []) m file old old
blank_goes limits flat m file old means =
    line_done limits (session_on m flat) (session_on m flat) Blank [] [] m file old old refl refl refl means (sym (append-nil flat.output)) (grew_nothing old)
