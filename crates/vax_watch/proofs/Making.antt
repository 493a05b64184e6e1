-- What a call that makes a step comes to.
use Rattle.std.proofs.Common.{ℕ, ◌≡◌, ◌+◌, ◌≤◌, ◌++◌, false, List, Option, Some, None, Result, Ok, Err, OnOk, OnErr, refl, sym, ap, subst, ◌∙◌, arith, inl, inr}
use Rattle.std.proofs.lemmas.Bool.{cases_lt}
use Rattle.vax_flat.specs.declared.Ending.{Ending}
use Rattle.std.specs.Prelude.{Bool, IfErr, slice_index}
use Rattle.std.specs.Result.{IsErrAnd}
use Rattle.vax_pager.specs.Meaning.{pages}
use Rattle.vax_pager.specs.Poking.{OnlyRead}
use Rattle.vax_machine.specs.Machine.{KeepsPlace, keeping}
use Rattle.vax_outside.specs.Blocks.{BlockFile}
use Rattle.vax_outside.specs.Channels.{Channels, GrewByPrefix, only}
use Rattle.vax_outside.specs.declared.traits.Chan.TheVariants.{Record}
use Rattle.vax_flat.specs.Parts.{At, machine_at}
use Rattle.vax_flat.specs.Step.{run}
use Rattle.vax_machine.specs.Console.{IsBetween}
use Rattle.vax_machine.specs.GoingOn.{HasStopped}
use Rattle.vax_machine.specs.Writing.{held_in}
use Rattle.vax_machine.specs.declared.engine.Engine.{Engine}
use Rattle.vax_machine.specs.declared.event.RunEnd.{RunEnd}
use Rattle.vax_machine.specs.declared.held.Held.{Held}
use Rattle.vax_watch.specs.Listing.{Beginning, beginning_at, core_line}
use Rattle.vax_watch.specs.Beginning.{ShowsBeginning}
use Rattle.vax_watch.specs.Plans.{AreLookedAt, IsLookedAt, changes_in}
use Rattle.vax_watch.specs.Traced.{IsLostTrace, Trace, turns_of}
use Rattle.vax_watch.specs.Tracing.{Comes, IsBegun, IsCutShort, IsUnlisted, Leaves, Stage, Stands}
use Rattle.vax_watch.specs.declared.watch.Seen.{Seen}
use Rattle.vax_watch.specs.declared.steps.TraceEnd.{TraceEnd}
use Rattle.vax_watch.specs.declared.steps.TraceEnd.TheVariants.{PageFault, WriteFault}
use Rattle.vax_watch.proofs.Holding.{room_lost}
use Rattle.vax_watch.proofs.Stepping.{IsReady, ending_of, means_steps, means_then, near, o, p, stands_next, steps_then, unlisted_next}

-- the lines had no room, and couldn't be written
pub room_cut : (t : Trace) (old : Option Channels) (s : Stage) (now : Option Channels) → Stands t old s → GrewByPrefix s.system.channels now (only Record s.lines) → IsLostTrace t old now
room_cut t old s now h g = record {
  made = h.made;
  goes = h.keeps.goes;
  sent = h.keeps.holds.out ++ (held_in s.held).out;
  output = h.keeps.holds.sent;
  lines = s.system.machine.steps;
  few = let e = h.keeps.tracks.steps in omega (arith, e);
  wrote = room_lost t old s.system.machine.steps s (machine_at (turns_of t h.made).place).output h.keeps.holds now g;
}

-- the byte couldn't be read
pub peek_cut : (t : Trace) (old : Option Channels) (s : Stage) → IsReady t old s → IsCutShort t old s
peek_cut t old s r = record {
  made = r.made;
  goes = r.keeps.goes;
  means = r.keeps.tracks.means;
  steps = r.keeps.tracks.steps;
  fails = inr r.keeps.written;
  lines = s.system.machine.steps;
  all_but = inl refl;
  holds = r.keeps.holds;
}

-- an error comes of the page file
pub cut_as : (t : Trace) (old : Option Channels) (s : Stage) (e : TraceEnd) → e ≡ PageFault → IsCutShort t old s → Leaves t e old s
cut_as t old s e is h = subst (λ (z : TraceEnd). Leaves t z old s) (sym is) h

pub lost_as : (t : Trace) (old : Option Channels) (s : Stage) (e : TraceEnd) → e ≡ WriteFault → IsLostTrace t old s.system.channels → Leaves t e old s
lost_as t old s e is h = subst (λ (z : TraceEnd). Leaves t z old s) (sym is) h

-- it is what memory has where the step begins
pub beginning_read : (t : Trace) (old : Option Channels) (s : Stage) → IsBegun t → Stands t old s → (texts : Bool) (addr : ℕ) (begins : Beginning) → ShowsBeginning s.system.machine s.system.file texts addr begins → begins ≡ beginning_at texts (run s.system.machine.steps t.start).memory addr
beginning_read t old s begun h texts addr begins shows =
    shows (At (run s.system.machine.steps t.start)) (means_steps t begun h.made s.system.machine s.system.file h.keeps.tracks h.between)

-- an ending takes a step
pub ended_more : (t : Trace) (old : Option Channels) (s : Stage) (begun : IsBegun t) (r : IsReady t old s) (m : Engine) (file : Option BlockFile) (now : Option Channels) (held : Held) (unlisted : held.listed ≡ false) (end : RunEnd) (h : HasStopped (near t old s begun r) (o t old s begun r) t.areas t.rules (p t old s begun r) end m file now held) → IsBetween m → (e : Ending) → m.ended ≡ Some e → m.steps ≤ s.system.machine.steps + 1 → m.steps ≡ s.system.machine.steps + 1
ended_more t old s begun r m file now held unlisted end h between e is high = elim (cases_lt s.system.machine.steps m.steps) [
  | inl less ↦ omega (arith, less, high)
  | inr ge ↦
      let le = steps_then t old s begun r m file now held unlisted end h in
      let same : m.steps ≡ s.system.machine.steps = omega (arith, ge, le) in
      let a = ending_of m file (run m.steps t.start) (means_then t old s begun r m file now held unlisted end h between) in
      let b = ending_of s.system.machine s.system.file (run s.system.machine.steps t.start) (means_steps t begun r.made s.system.machine s.system.file r.keeps.tracks r.between) in
      let bad : Some e ≡ None = sym is ∙ (a ∙ (ap (λ (k : ℕ). (run k t.start).ending) same ∙ (sym b ∙ r.going))) in
      absurd (cc bad)
]

-- the error that a call ends by
pub err_comes : (t : Trace) (old : Option Channels) (s : Stage) (end : TraceEnd) (result : Result (Unit {0}) TraceEnd) → IsErrAnd result (λ e. e ≡ end) → Leaves t end old s → Comes t result old s
err_comes t old s end (Ok x) k h = absurd k
err_comes t old s end (Err e) k h = subst (λ (z : TraceEnd). Leaves t z old s) (sym k) h

pub looked_by : (m n : Engine) (before after : Option BlockFile) → n.cpu ≡ m.cpu → keeping n ≡ keeping m → pages n.pager ≡ pages m.pager → KeepsPlace m before n after → OnlyRead before after → IsLookedAt m before n after
looked_by m n before after a b c d e = record { cpu = a; keeps = b; same = c; means = d; reads = e }

module _ (t : Trace) (old : Option Channels) (s : Stage) (begun : IsBegun t) (r : IsReady t old s) (begins : Beginning) (begins_here : begins ≡ beginning_at t.texts (run s.system.machine.steps t.start).memory (slice_index s.system.machine.cpu.core.regs 15)) (m : Engine) (file : Option BlockFile) (now : Option Channels) (held : Held) (unlisted : held.listed ≡ false) (end : RunEnd) (h : HasStopped (near t old s begun r) (o t old s begun r) t.areas t.rules (p t old s begun r) end m file now held) (between : IsBetween m) (one : m.steps ≡ s.system.machine.steps + 1) (m4 : Engine) (file4 : Option BlockFile) (l : IsLookedAt m file m4 file4) (lines : List ℕ) (seen : List Seen) where
  abbrev behind : Stage
  behind = record { system = record { machine = m4; file = file4; channels = now }; held = held; lines = lines; seen = seen }

  -- by what the call that lists it answers
  pub comes : (result : Result (Unit {0}) TraceEnd) → OnOk result (AreLookedAt m file s.seen seen) → OnOk result (lines ≡ s.lines ++ (core_line m.steps s.system.machine.cpu.core begins m.cpu.core ++ changes_in seen)) → OnErr result (IsUnlisted s.lines lines s.seen) → IfErr result (λ e. e ≡ PageFault) → Comes t result old behind
  comes (Ok x) looked lines_are same fault = stands_next t old s begun r begins begins_here m file now held unlisted end h between one seen looked m4 file4 l lines lines_are
  comes (Err e) looked lines_are same fault = cut_as t old behind e fault (unlisted_next t old s begun r m file now held unlisted end h one m4 file4 l lines seen same)
