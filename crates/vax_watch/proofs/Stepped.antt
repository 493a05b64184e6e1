-- A step on its way: the lines had room, what stands at PC was read, and the machine goes on for a step.
use Rattle.std.proofs.Common.{ℕ, ◌≡◌, ◌+◌, ◌∙◌, ◌++◌, append_assoc, List, Option, ap, sym, false}
use Rattle.std.specs.Prelude.{Bool, slice_index}
use Rattle.vax_word.specs.declared.Core.{Core}
use Rattle.vax_outside.specs.Blocks.{BlockFile}
use Rattle.vax_outside.specs.Channels.{Channels}
use Rattle.vax_flat.specs.Step.{run}
use Rattle.vax_pager.specs.Meaning.{pages}
use Rattle.vax_sched.specs.declared.rule.Rule.{Rule}
use Rattle.vax_machine.specs.GoingOn.{GoesOnTo, GoneOn}
use Rattle.vax_machine.specs.Machine.{Keeping}
use Rattle.vax_machine.specs.Turn.{underway_of}
use Rattle.vax_machine.specs.declared.engine.Engine.{Engine}
use Rattle.vax_machine.specs.declared.event.Limits.{Limits}
use Rattle.vax_machine.specs.declared.event.RunEnd.{RunEnd}
use Rattle.vax_machine.specs.declared.held.Held.{Held}
use Rattle.vax_watch.specs.Beginning.{ShowsBeginning}
use Rattle.vax_watch.specs.Listing.{Beginning, beginning_at, core_line}
use Rattle.vax_watch.specs.Plans.{Asked, IsLookedAt, changes_in}
use Rattle.vax_watch.specs.Traced.{Trace}
use Rattle.vax_watch.specs.Tracing.{IsBegun, IsDue, IsFor, PassedOn, Stage, Stands}
use Rattle.vax_watch.specs.declared.watch.Seen.{Seen}
use Rattle.vax_watch.proofs.Making.{beginning_read}
use Rattle.vax_watch.proofs.Stepping.{IsReady, from_here, gone_as, near, o, p, pins_here, ready}

-- where it stands then
abbrev pub peeked : Stage → Option Channels → List ℕ → Engine → Option BlockFile → Stage
peeked s now left m file = record s { system = record { machine = m; file = file; channels = now }; lines = left }

pub record IsPeeked (t : Trace) (old : Option Channels) (s : Stage) (now : Option Channels) (left : List ℕ) (m : Engine) (file : Option BlockFile) : Type 0 where
  pub begun : IsBegun t
  pub stands : Stands t old s
  pub due : IsDue t s
  pub passed : PassedOn s.system.channels now s.lines left
  pub looked : IsLookedAt s.system.machine s.system.file m file

pub peeked_by : (t : Trace) (old : Option Channels) (s : Stage) → IsBegun t → Stands t old s → IsDue t s → (now : Option Channels) (left : List ℕ) → PassedOn s.system.channels now s.lines left → (m : Engine) (file : Option BlockFile) → IsLookedAt s.system.machine s.system.file m file → IsPeeked t old s now left m file
peeked_by t old s begun stands due now left passed m file looked = record { begun = begun; stands = stands; due = due; passed = passed; looked = looked }

module _ (t : Trace) (old : Option Channels) (s : Stage) (now : Option Channels) (left : List ℕ) (m : Engine) (file : Option BlockFile) (k : IsPeeked t old s now left m file) where
  pub ready_peeked : IsReady t old (peeked s now left m file)
  ready_peeked = ready t old s k.stands k.due now left k.passed m file k.looked

  -- the machine went on up to the next step, by the limits and rules of the trace
  pub gone_peeked : (limits : Limits) (rules : List Rule) (asked : Asked) → IsFor t limits rules asked → (steps : ℕ) → steps ≡ m.steps → (end : RunEnd) (m3 : Engine) (file3 : Option BlockFile) (now3 : Option Channels) (held3 : Held) → GoesOnTo end (record { steps = steps + 1; turns = limits.turns; listed = false }) rules (underway_of m file now s.held) (underway_of m3 file3 now3 held3) → GoneOn (near t old (peeked s now left m file) k.begun ready_peeked) (o t old (peeked s now left m file) k.begun ready_peeked) t.areas t.rules (p t old (peeked s now left m file) k.begun ready_peeked) end m3 file3 now3 held3
  gone_peeked limits rules asked f steps same end m3 file3 now3 held3 goes =
      let u = peeked s now left m file in
      let r = ready_peeked in
      let turns = ap (λ (l : Limits). l.turns) (sym f.same_limits) in
      gone_as t old u k.begun r (record { steps = steps + 1; turns = limits.turns; listed = false }) (pages m.pager).areas rules (λ i. record { steps = same i + 1; turns = turns i; listed = false }) r.areas (sym f.same_rules) end m3 file3 now3 held3
      (goes (o t old u k.begun r) (p t old u k.begun r) (from_here t old u k.begun r) (pins_here t old u k.begun r))

  -- the registers are those before it was read, and it is what memory has where the step begins
  pub core_peeked : (core : Core) → core ≡ s.system.machine.cpu.core → core ≡ m.cpu.core
  core_peeked core same = same ∙ sym (ap (λ z. z.core) k.looked.cpu)

  pub begins_peeked : (core : Core) → core ≡ s.system.machine.cpu.core → (texts : Bool) → t.texts ≡ texts → (begins : Beginning) → ShowsBeginning s.system.machine s.system.file texts (slice_index core.regs 15) begins → begins ≡ beginning_at t.texts (run m.steps t.start).memory (slice_index m.cpu.core.regs 15)
  begins_peeked core same texts asked begins shows =
      let steps : s.system.machine.steps ≡ m.steps = sym (ap (λ (z : Keeping). z.steps) k.looked.keeps) in
      let registers = core_peeked core same in
      let shown = sym asked in
      beginning_read t old s k.begun k.stands texts (slice_index core.regs 15) begins shows ∙ (λ i. beginning_at (shown i) (run (steps i) t.start).memory (slice_index (registers i).regs 15))

-- a line stands behind those that were there, and names the registers before it
pub line_behind : (left : List ℕ) (steps : ℕ) (core before : Core) (begins : Beginning) (after : Core) (seen : List Seen) → core ≡ before → (left ++ core_line steps core begins after) ++ changes_in seen ≡ left ++ (core_line steps before begins after ++ changes_in seen)
line_behind left steps core before begins after seen e =
    append_assoc left (core_line steps core begins after) (changes_in seen) ∙ ap (λ (z : Core). left ++ (core_line steps z begins after ++ changes_in seen)) e
