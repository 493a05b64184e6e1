-- What the requests do, turn by turn.
use Rattle.std.proofs.Common.{◌≡◌, ℕ, min, Bool, true, false, nat_lt, List, [], ◌∷◌, append-nil, codes, length, slice_index, Option, Some, None, Result, Ok, Err, refl, sym, ap, subst, ◌∙◌}
use Rattle.vax_outside.specs.Blocks.{BlockFile}
use Rattle.vax_outside.specs.Channels.{Channels, Grew, append, unsaved}
use Rattle.vax_outside.specs.declared.faults.Failures.{Failures}
use Rattle.vax_outside.proofs.Growth.{grew_nothing}
use Rattle.vax_flat.specs.declared.Ending.{Ending}
use Rattle.vax_flat.specs.Parts.{Place, At, machine_at}
use Rattle.vax_flat.specs.Step.{Flat}
use Rattle.vax_pager.specs.Listing.{is_listed}
use Rattle.vax_pager.specs.Meaning.{pages}
use Rattle.vax_pager.specs.Poking.{OnlyRead, ReadsAtMost, pages_of_bytes}
use Rattle.vax_sched.specs.declared.rule.Rule.{Rule}
use Rattle.vax_report.specs.Lines.{line, memory_line, register_line}
use Rattle.vax_report.specs.Report.{report}
use Rattle.vax_machine.specs.Console.{HasLetGo, IsBetween, StopsBetween, let_go, memory_from, pages_in, with_bytes, with_register}
use Rattle.vax_machine.specs.Depositing.{DepositsIn, Filed, IsBroughtInPart, IsDeposited, deposited, filed}
use Rattle.vax_machine.specs.Machine.{Keeping, Means, keeping, modified_of, residence}
use Rattle.vax_machine.specs.Marking.{MarksNoOther}
use Rattle.vax_machine.specs.Paged.{Paged, Why, ByEnding, BySteps, ByTurns}
use Rattle.vax_machine.specs.Residence.{Residence, residence_of}
use Rattle.vax_machine.specs.Run as run_spec
use Rattle.vax_machine.specs.Run.{IsWhole, Tracks, begun, origin, why_of}
use Rattle.vax_machine.specs.Writing.{Wrote, lines_of, output_of}
use Rattle.vax_machine.specs.declared.engine.Engine.{Engine}
use Rattle.vax_machine.specs.declared.event.Limits.{Limits}
use Rattle.vax_machine.specs.declared.event.RunEnd.{RunEnd}
use Rattle.vax_machine.specs.declared.event.RunEnd.TheVariants as run_end
use Rattle.vax_script.specs.declared.request.Request.TheVariants.{ExamineRegister, ExamineMemory, DepositRegister, DepositMemory, Next, Continue, Show}
use Rattle.vax_script.specs.declared.request.Line.TheVariants.{Blank, Request as Asks, Malformed}
use Rattle.vax_console.specs.Ends.{Replies, Scene, answer_of, writes}
use Rattle.vax_console.specs.Transcript.{Session, advanced, done_line, last_of, left, may_deposit, next_line, reply, stop_line}
use Rattle.vax_console.specs.Turns.{Fails, HasMadeSteps, Holds, IsThrough, MakesTurns, RunsThrough, RunsUnless, Sends, SetsBytesIf, Setting, Stand, Stays, StepsHold, after_turns, anew, limits_for, session_at, setting_of, stand_at, steps_of}
use Rattle.vax_console.specs.declared.stopped.Stopped.{Stopped}
use Rattle.vax_console.specs.declared.stopped.Stopped.TheVariants as stopped
use Rattle.vax_console.proofs.Requested.{same_core, same_ending, same_taken}
use Rattle.vax_console.proofs.Running.{continue_said, limits_of, next_said, place_between}
use Rattle.vax_console.proofs.Turning.{line_held, line_short, ran_held, simple_held, stopped_held}

-- where machines stand

-- what is kept stays
begun_kept : (old new : Engine) (place : Place) → keeping new ≡ keeping old → pages new.pager ≡ pages old.pager → begun new place ≡ begun old place
begun_kept old new place k p = λ i. record {
  place = place;
  steps = (k i).steps;
  parts = 0;
  turns = (k i).turns;
  residence = residence_of (p i);
  modified = λ page. is_listed page (p i).modified;
  evictions = [];
  blocked = (p i).blocked;
  reads = 0;
}

-- a machine that a paged run is at
begun_at : (m : Engine) (file : Option BlockFile) (p : Paged) (place : Place) → Tracks m file p → p.place ≡ place → begun m place ≡ anew p
begun_at m file p place t e = λ i. record {
  place = sym e i;
  steps = t.steps i;
  parts = 0;
  turns = t.turns i;
  residence = t.residence i;
  modified = t.modified i;
  evictions = [];
  blocked = t.blocked i;
  reads = 0;
}

no_pins : (r : Residence) → r.pinned ≡ [] → record r { pinned = [] } ≡ r
no_pins r e = λ i. record r { pinned = sym e i }

begun_register : (old new : Engine) (n value : ℕ) (flat : Flat) → IsBetween old → keeping new ≡ let_go (keeping old) → modified_of new ≡ modified_of old → (pages new.pager).blocked ≡ (pages old.pager).blocked →
    begun new (At (with_register n value flat)) ≡ record (begun old (At flat)) { place = At (with_register n value flat) }
begun_register old new n value flat b k marks blocks =
    let pins : residence new ≡ residence old = ap (λ (z : Keeping). z.residence) k ∙ no_pins (residence old) b.unpinned in
    λ i. record {
      place = At (with_register n value flat);
      steps = (k i).steps;
      parts = 0;
      turns = (k i).turns;
      residence = pins i;
      modified = marks i;
      evictions = [];
      blocked = blocks i;
      reads = 0;
    }

-- requests without a step

means_as : (before after : Scene) (flat : Flat) → after.machine ≡ before.machine → after.file ≡ before.file → Means before.machine before.file (At flat) → Means after.machine after.file (At flat)
means_as before after flat same file means = subst (λ (z : Engine). Means z after.file (At flat)) (sym same) (subst (λ (z : Option BlockFile). Means before.machine z (At flat)) (sym file) means)

pub register_held : (r : Result (Unit {0}) Stopped) (limits : Limits) (rules : List Rule) (before after : Scene) (flat : Flat) (n : ℕ) (was now : Failures) → after.machine ≡ before.machine → after.file ≡ before.file → Means before.machine before.file (At flat) →
    Replies r was now before.sink after.sink (register_line n (slice_index before.machine.cpu.core.regs n)) → Holds r (setting_of before limits rules) (Asks (ExamineRegister n) ∷ []) (stand_at before (At flat)) after
unfolding reply
register_held r limits rules before after flat n was now same file means p =
    let is : register_line n (slice_index flat.core.regs n) ≡ register_line n (slice_index before.machine.cpu.core.regs n) = ap (λ z. register_line n (slice_index z.regs n)) (same_core before.machine before.file flat means) in
    simple_held r (setting_of before limits rules) (Asks (ExamineRegister n)) (stand_at before (At flat)) after flat (register_line n (slice_index before.machine.cpu.core.regs n)) was now
    (record { at = ap (λ (z : Engine). begun z (At flat)) same; file = file }) refl is (means_as before after flat same file means) (ap (λ (z : Engine). (pages z.pager).areas) same) p

pub memory_held : (r : Result (Unit {0}) Stopped) (limits : Limits) (rules : List Rule) (before after : Scene) (flat : Flat) (addr count : ℕ) (was now : Failures) → keeping after.machine ≡ keeping before.machine → pages after.machine.pager ≡ pages before.machine.pager → OnlyRead before.file after.file → ReadsAtMost (pages_in addr count) before.file after.file →
    Means after.machine after.file (At flat) → Replies r was now before.sink after.sink (memory_line addr (memory_from flat.memory addr count)) → Holds r (setting_of before limits rules) (Asks (ExamineMemory addr count) ∷ []) (stand_at before (At flat)) after
unfolding reply
memory_held r limits rules before after flat addr count was now kept same read once means p =
    simple_held r (setting_of before limits rules) (Asks (ExamineMemory addr count)) (stand_at before (At flat)) after flat (memory_line addr (memory_from flat.memory addr count)) was now
    (record { at = begun_kept before.machine after.machine (At flat) kept same; file = read; once = once }) refl refl means (ap (λ (z : Keeping). z.areas) kept) p

pub memory_unread : (limits : Limits) (rules : List Rule) (before after : Scene) (flat : Flat) (addr count : ℕ) → keeping after.machine ≡ keeping before.machine → pages after.machine.pager ≡ pages before.machine.pager → OnlyRead before.file after.file → ReadsAtMost (pages_in addr count) before.file after.file →
    Means after.machine after.file (At flat) → after.sink ≡ before.sink → Holds (Err stopped.PageFault) (setting_of before limits rules) (Asks (ExamineMemory addr count) ∷ []) (stand_at before (At flat)) after
memory_unread limits rules before after flat addr count kept same read once means silent =
    let g = setting_of before limits rules in
    line_short (λ x here. Fails g x here after) g (Asks (ExamineMemory addr count)) (stand_at before (At flat))
    (record { reads = record { at = begun_kept before.machine after.machine (At flat) kept same; file = read; once = once }; means = means; silent = silent })

pub put_in_held : (r : Result (Unit {0}) Stopped) (limits : Limits) (rules : List Rule) (before after : Scene) (flat : Flat) (n value : ℕ) (was now : Failures) → IsBetween before.machine → keeping after.machine ≡ let_go (keeping before.machine) → modified_of after.machine ≡ modified_of before.machine → (pages after.machine.pager).blocked ≡ (pages before.machine.pager).blocked →
    after.file ≡ before.file → Means after.machine after.file (At (with_register n value flat)) → Replies r was now before.sink after.sink done_line → Holds r (setting_of before limits rules) (Asks (DepositRegister n value) ∷ []) (stand_at before (At flat)) after
unfolding reply
put_in_held r limits rules before after flat n value was now between kept marks blocks file means p =
    simple_held r (setting_of before limits rules) (Asks (DepositRegister n value)) (stand_at before (At flat)) after (with_register n value flat) done_line was now
    (record { at = begun_register before.machine after.machine n value flat between kept marks blocks; file = file }) refl refl means (ap (λ (z : Keeping). z.areas) kept) p

put_done : (limit : ℕ) (s : Session) (addr : ℕ) (bytes : List ℕ) → may_deposit s.machine.memory addr (length bytes) ≡ true → reply limit s (DepositMemory addr bytes) ≡ done_line
unfolding reply
put_done limit s addr bytes allowed = rw allowed refl

put_refused : (limit : ℕ) (s : Session) (addr : ℕ) (bytes : List ℕ) → may_deposit s.machine.memory addr (length bytes) ≡ false → reply limit s (DepositMemory addr bytes) ≡ line (codes "?ADDRESS")
unfolding reply
put_refused limit s addr bytes refused = rw refused refl

pub deposits_in_as : (b said : Bool) (addr : ℕ) (bytes : List ℕ) (old new : Filed) → b ≡ said → DepositsIn (Ok b) addr bytes old new → DepositsIn (Ok said) addr bytes old new
deposits_in_as b said addr bytes old new e d = subst (λ (z : Bool). DepositsIn (Ok z) addr bytes old new) e d

pub put_at_held : (r : Result (Unit {0}) Stopped) (limits : Limits) (rules : List Rule) (before after : Scene) (flat : Flat) (addr : ℕ) (bytes : List ℕ) (was now : Failures) → may_deposit flat.memory addr (length bytes) ≡ true → HasLetGo before.machine after.machine →
    IsDeposited (keeping before.machine).areas addr bytes (begun before.machine (At flat)) before.file (filed after.machine after.file) → Replies r was now before.sink after.sink done_line → Holds r (setting_of before limits rules) (Asks (DepositMemory addr bytes) ∷ []) (stand_at before (At flat)) after
put_at_held r limits rules before after flat addr bytes was now allowed kept is p =
    let s = stand_at before (At flat) in
    let t = stand_at after (At (with_bytes addr bytes flat)) in
    let done : SetsBytesIf true (keeping before.machine).areas addr bytes s t = record {
      at = begun_at after.machine after.file (deposited addr bytes s.at) (At (with_bytes addr bytes flat)) is.tracks refl;
      moved = is.moved;
    } in
    simple_held r (setting_of before limits rules) (Asks (DepositMemory addr bytes)) s after (with_bytes addr bytes flat) done_line was now
    (subst (λ (b : Bool). SetsBytesIf b (keeping before.machine).areas addr bytes s t) (sym allowed) done) refl (put_done limits.steps (session_at s) addr bytes allowed) is.tracks.means kept.areas p

pub refused_held : (r : Result (Unit {0}) Stopped) (limits : Limits) (rules : List Rule) (before after : Scene) (flat : Flat) (addr : ℕ) (bytes : List ℕ) (was now : Failures) → may_deposit flat.memory addr (length bytes) ≡ false → after.machine ≡ before.machine → after.file ≡ before.file →
    Means before.machine before.file (At flat) → Replies r was now before.sink after.sink (line (codes "?ADDRESS")) → Holds r (setting_of before limits rules) (Asks (DepositMemory addr bytes) ∷ []) (stand_at before (At flat)) after
refused_held r limits rules before after flat addr bytes was now refused same file means p =
    let s = stand_at before (At flat) in
    let t = stand_at after (At flat) in
    let done : SetsBytesIf false (keeping before.machine).areas addr bytes s t = record { at = ap (λ (z : Engine). begun z (At flat)) same; file = file } in
    simple_held r (setting_of before limits rules) (Asks (DepositMemory addr bytes)) s after flat (line (codes "?ADDRESS")) was now
    (subst (λ (b : Bool). SetsBytesIf b (keeping before.machine).areas addr bytes s t) (sym refused) done) refl (put_refused limits.steps (session_at s) addr bytes refused) (means_as before after flat same file means) (ap (λ (z : Engine). (pages z.pager).areas) same) p

pub bytes_unset : (limits : Limits) (rules : List Rule) (before after : Scene) (flat : Flat) (addr : ℕ) (bytes : List ℕ) → HasLetGo before.machine after.machine → MarksNoOther before.machine after.machine → IsBroughtInPart (keeping before.machine).areas (pages_of_bytes addr (length bytes)) (begun before.machine (At flat)) before.file (filed after.machine after.file) →
    Means after.machine after.file (At flat) → after.sink ≡ before.sink → Holds (Err stopped.PageFault) (setting_of before limits rules) (Asks (DepositMemory addr bytes) ∷ []) (stand_at before (At flat)) after
bytes_unset limits rules before after flat addr bytes kept marks fails means silent =
    let g = setting_of before limits rules in
    line_short (λ x here. Fails g x here after) g (Asks (DepositMemory addr bytes)) (stand_at before (At flat)) (record {
      brings = record { steps = kept.steps; turns = kept.turns; frames = kept.frames; spoiled = kept.spoiled; pinned = kept.pinned };
      fails = fails;
      only = marks;
      means = means;
      silent = silent;
    })

pub show_held : (r : Result (Unit {0}) Stopped) (limits : Limits) (rules : List Rule) (before after : Scene) (flat : Flat) (was now : Failures) → after.machine ≡ before.machine → after.file ≡ before.file → Means before.machine before.file (At flat) →
    Replies r was now before.sink after.sink (report before.machine.cpu.core (last_of before.machine.ended) before.machine.steps 0 before.machine.cpu.term.place []) → Holds r (setting_of before limits rules) (Asks Show ∷ []) (stand_at before (At flat)) after
unfolding reply
show_held r limits rules before after flat was now same file means p =
    let core = same_core before.machine before.file flat means in
    let ending = same_ending before.machine before.file flat means in
    let taken = same_taken before.machine before.file flat means in
    let text = report before.machine.cpu.core (last_of before.machine.ended) before.machine.steps 0 before.machine.cpu.term.place [] in
    let is : report flat.core (last_of flat.ending) before.machine.steps 0 flat.taken [] ≡ text = λ i. report (core i) (last_of (ending i)) before.machine.steps 0 (taken i) [] in
    simple_held r (setting_of before limits rules) (Asks Show) (stand_at before (At flat)) after flat text was now
    (record { at = ap (λ (z : Engine). begun z (At flat)) same; file = file }) refl is (means_as before after flat same file means) (ap (λ (z : Engine). (pages z.pager).areas) same) p

pub malformed_held : (r : Result (Unit {0}) Stopped) (limits : Limits) (rules : List Rule) (before after : Scene) (flat : Flat) (was now : Failures) → after.machine ≡ before.machine → after.file ≡ before.file → Means before.machine before.file (At flat) →
    Replies r was now before.sink after.sink (line (codes "?COMMAND")) → Holds r (setting_of before limits rules) (Malformed ∷ []) (stand_at before (At flat)) after
malformed_held r limits rules before after flat was now same file means p =
    simple_held r (setting_of before limits rules) Malformed (stand_at before (At flat)) after flat (line (codes "?COMMAND")) was now
    (record { at = ap (λ (z : Engine). begun z (At flat)) same; file = file }) refl refl (means_as before after flat same file means) (ap (λ (z : Engine). (pages z.pager).areas) same) p

pub blank_held : (limits : Limits) (rules : List Rule) (before : Scene) (flat : Flat) → Means before.machine before.file (At flat) → Holds (Ok tt) (setting_of before limits rules) (Blank ∷ []) (stand_at before (At flat)) before
blank_held limits rules before flat means =
    line_held (setting_of before limits rules) Blank (stand_at before (At flat)) before flat (record { at = refl; file = refl })
    (record { sent = []; output = sym (append-nil flat.output); wrote = grew_nothing before.sink }) means refl

-- requests of an ended machine

ended_does : (g : Setting) (count : ℕ) (s t : Stand) (e : Ending) → (machine_at s.at.place).ending ≡ Some e → Stays s t → RunsUnless (machine_at s.at.place).ending g count s t
ended_does g count s t e ended stays = subst (λ (h : Option Ending). RunsUnless h g count s t) (sym ended) stays

pub next_refused_held : (r : Result (Unit {0}) Stopped) (limits : Limits) (rules : List Rule) (before after : Scene) (flat : Flat) (count : ℕ) (e : Ending) (was now : Failures) → after.machine ≡ before.machine → after.file ≡ before.file → Means before.machine before.file (At flat) → flat.ending ≡ Some e →
    Replies r was now before.sink after.sink (line (codes "?ENDED")) → Holds r (setting_of before limits rules) (Asks (Next count) ∷ []) (stand_at before (At flat)) after
unfolding reply
next_refused_held r limits rules before after flat count e was now same file means ended p =
    let g = setting_of before limits rules in
    let s = stand_at before (At flat) in
    simple_held r g (Asks (Next count)) s after flat (line (codes "?ENDED")) was now
    (ended_does g (steps_of g (Asks (Next count)) s) s (stand_at after (At flat)) e ended (record { at = ap (λ (z : Engine). begun z (At flat)) same; file = file })) refl (rw ended refl) (means_as before after flat same file means) (ap (λ (z : Engine). (pages z.pager).areas) same) p

pub continue_refused_held : (r : Result (Unit {0}) Stopped) (limits : Limits) (rules : List Rule) (before after : Scene) (flat : Flat) (e : Ending) (was now : Failures) → after.machine ≡ before.machine → after.file ≡ before.file → Means before.machine before.file (At flat) → flat.ending ≡ Some e →
    Replies r was now before.sink after.sink (line (codes "?ENDED")) → Holds r (setting_of before limits rules) (Asks Continue ∷ []) (stand_at before (At flat)) after
unfolding reply
continue_refused_held r limits rules before after flat e was now same file means ended p =
    let g = setting_of before limits rules in
    let s = stand_at before (At flat) in
    simple_held r g (Asks Continue) s after flat (line (codes "?ENDED")) was now
    (ended_does g (steps_of g (Asks Continue) s) s (stand_at after (At flat)) e ended (record { at = ap (λ (z : Engine). begun z (At flat)) same; file = file })) refl (rw ended refl) (means_as before after flat same file means) (ap (λ (z : Engine). (pages z.pager).areas) same) p

-- and of one that goes on

going_does : (g : Setting) (count : ℕ) (s : Stand) → (machine_at s.at.place).ending ≡ None → (t : Stand) → RunsThrough g count s t → RunsUnless (machine_at s.at.place).ending g count s t
going_does g count s going t r = subst (λ (h : Option Ending). RunsUnless h g count s t) (sym going) r

pub next_held : (r : Result (Unit {0}) Stopped) (limits : Limits) (rules : List Rule) (before after : Scene) (flat : Flat) (count : ℕ) (mid : Option Channels) (text : List ℕ) (was now : Failures) → flat.ending ≡ None →
    HasMadeSteps (setting_of before limits rules) (steps_of (setting_of before limits rules) (Asks (Next count)) (stand_at before (At flat))) (stand_at before (At flat)) (record { machine = after.machine; file = after.file; sink = mid }) →
    next_line (nat_lt (left limits.steps (session_at (stand_at before (At flat)))) count) (advanced (min count (left limits.steps (session_at (stand_at before (At flat))))) (session_at (stand_at before (At flat)))) ≡ text → Replies r was now mid after.sink text → Holds r (setting_of before limits rules) (Asks (Next count) ∷ []) (stand_at before (At flat)) after
next_held r limits rules before after flat count mid text was now going made said p =
    let g = setting_of before limits rules in
    let s = stand_at before (At flat) in
    ran_held r g (Asks (Next count)) s after.machine after.file mid after.sink text was now (going_does g (steps_of g (Asks (Next count)) s) s going) made (next_said limits (session_at s) count text going said) p

pub continue_held : (r : Result (Unit {0}) Stopped) (limits : Limits) (rules : List Rule) (before after : Scene) (flat : Flat) (mid : Option Channels) (text : List ℕ) (was now : Failures) → flat.ending ≡ None →
    HasMadeSteps (setting_of before limits rules) (steps_of (setting_of before limits rules) (Asks Continue) (stand_at before (At flat))) (stand_at before (At flat)) (record { machine = after.machine; file = after.file; sink = mid }) →
    stop_line (advanced (left limits.steps (session_at (stand_at before (At flat)))) (session_at (stand_at before (At flat)))) ≡ text → Replies r was now mid after.sink text → Holds r (setting_of before limits rules) (Asks Continue ∷ []) (stand_at before (At flat)) after
continue_held r limits rules before after flat mid text was now going made said p =
    let g = setting_of before limits rules in
    let s = stand_at before (At flat) in
    ran_held r g (Asks Continue) s after.machine after.file mid after.sink text was now (going_does g (steps_of g (Asks Continue) s) s going) made (continue_said limits (session_at s) text going said) p

pub next_stopped_held : (e : Stopped) (limits : Limits) (rules : List Rule) (before after : Scene) (flat : Flat) (count : ℕ) → StepsHold (Err e) (setting_of before limits rules) (steps_of (setting_of before limits rules) (Asks (Next count)) (stand_at before (At flat))) (stand_at before (At flat)) after →
    Holds (Err e) (setting_of before limits rules) (Asks (Next count) ∷ []) (stand_at before (At flat)) after
next_stopped_held e limits rules before after flat count h = stopped_held e (setting_of before limits rules) (Asks (Next count)) (stand_at before (At flat)) after (λ x. x) h

pub continue_stopped_held : (e : Stopped) (limits : Limits) (rules : List Rule) (before after : Scene) (flat : Flat) → StepsHold (Err e) (setting_of before limits rules) (steps_of (setting_of before limits rules) (Asks Continue) (stand_at before (At flat))) (stand_at before (At flat)) after →
    Holds (Err e) (setting_of before limits rules) (Asks Continue ∷ []) (stand_at before (At flat)) after
continue_stopped_held e limits rules before after flat h = stopped_held e (setting_of before limits rules) (Asks Continue) (stand_at before (At flat)) after (λ x. x) h

-- runs

only_sent : (p b : Paged) (more : Channels) → output_of false p ≡ append (output_of false b) more → more ≡ writes more.out []
unfolding lines_of
only_sent p b more e =
    let report : more.report ≡ [] = sym (ap (λ (z : Channels). z.report) e) in
    let recorded : more.recorded ≡ [] = sym (ap (λ (z : Channels). z.recorded) e) in
    let saved : more.saved ≡ unsaved = sym (ap (λ (z : Channels). z.saved) e) in
    λ i. record { out = more.out; report = report i; recorded = recorded i; saved = saved i }

run_sends : (g : Setting) (count : ℕ) (s t : Stand) (p : Paged) → p.place ≡ t.at.place → Wrote (origin (limits_for g s count) g.areas s.at s.file s.sink) p t.sink → Sends s t []
run_sends g count s t p at w = record {
  sent = w.more.out;
  output = sym (ap (λ (z : Place). (machine_at z).output) at) ∙ ap (λ (z : Channels). z.out) w.is;
  wrote = subst (λ (z : Channels). Grew s.sink t.sink z) (only_sent p s.at w.more w.is) w.grew;
}

whole_makes : (end : RunEnd) (why : Why) (g : Setting) (count : ℕ) (s : Stand) (after : Scene) (place : Place) → why_of end ≡ Some why →
    (w : IsWhole (limits_for g s count) g.areas g.rules s.at end s.file after.machine after.file s.sink after.sink) → (after_turns g w.count s).place ≡ place → MakesTurns g count why s (stand_at after place)
whole_makes end why g count s after place is w at = record {
  turns = w.count;
  goes = w.goes;
  stopped = w.stopped ∙ is;
  reached = begun_at after.machine after.file (after_turns g w.count s) place w.tracks at;
  moved = w.moved;
}

made_steps : (end : RunEnd) (why : Why) (g : Setting) (count : ℕ) (s : Stand) (after : Scene) → why_of end ≡ Some why → IsThrough why → IsBetween after.machine → (pages after.machine.pager).areas ≡ g.areas →
    IsWhole (limits_for g s count) g.areas g.rules s.at end s.file after.machine after.file s.sink after.sink → HasMadeSteps g count s after
made_steps end why g count s after is through between areas w =
    let p = after_turns g w.count s in
    let x = place_between p.place (sym between.closed ∙ w.tracks.means.processor.open_one) in
    record {
      flat = x.0;
      runs = record { why = why; through = through; makes = whole_makes end why g count s after (At x.0) is w x.1; flat = x.0; between = refl };
      sends = run_sends g count s (stand_at after (At x.0)) p x.1 w.wrote;
      means = subst (λ (z : Place). Means after.machine after.file z) x.1 w.tracks.means;
      areas = areas;
    }

-- what a run of so many steps comes to
steps_hold : (end : RunEnd) (g : Setting) (count : ℕ) (s : Stand) (after : Scene) → (StopsBetween end → IsBetween after.machine) → (StopsBetween end → (pages after.machine.pager).areas ≡ g.areas) →
    run_spec.Ends (limits_for g s count) g.areas g.rules s.at s.file end after.machine after.file s.sink after.sink → StepsHold (answer_of end) g count s after
steps_hold (run_end.Ended e) g count s after between areas w = made_steps (run_end.Ended e) (ByEnding e) g count s after refl tt (between tt) (areas tt) w
steps_hold run_end.Steps g count s after between areas w = made_steps run_end.Steps BySteps g count s after refl tt (between tt) (areas tt) w
steps_hold run_end.Turns g count s after between areas w =
    let p = after_turns g w.count s in
    record {
      place = p.place;
      makes = whole_makes run_end.Turns ByTurns g count s after p.place refl w refl;
      sends = run_sends g count s (stand_at after p.place) p refl w.wrote;
      means = w.tracks.means;
    }
steps_hold run_end.PageFault g count s after between areas w = w
steps_hold run_end.WriteFault g count s after between areas w = w

pub steps_hold_from : (end : RunEnd) (limits : Limits) (rules : List Rule) (count first : ℕ) (before after : Scene) (flat : Flat) → first ≡ before.machine.steps → (StopsBetween end → IsBetween after.machine) → (StopsBetween end → (pages after.machine.pager).areas ≡ (pages before.machine.pager).areas) →
    run_spec.Ends (limits_of limits first count) (pages before.machine.pager).areas rules (begun before.machine (At flat)) before.file end after.machine after.file before.sink after.sink → StepsHold (answer_of end) (setting_of before limits rules) count (stand_at before (At flat)) after
steps_hold_from end limits rules count first before after flat e between areas w =
    steps_hold end (setting_of before limits rules) count (stand_at before (At flat)) after between areas
    (subst (λ (n : ℕ). run_spec.Ends (limits_of limits n count) (pages before.machine.pager).areas rules (begun before.machine (At flat)) before.file end after.machine after.file before.sink after.sink) e w)
