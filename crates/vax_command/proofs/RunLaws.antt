-- What a run under a schedule comes to, from what the machine did.
use Rattle.std.proofs.Common.{◌≡◌, if◌then◌else◌, ◌⊎◌, ◌++◌, ◌<◌, ◌-◌, ◌^◌, ℕ, suc, Bool, true, false, List, [], map, Option, Some, None, refl, sym, ap, subst, ◌∙◌, inl, inr, arith}
use Rattle.std.specs.List.{flat_map}
use Rattle.vax_space.specs.declared.Area.{Area}
use Rattle.vax_space.specs.Faults.{IsSpace}
use Rattle.vax_outside.proofs.Counting.{rose_then}
use Rattle.vax_outside.specs.Blocks.{BlockFile}
use Rattle.vax_outside.specs.Channels.{Channels, Grew, GrewByPrefix, append, nothing, only, unsaved}
use Rattle.vax_outside.specs.declared.traits.Chan.TheVariants.{Report}
use Rattle.vax_outside.proofs.Growth.{append-nothing, grew_more, grew_nothing, prefix_in, both_unsaved}
use Rattle.vax_flat.specs.Parts.{Place, At, Within, machine_at, units_done}
use Rattle.vax_flat.specs.Port.{layout}
use Rattle.vax_flat.specs.Step.{Flat}
use Rattle.vax_flat.specs.declared.Ending.TheVariants as ending
use Rattle.vax_machine.specs.Attempt.{open_at}
use Rattle.vax_pager.specs.Listing.{is_listed}
use Rattle.vax_image.specs.Start.{Start, start_areas, start_core}
use Rattle.vax_flat.specs.Start.{start_memory}
use Rattle.vax_sched.specs.Faults.{Denotes}
use Rattle.vax_sched.specs.declared.rule.Rule.{Rule}
use Rattle.vax_report.specs.Report.{report}
use Rattle.vax_report.specs.declared.Dump.{Dump}
use Rattle.vax_report.specs.declared.Last.{Last}
use Rattle.vax_report.specs.declared.Last.TheVariants as lasts
use Rattle.vax_machine.specs.Calling.{asking_of}
use Rattle.vax_machine.specs.Console.{IsBetween}
use Rattle.vax_machine.specs.Machine.{Means, keeping, residence}
use Rattle.vax_machine.specs.Meaning.{starts_at, units_of}
use Rattle.vax_machine.specs.Laws.{IsProper}
use Rattle.vax_machine.specs.Paged.{Paged, Why, ByEnding, BySteps, ByTurns, all_evicted, fresh, stops}
use Rattle.vax_machine.specs.Run as machine
use Rattle.vax_machine.specs.Blocks.{Moved}
use Rattle.vax_machine.specs.Run.{FewTurns, IsWhole, Runs, begun, why_of}
use Rattle.vax_machine.specs.Writing.{OnlyWrote, Wrote, WrotePart, both, eviction_line, lines_of, output_of}
use Rattle.vax_machine.proofs.Halting.{going_on}
use Rattle.vax_machine.proofs.Tracking.{many_evicted}
use Rattle.vax_machine.proofs.Unwritten.{writes_suffice}
use Rattle.vax_machine.specs.Touched.{PinsTouched}
use Rattle.vax_machine.specs.declared.engine.Engine.{Engine}
use Rattle.vax_machine.specs.declared.event.Limits.{Limits}
use Rattle.vax_machine.specs.declared.event.RunEnd.{RunEnd}
use Rattle.vax_machine.specs.declared.event.RunEnd.TheVariants as run_end
use Rattle.vax_machine_laws.specs.FlatRun.{GoesOnFor, Stage, stage_of}
use Rattle.vax_machine_laws.proofs.Reaching.{run_comes, shorter, stops_there}
use Rattle.vax_machine_laws.proofs.Spoiling.{due_spoiled}
use Rattle.vax_machine_laws.proofs.Sufficing.{turns_suffice}
use Rattle.vax_word.specs.declared.Core.{Core}
use Rattle.vax_cli.specs.Words.{Options, Text}
use Rattle.vax_cli.specs.declared.command.DumpItem.{DumpItem}
use Rattle.vax_cli.specs.declared.command.Strictness.{Strictness}
use Rattle.vax_cli.specs.declared.command.Strictness.TheVariants as strictly
use Rattle.vax_command.specs.Answer.{is_success, halted, status_of, unhalted}
use Rattle.vax_command.specs.Course.{Course, Halt, HasTurned, IsBroken, IsReady, IsUnseen, TurnsOrLoses, WentOn, WentOnFrom, course_of, lines_in, turned}
use Rattle.vax_command.specs.Around.{Change, HasFailed, Outside, Seen}
use Rattle.vax_command.specs.Ends.{Ends, EndsFrom, EndsSo}
use Rattle.vax_command.specs.Fresh.{IsFresh, IsPrepared, IsReported, machine_report}
use Rattle.vax_command.specs.Status.{refusal_growth}
use Rattle.vax_command.specs.Loaded.{Loaded}
use Rattle.vax_command.specs.Pages.{HasRun, RunsOrLoses}
use Rattle.vax_command.specs.Running.{IsFaulty, Ran, setup_for}
use Rattle.vax_command.specs.Room.{ReadsFor}
use Rattle.vax_command.specs.Setup.{Setup, after_turns, before_turns, run_of}
use Rattle.vax_command.specs.Went.{IsCut, IsRunAnswer, Stop, Went, WentFrom, dumps_at, last_of, run_output, run_report, shown}
use Rattle.vax_command.specs.declared.status.Status.{Status}
use Rattle.vax_command.specs.declared.status.Status.TheVariants.{Done, NoMemory, PageFault, WriteFault, Unsuccessful}

-- what is written after some growth
pub ends_after : (before mid after : Seen Channels) (meant : Status) (a b : Channels) (result : Status) → Grew before.told mid.told a → mid.faults.count ≡ before.faults.count → EndsFrom mid after meant b result → EndsFrom before after meant (append a b) result
ends_after before mid after meant a b result g q (inl w) = inl (record { answer = w.answer; grew = grew_more before.told mid.told after.told a b g w.grew; quiet = w.quiet ∙ q })
ends_after before mid after meant a b result g q (inr c) = inr (record {
  answer = c.answer;
  prefix = prefix_in before.told mid.told after.told a b nothing (append a b) (ap (append a) (append-nothing b)) g c.prefix;
  cause = rose_then q c.cause;
})

-- the report on a machine is the one on its place

open_units : (place : Place) → units_of (open_at place) ≡ units_done place
open_units (At m) = refl
open_units (Within p) = refl

pub reported_at : (m : Engine) (file : Option BlockFile) (place : Place) (steps : ℕ) (why : Last) (dumps : List Dump) → m.steps ≡ steps → Means m file place
    → machine_report m why dumps ≡ report (machine_at place).core why steps (units_done place) (machine_at place).taken dumps
reported_at m file place steps why dumps s means i =
    let k = means.processor.machine in
    let units : units_of m.cpu.latch ≡ units_done place = ap units_of means.processor.open_one ∙ open_units place in
    report ((k i).core) why (s i) (units i) ((k i).taken) dumps

pub reported : (m : Engine) (file : Option BlockFile) (s : Stage) (why : Last) (dumps : List Dump) → m.steps ≡ s.steps → Means m file s.place → machine_report m why dumps ≡ run_report s why dumps
unfolding run_report
reported m file s why dumps steps means = reported_at m file s.place s.steps why dumps steps means

outputs : (s : Stage) (lines : Text) (why : Last) (dumps : List Dump) (grown : Channels) → grown ≡ only Report (run_report s why dumps) → append (both (machine_at s.place).output lines) grown ≡ run_output s lines why dumps
unfolding run_output
outputs s lines why dumps grown e = ap (append (both (machine_at s.place).output lines)) e

pub as_shown : (s : Stage) (items : List DumpItem) (dumps : List Dump) → dumps ≡ map (shown (machine_at s.place).memory) items → dumps ≡ dumps_at s items
unfolding dumps_at
as_shown s items dumps e = e

-- a run from the start has written all that its turns write

nothing_yet : (listed : Bool) (b : Paged) → (machine_at b.place).output ≡ [] → b.evictions ≡ [] → output_of listed b ≡ nothing
unfolding lines_of
nothing_yet true b none e = let k = ap (flat_map eviction_line) e in λ i. record { out = none i; report = []; recorded = k i; saved = unsaved }
nothing_yet false b none e = λ i. record { out = none i; report = []; recorded = []; saved = unsaved }

all_of_it : (listed : Bool) (b p : Paged) (more : Channels) → output_of listed b ≡ nothing → output_of listed p ≡ append (output_of listed b) more → more ≡ output_of listed p
all_of_it listed b p more none e = sym (e ∙ ap (λ (c : Channels). append c more) none)

answers_succeeded : (failed : Type 0) (b : Bool) → IsRunAnswer strictly.Success failed (if b then Done else Unsuccessful)
answers_succeeded failed true = tt
answers_succeeded failed false = refl

answers_halted : (failed : Type 0) (strict : Strictness) (core : Core) → IsRunAnswer strict failed (halted strict core)
answers_halted failed strictly.Off core = tt
answers_halted failed strictly.Halt core = tt
answers_halted failed strictly.Success core = answers_succeeded failed (is_success core)

answers_unhalted : (failed : Type 0) (strict : Strictness) → IsRunAnswer strict failed (unhalted strict)
answers_unhalted failed strictly.Off = tt
answers_unhalted failed strictly.Halt = λ e. cc e
answers_unhalted failed strictly.Success = λ e. cc e

pub answers : (failed : Type 0) (strict : Strictness) (core : Core) (why : Why) → IsRunAnswer strict failed (status_of strict core why)
answers failed strict core (ByEnding ending.Halt) = answers_halted failed strict core
answers failed strict core (ByEnding (ending.Vector offset)) = answers_unhalted failed strict
answers failed strict core (ByEnding ending.Stack) = answers_unhalted failed strict
answers failed strict core (ByEnding ending.Scb) = answers_unhalted failed strict
answers failed strict core (ByEnding ending.Change) = answers_unhalted failed strict
answers failed strict core BySteps = answers_unhalted failed strict
answers failed strict core ByTurns = tt

-- the registers of a machine are those of its place
core_at : (m : Engine) (file : Option BlockFile) (place : Place) → Means m file place → m.cpu.core ≡ (machine_at place).core
core_at m file place means =
    let k = means.processor.machine in
    λ i. (k i).core

pub as_whole : (limits : Limits) (areas : List Area) (rules : List Rule) (b : Paged) (before : Option BlockFile) (end : RunEnd) (why : Why) (m : Engine) (file : Option BlockFile) (old now : Option Channels) → why_of end ≡ Some why → machine.Ends limits areas rules b before end m file old now → IsWhole limits areas rules b end before m file old now
as_whole limits areas rules b before (run_end.Ended e) why m file old now is h = h
as_whole limits areas rules b before run_end.Steps why m file old now is h = h
as_whole limits areas rules b before run_end.Turns why m file old now is h = h
as_whole limits areas rules b before run_end.PageFault why m file old now is h = cc
as_whole limits areas rules b before run_end.WriteFault why m file old now is h = cc

-- nothing was recorded
unlisted : (a b : Channels) → a.recorded ≡ [] → b.recorded ≡ [] → (append a b).recorded ≡ []
unlisted a b x y = ap (λ (xs : List ℕ). xs ++ b.recorded) x ∙ y

-- how a run went, and how its call ends
abbrev pub Told : Outside → Course → Status → Type 0
Told outside c result = EndsSo outside.sink (WentOn outside c) result

-- memory may have been read behind a run
ran_and_read : (c : Course) (count : ℕ) (file : BlockFile) (middle last : Option BlockFile) → FewTurns c.begins (turned c count) → Moved c.areas c.begins (turned c count) (Some file) middle → ReadsFor c.items middle last → (c.items ≡ [] → last ≡ middle) → HasTurned c count file last
ran_and_read c count file middle last few moved reads unread =
    let m = moved file refl in
    record { few = few; between = m.0; moved = m.2; told = subst (λ (z : Option BlockFile). ReadsFor c.items z last) m.1 reads; unread = λ none. unread none ∙ m.1 }

-- what the machine did with whatever its page file told
abbrev pub Did : Course → Engine → Option BlockFile → RunEnd → Engine → Option BlockFile → (old between : Option Channels) → Type 0
Did c m told end n after old between =
    (place : Place) → Means m told place → PinsTouched (residence m) place → machine.Ends c.limits c.areas c.rules (begun m place) told end n after old between

-- no page is pinned where it begins
pub none_pinned : (m : Engine) (b : Paged) (place : Place) → IsReady m b → PinsTouched (residence m) place
unfolding is_listed
none_pinned m b place f =
    let e : (residence m).pinned ≡ [] = ap (λ (p : Paged). p.residence.pinned) f.begins ∙ f.unpinned in
    record { touched = λ page h. let no : false ≡ true = sym (ap (is_listed page) e) ∙ h in cc }

-- the run is that from where it begins
pub from_begin : (c : Course) (m : Engine) → IsReady m c.begins → (file : BlockFile) (end : RunEnd) (n : Engine) (after : Option BlockFile) (old between : Option Channels) → Did c m (Some file) end n after old between
    → machine.Ends c.limits c.areas c.rules c.begins (Some file) end n after old between
from_begin c m f file end n after old between did =
    subst (λ (z : Paged). machine.Ends c.limits c.areas c.rules z (Some file) end n after old between) f.begins
    (did c.begins.place (f.means file) (none_pinned m c.begins c.begins.place f))

-- What is known of a run of a machine that is ready for it: what it sees of the outside, the machine it leaves, the sink behind it, and the answer.
module _ (outside : Outside) (c : Course) (m n : Engine) (f : IsReady m c.begins) (mid : Seen Channels) (result : Status) where
  -- what is told of it, whatever the page file told before
  abbrev By : Option BlockFile → Type 0
  By told = EndsSo outside.sink (WentOnFrom told outside c) result

  silent_start : output_of c.limits.listed c.begins ≡ nothing
  silent_start = nothing_yet c.limits.listed c.begins f.silent (ap (λ (p : Paged). p.evictions) (sym f.begins))

  pub wrote_out : (told : Option BlockFile) (p : Paged) → Wrote (machine.origin c.limits c.areas c.begins told outside.sink.before.told) p mid.told → Grew outside.sink.before.told mid.told (output_of c.limits.listed p)
  wrote_out told p w = subst (λ (g : Channels). Grew outside.sink.before.told mid.told g) (all_of_it c.limits.listed c.begins p w.more silent_start w.is) w.grew

  -- the report behind what the run wrote
  pub behind : (s : Stage) (lines : Text) (why : Last) (dumps : List Dump) (status : Status) (grown : Channels) → Grew outside.sink.before.told mid.told (both (machine_at s.place).output lines) → mid.faults.count ≡ outside.sink.before.faults.count → grown ≡ only Report (run_report s why dumps) → EndsFrom mid outside.sink.after status grown result → Ends outside.sink status (run_output s lines why dumps) result
  behind s lines why dumps status grown wrote quiet is ends =
      subst (λ (g : Channels). Ends outside.sink status g result) (outputs s lines why dumps grown is) (ends_after outside.sink.before mid outside.sink.after status (both (machine_at s.place).output lines) grown result wrote quiet ends)

  -- it stopped by itself, and the report was written: `read` is the page file before and after the memory for the report was read
  module _ (read : Change BlockFile) (up : HasFailed read → HasFailed outside.pages) (reads : ReadsFor c.items read.before.told outside.pages.after.told) (unread : c.items ≡ [] → outside.pages.after.told ≡ read.before.told) (end : RunEnd) (why : Why) (is : why_of end ≡ Some why) (status : Status) (grown : Channels) (out : OnlyWrote c.limits.listed outside.sink.before.told mid.told) (quiet : mid.faults.count ≡ outside.sink.before.faults.count) (ends : EndsFrom mid outside.sink.after status grown result) where
    answer_is : IsReported read n (last_of why) (status_of c.strict n.cpu.core why) c.items status grown → IsUnseen c outside status (append out.more grown)
    answer_is (inl r) = record { answer = subst (IsRunAnswer c.strict (HasFailed outside.pages)) (sym r.0) (answers (HasFailed outside.pages) c.strict n.cpu.core why); unlisted = λ off. unlisted out.more grown (out.unlisted off) (let d = r.1 in ap (λ (g : Channels). g.recorded) d.2); unsaved = both_unsaved out.more.saved grown.saved out.unsaved (let d = r.1 in ap (λ (g : Channels). g.saved) d.2) }
    answer_is (inr r) = record { answer = subst (IsRunAnswer c.strict (HasFailed outside.pages)) (sym r.1) (up r.0); unlisted = λ off. unlisted out.more grown (out.unlisted off) (ap (λ (g : Channels). g.recorded) r.2); unsaved = both_unsaved out.more.saved grown.saved out.unsaved (ap (λ (g : Channels). g.saved) r.2) }

    whole_by : (file : BlockFile) → IsWhole c.limits c.areas c.rules c.begins end (Some file) n read.before.told outside.sink.before.told mid.told → IsReported read n (last_of why) (status_of c.strict n.cpu.core why) c.items status grown → By (Some file)
    whole_by file w (inl r) =
        let p = turned c w.count in
        let s = stage_of p in
        let d = r.1 in
        let shows : d.0 ≡ dumps_at s c.items = as_shown s c.items d.0 (d.1 p.place w.tracks.means) in
        let text : grown ≡ only Report (run_report s (last_of why) (dumps_at s c.items)) =
        d.2 ∙ (ap (only Report) (reported n read.before.told s (last_of why) d.0 w.tracks.steps w.tracks.means) ∙ ap (λ dumps. only Report (run_report s (last_of why) dumps)) shows) in
        record {
          meant = status;
          grown = run_output s (lines_in c p) (last_of why) (dumps_at s c.items);
          so = inl (record { halt = record { count = w.count; why = why; goes = w.goes; stopped = w.stopped ∙ is }; answer = r.0 ∙ ap (λ (k : Core). status_of c.strict k why) (core_at n read.before.told p.place w.tracks.means); wrote = refl; blocks = inl (ran_and_read c w.count file read.before.told outside.pages.after.told w.few w.moved reads unread) });
          ends = behind s (lines_in c p) (last_of why) (dumps_at s c.items) status grown (wrote_out (Some file) p w.wrote) quiet text ends;
        }
    whole_by file w (inr r) =
        let p = turned c w.count in
        let s = stage_of p in
        let text : grown ≡ only Report (run_report s lasts.PageFault []) = r.2 ∙ ap (only Report) (reported n read.before.told s lasts.PageFault [] w.tracks.steps w.tracks.means) in
        record {
          meant = status;
          grown = run_output s (lines_in c p) lasts.PageFault [];
          so = inr (up r.0, inl (record { halt = record { count = w.count; why = why; goes = w.goes; stopped = w.stopped ∙ is }; answer = r.1; wrote = refl; blocks = ran_and_read c w.count file read.before.told outside.pages.after.told w.few w.moved reads unread }));
          ends = behind s (lines_in c p) lasts.PageFault [] status grown (wrote_out (Some file) p w.wrote) quiet text ends;
        }

    stopped_by : (told : Option BlockFile) → Did c m told end n read.before.told outside.sink.before.told mid.told → IsReported read n (last_of why) (status_of c.strict n.cpu.core why) c.items status grown → By told
    stopped_by None did r = record { meant = status; grown = append out.more grown; so = answer_is r; ends = ends_after outside.sink.before mid outside.sink.after status out.more grown result out.grew quiet ends }
    stopped_by (Some file) did r =
        whole_by file (as_whole c.limits c.areas c.rules c.begins (Some file) end why n read.before.told outside.sink.before.told mid.told is (from_begin c m f file end n read.before.told outside.sink.before.told mid.told did)) r

  pub went_whole : (read : Change BlockFile) → (HasFailed read → HasFailed outside.pages) → ReadsFor c.items read.before.told outside.pages.after.told → (c.items ≡ [] → outside.pages.after.told ≡ read.before.told) → (end : RunEnd) (why : Why) → why_of end ≡ Some why
      → Did c m outside.pages.before.told end n read.before.told outside.sink.before.told mid.told → OnlyWrote c.limits.listed outside.sink.before.told mid.told → mid.faults.count ≡ outside.sink.before.faults.count
      → (status : Status) (grown : Channels) → IsReported read n (last_of why) (status_of c.strict n.cpu.core why) c.items status grown → EndsFrom mid outside.sink.after status grown result → Told outside c result
  went_whole read up reads unread end why is did out quiet status grown r ends = stopped_by read up reads unread end why is status grown out quiet ends outside.pages.before.told did r

  -- a call of the page file failed in the turn behind so many
  pub broken_by : (file : BlockFile) → Did c m (Some file) run_end.PageFault n outside.pages.after.told outside.sink.before.told mid.told → mid.faults.count ≡ outside.sink.before.faults.count → EndsFrom mid outside.sink.after PageFault (only Report (machine_report n lasts.PageFault [])) result → EndsSo outside.sink (IsBroken c file outside) result
  broken_by file did quiet ends =
      let w = from_begin c m f file run_end.PageFault n outside.pages.after.told outside.sink.before.told mid.told did in
      let q = turned c w.count in
      let s = stage_of q in
      let p = all_evicted w.front q in
      let wrote : Grew outside.sink.before.told mid.told (both (machine_at s.place).output (lines_in c p)) =
      subst (λ (z : Place). Grew outside.sink.before.told mid.told (both (machine_at z).output (lines_in c p))) (many_evicted w.front q).place (wrote_out (Some file) p w.wrote) in
      let text = ap (only Report) (reported n outside.pages.after.told s lasts.PageFault [] w.steps w.means) in
      record {
        meant = PageFault;
        grown = run_output s (lines_in c p) lasts.PageFault [];
        so = record {
          count = w.count;
          goes = w.goes;
          front = w.front;
          rest = w.rest;
          splits = w.splits;
          asks = asking_of n;
          fails = w.fails;
          answer = refl;
          wrote = refl;
        };
        ends = behind s (lines_in c p) lasts.PageFault [] PageFault (only Report (machine_report n lasts.PageFault [])) wrote quiet text ends;
      }

  cut_by : (told : Option BlockFile) → HasFailed outside.pages → Did c m told run_end.PageFault n outside.pages.after.told outside.sink.before.told mid.told → OnlyWrote c.limits.listed outside.sink.before.told mid.told → mid.faults.count ≡ outside.sink.before.faults.count → EndsFrom mid outside.sink.after PageFault (only Report (machine_report n lasts.PageFault [])) result → By told
  cut_by None rose did out quiet ends =
      let text = only Report (machine_report n lasts.PageFault []) in
      record { meant = PageFault; grown = append out.more text; so = record { answer = rose; unlisted = λ off. unlisted out.more text (out.unlisted off) refl; unsaved = both_unsaved out.more.saved text.saved out.unsaved refl }; ends = ends_after outside.sink.before mid outside.sink.after PageFault out.more text result out.grew quiet ends }
  cut_by (Some file) rose did out quiet ends =
      let b = broken_by file did quiet ends in
      record { meant = b.meant; grown = b.grown; so = inr (rose, inr b.so); ends = b.ends }

  pub went_cut : HasFailed outside.pages → Did c m outside.pages.before.told run_end.PageFault n outside.pages.after.told outside.sink.before.told mid.told → OnlyWrote c.limits.listed outside.sink.before.told mid.told → mid.faults.count ≡ outside.sink.before.faults.count
      → EndsFrom mid outside.sink.after PageFault (only Report (machine_report n lasts.PageFault [])) result → Told outside c result
  went_cut rose did out quiet ends = cut_by outside.pages.before.told rose did out quiet ends

module _ (outside : Outside) (c : Course) (m n : Engine) (f : IsReady m c.begins) where
  -- a prefix of what the run writes was written, and of whatever is to come behind
  pub lost_before : (told : Option BlockFile) (p : Paged) (text : Channels) → WrotePart (machine.origin c.limits c.areas c.begins told outside.sink.before.told) p outside.sink.after.told → GrewByPrefix outside.sink.before.told outside.sink.after.told (append (output_of c.limits.listed p) text)
  lost_before told p text w =
      let listed = c.limits.listed in
      let e = all_of_it listed c.begins p w.more (nothing_yet listed c.begins f.silent (ap (λ (b : Paged). b.evictions) (sym f.begins))) w.is in
      prefix_in outside.sink.before.told outside.sink.before.told outside.sink.after.told nothing w.more text (append (output_of listed p) text) (ap (λ (g : Channels). append g text) e) (grew_nothing outside.sink.before.told) w.grew

  lost_prefix : (told : Option BlockFile) (p : Paged) (why : Last) (dumps : List Dump) → WrotePart (machine.origin c.limits c.areas c.begins told outside.sink.before.told) p outside.sink.after.told → GrewByPrefix outside.sink.before.told outside.sink.after.told (run_output (stage_of p) (lines_in c p) why dumps)
  unfolding run_output
  lost_prefix told p why dumps w = lost_before told p (only Report (run_report (stage_of p) why dumps)) w

  lost_by : (told : Option BlockFile) → Did c m told run_end.WriteFault n outside.pages.after.told outside.sink.before.told outside.sink.after.told → OnlyWrote c.limits.listed outside.sink.before.told outside.sink.after.told → HasFailed outside.sink → EndsSo outside.sink (WentOnFrom told outside c) WriteFault
  lost_by None did out rose = record {
    meant = Done;
    grown = out.more;
    so = record { answer = tt; unlisted = out.unlisted; unsaved = out.unsaved };
    ends = inr (record { answer = refl; prefix = record { prefix = out.more; rest = nothing; splits = append-nothing out.more; grew = out.grew }; cause = rose });
  }
  lost_by (Some file) did out rose =
      let w = from_begin c m f file run_end.WriteFault n outside.pages.after.told outside.sink.before.told outside.sink.after.told did in
      let p = turned c w.count in
      let s = stage_of p in
      record {
        meant = status_of c.strict (machine_at s.place).core w.why;
        grown = run_output s (lines_in c p) (last_of w.why) (dumps_at s c.items);
        so = inl (record { halt = record { count = w.count; why = w.why; goes = w.goes; stopped = w.stopped }; answer = refl; wrote = refl; blocks = inr (rose, w.moved) });
        ends = inr (record { answer = refl; prefix = lost_prefix (Some file) p (last_of w.why) (dumps_at s c.items) w.wrote; cause = rose });
      }

  pub went_lost : Did c m outside.pages.before.told run_end.WriteFault n outside.pages.after.told outside.sink.before.told outside.sink.after.told → OnlyWrote c.limits.listed outside.sink.before.told outside.sink.after.told → HasFailed outside.sink → Told outside c WriteFault
  went_lost did out rose = lost_by outside.pages.before.told did out rose

-- a run from a start: it goes by the flat machine's run from there, and the limit of turns stops it only where it is too low

pub ready : (m : Engine) (frames : ℕ) (start : Flat) → IsFresh m frames start → IsReady m (fresh frames start)
ready m frames start f = record { means = f.means; begins = f.begins; silent = f.silent; unpinned = refl }

-- a machine starts such a run
pub record Starts (setup : Setup) (m : Engine) : Type 0 where
  pub is_fresh : IsFresh m setup.frames setup.start
  pub areas : (keeping m).areas ≡ setup.areas
  pub low : setup.limits.turns < 2 ^ 64 - 1

module _ (setup : Setup) (m : Engine) (f : Starts setup m) where
  pub proper : BlockFile → IsProper (run_of setup)
  proper file = record {
    space = subst IsSpace f.areas f.is_fresh.space;
    memory = (f.is_fresh.means file).memory.areas ∙ ap layout f.areas;
  }

  -- it stopped by itself
  abbrev pub stop_of : BlockFile → Halt (course_of setup) → Stop setup
  stop_of file h =
      let g : GoesOnFor setup.limits (run_of setup) h.count = record { going = h.goes.going } in
      let comes = run_comes setup.limits (run_of setup) h.count g in
      record {
        at = stage_of (after_turns setup h.count);
        why = h.why;
        reaches = comes.reaches;
        whole = stops_there h.why setup.limits setup.start (after_turns setup h.count) h.stopped comes;
        count = h.count;
        leads = refl;
        goes = g;
        stopped = h.stopped;
        short = λ e. record {
          few = λ parts over. turns_suffice setup.limits (run_of setup) h.count parts (proper file) f.low g (h.stopped ∙ ap (λ (w : Why). Some w) e) over;
          spoiled = due_spoiled setup.limits (run_of setup) h.count g;
        };
      }

  -- the same of a run that these parts tell of
  abbrev pub stop_when : (file : BlockFile) (count : ℕ) (why : Why) → Runs setup.limits setup.areas setup.rules (before_turns setup) count → stops setup.limits.steps setup.limits.turns (after_turns setup count) ≡ Some why → Stop setup
  stop_when file count why goes stopped = stop_of file (record { count = count; why = why; goes = goes; stopped = stopped })

  module _ (outside : Outside) (status : Status) (grown : Channels) where
    as_run : (count : ℕ) (file : BlockFile) (after : Option BlockFile) → HasTurned (course_of setup) count file after → HasRun setup count file after
    as_run count file after t = record { few = t.few; between = t.between; moved = t.moved; needed = λ turn low absent page small clean. writes_suffice (run_of setup) turn absent page small clean; told = t.told; unread = t.unread }

    as_runs : (count : ℕ) (file : BlockFile) → TurnsOrLoses (course_of setup) count file outside → RunsOrLoses setup count file outside
    as_runs count file (inl t) = inl (as_run count file outside.pages.after.told t)
    as_runs count file (inr l) = inr l

    pub as_cut : (file : BlockFile) → IsBroken (course_of setup) file outside status grown → IsCut setup file outside status grown
    as_cut file w =
        let q = after_turns setup w.count in
        let g : GoesOnFor setup.limits (run_of setup) (suc w.count) = record { going = w.goes.going } in
        let going = going_on setup.limits q (g.going w.count (omega arith)) in
        record {
          at = stage_of q;
          reaches = (run_comes setup.limits (run_of setup) w.count (shorter setup.limits (run_of setup) w.count g)).reaches;
          unfinished = record { ending = going.ending; left = going.steps };
          count = w.count;
          leads = refl;
          goes = g;
          front = w.front;
          rest = w.rest;
          splits = w.splits;
          asks = w.asks;
          fails = w.fails;
          answer = w.answer;
          wrote = w.wrote;
        }

    went_from : (told : Option BlockFile) → WentOnFrom told outside (course_of setup) status grown → WentFrom told outside setup status grown
    went_from None w = record { answer = w.answer; unlisted = w.unlisted; unsaved = w.unsaved }
    went_from (Some file) (inl w) = inl (record { stop = stop_of file w.halt; answer = w.answer; wrote = w.wrote; blocks = as_runs w.halt.count file w.blocks })
    went_from (Some file) (inr (rose, inl w)) = inr (rose, inl (record { stop = stop_of file w.halt; answer = w.answer; wrote = w.wrote; blocks = as_run w.halt.count file outside.pages.after.told w.blocks }))
    went_from (Some file) (inr (rose, inr w)) = inr (rose, inr (as_cut file w))

  pub went_from_start : (outside : Outside) (result : Status) → Told outside (course_of setup) result → EndsSo outside.sink (Went outside setup) result
  went_from_start outside result h = record { meant = h.meant; grown = h.grown; so = went_from outside h.meant h.grown outside.pages.before.told h.so; ends = h.ends }

-- a call of the page file that failed isn't hidden
pub cut_answers : (before after : Seen Channels) (grown : Channels) (result : Status) → EndsFrom before after PageFault grown result → (result ≡ PageFault) ⊎ (result ≡ WriteFault)
cut_answers before after grown result (inl w) = inl w.answer
cut_answers before after grown result (inr c) = inr c.answer

-- a machine at the start of a program

abbrev Begins : Engine → ℕ → Core → List Area → List ℕ → Type 0
Begins m frames k space input =
    ((file : BlockFile) → Means m (Some file) (At (starts_at k (start_memory space) input)))
    × (begun m (At (starts_at k (start_memory space) input)) ≡ fresh frames (starts_at k (start_memory space) input))
    × ((keeping m).areas ≡ space)

pub prepared : (m : Engine) (frames : ℕ) (program : Loaded) (input : List ℕ) (k : Core) (space : List Area) → k ≡ start_core program.system program.user → space ≡ start_areas program.system program.user
    → Begins m frames k space input → IsBetween m → IsSpace (start_areas program.system program.user) → IsPrepared m frames (Start program.system program.user input) (start_areas program.system program.user)
prepared m frames program input k space a b h between sound =
    let areas = start_areas program.system program.user in
    let registers = start_core program.system program.user in
    let one : Begins m frames registers space input = subst (λ (z : Core). Begins m frames z space input) a h in
    let both : Begins m frames registers areas input = subst (λ (z : List Area). Begins m frames registers z input) b one in
    record { is_fresh = record { means = both.0; begins = both.1; silent = refl; space = subst IsSpace (sym both.2) sound }; has_areas = both.2; between = between }

-- what a run came to

module _ (outside : Outside) (program : Loaded) (input schedule : Text) (options : Options) (result : Status) where
  pub run_misplanned : (status : Status) → IsFaulty (start_areas program.system program.user) schedule status ⊎ (status ≡ NoMemory) → outside.pages.same → Ends outside.sink status (refusal_growth status) result → Ran outside program input schedule options result
  run_misplanned status (inl r) k ends = record { meant = status; grown = refusal_growth status; so = inr (inl (record { fault = r; wrote = refl; keeps = k })); ends = ends }
  run_misplanned status (inr e) k ends = record { meant = status; grown = refusal_growth status; so = inl (e, ap refusal_growth e, k); ends = ends }

  pub run_went : (rules : List Rule) → Denotes (start_areas program.system program.user) schedule rules → EndsSo outside.sink (Went outside (setup_for program input rules options)) result → Ran outside program input schedule options result
  run_went rules planned h = record { meant = h.meant; grown = h.grown; so = inr (inr (record { rules = rules; planned = planned; went = h.so })); ends = h.ends }
