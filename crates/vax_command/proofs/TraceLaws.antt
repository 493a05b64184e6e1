-- What a traced run comes to, from what the machine did.
use Rattle.std.proofs.Common.{◌≡◌, ◌⊎◌, ◌++◌, ◌+◌, ◌<◌, ◌≤◌, ℕ, Bool, true, false, List, [], length, Option, Some, None, refl, sym, ap, subst, ◌∙◌, inl, inr, arith}
use Rattle.std.specs.Bool.{OnFalse, OnTrue}
use Rattle.std.specs.Prelude.{nat_lt}
use Rattle.std.proofs.lemmas.Bool.Decides.{nat_tests}
use Rattle.vax_outside.specs.Blocks.{BlockFile}
use Rattle.vax_outside.specs.Faults.{CountsFailure, Rose}
use Rattle.vax_outside.specs.declared.faults.Failures.{Failures}
use Rattle.vax_outside.specs.Channels.{Channels, Grew, GrewByPrefix, append, nothing, only}
use Rattle.vax_outside.specs.declared.traits.Chan.TheVariants.{Report}
use Rattle.vax_outside.proofs.Growth.{append-nothing}
use Rattle.vax_flat.specs.Parts.{At, machine_at}
use Rattle.vax_flat.specs.Step.{Flat}
use Rattle.vax_report.specs.declared.Last.{Last}
use Rattle.vax_report.specs.declared.Last.TheVariants as lasts
use Rattle.vax_image.specs.Start.{start_areas}
use Rattle.vax_sched.specs.Faults.{Denotes}
use Rattle.vax_sched.specs.declared.rule.Rule.{Rule}
use Rattle.vax_pager.specs.Poking.{OnlyRead}
use Rattle.vax_machine.specs.Calling.{asking_of}
use Rattle.vax_machine.specs.Machine.{Means, keeping}
use Rattle.vax_machine.specs.Paged.{Paged, Why, ByEnding, BySteps, ByTurns}
use Rattle.vax_machine.specs.Run.{System, begun, why_of}
use Rattle.vax_machine.specs.Writing.{OnlyWrote, both}
use Rattle.vax_machine.specs.declared.engine.Engine.{Engine}
use Rattle.vax_machine_laws.specs.FlatRun.{GoesOnFor, stage_of}
use Rattle.vax_machine_laws.proofs.Reaching.{run_comes}
use Rattle.vax_watch.specs.Listing.{listing}
use Rattle.vax_watch.specs.Traced.{CountsTrace, IsCutTrace, IsLostTrace, IsTraced, IsUnseen, NamesStop, Trace, WrittenIn, as_run, by_page, turns_of}
use Rattle.vax_watch.specs.Traced as watch
use Rattle.vax_watch.proofs.Counted.{fine_write}
use Rattle.vax_watch.proofs.Written.{written_read}
use Rattle.vax_watch.specs.declared.steps.TraceEnd.{TraceEnd}
use Rattle.vax_watch.specs.declared.steps.TraceEnd.TheVariants as end
use Rattle.vax_cli.specs.Tracing.{Tracing}
use Rattle.vax_cli.specs.Words.{Options, Text}
use Rattle.vax_cli.specs.declared.command.Strictness.TheVariants.{Off}
use Rattle.vax_command.specs.Around.{Change, HasFailed, Outside, Seen}
use Rattle.vax_command.specs.Course.{course_of}
use Rattle.vax_command.specs.Ends.{Ends, EndsFrom, EndsSo}
use Rattle.vax_command.specs.Fresh.{IsReported, machine_report}
use Rattle.vax_command.specs.Loaded.{Loaded}
use Rattle.vax_command.specs.Running.{IsFaulty}
use Rattle.vax_command.specs.Setup.{before_turns, run_of}
use Rattle.vax_command.specs.Status.{refusal_growth}
use Rattle.vax_command.specs.Tracing.{Comes, Traced, Traces, Went, WentFrom, answer_of, last_of, lines_of, stop_of, trace_at, traced_for, up_to_stop}
use Rattle.vax_command.specs.TracingEnds.{last_to, status_to}
use Rattle.vax_command.specs.Went.{IsRunAnswer, dumps_at, run_output, run_report}
use Rattle.vax_command.specs.declared.status.Status.{Status}
use Rattle.vax_command.specs.declared.status.Status.TheVariants.{Done, NoMemory, PageFault, WriteFault}
use Rattle.vax_command.proofs.RunLaws.{Starts, as_shown, behind, ends_after, ready, reported, stop_when}

-- the trace that a machine began
abbrev pub begun_at : Traced → Engine → Option BlockFile → Trace
begun_at s m file = record {
  limits = s.run.limits;
  rules = s.run.rules;
  areas = (keeping m).areas;
  start = s.run.start;
  from = begun m (At s.run.start);
  file = file;
  breaks = s.breaks;
  watches = s.watches;
  texts = s.texts;
}

-- what the machine did with whatever its page file told
abbrev pub Did : Traced → Engine → Option BlockFile → TraceEnd → Option Channels → System → Type 0
Did s m told result old new = (start : Flat) → Means m told (At start) → m.steps ≡ 0 → watch.Traces (begun_at (record s { run = record s.run { start = start } }) m told) result old new

as_traced : (t : Trace) (result : TraceEnd) (old : Option Channels) (new : System) → (result ≡ end.PageFault → ⊥) → (result ≡ end.WriteFault → ⊥) → watch.Traces t result old new → IsTraced t result old new
as_traced t (end.Ended e) old new a b h = h
as_traced t end.Steps old new a b h = h
as_traced t end.Break old new a b h = h
as_traced t end.Turns old new a b h = h
as_traced t end.PageFault old new a b h = absurd (a refl)
as_traced t end.WriteFault old new a b h = absurd (b refl)

-- why it stopped
abbrev why_to : TraceEnd → Why
why_to (end.Ended e) = ByEnding e
why_to end.Steps = BySteps
why_to end.Break = BySteps
why_to end.Turns = ByTurns
why_to end.PageFault = BySteps
why_to end.WriteFault = BySteps

by_itself : (result : TraceEnd) → (result ≡ end.PageFault → ⊥) → (result ≡ end.WriteFault → ⊥) → why_of (as_run result) ≡ Some (why_to result)
by_itself (end.Ended e) a b = refl
by_itself end.Steps a b = refl
by_itself end.Break a b = refl
by_itself end.Turns a b = refl
by_itself end.PageFault a b = absurd (a refl)
by_itself end.WriteFault a b = absurd (b refl)

status_is : (result : TraceEnd) → (result ≡ end.PageFault → ⊥) → (result ≡ end.WriteFault → ⊥) → status_to result ≡ answer_of (why_to result)
status_is (end.Ended e) a b = refl
status_is end.Steps a b = refl
status_is end.Break a b = refl
status_is end.Turns a b = refl
status_is end.PageFault a b = absurd (a refl)
status_is end.WriteFault a b = absurd (b refl)

at_limit : (stop limit : ℕ) → stop ≡ limit → nat_lt stop limit ≡ false
at_limit stop limit e = grind (arith, nat_tests, e)

below_limit : (stop limit : ℕ) → stop < limit → nat_lt stop limit ≡ true
below_limit stop limit e = grind (arith, nat_tests, e)

last_is : (s : Traced) (result : TraceEnd) → (result ≡ end.PageFault → ⊥) → (result ≡ end.WriteFault → ⊥) → NamesStop result (stop_of s) s.run.limits.steps → last_to result ≡ last_of s (why_to result)
last_is s (end.Ended e) a b n = refl
last_is s end.Steps a b n = let k = at_limit (stop_of s) s.run.limits.steps n in rw k refl
last_is s end.Break a b n = let k = below_limit (stop_of s) s.run.limits.steps n in rw k refl
last_is s end.Turns a b n = refl
last_is s end.PageFault a b n = absurd (a refl)
last_is s end.WriteFault a b n = absurd (b refl)

answers : (failed : Type 0) (why : Why) → IsRunAnswer Off failed (answer_of why)
answers failed (ByEnding e) = tt
answers failed BySteps = tt
answers failed ByTurns = tt

-- all that was sent, from a start that has sent nothing
sent_all : (start output sent : List ℕ) → start ≡ [] → output ≡ start ++ sent → sent ≡ output
sent_all start output sent none is = sym (is ∙ ap (λ o. o ++ sent) none)

module _ (s : Traced) (m : Engine) (f : Starts s.run m) where
  pub starts_stop : Starts (up_to_stop s) m
  starts_stop = record { is_fresh = f.is_fresh; areas = f.areas; low = f.low }

  begun_is : (file : Option BlockFile) → begun_at s m file ≡ trace_at s file
  begun_is file =
      let a = f.areas in
      let b = f.is_fresh.begins in
      λ i. record { limits = s.run.limits; rules = s.run.rules; areas = a i; start = s.run.start; from = b i; file = file; breaks = s.breaks; watches = s.watches; texts = s.texts }

  from_start : (file : BlockFile) (result : TraceEnd) (old : Option Channels) (new : System) → Did s m (Some file) result old new → watch.Traces (trace_at s (Some file)) result old new
  from_start file result old new did =
      subst (λ (t : Trace). watch.Traces t result old new) (begun_is (Some file)) (did s.run.start (f.is_fresh.means file) (ap (λ (p : Paged). p.steps) f.is_fresh.begins))

  -- where it came
  comes_to : (count : ℕ) → GoesOnFor (up_to_stop s).limits (run_of (up_to_stop s)) count → Comes s (stage_of (turns_of (trace_at s None) count)) count
  comes_to count g = record { reaches = (run_comes (up_to_stop s).limits (run_of (up_to_stop s)) count g).reaches; goes = g; leads = refl }

-- What is known of a traced run of a machine that starts so: what it sees of the outside, the machine it leaves, the sink behind it, and the answer.
module _ (outside : Outside) (s : Traced) (m n : Engine) (f : Starts s.run m) (mid : Seen Channels) (result : Status) where
  abbrev pub Told : Option BlockFile → Type 0
  Told told = EndsSo outside.sink (WentFrom told outside s) result

  abbrev system : Option BlockFile → System
  system file = record { machine = n; file = file; channels = mid.told }

  abbrev t : Trace
  t = trace_at s None

  -- the lines behind what was sent
  wrote_lines : (count lines steps : ℕ) (sent : List ℕ) → (machine_at (turns_of t count).place).output ≡ s.run.start.output ++ sent → lines ≡ steps → Grew outside.sink.before.told mid.told (both sent (listing s.texts lines s.run.start s.watches)) → Grew outside.sink.before.told mid.told (both (machine_at (turns_of t count).place).output (lines_of s steps))
  wrote_lines count lines steps sent output same wrote =
      subst (λ (k : ℕ). Grew outside.sink.before.told mid.told (both (machine_at (turns_of t count).place).output (lines_of s k))) same
      (subst (λ (out : List ℕ). Grew outside.sink.before.told mid.told (both out (lines_of s lines))) (sent_all s.run.start.output (machine_at (turns_of t count).place).output sent f.is_fresh.silent output) wrote)

  -- it stopped by itself, and the report was written: `read` is the page file before and after the memory for the report was read
  module _ (read : Change BlockFile) (up : HasFailed read → HasFailed outside.pages) (reads : OnlyRead read.before.told outside.pages.after.told) (ending : TraceEnd) (a : ending ≡ end.PageFault → ⊥) (b : ending ≡ end.WriteFault → ⊥) (status : Status) (grown : Channels) (out : OnlyWrote true outside.sink.before.told mid.told) (quiet : mid.faults.count ≡ outside.sink.before.faults.count) (ends : EndsFrom mid outside.sink.after status grown result) where
    answer_is : IsReported read n (last_to ending) (status_to ending) s.run.items status grown → IsRunAnswer Off (HasFailed outside.pages) status
    answer_is (inl r) = subst (IsRunAnswer Off (HasFailed outside.pages)) (sym (r.0 ∙ status_is ending a b)) (answers (HasFailed outside.pages) (why_to ending))
    answer_is (inr r) = subst (IsRunAnswer Off (HasFailed outside.pages)) (sym r.1) (up r.0)

    -- memory was read behind it at most
    blocks_by : (file : BlockFile) (w : IsTraced (trace_at s (Some file)) ending outside.sink.before.told (system read.before.told)) → WrittenIn (trace_at s (Some file)) w.made outside.pages.after.told
    blocks_by file w = written_read s.run.areas (before_turns s.run) (turns_of t w.made) (Some file) read.before.told outside.pages.after.told reads w.blocks

    whole_by : (file : BlockFile) → IsTraced (trace_at s (Some file)) ending outside.sink.before.told (system read.before.told) → IsReported read n (last_to ending) (status_to ending) s.run.items status grown → Told (Some file)
    whole_by file w (inl r) =
        let p = turns_of t w.made in
        let at = stage_of p in
        let d = r.1 in
        let why = why_to ending in
        let shows : d.0 ≡ dumps_at at s.run.items = as_shown at s.run.items d.0 (d.1 p.place w.tracks.means) in
        let told = last_is s ending a b w.named in
        let text : grown ≡ only Report (run_report at (last_of s why) (dumps_at at s.run.items)) =
        d.2 ∙ (ap (only Report) (reported n read.before.told at (last_to ending) d.0 w.tracks.steps w.tracks.means)
        ∙ (ap (λ dumps. only Report (run_report at (last_to ending) dumps)) shows ∙ ap (λ (l : Last). only Report (run_report at l (dumps_at at s.run.items))) told)) in
        record {
          meant = status;
          grown = run_output at (lines_of s at.steps) (last_of s why) (dumps_at at s.run.items);
          so = inl (record { stop = stop_when (up_to_stop s) m (starts_stop s m f) file w.made why w.goes (w.stopped ∙ by_itself ending a b); blocks = blocks_by file w; answer = r.0 ∙ status_is ending a b; wrote = refl });
          ends = behind outside (course_of (up_to_stop s)) m n (ready m s.run.frames s.run.start f.is_fresh) mid result at (lines_of s at.steps) (last_of s why) (dumps_at at s.run.items) status grown (wrote_lines w.made n.steps p.steps w.sent w.output w.tracks.steps w.wrote) quiet text ends;
        }
    whole_by file w (inr r) =
        let p = turns_of t w.made in
        let at = stage_of p in
        let why = why_to ending in
        let text : grown ≡ only Report (run_report at lasts.PageFault []) = r.2 ∙ ap (only Report) (reported n read.before.told at lasts.PageFault [] w.tracks.steps w.tracks.means) in
        record {
          meant = status;
          grown = run_output at (lines_of s at.steps) lasts.PageFault [];
          so = inr (inl (up r.0, inl (record { stop = stop_when (up_to_stop s) m (starts_stop s m f) file w.made why w.goes (w.stopped ∙ by_itself ending a b); blocks = blocks_by file w; answer = r.1; wrote = refl })));
          ends = behind outside (course_of (up_to_stop s)) m n (ready m s.run.frames s.run.start f.is_fresh) mid result at (lines_of s at.steps) lasts.PageFault [] status grown (wrote_lines w.made n.steps p.steps w.sent w.output w.tracks.steps w.wrote) quiet text ends;
        }

    stopped_by : (told : Option BlockFile) → Did s m told ending outside.sink.before.told (system read.before.told) → IsReported read n (last_to ending) (status_to ending) s.run.items status grown → Told told
    stopped_by None did r = record { meant = status; grown = append out.more grown; so = answer_is r; ends = ends_after outside.sink.before mid outside.sink.after status out.more grown result out.grew quiet ends }
    stopped_by (Some file) did r = whole_by file (as_traced (trace_at s (Some file)) ending outside.sink.before.told (system read.before.told) a b (from_start s m f file ending outside.sink.before.told (system read.before.told) did)) r

  pub traced_whole : (read : Change BlockFile) → (HasFailed read → HasFailed outside.pages) → OnlyRead read.before.told outside.pages.after.told → (ending : TraceEnd) → (ending ≡ end.PageFault → ⊥) → (ending ≡ end.WriteFault → ⊥) → Did s m outside.pages.before.told ending outside.sink.before.told (system read.before.told) → OnlyWrote true outside.sink.before.told mid.told → mid.faults.count ≡ outside.sink.before.faults.count
      → (status : Status) (grown : Channels) → IsReported read n (last_to ending) (status_to ending) s.run.items status grown → EndsFrom mid outside.sink.after status grown result → Told outside.pages.before.told
  traced_whole read up reads ending a b did out quiet status grown r ends = stopped_by read up reads ending a b status grown out quiet ends outside.pages.before.told did r

  -- a call of the page file failed
  cut_lines : (told : Option BlockFile) (count lines : ℕ) (file : Option BlockFile) (steps : ℕ) → n.steps ≡ steps → (lines ≡ n.steps) ⊎ IsUnseen (trace_at s told) count lines n file → (lines ≡ steps) ⊎ ((1 ≤ length s.watches) × (lines + 1 ≡ steps))
  cut_lines told count lines file steps is (inl e) = inl (e ∙ is)
  cut_lines told count lines file steps is (inr u) = inr (u.watched, u.but_one ∙ is)

  cut_by : (told : Option BlockFile) → HasFailed outside.pages → Did s m told end.PageFault outside.sink.before.told (system outside.pages.after.told) → OnlyWrote true outside.sink.before.told mid.told → mid.faults.count ≡ outside.sink.before.faults.count → EndsFrom mid outside.sink.after PageFault (only Report (machine_report n lasts.PageFault [])) result → Told told
  cut_by None rose did out quiet ends =
      let text = only Report (machine_report n lasts.PageFault []) in
      record { meant = PageFault; grown = append out.more text; so = rose; ends = ends_after outside.sink.before mid outside.sink.after PageFault out.more text result out.grew quiet ends }
  cut_by (Some file) rose did out quiet ends =
      let w : IsCutTrace (trace_at s (Some file)) outside.sink.before.told (system outside.pages.after.told) = from_start s m f file end.PageFault outside.sink.before.told (system outside.pages.after.told) did in
      let p = turns_of t w.made in
      let at = stage_of p in
      let g : GoesOnFor (up_to_stop s).limits (run_of (up_to_stop s)) w.made = record { going = w.goes.going } in
      let text = ap (only Report) (reported n outside.pages.after.told at lasts.PageFault [] w.steps w.means) in
      record {
        meant = PageFault;
        grown = run_output at (lines_of s w.lines) lasts.PageFault [];
        so = inr (inl (rose, inr (record { at = at; count = w.made; comes = comes_to s m f w.made g; asks = asking_of n; fails = w.fails; lines = w.lines; all_but = cut_lines (Some file) w.made w.lines outside.pages.after.told p.steps w.steps w.all_but; answer = refl; wrote = refl })));
        ends = behind outside (course_of (up_to_stop s)) m n (ready m s.run.frames s.run.start f.is_fresh) mid result at (lines_of s w.lines) lasts.PageFault [] PageFault (only Report (machine_report n lasts.PageFault [])) (wrote_lines w.made w.lines w.lines w.sent w.output refl w.wrote) quiet text ends;
      }

  pub traced_cut : HasFailed outside.pages → Did s m outside.pages.before.told end.PageFault outside.sink.before.told (system outside.pages.after.told) → OnlyWrote true outside.sink.before.told mid.told → mid.faults.count ≡ outside.sink.before.faults.count
      → EndsFrom mid outside.sink.after PageFault (only Report (machine_report n lasts.PageFault [])) result → Told outside.pages.before.told
  traced_cut rose did out quiet ends = cut_by outside.pages.before.told rose did out quiet ends

-- a write failed
module _ (outside : Outside) (s : Traced) (m n : Engine) (f : Starts s.run m) where
  abbrev lost_system : System
  lost_system = record { machine = n; file = outside.pages.after.told; channels = outside.sink.after.told }

  lost_by : (told : Option BlockFile) → Did s m told end.WriteFault outside.sink.before.told lost_system → OnlyWrote true outside.sink.before.told outside.sink.after.told → HasFailed outside.sink → EndsSo outside.sink (WentFrom told outside s) WriteFault
  lost_by None did out rose = record {
    meant = Done;
    grown = out.more;
    so = tt;
    ends = inr (record { answer = refl; prefix = record { prefix = out.more; rest = nothing; splits = append-nothing out.more; grew = out.grew }; cause = rose });
  }
  lost_by (Some file) did out rose =
      let w : IsLostTrace (trace_at s (Some file)) outside.sink.before.told outside.sink.after.told = from_start s m f file end.WriteFault outside.sink.before.told lost_system did in
      let p = turns_of (trace_at s None) w.made in
      let at = stage_of p in
      let g : GoesOnFor (up_to_stop s).limits (run_of (up_to_stop s)) w.made = record { going = w.goes.going } in
      let prefix = subst (λ (o : List ℕ). GrewByPrefix outside.sink.before.told outside.sink.after.told (both o (lines_of s w.lines))) (sent_all s.run.start.output (machine_at p.place).output w.sent f.is_fresh.silent w.output) w.wrote in
      record {
        meant = Done;
        grown = both (machine_at p.place).output (lines_of s w.lines);
        so = inr (inr (rose, record { at = at; count = w.made; comes = comes_to s m f w.made g; lines = w.lines; few = w.few; answer = refl; wrote = refl }));
        ends = inr (record { answer = refl; prefix = prefix; cause = rose });
      }

  pub traced_lost : Did s m outside.pages.before.told end.WriteFault outside.sink.before.told lost_system → OnlyWrote true outside.sink.before.told outside.sink.after.told → HasFailed outside.sink → EndsSo outside.sink (Went outside s) WriteFault
  traced_lost did out rose = lost_by outside.pages.before.told did out rose

-- what a traced run of programs came to
module _ (outside : Outside) (program : Loaded) (input schedule : Text) (tracing : Tracing) (options : Options) (result : Status) where
  pub trace_refused : Ends outside.sink NoMemory (refusal_growth NoMemory) result → outside.pages.same → Traces outside program input schedule tracing options result
  trace_refused ends k = record { meant = NoMemory; grown = refusal_growth NoMemory; so = inl (refl, refl, k); ends = ends }

  pub trace_misplanned : (status : Status) → IsFaulty (start_areas program.system program.user) schedule status ⊎ (status ≡ NoMemory) → outside.pages.same → Ends outside.sink status (refusal_growth status) result → Traces outside program input schedule tracing options result
  trace_misplanned status (inl r) k ends = record { meant = status; grown = refusal_growth status; so = inr (inl (record { fault = r; wrote = refl; keeps = k })); ends = ends }
  trace_misplanned status (inr e) k ends = record { meant = status; grown = refusal_growth status; so = inl (e, ap refusal_growth e, k); ends = ends }

  pub trace_went : (rules : List Rule) → Denotes (start_areas program.system program.user) schedule rules → EndsSo outside.sink (Went outside (traced_for program input rules tracing options)) result → Traces outside program input schedule tracing options result
  trace_went rules planned h = record { meant = h.meant; grown = h.grown; so = inr (inr (record { rules = rules; planned = planned; went = h.so })); ends = h.ends }

-- what failed and what didn't

fine_page : (result : TraceEnd) → (result ≡ end.PageFault → ⊥) → by_page result ≡ false
fine_page (end.Ended e) a = refl
fine_page end.Steps a = refl
fine_page end.Break a = refl
fine_page end.Turns a = refl
fine_page end.PageFault a = absurd (a refl)
fine_page end.WriteFault a = refl

pub page_quiet : (result : TraceEnd) (a b x y : Failures) → (result ≡ end.PageFault → ⊥) → (result ≡ end.WriteFault → ⊥) → CountsTrace result a b x y → b.count ≡ a.count
page_quiet result a b x y p w k = subst (λ (failed : Bool). OnFalse failed (b.count ≡ a.count)) (k.told (fine_write result w) ∙ fine_page result p) k.file.quiet

pub page_rose : (a b x y : Failures) → CountsTrace end.PageFault a b x y → Rose a b
page_rose a b x y k = subst (λ (failed : Bool). OnTrue failed (Rose a b)) (k.told refl) k.file.cause

pub sink_quiet : (result : TraceEnd) (a b x y : Failures) → (result ≡ end.WriteFault → ⊥) → CountsTrace result a b x y → y.count ≡ x.count
sink_quiet result a b x y w k = subst (λ (failed : Bool). OnFalse failed (y.count ≡ x.count)) (fine_write result w) k.sink.quiet

-- where the count has changed, one call failed
pub changed_rose : (failed : Bool) (a b : Failures) → CountsFailure failed a b → (b.count ≡ a.count → ⊥) → Rose a b
changed_rose true a b k n = k.cause
changed_rose false a b k n = absurd (n k.quiet)
