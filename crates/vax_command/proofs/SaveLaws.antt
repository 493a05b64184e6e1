-- What saving a run where a limit stops it comes to, from what the machine did.
use Rattle.std.proofs.Common.{◌≡◌, ◌⊎◌, ℕ, Bool, false, List, [], Option, Some, None, refl, sym, ap, subst, ◌∙◌, inl, inr}
use Rattle.vax_outside.specs.Blocks.{BlockFile}
use Rattle.vax_outside.specs.Channels.{Channels, Grew, GrewByPrefix, append, nothing, only, kept, removed}
use Rattle.vax_outside.specs.declared.traits.Chan.TheVariants.{Report, State}
use Rattle.vax_outside.proofs.Growth.{append-nothing, grew_nothing, prefix_in, channels_assoc}
use Rattle.vax_flat.specs.Parts.{Place, machine_at}
use Rattle.vax_flat.specs.declared.Ending.{Ending}
use Rattle.vax_flat.specs.declared.Ending.TheVariants as ending
use Rattle.vax_pager.specs.Poking.{OnlyRead, without_reads}
use Rattle.vax_report.specs.declared.Last.{Last}
use Rattle.vax_report.specs.declared.Last.TheVariants as lasts
use Rattle.vax_machine.specs.Blocks.{Moved}
use Rattle.vax_machine.specs.Machine.{Keeping, Means}
use Rattle.vax_machine.specs.Meaning.{units_of}
use Rattle.vax_report.specs.Report.{report}
use Rattle.vax_save.specs.Saving.{IsKept}
use Rattle.vax_save.proofs.Parting.{part_of}
use Rattle.vax_machine.specs.Paged.{Eviction, Paged, Why, ByEnding, BySteps, ByTurns}
use Rattle.vax_machine.specs.Run.{FewTurns, IsWhole, why_of}
use Rattle.vax_machine.specs.Writing.{OnlyWrote, both, lines_of}
use Rattle.vax_machine.proofs.Unwritten.{writes_suffice}
use Rattle.vax_machine.specs.declared.engine.Engine.{Engine}
use Rattle.vax_machine.specs.declared.event.RunEnd.{RunEnd}
use Rattle.vax_machine.specs.declared.event.RunEnd.TheVariants as run_end
use Rattle.vax_machine_laws.specs.FlatRun.{Stage, stage_of}
use Rattle.vax_save.specs.Saved.{saved}
use Rattle.vax_word.specs.declared.Core.{Core}
use Rattle.vax_cli.specs.Words.{Options, Text}
use Rattle.vax_cli.specs.declared.command.Strictness.{Strictness}
use Rattle.vax_cli.specs.declared.command.Strictness.TheVariants as strictly
use Rattle.vax_sched.specs.Faults.{Denotes}
use Rattle.vax_sched.specs.declared.rule.Rule.{Rule}
use Rattle.vax_image.specs.Start.{start_areas}
use Rattle.vax_command.specs.Answer.{status_of}
use Rattle.vax_command.specs.Around.{Change, HasFailed, Outside, Seen}
use Rattle.vax_command.specs.Course.{Course, Halt, IsReady, course_of, lines_in, turned}
use Rattle.vax_command.specs.Ends.{Ends, EndsFrom, EndsSo}
use Rattle.vax_command.specs.Fresh.{machine_report}
use Rattle.vax_command.specs.Loaded.{Loaded}
use Rattle.vax_command.specs.Running.{IsFaulty}
use Rattle.vax_command.specs.Saving.{AnswersSave, HasRunSaved, HasSavedRun, IsLimited, SaveWent, SaveWentFrom, SavesAt, saved_setup, saving_output, state_by, state_at}
use Rattle.vax_command.specs.Setup.{Setup, run_of}
use Rattle.vax_command.specs.Status.{refusal_growth}
use Rattle.vax_command.specs.Went.{IsRunAnswer, last_of, run_report}
use Rattle.vax_command.specs.declared.status.Status.{Status}
use Rattle.vax_command.specs.declared.status.Status.TheVariants.{Done, NoMemory, PageFault, Turns, WriteFault}
use Rattle.vax_command.proofs.RunLaws.{Did, Starts, as_cut, as_whole, broken_by, ends_after, from_begin, lost_before, ready, reported, stop_of, wrote_out}

-- lines that aren't listed
no_lines : (listed : Bool) (evictions : List Eviction) → listed ≡ false → lines_of listed evictions ≡ []
unfolding lines_of
no_lines listed evictions e = rw e refl

-- where the exit status tells nothing of an end
done : (core : Core) (e : Ending) → status_of strictly.Off core (ByEnding e) ≡ Done
done core ending.Halt = refl
done core (ending.Vector offset) = refl
done core ending.Stack = refl
done core ending.Scb = refl
done core ending.Change = refl

-- how a limit is answered
abbrev pub limit_answer : Why → Status
limit_answer (ByEnding e) = Done
limit_answer BySteps = Done
limit_answer ByTurns = Turns

off : (why : Why) (core : Core) → status_of strictly.Off core why ≡ limit_answer why
off (ByEnding e) core = done core e
off BySteps core = refl
off ByTurns core = refl

limited_state : (why : Why) (s : Stage) → IsLimited why → state_at s.place s.steps ≡ state_by why s
limited_state (ByEnding e) s h = absurd h
limited_state BySteps s h = refl
limited_state ByTurns s h = refl

answers : (failed : Type 0) (why : Why) → IsRunAnswer strictly.Off failed (limit_answer why)
answers failed (ByEnding e) = tt
answers failed BySteps = tt
answers failed ByTurns = tt

-- the report on a machine whose state was saved is as before
pub same_report : (m n : Engine) (before after : Option BlockFile) → IsKept m before n after → (why : Last) → machine_report n why [] ≡ machine_report m why []
same_report m n before after k why =
    let cpu = k.cpu in
    let steps = ap (λ (z : Keeping). z.steps) k.keeps in
    λ i. report ((cpu i).core) why (steps i) (units_of ((cpu i).latch)) ((cpu i).term.place) []

-- where the state of a machine was saved, and the report written

module _ (sink : Change Channels) (pages : Change BlockFile) (m n : Engine) (why : Last) (meant result : Status) (same : (last : Last) → machine_report n last [] ≡ machine_report m last []) (mid : Seen Channels) (quiet : mid.faults.count ≡ sink.before.faults.count) where
  pub saved_whole : (place : Place) → Grew sink.before.told mid.told (state_at place m.steps) → EndsFrom mid sink.after meant (only Report (machine_report n why [])) result → EndsSo sink (SavesAt pages m place why meant) result
  saved_whole place grew ends = record {
    meant = meant;
    grown = append (state_at place m.steps) (only Report (machine_report m why []));
    so = inl (refl, refl);
    ends = subst (λ (z : Text). Ends sink meant (append (state_at place m.steps) (only Report z)) result) (same why) (ends_after sink.before mid sink.after meant (state_at place m.steps) (only Report (machine_report n why [])) result grew quiet ends);
  }

  pub saved_part : (place : Place) → HasFailed pages → GrewByPrefix sink.before.told mid.told (only State (saved place m.steps)) → EndsFrom mid sink.after PageFault (only Report (machine_report n lasts.PageFault [])) result → EndsSo sink (SavesAt pages m place why meant) result
  saved_part place rose prefix ends =
      let h = part_of sink.before.told mid.told (saved place m.steps) prefix in
      record {
        meant = PageFault;
        grown = append (only State h.part) (only Report (machine_report m lasts.PageFault []));
        so = inr (rose, refl, (h.part, h.rest, h.splits, refl));
        ends = subst (λ (z : Text). Ends sink PageFault (append (only State h.part) (only Report z)) result) (same lasts.PageFault) (ends_after sink.before mid sink.after PageFault (only State h.part) (only Report (machine_report n lasts.PageFault [])) result h.grew quiet ends);
      }

  -- whatever the page file told
  pub saved_answer : (more : Channels) → Grew sink.before.told mid.told more → (last : Last) (status : Status) → (status ≡ meant) ⊎ (HasFailed pages × (status ≡ PageFault)) → EndsFrom mid sink.after status (only Report (machine_report n last [])) result → EndsSo sink (AnswersSave pages meant) result
  saved_answer more grew last status so ends = record {
    meant = status;
    grown = append more (only Report (machine_report n last []));
    so = so;
    ends = ends_after sink.before mid sink.after status more (only Report (machine_report n last [])) result grew quiet ends;
  }

-- a write failed
pub saved_lost : (sink : Change Channels) (pages : Change BlockFile) (m : Engine) (why : Last) (meant : Status) (place : Place) → HasFailed sink → GrewByPrefix sink.before.told sink.after.told (only State (saved place m.steps)) → EndsSo sink (SavesAt pages m place why meant) WriteFault
saved_lost sink pages m why meant place rose part =
    let bytes = only State (saved place m.steps) in
    let state = state_at place m.steps in
    let text = only Report (machine_report m why []) in
    record {
      meant = meant;
      grown = append state text;
      so = inl (refl, refl);
      ends = inr (record { answer = refl; prefix = prefix_in sink.before.told sink.before.told sink.after.told nothing bytes (append kept text) (append state text) (sym (channels_assoc bytes kept text)) (grew_nothing sink.before.told) part; cause = rose });
    }

pub answer_lost : (sink : Change Channels) (pages : Change BlockFile) (meant : Status) (whole : List ℕ) → HasFailed sink → GrewByPrefix sink.before.told sink.after.told (only State whole) → EndsSo sink (AnswersSave pages meant) WriteFault
answer_lost sink pages meant whole rose part = record {
  meant = meant;
  grown = only State whole;
  so = inl refl;
  ends = inr (record { answer = refl; prefix = part; cause = rose });
}

-- an older state was removed, and the report was written, or a call for one of these failed

pub removed_whole : (sink : Change Channels) (mid : Seen Channels) (meant result : Status) (text : Channels) → Grew sink.before.told mid.told removed → mid.faults.count ≡ sink.before.faults.count → EndsFrom mid sink.after meant text result → Ends sink meant (append removed text) result
removed_whole sink mid meant result text grew quiet ends = ends_after sink.before mid sink.after meant removed text result grew quiet ends

pub removed_not : (sink : Change Channels) (meant : Status) (text : Channels) → HasFailed sink → sink.after.told ≡ sink.before.told → Ends sink meant (append removed text) WriteFault
removed_not sink meant text rose same =
    let whole = append removed text in
    inr (record { answer = refl; prefix = record { prefix = nothing; rest = whole; splits = refl; grew = same ∙ grew_nothing sink.before.told }; cause = rose })

-- What is known of a run of a machine from a start: what it sees of the outside, the machine that it leaves, the sink behind it, and the answer.
module _ (outside : Outside) (setup : Setup) (m n : Engine) (f : Starts setup m) (unlisted : setup.limits.listed ≡ false) (strict : setup.strict ≡ strictly.Off) (mid : Seen Channels) (result : Status) where
  abbrev c : Course
  c = course_of setup

  begins : IsReady m c.begins
  begins = ready m setup.frames setup.start f.is_fresh

  -- what follows the output of the run
  behind : (p : Paged) (state : Channels) (why : Last) (status : Status) → Grew outside.sink.before.told mid.told (both (machine_at p.place).output (lines_in c p)) → mid.faults.count ≡ outside.sink.before.faults.count → EndsFrom mid outside.sink.after status (append state (only Report (run_report (stage_of p) why []))) result
      → Ends outside.sink status (saving_output (stage_of p) state why) result
  behind p state why status wrote quiet ends =
      ends_after outside.sink.before mid outside.sink.after status (both (machine_at p.place).output []) (append state (only Report (run_report (stage_of p) why []))) result
      (subst (λ (z : Text). Grew outside.sink.before.told mid.told (both (machine_at p.place).output z)) (no_lines c.limits.listed p.evictions unlisted) wrote) quiet ends

  run_saved : (count : ℕ) (file : BlockFile) (middle last : Option BlockFile) → FewTurns c.begins (turned c count) → Moved c.areas c.begins (turned c count) (Some file) middle → OnlyRead middle last → HasRunSaved setup count file last
  run_saved count file middle last few moved reads =
      let g = moved file refl in
      record { few = few; between = g.0; moved = g.2; needed = λ turn low absent page small clean. writes_suffice (run_of setup) turn absent page small clean; told = subst (λ (z : Option BlockFile). OnlyRead z last) g.1 reads }

  -- it stopped by itself
  module _ (read : Change BlockFile) (up : HasFailed read → HasFailed outside.pages) (reads : OnlyRead read.before.told outside.pages.after.told) (end : RunEnd) (why : Why) (is : why_of end ≡ Some why) (out : OnlyWrote setup.limits.listed outside.sink.before.told mid.told) (quiet : mid.faults.count ≡ outside.sink.before.faults.count) where
    abbrev halts : (file : BlockFile) → IsWhole c.limits c.areas c.rules c.begins end (Some file) n read.before.told outside.sink.before.told mid.told → Halt c
    halts file w = record { count = w.count; why = why; goes = w.goes; stopped = w.stopped ∙ is }

    from_run : (file : BlockFile) → Did c m (Some file) end n read.before.told outside.sink.before.told mid.told → IsWhole c.limits c.areas c.rules c.begins end (Some file) n read.before.told outside.sink.before.told mid.told
    from_run file did = as_whole c.limits c.areas c.rules c.begins (Some file) end why n read.before.told outside.sink.before.told mid.told is (from_begin c m begins file end n read.before.told outside.sink.before.told mid.told did)

    -- the answer is so by why it stopped
    answer : (core : Core) → limit_answer why ≡ status_of setup.strict core why
    answer core = sym (off why core) ∙ ap (λ (z : Strictness). status_of z core why) (sym strict)

    answer_one : (status : Status) → status ≡ limit_answer why → IsRunAnswer setup.strict (HasFailed outside.pages) status
    answer_one status e = rw (strict, e) (answers (HasFailed outside.pages) why)

    -- an ending, and the report behind it
    pub ended_by : (told : Option BlockFile) → ((s : Stage) → state_by why s ≡ removed) → Did c m told end n read.before.told outside.sink.before.told mid.told → EndsFrom mid outside.sink.after (limit_answer why) (append removed (only Report (machine_report n (last_of why) []))) result → EndsSo outside.sink (SaveWentFrom told outside setup) result
    ended_by None none did ends =
        let text = append removed (only Report (machine_report n (last_of why) [])) in
        record { meant = limit_answer why; grown = append out.more text; so = answer_one (limit_answer why) refl; ends = ends_after outside.sink.before mid outside.sink.after (limit_answer why) out.more text result out.grew quiet ends }
    ended_by (Some file) none did ends =
        let w = from_run file did in
        let h = halts file w in
        let p = turned c w.count in
        let s = stage_of p in
        let text = ap (only Report) (reported n read.before.told s (last_of why) [] w.tracks.steps w.tracks.means) in
        record {
          meant = limit_answer why;
          grown = saving_output s (state_by why s) (last_of why);
          so = inl (record {
            stop = stop_of setup m f file h;
            answer = answer (machine_at s.place).core;
            wrote = refl;
            blocks = inl (run_saved w.count file read.before.told outside.pages.after.told w.few w.moved reads);
          });
          ends = behind p (state_by why s) (last_of why) (limit_answer why) (wrote_out outside c m n begins mid result (Some file) p w.wrote) quiet
              (subst (λ (z : Channels). EndsFrom mid outside.sink.after (limit_answer why) (append z (only Report (run_report s (last_of why) []))) result) (sym (none s)) (subst (λ (z : Channels). EndsFrom mid outside.sink.after (limit_answer why) (append removed z) result) text ends));
        }

    -- a limit, and the state and the report behind it
    saved_by : (file : BlockFile) → IsLimited why → (w : IsWhole c.limits c.areas c.rules c.begins end (Some file) n read.before.told outside.sink.before.told mid.told) (status : Status) (grown : Channels)
        → SavesAt read n (turned c w.count).place (last_of why) (limit_answer why) status grown → EndsFrom mid outside.sink.after status grown result → EndsSo outside.sink (SaveWentFrom (Some file) outside setup) result
    saved_by file limited w status grown (inl so) ends =
        let h = halts file w in
        let p = turned c w.count in
        let s = stage_of p in
        let counted = ap (λ (k : ℕ). state_at p.place k) w.tracks.steps ∙ limited_state why s limited in
        let text = ap (only Report) (reported n read.before.told s (last_of why) [] w.tracks.steps w.tracks.means) in
        let all : grown ≡ append (state_by why s) (only Report (run_report s (last_of why) [])) = so.1 ∙ (λ i. append (counted i) (text i)) in
        record {
          meant = status;
          grown = saving_output s (state_by why s) (last_of why);
          so = inl (record {
            stop = stop_of setup m f file h;
            answer = so.0 ∙ answer (machine_at s.place).core;
            wrote = refl;
            blocks = inl (run_saved w.count file read.before.told outside.pages.after.told w.few w.moved reads);
          });
          ends = behind p (state_by why s) (last_of why) status (wrote_out outside c m n begins mid result (Some file) p w.wrote) quiet (subst (λ (z : Channels). EndsFrom mid outside.sink.after status z result) all ends);
        }
    saved_by file limited w status grown (inr (rose, is_fault, (part, rest, splits, wrote))) ends =
        let h = halts file w in
        let p = turned c w.count in
        let s = stage_of p in
        let counted = ap (λ (k : ℕ). saved p.place k) w.tracks.steps in
        let text = ap (only Report) (reported n read.before.told s lasts.PageFault [] w.tracks.steps w.tracks.means) in
        let all : grown ≡ append (only State part) (only Report (run_report s lasts.PageFault [])) = wrote ∙ ap (append (only State part)) text in
        record {
          meant = status;
          grown = saving_output s (only State part) lasts.PageFault;
          so = inr (
            up rose,
            inl (record {
              stop = stop_of setup m f file h;
              limited = limited;
              answer = is_fault;
              part = part;
              rest = rest;
              splits = splits ∙ counted;
              wrote = refl;
              blocks = run_saved w.count file read.before.told outside.pages.after.told w.few w.moved reads;
            }),
          );
          ends = behind p (only State part) lasts.PageFault status (wrote_out outside c m n begins mid result (Some file) p w.wrote) quiet (subst (λ (z : Channels). EndsFrom mid outside.sink.after status z result) all ends);
        }

    unseen : (status : Status) → (status ≡ limit_answer why) ⊎ (HasFailed read × (status ≡ PageFault)) → IsRunAnswer setup.strict (HasFailed outside.pages) status
    unseen status (inl e) = answer_one status e
    unseen status (inr e) = rw e.1 (up e.0)

    pub limited_by : (told : Option BlockFile) → IsLimited why → Did c m told end n read.before.told outside.sink.before.told mid.told
        → ((place : Place) → Means n read.before.told place → (status : Status) × (grown : Channels) × SavesAt read n place (last_of why) (limit_answer why) status grown × EndsFrom mid outside.sink.after status grown result)
        → (status : Status) (grown : Channels) → AnswersSave read (limit_answer why) status grown → EndsFrom mid outside.sink.after status grown result → EndsSo outside.sink (SaveWentFrom told outside setup) result
    limited_by None limited did at status grown so ends = record { meant = status; grown = append out.more grown; so = unseen status so; ends = ends_after outside.sink.before mid outside.sink.after status out.more grown result out.grew quiet ends }
    limited_by (Some file) limited did at status grown so ends =
        let w = from_run file did in
        let h = at (turned c w.count).place w.tracks.means in
        saved_by file limited w h.0 h.1 h.2 h.3

  -- a call of the page file failed in the run
  cut_from : (told : Option BlockFile) → HasFailed outside.pages → Did c m told run_end.PageFault n outside.pages.after.told outside.sink.before.told mid.told → OnlyWrote setup.limits.listed outside.sink.before.told mid.told → mid.faults.count ≡ outside.sink.before.faults.count → EndsFrom mid outside.sink.after PageFault (only Report (machine_report n lasts.PageFault [])) result → EndsSo outside.sink (SaveWentFrom told outside setup) result
  cut_from None rose did out quiet ends =
      let text = only Report (machine_report n lasts.PageFault []) in
      record { meant = PageFault; grown = append out.more text; so = rose; ends = ends_after outside.sink.before mid outside.sink.after PageFault out.more text result out.grew quiet ends }
  cut_from (Some file) rose did out quiet ends =
      let b = broken_by outside c m n begins mid result file did quiet ends in
      record { meant = b.meant; grown = b.grown; so = inr (rose, inr (as_cut setup m f outside b.meant b.grown file b.so)); ends = b.ends }

  pub run_ended : (read : Change BlockFile) → outside.pages.after.told ≡ read.before.told → (e : Ending) → Did c m outside.pages.before.told (run_end.Ended e) n read.before.told outside.sink.before.told mid.told → OnlyWrote setup.limits.listed outside.sink.before.told mid.told → mid.faults.count ≡ outside.sink.before.faults.count
      → (HasFailed read → HasFailed outside.pages) → EndsFrom mid outside.sink.after Done (append removed (only Report (machine_report n (lasts.Ending e) []))) result → EndsSo outside.sink (SaveWent outside setup) result
  run_ended read same e did out quiet up ends = ended_by read up (ap without_reads same) (run_end.Ended e) (ByEnding e) refl out quiet outside.pages.before.told (λ s. refl) did ends

  pub run_limited : (read : Change BlockFile) → (HasFailed read → HasFailed outside.pages) → OnlyRead read.before.told outside.pages.after.told → (end : RunEnd) (why : Why) → why_of end ≡ Some why → IsLimited why → Did c m outside.pages.before.told end n read.before.told outside.sink.before.told mid.told → OnlyWrote setup.limits.listed outside.sink.before.told mid.told → mid.faults.count ≡ outside.sink.before.faults.count
      → ((place : Place) → Means n read.before.told place → (status : Status) × (grown : Channels) × SavesAt read n place (last_of why) (limit_answer why) status grown × EndsFrom mid outside.sink.after status grown result)
      → (status : Status) (grown : Channels) → AnswersSave read (limit_answer why) status grown → EndsFrom mid outside.sink.after status grown result → EndsSo outside.sink (SaveWent outside setup) result
  run_limited read up reads end why is limited did out quiet at status grown so ends = limited_by read up reads end why is out quiet outside.pages.before.told limited did at status grown so ends

  pub run_cut : HasFailed outside.pages → Did c m outside.pages.before.told run_end.PageFault n outside.pages.after.told outside.sink.before.told mid.told → OnlyWrote setup.limits.listed outside.sink.before.told mid.told → mid.faults.count ≡ outside.sink.before.faults.count → EndsFrom mid outside.sink.after PageFault (only Report (machine_report n lasts.PageFault [])) result → EndsSo outside.sink (SaveWent outside setup) result
  run_cut rose did out quiet ends = cut_from outside.pages.before.told rose did out quiet ends

module _ (outside : Outside) (setup : Setup) (m n : Engine) (f : Starts setup m) (unlisted : setup.limits.listed ≡ false) (strict : setup.strict ≡ strictly.Off) where
  lost_from : (told : Option BlockFile) → Did (course_of setup) m told run_end.WriteFault n outside.pages.after.told outside.sink.before.told outside.sink.after.told → OnlyWrote setup.limits.listed outside.sink.before.told outside.sink.after.told → HasFailed outside.sink → EndsSo outside.sink (SaveWentFrom told outside setup) WriteFault
  lost_from None did out rose = record {
    meant = Done;
    grown = out.more;
    so = tt;
    ends = inr (record { answer = refl; prefix = record { prefix = out.more; rest = nothing; splits = append-nothing out.more; grew = out.grew }; cause = rose });
  }
  lost_from (Some file) did out rose =
      let c = course_of setup in
      let begins = ready m setup.frames setup.start f.is_fresh in
      let w = from_begin c m begins file run_end.WriteFault n outside.pages.after.told outside.sink.before.told outside.sink.after.told did in
      let h : Halt c = record { count = w.count; why = w.why; goes = w.goes; stopped = w.stopped } in
      let p = turned c w.count in
      let s = stage_of p in
      let text = append (state_by w.why s) (only Report (run_report s (last_of w.why) [])) in
      let part = lost_before outside c m n begins (Some file) p text w.wrote in
      record {
        meant = status_of setup.strict (machine_at s.place).core w.why;
        grown = saving_output s (state_by w.why s) (last_of w.why);
        so = inl (record { stop = stop_of setup m f file h; answer = refl; wrote = refl; blocks = inr (rose, w.moved) });
        ends = inr (record { answer = refl; prefix = subst (λ (z : Text). GrewByPrefix outside.sink.before.told outside.sink.after.told (append (both (machine_at s.place).output z) text)) (no_lines c.limits.listed p.evictions unlisted) part; cause = rose });
      }

  pub run_lost : Did (course_of setup) m outside.pages.before.told run_end.WriteFault n outside.pages.after.told outside.sink.before.told outside.sink.after.told → OnlyWrote setup.limits.listed outside.sink.before.told outside.sink.after.told → HasFailed outside.sink → EndsSo outside.sink (SaveWent outside setup) WriteFault
  run_lost did out rose = lost_from outside.pages.before.told did out rose

-- what saving a program's run came to

module _ (outside : Outside) (program : Loaded) (input schedule : Text) (options : Options) (result : Status) where
  pub save_misplanned : (status : Status) → IsFaulty (start_areas program.system program.user) schedule status ⊎ (status ≡ NoMemory) → outside.pages.same → Ends outside.sink status (refusal_growth status) result → HasSavedRun outside program input schedule options result
  save_misplanned status (inl r) k ends = record { meant = status; grown = refusal_growth status; so = inr (inl (record { fault = r; wrote = refl; keeps = k })); ends = ends }
  save_misplanned status (inr e) k ends = record { meant = status; grown = refusal_growth status; so = inl (e, ap refusal_growth e, k); ends = ends }

  pub save_went : (rules : List Rule) → Denotes (start_areas program.system program.user) schedule rules → EndsSo outside.sink (SaveWent outside (saved_setup program input rules options)) result → HasSavedRun outside program input schedule options result
  save_went rules planned h = record { meant = h.meant; grown = h.grown; so = inr (inr (record { rules = rules; planned = planned; went = h.so })); ends = h.ends }
