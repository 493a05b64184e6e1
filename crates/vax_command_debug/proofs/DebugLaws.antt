-- What a session with a debugger comes to, from how it was held.
use Rattle.std.proofs.Common.{◌≡◌, ◌⊎◌, ◌++◌, ℕ, List, [], ◌∷◌, Option, Some, None, refl, sym, ap, subst, ◌∙◌, inl, inr}
use Rattle.std.proofs.lemmas.List.{append-nil}
use Rattle.vax_outside.specs.Blocks.{BlockFile}
use Rattle.vax_outside.specs.Channels.{Channels, Grew, GrewByPrefix, append, nothing, only, removed}
use Rattle.vax_outside.specs.declared.traits.Chan.TheVariants.{Report, State}
use Rattle.vax_outside.proofs.Growth.{append-nothing, grew_nothing}
use Rattle.vax_flat.specs.Parts.{Place, At, machine_at, units_done}
use Rattle.vax_flat.specs.Step.{Flat}
use Rattle.vax_flat.specs.declared.Ending.{Ending}
use Rattle.vax_image.specs.Start.{start_areas}
use Rattle.vax_sched.specs.Faults.{Denotes}
use Rattle.vax_sched.specs.declared.rule.Rule.{Rule}
use Rattle.vax_report.specs.Report.{report}
use Rattle.vax_report.specs.declared.Last.{Last}
use Rattle.vax_report.specs.declared.Last.TheVariants as last
use Rattle.vax_machine.specs.Console.{IsBetween}
use Rattle.vax_machine.specs.Machine.{Means}
use Rattle.vax_machine.specs.Paged.{Paged}
use Rattle.vax_machine.specs.declared.engine.Engine.{Engine}
use Rattle.vax_console.specs.Ends.{IsWithin, OnlyReplied, Scene, scene, writes}
use Rattle.vax_console.specs.Transcript.{Session, advanced, last_of}
use Rattle.vax_debug_session.specs.Sessions.{IsHere, IsLost, Origin}
use Rattle.vax_debug_session.specs.Failure.TheVariants as failure
use Rattle.vax_debug_session.specs.Acting.{IsToldInPart}
use Rattle.vax_debug_session.specs.Exchanges.{Exchange}
use Rattle.vax_debug_session.specs.Holding.{Holds, IsCutShort, Stage, Terms, act_of, after_line, held_after, prompt, replied, stage, transcript}
use Rattle.vax_debug_session.specs.Plan.{Plan}
use Rattle.vax_debug_session.specs.declared.SessionEnd.{SessionEnd}
use Rattle.vax_debug_session.specs.declared.SessionEnd.TheVariants as end
use Rattle.vax_cli.specs.Words.{Options, Text}
use Rattle.vax_command.specs.Around.{Change, HasFailed, Outside, Seen}
use Rattle.vax_command.specs.Ends.{Ends, EndsFrom, EndsSo}
use Rattle.vax_command.specs.Fresh.{IsFresh, machine_report}
use Rattle.vax_command.specs.Loaded.{Loaded}
use Rattle.vax_command.specs.Running.{IsFaulty}
use Rattle.vax_command.specs.Saving.{AnswersSave, SavesAt, bytes_at}
use Rattle.vax_command.specs.SessionWent.{broken_off, opening}
use Rattle.vax_command.specs.Status.{refusal_growth}
use Rattle.vax_command.specs.declared.status.Status.{Status}
use Rattle.vax_command.specs.declared.status.Status.TheVariants.{Done, LineFault, NoMemory, PageFault, Turns, WriteFault}
use Rattle.vax_command.proofs.RunLaws.{ends_after, reported_at}
use Rattle.vax_command_debug.specs.Course.{Causes, RunFrom, SavesBy, SavesHere, Spot, Went, answer_of, begun, saving_output, spot_at, state_unless, wrote_at}
use Rattle.vax_command_debug.specs.Debugging.{Debugged, Given, terms_of}
use Rattle.vax_image.specs.Start.{Start}

-- all that was sent, from a start that has sent nothing
pub sent_all : (start output sent : List ℕ) → start ≡ [] → output ≡ start ++ sent → sent ≡ output
sent_all start output sent none is = sym (is ∙ ap (λ o. o ++ sent) none)

-- a machine at its start makes the session that begins there
pub first_here : (m : Engine) (frames : ℕ) (start : Flat) (file : BlockFile) (sink : Option Channels) → IsFresh m frames start → IsBetween m → IsHere (record { flat = start; channels = sink }) (opening start) [] (scene m (Some file) sink)
first_here m frames start file sink f between = record {
  at = record {
    steps = ap (λ (p : Paged). p.steps) f.begins;
    means = f.means file;
    sent = [];
    output = sym (append-nil start.output);
    wrote = grew_nothing sink;
  };
  between = between;
}

-- how a run went from its start, whatever its page file told before, and how its call ends
abbrev pub WentSo : Option BlockFile → Outside → Change (List Text) → Flat → Terms → Plan → Status → Type 0
WentSo told outside lines start g breaks result = EndsSo outside.sink (RunFrom told outside lines start g breaks) result

-- where it was held
abbrev pub stage_at : Outside → Change (List Text) → Engine → Option BlockFile → Engine → Option Channels → Stage
stage_at outside lines m told n between =
    stage (scene m told outside.sink.before.told) (scene n outside.pages.after.told between) lines.before.told lines.after.told

-- What is known of a run on a machine that starts so: what it sees of the outside, the machine it leaves.
module _ (outside : Outside) (lines : Change (List Text)) (g : Terms) (breaks : Plan) (m n : Engine) (frames : ℕ) (start : Flat) (f : IsFresh m frames start) (between : IsBetween m) where
  abbrev origin : Origin
  origin = record { flat = start; channels = outside.sink.before.told }

  -- it begins there
  is_here : (file : BlockFile) → IsHere origin (opening start) [] (scene m (Some file) outside.sink.before.told)
  is_here file = first_here m frames start file outside.sink.before.told f between

  -- the sink behind it, and the answer
  module _ (mid : Seen Channels) (result : Status) (quiet : mid.faults.count ≡ outside.sink.before.faults.count) where
    abbrev after : Scene
    after = scene n outside.pages.after.told mid.told

    -- the report behind what was written
    told_behind : (place : Place) (steps : ℕ) (replies : List ℕ) (why : Last) (meant : Status) (sent : List ℕ) → n.steps ≡ steps → Means n outside.pages.after.told place → (machine_at place).output ≡ start.output ++ sent
        → Grew outside.sink.before.told mid.told (writes sent replies) → EndsFrom mid outside.sink.after meant (only Report (machine_report n why [])) result
        → Ends outside.sink meant (broken_off replies place steps why) result
    told_behind place steps replies why meant sent made means output wrote ends =
        let grew = subst (λ (out : List ℕ). Grew outside.sink.before.told mid.told (writes out replies)) (sent_all start.output (machine_at place).output sent f.silent output) wrote in
        let text = ap (only Report) (reported_at n outside.pages.after.told place steps why [] made means) in
        subst (λ (c : Channels). Ends outside.sink meant (append (writes (machine_at place).output replies) c) result) text
        (ends_after outside.sink.before mid outside.sink.after meant (writes (machine_at place).output replies) (only Report (machine_report n why [])) result grew quiet ends)

    -- the report on a session between two lines
    pub told_here : (s : Session) (replies : List ℕ) (meant : Status) → IsHere origin s replies after → EndsFrom mid outside.sink.after meant (only Report (machine_report n (last_of n.ended) [])) result
        → Ends outside.sink meant (broken_off replies (At s.machine) s.steps (last_of s.machine.ending)) result
    told_here s replies meant here ends =
        let why = ap last_of (ap (λ (flat : Flat). flat.ending) here.at.means.processor.machine) in
        subst (λ (w : Last). Ends outside.sink meant (broken_off replies (At s.machine) s.steps w) result) why
        (told_behind (At s.machine) s.steps replies (last_of n.ended) meant here.at.sent here.at.steps here.at.means here.at.output here.at.wrote ends)

    -- where the page file doesn't tell its contents: the report behind what was written to Out and Report
    untold : (e : SessionEnd) (meant : Status) (why : Last) → meant ≡ answer_of e → (h : Holds g breaks e (stage_at outside lines m None n mid.told)) → Causes e outside lines → OnlyReplied outside.sink.before.told mid.told
        → EndsFrom mid outside.sink.after meant (only Report (machine_report n why [])) result → WentSo None outside lines start g breaks result
    untold e meant why is h cause only_these ends =
        let text = only Report (machine_report n why []) in
        let wrote = writes only_these.sent only_these.replies in
        record {
          meant = meant;
          grown = append wrote text;
          so = inl (e, record { given = h.lines; took = h.took; asked = h.asked; cause = cause; answer = is; unrecorded = refl; unsaved = refl });
          ends = ends_after outside.sink.before mid outside.sink.after meant wrote text result only_these.grew quiet ends;
        }

    -- a line asked for the end
    pub quit : (told : Option BlockFile) → OnlyReplied outside.sink.before.told mid.told → Holds g breaks end.Quit (stage_at outside lines m told n mid.told)
        → EndsFrom mid outside.sink.after Done (only Report (machine_report n (last_of n.ended) [])) result → WentSo told outside lines start g breaks result
    quit None only_these h ends = untold end.Quit Done (last_of n.ended) refl h tt only_these ends
    quit (Some file) only_these h ends =
        let here : IsHere origin (held_after g (begun start breaks) h.lines).session (transcript g (begun start breaks) h.lines ++ []) after = h.goes origin (opening start) [] (is_here file) in
        let spot = spot_at (held_after g (begun start breaks) h.lines).session (transcript g (begun start breaks) h.lines ++ []) in
        record {
          meant = Done;
          grown = wrote_at end.Quit spot;
          so = inl (end.Quit, record { given = h.lines; took = h.took; asked = h.asked; spot = spot; stops = refl; cause = tt; answer = refl; wrote = refl });
          ends = told_here _ _ Done here ends;
        }

    -- a line asked for the state to be saved

    -- where the session was held, with what the page file told then
    abbrev stage_at_file : (told now : Option BlockFile) → Stage
    stage_at_file told now = stage (scene m told outside.sink.before.told) (scene n now mid.told) lines.before.told lines.after.told

    ends_between : (c : Change Channels) → c.before ≡ mid → c.after ≡ outside.sink.after → (status : Status) (grown : Channels) → Ends c status grown result → EndsFrom mid outside.sink.after status grown result
    ends_between c begins stops status grown e = subst (λ (z : Seen Channels). EndsFrom mid z status grown result) stops (subst (λ (z : Seen Channels). EndsFrom z c.after status grown result) begins e)

    -- what was written behind the session's output and its replies
    output_is : (s : Session) (replies : List ℕ) (now : Option BlockFile) (here : IsHere origin s replies (scene n now mid.told)) (a b : Channels) (why told_so : Last) (grown : Channels) → a ≡ b → why ≡ told_so
        → grown ≡ append a (only Report (machine_report n why [])) → append (writes here.at.sent replies) grown ≡ saving_output s replies b told_so
    output_is s replies now here a b why told_so grown state reason is =
        let sent : here.at.sent ≡ s.machine.output = sent_all start.output s.machine.output here.at.sent f.silent here.at.output in
        let text : machine_report n why [] ≡ report s.machine.core told_so s.steps (units_done (At s.machine)) s.machine.taken [] =
        reported_at n now (At s.machine) s.steps why [] here.at.steps here.at.means ∙ ap (λ (z : Last). report s.machine.core z s.steps (units_done (At s.machine)) s.machine.taken []) reason in
        ap (append (writes here.at.sent replies)) is ∙ (λ i. append (writes (sent i) replies) (append (state i) (only Report (text i))))

    -- what the call that saves comes to, seen from the session's start
    module _ (read : Change BlockFile) (up : HasFailed read → HasFailed outside.pages) (status : Status) (grown : Channels) (ends : EndsFrom mid outside.sink.after status grown result) where
      saves_here : (s : Session) (replies : List ℕ) (now : Option BlockFile) → IsHere origin s replies (scene n now mid.told) → SavesBy n.ended read n (At s.machine) status grown → EndsSo outside.sink (SavesHere outside s replies) result
      saves_here s replies now here (inl w) =
          let ended : n.ended ≡ s.machine.ending = ap (λ (flat : Flat). flat.ending) here.at.means.processor.machine in
          let steps = here.at.steps in
          record {
            meant = status;
            grown = append (writes here.at.sent replies) grown;
            so = inl (w.0, output_is s replies now here (state_unless n.ended (At s.machine) n.steps) (state_unless s.machine.ending (At s.machine) s.steps) (last_of n.ended) (last_of s.machine.ending) grown (λ i. state_unless (ended i) (At s.machine) (steps i)) (ap last_of ended) w.1);
            ends = ends_after outside.sink.before mid outside.sink.after status (writes here.at.sent replies) grown result here.at.wrote quiet ends;
          }
      saves_here s replies now here (inr w) =
          let ended : n.ended ≡ s.machine.ending = ap (λ (flat : Flat). flat.ending) here.at.means.processor.machine in
          let steps = here.at.steps in
          let counted : bytes_at (At s.machine) n.steps ≡ bytes_at (At s.machine) s.steps = ap (bytes_at (At s.machine)) steps in
          let part = w.3 in
          record {
            meant = status;
            grown = append (writes here.at.sent replies) grown;
            so = inr (up w.0, w.1, sym ended ∙ w.2, (part.0, part.1, part.2 ∙ counted, output_is s replies now here (only State part.0) (only State part.0) last.PageFault last.PageFault grown refl refl part.3));
            ends = ends_after outside.sink.before mid outside.sink.after status (writes here.at.sent replies) grown result here.at.wrote quiet ends;
          }

      answer_so : AnswersSave read Done status grown → (behind : Channels) → AnswersSave outside.pages Done status behind
      answer_so (inl is) behind = inl is
      answer_so (inr w) behind = inr (up w.0, w.1)

      untold_saved : (now : Option BlockFile) → OnlyReplied outside.sink.before.told mid.told → Holds g breaks end.Save (stage_at_file None now) → AnswersSave read Done status grown → WentSo None outside lines start g breaks result
      untold_saved now only_these h a =
          let wrote = writes only_these.sent only_these.replies in
          record {
            meant = status;
            grown = append wrote grown;
            so = inr (record { given = h.lines; took = h.took; asked = h.asked; answer = answer_so a (append wrote grown) });
            ends = ends_after outside.sink.before mid outside.sink.after status wrote grown result only_these.grew quiet ends;
          }

      told_saved : (file : BlockFile) (now : Option BlockFile) (h : Holds g breaks end.Save (stage_at_file (Some file) now)) → SavesBy n.ended read n (At (held_after g (begun start breaks) h.lines).session.machine) status grown → WentSo (Some file) outside lines start g breaks result
      told_saved file now h a =
          let s = (held_after g (begun start breaks) h.lines).session in
          let replies = transcript g (begun start breaks) h.lines in
          let here : IsHere origin s (replies ++ []) (scene n now mid.told) = h.goes origin (opening start) [] (is_here file) in
          let w = saves_here s replies now (subst (λ (z : List ℕ). IsHere origin s z (scene n now mid.told)) (append-nil replies) here) a in
          record { meant = w.meant; grown = w.grown; so = inr (record { given = h.lines; took = h.took; asked = h.asked; saves = w.so }); ends = w.ends }

    -- where the session is then, whatever the page file told
    saved_at : (file : BlockFile) (now : Option BlockFile) (h : Holds g breaks end.Save (stage_at_file (Some file) now)) → Means n now (At (held_after g (begun start breaks) h.lines).session.machine)
    saved_at file now h =
        let here : IsHere origin (held_after g (begun start breaks) h.lines).session (transcript g (begun start breaks) h.lines ++ []) (scene n now mid.told) = h.goes origin (opening start) [] (is_here file) in
        here.at.means

    pub saved : (told now : Option BlockFile) (between_calls : Change Channels) (read : Change BlockFile) → between_calls.before ≡ mid → between_calls.after ≡ outside.sink.after → (HasFailed read → HasFailed outside.pages)
        → OnlyReplied outside.sink.before.told mid.told → Holds g breaks end.Save (stage_at_file told now)
        → ((place : Place) → Means n now place → EndsSo between_calls (SavesBy n.ended read n place) result) → EndsSo between_calls (AnswersSave read Done) result → WentSo told outside lines start g breaks result
    saved None now c read begins stops up only_these h places answers = untold_saved read up answers.meant answers.grown (ends_between c begins stops answers.meant answers.grown answers.ends) now only_these h answers.so
    saved (Some file) now c read begins stops up only_these h places answers =
        let w = places (At (held_after g (begun start breaks) h.lines).session.machine) (saved_at file now h) in
        told_saved read up w.meant w.grown (ends_between c begins stops w.meant w.grown w.ends) file now h w.so

    -- no line was left
    pub read_out : (told : Option BlockFile) → OnlyReplied outside.sink.before.told mid.told → Holds g breaks end.Read (stage_at outside lines m told n mid.told)
        → EndsFrom mid outside.sink.after Done (only Report (machine_report n (last_of n.ended) [])) result → WentSo told outside lines start g breaks result
    read_out None only_these h ends = untold end.Read Done (last_of n.ended) refl h tt only_these ends
    read_out (Some file) only_these h ends =
        let here : IsHere origin (held_after g (begun start breaks) h.lines).session (transcript g (begun start breaks) h.lines ++ prompt g.prompts) after = h.goes origin (opening start) [] (is_here file) in
        let spot = spot_at (held_after g (begun start breaks) h.lines).session (transcript g (begun start breaks) h.lines ++ prompt g.prompts) in
        record {
          meant = Done;
          grown = wrote_at end.Read spot;
          so = inl (end.Read, record { given = h.lines; took = h.took; asked = h.asked; spot = spot; stops = refl; cause = tt; answer = refl; wrote = refl });
          ends = told_here _ _ Done here ends;
        }

    -- no more lines are counted
    pub counted_out : (told : Option BlockFile) → OnlyReplied outside.sink.before.told mid.told → Holds g breaks end.Lines (stage_at outside lines m told n mid.told)
        → EndsFrom mid outside.sink.after Done (only Report (machine_report n (last_of n.ended) [])) result → WentSo told outside lines start g breaks result
    counted_out None only_these h ends = untold end.Lines Done (last_of n.ended) refl h tt only_these ends
    counted_out (Some file) only_these h ends =
        let here : IsHere origin (held_after g (begun start breaks) h.lines).session (transcript g (begun start breaks) h.lines ++ []) after = h.goes origin (opening start) [] (is_here file) in
        let spot = spot_at (held_after g (begun start breaks) h.lines).session (transcript g (begun start breaks) h.lines ++ []) in
        record {
          meant = Done;
          grown = wrote_at end.Lines spot;
          so = inl (end.Lines, record { given = h.lines; took = h.took; asked = h.asked; spot = spot; stops = refl; cause = tt; answer = refl; wrote = refl });
          ends = told_here _ _ Done here ends;
        }

    -- a line couldn't be read
    pub unread : (told : Option BlockFile) → OnlyReplied outside.sink.before.told mid.told → HasFailed lines → Holds g breaks end.LineFault (stage_at outside lines m told n mid.told)
        → EndsFrom mid outside.sink.after LineFault (only Report (machine_report n (last_of n.ended) [])) result → WentSo told outside lines start g breaks result
    unread None only_these rose h ends = untold end.LineFault LineFault (last_of n.ended) refl h rose only_these ends
    unread (Some file) only_these rose h ends =
        let here : IsHere origin (held_after g (begun start breaks) h.lines).session (transcript g (begun start breaks) h.lines ++ prompt g.prompts) after = h.goes origin (opening start) [] (is_here file) in
        let spot = spot_at (held_after g (begun start breaks) h.lines).session (transcript g (begun start breaks) h.lines ++ prompt g.prompts) in
        record {
          meant = LineFault;
          grown = wrote_at end.LineFault spot;
          so = inl (end.LineFault, record { given = h.lines; took = h.took; asked = h.asked; spot = spot; stops = refl; cause = rose; answer = refl; wrote = refl });
          ends = told_here _ _ LineFault here ends;
        }

    -- the limit of turns was reached
    pub timed_out : (told : Option BlockFile) → OnlyReplied outside.sink.before.told mid.told → Holds g breaks end.Turns (stage_at outside lines m told n mid.told)
        → EndsFrom mid outside.sink.after Turns (only Report (machine_report n last.Turns [])) result → WentSo told outside lines start g breaks result
    timed_out None only_these h ends = untold end.Turns Turns last.Turns refl h tt only_these ends
    timed_out (Some file) only_these h ends =
        let c : IsCutShort failure.Turns g (begun start breaks) h.lines origin [] after = h.goes origin (opening start) [] (is_here file) in
        let w = c.acts.1 in
        let replies = transcript g (begun start breaks) c.front ++ prompt g.prompts in
        let spot : Spot = record { place = w.place; steps = n.steps; replies = replies } in
        record {
          meant = Turns;
          grown = wrote_at end.Turns spot;
          so = inl (
            end.Turns,
            record {
              given = h.lines;
              took = h.took;
              asked = h.asked;
              spot = spot;
              stops = record { stepping = record { front = c.front; last = c.last; splits = c.splits; way = w.goes; replies = refl }; machine = n; means = w.means; out = c.acts.0 };
              cause = tt;
              answer = refl;
              wrote = refl;
            },
          );
          ends = told_behind w.place n.steps replies last.Turns Turns w.sent refl w.means w.output w.wrote ends;
        }

    -- a call of the page file failed
    module _ (file : BlockFile) (rose : HasFailed outside.pages) (h : Holds g breaks end.PageFault (stage_at outside lines m (Some file) n mid.told)) (front : List Exchange) (line : Exchange) (splits : h.lines ≡ front ++ line ∷ []) (ends : EndsFrom mid outside.sink.after PageFault (only Report (machine_report n last.PageFault [])) result) where
      abbrev front_replies : List ℕ
      front_replies = transcript g (begun start breaks) front ++ prompt g.prompts

      cut_in : IsWithin start (held_after g (begun start breaks) front).session (act_of g (held_after g (begun start breaks) front) line).most front_replies n outside.pages.after.told outside.sink.before.told mid.told
          ⊎ IsToldInPart origin (after_line g (held_after g (begun start breaks) front) line).session front_replies (replied g (held_after g (begun start breaks) front) line) after
          → WentSo (Some file) outside lines start g breaks result
      cut_in (inl w) =
          let spot : Spot = record { place = w.place; steps = n.steps; replies = front_replies } in
          record {
            meant = PageFault;
            grown = wrote_at end.PageFault spot;
            so = inl (end.PageFault, record { given = h.lines; took = h.took; asked = h.asked; spot = spot; stops = inl (record { front = front; last = line; splits = splits; way = w.goes; replies = refl }); cause = rose; answer = refl; wrote = refl });
            ends = told_behind w.place n.steps front_replies last.PageFault PageFault w.sent refl w.means w.output w.wrote ends;
          }
      cut_in (inr p) =
          let s = (after_line g (held_after g (begun start breaks) front) line).session in
          let spot = spot_at s (front_replies ++ p.told) in
          record {
            meant = PageFault;
            grown = wrote_at end.PageFault spot;
            so = inl (end.PageFault, record { given = h.lines; took = h.took; asked = h.asked; spot = spot; stops = inr (record { front = front; last = line; splits = splits; told = p.told; untold = p.untold; parts = p.splits; is = refl }); cause = rose; answer = refl; wrote = refl });
            ends = told_behind (At s.machine) s.steps (front_replies ++ p.told) last.PageFault PageFault p.at.sent p.at.steps p.at.means p.at.output p.at.wrote ends;
          }

    pub cut_off : (told : Option BlockFile) → OnlyReplied outside.sink.before.told mid.told → HasFailed outside.pages → Holds g breaks end.PageFault (stage_at outside lines m told n mid.told)
        → EndsFrom mid outside.sink.after PageFault (only Report (machine_report n last.PageFault [])) result → WentSo told outside lines start g breaks result
    cut_off None only_these rose h ends = untold end.PageFault PageFault last.PageFault refl h rose only_these ends
    cut_off (Some file) only_these rose h ends =
        let c : IsCutShort failure.PageFault g (begun start breaks) h.lines origin [] after = h.goes origin (opening start) [] (is_here file) in
        cut_in file rose h c.front c.last c.splits ends c.acts

  -- a write failed
  module _ (file : BlockFile) (rose : HasFailed outside.sink) (h : Holds g breaks end.WriteFault (stage_at outside lines m (Some file) n outside.sink.after.told)) where
    abbrev lost_scene : Scene
    lost_scene = scene n outside.pages.after.told outside.sink.after.told

    -- of what the steps of the last line write
    lost_in : (front : List Exchange) (line : Exchange) → h.lines ≡ front ++ line ∷ []
        → IsLost (act_of g (held_after g (begun start breaks) front) line).most origin (held_after g (begun start breaks) front).session (transcript g (begun start breaks) front ++ prompt g.prompts) lost_scene
        → WentSo (Some file) outside lines start g breaks WriteFault
    lost_in front line splits l =
        let s = advanced l.made (held_after g (begun start breaks) front).session in
        let replies = transcript g (begun start breaks) front ++ prompt g.prompts in
        let spot = spot_at s replies in
        let prefix = subst (λ (out : List ℕ). GrewByPrefix outside.sink.before.told outside.sink.after.told (writes out replies)) (sent_all start.output s.machine.output l.part.sent f.silent l.part.output) l.part.wrote in
        record {
          meant = Done;
          grown = wrote_at end.WriteFault spot;
          so = inl (
            end.WriteFault,
            record {
              given = h.lines;
              took = h.took;
              asked = h.asked;
              spot = spot;
              stops = inl (inl (record { front = front; last = line; splits = splits; way = record { count = l.made; few = l.few; steps = refl; goes = refl }; replies = refl }));
              cause = rose;
              answer = refl;
              wrote = refl;
            },
          );
          ends = inr (record { answer = refl; prefix = prefix; cause = rose });
        }

    -- all of this was written
    whole_prefix : (output sent replies : List ℕ) → output ≡ start.output ++ sent → Grew outside.sink.before.told outside.sink.after.told (writes sent replies) → GrewByPrefix outside.sink.before.told outside.sink.after.told (writes output replies)
    whole_prefix output sent replies is wrote =
        let grew = subst (λ (out : List ℕ). Grew outside.sink.before.told outside.sink.after.told (writes out replies)) (sent_all start.output output sent f.silent is) wrote in
        record { prefix = writes output replies; rest = nothing; splits = append-nothing (writes output replies); grew = grew }

    -- a part of the last line's reply
    lost_reply : (front : List Exchange) (line : Exchange) → h.lines ≡ front ++ line ∷ []
        → IsToldInPart origin (after_line g (held_after g (begun start breaks) front) line).session (transcript g (begun start breaks) front ++ prompt g.prompts) (replied g (held_after g (begun start breaks) front) line) lost_scene
        → WentSo (Some file) outside lines start g breaks WriteFault
    lost_reply front line splits p =
        let s = (after_line g (held_after g (begun start breaks) front) line).session in
        let spot = spot_at s ((transcript g (begun start breaks) front ++ prompt g.prompts) ++ p.told) in
        record {
          meant = Done;
          grown = wrote_at end.WriteFault spot;
          so = inl (
            end.WriteFault,
            record {
              given = h.lines;
              took = h.took;
              asked = h.asked;
              spot = spot;
              stops = inl (inr (record { front = front; last = line; splits = splits; told = p.told; untold = p.untold; parts = p.splits; is = refl }));
              cause = rose;
              answer = refl;
              wrote = refl;
            },
          );
          ends = inr (record { answer = refl; prefix = whole_prefix s.machine.output p.at.sent spot.replies p.at.output p.at.wrote; cause = rose });
        }

    -- a part of a prompt
    lost_prompt : IsToldInPart origin (held_after g (begun start breaks) h.lines).session (transcript g (begun start breaks) h.lines) (prompt g.prompts) lost_scene → WentSo (Some file) outside lines start g breaks WriteFault
    lost_prompt p =
        let s = (held_after g (begun start breaks) h.lines).session in
        let spot = spot_at s (transcript g (begun start breaks) h.lines ++ p.told) in
        record {
          meant = Done;
          grown = wrote_at end.WriteFault spot;
          so = inl (
            end.WriteFault,
            record {
              given = h.lines;
              took = h.took;
              asked = h.asked;
              spot = spot;
              stops = inr (record { told = p.told; untold = p.untold; parts = p.splits; is = refl });
              cause = rose;
              answer = refl;
              wrote = refl;
            },
          );
          ends = inr (record { answer = refl; prefix = whole_prefix s.machine.output p.at.sent spot.replies p.at.output p.at.wrote; cause = rose });
        }

    lost_line : (front : List Exchange) (line : Exchange) → h.lines ≡ front ++ line ∷ []
        → IsLost (act_of g (held_after g (begun start breaks) front) line).most origin (held_after g (begun start breaks) front).session (transcript g (begun start breaks) front ++ prompt g.prompts) lost_scene
        ⊎ IsToldInPart origin (after_line g (held_after g (begun start breaks) front) line).session (transcript g (begun start breaks) front ++ prompt g.prompts) (replied g (held_after g (begun start breaks) front) line) lost_scene
        → WentSo (Some file) outside lines start g breaks WriteFault
    lost_line front line splits (inl l) = lost_in front line splits l
    lost_line front line splits (inr p) = lost_reply front line splits p

    lost_by : IsCutShort failure.WriteFault g (begun start breaks) h.lines origin [] lost_scene
        ⊎ IsToldInPart origin (held_after g (begun start breaks) h.lines).session (transcript g (begun start breaks) h.lines) (prompt g.prompts) lost_scene → WentSo (Some file) outside lines start g breaks WriteFault
    lost_by (inl c) = lost_line c.front c.last c.splits c.acts
    lost_by (inr p) = lost_prompt p

  pub lost : (told : Option BlockFile) → OnlyReplied outside.sink.before.told outside.sink.after.told → HasFailed outside.sink → Holds g breaks end.WriteFault (stage_at outside lines m told n outside.sink.after.told)
      → WentSo told outside lines start g breaks WriteFault
  lost None only_these rose h =
      let wrote = writes only_these.sent only_these.replies in
      record {
        meant = Done;
        grown = wrote;
        so = inl (end.WriteFault, record { given = h.lines; took = h.took; asked = h.asked; cause = rose; answer = refl; unrecorded = refl; unsaved = refl });
        ends = inr (record { answer = refl; prefix = record { prefix = wrote; rest = nothing; splits = append-nothing wrote; grew = only_these.grew }; cause = rose });
      }
  lost (Some file) only_these rose h = lost_by file rose h (h.goes origin (opening start) [] (is_here file))

-- the state of a machine that hasn't ended was saved, or an older state removed of one that has
pub saves_open : (ended : Option Ending) (pages : Change BlockFile) (m : Engine) (place : Place) (status : Status) (grown : Channels) → ended ≡ None → SavesAt pages m place last.Steps Done status grown → SavesBy ended pages m place status grown
saves_open None pages m place status grown is (inl w) = inl w
saves_open None pages m place status grown is (inr w) = inr (w.0, w.1, refl, w.2)
saves_open (Some e) pages m place status grown is w = absurd (cc is)

pub saves_none : (ended : Option Ending) (e : Ending) (pages : Change BlockFile) (m : Engine) (place : Place) → ended ≡ Some e → SavesBy ended pages m place Done (append removed (only Report (machine_report m (last_of ended) [])))
saves_none None e pages m place is = absurd (cc is)
saves_none (Some x) e pages m place is = inl (refl, refl)

-- what a session on programs came to
module _ (outside : Outside) (lines : Change (List Text)) (program : Loaded) (g : Given) (options : Options) (result : Status) where
  pub debug_misplanned : (status : Status) → IsFaulty (start_areas program.system program.user) g.schedule status ⊎ (status ≡ NoMemory) → outside.pages.same → lines.same → Ends outside.sink status (refusal_growth status) result → Debugged outside lines program g options result
  debug_misplanned status (inl r) k l ends = record { meant = status; grown = refusal_growth status; so = inr (inl (record { fault = r; wrote = refl; keeps = k }, l)); ends = ends }
  debug_misplanned status (inr e) k l ends = record { meant = status; grown = refusal_growth status; so = inl ((e, ap refusal_growth e, k), l); ends = ends }

  pub debug_went : (rules : List Rule) → Denotes (start_areas program.system program.user) g.schedule rules → EndsSo outside.sink (Went outside lines (Start program.system program.user g.input) (terms_of g options)) result → Debugged outside lines program g options result
  debug_went rules planned h = record { meant = h.meant; grown = h.grown; so = inr (inr (record { rules = rules; planned = planned; went = h.so })); ends = h.ends }
