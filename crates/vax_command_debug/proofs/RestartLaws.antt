-- What a session of several runs comes to, from how each of them went.
use Rattle.std.proofs.Common.{◌≡◌, ◌++◌, ◌+◌, ◌-◌, ◌^◌, ℕ, List, [], ◌∷◌, append_assoc, append-nil, length, length-append, Option, Some, None, refl, sym, ap, subst, ◌∙◌, inl, inr}
use Rattle.vax_outside.specs.Blocks.{BlockFile}
use Rattle.vax_outside.specs.Channels.{Channels, Grew, GrewByPrefix, append, nothing, only, unsaved}
use Rattle.vax_outside.specs.declared.faults.Failures.{Failures}
use Rattle.vax_outside.specs.declared.traits.Chan.TheVariants.{Report}
use Rattle.vax_outside.proofs.Counting.{rose_then}
use Rattle.vax_outside.proofs.Growth.{append-nothing, channels_assoc, grew_more, grew_nothing}
use Rattle.vax_flat.specs.Parts.{Place, At}
use Rattle.vax_flat.specs.Step.{Flat}
use Rattle.vax_input.specs.Lines.{Takes}
use Rattle.vax_machine.specs.Console.{IsBetween}
use Rattle.vax_machine.specs.Machine.{Means}
use Rattle.vax_machine.specs.declared.engine.Engine.{Engine}
use Rattle.vax_console.specs.Ends.{OnlyReplied, scene, writes}
use Rattle.vax_console.specs.Transcript.{Session, last_of}
use Rattle.vax_console.proofs.Only.{only_none, only_then}
use Rattle.vax_debug_session.specs.Sessions.{IsHere, Origin}
use Rattle.vax_debug_session.specs.Exchanges.{Exchange, lines_of}
use Rattle.vax_debug_session.specs.Holding.{IsAskedAtLast, Terms, held_after, prompt, transcript}
use Rattle.vax_debug_session.specs.Plan.{Plan}
use Rattle.vax_debug_session.specs.Plans.{no_plan}
use Rattle.vax_debug_session.specs.Requests.{Held}
use Rattle.vax_debug_session.specs.declared.SessionEnd.{SessionEnd}
use Rattle.vax_debug_session.specs.declared.SessionEnd.TheVariants as end
use Rattle.vax_debug_session.proofs.Folding.{lines_both, takes_none, takes_on}
use Rattle.vax_cli.specs.Words.{Text}
use Rattle.vax_command.specs.Around.{Change, Outside, Seen, outside}
use Rattle.vax_command.specs.Ends.{EndsFrom, EndsSo, IsCutShort}
use Rattle.vax_command.specs.Fresh.{IsFresh, machine_report}
use Rattle.vax_command.specs.SessionWent.{broken_off, opening}
use Rattle.vax_command.specs.declared.status.Status.{Status}
use Rattle.vax_command.specs.declared.status.Status.TheVariants.{Done, Unfinished}
use Rattle.vax_command.proofs.RunLaws.{ends_after}
use Rattle.vax_command_debug.specs.Course.{AreRestarts, Causes, Ended, EndedUntold, RunFrom, Saved, SavedUntold, SavesHere, Spot, StopsAt, WentFrom, anew_line, begun, breaks_left, from, joined, run_output, runs_output, spot_at, wrote_at}
use Rattle.vax_command_debug.specs.Restarting.{GoesAnew, Hearing, IsQuiet, IsReadyAnew, IsRefusedAnew, hears}
use Rattle.vax_command_debug.proofs.DebugLaws.{first_here, sent_all, told_here}

-- runs, and one more behind them

joined_on : (runs : List (List Exchange)) (run : List Exchange) → joined (runs ++ run ∷ []) ≡ joined runs ++ run
unfolding joined
joined_on [] run = append-nil run
joined_on (x ∷ runs) run = ap (λ (z : List Exchange). x ++ z) (joined_on runs run) ∙ sym (append_assoc x (joined runs) run)

asked_then : (runs : List (List Exchange)) (run : List Exchange) → AreRestarts runs → IsAskedAtLast end.Restart run → AreRestarts (runs ++ run ∷ [])
unfolding AreRestarts
asked_then [] run p q = (q, tt)
asked_then (x ∷ runs) run p q = (p.0, asked_then runs run p.1 q)

breaks_on : (g : Terms) (start : Flat) (breaks : Plan) (runs : List (List Exchange)) (run : List Exchange) → breaks_left g start breaks (runs ++ run ∷ []) ≡ (held_after g (begun start (breaks_left g start breaks runs)) run).breaks
unfolding breaks_left
breaks_on g start breaks [] run = refl
breaks_on g start breaks (x ∷ runs) run = breaks_on g start (held_after g (begun start breaks) x).breaks runs run

output_on : (g : Terms) (start : Flat) (breaks : Plan) (runs : List (List Exchange)) (run : List Exchange) → runs_output g start breaks (runs ++ run ∷ []) ≡ append (runs_output g start breaks runs) (run_output g (begun start (breaks_left g start breaks runs)) run)
unfolding runs_output breaks_left
output_on g start breaks [] run = append-nothing (run_output g (begun start breaks) run)
output_on g start breaks (x ∷ runs) run =
    let new = (held_after g (begun start breaks) x).breaks in
    ap (append (run_output g (begun start breaks) x)) (output_on g start new runs run)
    ∙ sym (channels_assoc (run_output g (begun start breaks) x) (runs_output g start new runs) (run_output g (begun start (breaks_left g start new runs)) run))

none_taken : (c : Option (List Text)) → Takes c c (lines_of (joined []))
unfolding joined
none_taken c = takes_none c

none_asked : AreRestarts []
unfolding AreRestarts
none_asked = tt

took_then : (a b c : Option (List Text)) (runs : List (List Exchange)) (run : List Exchange) → Takes a b (lines_of (joined runs)) → Takes b c (lines_of run) → Takes a c (lines_of (joined (runs ++ run ∷ [])))
took_then a b c runs run p q =
    subst (λ (z : List Exchange). Takes a c (lines_of z)) (sym (joined_on runs run))
    (subst (λ (z : List Text). Takes a c z) (sym (lines_both (joined runs) run)) (takes_on a b c (lines_of (joined runs)) (lines_of run) p q))

one_more : (runs : List (List Exchange)) (run : List Exchange) (n : ℕ) → length runs ≡ n → length (runs ++ run ∷ []) ≡ n + 1
one_more runs run n e = length-append runs (run ∷ []) ∙ ap (λ (k : ℕ). k + 1) e

-- calls of which none failed

pub quiet_first : (x : Hearing) → IsQuiet x x
quiet_first x = record { sink = refl; pages = refl; lines = refl }

pub quiet_then : (x y z : Hearing) (t : Seen Channels) → IsQuiet x y → IsQuiet y z → t.faults.count ≡ z.sink.faults.count → IsQuiet x (hears t z.pages z.lines)
quiet_then x y z t p q e = record { sink = e ∙ (q.sink ∙ p.sink); pages = q.pages ∙ p.pages; lines = q.lines ∙ p.lines }

-- Behind so many runs, with the page file that told its contents at the first start: the lines were taken, the channels grew by the output of the runs, and the
-- page file still tells.
pub record IsBehindTold (g : Terms) (start : Flat) (breaks : Plan) (count : ℕ) (before after : Hearing) : Type 0 where
  pub runs : List (List Exchange)
  pub asked : AreRestarts runs
  pub took : Takes before.lines.told after.lines.told (lines_of (joined runs))
  pub many : length runs ≡ count
  pub stops : breaks ≡ breaks_left g start no_plan runs
  pub grew : Grew before.sink.told after.sink.told (runs_output g start no_plan runs)
  pub file : BlockFile
  pub tells : after.pages.told ≡ Some file

pub record IsBehindUntold (count : ℕ) (before after : Hearing) : Type 0 where
  pub runs : List (List Exchange)
  pub asked : AreRestarts runs
  pub took : Takes before.lines.told after.lines.told (lines_of (joined runs))
  pub many : length runs ≡ count
  pub only_these : OnlyReplied before.sink.told after.sink.told

abbrev pub IsBehindRuns : Option BlockFile → Terms → Flat → Plan → (count : ℕ) → (before after : Hearing) → Type 0
IsBehindRuns None g start breaks count before after = IsBehindUntold count before after
IsBehindRuns (Some file) g start breaks count before after = IsBehindTold g start breaks count before after

abbrev pub hears_with : Seen Channels → Failures → Option BlockFile → Seen (List Text) → Hearing
hears_with sink faults told lines = hears sink (record { faults = faults; told = told }) lines

pub behind_first : (g : Terms) (start : Flat) (sink : Seen Channels) (faults : Failures) (told : Option BlockFile) (lines : Seen (List Text)) → IsBehindRuns told g start no_plan 0 (hears_with sink faults told lines) (hears_with sink faults told lines)
unfolding runs_output breaks_left
behind_first g start sink faults None lines = record { runs = []; asked = none_asked; took = none_taken lines.told; many = refl; only_these = only_none sink.told }
behind_first g start sink faults (Some file) lines = record { runs = []; asked = none_asked; took = none_taken lines.told; many = refl; stops = refl; grew = grew_nothing sink.told; file = file; tells = refl }

is_told : (m : Engine) (told : Option BlockFile) (place : Place) → Means m told place → (file : BlockFile) × (told ≡ Some file)
is_told m None place means = absurd means.memory
is_told m (Some file) place means = (file, refl)

-- a run that ends with a restart, on a machine at its start
module _ (g : Terms) (start : Flat) (frames : ℕ) (m : Engine) (f : IsFresh m frames start) (between : IsBetween m) (breaks new : Plan) (y z : Hearing) (a : GoesAnew g breaks new m y z) where
  abbrev taken : List Exchange
  taken = a.restarts.lines

  abbrev left_in : Held
  left_in = held_after g (begun start breaks) taken

  abbrev begins : Origin
  begins = record { flat = start; channels = y.sink.told }

  -- the page file told its contents
  module _ (file : BlockFile) (tells : y.pages.told ≡ Some file) where
    at_start : IsHere begins (opening start) [] (scene m y.pages.told y.sink.told)
    at_start = subst (λ (t : Option BlockFile). IsHere begins (opening start) [] (scene m t y.sink.told)) (sym tells) (first_here m frames start file y.sink.told f between)

    at_end : IsHere begins left_in.session (transcript g (begun start breaks) taken) (scene a.left z.pages.told z.sink.told)
    at_end = subst (λ (t : List ℕ). IsHere begins left_in.session t (scene a.left z.pages.told z.sink.told)) (append-nil (transcript g (begun start breaks) taken)) (a.restarts.goes begins (opening start) [] at_start)

    pub run_grew : Grew y.sink.told z.sink.told (writes left_in.session.machine.output (transcript g (begun start breaks) taken))
    run_grew = subst (λ (t : List ℕ). Grew y.sink.told z.sink.told (writes t (transcript g (begun start breaks) taken))) (sent_all start.output left_in.session.machine.output at_end.at.sent f.silent at_end.at.output) at_end.at.wrote

    pub still_told : (now : BlockFile) × (z.pages.told ≡ Some now)
    still_told = is_told a.left z.pages.told (At left_in.session.machine) at_end.at.means

    pub stops_so : new ≡ left_in.breaks
    stops_so = a.restarts.stops begins (opening start) [] at_start

-- one run more
module _ (g : Terms) (start : Flat) (frames : ℕ) (m : Engine) (f : IsFresh m frames start) (between : IsBetween m) (breaks new : Plan) (n : ℕ) (x y z : Hearing) (a : GoesAnew g breaks new m y z) where
  abbrev given_run : List Exchange
  given_run = a.restarts.lines

  -- what the runs have written behind its replies
  runs_grew : (b : IsBehindTold g start breaks n x y) → Grew x.sink.told z.sink.told (append (runs_output g start no_plan b.runs) (writes (held_after g (begun start breaks) given_run).session.machine.output (transcript g (begun start breaks) given_run)))
  runs_grew b =
      grew_more x.sink.told y.sink.told z.sink.told (runs_output g start no_plan b.runs) (writes (held_after g (begun start breaks) given_run).session.machine.output (transcript g (begun start breaks) given_run)) b.grew
      (run_grew g start frames m f between breaks new y z a b.file b.tells)

  -- behind the reply that comes then
  output_is : (b : IsBehindTold g start breaks n x y) → append (append (runs_output g start no_plan b.runs) (writes (held_after g (begun start breaks) given_run).session.machine.output (transcript g (begun start breaks) given_run))) (only Report anew_line)
      ≡ runs_output g start no_plan (b.runs ++ given_run ∷ [])
  output_is b =
      channels_assoc (runs_output g start no_plan b.runs) (writes (held_after g (begun start breaks) given_run).session.machine.output (transcript g (begun start breaks) given_run)) (only Report anew_line)
      ∙ (ap (λ (p : Plan). append (runs_output g start no_plan b.runs) (run_output g (begun start p) given_run)) b.stops ∙ sym (output_on g start no_plan b.runs given_run))

  took_on : (runs : List (List Exchange)) → Takes x.lines.told y.lines.told (lines_of (joined runs)) → Takes x.lines.told z.lines.told (lines_of (joined (runs ++ given_run ∷ [])))
  took_on runs p = took_then x.lines.told y.lines.told z.lines.told runs given_run p a.restarts.took

  pub behind_then : (told : Option BlockFile) (t : Seen Channels) → IsBehindRuns told g start breaks n x y → IsReadyAnew z.sink t → IsBehindRuns told g start new (n + 1) x (hears t z.pages z.lines)
  behind_then None t b r = record {
    runs = b.runs ++ given_run ∷ [];
    asked = asked_then b.runs given_run b.asked a.restarts.asked;
    took = took_on b.runs b.took;
    many = one_more b.runs given_run n b.many;
    only_these = only_then x.sink.told z.sink.told t.told (only_then x.sink.told y.sink.told z.sink.told b.only_these a.only_these) (record { sent = []; replies = anew_line; grew = r.grew });
  }
  behind_then (Some file) t b r =
      let now = still_told g start frames m f between breaks new y z a b.file b.tells in
      record {
        runs = b.runs ++ given_run ∷ [];
        asked = asked_then b.runs given_run b.asked a.restarts.asked;
        took = took_on b.runs b.took;
        many = one_more b.runs given_run n b.many;
        stops = stops_so g start frames m f between breaks new y z a b.file b.tells
            ∙ (ap (λ (p : Plan). (held_after g (begun start p) given_run).breaks) b.stops ∙ sym (breaks_on g start no_plan b.runs given_run));
        grew = subst (λ (c : Channels). Grew x.sink.told t.told c) (output_is b)
            (grew_more x.sink.told z.sink.told t.told (append (runs_output g start no_plan b.runs) (writes (held_after g (begun start breaks) given_run).session.machine.output (transcript g (begun start breaks) given_run))) (only Report anew_line) (runs_grew b) r.grew);
        file = now.0;
        tells = now.1;
      }

  -- the reply wasn't written whole
  module _ (quiet : IsQuiet x y) (t : Seen Channels) (status : Status) (c : IsCutShort z.sink t (only Report anew_line) status) (X Y Z : Type 0) where
    abbrev seen : Outside
    seen = outside (record { before = x.sink; after = t; same = X }) (record { before = x.pages; after = z.pages; same = Y })

    abbrev said : Change (List Text)
    said = record { before = x.lines; after = z.lines; same = Z }

    still : z.sink.faults.count ≡ x.sink.faults.count
    still = a.quiet.sink ∙ quiet.sink

    pub reply_cut : (told : Option BlockFile) → IsBehindRuns told g start breaks n x y → EndsSo seen.sink (WentFrom told seen said start g) status
    reply_cut None b =
        let o = only_then x.sink.told y.sink.told z.sink.told b.only_these a.only_these in
        record {
          meant = Done;
          grown = append (writes o.sent o.replies) (only Report anew_line);
          so = (z.lines.told, record { runs = b.runs ++ given_run ∷ []; asked = asked_then b.runs given_run b.asked a.restarts.asked; took = took_on b.runs b.took }, inl (inl (end.WriteFault, record { given = []; took = takes_none z.lines.told; asked = refl; cause = rose_then still c.cause; answer = refl; unrecorded = refl; unsaved = refl })));
          ends = ends_after x.sink z.sink t Done (writes o.sent o.replies) (only Report anew_line) status o.grew still (inr c);
        }
    reply_cut (Some file) b =
        let stops = breaks_left g start no_plan (b.runs ++ given_run ∷ []) in
        let spot : Spot = spot_at (held_after g (begun start stops) []).session (transcript g (begun start stops) [] ++ []) in
        let last = wrote_at end.WriteFault spot in
        let front = append (runs_output g start no_plan b.runs) (writes (held_after g (begun start breaks) given_run).session.machine.output (transcript g (begun start breaks) given_run)) in
        let prefix : GrewByPrefix z.sink.told t.told (append (only Report anew_line) last) = record {
          prefix = c.prefix.prefix;
          rest = append c.prefix.rest last;
          splits = sym (channels_assoc c.prefix.prefix c.prefix.rest last) ∙ ap (λ (k : Channels). append k last) c.prefix.splits;
          grew = c.prefix.grew;
        } in
        let all : append front (append (only Report anew_line) last) ≡ append (runs_output g start no_plan (b.runs ++ given_run ∷ [])) last =
        sym (channels_assoc front (only Report anew_line) last) ∙ ap (λ (k : Channels). append k last) (output_is b) in
        record {
          meant = Done;
          grown = append (runs_output g start no_plan (b.runs ++ given_run ∷ [])) last;
          so = (
            z.lines.told,
            record { runs = b.runs ++ given_run ∷ []; asked = asked_then b.runs given_run b.asked a.restarts.asked; took = took_on b.runs b.took },
            last,
            inl (inl (
              end.WriteFault,
              record {
                given = [];
                took = takes_none z.lines.told;
                asked = refl;
                spot = spot;
                stops = inr (record { told = []; untold = prompt g.prompts; parts = refl; is = refl });
                cause = rose_then still c.cause;
                answer = refl;
                wrote = refl;
              },
            )),
            refl,
          );
          ends = subst (λ (k : Channels). EndsFrom x.sink t Done k status) all
              (ends_after x.sink z.sink t Done front (append (only Report anew_line) last) status (runs_grew b) still (inr (record { answer = c.answer; prefix = prefix; cause = c.cause })));
        }

-- the last run, seen from the first

module _ (x y : Hearing) (quiet : IsQuiet x y) (e : Seen Channels) (p : Seen BlockFile) (l : Seen (List Text)) (X Y Z U V W : Type 0) where
  abbrev last_seen : Outside
  last_seen = outside (record { before = y.sink; after = e; same = X }) (record { before = y.pages; after = p; same = Y })

  abbrev last_lines : Change (List Text)
  last_lines = record { before = y.lines; after = l; same = Z }

  abbrev all_seen : Outside
  all_seen = outside (record { before = x.sink; after = e; same = U }) (record { before = x.pages; after = p; same = V })

  abbrev all_lines : Change (List Text)
  all_lines = record { before = x.lines; after = l; same = W }

  causes_all : (k : SessionEnd) → Causes k last_seen last_lines → Causes k all_seen (from y.lines.told all_lines)
  causes_all end.Quit c = tt
  causes_all end.Save c = absurd c
  causes_all end.Restart c = tt
  causes_all end.Read c = tt
  causes_all end.Lines c = tt
  causes_all end.Turns c = tt
  causes_all end.PageFault c = rose_then quiet.pages c
  causes_all end.WriteFault c = rose_then quiet.sink c
  causes_all end.LineFault c = rose_then quiet.lines c

  stops_all : (k : SessionEnd) (g : Terms) (h : Held) (given : List Exchange) (spot : Spot) → StopsAt k last_seen g h given spot → StopsAt k all_seen g h given spot
  stops_all end.Quit g h given spot q = q
  stops_all end.Save g h given spot q = q
  stops_all end.Restart g h given spot q = q
  stops_all end.Read g h given spot q = q
  stops_all end.Lines g h given spot q = q
  stops_all end.Turns g h given spot q = record { stepping = q.stepping; machine = q.machine; means = q.means; out = q.out }
  stops_all end.PageFault g h given spot q = q
  stops_all end.WriteFault g h given spot q = q
  stops_all end.LineFault g h given spot q = q

  module _ (g : Terms) (start : Flat) (breaks : Plan) (status : Status) (grown : Channels) where
    ended_all : (k : SessionEnd) → Ended k last_seen last_lines start g breaks status grown → Ended k all_seen (from y.lines.told all_lines) start g breaks status grown
    ended_all k q = record {
      given = q.given;
      took = q.took;
      asked = q.asked;
      spot = q.spot;
      stops = stops_all k g (begun start breaks) q.given q.spot q.stops;
      cause = causes_all k q.cause;
      answer = q.answer;
      wrote = q.wrote;
    }

    saves_all : (s : Session) (replies : List ℕ) → SavesHere last_seen s replies status grown → SavesHere all_seen s replies status grown
    saves_all s replies (inl q) = inl q
    saves_all s replies (inr q) = inr (rose_then quiet.pages q.0, q.1, q.2, q.3)

    saved_all : Saved last_seen last_lines start g breaks status grown → Saved all_seen (from y.lines.told all_lines) start g breaks status grown
    saved_all q = record {
      given = q.given;
      took = q.took;
      asked = q.asked;
      saves = saves_all (held_after g (begun start breaks) q.given).session (transcript g (begun start breaks) q.given) q.saves;
    }

    run_all : (file : BlockFile) → RunFrom (Some file) last_seen last_lines start g breaks status grown → RunFrom (Some file) all_seen (from y.lines.told all_lines) start g breaks status grown
    run_all file (inl q) = inl (q.0, ended_all q.0 q.1)
    run_all file (inr q) = inr (saved_all q)

    -- of what it wrote less is said

    no_record : (k : SessionEnd) (spot : Spot) → (wrote_at k spot).recorded ≡ []
    no_record end.Quit spot = refl
    no_record end.Save spot = refl
    no_record end.Restart spot = refl
    no_record end.Read spot = refl
    no_record end.Lines spot = refl
    no_record end.Turns spot = refl
    no_record end.PageFault spot = refl
    no_record end.WriteFault spot = refl
    no_record end.LineFault spot = refl

    none_saved : (k : SessionEnd) (spot : Spot) → (wrote_at k spot).saved ≡ unsaved
    none_saved end.Quit spot = refl
    none_saved end.Save spot = refl
    none_saved end.Restart spot = refl
    none_saved end.Read spot = refl
    none_saved end.Lines spot = refl
    none_saved end.Turns spot = refl
    none_saved end.PageFault spot = refl
    none_saved end.WriteFault spot = refl
    none_saved end.LineFault spot = refl

    module _ (behind : Channels) (only_these : behind.recorded ≡ grown.recorded) (saves_these : behind.saved ≡ grown.saved) where
      ended_untold : (k : SessionEnd) → EndedUntold k last_seen last_lines status grown → EndedUntold k all_seen (from y.lines.told all_lines) status behind
      ended_untold k q = record {
        given = q.given;
        took = q.took;
        asked = q.asked;
        cause = causes_all k q.cause;
        answer = q.answer;
        unrecorded = only_these ∙ q.unrecorded;
        unsaved = saves_these ∙ q.unsaved;
      }

      told_less : (k : SessionEnd) → Ended k last_seen last_lines start g breaks status grown → EndedUntold k all_seen (from y.lines.told all_lines) status behind
      told_less k q = record {
        given = q.given;
        took = q.took;
        asked = q.asked;
        cause = causes_all k q.cause;
        answer = q.answer;
        unrecorded = only_these ∙ (ap (λ (c : Channels). c.recorded) q.wrote ∙ no_record k q.spot);
        unsaved = saves_these ∙ (ap (λ (c : Channels). c.saved) q.wrote ∙ none_saved k q.spot);
      }

      saved_untold : SavedUntold last_seen last_lines status grown → SavedUntold all_seen (from y.lines.told all_lines) status behind
      saved_untold q = record {
        given = q.given;
        took = q.took;
        asked = q.asked;
        answer = elim q.answer [ inl is ↦ inl is | inr w ↦ inr (rose_then quiet.pages w.0, w.1) ];
      }

      saved_less : Saved last_seen last_lines start g breaks status grown → SavedUntold all_seen (from y.lines.told all_lines) status behind
      saved_less q = record {
        given = q.given;
        took = q.took;
        asked = q.asked;
        answer = elim q.saves [ inl w ↦ inl w.0 | inr w ↦ inr (rose_then quiet.pages w.0, w.1) ];
      }

      run_less : (told : Option BlockFile) → RunFrom told last_seen last_lines start g breaks status grown → RunFrom None all_seen (from y.lines.told all_lines) start g no_plan status behind
      run_less None (inl q) = inl (q.0, ended_untold q.0 q.1)
      run_less None (inr q) = inr (saved_untold q)
      run_less (Some file) (inl q) = inl (q.0, told_less q.0 q.1)
      run_less (Some file) (inr q) = inr (saved_less q)

  -- it ended the session
  pub went_all : (told : Option BlockFile) (g : Terms) (start : Flat) (breaks : Plan) (n : ℕ) (result : Status) → IsBehindRuns told g start breaks n x y → EndsSo last_seen.sink (RunFrom y.pages.told last_seen last_lines start g breaks) result
      → EndsSo all_seen.sink (WentFrom told all_seen all_lines start g) result
  went_all None g start breaks n result b w =
      let o = b.only_these in
      record {
        meant = w.meant;
        grown = append (writes o.sent o.replies) w.grown;
        so = (y.lines.told, record { runs = b.runs; asked = b.asked; took = b.took }, inl (run_less g start breaks w.meant w.grown (append (writes o.sent o.replies) w.grown) refl refl y.pages.told w.so));
        ends = ends_after x.sink y.sink e w.meant (writes o.sent o.replies) w.grown result o.grew quiet.sink w.ends;
      }
  went_all (Some file) g start breaks n result b w =
      let so = run_all g start breaks w.meant w.grown b.file (subst (λ (t : Option BlockFile). RunFrom t last_seen last_lines start g breaks w.meant w.grown) b.tells w.so) in
      record {
        meant = w.meant;
        grown = append (runs_output g start no_plan b.runs) w.grown;
        so = (y.lines.told, record { runs = b.runs; asked = b.asked; took = b.took }, w.grown, inl (subst (λ (k : Plan). RunFrom (Some b.file) all_seen (from y.lines.told all_lines) start g k w.meant w.grown) b.stops so), refl);
        ends = ends_after x.sink y.sink e w.meant (runs_output g start no_plan b.runs) w.grown result b.grew quiet.sink w.ends;
      }

-- memory was refused for the next one
pub refused_run : (g : Terms) (start : Flat) (frames : ℕ) (m : Engine) (f : IsFresh m frames start) (between : IsBetween m) (breaks new : Plan) (sink : Seen Channels) (faults : Failures) (told : Option BlockFile) (lines : Seen (List Text)) (z : Hearing)
    (a : GoesAnew g breaks new m (hears_with sink faults told lines) z) (t : Seen Channels) (status : Status) (X Y Z : Type 0) → EndsFrom z.sink t Unfinished nothing status
    → EndsSo (record { before = sink; after = t; same = X })
    (RunFrom told (outside (record { before = sink; after = t; same = X }) (record { before = record { faults = faults; told = told }; after = z.pages; same = Y })) (record { before = lines; after = z.lines; same = Z }) start g breaks) status
refused_run g start frames m f between breaks new sink faults None lines z a t status X Y Z ends =
    let o = a.only_these in
    record {
      meant = Unfinished;
      grown = append (writes o.sent o.replies) nothing;
      so = inl (end.Restart, record { given = a.restarts.lines; took = a.restarts.took; asked = a.restarts.asked; cause = tt; answer = refl; unrecorded = refl; unsaved = refl });
      ends = ends_after sink z.sink t Unfinished (writes o.sent o.replies) nothing status o.grew a.quiet.sink ends;
    }
refused_run g start frames m f between breaks new sink faults (Some file) lines z a t status X Y Z ends =
    let left = (held_after g (begun start breaks) a.restarts.lines).session in
    let replies = transcript g (begun start breaks) a.restarts.lines in
    let spot : Spot = spot_at left (replies ++ []) in
    let wrote = writes left.machine.output (replies ++ []) in
    let grew = subst (λ (k : List ℕ). Grew sink.told z.sink.told (writes left.machine.output k)) (sym (append-nil replies)) (run_grew g start frames m f between breaks new (hears_with sink faults (Some file) lines) z a file refl) in
    record {
      meant = Unfinished;
      grown = wrote_at end.Restart spot;
      so = inl (end.Restart, record { given = a.restarts.lines; took = a.restarts.took; asked = a.restarts.asked; spot = spot; stops = refl; cause = tt; answer = refl; wrote = refl });
      ends = subst (λ (k : Channels). EndsFrom sink t Unfinished k status) (append-nothing wrote) (ends_after sink z.sink t Unfinished wrote nothing status grew a.quiet.sink ends);
    }

-- no more starts are counted
module _ (g : Terms) (start : Flat) (frames : ℕ) (m : Engine) (f : IsFresh m frames start) (between : IsBetween m) (breaks : Plan) (n : ℕ) (x y : Hearing) (quiet : IsQuiet x y) (t : Seen Channels) (status : Status) (X Y Z : Type 0) (all : n ≡ 2 ^ 64 - 1) (ends : EndsFrom y.sink t Done (only Report (machine_report m (last_of m.ended) [])) status) where
  abbrev worn_seen : Outside
  worn_seen = outside (record { before = x.sink; after = t; same = X }) (record { before = x.pages; after = y.pages; same = Y })

  abbrev worn_lines : Change (List Text)
  worn_lines = record { before = x.lines; after = y.lines; same = Z }

  abbrev after_last : Outside
  after_last = outside (record { before = y.sink; after = t; same = X }) (record { before = y.pages; after = y.pages; same = Y })

  pub worn_out : (told : Option BlockFile) → IsBehindRuns told g start breaks n x y → EndsSo worn_seen.sink (WentFrom told worn_seen worn_lines start g) status
  worn_out None b =
      let o = b.only_these in
      let text = only Report (machine_report m (last_of m.ended) []) in
      record {
        meant = Done;
        grown = append (writes o.sent o.replies) text;
        so = (y.lines.told, record { runs = b.runs; asked = b.asked; took = b.took }, inr (record { many = b.many ∙ all; same = refl; answer = refl; unrecorded = refl; unsaved = refl }));
        ends = ends_after x.sink y.sink t Done (writes o.sent o.replies) text status o.grew quiet.sink ends;
      }
  worn_out (Some file) b =
      let here = subst (λ (k : Option BlockFile). IsHere (record { flat = start; channels = y.sink.told }) (opening start) [] (scene m k y.sink.told)) (sym b.tells) (first_here m frames start b.file y.sink.told f between) in
      let last = broken_off [] (At start) 0 (last_of start.ending) in
      record {
        meant = Done;
        grown = append (runs_output g start no_plan b.runs) last;
        so = (y.lines.told, record { runs = b.runs; asked = b.asked; took = b.took }, last, inr (record { many = b.many ∙ all; same = refl; answer = refl; wrote = refl }), refl);
        ends = ends_after x.sink y.sink t Done (runs_output g start no_plan b.runs) last status b.grew quiet.sink
            (told_here after_last worn_lines g breaks m m frames start f between y.sink status refl (opening start) [] Done here ends);
      }

-- a start that was refused
module _ (g : Terms) (start : Flat) (frames : ℕ) (m : Engine) (f : IsFresh m frames start) (between : IsBetween m) (breaks new : Plan) (n : ℕ) (x : Hearing) (sink : Seen Channels) (faults : Failures) (now : Option BlockFile) (lines_before : Seen (List Text)) (z : Hearing)
    (a : GoesAnew g breaks new m (hears_with sink faults now lines_before) z) (quiet : IsQuiet x (hears_with sink faults now lines_before)) (t : Seen Channels) (status : Status) (X Y Z : Type 0) where
  pub refused : (told : Option BlockFile) → IsBehindRuns told g start breaks n x (hears_with sink faults now lines_before) → IsRefusedAnew z.sink t status
      → EndsSo (record { before = x.sink; after = t; same = X })
      (WentFrom told (outside (record { before = x.sink; after = t; same = X }) (record { before = x.pages; after = z.pages; same = Y })) (record { before = x.lines; after = z.lines; same = Z }) start g) status
  refused told b (inl ends) =
      went_all x (hears_with sink faults now lines_before) quiet t z.pages z.lines X Y Z X Y Z told g start breaks n status b
      (refused_run g start frames m f between breaks new sink faults now lines_before z a t status X Y Z ends)
  refused told b (inr c) = reply_cut g start frames m f between breaks new n x (hears_with sink faults now lines_before) z a quiet t status c X Y Z told b
