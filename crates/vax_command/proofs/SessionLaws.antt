-- What a session comes to, from what the console did.
use Rattle.std.proofs.Common.{◌≡◌, ◌<◌, ◌≤◌, ◌+◌, ◌-◌, ◌*◌, ◌^◌, ◌⊎◌, ◌++◌, ℕ, List, [], Option, Some, None, refl, sym, ap, subst, ◌∙◌, inl, inr, arith}
use Rattle.vax_outside.specs.Blocks.{BlockFile}
use Rattle.vax_outside.specs.Channels.{Channels, Grew, GrewByPrefix, append, nothing, only}
use Rattle.vax_outside.specs.declared.traits.Chan.TheVariants.{Report}
use Rattle.vax_outside.proofs.Growth.{append-nothing}
use Rattle.vax_flat.specs.Parts.{Place, At, Within, machine_at, units_done}
use Rattle.vax_flat.specs.Step.{Flat}
use Rattle.vax_machine.specs.Attempt.{open_at}
use Rattle.vax_image.specs.Start.{start_areas}
use Rattle.vax_sched.specs.Faults.{Denotes}
use Rattle.vax_sched.specs.declared.rule.Rule.{Rule}
use Rattle.vax_report.specs.declared.Last.{Last}
use Rattle.vax_report.specs.declared.Last.TheVariants as last
use Rattle.vax_machine.specs.Machine.{Means, keeping, residence}
use Rattle.vax_machine.specs.Meaning.{units_of}
use Rattle.vax_machine.specs.Paged.{Paged}
use Rattle.vax_machine.specs.declared.engine.Engine.{Engine}
use Rattle.vax_machine.specs.declared.event.Limits.{Limits}
use Rattle.vax_script.specs.declared.request.Line.{Line}
use Rattle.vax_console.specs.Ends as console
use Rattle.vax_console.specs.Ends.{IsAt, IsCutByTurns, IsCutOff, IsPartOf, IsWithin, OnlyReplied, scene, session_on, writes}
use Rattle.vax_console.specs.Parts.{LinesHaveParts, Spends, SpendsInto}
use Rattle.vax_console.specs.Transcript.{Session, session_after, transcript}
use Rattle.vax_console.specs.Turns.{Holds, HoldsFrom, Stand, setting}
use Rattle.vax_console.proofs.Completing.{turns_short}
use Rattle.vax_console.specs.declared.SessionEnd.{SessionEnd}
use Rattle.vax_console.specs.declared.SessionEnd.TheVariants as session_end
use Rattle.vax_cli.specs.Words.{Options, Text}
use Rattle.vax_command.specs.Around.{HasFailed, Outside, Seen}
use Rattle.vax_command.specs.Ends.{Ends, EndsFrom, EndsSo}
use Rattle.vax_command.specs.Status.{refusal_growth}
use Rattle.vax_command.specs.declared.status.Status.{Status}
use Rattle.vax_command.specs.declared.status.Status.TheVariants.{Done, NoMemory, PageFault, Turns, WriteFault}
use Rattle.vax_command.specs.Fresh.{IsFresh, machine_report}
use Rattle.vax_command.specs.Loaded.{Loaded}
use Rattle.vax_command.specs.Running.{IsFaulty}
use Rattle.vax_command.proofs.RunLaws.{ends_after, reported_at}
use Rattle.vax_command.specs.Holding.{Held, session_opening}
use Rattle.vax_command.specs.SessionWent.{AreFew, Goes, Opening, SessionFrom, SessionWent, broken_off, first_stand, opening, opening_of}

-- a machine at the start of a program opens a session
opens : (m : Engine) (frames : ℕ) (start : Flat) → IsFresh m frames start → session_on m start ≡ opening start
opens m frames start f = ap (λ (steps : ℕ). record { machine = start; steps = steps }) (ap (λ (p : Paged). p.steps) f.begins)

-- how a session went, whatever its page file told before, and how its call ends
abbrev pub Told : Option BlockFile → Outside → Opening → Status → Type 0
Told told outside o result = EndsSo outside.sink (SessionFrom told outside o) result

-- a session on a machine that starts so
abbrev pub begins : Engine → ℕ → Flat → Limits → List Rule → List Line → Opening
begins m frames start limits rules lines = opening_of frames start (setting limits (keeping m).areas rules) lines

-- what the console did with whatever its page file told
abbrev pub Did : Limits → List Line → Engine → Option BlockFile → SessionEnd → Engine → Option BlockFile → Option Channels → Option Channels → Type 0
Did limits lines m told end n after old between = (flat : Flat) → Means m told (At flat) → console.Ends end limits (session_on m flat) lines n after old between

-- and the turns that it took
abbrev pub Took : Limits → List Rule → List Line → Engine → Option BlockFile → SessionEnd → Engine → Option BlockFile → Type 0
Took limits rules lines m told end n after = (flat : Flat) → Means m told (At flat) → Spends (console.outcome_of end) limits.steps rules (session_on m flat) lines m n after

-- and how it went, turn by turn
abbrev pub Made : Limits → List Rule → List Line → Engine → Option BlockFile → SessionEnd → Engine → Option BlockFile → Option Channels → Option Channels → Type 0
Made limits rules lines m told end n after old between = HoldsFrom (scene m told old) (scene n after between) limits rules lines (console.outcome_of end)

-- of a machine at the start
holds_from : (outside : Outside) (frames : ℕ) (start : Flat) (limits : Limits) (rules : List Rule) (lines : List Line) (m n : Engine) (file : BlockFile) (sink : Option Channels) (end : SessionEnd) → IsFresh m frames start →
    Made limits rules lines m (Some file) end n outside.pages.after.told outside.sink.before.told sink → Holds (console.outcome_of end) (setting limits (keeping m).areas rules) lines (first_stand outside file (begins m frames start limits rules lines)) (scene n outside.pages.after.told sink)
holds_from outside frames start limits rules lines m n file sink end f made =
    let with_turns : Paged → Stand = λ at. record { at = at; file = Some file; sink = outside.sink.before.told } in
    let after = scene n outside.pages.after.told sink in
    subst (λ (s : Stand). Holds (console.outcome_of end) (setting limits (keeping m).areas rules) lines s after) (ap with_turns f.begins) (made start (f.means file))

open_units : (place : Place) → units_of (open_at place) ≡ units_done place
open_units (At m) = refl
open_units (Within p) = refl

-- all that was sent, from a start that has sent nothing
sent_all : (start output sent : List ℕ) → start ≡ [] → output ≡ start ++ sent → sent ≡ output
sent_all start output sent none is = sym (is ∙ ap (λ o. o ++ sent) none)

-- What is known of a session on a machine that starts so: what it sees of the outside, the machine it leaves, the sink behind it, and the answer.
module _ (outside : Outside) (limits : Limits) (rules : List Rule) (lines : List Line) (m n : Engine) (frames : ℕ) (start : Flat) (f : IsFresh m frames start) (mid : Seen Channels) (result : Status) where
  -- from the session's beginning as the start is
  at_opening : (end : SessionEnd) (file : BlockFile) → Did limits lines m (Some file) end n outside.pages.after.told outside.sink.before.told mid.told → console.Ends end limits (opening start) lines n outside.pages.after.told outside.sink.before.told mid.told
  at_opening end file did = subst (λ (s : Session). console.Ends end limits s lines n outside.pages.after.told outside.sink.before.told mid.told) (opens m frames start f) (did start (f.means file))

  within_wrote : (s : Session) (most : ℕ) (replies : List ℕ) (w : IsWithin start s most replies n outside.pages.after.told outside.sink.before.told mid.told) → Grew outside.sink.before.told mid.told (writes (machine_at w.place).output replies)
  within_wrote s most replies w = subst (λ (out : List ℕ). Grew outside.sink.before.told mid.told (writes out replies)) (sent_all start.output (machine_at w.place).output w.sent f.silent w.output) w.wrote

  -- the report behind what was written
  behind : (s : Session) (most : ℕ) (replies : List ℕ) (why : Last) (meant : Status) (w : IsWithin start s most replies n outside.pages.after.told outside.sink.before.told mid.told) → mid.faults.count ≡ outside.sink.before.faults.count → EndsFrom mid outside.sink.after meant (only Report (machine_report n why [])) result
      → Ends outside.sink meant (broken_off replies w.place n.steps why) result
  behind s most replies why meant w quiet ends =
      let text = ap (only Report) (reported_at n outside.pages.after.told w.place n.steps why [] refl w.means) in
      subst (λ (c : Channels). Ends outside.sink meant (append (writes (machine_at w.place).output replies) c) result) text
      (ends_after outside.sink.before mid outside.sink.after meant (writes (machine_at w.place).output replies) (only Report (machine_report n why [])) result (within_wrote s most replies w) quiet ends)

  not_ended : (file : Option BlockFile) (place : Place) → Means n file place → n.ended ≡ None → (machine_at place).ending ≡ None
  not_ended file place means e = sym (ap (λ (flat : Flat). flat.ending) means.processor.machine) ∙ e

  same_units : (file : Option BlockFile) (a b : Place) → Means n file a → Means n file b → units_done a ≡ units_done b
  same_units file a b x y = sym (ap units_of x.processor.open_one ∙ open_units a) ∙ (ap units_of y.processor.open_one ∙ open_units b)

  -- nothing was counted at the start
  took_at : (file : BlockFile) (after : Option BlockFile) → Took limits rules lines m (Some file) session_end.Turns n after → SpendsInto limits.steps rules (opening start) lines m n after
  took_at file after took = subst (λ (s : Session). SpendsInto limits.steps rules s lines m n after) (opens m frames start f) (took start (f.means file))

  no_turns : m.turns ≡ 0
  no_turns = ap (λ (p : Paged). p.turns) f.begins

  none_spoiled : (residence m).spoiled ≡ 0
  none_spoiled = ap (λ (p : Paged). p.residence.spoiled) f.begins

  are_few : (file : BlockFile) (after : Option BlockFile) (place : Place) → Means n after place → limits.turns ≤ n.turns → Took limits rules lines m (Some file) session_end.Turns n after → AreFew limits rules (opening start) lines n.steps (units_done place)
  are_few file after place means reached took =
      let y = (took_at file after took).some in
      record {
        place = y.place;
        here = same_units after y.place place y.means means;
        parts = y.parts;
        through = y.through;
        few = λ quiet.
            let same = y.few.unspoiled quiet in
            let k = y.few.turns (omega (arith, same, none_spoiled)) in
            omega (arith, k, same, no_turns, reached);
      }

  -- a limit of turns for all parts would have been enough
  enough : (file : BlockFile) (after : Option BlockFile) → limits.turns ≤ n.turns → Took limits rules lines m (Some file) session_end.Turns n after → (all : ℕ) → LinesHaveParts limits.steps (opening start) lines all → (residence n).spoiled < 2 ^ 64 - 1 → limits.turns < 41 * all + (residence n).spoiled
  enough file after reached took all have low =
      let k = turns_short limits.steps limits.turns rules (opening start) lines m n after all (took_at file after took) have reached low in
      omega (arith, k, none_spoiled, no_turns)

  unspoiled : (file : BlockFile) (after : Option BlockFile) → Took limits rules lines m (Some file) session_end.Turns n after → rules ≡ [] → (residence n).spoiled ≡ 0
  unspoiled file after took quiet = (took_at file after took).some.few.unspoiled quiet ∙ none_spoiled

  pub timed_out : (told : Option BlockFile) → Did limits lines m told session_end.Turns n outside.pages.after.told outside.sink.before.told mid.told → Took limits rules lines m told session_end.Turns n outside.pages.after.told → Made limits rules lines m told session_end.Turns n outside.pages.after.told outside.sink.before.told mid.told → OnlyReplied outside.sink.before.told mid.told → mid.faults.count ≡ outside.sink.before.faults.count
      → EndsFrom mid outside.sink.after Turns (only Report (machine_report n last.Turns [])) result → Told told outside (begins m frames start limits rules lines) result
  timed_out None did took made only_these quiet ends =
      let text = only Report (machine_report n last.Turns []) in
      let wrote = writes only_these.sent only_these.replies in
      record { meant = Turns; grown = append wrote text; so = tt; ends = ends_after outside.sink.before mid outside.sink.after Turns wrote text result only_these.grew quiet ends }
  timed_out (Some file) did took made only_these quiet ends =
      let c : IsCutByTurns limits (opening start) lines n outside.pages.after.told outside.sink.before.told mid.told = at_opening session_end.Turns file did in
      let w = c.within in
      let replies = transcript limits.steps (opening start) c.front in
      record {
        meant = Turns;
        grown = broken_off replies w.place n.steps last.Turns;
        so = inr (inl (record { front = c.front; back = c.back; splits = c.splits; at = record { sink = mid.told; goes = record { machine = n; holds = holds_from outside frames start limits rules lines m n file mid.told session_end.Turns f made }; place = w.place; means = w.means }; on_the_way = w.goes; told = within_wrote _ _ replies w; too_low = enough file outside.pages.after.told c.out.reached took; unspoiled = unspoiled file outside.pages.after.told took; going = not_ended outside.pages.after.told w.place w.means c.out.going; below = c.out.below; few = are_few file outside.pages.after.told w.place w.means c.out.reached took; answer = refl; wrote = refl }));
        ends = behind _ _ replies last.Turns Turns w quiet ends;
      }

  pub cut_off : (told : Option BlockFile) → HasFailed outside.pages → Did limits lines m told session_end.PageFault n outside.pages.after.told outside.sink.before.told mid.told → Made limits rules lines m told session_end.PageFault n outside.pages.after.told outside.sink.before.told mid.told → OnlyReplied outside.sink.before.told mid.told → mid.faults.count ≡ outside.sink.before.faults.count
      → EndsFrom mid outside.sink.after PageFault (only Report (machine_report n last.PageFault [])) result → Told told outside (begins m frames start limits rules lines) result
  cut_off None rose did made only_these quiet ends =
      let text = only Report (machine_report n last.PageFault []) in
      let wrote = writes only_these.sent only_these.replies in
      record { meant = PageFault; grown = append wrote text; so = rose; ends = ends_after outside.sink.before mid outside.sink.after PageFault wrote text result only_these.grew quiet ends }
  cut_off (Some file) rose did made only_these quiet ends =
      let c : IsCutOff limits (opening start) lines n outside.pages.after.told outside.sink.before.told mid.told = at_opening session_end.PageFault file did in
      let w = c.within in
      let replies = transcript limits.steps (opening start) c.front in
      record {
        meant = PageFault;
        grown = broken_off replies w.place n.steps last.PageFault;
        so = inr (inr (rose, record { front = c.front; back = c.back; splits = c.splits; at = record { sink = mid.told; goes = record { machine = n; holds = holds_from outside frames start limits rules lines m n file mid.told session_end.PageFault f made }; place = w.place; means = w.means }; on_the_way = w.goes; told = within_wrote _ _ replies w; answer = refl; wrote = refl }));
        ends = behind _ _ replies last.PageFault PageFault w quiet ends;
      }

module _ (outside : Outside) (limits : Limits) (rules : List Rule) (lines : List Line) (m n : Engine) (frames : ℕ) (start : Flat) (f : IsFresh m frames start) where
  from_opening : (end : SessionEnd) (file : BlockFile) → Did limits lines m (Some file) end n outside.pages.after.told outside.sink.before.told outside.sink.after.told → console.Ends end limits (opening start) lines n outside.pages.after.told outside.sink.before.told outside.sink.after.told
  from_opening end file did = subst (λ (s : Session). console.Ends end limits s lines n outside.pages.after.told outside.sink.before.told outside.sink.after.told) (opens m frames start f) (did start (f.means file))

  all_goes : (end : SessionEnd) (file : BlockFile) → Made limits rules lines m (Some file) end n outside.pages.after.told outside.sink.before.told outside.sink.after.told → Goes outside (begins m frames start limits rules lines) file end outside.sink.after.told
  all_goes end file made = record { machine = n; holds = holds_from outside frames start limits rules lines m n file outside.sink.after.told end f made }

  pub read_out : (told : Option BlockFile) → Did limits lines m told session_end.Read n outside.pages.after.told outside.sink.before.told outside.sink.after.told → Made limits rules lines m told session_end.Read n outside.pages.after.told outside.sink.before.told outside.sink.after.told → OnlyReplied outside.sink.before.told outside.sink.after.told → outside.sink.after.faults.count ≡ outside.sink.before.faults.count → Told told outside (begins m frames start limits rules lines) Done
  read_out None did made only_these quiet = record { meant = Done; grown = writes only_these.sent only_these.replies; so = tt; ends = inl (record { answer = refl; grew = only_these.grew; quiet = quiet }) }
  read_out (Some file) did made only_these quiet =
      let at : IsAt start (session_after limits.steps (opening start) lines) (transcript limits.steps (opening start) lines) n outside.pages.after.told outside.sink.before.told outside.sink.after.told = from_opening session_end.Read file did in
      let output = (session_after limits.steps (opening start) lines).machine.output in
      let replies = transcript limits.steps (opening start) lines in
      let grew = subst (λ (out : List ℕ). Grew outside.sink.before.told outside.sink.after.told (writes out replies)) (sent_all start.output output at.sent f.silent at.output) at.wrote in
      record { meant = Done; grown = writes output replies; so = inl (record { answer = refl; wrote = refl; goes = inl (all_goes session_end.Read file made) }); ends = inl (record { answer = refl; grew = grew; quiet = quiet }) }

  pub lost : (told : Option BlockFile) → Did limits lines m told session_end.WriteFault n outside.pages.after.told outside.sink.before.told outside.sink.after.told → Made limits rules lines m told session_end.WriteFault n outside.pages.after.told outside.sink.before.told outside.sink.after.told → OnlyReplied outside.sink.before.told outside.sink.after.told → HasFailed outside.sink → Told told outside (begins m frames start limits rules lines) WriteFault
  lost None did made only_these rose =
      let wrote = writes only_these.sent only_these.replies in
      record {
        meant = Done;
        grown = wrote;
        so = tt;
        ends = inr (record { answer = refl; prefix = record { prefix = wrote; rest = nothing; splits = append-nothing wrote; grew = only_these.grew }; cause = rose });
      }
  lost (Some file) did made only_these rose =
      let part : IsPartOf start (session_after limits.steps (opening start) lines) (transcript limits.steps (opening start) lines) outside.sink.before.told outside.sink.after.told = from_opening session_end.WriteFault file did in
      let output = (session_after limits.steps (opening start) lines).machine.output in
      let replies = transcript limits.steps (opening start) lines in
      let prefix = subst (λ (out : List ℕ). GrewByPrefix outside.sink.before.told outside.sink.after.told (writes out replies)) (sent_all start.output output part.sent f.silent part.output) part.wrote in
      record { meant = Done; grown = writes output replies; so = inl (record { answer = refl; wrote = refl; goes = inr (rose, all_goes session_end.WriteFault file made) }); ends = inr (record { answer = refl; prefix = prefix; cause = rose }) }

-- what a session on programs came to
module _ (outside : Outside) (program : Loaded) (input schedule script : Text) (options : Options) (result : Status) where
  pub held_misplanned : (status : Status) → IsFaulty (start_areas program.system program.user) schedule status ⊎ (status ≡ NoMemory) → outside.pages.same → Ends outside.sink status (refusal_growth status) result → Held outside program input schedule script options result
  held_misplanned status (inl r) k ends = record { meant = status; grown = refusal_growth status; so = inr (inl (record { fault = r; wrote = refl; keeps = k })); ends = ends }
  held_misplanned status (inr e) k ends = record { meant = status; grown = refusal_growth status; so = inl (e, ap refusal_growth e, k); ends = ends }

  pub held_went : (rules : List Rule) → Denotes (start_areas program.system program.user) schedule rules → EndsSo outside.sink (SessionWent outside (session_opening program input options rules script)) result → Held outside program input schedule script options result
  held_went rules planned h = record { meant = h.meant; grown = h.grown; so = inr (inr (record { rules = rules; planned = planned; went = h.so })); ends = h.ends }
