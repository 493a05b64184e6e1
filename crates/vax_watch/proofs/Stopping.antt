-- Where a traced run begins and stops.
use Rattle.std.proofs.Common.{ℕ, ◌≡◌, ◌<◌, ◌≤◌, Bool, true, false, nat_le, nat_lt, List, [], ◌++◌, append-nil, Option, Some, None, refl, sym, ap, subst, ◌∙◌, arith, inl, inr}
use Rattle.std.specs.List.{list_any}
use Rattle.std.specs.Prelude.{◌&&◌, ◌==◌, is_none, slice_index}
use Rattle.std.proofs.lemmas.Bool.Decides.{nat_tests}
use Rattle.vax_word.specs.declared.Core.{Core}
use Rattle.vax_outside.specs.Blocks.{BlockFile}
use Rattle.vax_outside.specs.Channels.{Channels, Grew, GrewByPrefix, append, nothing, only}
use Rattle.vax_outside.specs.declared.traits.Chan.TheVariants.{Record}
use Rattle.vax_outside.proofs.Growth.{grew_nothing}
use Rattle.vax_flat.specs.declared.Ending.{Ending}
use Rattle.vax_flat.specs.Parts.{At, GoesBy, machine_at}
use Rattle.vax_flat.specs.Step.{Flat, run}
use Rattle.vax_pager.specs.Meaning.{pages}
use Rattle.vax_machine.specs.Console.{IsBetween}
use Rattle.vax_machine.specs.Machine.{Keeping, Means}
use Rattle.vax_machine.specs.Paged.{paged}
use Rattle.vax_machine.specs.Run.{System, Tracks}
use Rattle.vax_machine.specs.Writing.{held_in}
use Rattle.vax_machine.specs.declared.engine.Engine.{Engine}
use Rattle.vax_machine.proofs.Running.{by_ending, by_steps}
use Rattle.vax_watch.specs.Breaks.{is_break}
use Rattle.vax_watch.specs.Listing.{listing, pc_of}
use Rattle.vax_watch.specs.Plans.{AreLookedAt, IsLookedAt, all_watched, watches_in}
use Rattle.vax_watch.specs.Traced.{IsCutTrace, IsLostTrace, IsTraced, Trace, Traces, WrittenIn, limits_of, stop_of, turns_of}
use Rattle.vax_watch.specs.Tracing.{Finishes, IsBegun, IsCutShort, IsDue, Keeps, Leaves, Stage, Stands, Starts, Stops, stopped_by}
use Rattle.vax_watch.specs.declared.watch.Seen.{Seen}
use Rattle.vax_watch.specs.declared.watch.Watch.{Watch}
use Rattle.vax_watch.specs.declared.steps.TraceEnd.{TraceEnd}
use Rattle.vax_watch.specs.declared.steps.TraceEnd.TheVariants.{Ended, Steps, Break, Turns, PageFault, WriteFault}
use Rattle.vax_watch.proofs.Breaking.{stop_break, stop_limit}
use Rattle.vax_watch.proofs.Written.{written_none, written_read}
use Rattle.vax_watch.proofs.Holding.{all_written, part_written}
use Rattle.vax_watch.proofs.Stepping.{between_looked, core_of, ending_of, goes_to, means_steps, tracks_looked}
use Rattle.vax_watch.proofs.Watching.{latest_seen, watches_kept}

-- between two steps

module _ (t : Trace) (old : Option Channels) (s : Stage) (begun : IsBegun t) (h : Stands t old s) where
  abbrev m : Engine
  m = s.system.machine

  abbrev n : ℕ
  n = s.system.machine.steps

  abbrev here : Flat
  here = run s.system.machine.steps t.start

  means_here : Means m s.system.file (At here)
  means_here = means_steps t begun h.made m s.system.file h.keeps.tracks h.between

  abbrev at_break : Bool
  at_break = list_any (λ a. a == slice_index m.cpu.core.regs 15) t.breaks

  pc_is : at_break ≡ list_any (λ address. address == pc_of here) t.breaks
  pc_is = ap (λ (c : Core). list_any (λ a. a == slice_index c.regs 15) t.breaks) (core_of m s.system.file here means_here)

  break_is : (how : Option Ending) → here.ending ≡ how → how ≡ None → (b : Bool) → at_break ≡ b → is_break t.breaks here ≡ b
  break_is None e none b is = ap (λ (x : Option Ending). is_none x && list_any (λ address. address == pc_of here) t.breaks) e ∙ (sym pc_is ∙ is)
  break_is (Some x) e none b is = absurd (cc none)

  and_parts : (a b : Bool) → (a && b) ≡ true → (a ≡ true) × (b ≡ true)
  and_parts true b k = (refl, k)
  and_parts false b k = absurd (cc k)

  and_none : (a b : Bool) → (a && b) ≡ false → a ≡ true → b ≡ false
  and_none true b k e = k
  and_none false b k e = absurd (cc e)

  at_limit : (a : Bool) → nat_le t.limits.steps n ≡ true → n ≡ t.limits.steps
  at_limit a e = let few = h.few in let le : t.limits.steps ≤ n = grind (arith, nat_tests, e) in omega (arith, few, le)

  below_limit : nat_le t.limits.steps n ≡ false → n < t.limits.steps
  below_limit e = grind (arith, nat_tests, e)

  stops_ending : (e : Ending) → m.ended ≡ Some e → Stops t (Ended e) old s
  stops_ending e is = record { named = tt; made = h.made; keeps = h.keeps; stopped = by_ending (limits_of t) m s.system.file (turns_of t h.made) e is h.keeps.tracks }

  stops_steps : m.ended ≡ None → nat_le t.limits.steps n ≡ true → Stops t Steps old s
  stops_steps going e =
      let is = at_limit true e in
      let stop : stop_of t ≡ t.limits.steps = stop_limit t.limits.steps t.breaks t.start (λ k some low. h.unbroken k some (omega (arith, low, is))) in
      record { named = stop; made = h.made; keeps = h.keeps; stopped = by_steps (limits_of t) m s.system.file (turns_of t h.made) going (omega (arith, stop, is)) h.keeps.tracks }

  some_steps : nat_lt 0 n ≡ true → 1 ≤ n
  some_steps e = grind (arith, nat_tests, e)

  no_steps : 1 ≤ n → nat_lt 0 n ≡ true
  no_steps e = grind (arith, nat_tests, e)

  ending_here : here.ending ≡ m.ended
  ending_here = sym (ending_of m s.system.file here means_here)

  stops_break : m.ended ≡ None → nat_le t.limits.steps n ≡ false → (nat_lt 0 n && at_break) ≡ true → Stops t Break old s
  stops_break going low e =
      let both = and_parts (nat_lt 0 n) at_break e in
      let less = below_limit low in
      let is = break_is here.ending refl (ending_here ∙ going) true both.1 in
      let stop : stop_of t ≡ n = stop_break t.limits.steps t.breaks t.start n (record { some = some_steps both.0; here = is; before = h.unbroken }) less in
      record { named = omega (arith, stop, less); made = h.made; keeps = h.keeps; stopped = by_steps (limits_of t) m s.system.file (turns_of t h.made) going (omega (arith, stop)) h.keeps.tracks }

  by_how : (how : Option Ending) (a b : Bool) (end : TraceEnd) → m.ended ≡ how → nat_le t.limits.steps n ≡ a → (nat_lt 0 n && at_break) ≡ b → stopped_by how a b ≡ Some end → Leaves t end old s
  by_how (Some e) a b end is at_a at_b k = let same : Ended e ≡ end = cc in subst (λ (z : TraceEnd). Leaves t z old s) same (stops_ending e is)
  by_how None true b end is at_a at_b k = let same : Steps ≡ end = cc in subst (λ (z : TraceEnd). Leaves t z old s) same (stops_steps is at_a)
  by_how None false true end is at_a at_b k = let same : Break ≡ end = cc in subst (λ (z : TraceEnd). Leaves t z old s) same (stops_break is at_a at_b)
  by_how None false false end is at_a at_b k = absurd (cc k)

  -- it stops
  pub stops_between : (end : TraceEnd) → stopped_by m.ended (nat_le t.limits.steps n) (nat_lt 0 n && at_break) ≡ Some end → Leaves t end old s
  stops_between end k = by_how m.ended (nat_le t.limits.steps n) (nat_lt 0 n && at_break) end refl refl refl k

  due_how : (how : Option Ending) (a b : Bool) → stopped_by how a b ≡ None → (how ≡ None) × (a ≡ false) × (b ≡ false)
  due_how (Some e) a b k = absurd (cc k)
  due_how None true b k = absurd (cc k)
  due_how None false true k = absurd (cc k)
  due_how None false false k = (refl, refl, refl)

  -- or goes on
  pub is_due : stopped_by m.ended (nat_le t.limits.steps n) (nat_lt 0 n && at_break) ≡ None → IsDue t s
  is_due k =
      let d = due_how m.ended (nat_le t.limits.steps n) (nat_lt 0 n && at_break) k in
      record {
        going = d.0;
        steps = below_limit d.1;
        unbroken = λ some. break_is here.ending refl (ending_here ∙ d.0) false (and_none (nat_lt 0 n) at_break d.2 (no_steps some));
      }

-- the bytes of the watches are seen for the first time

module _ (t : Trace) (old : Option Channels) (s : Stage) (begun : IsBegun t) (h : Starts t old s) (m : Engine) (file : Option BlockFile) (l : IsLookedAt s.system.machine s.system.file m file) where
  start_steps : m.steps ≡ 0
  start_steps = ap (λ (k : Keeping). k.steps) l.keeps ∙ h.steps

  tracks_start : Tracks m file (turns_of t 0)
  tracks_start = tracks_looked s.system.machine m s.system.file file (turns_of t 0) l h.keeps.tracks

  written_start : WrittenIn t 0 file
  written_start = written_read t.areas t.from (turns_of t 0) t.file s.system.file file l.reads h.keeps.written

  pub stands_first : (seen : List Seen) → AreLookedAt s.system.machine s.system.file s.seen seen → Stands t old (record s { system = record s.system { machine = m; file = file }; seen = seen })
  stands_first seen looked =
      let means = means_steps t begun 0 s.system.machine s.system.file h.keeps.tracks h.between in
      let k = h.keeps.holds in
      record {
        made = 0;
        keeps = subst (λ (n : ℕ). Keeps t old 0 n (record s { system = record s.system { machine = m; file = file }; seen = seen })) (sym start_steps) (record {
          goes = h.keeps.goes;
          tracks = tracks_start;
          written = written_start;
          holds = record { out = k.out; recorded = k.recorded; sent = k.sent; lines = k.lines; wrote = k.wrote; unlisted = k.unlisted };
        });
        areas = ap (λ (z : Keeping). z.areas) l.keeps ∙ h.areas;
        between = between_looked s.system.machine m s.system.file file l h.between;
        few = omega (arith, start_steps);
        unbroken = λ i some low. absurd (omega (arith, some, low, start_steps));
        watches = watches_kept s.system.machine s.system.file s.seen seen looked ∙ h.watches;
        seen =
            latest_seen s.system.machine s.system.file s.seen seen looked (At (run s.system.machine.steps t.start)) means
            ∙ (ap (λ (ws : List Watch). all_watched ws (run s.system.machine.steps t.start).memory) h.watches ∙ ap (λ (i : ℕ). all_watched t.watches (run i t.start).memory) (h.steps ∙ sym start_steps));
      }

  -- or can't be
  pub unseen : (seen : List Seen) → IsCutShort t old (record s { system = record s.system { machine = m; file = file }; seen = seen })
  unseen seen =
      let k = h.keeps.holds in
      record {
        made = 0;
        goes = h.keeps.goes;
        means = tracks_start.means;
        steps = tracks_start.steps;
        fails = inr written_start;
        lines = 0;
        all_but = inl (sym start_steps);
        holds = record { out = k.out; recorded = k.recorded; sent = k.sent; lines = k.lines; wrote = k.wrote; unlisted = k.unlisted };
      }

-- what is held back is written at the end

module _ (t : Trace) (old : Option Channels) (s : Stage) (begun : IsBegun t) (now : Option Channels) where
  abbrev end_at : System
  end_at = record { machine = s.system.machine; file = s.system.file; channels = now }

  abbrev left : Channels
  left = append (held_in s.held) (only Record s.lines)

  traced_whole : (end : TraceEnd) → Stops t end old s → Grew s.system.channels now left → IsTraced t end old end_at
  traced_whole end h g = record {
    named = h.named;
    made = h.made;
    goes = h.keeps.goes;
    stopped = h.stopped;
    tracks = h.keeps.tracks;
    blocks = h.keeps.written;
    sent = h.keeps.holds.out ++ (held_in s.held).out;
    output = h.keeps.holds.sent;
    wrote = all_written t old s.system.machine.steps s (machine_at (turns_of t h.made).place).output h.keeps.holds now g;
  }

  traced_cut : IsCutShort t old s → Grew s.system.channels now left → IsCutTrace t old end_at
  traced_cut h g = record {
    made = h.made;
    goes = h.goes;
    means = h.means;
    steps = h.steps;
    follows = subst (λ (n : ℕ). GoesBy (run n t.start) (turns_of t h.made).place) (sym h.steps) (goes_to t begun h.made);
    fails = h.fails;
    sent = h.holds.out ++ (held_in s.held).out;
    output = h.holds.sent;
    lines = h.lines;
    all_but = h.all_but;
    wrote = all_written t old h.lines s (machine_at (turns_of t h.made).place).output h.holds now g;
  }

  lost_whole : (end : TraceEnd) → Stops t end old s → GrewByPrefix s.system.channels now left → IsLostTrace t old now
  lost_whole end h g = record {
    made = h.made;
    goes = h.keeps.goes;
    sent = h.keeps.holds.out ++ (held_in s.held).out;
    output = h.keeps.holds.sent;
    lines = s.system.machine.steps;
    few = let e = h.keeps.tracks.steps in omega (arith, e);
    wrote = part_written t old s.system.machine.steps s (machine_at (turns_of t h.made).place).output h.keeps.holds now g;
  }

  lost_cut : IsCutShort t old s → GrewByPrefix s.system.channels now left → IsLostTrace t old now
  lost_cut h g = record {
    made = h.made;
    goes = h.goes;
    sent = h.holds.out ++ (held_in s.held).out;
    output = h.holds.sent;
    lines = h.lines;
    few = elim h.all_but [
      | inl e ↦ let k = h.steps in omega (arith, e, k)
      | inr u ↦ let e = u.but_one in let k = h.steps in omega (arith, e, k)
    ];
    wrote = part_written t old h.lines s (machine_at (turns_of t h.made).place).output h.holds now g;
  }

  pub written_whole : (end : TraceEnd) → Leaves t end old s → (end ≡ WriteFault → ⊥) → Grew s.system.channels now left → Traces t end old end_at
  written_whole (Ended e) h other g = traced_whole (Ended e) h g
  written_whole Steps h other g = traced_whole Steps h g
  written_whole Break h other g = traced_whole Break h g
  written_whole Turns h other g = traced_whole Turns h g
  written_whole PageFault h other g = traced_cut h g
  written_whole WriteFault h other g = absurd (other refl)

  pub written_part : (end : TraceEnd) → Leaves t end old s → (end ≡ WriteFault → ⊥) → GrewByPrefix s.system.channels now left → IsLostTrace t old now
  written_part (Ended e) h other g = lost_whole (Ended e) h g
  written_part Steps h other g = lost_whole Steps h g
  written_part Break h other g = lost_whole Break h g
  written_part Turns h other g = lost_whole Turns h g
  written_part PageFault h other g = lost_cut h g
  written_part WriteFault h other g = absurd (other refl)

-- all of it was written, or a prefix
pub finished_traces : (t : Trace) (old : Option Channels) (s : Stage) → IsBegun t → (now : Option Channels) (end result : TraceEnd) → Leaves t end old s → (end ≡ WriteFault → ⊥) → Finishes end result (append (held_in s.held) (only Record s.lines)) s.system.channels now → Traces t result old (record { machine = s.system.machine; file = s.system.file; channels = now })
finished_traces t old s begun now end result h other (inl f) =
    subst (λ (z : TraceEnd). Traces t z old (record { machine = s.system.machine; file = s.system.file; channels = now })) (sym f.0) (written_whole t old s begun now end h other f.1)
finished_traces t old s begun now end result h other (inr f) =
    subst (λ (z : TraceEnd). Traces t z old (record { machine = s.system.machine; file = s.system.file; channels = now })) (sym f.0) (written_part t old s begun now end h other f.1)

-- the start

pub starts_here : (t : Trace) (old : Option Channels) (s : Stage) → t.file ≡ s.system.file → Tracks s.system.machine s.system.file t.from → (machine_at t.from.place).output ≡ t.start.output → (pages s.system.machine.pager).areas ≡ t.areas → IsBetween s.system.machine → s.system.machine.steps ≡ 0 → watches_in s.seen ≡ t.watches → held_in s.held ≡ nothing → s.held.listed ≡ false → s.lines ≡ [] → s.system.channels ≡ old → Starts t old s
unfolding paged listing
starts_here t old s told tracks output areas between steps watches held listed lines same = record {
  keeps = record {
    goes = record { going = λ i low. absurd (omega (arith, low)) };
    tracks = tracks;
    written = written_none t.areas t.from t.file s.system.file told;
    holds = record {
      out = [];
      recorded = [];
      sent = output ∙ (sym (append-nil t.start.output) ∙ ap (λ (c : Channels). t.start.output ++ c.out) (sym held));
      lines = lines;
      wrote = same ∙ grew_nothing old;
      unlisted = listed;
    };
  };
  areas = areas;
  between = between;
  steps = steps;
  watches = watches;
}
