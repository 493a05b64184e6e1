-- What a traced run sends and lists is written, or held back.
use Rattle.std.proofs.Common.{ℕ, ◌≡◌, ◌≤◌, Bool, false, List, [], ◌∷◌, ◌++◌, append-nil, append_assoc, Option, refl, sym, ap, subst, ◌∙◌}
use Rattle.std.specs.Prelude.{if◌then◌else◌}
use Rattle.vax_space.specs.declared.Area.{Area}
use Rattle.vax_outside.specs.Blocks.{BlockFile}
use Rattle.vax_outside.specs.Channels.{Channels, Grew, GrewByPrefix, append, nothing, only, unsaved}
use Rattle.vax_outside.specs.declared.traits.Chan.TheVariants.{Record}
use Rattle.vax_outside.proofs.Growth.{append-nothing, channels_assoc, grew_more, grew_nothing, prefix_in, front_unsaved}
use Rattle.vax_flat.specs.Parts.{At, machine_at}
use Rattle.vax_pager.specs.Meaning.{pages}
use Rattle.vax_machine.specs.Blocks.{Moved}
use Rattle.vax_machine.specs.Paged.{Paged}
use Rattle.vax_machine.specs.Run.{Runs, Tracks}
use Rattle.vax_machine.specs.Turn.{Follows}
use Rattle.vax_machine.specs.Writing.{Origin, Sends, WrotePart, both, held_in, lines_of}
use Rattle.vax_machine.specs.declared.engine.Engine.{Engine}
use Rattle.vax_machine.specs.declared.held.Held.{Held}
use Rattle.vax_machine.proofs.Moving.{moved_none}
use Rattle.vax_watch.specs.Listing.{listing}
use Rattle.vax_watch.specs.Traced.{IsLostTrace, Trace, limits_of, turns_of}
use Rattle.vax_watch.specs.Tracing.{Holds, PassedOn, Stage}

-- what is held back has no lines
unlisted_held : (h : Held) → h.listed ≡ false → held_in h ≡ both (held_in h).out []
unlisted_held h e = let k : (if h.listed then h.lines else []) ≡ [] = ap (λ (b : Bool). if b then h.lines else []) e in λ i. record { out = h.bytes.items; report = []; recorded = k i; saved = unsaved }

-- where a run goes on from here: all that is sent since counts, and what is held back
abbrev pub origin_at : Paged → List ℕ → List Area → Option BlockFile → Option Channels → Origin
origin_at p output areas file now =
    record { at = record p { place = At (record (machine_at p.place) { output = output }) }; areas = areas; file = file; channels = now; listed = false }

moved_here : (p : Paged) (output : List ℕ) (areas : List Area) (file : Option BlockFile) → Moved areas (record p { place = At (record (machine_at p.place) { output = output }) }) p file file
moved_here p output areas file f is =
    let r = moved_none areas p file f is in
    (r.0, r.1, record { made = r.2.made; is = r.2.is; writes = r.2.writes; reads = record { count = r.2.reads.count; counted = r.2.reads.counted; reads = r.2.reads.reads } })

sends_here : (p : Paged) (output : List ℕ) (areas : List Area) (file : Option BlockFile) (now : Option Channels) (held : Held) → held.listed ≡ false → (machine_at p.place).output ≡ output ++ (held_in held).out → Sends (origin_at p output areas file now) p now (held_in held)
unfolding lines_of
sends_here p output areas file now held unlisted is =
    let e : append (both output []) (held_in held) ≡ both (machine_at p.place).output [] =
    ap (append (both output [])) (unlisted_held held unlisted) ∙ ap (λ (xs : List ℕ). both xs []) (sym is) in
    record { sent = nothing; is = sym e; wrote = grew_nothing now }

pub follows_here : (p : Paged) (output : List ℕ) (m : Engine) (file : Option BlockFile) (now : Option Channels) (held : Held) → Tracks m file p → held.listed ≡ false → (machine_at p.place).output ≡ output ++ (held_in held).out → Follows (origin_at p output (pages m.pager).areas file now) p m file now held
follows_here p output m file now held tracks unlisted is = record {
  tracks = tracks;
  sends = sends_here p output (pages m.pager).areas file now held unlisted is;
  listed = unlisted;
  areas = refl;
  moved = moved_here p output (pages m.pager).areas file;
}

-- what was sent since

pub record HasSent (output : List ℕ) (q : Paged) (sent : List ℕ) (left : Channels) (more : Channels) : Type 0 where
  pub is : (machine_at q.place).output ≡ output ++ (sent ++ left.out)
  pub only_out : more ≡ both sent []

pub none_first : (xs ys : List ℕ) → xs ++ ys ≡ [] → xs ≡ []
none_first [] ys e = refl
none_first (x ∷ xs) ys e = absurd (cc e)

pub sent_since : (p q : Paged) (output : List ℕ) (areas : List Area) (file : Option BlockFile) (was now : Option Channels) (left : Channels) (s : Sends (origin_at p output areas file was) q now left) → HasSent output q s.sent.out left s.sent
unfolding lines_of
sent_since p q output areas file was now left s =
    let e = s.is in
    let report : s.sent.report ≡ [] = none_first s.sent.report left.report (sym (ap (λ (c : Channels). c.report) e)) in
    let recorded : s.sent.recorded ≡ [] = none_first s.sent.recorded left.recorded (sym (ap (λ (c : Channels). c.recorded) e)) in
    let saved : s.sent.saved ≡ unsaved = front_unsaved s.sent.saved left.saved (sym (ap (λ (c : Channels). c.saved) e)) in
    record { is = ap (λ (c : Channels). c.out) e; only_out = λ i. record { out = s.sent.out; report = report i; recorded = recorded i; saved = saved i } }

-- more is on Out, and more is on Record

both_out : (a b c : List ℕ) → append (both a b) (both c []) ≡ both (a ++ c) b
both_out a b c = ap (λ (xs : List ℕ). both (a ++ c) xs) (append-nil b)

both_recorded : (a b c : List ℕ) → append (both a b) (only Record c) ≡ both a (b ++ c)
both_recorded a b c = ap (λ (xs : List ℕ). both xs (b ++ c)) (append-nil a)

-- whatever the machine is
pub holds_as : (t : Trace) (old : Option Channels) (output : List ℕ) (steps : ℕ) (s : Stage) (m : Engine) (file : Option BlockFile) → Holds t old output steps s → Holds t old output steps (record s { system = record s.system { machine = m; file = file } })
holds_as t old output steps s m file h = record { out = h.out; recorded = h.recorded; sent = h.sent; lines = h.lines; wrote = h.wrote; unlisted = h.unlisted }

-- the lines of steps that had no room were written
pub holds_room : (t : Trace) (old : Option Channels) (output : List ℕ) (steps : ℕ) (s : Stage) (now : Option Channels) (left : List ℕ) → Holds t old output steps s → PassedOn s.system.channels now s.lines left → Holds t old output steps (record s { system = record s.system { channels = now }; lines = left })
holds_room t old output steps s now left h p = record {
  out = h.out;
  recorded = h.recorded ++ p.sent;
  sent = h.sent;
  lines = append_assoc h.recorded p.sent left ∙ (ap (λ (xs : List ℕ). h.recorded ++ xs) p.is ∙ h.lines);
  wrote = subst (λ (c : Channels). Grew old now c) (both_recorded h.out h.recorded p.sent) (grew_more old s.system.channels now (both h.out h.recorded) (only Record p.sent) h.wrote p.wrote);
  unlisted = h.unlisted;
}

-- the machine goes on from where these are held
pub follows_held : (t : Trace) (old : Option Channels) (steps : ℕ) (s : Stage) (p : Paged) → Tracks s.system.machine s.system.file p → (h : Holds t old (machine_at p.place).output steps s) → Follows (origin_at p (t.start.output ++ h.out) (pages s.system.machine.pager).areas s.system.file s.system.channels) p s.system.machine s.system.file s.system.channels s.held
follows_held t old steps s p tracks h =
    follows_here p (t.start.output ++ h.out) s.system.machine s.system.file s.system.channels s.held tracks h.unlisted (h.sent ∙ sym (append_assoc t.start.output h.out (held_in s.held).out))

-- turns more were made, and what they sent is written or held back
module _ (t : Trace) (old : Option Channels) (steps : ℕ) (s : Stage) (p q : Paged) (h : Holds t old (machine_at p.place).output steps s) (now : Option Channels) where
  abbrev from : Origin
  from = origin_at p (t.start.output ++ h.out) (pages s.system.machine.pager).areas s.system.file s.system.channels

  pub holds_turns : (m : Engine) (file : Option BlockFile) (held : Held) → held.listed ≡ false → Sends from q now (held_in held) → Holds t old (machine_at q.place).output steps (record s { system = record { machine = m; file = file; channels = now }; held = held })
  holds_turns m file held unlisted e =
      let k = sent_since p q (t.start.output ++ h.out) (pages s.system.machine.pager).areas s.system.file s.system.channels now (held_in held) e in
      let more = e.sent.out in
      record {
        out = h.out ++ more;
        recorded = h.recorded;
        sent = k.is ∙ (append_assoc t.start.output h.out (more ++ (held_in held).out) ∙ ap (λ (xs : List ℕ). t.start.output ++ xs) (sym (append_assoc h.out more (held_in held).out)));
        lines = h.lines;
        wrote =
            subst (λ (c : Channels). Grew old now c) (both_out h.out h.recorded more)
            (grew_more old s.system.channels now (both h.out h.recorded) (both more []) h.wrote (subst (λ (c : Channels). Grew s.system.channels now c) k.only_out e.wrote));
        unlisted = unlisted;
      }

-- all that is held back

whole_held : (t : Trace) (old : Option Channels) (steps : ℕ) (s : Stage) (output : List ℕ) (h : Holds t old output steps s) → append (both h.out h.recorded) (append (held_in s.held) (only Record s.lines)) ≡ both (h.out ++ (held_in s.held).out) (listing t.texts steps t.start t.watches)
whole_held t old steps s output h =
    let held = s.held in
    ap (λ (c : Channels). append (both h.out h.recorded) (append c (only Record s.lines))) (unlisted_held held h.unlisted)
    ∙ (ap (λ (c : Channels). append (both h.out h.recorded) c) (both_recorded (held_in held).out [] s.lines)
    ∙ ap (λ (xs : List ℕ). both (h.out ++ (held_in held).out) xs) h.lines)

pub all_written : (t : Trace) (old : Option Channels) (steps : ℕ) (s : Stage) (output : List ℕ) (h : Holds t old output steps s) (now : Option Channels) → Grew s.system.channels now (append (held_in s.held) (only Record s.lines)) → Grew old now (both (h.out ++ (held_in s.held).out) (listing t.texts steps t.start t.watches))
all_written t old steps s output h now g =
    subst (λ (c : Channels). Grew old now c) (whole_held t old steps s output h) (grew_more old s.system.channels now (both h.out h.recorded) (append (held_in s.held) (only Record s.lines)) h.wrote g)

pub part_written : (t : Trace) (old : Option Channels) (steps : ℕ) (s : Stage) (output : List ℕ) (h : Holds t old output steps s) (now : Option Channels) → GrewByPrefix s.system.channels now (append (held_in s.held) (only Record s.lines)) → GrewByPrefix old now (both (h.out ++ (held_in s.held).out) (listing t.texts steps t.start t.watches))
part_written t old steps s output h now g =
    prefix_in old s.system.channels now (both h.out h.recorded) (append (held_in s.held) (only Record s.lines)) nothing (both (h.out ++ (held_in s.held).out) (listing t.texts steps t.start t.watches))
    (ap (append (both h.out h.recorded)) (append-nothing (append (held_in s.held) (only Record s.lines))) ∙ whole_held t old steps s output h) h.wrote g

-- the lines alone, or a prefix of them
pub room_lost : (t : Trace) (old : Option Channels) (steps : ℕ) (s : Stage) (output : List ℕ) (h : Holds t old output steps s) (now : Option Channels) → GrewByPrefix s.system.channels now (only Record s.lines) → GrewByPrefix old now (both (h.out ++ (held_in s.held).out) (listing t.texts steps t.start t.watches))
room_lost t old steps s output h now g =
    let held = (held_in s.held).out in
    prefix_in old s.system.channels now (both h.out h.recorded) (only Record s.lines) (both held []) (both (h.out ++ held) (listing t.texts steps t.start t.watches))
    (ap (append (both h.out h.recorded)) (ap (λ (xs : List ℕ). both held xs) (append-nil s.lines)) ∙ ap (λ (xs : List ℕ). both (h.out ++ held) xs) h.lines) h.wrote g

-- what turns sent wasn't all written
record HasLost (output : List ℕ) (q : Paged) (more : Channels) : Type 0 where
  is : (machine_at q.place).output ≡ output ++ more.out
  only_out : more ≡ both more.out []

lost_since : (p q : Paged) (output : List ℕ) (areas : List Area) (file : Option BlockFile) (was now : Option Channels) (w : WrotePart (origin_at p output areas file was) q now) → HasLost output q w.more
unfolding lines_of
lost_since p q output areas file was now w =
    let e = w.is in
    let report : w.more.report ≡ [] = sym (ap (λ (c : Channels). c.report) e) in
    let recorded : w.more.recorded ≡ [] = sym (ap (λ (c : Channels). c.recorded) e) in
    let saved : w.more.saved ≡ unsaved = sym (ap (λ (c : Channels). c.saved) e) in
    record { is = ap (λ (c : Channels). c.out) e; only_out = λ i. record { out = w.more.out; report = report i; recorded = recorded i; saved = saved i } }

pub lost_turns : (t : Trace) (old : Option Channels) (steps : ℕ) (s : Stage) (p q : Paged) (h : Holds t old (machine_at p.place).output steps s) (now : Option Channels) → WrotePart (origin_at p (t.start.output ++ h.out) (pages s.system.machine.pager).areas s.system.file s.system.channels) q now → (made : ℕ) → q ≡ turns_of t made → steps ≤ (turns_of t made).steps → Runs (limits_of t) t.areas t.rules t.from made → IsLostTrace t old now
lost_turns t old steps s p q h now w made is few goes =
    let k = lost_since p q (t.start.output ++ h.out) (pages s.system.machine.pager).areas s.system.file s.system.channels now w in
    let more = w.more.out in
    record {
      made = made;
      goes = goes;
      sent = h.out ++ more;
      output = ap (λ (z : Paged). (machine_at z.place).output) (sym is) ∙ (k.is ∙ append_assoc t.start.output h.out more);
      lines = steps;
      few = few;
      wrote =
          prefix_in old s.system.channels now (both h.out h.recorded) w.more (only Record s.lines) (both (h.out ++ more) (listing t.texts steps t.start t.watches))
          (ap (λ (c : Channels). append (both h.out h.recorded) (append c (only Record s.lines))) k.only_out
          ∙ (ap (append (both h.out h.recorded)) (both_recorded more [] s.lines) ∙ ap (λ (xs : List ℕ). both (h.out ++ more) xs) h.lines)) h.wrote w.grew;
    }

-- a prefix of the first of two
pub prefix_then : (a b : Option Channels) (x y : Channels) → GrewByPrefix a b x → GrewByPrefix a b (append x y)
prefix_then a b x y q = record { prefix = q.prefix; rest = append q.rest y; splits = sym (channels_assoc q.prefix q.rest y) ∙ ap (λ (c : Channels). append c y) q.splits; grew = q.grew }
