-- A step of a traced run.
use Rattle.std.proofs.Common.{ℕ, suc, ◌≡◌, ◌+◌, ◌-◌, ◌<◌, ◌≤◌, Bool, true, false, is_some, List, ◌++◌, length, append_assoc, Option, Some, None, refl, sym, ap, subst, ◌∙◌, arith, inl, inr}
use Rattle.std.specs.Prelude.{if◌then◌else◌, IfSome, slice_index}
use Rattle.std.proofs.lemmas.Bool.{cases_lt}
use Rattle.std.proofs.lemmas.List.{length-map}
use Rattle.vax_word.specs.declared.Core.{Core}
use Rattle.vax_space.specs.declared.Area.{Area}
use Rattle.vax_space.specs.Areas.{area_of}
use Rattle.vax_space.specs.Reference.{page_of}
use Rattle.vax_outside.specs.Blocks.{BlockFile}
use Rattle.vax_outside.specs.Channels.{Channels}
use Rattle.vax_flat.specs.declared.Ending.{Ending}
use Rattle.vax_flat.specs.Memory.{byte_at}
use Rattle.vax_flat.specs.Parts.{Place, At, Within, GoesBy, machine_at}
use Rattle.vax_flat.specs.Step.{Flat, run}
use Rattle.vax_machine.specs.Attempt.{open_at}
use Rattle.vax_pager.specs.Calls.{IsByte}
use Rattle.vax_pager.specs.Listing.{is_listed}
use Rattle.vax_pager.specs.Meaning.{pages}
use Rattle.vax_pager.specs.Paging.{Paging, StandsWith}
use Rattle.vax_sched.specs.Due.{due}
use Rattle.vax_sched.specs.declared.rule.Rule.{Rule}
use Rattle.vax_machine.specs.Console.{IsBetween, memory_at}
use Rattle.vax_machine.specs.GoingOn.{GoneOn, HasStopped}
use Rattle.vax_machine.specs.Machine.{Keeping, Means, keeping}
use Rattle.vax_machine.specs.Blocks.{Moved}
use Rattle.vax_machine.specs.Calling.{NextCallFails, asking_of}
use Rattle.vax_machine.specs.Paged.{Paged, all_evicted, all_named, paged, stops}
use Rattle.vax_machine.specs.Run.{Runs, Tracks}
use Rattle.vax_machine.specs.Touched.{PinsTouched}
use Rattle.vax_machine.specs.Turn.{AreCut, AreLost, Follows}
use Rattle.vax_machine.specs.Writing.{Origin, Sends, held_in}
use Rattle.vax_machine.specs.declared.engine.Engine.{Engine}
use Rattle.vax_machine.specs.declared.event.Limits.{Limits}
use Rattle.vax_machine.specs.declared.event.RunEnd.{RunEnd}
use Rattle.vax_machine.specs.declared.held.Held.{Held}
use Rattle.vax_machine.proofs.Following.{turns_go}
use Rattle.vax_machine.proofs.Halting.{going_on, paged_more}
use Rattle.vax_machine.proofs.Running.{by_ending, by_turns, goes_on}
use Rattle.vax_machine.proofs.Showing.{has_as}
use Rattle.vax_machine.proofs.Tracking.{many_evicted}
use Rattle.vax_watch.specs.Breaks.{is_break}
use Rattle.vax_watch.specs.Listing.{Beginning, beginning_at, core_line, listing, step_line, watch_lines}
use Rattle.vax_watch.specs.Plans.{AreLookedAt, IsLookedAt, all_watched, changes_in, latest_in, watches_in}
use Rattle.vax_watch.specs.Traced.{FailsInTurn, IsLostTrace, Trace, Written, WrittenIn, limits_of, stop_of, turns_of}
use Rattle.vax_watch.specs.Tracing.{Holds, IsBegun, IsCutShort, IsDue, IsUnlisted, Keeps, PassedOn, Stage, Stands, Stops}
use Rattle.vax_watch.specs.declared.watch.Seen.{Seen}
use Rattle.vax_watch.specs.declared.watch.Watch.{Watch}
use Rattle.vax_watch.specs.declared.steps.TraceEnd.TheVariants.{Ended, Turns}
use Rattle.vax_watch.proofs.Breaking.{stop_above, stop_below}
use Rattle.vax_watch.proofs.Watching.{changed, latest_seen, watches_kept}
use Rattle.vax_watch.proofs.Written.{fails_as, written_more, written_read}
use Rattle.vax_watch.proofs.Holding.{follows_held, holds_as, holds_room, holds_turns, lost_turns, origin_at}

-- no page is pinned between two steps
pub pins_none : (r : Engine) (p : Paged) → (keeping r).residence ≡ p.residence → IsBetween r → PinsTouched p.residence p.place
unfolding is_listed
pins_none m p same b = record {
  touched = λ page h.
      let no : false ≡ true = sym (ap (is_listed page) (sym (ap (λ z. z.pinned) same) ∙ b.unpinned)) ∙ h in absurd (cc no);
}

-- where the turns of the run lead
pub goes_to : (t : Trace) → IsBegun t → (made : ℕ) → GoesBy (run (turns_of t made).steps t.start) (turns_of t made).place
goes_to t b made =
    let g = turns_go t.areas (due t.rules) made t.from t.start b.place in
    let e : g.made ≡ (turns_of t made).steps = let s = g.steps in let z = b.steps in omega (arith, s, z) in
    subst (λ (steps : ℕ). GoesBy (run steps t.start) (turns_of t made).place) e g.goes

place_between : (place : Place) → None ≡ open_at place → (x : Flat) × (place ≡ At x)
place_between (At x) e = (x, refl)
place_between (Within p) e = absurd (cc e)

-- a machine between two steps is at the first so many steps
pub at_steps : (t : Trace) → IsBegun t → (made : ℕ) (m : Engine) (file : Option BlockFile) → Tracks m file (turns_of t made) → IsBetween m → (turns_of t made).place ≡ At (run m.steps t.start)
at_steps t b made m file tracks between =
    let p = turns_of t made in
    let x = place_between p.place (sym between.closed ∙ tracks.means.processor.open_one) in
    let g : GoesBy (run m.steps t.start) p.place = subst (λ (n : ℕ). GoesBy (run n t.start) p.place) (sym tracks.steps) (goes_to t b made) in
    let is : x.0 ≡ run m.steps t.start = subst (λ (z : Place). GoesBy (run m.steps t.start) z) x.1 g in
    x.1 ∙ ap At is

pub means_steps : (t : Trace) → IsBegun t → (made : ℕ) (m : Engine) (file : Option BlockFile) → Tracks m file (turns_of t made) → IsBetween m → Means m file (At (run m.steps t.start))
means_steps t b made m file tracks between = subst (λ (z : Place). Means m file z) (at_steps t b made m file tracks between) tracks.means

-- memory was looked at alone
pub tracks_looked : (m n : Engine) (before after : Option BlockFile) (p : Paged) → IsLookedAt m before n after → Tracks m before p → Tracks n after p
tracks_looked m n before after p l t = record {
  steps = ap (λ (k : Keeping). k.steps) l.keeps ∙ t.steps;
  turns = ap (λ (k : Keeping). k.turns) l.keeps ∙ t.turns;
  residence = ap (λ (k : Keeping). k.residence) l.keeps ∙ t.residence;
  modified = ap (λ (s : Paging). λ page. is_listed page s.modified) l.same ∙ t.modified;
  blocked = ap (λ (s : Paging). s.blocked) l.same ∙ t.blocked;
  means = l.means p.place t.means;
}

pub between_looked : (m n : Engine) (before after : Option BlockFile) → IsLookedAt m before n after → IsBetween m → IsBetween n
between_looked m n before after l b = record {
  closed = ap (λ z. z.latch) l.cpu ∙ b.closed;
  unpinned = ap (λ (k : Keeping). k.residence.pinned) l.keeps ∙ b.unpinned;
}

-- the turns of a run up to a nearer limit are those of one up to a limit further on

wider : (near far : Limits) (p : Paged) → near.steps ≤ far.steps → near.turns ≡ far.turns → stops near.steps near.turns p ≡ None → stops far.steps far.turns p ≡ None
wider near far p le same h =
    let g = going_on near p h in
    let s = g.steps in
    let u = g.turns in
    goes_on far p g.ending (omega (arith, s, le)) (omega (arith, u, same))

pub runs_further : (t : Trace) (near : Limits) (made more : ℕ) → near.steps ≤ stop_of t → near.turns ≡ t.limits.turns → Runs (limits_of t) t.areas t.rules t.from made → Runs near t.areas t.rules (turns_of t made) more → Runs (limits_of t) t.areas t.rules t.from (more + made)
runs_further t near made more le same before after = record {
  going = λ i low. elim (cases_lt i made) [
    | inl early ↦ before.going i early
    | inr here ↦
        let e : (i - made) + made ≡ i = omega (arith, here) in
        let k = after.going (i - made) (omega (arith, low, here)) in
        subst (λ (q : Paged). stops (stop_of t) t.limits.turns q ≡ None) (paged_more t.areas (due t.rules) (i - made) made t.from ∙ ap (λ (n : ℕ). turns_of t n) e)
        (wider near (limits_of t) (paged t.areas (due t.rules) (i - made) (turns_of t made)) le same k)
  ];
}

-- no step up to the one that is due began at one of the addresses, but maybe the first
unbroken_here : (t : Trace) (old : Option Channels) (s : Stage) → Stands t old s → IsDue t s → (k : ℕ) → 1 ≤ k → k ≤ s.system.machine.steps → is_break t.breaks (run k t.start) ≡ false
unbroken_here t old s h d k some low = elim (cases_lt k s.system.machine.steps) [
  | inl early ↦ h.unbroken k some early
  | inr here ↦
      let e : s.system.machine.steps ≡ k = omega (arith, low, here) in
      subst (λ (n : ℕ). is_break t.breaks (run n t.start) ≡ false) e (d.unbroken (omega (arith, some, e)))
]

-- before a step is made: the machine with its file stands where it stood, and the lines have room
pub record IsReady (t : Trace) (old : Option Channels) (s : Stage) : Type 0 where
  pub made : ℕ
  pub keeps : Keeps t old made s.system.machine.steps s
  pub areas : (pages s.system.machine.pager).areas ≡ t.areas
  pub between : IsBetween s.system.machine
  pub going : s.system.machine.ended ≡ None
  pub below : s.system.machine.steps < stop_of t
  pub unbroken : (k : ℕ) → 1 ≤ k → k ≤ s.system.machine.steps → is_break t.breaks (run k t.start) ≡ false
  pub watches : watches_in s.seen ≡ t.watches
  pub seen : latest_in s.seen ≡ all_watched t.watches (run s.system.machine.steps t.start).memory

pub ready : (t : Trace) (old : Option Channels) (s : Stage) → Stands t old s → IsDue t s → (now : Option Channels) (left : List ℕ) → PassedOn s.system.channels now s.lines left → (m : Engine) (file : Option BlockFile) → IsLookedAt s.system.machine s.system.file m file → IsReady t old (record s { system = record { machine = m; file = file; channels = now }; lines = left })
ready t old s h d now left passed m file l =
    let steps : m.steps ≡ s.system.machine.steps = ap (λ (k : Keeping). k.steps) l.keeps in
    let n = s.system.machine.steps in
    let output = (machine_at (turns_of t h.made).place).output in
    let room = record s { system = record s.system { channels = now }; lines = left } in
    let held = holds_as t old output n room m file (holds_room t old output n s now left h.keeps.holds passed) in
    record {
      made = h.made;
      keeps = record {
        goes = h.keeps.goes;
        tracks = tracks_looked s.system.machine m s.system.file file (turns_of t h.made) l h.keeps.tracks;
        written = written_read t.areas t.from (turns_of t h.made) t.file s.system.file file l.reads h.keeps.written;
        holds = subst (λ (k : ℕ). Holds t old output k (record room { system = record room.system { machine = m; file = file } })) (sym steps) held;
      };
      areas = ap (λ (k : Keeping). k.areas) l.keeps ∙ h.areas;
      between = between_looked s.system.machine m s.system.file file l h.between;
      going = ap (λ (k : Keeping). k.ended) l.keeps ∙ d.going;
      below = subst (λ (k : ℕ). k < stop_of t) (sym steps) (stop_above t.limits.steps n t.breaks t.start d.steps (unbroken_here t old s h d));
      unbroken = λ k some low. unbroken_here t old s h d k some (omega (arith, low, steps));
      watches = h.watches;
      seen = h.seen ∙ ap (λ (k : ℕ). all_watched t.watches (run k t.start).memory) (sym steps);
    }

-- the run goes on for a step
module _ (t : Trace) (old : Option Channels) (s : Stage) (begun : IsBegun t) (r : IsReady t old s) where
  abbrev pub n : ℕ
  n = s.system.machine.steps

  abbrev pub p : Paged
  p = turns_of t r.made

  -- up to the next step
  abbrev pub near : Limits
  near = record { steps = n + 1; turns = t.limits.turns; listed = false }

  abbrev pub o : Origin
  o = origin_at p (t.start.output ++ r.keeps.holds.out) (pages s.system.machine.pager).areas s.system.file s.system.channels

  pub from_here : Follows o p s.system.machine s.system.file s.system.channels s.held
  from_here = follows_held t old n s p r.keeps.tracks r.keeps.holds

  pub pins_here : PinsTouched p.residence p.place
  pins_here = pins_none s.system.machine p r.keeps.tracks.residence r.between

  place_here : p.place ≡ At (run n t.start)
  place_here = at_steps t begun r.made s.system.machine s.system.file r.keeps.tracks r.between

  near_stop : near.steps ≤ stop_of t
  near_stop = let b = r.below in omega (arith, b)

  joined : (more : ℕ) → paged t.areas (due t.rules) more p ≡ turns_of t (more + r.made)
  joined more = paged_more t.areas (due t.rules) more r.made t.from

  goes_joined : (more : ℕ) → Runs near t.areas t.rules p more → Runs (limits_of t) t.areas t.rules t.from (more + r.made)
  goes_joined more goes = runs_further t near r.made more near_stop refl r.keeps.goes goes

  -- steps aren't lost
  not_fewer : (more : ℕ) → n ≤ (turns_of t (more + r.made)).steps
  not_fewer more =
      let g = turns_go t.areas (due t.rules) more p (run n t.start) place_here in
      let e = g.steps in
      let k = r.keeps.tracks.steps in
      let same = ap (λ (q : Paged). q.steps) (joined more) in
      omega (arith, e, k, same)

  pub holds_joined : (m : Engine) (file : Option BlockFile) (now : Option Channels) (held : Held) (q : Paged) → held.listed ≡ false → Sends o q now (held_in held) → Holds t old (machine_at q.place).output n (record s { system = record { machine = m; file = file; channels = now }; held = held })
  holds_joined m file now held q unlisted sends = holds_turns t old n s p q r.keeps.holds now m file held unlisted sends

  module _ (m : Engine) (file : Option BlockFile) (now : Option Channels) (held : Held) (unlisted : held.listed ≡ false) where
    abbrev then_at : Stage
    then_at = record s { system = record { machine = m; file = file; channels = now }; held = held }

    module _ (end : RunEnd) (h : HasStopped near o t.areas t.rules p end m file now held) where
      abbrev pub made : ℕ
      made = h.made + r.made

      pub tracks_then : Tracks m file (turns_of t made)
      tracks_then = subst (λ (q : Paged). Tracks m file q) (joined h.made) h.follows.tracks

      written_then : WrittenIn t made file
      written_then =
          let moved = subst (λ (z : List Area). Moved z o.at (paged t.areas (due t.rules) h.made p) s.system.file file) r.areas h.follows.moved in
          subst (λ (q : Paged). Written t.areas t.from q t.file file) (joined h.made) (written_more t.areas t.from p (paged t.areas (due t.rules) h.made p) o.at.place t.file s.system.file file r.keeps.written moved)

      pub keeps_then : Keeps t old made n then_at
      keeps_then = record {
        goes = goes_joined h.made h.goes;
        tracks = tracks_then;
        written = written_then;
        holds = subst (λ (q : Paged). Holds t old (machine_at q.place).output n then_at) (joined h.made) (holds_joined m file now held (paged t.areas (due t.rules) h.made p) unlisted h.follows.sends);
      }

      pub steps_then : n ≤ m.steps
      steps_then = let a = not_fewer h.made in let b = tracks_then.steps in omega (arith, a, b)

      -- where it stands between two steps it is at the first so many of them
      pub means_then : IsBetween m → Means m file (At (run m.steps t.start))
      means_then between = means_steps t begun made m file tracks_then between

      pub areas_then : (pages m.pager).areas ≡ t.areas
      areas_then = h.follows.areas ∙ r.areas

      -- at the limit of attempts
      pub stops_turns : m.ended ≡ None → m.steps < n + 1 → t.limits.turns ≤ m.turns → Stops t Turns old then_at
      stops_turns going low high =
          let le = steps_then in
          let e : n ≡ m.steps = omega (arith, le, low) in
          record {
            named = tt;
            made = made;
            keeps = subst (λ (k : ℕ). Keeps t old made k then_at) e keeps_then;
            stopped = by_turns (limits_of t) m file (turns_of t made) going (let b = r.below in omega (arith, b, e)) high tracks_then;
          }

    fails_then : (h : AreCut near o t.areas t.rules p m file now held) → FailsInTurn t (h.count + r.made) (asking_of m) file
    fails_then h =
        let k = h.cut in
        let q = paged t.areas (due t.rules) h.count p in
        let e = joined h.count in
        let more : suc h.count + r.made ≡ suc (h.count + r.made) = omega arith in
        let goes = goes_joined (suc h.count) (record { going = λ i less. h.going i (omega (arith, less)) }) in
        let fails = fails_as t.areas p (all_evicted k.front q) o.at.place k.rest (asking_of m) s.system.file file (subst (λ (z : List Area). NextCallFails z o.at (all_evicted k.front q) k.rest (asking_of m) s.system.file file) r.areas k.fails) in
        record {
          goes = subst (λ (i : ℕ). Runs (limits_of t) t.areas t.rules t.from i) more goes;
          first = r.made;
          early = omega arith;
          between = s.system.file;
          written = r.keeps.written;
          front = k.front;
          rest = k.rest;
          splits = subst (λ (z : Paged). all_named t.areas (due t.rules (z.turns + 1)) ≡ k.front ++ k.rest) e k.splits;
          fails = subst (λ (z : Paged). NextCallFails t.areas p (all_evicted k.front z) k.rest (asking_of m) s.system.file file) e fails;
        }

    -- a call of the page file failed
    pub cut_then : AreCut near o t.areas t.rules p m file now held → IsCutShort t old then_at
    cut_then h =
        let k = h.cut in
        let q = paged t.areas (due t.rules) h.count p in
        let e = joined h.count in
        let place = (many_evicted k.front q).place in
        let low = (going_on near q (h.going h.count (omega arith))).steps in
        let le = not_fewer h.count in
        let same = k.steps in
        let here = ap (λ (z : Paged). z.steps) e in
        let is : n ≡ m.steps = omega (arith, low, le, same, here) in
        let held_there = holds_joined m file now held (all_evicted k.front q) unlisted k.sends in
        record {
          made = h.count + r.made;
          goes = goes_joined h.count (record { going = λ i less. h.going i (omega (arith, less)) });
          means = subst (λ (z : Paged). Means m file z.place) e k.means;
          steps = same ∙ here;
          fails = inl (fails_then h);
          lines = n;
          all_but = inl is;
          holds = subst (λ (z : Paged). Holds t old (machine_at z.place).output n then_at) e (subst (λ (z : Place). Holds t old (machine_at z).output n then_at) place held_there);
        }

  -- the limits, areas and rules are those of the trace
  pub gone_as : (limits : Limits) (areas : List Area) (rules : List Rule) → limits ≡ near → areas ≡ t.areas → rules ≡ t.rules → (end : RunEnd) (m : Engine) (file : Option BlockFile) (now : Option Channels) (held : Held) → GoneOn limits o areas rules p end m file now held → GoneOn near o t.areas t.rules p end m file now held
  gone_as limits areas rules a b c end m file now held h =
      subst (λ (z : List Rule). GoneOn near o t.areas z p end m file now held) c (subst (λ (z : List Area). GoneOn near o z rules p end m file now held) b (subst (λ (z : Limits). GoneOn z o areas rules p end m file now held) a h))

  -- a write failed
  pub lost_then : (file : Option BlockFile) (now : Option Channels) → AreLost near o t.areas t.rules p file now → IsLostTrace t old now
  lost_then file now h = lost_turns t old n s p (paged t.areas (due t.rules) (suc h.count) p) r.keeps.holds now h.part.wrote (suc h.count + r.made) (joined (suc h.count)) (not_fewer (suc h.count))
      (goes_joined (suc h.count) (record { going = λ i less. h.going i (omega (arith, less)) }))

-- a step is listed

pub core_of : (m : Engine) (file : Option BlockFile) (x : Flat) → Means m file (At x) → m.cpu.core ≡ x.core
core_of m file x means = ap (λ (z : Flat). z.core) means.processor.machine

pub ending_of : (m : Engine) (file : Option BlockFile) (x : Flat) → Means m file (At x) → m.ended ≡ x.ending
ending_of m file x means = ap (λ (z : Flat). z.ending) means.processor.machine

pub byte_is : (s : Paging) (file : Option BlockFile) (memory : List Area) (addr : ℕ) (r : Option ℕ) → StandsWith s file memory → is_some r ≡ is_some (area_of s.areas (page_of addr)) → IfSome r (IsByte s file addr) → r ≡ memory_at memory addr
byte_is s file memory addr None st there byte =
    let e : is_some (area_of memory (page_of addr)) ≡ false = has_as s file memory (page_of addr) st ∙ sym there in
    sym (ap (λ (b : Bool). if b then Some (byte_at memory addr) else None) e)
byte_is s file memory addr (Some b) st there byte =
    let e : is_some (area_of memory (page_of addr)) ≡ true = has_as s file memory (page_of addr) st ∙ sym there in
    ap Some (byte memory st) ∙ sym (ap (λ (b : Bool). if b then Some (byte_at memory addr) else None) e)

module _ (t : Trace) (old : Option Channels) (s : Stage) (begun : IsBegun t) (r : IsReady t old s) (begins : Beginning) (begins_here : begins ≡ beginning_at t.texts (run s.system.machine.steps t.start).memory (slice_index s.system.machine.cpu.core.regs 15)) (m : Engine) (file : Option BlockFile) (now : Option Channels) (held : Held) (unlisted : held.listed ≡ false) (end : RunEnd) (h : HasStopped (near t old s begun r) (o t old s begun r) t.areas t.rules (p t old s begun r) end m file now held) (between : IsBetween m) (one : m.steps ≡ s.system.machine.steps + 1) where
  abbrev before : Flat
  before = run s.system.machine.steps t.start

  abbrev after : Flat
  after = run (suc s.system.machine.steps) t.start

  suc_is : suc s.system.machine.steps ≡ m.steps
  suc_is = omega (arith, one)

  means_before : Means s.system.machine s.system.file (At before)
  means_before = means_steps t begun r.made s.system.machine s.system.file r.keeps.tracks r.between

  pub means_after : Means m file (At after)
  means_after = subst (λ (k : ℕ). Means m file (At (run k t.start))) (sym suc_is) (means_then t old s begun r m file now held unlisted end h between)

  core_before : s.system.machine.cpu.core ≡ before.core
  core_before = core_of s.system.machine s.system.file before means_before

  line_is : core_line m.steps s.system.machine.cpu.core begins m.cpu.core ≡ step_line t.texts (s.system.machine.steps + 1) before after
  line_is =
      let c = core_before in
      let d = core_of m file after means_after in
      let e = begins_here ∙ ap (λ (z : Core). beginning_at t.texts before.memory (slice_index z.regs 15)) c in
      λ i. core_line (one i) (c i) (e i) (d i)

  module _ (seen : List Seen) (looked : AreLookedAt m file s.seen seen) where
    changes_are : changes_in seen ≡ watch_lines t.watches before.memory after.memory
    changes_are =
        changed m file s.seen seen looked before.memory (r.seen ∙ ap (λ (ws : List Watch). all_watched ws before.memory) (sym r.watches)) (At after) means_after
        ∙ ap (λ (ws : List Watch). watch_lines ws before.memory after.memory) r.watches

    listed_is : listing t.texts s.system.machine.steps t.start t.watches ++ (core_line m.steps s.system.machine.cpu.core begins m.cpu.core ++ changes_in seen) ≡ listing t.texts m.steps t.start t.watches
    unfolding listing
    listed_is =
        let a = line_is in
        let b = changes_are in
        ap (λ (xs : List ℕ). listing t.texts s.system.machine.steps t.start t.watches ++ xs) (λ i. a i ++ b i) ∙ ap (λ (k : ℕ). listing t.texts k t.start t.watches) suc_is

    module _ (m4 : Engine) (file4 : Option BlockFile) (l : IsLookedAt m file m4 file4) (lines : List ℕ) (lines_are : lines ≡ s.lines ++ (core_line m.steps s.system.machine.cpu.core begins m.cpu.core ++ changes_in seen)) where
      abbrev next : Stage
      next = record { system = record { machine = m4; file = file4; channels = now }; held = held; lines = lines; seen = seen }

      steps_next : m4.steps ≡ m.steps
      steps_next = ap (λ (k : Keeping). k.steps) l.keeps

      abbrev turns_next : ℕ
      turns_next = made t old s begun r m file now held unlisted end h

      holds_next : Holds t old (machine_at (turns_of t turns_next).place).output m.steps next
      holds_next =
          let k = (keeps_then t old s begun r m file now held unlisted end h).holds in
          record {
            out = k.out;
            recorded = k.recorded;
            sent = k.sent;
            lines =
                ap (λ (xs : List ℕ). k.recorded ++ xs) lines_are
                ∙ (sym (append_assoc k.recorded s.lines (core_line m.steps s.system.machine.cpu.core begins m.cpu.core ++ changes_in seen))
                ∙ (ap (λ (xs : List ℕ). xs ++ (core_line m.steps s.system.machine.cpu.core begins m.cpu.core ++ changes_in seen)) k.lines ∙ listed_is));
            wrote = k.wrote;
            unlisted = k.unlisted;
          }

      pub keeps_next : Keeps t old turns_next m4.steps next
      keeps_next = record {
        goes = (keeps_then t old s begun r m file now held unlisted end h).goes;
        tracks = tracks_looked m m4 file file4 (turns_of t turns_next) l (tracks_then t old s begun r m file now held unlisted end h);
        written = written_read t.areas t.from (turns_of t turns_next) t.file file file4 l.reads (keeps_then t old s begun r m file now held unlisted end h).written;
        holds = subst (λ (k : ℕ). Holds t old (machine_at (turns_of t turns_next).place).output k next) (sym steps_next) holds_next;
      }

      pub stands_next : Stands t old next
      stands_next = record {
        made = turns_next;
        keeps = keeps_next;
        areas = ap (λ (k : Keeping). k.areas) l.keeps ∙ areas_then t old s begun r m file now held unlisted end h;
        between = between_looked m m4 file file4 l between;
        few = let a = steps_next in let b = r.below in let c = stop_below t.limits.steps t.breaks t.start in omega (arith, a, b, c, one);
        unbroken = λ k some low. r.unbroken k some (let a = steps_next in omega (arith, a, low, one));
        watches = watches_kept m file s.seen seen looked ∙ r.watches;
        seen =
            latest_seen m file s.seen seen looked (At after) means_after
            ∙ (ap (λ (ws : List Watch). all_watched ws after.memory) r.watches ∙ ap (λ (k : ℕ). all_watched t.watches (run k t.start).memory) (suc_is ∙ sym steps_next));
      }

      -- it ended the run
      pub stops_ended : (e : Ending) → m.ended ≡ Some e → Stops t (Ended e) old next
      stops_ended e is = record {
        named = tt;
        made = turns_next;
        keeps = keeps_next;
        stopped = by_ending (limits_of t) m file (turns_of t turns_next) e is (tracks_then t old s begun r m file now held unlisted end h);
      }

-- a step whose watched bytes couldn't be read
module _ (t : Trace) (old : Option Channels) (s : Stage) (begun : IsBegun t) (r : IsReady t old s) (m : Engine) (file : Option BlockFile) (now : Option Channels) (held : Held) (unlisted : held.listed ≡ false) (end : RunEnd) (h : HasStopped (near t old s begun r) (o t old s begun r) t.areas t.rules (p t old s begun r) end m file now held) (one : m.steps ≡ s.system.machine.steps + 1) (m4 : Engine) (file4 : Option BlockFile) (l : IsLookedAt m file m4 file4) (lines : List ℕ) (seen : List Seen) where
  abbrev cut_at : Stage
  cut_at = record { system = record { machine = m4; file = file4; channels = now }; held = held; lines = lines; seen = seen }

  abbrev turns_cut : ℕ
  turns_cut = made t old s begun r m file now held unlisted end h

  pub unlisted_next : IsUnlisted s.lines lines s.seen → IsCutShort t old cut_at
  unlisted_next u =
      let k = keeps_then t old s begun r m file now held unlisted end h in
      let tracks = tracks_looked m m4 file file4 (turns_of t turns_cut) l (tracks_then t old s begun r m file now held unlisted end h) in
      let steps : m4.steps ≡ m.steps = ap (λ (k : Keeping). k.steps) l.keeps in
      record {
        made = turns_cut;
        goes = k.goes;
        means = tracks.means;
        steps = tracks.steps;
        fails = inr (written_read t.areas t.from (turns_of t turns_cut) t.file file file4 l.reads k.written);
        lines = s.system.machine.steps;
        all_but = inr (record {
          watched = let e = ap length r.watches in let n = length-map s.seen (λ w. w.watch) in let some = u.watched in omega (arith, e, n, some);
          but_one = sym (steps ∙ one);
          tracks = tracks;
        });
        holds = record {
          out = k.holds.out;
          recorded = k.holds.recorded;
          sent = k.holds.sent;
          lines = ap (λ (xs : List ℕ). k.holds.recorded ++ xs) u.same ∙ k.holds.lines;
          wrote = k.holds.wrote;
          unlisted = k.holds.unlisted;
        };
      }
