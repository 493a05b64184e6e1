-- Sessions turn by turn: lines one after the other, and single lines by what was done for them and what was written.
use Rattle.std.proofs.Common.{◌≡◌, ℕ, List, [], ◌∷◌, ◌++◌, append-nil, append_assoc, inl, inr, Option, Result, Ok, Err, refl, sym, ap, subst, ◌∙◌}
use Rattle.vax_space.specs.declared.Area.{Area}
use Rattle.vax_outside.specs.Blocks.{BlockFile}
use Rattle.vax_outside.specs.Channels.{Channels, Grew, GrewByPrefix}
use Rattle.vax_outside.specs.declared.faults.Failures.{Failures}
use Rattle.vax_outside.proofs.Growth.{grew_nothing}
use Rattle.vax_flat.specs.Parts.{At, machine_at}
use Rattle.vax_flat.specs.Step.{Flat}
use Rattle.vax_pager.specs.Meaning.{pages}
use Rattle.vax_sched.specs.declared.rule.Rule.{Rule}
use Rattle.vax_machine.specs.Blocks.{Moved}
use Rattle.vax_machine.specs.Machine.{Means}
use Rattle.vax_machine.specs.Paged.{Paged}
use Rattle.vax_machine.specs.declared.engine.Engine.{Engine}
use Rattle.vax_machine.specs.declared.event.Limits.{Limits}
use Rattle.vax_script.specs.declared.request.Line.{Line}
use Rattle.vax_console.specs.Ends.{Replies, Scene, scene, writes}
use Rattle.vax_console.specs.Transcript.{line_reply}
use Rattle.vax_console.specs.Turns.{BreaksOff, CarriesOutAll, Does, Fails, HasMadeSteps, Holds, HoldsFrom, IsCarriedOut, IsCutShort, Loses, RunsThrough, Sends, Setting, Stand, StepsHold, TimesOut, after_turns, session_at, setting_of, stand_at, steps_of}
use Rattle.vax_console.specs.declared.stopped.Stopped.{Stopped}
use Rattle.vax_console.specs.declared.stopped.Stopped.TheVariants as stopped
use Rattle.vax_console.proofs.Replying.{grew_reply, prefix_reply}

-- lines one after the other

-- no line at all
pub none_held : (g : Setting) (before : Scene) (flat : Flat) → Means before.machine before.file (At flat) → (pages before.machine.pager).areas ≡ g.areas → IsCarriedOut g [] (stand_at before (At flat)) before
unfolding CarriesOutAll
none_held g before flat means areas = record { flat = flat; goes = refl; means = means; areas = areas }

all_then : (g : Setting) (front lines : List Line) (s mid t : Stand) → CarriesOutAll g front s mid → CarriesOutAll g lines mid t → CarriesOutAll g (front ++ lines) s t
unfolding CarriesOutAll
all_then g [] lines s mid t a b = subst (λ (z : Stand). CarriesOutAll g lines z t) a b
all_then g (l ∷ front) lines s mid t a b = (a.0, a.1, all_then g front lines a.0 mid t a.2 b)

short_behind : (P : Line → Stand → Type 0) (g : Setting) (front lines : List Line) (s mid : Stand) → CarriesOutAll g front s mid → IsCutShort P g lines mid → IsCutShort P g (front ++ lines) s
short_behind P g front lines s mid a c = record {
  front = front ++ c.front;
  line = c.line;
  back = c.back;
  splits = ap (λ (z : List Line). front ++ z) c.splits ∙ sym (append_assoc front c.front (c.line ∷ c.back));
  here = c.here;
  goes = all_then g front c.front s mid c.here a c.goes;
  ends = c.ends;
}

short_further : (P : Line → Stand → Type 0) (g : Setting) (lines rest : List Line) (s : Stand) → IsCutShort P g lines s → IsCutShort P g (lines ++ rest) s
short_further P g lines rest s c = record {
  front = c.front;
  line = c.line;
  back = c.back ++ rest;
  splits = ap (λ (z : List Line). z ++ rest) c.splits ∙ append_assoc c.front (c.line ∷ c.back) rest;
  here = c.here;
  goes = c.goes;
  ends = c.ends;
}

held_behind : (r : Result (Unit {0}) Stopped) (g : Setting) (front lines : List Line) (s mid : Stand) (after : Scene) → CarriesOutAll g front s mid → Holds r g lines mid after → Holds r g (front ++ lines) s after
held_behind (Ok x) g front lines s mid after a h = record {
  flat = h.flat;
  goes = all_then g front lines s mid (stand_at after (At h.flat)) a h.goes;
  means = h.means;
  areas = h.areas;
}
held_behind (Err stopped.Turns) g front lines s mid after a h = short_behind (λ l here. TimesOut g l here after) g front lines s mid a h
held_behind (Err stopped.PageFault) g front lines s mid after a h = short_behind (λ l here. Fails g l here after) g front lines s mid a h
held_behind (Err stopped.WriteFault) g front lines s mid after a h = short_behind (λ l here. Loses g l here after) g front lines s mid a h

-- lines behind those that were carried out
pub then_held : (r : Result (Unit {0}) Stopped) (limits : Limits) (rules : List Rule) (front lines : List Line) (s : Stand) (start mid after : Scene) → IsCarriedOut (setting_of start limits rules) front s mid → HoldsFrom mid after limits rules lines r → Holds r (setting_of start limits rules) (front ++ lines) s after
then_held r limits rules front lines s start mid after h k =
    let with_areas : List Area → Setting = λ areas. record { limits = limits; areas = areas; rules = rules } in
    let same : setting_of mid limits rules ≡ setting_of start limits rules = ap with_areas h.areas in
    held_behind r (setting_of start limits rules) front lines s (stand_at mid (At h.flat)) after h.goes (subst (λ (z : Setting). Holds r z lines (stand_at mid (At h.flat)) after) same (k h.flat h.means))

-- and lines that are left
pub held_further : (e : Stopped) (g : Setting) (lines rest : List Line) (s : Stand) (after : Scene) → Holds (Err e) g lines s after → Holds (Err e) g (lines ++ rest) s after
held_further stopped.Turns g lines rest s after h = short_further (λ l here. TimesOut g l here after) g lines rest s h
held_further stopped.PageFault g lines rest s after h = short_further (λ l here. Fails g l here after) g lines rest s h
held_further stopped.WriteFault g lines rest s after h = short_further (λ l here. Loses g l here after) g lines rest s h

-- one line

pub line_held : (g : Setting) (l : Line) (s : Stand) (after : Scene) (flat : Flat) → Does g l s (stand_at after (At flat)) → Sends s (stand_at after (At flat)) (line_reply g.limits.steps (session_at s) l) →
    Means after.machine after.file (At flat) → (pages after.machine.pager).areas ≡ g.areas → IsCarriedOut g (l ∷ []) s after
unfolding CarriesOutAll
line_held g l s after flat does sends means areas = record {
  flat = flat;
  goes = (stand_at after (At flat), record { does = does; sends = sends }, refl);
  means = means;
  areas = areas;
}

pub line_short : (P : Line → Stand → Type 0) (g : Setting) (l : Line) (s : Stand) → P l s → IsCutShort P g (l ∷ []) s
unfolding CarriesOutAll
line_short P g l s p = record { front = []; line = l; back = []; splits = refl; here = s; goes = refl; ends = p }

-- its reply comes behind what was sent
pub replied_held : (r : Result (Unit {0}) Stopped) (g : Setting) (l : Line) (s : Stand) (after : Scene) (flat : Flat) (sent text : List ℕ) (mid : Option Channels) (before now : Failures) →
    Does g l s (stand_at after (At flat)) → flat.output ≡ (machine_at s.at.place).output ++ sent → line_reply g.limits.steps (session_at s) l ≡ text →
    Means after.machine after.file (At flat) → (pages after.machine.pager).areas ≡ g.areas → Grew s.sink mid (writes sent []) → Replies r before now mid after.sink text → Holds r g (l ∷ []) s after
replied_held (Ok x) g l s after flat sent text mid before now does output said means areas grew p =
    let wrote : Grew s.sink after.sink (writes sent (line_reply g.limits.steps (session_at s) l)) = subst (λ (z : List ℕ). Grew s.sink after.sink (writes sent z)) (sym said) (grew_reply s.sink mid after.sink sent text grew p.1) in
    line_held g l s after flat does (record { sent = sent; output = output; wrote = wrote }) means areas
replied_held (Err stopped.Turns) g l s after flat sent text mid before now does output said means areas grew p = absurd p
replied_held (Err stopped.PageFault) g l s after flat sent text mid before now does output said means areas grew p = absurd p
replied_held (Err stopped.WriteFault) g l s after flat sent text mid before now does output said means areas grew p =
    let wrote : GrewByPrefix s.sink after.sink (writes sent (line_reply g.limits.steps (session_at s) l)) = subst (λ (z : List ℕ). GrewByPrefix s.sink after.sink (writes sent z)) (sym said) (prefix_reply s.sink mid after.sink sent text grew p.2) in
    line_short (λ x here. Loses g x here after) g l s (inr (record { place = At flat; does = does; sends = record { sent = sent; output = output; wrote = wrote }; means = means }))

-- nothing was sent
pub simple_held : (r : Result (Unit {0}) Stopped) (g : Setting) (l : Line) (s : Stand) (after : Scene) (flat : Flat) (text : List ℕ) (before now : Failures) →
    Does g l s (stand_at after (At flat)) → flat.output ≡ (machine_at s.at.place).output → line_reply g.limits.steps (session_at s) l ≡ text →
    Means after.machine after.file (At flat) → (pages after.machine.pager).areas ≡ g.areas → Replies r before now s.sink after.sink text → Holds r g (l ∷ []) s after
simple_held r g l s after flat text before now does output said means areas p =
    replied_held r g l s after flat [] text s.sink before now does (output ∙ sym (append-nil (machine_at s.at.place).output)) said means areas (grew_nothing s.sink) p

-- a run, and then its reply

runs_as : (g : Setting) (count : ℕ) (s t u : Stand) → u.at ≡ t.at → u.file ≡ t.file → RunsThrough g count s t → RunsThrough g count s u
runs_as g count s t u at file r = record {
  why = r.why;
  through = r.through;
  makes = record {
    turns = r.makes.turns;
    goes = r.makes.goes;
    stopped = r.makes.stopped;
    reached = at ∙ r.makes.reached;
    moved = subst (λ (z : Option BlockFile). Moved g.areas s.at (after_turns g r.makes.turns s) s.file z) (sym file) r.makes.moved;
  };
  flat = r.flat;
  between = ap (λ (z : Paged). z.place) at ∙ r.between;
}

pub ran_held : (r : Result (Unit {0}) Stopped) (g : Setting) (l : Line) (s : Stand) (m : Engine) (file : Option BlockFile) (mid new : Option Channels) (text : List ℕ) (before now : Failures) →
    ((t : Stand) → RunsThrough g (steps_of g l s) s t → Does g l s t) → HasMadeSteps g (steps_of g l s) s (scene m file mid) → line_reply g.limits.steps (session_at s) l ≡ text → Replies r before now mid new text → Holds r g (l ∷ []) s (scene m file new)
ran_held r g l s m file mid new text before now does made said p =
    let t = stand_at (scene m file new) (At made.flat) in
    replied_held r g l s (scene m file new) made.flat made.sends.sent text mid before now (does t (runs_as g (steps_of g l s) s (stand_at (scene m file mid) (At made.flat)) t refl refl made.runs)) made.sends.output said made.means made.areas made.sends.wrote p

-- or it was cut off
pub stopped_held : (e : Stopped) (g : Setting) (l : Line) (s : Stand) (after : Scene) → (BreaksOff g (steps_of g l s) s after → Fails g l s after) → StepsHold (Err e) g (steps_of g l s) s after → Holds (Err e) g (l ∷ []) s after
stopped_held stopped.Turns g l s after fails h = line_short (λ x here. TimesOut g x here after) g l s h
stopped_held stopped.PageFault g l s after fails h = line_short (λ x here. Fails g x here after) g l s (fails h)
stopped_held stopped.WriteFault g l s after fails h = line_short (λ x here. Loses g x here after) g l s (inl h)
