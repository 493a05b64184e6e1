-- Lines one after the other.
use Rattle.std.proofs.Common.{◌≡◌, ◌≤◌, ℕ, List, [], ◌∷◌, ◌++◌, append-nil, append_assoc, map, Option, Result, Ok, Err, refl, sym, ap, subst, ◌∙◌, arith}
use Rattle.vax_outside.specs.Blocks.{BlockFile}
use Rattle.vax_outside.specs.Channels.{Channels, append, nothing}
use Rattle.vax_outside.proofs.Growth.{append-nothing, grew_more, grew_nothing, prefix_in}
use Rattle.vax_flat.specs.Parts.{Place, At}
use Rattle.vax_flat.specs.Step.{Flat}
use Rattle.vax_machine.specs.Machine.{Means}
use Rattle.vax_machine.specs.declared.engine.Engine.{Engine}
use Rattle.vax_machine.specs.declared.event.Limits.{Limits}
use Rattle.vax_lines.specs.Lines.{Text, lines}
use Rattle.vax_script.specs.Requests.{line_of, readings}
use Rattle.vax_script.specs.declared.request.Line.{Line}
use Rattle.vax_script.specs.declared.request.Line.TheVariants.{Blank, Request as Asks, Malformed}
use Rattle.vax_console.specs.Transcript.{Session, after_line, line_reply, session_after, transcript}
use Rattle.vax_console.specs.Ends.{Carries, Goes, IsAt, IsCutOff, IsLost, IsOnTheWay, IsOutOfTurns, IsPartOf, IsWithin, session_on, steps_in, writes}
use Rattle.vax_console.proofs.Outputs.{lines_further}
use Rattle.vax_console.proofs.Replying.{prefix_before}
use Rattle.vax_console.specs.declared.stopped.Stopped.{Stopped}
use Rattle.vax_console.specs.declared.stopped.Stopped.TheVariants as stopped

-- lines in two parts

pub after_append : (limit : ℕ) (s : Session) (front back : List Line) → session_after limit s (front ++ back) ≡ session_after limit (session_after limit s front) back
unfolding session_after
after_append limit s [] back = refl
after_append limit s (l ∷ front) back = after_append limit (after_line limit s l) front back

pub transcript_append : (limit : ℕ) (s : Session) (front back : List Line) → transcript limit s (front ++ back) ≡ transcript limit s front ++ transcript limit (session_after limit s front) back
unfolding session_after transcript
transcript_append limit s [] back = refl
transcript_append limit s (l ∷ front) back =
    ap (λ (z : List ℕ). line_reply limit s l ++ z) (transcript_append limit (after_line limit s l) front back)
    ∙ sym (append_assoc (line_reply limit s l) (transcript limit (after_line limit s l) front) (transcript limit (session_after limit (after_line limit s l) front) back))

-- no line at all
pub none_carried : (limits : Limits) (s : Session) (m : Engine) (file : Option BlockFile) (old : Option Channels) → m.steps ≡ s.steps → Means m file (At s.machine) → Carries limits s [] m file old old
unfolding session_after transcript
none_carried limits s m file old steps means = record { steps = steps; means = means; sent = []; output = sym (append-nil s.machine.output); wrote = grew_nothing old }

-- what is written behind what was written

sent_both : (from mid to : Flat) (x y : List ℕ) → mid.output ≡ from.output ++ x → to.output ≡ mid.output ++ y → to.output ≡ from.output ++ (x ++ y)
sent_both from mid to x y a b = b ∙ (ap (λ (z : List ℕ). z ++ y) a ∙ append_assoc from.output x y)

at_behind : (from : Flat) (s t : Session) (first second : List ℕ) (m1 m2 : Engine) (f1 f2 : Option BlockFile) (a b c : Option Channels) → IsAt from s first m1 f1 a b → IsAt s.machine t second m2 f2 b c → IsAt from t (first ++ second) m2 f2 a c
at_behind from s t first second m1 m2 f1 f2 a b c p q = record {
  steps = q.steps;
  means = q.means;
  sent = p.sent ++ q.sent;
  output = sent_both from s.machine t.machine p.sent q.sent p.output q.output;
  wrote = grew_more a b c (writes p.sent first) (writes q.sent second) p.wrote q.wrote;
}

within_behind : (from : Flat) (s t : Session) (most : ℕ) (first second : List ℕ) (m1 m2 : Engine) (f1 f2 : Option BlockFile) (a b c : Option Channels) → IsAt from s first m1 f1 a b → IsWithin s.machine t most second m2 f2 b c → IsWithin from t most (first ++ second) m2 f2 a c
within_behind from s t most first second m1 m2 f1 f2 a b c p q = record {
  place = q.place;
  goes = q.goes;
  means = q.means;
  sent = p.sent ++ q.sent;
  output = q.output ∙ (ap (λ (z : List ℕ). z ++ q.sent) p.output ∙ append_assoc from.output p.sent q.sent);
  wrote = grew_more a b c (writes p.sent first) (writes q.sent second) p.wrote q.wrote;
}

part_behind : (from : Flat) (s t : Session) (first second : List ℕ) (m : Engine) (f : Option BlockFile) (a b c : Option Channels) → IsAt from s first m f a b → IsPartOf s.machine t second b c → IsPartOf from t (first ++ second) a c
part_behind from s t first second m f a b c p q = record {
  sent = p.sent ++ q.sent;
  output = sent_both from s.machine t.machine p.sent q.sent p.output q.output;
  wrote = prefix_in a b c (writes p.sent first) (writes q.sent second) nothing (writes (p.sent ++ q.sent) (first ++ second)) (ap (append (writes p.sent first)) (append-nothing (writes q.sent second))) p.wrote q.wrote;
}

-- lines behind lines that were carried out

pub splits_behind : (front mid back all : List Line) → all ≡ mid ++ back → front ++ all ≡ (front ++ mid) ++ back
splits_behind front mid back all e = ap (λ (z : List Line). front ++ z) e ∙ sym (append_assoc front mid back)

carried_behind : (limits : Limits) (s : Session) (front back : List Line) (m1 m2 : Engine) (f1 f2 : Option BlockFile) (a b c : Option Channels) → Carries limits s front m1 f1 a b → Carries limits (session_after limits.steps s front) back m2 f2 b c → Carries limits s (front ++ back) m2 f2 a c
carried_behind limits s front back m1 m2 f1 f2 a b c p q =
    let t = session_after limits.steps s front in
    let both = at_behind s.machine t (session_after limits.steps t back) (transcript limits.steps s front) (transcript limits.steps t back) m1 m2 f1 f2 a b c p q in
    subst (λ (z : Session). IsAt s.machine z (transcript limits.steps s (front ++ back)) m2 f2 a c) (sym (after_append limits.steps s front back))
    (subst (λ (z : List ℕ). IsAt s.machine (session_after limits.steps t back) z m2 f2 a c) (sym (transcript_append limits.steps s front back)) both)

within_as : (limits : Limits) (s : Session) (front mid back : List Line) (m : Engine) (f : Option BlockFile) (a c : Option Channels) → (t : Session) → t ≡ session_after limits.steps s front →
    IsWithin s.machine (session_after limits.steps t mid) (steps_in limits.steps (session_after limits.steps t mid) back) (transcript limits.steps s front ++ transcript limits.steps t mid) m f a c →
    IsWithin s.machine (session_after limits.steps s (front ++ mid)) (steps_in limits.steps (session_after limits.steps s (front ++ mid)) back) (transcript limits.steps s (front ++ mid)) m f a c
within_as limits s front mid back m f a c t is w =
    let e : session_after limits.steps s (front ++ mid) ≡ session_after limits.steps t mid = after_append limits.steps s front mid ∙ ap (λ (z : Session). session_after limits.steps z mid) (sym is) in
    let r : transcript limits.steps s (front ++ mid) ≡ transcript limits.steps s front ++ transcript limits.steps t mid = transcript_append limits.steps s front mid ∙ ap (λ (z : Session). transcript limits.steps s front ++ transcript limits.steps z mid) (sym is) in
    subst (λ (z : Session). IsWithin s.machine z (steps_in limits.steps z back) (transcript limits.steps s (front ++ mid)) m f a c) (sym e)
    (subst (λ (z : List ℕ). IsWithin s.machine (session_after limits.steps t mid) (steps_in limits.steps (session_after limits.steps t mid) back) z m f a c) (sym r) w)

within_after : (limits : Limits) (s : Session) (front mid back : List Line) (m1 m2 : Engine) (f1 f2 : Option BlockFile) (a b c : Option Channels) → Carries limits s front m1 f1 a b →
    IsWithin (session_after limits.steps s front).machine (session_after limits.steps (session_after limits.steps s front) mid) (steps_in limits.steps (session_after limits.steps (session_after limits.steps s front) mid) back) (transcript limits.steps (session_after limits.steps s front) mid) m2 f2 b c →
    IsWithin s.machine (session_after limits.steps s (front ++ mid)) (steps_in limits.steps (session_after limits.steps s (front ++ mid)) back) (transcript limits.steps s (front ++ mid)) m2 f2 a c
within_after limits s front mid back m1 m2 f1 f2 a b c p q =
    let t = session_after limits.steps s front in
    within_as limits s front mid back m2 f2 a c t refl (within_behind s.machine t (session_after limits.steps t mid) (steps_in limits.steps (session_after limits.steps t mid) back) (transcript limits.steps s front) (transcript limits.steps t mid) m1 m2 f1 f2 a b c p q)

cut_behind : (limits : Limits) (s : Session) (front lines : List Line) (m1 m2 : Engine) (f1 f2 : Option BlockFile) (a b c : Option Channels) → Carries limits s front m1 f1 a b → IsCutOff limits (session_after limits.steps s front) lines m2 f2 b c → IsCutOff limits s (front ++ lines) m2 f2 a c
cut_behind limits s front lines m1 m2 f1 f2 a b c p q = record {
  front = front ++ q.front;
  back = q.back;
  splits = splits_behind front q.front q.back lines q.splits;
  within = within_after limits s front q.front q.back m1 m2 f1 f2 a b c p q.within;
}

lost_behind : (limits : Limits) (s : Session) (front lines : List Line) (m : Engine) (f : Option BlockFile) (a b c : Option Channels) → Carries limits s front m f a b → IsLost limits (session_after limits.steps s front) lines b c → IsLost limits s (front ++ lines) a c
lost_behind limits s front lines m f a b c p q =
    let t = session_after limits.steps s front in
    let both = part_behind s.machine t (session_after limits.steps t lines) (transcript limits.steps s front) (transcript limits.steps t lines) m f a b c p q in
    subst (λ (z : Session). IsPartOf s.machine z (transcript limits.steps s (front ++ lines)) a c) (sym (after_append limits.steps s front lines))
    (subst (λ (z : List ℕ). IsPartOf s.machine (session_after limits.steps t lines) z a c) (sym (transcript_append limits.steps s front lines)) both)

out_as : (limits : Limits) (s : Session) (front mid back : List Line) (m : Engine) → IsOutOfTurns limits.turns (session_after limits.steps (session_after limits.steps s front) mid) (steps_in limits.steps (session_after limits.steps (session_after limits.steps s front) mid) back) m →
    IsOutOfTurns limits.turns (session_after limits.steps s (front ++ mid)) (steps_in limits.steps (session_after limits.steps s (front ++ mid)) back) m
out_as limits s front mid back m w = subst (λ (z : Session). IsOutOfTurns limits.turns z (steps_in limits.steps z back) m) (sym (after_append limits.steps s front mid)) w

behind : (r : Result (Unit {0}) Stopped) (limits : Limits) (s : Session) (front lines : List Line) (m1 m2 : Engine) (f1 f2 : Option BlockFile) (a b c : Option Channels) → Carries limits s front m1 f1 a b → Goes r limits (session_after limits.steps s front) lines m2 f2 b c → Goes r limits s (front ++ lines) m2 f2 a c
behind (Ok x) limits s front lines m1 m2 f1 f2 a b c p q = carried_behind limits s front lines m1 m2 f1 f2 a b c p q
behind (Err stopped.Turns) limits s front lines m1 m2 f1 f2 a b c p q = record {
  front = front ++ q.front;
  back = q.back;
  splits = splits_behind front q.front q.back lines q.splits;
  within = within_after limits s front q.front q.back m1 m2 f1 f2 a b c p q.within;
  out = out_as limits s front q.front q.back m2 q.out;
}
behind (Err stopped.PageFault) limits s front lines m1 m2 f1 f2 a b c p q = cut_behind limits s front lines m1 m2 f1 f2 a b c p q
behind (Err stopped.WriteFault) limits s front lines m1 m2 f1 f2 a b c p q = lost_behind limits s front lines m1 f1 a b c p q

-- a line behind lines that were carried out, as the machine is there
pub then_goes : (r : Result (Unit {0}) Stopped) (limits : Limits) (s : Session) (front lines : List Line) (m1 m2 : Engine) (f1 f2 : Option BlockFile) (a b c : Option Channels) → Carries limits s front m1 f1 a b →
    ((m : Flat) → Means m1 f1 (At m) → Goes r limits (session_on m1 m) lines m2 f2 b c) → Goes r limits s (front ++ lines) m2 f2 a c
then_goes r limits s front lines m1 m2 f1 f2 a b c p q =
    let t = session_after limits.steps s front in
    let is : session_on m1 t.machine ≡ t = ap (λ (n : ℕ). record { machine = t.machine; steps = n }) p.steps in
    behind r limits s front lines m1 m2 f1 f2 a b c p (subst (λ (z : Session). Goes r limits z lines m2 f2 b c) is (q t.machine p.means))

-- what stopped within some lines stopped within more

pub steps_append : (limit : ℕ) (s : Session) (lines more : List Line) → steps_in limit s lines ≤ steps_in limit s (lines ++ more)
steps_append limit s [] more = omega arith
steps_append limit s (Blank ∷ lines) more = omega arith
steps_append limit s (Asks r ∷ lines) more = omega arith
steps_append limit s (Malformed ∷ lines) more = omega arith

way_further : (s : Session) (most further steps : ℕ) (place : Place) → most ≤ further → IsOnTheWay s most place steps → IsOnTheWay s further place steps
way_further s most further steps place l w = record { count = w.count; few = let k = w.few in omega (arith, k, l); steps = w.steps; goes = w.goes }

pub splits_further : (front back lines more : List Line) → lines ≡ front ++ back → lines ++ more ≡ front ++ (back ++ more)
splits_further front back lines more e = ap (λ (z : List Line). z ++ more) e ∙ append_assoc front back more

within_further : (limits : Limits) (from : Flat) (t : Session) (back more : List Line) (replies : List ℕ) (m : Engine) (f : Option BlockFile) (a b : Option Channels) → IsWithin from t (steps_in limits.steps t back) replies m f a b → IsWithin from t (steps_in limits.steps t (back ++ more)) replies m f a b
within_further limits from t back more replies m f a b w = record {
  place = w.place;
  goes = way_further t (steps_in limits.steps t back) (steps_in limits.steps t (back ++ more)) m.steps w.place (steps_append limits.steps t back more) w.goes;
  means = w.means;
  sent = w.sent;
  output = w.output;
  wrote = w.wrote;
}

pub stopped_further : (e : Stopped) (limits : Limits) (s : Session) (lines more : List Line) (m : Engine) (f : Option BlockFile) (a b : Option Channels) → Goes (Err e) limits s lines m f a b → Goes (Err e) limits s (lines ++ more) m f a b
stopped_further stopped.Turns limits s lines more m f a b q =
    let t = session_after limits.steps s q.front in
    let o = q.out in
    record {
      front = q.front;
      back = q.back ++ more;
      splits = splits_further q.front q.back lines more q.splits;
      within = within_further limits s.machine t q.back more (transcript limits.steps s q.front) m f a b q.within;
      out = record { reached = o.reached; going = o.going; below = let k = o.below in let l = steps_append limits.steps t q.back more in omega (arith, k, l) };
    }
stopped_further stopped.PageFault limits s lines more m f a b q =
    let t = session_after limits.steps s q.front in
    record {
      front = q.front;
      back = q.back ++ more;
      splits = splits_further q.front q.back lines more q.splits;
      within = within_further limits s.machine t q.back more (transcript limits.steps s q.front) m f a b q.within;
    }
stopped_further stopped.WriteFault limits s lines more m f a b q =
    let t = session_after limits.steps s lines in
    let grown = lines_further limits.steps t more in
    let longer : IsPartOf s.machine (session_after limits.steps t more) (transcript limits.steps s lines ++ transcript limits.steps t more) a b = record {
      sent = q.sent ++ grown.0;
      output = sent_both s.machine t.machine (session_after limits.steps t more).machine q.sent grown.0 q.output grown.1;
      wrote = prefix_before a b q.sent grown.0 (transcript limits.steps s lines) (transcript limits.steps t more) q.wrote;
    } in
    subst (λ (z : Session). IsPartOf s.machine z (transcript limits.steps s (lines ++ more)) a b) (sym (after_append limits.steps s lines more))
    (subst (λ (z : List ℕ). IsPartOf s.machine (session_after limits.steps t more) z a b) (sym (transcript_append limits.steps s lines more)) longer)

-- one line more was read
pub one_read : (script rest line behind : Text) (front : List Line) (said : Line) → readings script ≡ front ++ readings rest → lines rest ≡ line ∷ lines behind → said ≡ line_of line → readings script ≡ (front ++ said ∷ []) ++ readings behind
one_read script rest line behind front said e l s =
    let here : readings rest ≡ said ∷ readings behind = ap (map line_of) l ∙ ap (λ (z : Line). z ∷ readings behind) (sym s) in
    e ∙ (ap (λ (z : List Line). front ++ z) here ∙ sym (append_assoc front (said ∷ []) (readings behind)))
