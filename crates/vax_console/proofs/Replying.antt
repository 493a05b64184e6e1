-- One line, by what was done for it and what was written.
use Rattle.std.proofs.Common.{◌≡◌, ℕ, List, [], ◌∷◌, ◌++◌, append-nil, Option, Result, Ok, Err, refl, sym, ap, subst, ◌∙◌, arith}
use Rattle.vax_outside.specs.Blocks.{BlockFile}
use Rattle.vax_outside.specs.Channels.{Channels, Grew, GrewByPrefix, append, nothing, only}
use Rattle.vax_outside.specs.declared.traits.Chan.TheVariants.{Report}
use Rattle.vax_outside.specs.declared.faults.Failures.{Failures}
use Rattle.vax_outside.proofs.Counting.{rose_then}
use Rattle.vax_outside.proofs.Growth.{append-nothing, channels_assoc, grew_more, grew_nothing, prefix_in}
use Rattle.vax_flat.specs.Parts.{At}
use Rattle.vax_machine.specs.Machine.{Means}
use Rattle.vax_machine.specs.declared.engine.Engine.{Engine}
use Rattle.vax_machine.specs.declared.event.Limits.{Limits}
use Rattle.vax_script.specs.declared.request.Line.{Line}
use Rattle.vax_console.specs.Transcript.{Session, advanced, after_line, line_reply, session_after, transcript}
use Rattle.vax_console.specs.Ends.{Carries, Causes, ChangesOnce, Goes, IsAt, IsOnTheWay, IsOutOfTurns, IsPartOf, IsWithin, Replies, steps_in, writes}
use Rattle.vax_console.specs.declared.stopped.Stopped.{Stopped}
use Rattle.vax_console.specs.declared.stopped.Stopped.TheVariants as stopped

here : (s : Session) (most : ℕ) (steps : ℕ) → steps ≡ s.steps → IsOnTheWay s most (At s.machine) steps
unfolding advanced
here s most steps e = record { count = 0; few = omega arith; steps = e; goes = refl }

transcript_one : (limit : ℕ) (s : Session) (l : Line) → transcript limit s (l ∷ []) ≡ line_reply limit s l
unfolding transcript
transcript_one limit s l = append-nil (line_reply limit s l)

after_one : (limit : ℕ) (s : Session) (l : Line) → session_after limit s (l ∷ []) ≡ after_line limit s l
unfolding session_after
after_one limit s l = refl

-- the line was carried out: it leaves the session there, and this was sent and replied
pub line_done : (limits : Limits) (s t : Session) (l : Line) (text sent : List ℕ) (m : Engine) (file : Option BlockFile) (old now : Option Channels) → after_line limits.steps s l ≡ t → line_reply limits.steps s l ≡ text →
    m.steps ≡ t.steps → Means m file (At t.machine) → t.machine.output ≡ s.machine.output ++ sent → Grew old now (writes sent text) → Carries limits s (l ∷ []) m file old now
line_done limits s t l text sent m file old now a r steps means output wrote =
    let is : session_after limits.steps s (l ∷ []) ≡ t = after_one limits.steps s l ∙ a in
    let replies : transcript limits.steps s (l ∷ []) ≡ text = transcript_one limits.steps s l ∙ r in
    let at : IsAt s.machine t text m file old now = record { steps = steps; means = means; sent = sent; output = output; wrote = wrote } in
    subst (λ (z : Session). IsAt s.machine z (transcript limits.steps s (l ∷ [])) m file old now) (sym is) (subst (λ (z : List ℕ). IsAt s.machine t z m file old now) (sym replies) at)

-- its reply wasn't written whole
pub line_lost : (limits : Limits) (s t : Session) (l : Line) (text sent : List ℕ) (m : Engine) (file : Option BlockFile) (old now : Option Channels) → after_line limits.steps s l ≡ t → line_reply limits.steps s l ≡ text →
    t.machine.output ≡ s.machine.output ++ sent → GrewByPrefix old now (writes sent text) → Goes (Err stopped.WriteFault) limits s (l ∷ []) m file old now
line_lost limits s t l text sent m file old now a r output wrote =
    let is : session_after limits.steps s (l ∷ []) ≡ t = after_one limits.steps s l ∙ a in
    let replies : transcript limits.steps s (l ∷ []) ≡ text = transcript_one limits.steps s l ∙ r in
    let part : IsPartOf s.machine t text old now = record { sent = sent; output = output; wrote = wrote } in
    subst (λ (z : Session). IsPartOf s.machine z (transcript limits.steps s (l ∷ [])) old now) (sym is) (subst (λ (z : List ℕ). IsPartOf s.machine t z old now) (sym replies) part)

-- a call of the page file failed before any step
pub line_cut : (limits : Limits) (s : Session) (l : Line) (m : Engine) (file : Option BlockFile) (old : Option Channels) → m.steps ≡ s.steps → Means m file (At s.machine) → Goes (Err stopped.PageFault) limits s (l ∷ []) m file old old
unfolding session_after transcript
line_cut limits s l m file old steps means = record {
  front = [];
  back = l ∷ [];
  splits = refl;
  within = record {
    place = At s.machine;
    goes = here s (steps_in limits.steps s (l ∷ [])) m.steps steps;
    means = means;
    sent = [];
    output = sym (append-nil s.machine.output);
    wrote = grew_nothing old;
  };
}

-- a run was cut off
pub run_cut : (limits : Limits) (s : Session) (l : Line) (most : ℕ) (m : Engine) (file : Option BlockFile) (old now : Option Channels) → steps_in limits.steps s (l ∷ []) ≡ most → IsWithin s.machine s most [] m file old now → Goes (Err stopped.PageFault) limits s (l ∷ []) m file old now
unfolding session_after transcript
run_cut limits s l most m file old now e w = record {
  front = [];
  back = l ∷ [];
  splits = refl;
  within = subst (λ (z : ℕ). IsWithin s.machine s z [] m file old now) (sym e) w;
}

-- at the limit of turns
pub run_out : (limits : Limits) (s : Session) (l : Line) (most : ℕ) (m : Engine) (file : Option BlockFile) (old now : Option Channels) → steps_in limits.steps s (l ∷ []) ≡ most → IsOutOfTurns limits.turns s most m → IsWithin s.machine s most [] m file old now → Goes (Err stopped.Turns) limits s (l ∷ []) m file old now
unfolding session_after transcript
run_out limits s l most m file old now e o w = record {
  front = [];
  back = l ∷ [];
  splits = refl;
  within = subst (λ (z : ℕ). IsWithin s.machine s z [] m file old now) (sym e) w;
  out = subst (λ (z : ℕ). IsOutOfTurns limits.turns s z m) (sym e) o;
}

-- what begins something longer
pub prefix_before : (old now : Option Channels) (sent more replies rest : List ℕ) → GrewByPrefix old now (writes sent replies) → GrewByPrefix old now (writes (sent ++ more) (replies ++ rest))
prefix_before old now sent more replies rest p = record {
  prefix = p.prefix;
  rest = append p.rest (writes more rest);
  splits = sym (channels_assoc p.prefix p.rest (writes more rest)) ∙ ap (λ (z : Channels). append z (writes more rest)) p.splits;
  grew = p.grew;
}

-- the output of a run wasn't written whole
pub run_lost : (limits : Limits) (s t : Session) (l : Line) (m : Engine) (file : Option BlockFile) (old now : Option Channels) → after_line limits.steps s l ≡ t → IsPartOf s.machine t [] old now → Goes (Err stopped.WriteFault) limits s (l ∷ []) m file old now
run_lost limits s t l m file old now a w =
    let text = line_reply limits.steps s l in
    let wrote : GrewByPrefix old now (writes (w.sent ++ []) ([] ++ text)) = prefix_before old now w.sent [] [] text w.wrote in
    line_lost limits s t l text w.sent m file old now a refl w.output (subst (λ (z : List ℕ). GrewByPrefix old now (writes z text)) (append-nil w.sent) wrote)

-- what was sent and then replied
replied : (sent text : List ℕ) → append (writes sent []) (only Report text) ≡ writes sent text
replied sent text = ap (λ (z : List ℕ). writes z text) (append-nil sent)

pub grew_reply : (a b c : Option Channels) (sent text : List ℕ) → Grew a b (writes sent []) → Grew b c (only Report text) → Grew a c (writes sent text)
grew_reply a b c sent text p q =
    let P : Channels → Type 0 = λ g. Grew a c g in
    subst P (replied sent text) (grew_more a b c (writes sent []) (only Report text) p q)

pub prefix_reply : (a b c : Option Channels) (sent text : List ℕ) → Grew a b (writes sent []) → GrewByPrefix b c (only Report text) → GrewByPrefix a c (writes sent text)
prefix_reply a b c sent text p q =
    let joins : append (writes sent []) (append (only Report text) nothing) ≡ writes sent text = ap (append (writes sent [])) (append-nothing (only Report text)) ∙ replied sent text in
    prefix_in a b c (writes sent []) (only Report text) nothing (writes sent text) joins p q

-- a line that leaves the session there, whose reply comes behind what was sent
pub replied_goes : (r : Result (Unit {0}) Stopped) (limits : Limits) (s t : Session) (l : Line) (text sent : List ℕ) (m : Engine) (file : Option BlockFile) (before now : Failures) (old mid new : Option Channels) → after_line limits.steps s l ≡ t → line_reply limits.steps s l ≡ text →
    m.steps ≡ t.steps → Means m file (At t.machine) → t.machine.output ≡ s.machine.output ++ sent → Grew old mid (writes sent []) → Replies r before now mid new text → Goes r limits s (l ∷ []) m file old new
replied_goes (Ok x) limits s t l text sent m file before now old mid new a e steps means output g p = line_done limits s t l text sent m file old new a e steps means output (grew_reply old mid new sent text g p.1)
replied_goes (Err stopped.Turns) limits s t l text sent m file before now old mid new a e steps means output g p = absurd p
replied_goes (Err stopped.PageFault) limits s t l text sent m file before now old mid new a e steps means output g p = absurd p
replied_goes (Err stopped.WriteFault) limits s t l text sent m file before now old mid new a e steps means output g p = line_lost limits s t l text sent m file old new a e output (prefix_reply old mid new sent text g p.2)

-- a line that sends nothing
pub simple_goes : (r : Result (Unit {0}) Stopped) (limits : Limits) (s t : Session) (l : Line) (text : List ℕ) (m : Engine) (file : Option BlockFile) (before now : Failures) (old new : Option Channels) → after_line limits.steps s l ≡ t → line_reply limits.steps s l ≡ text →
    m.steps ≡ t.steps → Means m file (At t.machine) → t.machine.output ≡ s.machine.output → Replies r before now old new text → Goes r limits s (l ∷ []) m file old new
simple_goes r limits s t l text m file before now old new a e steps means output p =
    replied_goes r limits s t l text [] m file before now old old new a e steps means (output ∙ sym (append-nil s.machine.output)) (grew_nothing old) p

pub reply_causes : (r : Result (Unit {0}) Stopped) (file before now : Failures) (old new : Option Channels) (text : List ℕ) → Replies r before now old new text → Causes r file file before now
reply_causes (Ok x) file before now old new text p = (refl, p.0)
reply_causes (Err stopped.Turns) file before now old new text p = absurd p
reply_causes (Err stopped.PageFault) file before now old new text p = absurd p
reply_causes (Err stopped.WriteFault) file before now old new text p = (omega arith, p.0, p.1, λ n. absurd (n refl))

-- a count that hadn't changed before
pub changes_once_then : (before mid now : Failures) → mid.count ≡ before.count → ChangesOnce mid now → ChangesOnce before now
changes_once_then before mid now still h = λ n. rose_then still (h (λ e. n (e ∙ still)))

pub causes_then : {T : Type 0} (r : Result T Stopped) (f g h x y z : Failures) → g.count ≡ f.count → y.count ≡ x.count → Causes r g h y z → Causes r f h x z
causes_then (Ok v) f g h x y z a b c = (c.0 ∙ a, c.1 ∙ b)
causes_then (Err stopped.Turns) f g h x y z a b c = (c.0 ∙ a, c.1 ∙ b)
causes_then (Err stopped.PageFault) f g h x y z a b c = (let l = c.0 in omega (arith, a, l), rose_then a c.1, c.2 ∙ b)
causes_then (Err stopped.WriteFault) f g h x y z a b c = (let l = c.0 in omega (arith, a, l), let m = c.1 in omega (arith, b, m), rose_then b c.2, changes_once_then f g h a c.3)

pub replies_as : (r : Result (Unit {0}) Stopped) (before now : Failures) (old new : Option Channels) (text said : List ℕ) → text ≡ said → Replies r before now old new text → Replies r before now old new said
replies_as r before now old new text said e p = subst (λ (z : List ℕ). Replies r before now old new z) e p
