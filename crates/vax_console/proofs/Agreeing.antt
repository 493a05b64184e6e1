-- A session by turns is the session of the flat machine.
use Rattle.std.proofs.Common.{◌≡◌, ◌≤◌, ◌+◌, ℕ, Bool, true, false, nat_le, if◌then◌else◌, List, [], ◌∷◌, ◌++◌, append_assoc, append-nil, length, Option, Some, None, refl, sym, ap, subst, ◌∙◌, arith, inl, inr}
use Rattle.std.proofs.lemmas.Bool.{cases_Bool}
use Rattle.vax_space.specs.declared.Area.{Area}
use Rattle.vax_outside.proofs.Growth.{grew_more, grew_nothing}
use Rattle.vax_flat.specs.declared.Ending.{Ending}
use Rattle.vax_flat.specs.Parts.{Place, At, GoesBy, machine_at}
use Rattle.vax_flat.specs.Step.{Flat}
use Rattle.vax_pager.specs.Poking.{pages_of_bytes}
use Rattle.vax_machine.specs.Console.{with_bytes, with_register}
use Rattle.vax_machine.specs.Depositing.{with_page, with_pages, without_pins}
use Rattle.vax_machine.specs.Paged.{Paged, Why, ByEnding, BySteps, ByTurns, stops}
use Rattle.vax_machine.specs.Residence.{is_resident}
use Rattle.vax_script.specs.declared.request.Request.{Request}
use Rattle.vax_script.specs.declared.request.Request.TheVariants.{ExamineRegister, ExamineMemory, DepositRegister, DepositMemory, Next, Continue, Show}
use Rattle.vax_script.specs.declared.request.Line.{Line}
use Rattle.vax_script.specs.declared.request.Line.TheVariants.{Blank, Request as Asks, Malformed}
use Rattle.vax_console.specs.Ends.{writes}
use Rattle.vax_console.specs.Transcript.{Session, advanced, after_line, answered, line_reply, may_deposit, session_after, transcript, with_machine}
use Rattle.vax_console.specs.Turns.{Answers, CarriesOutAll, Does, IsThrough, RunsThrough, RunsUnless, Sends, SetsBytesIf, Setting, Stand, after_turns, limits_for, session_at, steps_of}
use Rattle.vax_console.proofs.Advancing.{Makes, advanced_ended, advanced_stays, run_makes}
use Rattle.vax_console.proofs.Running.{by_ending, by_steps, is_le}

-- between two steps
abbrev pub IsBetweenSteps : Stand → Type 0
IsBetweenSteps s = (m : Flat) × (s.at.place ≡ At m)

-- the flat session is there, between two steps
record Agrees (t : Stand) (to : Session) : Type 0 where
  pub between : IsBetweenSteps t
  pub same : session_at t ≡ to

stays_agrees : (s t : Stand) → IsBetweenSteps s → t.at ≡ s.at → Agrees t (session_at s)
stays_agrees s t b at = record {
  between = (b.0, ap (λ (p : Paged). p.place) at ∙ b.1);
  same = ap (λ (p : Paged). record { machine = machine_at p.place; steps = p.steps }) at;
}

-- a run

by_why : (why : Why) (g : Setting) (count : ℕ) (s : Stand) (turns : ℕ) → IsThrough why → stops (s.at.steps + count) g.limits.turns (after_turns g turns s) ≡ Some why → (k : Makes (session_at s) count (after_turns g turns s)) → GoesBy (advanced k.made (session_at s)).machine (after_turns g turns s).place →
    (machine_at (after_turns g turns s).place).ending ≡ (advanced k.made (session_at s)).machine.ending → advanced count (session_at s) ≡ advanced k.made (session_at s)
unfolding stops
by_why (ByEnding e) g count s turns through stopped k goes same =
    let p = after_turns g turns s in
    let ended = by_ending (machine_at p.place).ending (nat_le (s.at.steps + count) p.steps) (nat_le g.limits.turns p.turns) e stopped in
    advanced_stays count k.made (session_at s) e k.few (sym same ∙ ended)
by_why BySteps g count s turns through stopped k goes same =
    let p = after_turns g turns s in
    let why = by_steps (machine_at p.place).ending (nat_le (s.at.steps + count) p.steps) (nat_le g.limits.turns p.turns) stopped in
    let all : s.at.steps + count ≤ p.steps = is_le (s.at.steps + count) p.steps why.1 in
    let made : k.made ≡ count = let x = k.few in let y = k.steps in omega (arith, all, x, y) in
    ap (λ (n : ℕ). advanced n (session_at s)) (sym made)
by_why ByTurns g count s turns through stopped k goes same = absurd through

runs_agree : (g : Setting) (count : ℕ) (s t : Stand) → IsBetweenSteps s → RunsThrough g count s t → Agrees t (advanced count (session_at s))
runs_agree g count s t b r =
    let p = after_turns g r.makes.turns s in
    let place : s.at.place ≡ At (session_at s).machine = b.1 ∙ ap (λ (z : Place). At (machine_at z)) (sym b.1) in
    let k = run_makes (limits_for g s count) g.areas g.rules r.makes.turns count s.at (session_at s) place refl refl r.makes.goes in
    let at : p.place ≡ At r.flat = sym (ap (λ (z : Paged). z.place) r.makes.reached) ∙ r.between in
    let is : r.flat ≡ (advanced k.made (session_at s)).machine = subst (λ (z : Place). GoesBy (advanced k.made (session_at s)).machine z) at k.goes in
    let here : (machine_at p.place).ending ≡ (advanced k.made (session_at s)).machine.ending = ap (λ (z : Place). (machine_at z).ending) at ∙ ap (λ (m : Flat). m.ending) is in
    let all = by_why r.why g count s r.makes.turns r.through r.makes.stopped k k.goes here in
    let machine : machine_at t.at.place ≡ (advanced k.made (session_at s)).machine = ap machine_at r.between ∙ is in
    let steps : t.at.steps ≡ (advanced k.made (session_at s)).steps = ap (λ (z : Paged). z.steps) r.makes.reached ∙ (k.steps ∙ sym k.same) in
    record { between = (r.flat, r.between); same = (λ i. record { machine = machine i; steps = steps i }) ∙ sym all }

unless_agrees : (how : Option Ending) (g : Setting) (count : ℕ) (s t : Stand) → IsBetweenSteps s → (machine_at s.at.place).ending ≡ how → RunsUnless how g count s t → Agrees t (advanced count (session_at s))
unless_agrees (Some e) g count s t b is h = record { between = (stays_agrees s t b h.at).between; same = (stays_agrees s t b h.at).same ∙ sym (advanced_ended count (session_at s) e is) }
unless_agrees None g count s t b is h = runs_agree g count s t b h

-- a deposit makes no step

page_steps : (page : ℕ) (p : Paged) → (with_page page p).steps ≡ p.steps
unfolding with_page
page_steps page p = elim (cases_Bool (is_resident p.residence page)) [ inl t ↦ rw t refl | inr f ↦ rw f refl ]

pages_steps : (pages : List ℕ) (p : Paged) → (with_pages pages p).steps ≡ p.steps
unfolding with_pages
pages_steps [] p = refl
pages_steps (page ∷ pages) p = pages_steps pages (with_page page p) ∙ page_steps page p

sets_agree : (may : Bool) (areas : List Area) (addr : ℕ) (bytes : List ℕ) (s t : Stand) → IsBetweenSteps s → SetsBytesIf may areas addr bytes s t → Agrees t (if may then with_machine (with_bytes addr bytes (session_at s).machine) (session_at s) else session_at s)
sets_agree true areas addr bytes s t b h =
    let at = h.at in
    let machine : machine_at t.at.place ≡ with_bytes addr bytes (machine_at s.at.place) = ap (λ (p : Paged). machine_at p.place) at in
    let steps : t.at.steps ≡ s.at.steps = ap (λ (p : Paged). p.steps) at ∙ pages_steps (pages_of_bytes addr (length bytes)) (without_pins s.at) in
    record { between = (with_bytes addr bytes (machine_at s.at.place), ap (λ (p : Paged). p.place) at); same = λ i. record { machine = machine i; steps = steps i } }
sets_agree false areas addr bytes s t b h = stays_agrees s t b h.at

answers_agree : (g : Setting) (r : Request) (s t : Stand) → IsBetweenSteps s → Answers g r s t → Agrees t (answered g.limits.steps (session_at s) r)
unfolding answered
answers_agree g (ExamineRegister n) s t b h = stays_agrees s t b h.at
answers_agree g (ExamineMemory addr count) s t b h = stays_agrees s t b h.at
answers_agree g (DepositRegister n value) s t b h =
    let at = h.at in
    record { between = (with_register n value (machine_at s.at.place), ap (λ (p : Paged). p.place) at); same = ap (λ (p : Paged). record { machine = machine_at p.place; steps = p.steps }) at }
answers_agree g (DepositMemory addr bytes) s t b h = sets_agree (may_deposit (machine_at s.at.place).memory addr (length bytes)) g.areas addr bytes s t b h
answers_agree g (Next count) s t b h = unless_agrees (machine_at s.at.place).ending g (steps_of g (Asks (Next count)) s) s t b refl h
answers_agree g Continue s t b h = unless_agrees (machine_at s.at.place).ending g (steps_of g (Asks Continue) s) s t b refl h
answers_agree g Show s t b h = stays_agrees s t b h.at

does_agrees : (g : Setting) (l : Line) (s t : Stand) → IsBetweenSteps s → Does g l s t → Agrees t (after_line g.limits.steps (session_at s) l)
does_agrees g Blank s t b h = stays_agrees s t b h.at
does_agrees g (Asks r) s t b h = answers_agree g r s t b h
does_agrees g Malformed s t b h = stays_agrees s t b h.at

-- lines one after the other

none_sent : (s : Stand) → Sends s s []
none_sent s = record { sent = []; output = sym (append-nil (machine_at s.at.place).output); wrote = grew_nothing s.sink }

sends_then : (a b c : Stand) (x y : List ℕ) → Sends a b x → Sends b c y → Sends a c (x ++ y)
sends_then a b c x y p q = record {
  sent = p.sent ++ q.sent;
  output = q.output ∙ (ap (λ (z : List ℕ). z ++ q.sent) p.output ∙ append_assoc (machine_at a.at.place).output p.sent q.sent);
  wrote = grew_more a.sink b.sink c.sink (writes p.sent x) (writes q.sent y) p.wrote q.wrote;
}

pub all_agree : (g : Setting) (lines : List Line) (s t : Stand) → IsBetweenSteps s → CarriesOutAll g lines s t → session_at t ≡ session_after g.limits.steps (session_at s) lines
unfolding CarriesOutAll session_after
all_agree g [] s t b h = ap session_at h
all_agree g (l ∷ lines) s t b h =
    let a = does_agrees g l s h.0 b h.1.does in
    all_agree g lines h.0 t a.between h.2 ∙ ap (λ (z : Session). session_after g.limits.steps z lines) a.same

pub all_send : (g : Setting) (lines : List Line) (s t : Stand) → IsBetweenSteps s → CarriesOutAll g lines s t → Sends s t (transcript g.limits.steps (session_at s) lines)
unfolding CarriesOutAll transcript
all_send g [] s t b h = subst (λ (z : Stand). Sends s z []) (sym h) (none_sent s)
all_send g (l ∷ lines) s t b h =
    let a = does_agrees g l s h.0 b h.1.does in
    let rest : Sends h.0 t (transcript g.limits.steps (after_line g.limits.steps (session_at s) l) lines) = subst (λ (z : Session). Sends h.0 t (transcript g.limits.steps z lines)) a.same (all_send g lines h.0 t a.between h.2) in
    sends_then s h.0 t (line_reply g.limits.steps (session_at s) l) (transcript g.limits.steps (after_line g.limits.steps (session_at s) l) lines) h.1.sends rest
