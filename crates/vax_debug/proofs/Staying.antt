-- What is shown and changed between steps.
use Rattle.std.proofs.Common.{◌≡◌, ℕ, Bool, true, false, if◌then◌else◌, List, [], ◌∷◌, ◌++◌, length, Option, None, is_some, Result, Ok, Err, IfOk, OnOk, refl, sym, ap, subst, ◌∙◌, inl, inr}
use Rattle.vax_space.specs.declared.Access.TheVariants.{Write}
use Rattle.vax_space.specs.Reference.{violation}
use Rattle.vax_outside.specs.Blocks.{BlockFile}
use Rattle.vax_outside.specs.Channels.{Channels, Grew}
use Rattle.vax_outside.specs.Faults.{raised}
use Rattle.vax_flat.specs.Outcome.{is_allowed}
use Rattle.vax_flat.specs.Parts.{At}
use Rattle.vax_flat.specs.Step.{Flat}
use Rattle.vax_pager.specs.Listing.{is_listed, leave_out}
use Rattle.vax_pager.specs.declared.calls.PageFault.{PageFault}
use Rattle.vax_pager.specs.Meaning.{pages}
use Rattle.vax_machine.specs.Console.{Deposits, HasLetGo, with_bytes}
use Rattle.vax_machine.specs.Machine.{Applies, Evicts, Keeping, KeepsPlace, Means, keeping, residence}
use Rattle.vax_machine.specs.Residence.{Residence, taken_out}
use Rattle.vax_machine.specs.declared.engine.Engine.{Engine}
use Rattle.vax_machine.specs.declared.event.Applied.{Applied}
use Rattle.vax_machine.specs.declared.event.Applied.TheVariants.{Failed}
use Rattle.vax_machine.specs.declared.event.Event.TheVariants as event
use Rattle.vax_console.specs.Transcript.{Session, may_deposit, with_machine}
use Rattle.vax_console.specs.Ends.{Scene, writes}
use Rattle.vax_console.proofs.Requested.{same_right}
use Rattle.vax_debug.specs.Sessions as debug
use Rattle.vax_debug.specs.Sessions.{IsHere, Origin, session_with_bytes}

-- a machine that stands at the start of a step has no string instruction open
closed_at : (m : Engine) (file : Option BlockFile) (flat : Flat) → Means m file (At flat) → m.cpu.latch ≡ None
closed_at m file flat means = means.processor.open_one

-- no step was made, and nothing was written
pub stays_at : (o : Origin) (s : Session) (replies : List ℕ) (v w : Scene) → IsHere o s replies v → w.sink ≡ v.sink → w.machine.steps ≡ v.machine.steps → Means w.machine w.file (At s.machine) → (keeping w.machine).residence.pinned ≡ [] → IsHere o s replies w
stays_at o s replies v w h silent steps means pinned = record {
  at = record {
    steps = steps ∙ h.at.steps;
    means = means;
    sent = h.at.sent;
    output = h.at.output;
    wrote = subst (λ (z : Option Channels). Grew o.channels z (writes h.at.sent replies)) (sym silent) h.at.wrote;
  };
  between = record { closed = closed_at w.machine w.file s.machine means; unpinned = pinned };
}

-- the session's machine was changed
pub changes_at : (o : Origin) (s : Session) (m : Flat) (replies : List ℕ) (v w : Scene) → IsHere o s replies v → w.sink ≡ v.sink → w.machine.steps ≡ v.machine.steps → m.output ≡ s.machine.output → Means w.machine w.file (At m) → (keeping w.machine).residence.pinned ≡ [] → IsHere o (with_machine m s) replies w
changes_at o s m replies v w h silent steps same means pinned = record {
  at = record {
    steps = steps ∙ h.at.steps;
    means = means;
    sent = h.at.sent;
    output = same ∙ h.at.output;
    wrote = subst (λ (z : Option Channels). Grew o.channels z (writes h.at.sent replies)) (sym silent) h.at.wrote;
  };
  between = record { closed = closed_at w.machine w.file m means; unpinned = pinned };
}

-- memory was looked at alone
pub looks_at : (o : Origin) (s : Session) (replies : List ℕ) (v w : Scene) → IsHere o s replies v → w.sink ≡ v.sink → keeping w.machine ≡ keeping v.machine → KeepsPlace v.machine v.file w.machine w.file → IsHere o s replies w
looks_at o s replies v w h silent keeps place =
    stays_at o s replies v w h silent (ap (λ (k : Keeping). k.steps) keeps) (place (At s.machine) h.at.means) (ap (λ (k : Keeping). k.residence.pinned) keeps ∙ h.between.unpinned)

-- an eviction

still_none : (page : ℕ) (pinned : List ℕ) → pinned ≡ [] → leave_out page pinned ≡ []
unfolding leave_out
still_none page pinned none = ap (leave_out page) none

by_listed : (b : Bool) (page : ℕ) (r : Residence) → r.pinned ≡ [] → (if b then record r { order = leave_out page r.order; pinned = leave_out page r.pinned; kept = r.kept ++ page ∷ []; spoiled = if is_listed page r.pinned then raised r.spoiled else r.spoiled } else r).pinned ≡ []
by_listed true page r none = still_none page r.pinned none
by_listed false page r none = none

out_of_none : (page : ℕ) (r : Residence) → r.pinned ≡ [] → (taken_out page r).pinned ≡ []
unfolding taken_out
out_of_none page r none = by_listed (is_listed page r.order) page r none

-- as many steps, and no page pinned
record KeepsCalm (old new : Keeping) : Type 0 where
  pub steps : new.steps ≡ old.steps
  pub pinned : new.residence.pinned ≡ []

calm_same : (old new : Keeping) → old.residence.pinned ≡ [] → new ≡ old → KeepsCalm old new
calm_same old new none is = record { steps = ap (λ (k : Keeping). k.steps) is; pinned = ap (λ (k : Keeping). k.residence.pinned) is ∙ none }

calm_evicted : (page : ℕ) (b : Bool) (old new : Keeping) (result : Applied) → old.residence.pinned ≡ [] → Evicts page b old result new → KeepsCalm old new
calm_evicted page false old new result none e = calm_same old new none e.1
calm_evicted page true old new result none (inl e) = calm_same old new none e.1
calm_evicted page true old new result none (inr e) = record {
  steps = ap (λ (k : Keeping). k.steps) e.1;
  pinned = ap (λ (k : Keeping). k.residence.pinned) e.1 ∙ out_of_none page old.residence none;
}

pub evicts_at : (page : ℕ) (result : Applied) (o : Origin) (s : Session) (replies : List ℕ) (v w : Scene) → IsHere o s replies v → w.sink ≡ v.sink → Applies (event.Evict page) v.machine v.file result w.machine w.file → IsHere o s replies w
evicts_at page result o s replies v w h silent a =
    let calm = calm_evicted page (is_listed page (pages v.machine.pager).order) (keeping v.machine) (keeping w.machine) result h.between.unpinned a.0 in
    stays_at o s replies v w h silent calm.steps (a.1 (At s.machine) h.at.means) calm.pinned

-- a deposit

put_if : (b : Bool) (addr : ℕ) (bytes : List ℕ) (s t : Session) → b ≡ true → (if b then t else s) ≡ t
put_if true addr bytes s t e = refl
put_if false addr bytes s t e = absurd (cc e)

not_put : (b : Bool) (s t : Session) → b ≡ false → (if b then t else s) ≡ s
not_put true s t e = absurd (cc e)
not_put false s t e = refl

pub puts_at : (addr : ℕ) (bytes : List ℕ) (o : Origin) (s : Session) (replies : List ℕ) (v w : Scene) → IsHere o s replies v → w.sink ≡ v.sink → may_deposit s.machine.memory addr (length bytes) ≡ true → Deposits (Ok true) addr bytes v.machine v.file w.machine w.file → IsHere o (session_with_bytes addr bytes s) replies w
puts_at addr bytes o s replies v w h silent may d =
    let here = changes_at o s (with_bytes addr bytes s.machine) replies v w h silent d.0.steps refl (d.1 s.machine h.at.means) d.0.pinned in
    subst (λ (t : Session). IsHere o t replies w) (sym (put_if (may_deposit s.machine.memory addr (length bytes)) addr bytes s (with_machine (with_bytes addr bytes s.machine) s) may)) here

pub refuses_at : (addr : ℕ) (bytes : List ℕ) (o : Origin) (s : Session) (replies : List ℕ) (v w : Scene) → IsHere o s replies v → w.sink ≡ v.sink → may_deposit s.machine.memory addr (length bytes) ≡ false → Deposits (Ok false) addr bytes v.machine v.file w.machine w.file → IsHere o (session_with_bytes addr bytes s) replies w
refuses_at addr bytes o s replies v w h silent may d =
    let same : (keeping w.machine) ≡ keeping v.machine = ap keeping d.0 in
    let place : KeepsPlace v.machine v.file w.machine w.file = λ p m. subst (λ (z : Engine). Means z w.file p) (sym d.0) (subst (λ (z : Option BlockFile). Means v.machine z p) (sym d.1) m) in
    let here = looks_at o s replies v w h silent same place in
    subst (λ (t : Session). IsHere o t replies w) (sym (not_put (may_deposit s.machine.memory addr (length bytes)) s (with_machine (with_bytes addr bytes s.machine) s) may)) here

pub fails_at : (addr : ℕ) (bytes : List ℕ) (o : Origin) (s : Session) (replies : List ℕ) (v w : Scene) → IsHere o s replies v → w.sink ≡ v.sink → HasLetGo v.machine w.machine → KeepsPlace v.machine v.file w.machine w.file → IsHere o s replies w
fails_at addr bytes o s replies v w h silent go place = stays_at o s replies v w h silent go.steps (place (At s.machine) h.at.means) go.pinned

-- what follows where a call succeeded
pub on_ok : {T E P Q : Type 0} (r : Result T E) → OnOk r P → (P → Q) → OnOk r Q
on_ok (Ok x) p f = f p
on_ok (Err e) p f = tt

-- no string instruction is open in a session
pub never_open : (o : Origin) (s : Session) (replies : List ℕ) (v : Scene) → IsHere o s replies v → is_some v.machine.cpu.latch ≡ true → ⊥
never_open o s replies v h is = let no : false ≡ true = sym (ap is_some h.between.closed) ∙ is in absurd (cc no)

-- a deposit by its answer
pub deposits_at : (addr : ℕ) (bytes : List ℕ) (result : Result Bool PageFault) (o : Origin) (s : Session) (replies : List ℕ) (v w : Scene) → IsHere o s replies v → w.sink ≡ v.sink →
    IfOk result (λ r. r ≡ is_allowed (violation (keeping v.machine).areas addr (length bytes) 0 Write)) →
    Deposits result addr bytes v.machine v.file w.machine w.file → debug.Deposits result addr bytes o s replies w
deposits_at addr bytes (Ok true) o s replies v w h silent answer d =
    let may : may_deposit s.machine.memory addr (length bytes) ≡ true = sym (same_right v.machine v.file s.machine addr (length bytes) h.at.means) ∙ sym answer in
    (sym may, puts_at addr bytes o s replies v w h silent may d)
deposits_at addr bytes (Ok false) o s replies v w h silent answer d =
    let may : may_deposit s.machine.memory addr (length bytes) ≡ false = sym (same_right v.machine v.file s.machine addr (length bytes) h.at.means) ∙ sym answer in
    (sym may, refuses_at addr bytes o s replies v w h silent may d)
deposits_at addr bytes (Err e) o s replies v w h silent answer d = fails_at addr bytes o s replies v w h silent d.0 d.1

-- a page that isn't resident isn't taken out
not_out : (page : ℕ) (r : Residence) → is_listed page r.order ≡ false → taken_out page r ≡ r
unfolding taken_out
not_out page r e = rw e refl

goes_out : (page : ℕ) (b : Bool) (old new : Keeping) (result : Applied) → is_listed page old.residence.order ≡ b → (result ≡ Failed → ⊥) → Evicts page b old result new → new.residence ≡ taken_out page old.residence
goes_out page false old new result e fine v = ap (λ (k : Keeping). k.residence) v.1 ∙ sym (not_out page old.residence e)
goes_out page true old new result e fine (inl v) = absurd (fine v.0)
goes_out page true old new result e fine (inr v) = ap (λ (k : Keeping). k.residence) v.1

-- an eviction that succeeded
pub evicts_out : (page : ℕ) (result : Applied) (old new : Engine) (before after : Option BlockFile) → (result ≡ Failed → ⊥) → Applies (event.Evict page) old before result new after → residence new ≡ taken_out page (residence old)
evicts_out page result old new before after fine a = goes_out page (is_listed page (pages old.pager).order) (keeping old) (keeping new) result refl fine a.0
