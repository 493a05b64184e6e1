-- The status of a session's machine, as it is changed.
use Rattle.std.proofs.Common.{◌≡◌, ℕ, ◌^◌, nat_le, Bool, true, false, if◌then◌else◌, List, Option, refl, sym, ap, subst}
use Rattle.vax_word.specs.declared.Core.{Core}
use Rattle.vax_outside.specs.Blocks.{BlockFile}
use Rattle.vax_outside.specs.Channels.{Channels}
use Rattle.vax_flat.specs.State.{State}
use Rattle.vax_flat.specs.Step.{state_of}
use Rattle.vax_machine.specs.Console.{DepositsCore, let_go, with_core}
use Rattle.vax_machine.specs.Machine.{Keeping, keeping}
use Rattle.vax_machine.specs.declared.engine.Engine.{Engine}
use Rattle.vax_console.specs.Transcript.{Session, with_machine}
use Rattle.vax_console.specs.Ends.{Scene, scene}
use Rattle.vax_console.proofs.Requested.{same_core}
use Rattle.vax_debug.specs.Sessions.{IsHere, Origin}
use Rattle.vax_debug.specs.Status.{is_status, may_have, psl, session_with_field, session_with_status, width, with_field, with_stack_of, with_status}
use Rattle.vax_debug_words.specs.declared.request.Field.{Field}
use Rattle.vax_debug.proofs.Staying.{changes_at}

by_status : (b : Bool) (s t : Session) → b ≡ true → (if b then t else s) ≡ t
by_status true s t e = refl
by_status false s t e = absurd (cc e)

by_other : (b : Bool) (s t : Session) → b ≡ false → (if b then t else s) ≡ s
by_other true s t e = absurd (cc e)
by_other false s t e = refl

pub status_set : (value : ℕ) (core : Core) (o : Origin) (s : Session) (replies : List ℕ) (m n : Engine) (f : Option BlockFile) (a : Option Channels) → IsHere o s replies (scene m f a) → is_status (psl value) ≡ true →
    ((x : State) → x.core ≡ m.cpu.core → core ≡ with_stack_of (psl value) x) → keeping n ≡ let_go (keeping m) → DepositsCore core m n → IsHere o (session_with_status value s) replies (scene n f a)
status_set value core o s replies m n f a h may is keeps deposits =
    let same : core ≡ with_stack_of (psl value) (state_of s.machine) = is (state_of s.machine) (same_core m f s.machine h.at.means) in
    let here : IsHere o (with_machine (with_core core s.machine) s) replies (scene n f a) =
    changes_at o s (with_core core s.machine) replies (scene m f a) (scene n f a) h refl (ap (λ (k : Keeping). k.steps) keeps) refl (deposits f s.machine h.at.means) (ap (λ (k : Keeping). k.residence.pinned) keeps) in
    subst (λ (z : Session). IsHere o z replies (scene n f a)) (sym (by_status (is_status (psl value)) s (with_machine (with_status (psl value) s.machine) s) may))
    (subst (λ (z : Core). IsHere o (with_machine (with_core z s.machine) s) replies (scene n f a)) same here)

pub status_refused : (value : ℕ) (o : Origin) (s : Session) (replies : List ℕ) (v : Scene) → IsHere o s replies v → is_status (psl value) ≡ false → IsHere o (session_with_status value s) replies v
status_refused value o s replies v h other =
    subst (λ (z : Session). IsHere o z replies v) (sym (by_other (is_status (psl value)) s (with_machine (with_status (psl value) s.machine) s) other)) h

-- a field that has such a value

field_by : (wide b : Bool) (status : ℕ) (o : Origin) (s : Session) (replies : List ℕ) (w : Scene) → wide ≡ false → (b ≡ is_status (psl status)) × IsHere o (session_with_status status s) replies w → (b ≡ (if wide then false else is_status (psl status))) × IsHere o (if wide then s else session_with_status status s) replies w
field_by true b status o s replies w e h = absurd (cc e)
field_by false b status o s replies w e h = h

pub field_set : (f : Field) (value status : ℕ) (b : Bool) (o : Origin) (s : Session) (replies : List ℕ) (w : Scene) → nat_le (2 ^ width f) value ≡ false → status ≡ with_field f value s.machine.core.psl → (b ≡ is_status (psl status)) × IsHere o (session_with_status status s) replies w →
    (b ≡ may_have f value s.machine.core.psl) × IsHere o (session_with_field f value s) replies w
field_set f value status b o s replies w fits is h =
    subst (λ (n : ℕ). (b ≡ (if nat_le (2 ^ width f) value then false else is_status (psl n))) × IsHere o (if nat_le (2 ^ width f) value then s else session_with_status n s) replies w) is
    (field_by (nat_le (2 ^ width f) value) b status o s replies w fits h)
