-- Where steps stopped, and what was put into memory.
use Rattle.std.proofs.Common.{◌≡◌, ◌==◌, ◌++◌, nat_le, ℕ, List, Option, None, Some, Result, sym, ap, subst, ◌∙◌}
use Rattle.std.specs.List.{list_any}
use Rattle.vax_report.specs.declared.Last.{Last}
use Rattle.vax_machine.specs.Console.{memory_from}
use Rattle.vax_console.specs.Transcript.{Session}
use Rattle.vax_console.specs.Ends.{Scene}
use Rattle.vax_console.proofs.Requested.{same_core, same_ending}
use Rattle.vax_debug.specs.Sessions.{IsHere, Origin}
use Rattle.vax_debug.specs.Travel.{pc_of}
use Rattle.vax_debug.specs.Watches.{seen_in}
use Rattle.vax_debug.specs.declared.breaks.Goal.{Goal}
use Rattle.vax_debug.specs.declared.breaks.Plan.{Plan}
use Rattle.vax_debug.specs.declared.watches.Seen.{Seen}
use Rattle.vax_debug.specs.declared.watches.Watch.{Watch}
use Rattle.vax_debug.specs.declared.failure.Failure.{Failure}
use Rattle.vax_debug_names.specs.declared.Legend.{Legend}
use Rattle.vax_debug_replies.specs.Stops.{here, reason}
use Rattle.vax_debug_acts.specs.Acting.{Act, Acts, Tells}
use Rattle.vax_debug_acts.specs.Acts.{no_frame_line, out_to, stop_text, why_stopped}
use Rattle.vax_debug_acts.proofs.Telling.{done}

-- the reply of a stop, as the machine's registers and memory tell it
pub told_stop : (limit : ℕ) (legend : Legend) (breaks changed : List ℕ) (o : Origin) (s : Session) (replies : List ℕ) (v : Scene) (last : Option Last) (address : ℕ) (cells : List (Option ℕ)) → IsHere o s replies v →
    last ≡ why_stopped v.machine.ended (list_any (λ a. a == pc_of v.machine.cpu.core) breaks) (nat_le limit v.machine.steps) → address ≡ pc_of v.machine.cpu.core → cells ≡ memory_from s.machine.memory address 64 →
    reason last ++ changed ++ here legend address cells ≡ stop_text limit legend breaks changed s
unfolding stop_text
told_stop limit legend breaks changed o s replies v last address cells h is at shown =
    let core = sym (same_core v.machine v.file s.machine h.at.means) in
    let ending = sym (same_ending v.machine v.file s.machine h.at.means) in
    ap (λ (z : List (Option ℕ)). reason last ++ changed ++ here legend address z) shown
    ∙ ((λ i. reason (is i) ++ changed ++ here legend (at i) (memory_from s.machine.memory (at i) 64))
    ∙ (λ i. reason (why_stopped (ending i) (list_any (λ a. a == pc_of (core i)) breaks) (nat_le limit (h.at.steps i))) ++ changed ++ here legend (pc_of (core i)) (memory_from s.machine.memory (pc_of (core i)) 64)))

-- with what was seen before the first step
pub with_seen : (r : Result (Unit {0}) Failure) (turns : ℕ) (watches : List Watch) (seen : List Seen) (asked : List Seen → Act) (o : Origin) (s : Session) (replies : List ℕ) (v : Scene) → seen ≡ seen_in watches s.machine → Acts r turns (asked seen) o s replies v → Acts r turns (asked (seen_in watches s.machine)) o s replies v
with_seen r turns watches seen asked o s replies v is h = subst (λ (z : List Seen). Acts r turns (asked z) o s replies v) is h

-- by the frame of the procedure

pub with_frame : (r : Result (Unit {0}) Failure) (turns limit : ℕ) (legend : Legend) (plan : Plan) (goal : Goal) (found : Option Goal) (o : Origin) (s : Session) (replies : List ℕ) (v : Scene) → Some goal ≡ found → Acts r turns (out_to limit legend plan s (Some goal)) o s replies v → Acts r turns (out_to limit legend plan s found) o s replies v
with_frame r turns limit legend plan goal found o s replies v is h = subst (λ (z : Option Goal). Acts r turns (out_to limit legend plan s z) o s replies v) is h

pub without_frame : (r : Result (Unit {0}) Failure) (turns limit : ℕ) (legend : Legend) (plan : Plan) (found : Option Goal) (o : Origin) (s : Session) (replies : List ℕ) (v : Scene) → None ≡ found → Tells r o s replies no_frame_line v → Acts r turns (out_to limit legend plan s found) o s replies v
without_frame r turns limit legend plan found o s replies v is h =
    subst (λ (z : Option Goal). Acts r turns (out_to limit legend plan s z) o s replies v) is (done r turns 0 o s s replies no_frame_line v h)
