-- The calls that make steps.
use Rattle.std.proofs.Common.{◌≡◌, ◌+◌, ◌-◌, ◌<◌, ◌%◌, ◌^◌, ℕ, min, List, Option, option_map, sym, ap, subst, ◌∙◌, arith}
use Rattle.vax_word.specs.declared.Core.{Core}
use Rattle.vax_flat.specs.Parts.{At}
use Rattle.vax_flat.specs.Step.{Flat}
use Rattle.vax_machine.specs.Console.{memory_from}
use Rattle.vax_console.specs.Transcript.{Session, left}
use Rattle.vax_console.specs.Ends.{IsWithin, Scene}
use Rattle.vax_debug.specs.Calls.{behind_call, bytes_of, call_goal, frame_goal, longword_at, longword_in, returned}
use Rattle.vax_debug.specs.Sessions.{IsHere, Origin}
use Rattle.vax_debug.specs.Travel.{fp_of, pc_of}
use Rattle.vax_debug.specs.declared.breaks.Goal.{Goal}
use Rattle.vax_debug.proofs.Travelling.{none_advanced}

-- the steps that are left, as the machine tells them
pub left_is : (o : Origin) (s : Session) (replies : List ℕ) (v : Scene) (limit n : ℕ) → IsHere o s replies v → n ≡ limit - v.machine.steps → n ≡ left limit s
left_is o s replies v limit n h told = told ∙ ap (λ (k : ℕ). limit - k) h.at.steps

-- there are numbers for them, and for fewer
pub has_left : (o : Origin) (s : Session) (replies : List ℕ) (v : Scene) (n : ℕ) → IsHere o s replies v → v.machine.steps + n < 2 ^ 64 → s.steps + n < 2 ^ 64
has_left o s replies v n h within = subst (λ (k : ℕ). k + n < 2 ^ 64) h.at.steps within

pub has_fewer : (steps left count n : ℕ) → steps + left < 2 ^ 64 → n ≡ min count left → steps + n < 2 ^ 64
has_fewer steps left count n within is = omega (arith, within, is)

-- where the session is, it is on the way
pub within_here : (o : Origin) (s : Session) (most : ℕ) (replies : List ℕ) (v : Scene) → IsHere o s replies v → IsWithin o.flat s most replies v.machine v.file o.channels v.sink
within_here o s most replies v h = record {
  place = At s.machine;
  goes = record {
    count = 0;
    few = omega arith;
    steps = h.at.steps ∙ ap (λ (z : Session). z.steps) (none_advanced s);
    goes = ap (λ (z : Session). z.machine) (none_advanced s);
  };
  means = h.at.means;
  sent = h.at.sent;
  output = h.at.output;
  wrote = h.at.wrote;
}

-- where a call comes back, as the machine's registers and memory tell it
pub told_call : (m : Flat) (core : Core) (cells : List (Option ℕ)) (bytes : List ℕ) (goal : Option Goal) → m.core ≡ core → cells ≡ memory_from m.memory (pc_of core) 16 → bytes ≡ bytes_of cells → goal ≡ behind_call core bytes → goal ≡ call_goal m
unfolding call_goal
told_call m core cells bytes goal same shown is told =
    let here : goal ≡ behind_call core (bytes_of (memory_from m.memory (pc_of core) 16)) = told ∙ ap (behind_call core) (is ∙ ap bytes_of shown) in
    subst (λ (k : Core). goal ≡ behind_call k (bytes_of (memory_from m.memory (pc_of k) 16))) (sym same) here

-- a longword, as memory tells it
pub told_longword : (m : Flat) (addr : ℕ) (cells : List (Option ℕ)) (bytes : List ℕ) (value : Option ℕ) → cells ≡ memory_from m.memory addr 4 → bytes ≡ bytes_of cells → value ≡ longword_in bytes → value ≡ longword_at m addr
unfolding longword_at
told_longword m addr cells bytes value shown is told = told ∙ ap longword_in (is ∙ ap bytes_of shown)

-- where a procedure comes back, likewise
pub told_frame : (m : Flat) (core : Core) (address : Option ℕ) (goal : Option Goal) → m.core ≡ core → address ≡ longword_at m ((fp_of core + 16) % 2 ^ 32) → goal ≡ option_map (returned core) address → goal ≡ frame_goal m
unfolding frame_goal
told_frame m core address goal same is told =
    let here : goal ≡ option_map (returned core) (longword_at m ((fp_of core + 16) % 2 ^ 32)) = told ∙ ap (option_map (returned core)) is in
    subst (λ (k : Core). goal ≡ option_map (returned k) (longword_at m ((fp_of k + 16) % 2 ^ 32))) (sym same) here
