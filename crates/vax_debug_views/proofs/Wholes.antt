-- What is told of an expression's value, and of the processor.
use Rattle.std.proofs.Common.{◌≡◌, ◌+◌, ◌%◌, ◌^◌, ◌==◌, ℕ, Bool, false, if◌then◌else◌, List, Option, None, Some, Result, Ok, Err, IfOk, ap, sym, ◌∙◌}
use Rattle.vax_word.specs.declared.Core.{Core}
use Rattle.vax_flat.specs.Step.{Flat}
use Rattle.vax_pager.specs.declared.calls.PageFault.{PageFault}
use Rattle.vax_console.specs.Ends.{Scene}
use Rattle.vax_debug.specs.Calls.{TellsFrom}
use Rattle.vax_debug.specs.Travel.{pc_of, sp_of}
use Rattle.vax_debug_words.specs.declared.command.Form.{Form}
use Rattle.vax_debug_words.specs.declared.request.Expression.{Expression}
use Rattle.vax_debug_words.specs.declared.request.Span.{Span}
use Rattle.vax_debug_names.specs.declared.Legend.{Legend}
use Rattle.vax_debug_replies.specs.Instructions.{instruction_at, length_of}
use Rattle.vax_debug_replies.specs.declared.frames.Frame.{Frame}
use Rattle.vax_debug.specs.Values.{evaluated}
use Rattle.vax_debug_views.specs.Views.{behind_instruction, beyond, bytes_at, caller, disassembled, disassembled_here, entries_from, frame_of, frames_from, frames_shown, innermost, instructions_shown, memory_at_shown, memory_shown, nowhere_line, of_value, queue_shown, saved, stack_shown, values_shown}

-- expressions

pub disassembled_there : (legend : Legend) (at : Span) (a : ℕ) (m : Flat) → Some a ≡ evaluated legend at.from m → instructions_shown legend at.count a m ≡ disassembled legend at m
unfolding disassembled
disassembled_there legend at a m e = ap (of_value (λ address. instructions_shown legend at.count address m)) e

pub disassembled_nowhere : (legend : Legend) (at : Span) (m : Flat) → None ≡ evaluated legend at.from m → nowhere_line ≡ disassembled legend at m
unfolding disassembled
disassembled_nowhere legend at m e = ap (of_value (λ address. instructions_shown legend at.count address m)) e

pub memory_there : (legend : Legend) (f : Form) (at : Span) (a : ℕ) (m : Flat) → Some a ≡ evaluated legend at.from m → memory_at_shown legend f at.count a m ≡ memory_shown legend f at m
unfolding memory_shown
memory_there legend f at a m e = ap (of_value (λ address. memory_at_shown legend f at.count address m)) e

pub memory_nowhere : (legend : Legend) (f : Form) (at : Span) (m : Flat) → None ≡ evaluated legend at.from m → nowhere_line ≡ memory_shown legend f at m
unfolding memory_shown
memory_nowhere legend f at m e = ap (of_value (λ address. memory_at_shown legend f at.count address m)) e

pub queue_there : (legend : Legend) (at : Expression) (head : ℕ) (m : Flat) → Some head ≡ evaluated legend at m → entries_from legend head 64 head m ≡ queue_shown legend at m
unfolding queue_shown
queue_there legend at head m e = ap (of_value (λ (n : ℕ). entries_from legend n 64 n m)) e

pub queue_nowhere : (legend : Legend) (at : Expression) (m : Flat) → None ≡ evaluated legend at m → nowhere_line ≡ queue_shown legend at m
unfolding queue_shown
queue_nowhere legend at m e = ap (of_value (λ (n : ℕ). entries_from legend n 64 n m)) e

-- the processor

pub stack_here : (legend : Legend) (count : ℕ) (core : Core) (m : Flat) → core ≡ m.core → values_shown legend 4 count (sp_of core) m ≡ stack_shown legend count m
unfolding stack_shown
stack_here legend count core m e = ap (λ (z : Core). values_shown legend 4 count (sp_of z) m) e

pub instructions_here : (legend : Legend) (core : Core) (m : Flat) → core ≡ m.core → instructions_shown legend 10 (pc_of core) m ≡ disassembled_here legend m
unfolding disassembled_here
instructions_here legend core m e = ap (λ (z : Core). instructions_shown legend 10 (pc_of z) m) e

pub frames_here : (legend : Legend) (f : Frame) (core : Core) (m : Flat) → f ≡ innermost core → core ≡ m.core → frames_from legend 64 0 f m ≡ frames_shown legend m
unfolding frames_shown
frames_here legend f core m is e =
    ap (λ (z : Frame). frames_from legend 64 0 z m) is ∙ ap (λ (z : Core). frames_from legend 64 0 (innermost z) m) e

-- frames

pub frame_told : (a b c x y z : Option ℕ) (r : Option Frame) → a ≡ x → b ≡ y → c ≡ z → r ≡ frame_of a b c → r ≡ frame_of x y z
frame_told a b c x y z r p q t e = e ∙ (λ k. frame_of (p k) (q k) (t k))

by_test : (b : Bool) (r : Option Frame) → b ≡ false → r ≡ (if b then None else r)
by_test b r e = ap (λ (z : Bool). if z then None else r) (sym e)

pub has_caller : (f : Frame) (m : Flat) → (f.fp == 0) ≡ false → frame_of (saved 16 f m) (saved 8 f m) (saved 12 f m) ≡ caller f m
unfolding caller
has_caller f m e = by_test (f.fp == 0) (frame_of (saved 16 f m) (saved 8 f m) (saved 12 f m)) e

-- what is told in other words
pub tells_as : {T : Type 0} (r : Result T PageFault) (v : Scene) (f g : Flat → T) → ((m : Flat) → f m ≡ g m) → IfOk r (TellsFrom v f) → IfOk r (TellsFrom v g)
tells_as (Ok x) v f g e p = λ o s replies here. p o s replies here ∙ e s.machine
tells_as (Err x) v f g e p = tt

-- instructions

pub behind_told : (a n : ℕ) (cells : List (Option ℕ)) (m : Flat) (b : ℕ) → cells ≡ bytes_at a m → n ≡ length_of (instruction_at a cells) → b ≡ (a + n) % 2 ^ 32 → b ≡ behind_instruction a m
behind_told a n cells m b shown is e =
    e ∙ (ap (λ (k : ℕ). (a + k) % 2 ^ 32) is ∙ ap (λ (z : List (Option ℕ)). beyond a (length_of (instruction_at a z))) shown)
