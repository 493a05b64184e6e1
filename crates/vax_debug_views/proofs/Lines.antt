-- The lines that are left of a reply, one after the other.
use Rattle.std.proofs.Common.{◌≡◌, ◌<◌, ◌≤◌, ◌+◌, ◌-◌, ℕ, zero, suc, [], ◌++◌, refl, sym, ap, ◌∙◌, arith}
use Rattle.vax_flat.specs.Step.{Flat}
use Rattle.vax_machine.specs.Console.{memory_from}
use Rattle.vax_debug_names.specs.declared.Legend.{Legend}
use Rattle.vax_debug_replies.specs.Values.{value_line}
use Rattle.vax_debug_replies.specs.declared.frames.Frame.{Frame}
use Rattle.vax_debug_views.specs.Views.{behind_instruction, beyond, caller, entries_from, frame_shown, frames_from, if_any, instruction_shown, instructions_shown, next_entry, values_shown}

all_left : (count : ℕ) → count - 0 ≡ count
all_left count = omega arith

one_less : (count i : ℕ) → i < count → count - i ≡ suc (count - (i + 1))
one_less count i below = omega (arith, below)

none_left : (count i : ℕ) → count ≤ i → count - i ≡ zero
none_left count i all = omega (arith, all)

-- values

pub values_first : (legend : Legend) (size count a : ℕ) (m : Flat) → values_shown legend size (count - 0) a m ≡ values_shown legend size count a m
values_first legend size count a m = ap (λ (n : ℕ). values_shown legend size n a m) (all_left count)

one_value : (legend : Legend) (size n a : ℕ) (m : Flat) → values_shown legend size (suc n) a m ≡ value_line legend a (memory_from m.memory a size) ++ values_shown legend size n (beyond a size) m
unfolding values_shown
one_value legend size n a m = refl

pub values_next : (legend : Legend) (size count i a b : ℕ) (m : Flat) → i < count → b ≡ beyond a size →
    values_shown legend size (count - i) a m ≡ value_line legend a (memory_from m.memory a size) ++ values_shown legend size (count - (i + 1)) b m
values_next legend size count i a b m below is =
    ap (λ (n : ℕ). values_shown legend size n a m) (one_less count i below)
    ∙ (one_value legend size (count - (i + 1)) a m
    ∙ ap (λ (k : ℕ). value_line legend a (memory_from m.memory a size) ++ values_shown legend size (count - (i + 1)) k m) (sym is))

no_values : (legend : Legend) (size a : ℕ) (m : Flat) → values_shown legend size zero a m ≡ []
unfolding values_shown
no_values legend size a m = refl

pub values_last : (legend : Legend) (size count i a : ℕ) (m : Flat) → count ≤ i → values_shown legend size (count - i) a m ≡ []
values_last legend size count i a m all = ap (λ (n : ℕ). values_shown legend size n a m) (none_left count i all) ∙ no_values legend size a m

-- instructions

pub instructions_first : (legend : Legend) (count a : ℕ) (m : Flat) → instructions_shown legend (count - 0) a m ≡ instructions_shown legend count a m
instructions_first legend count a m = ap (λ (n : ℕ). instructions_shown legend n a m) (all_left count)

one_instruction : (legend : Legend) (n a : ℕ) (m : Flat) → instructions_shown legend (suc n) a m ≡ instruction_shown legend a m ++ instructions_shown legend n (behind_instruction a m) m
unfolding instructions_shown
one_instruction legend n a m = refl

pub instructions_next : (legend : Legend) (count i a : ℕ) (m : Flat) → i < count →
    instructions_shown legend (count - i) a m ≡ instruction_shown legend a m ++ instructions_shown legend (count - (i + 1)) (behind_instruction a m) m
instructions_next legend count i a m below =
    ap (λ (n : ℕ). instructions_shown legend n a m) (one_less count i below) ∙ one_instruction legend (count - (i + 1)) a m

no_instructions : (legend : Legend) (a : ℕ) (m : Flat) → instructions_shown legend zero a m ≡ []
unfolding instructions_shown
no_instructions legend a m = refl

pub instructions_last : (legend : Legend) (count i a : ℕ) (m : Flat) → count ≤ i → instructions_shown legend (count - i) a m ≡ []
instructions_last legend count i a m all = ap (λ (n : ℕ). instructions_shown legend n a m) (none_left count i all) ∙ no_instructions legend a m

-- frames

pub frames_first : (legend : Legend) (count : ℕ) (f : Frame) (m : Flat) → frames_from legend (count - 0) 0 f m ≡ frames_from legend count 0 f m
frames_first legend count f m = ap (λ (n : ℕ). frames_from legend n 0 f m) (all_left count)

one_frame : (legend : Legend) (n number : ℕ) (f : Frame) (m : Flat) → frames_from legend (suc n) number f m ≡ frame_shown legend number f m ++ if_any (λ (next : Frame). frames_from legend n (number + 1) next m) (caller f m)
unfolding frames_from
one_frame legend n number f m = refl

pub frames_next : (legend : Legend) (count i : ℕ) (f : Frame) (m : Flat) → i < count →
    frames_from legend (count - i) i f m ≡ frame_shown legend i f m ++ if_any (λ (next : Frame). frames_from legend (count - (i + 1)) (i + 1) next m) (caller f m)
frames_next legend count i f m below =
    ap (λ (n : ℕ). frames_from legend n i f m) (one_less count i below) ∙ one_frame legend (count - (i + 1)) i f m

no_frames : (legend : Legend) (number : ℕ) (f : Frame) (m : Flat) → frames_from legend zero number f m ≡ []
unfolding frames_from
no_frames legend number f m = refl

pub frames_last : (legend : Legend) (count i : ℕ) (f : Frame) (m : Flat) → count ≤ i → frames_from legend (count - i) i f m ≡ []
frames_last legend count i f m all = ap (λ (n : ℕ). frames_from legend n i f m) (none_left count i all) ∙ no_frames legend i f m

-- the entries of a queue

pub entries_first : (legend : Legend) (head count e : ℕ) (m : Flat) → entries_from legend head (count - 0) e m ≡ entries_from legend head count e m
entries_first legend head count e m = ap (λ (n : ℕ). entries_from legend head n e m) (all_left count)

one_entry : (legend : Legend) (head n e : ℕ) (m : Flat) → entries_from legend head (suc n) e m ≡ value_line legend e (memory_from m.memory e 4) ++ if_any (λ (next : ℕ). entries_from legend head n next m) (next_entry head e m)
unfolding entries_from
one_entry legend head n e m = refl

pub entries_next : (legend : Legend) (head count i e : ℕ) (m : Flat) → i < count →
    entries_from legend head (count - i) e m ≡ value_line legend e (memory_from m.memory e 4) ++ if_any (λ (next : ℕ). entries_from legend head (count - (i + 1)) next m) (next_entry head e m)
entries_next legend head count i e m below =
    ap (λ (n : ℕ). entries_from legend head n e m) (one_less count i below) ∙ one_entry legend head (count - (i + 1)) e m

no_entries : (legend : Legend) (head e : ℕ) (m : Flat) → entries_from legend head zero e m ≡ []
unfolding entries_from
no_entries legend head e m = refl

pub entries_last : (legend : Legend) (head count i e : ℕ) (m : Flat) → count ≤ i → entries_from legend head (count - i) e m ≡ []
entries_last legend head count i e m all = ap (λ (n : ℕ). entries_from legend head n e m) (none_left count i all) ∙ no_entries legend head e m
