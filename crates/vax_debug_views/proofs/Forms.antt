-- What is told of values, by their form.
use Rattle.std.proofs.Common.{◌≡◌, ℕ, ap, sym}
use Rattle.vax_flat.specs.Step.{Flat}
use Rattle.vax_debug_words.specs.declared.command.Form.{Form}
use Rattle.vax_debug_words.specs.declared.command.Form.TheVariants as form
use Rattle.vax_debug_names.specs.declared.Legend.{Legend}
use Rattle.vax_debug_views.specs.Views.{characters_shown, instructions_shown, memory_at_shown, values_shown}

pub as_byte : (legend : Legend) (f : Form) (count a : ℕ) (m : Flat) → f ≡ form.Byte → values_shown legend 1 count a m ≡ memory_at_shown legend f count a m
unfolding memory_at_shown
as_byte legend f count a m e = ap (λ (z : Form). memory_at_shown legend z count a m) (sym e)

pub as_word : (legend : Legend) (f : Form) (count a : ℕ) (m : Flat) → f ≡ form.Word → values_shown legend 2 count a m ≡ memory_at_shown legend f count a m
unfolding memory_at_shown
as_word legend f count a m e = ap (λ (z : Form). memory_at_shown legend z count a m) (sym e)

pub as_long : (legend : Legend) (f : Form) (count a : ℕ) (m : Flat) → f ≡ form.Long → values_shown legend 4 count a m ≡ memory_at_shown legend f count a m
unfolding memory_at_shown
as_long legend f count a m e = ap (λ (z : Form). memory_at_shown legend z count a m) (sym e)

pub as_quad : (legend : Legend) (f : Form) (count a : ℕ) (m : Flat) → f ≡ form.Quad → values_shown legend 8 count a m ≡ memory_at_shown legend f count a m
unfolding memory_at_shown
as_quad legend f count a m e = ap (λ (z : Form). memory_at_shown legend z count a m) (sym e)

pub as_ascii : (legend : Legend) (f : Form) (count a : ℕ) (m : Flat) → f ≡ form.Ascii → characters_shown legend count a m ≡ memory_at_shown legend f count a m
unfolding memory_at_shown
as_ascii legend f count a m e = ap (λ (z : Form). memory_at_shown legend z count a m) (sym e)

pub as_instruction : (legend : Legend) (f : Form) (count a : ℕ) (m : Flat) → f ≡ form.Instruction → instructions_shown legend count a m ≡ memory_at_shown legend f count a m
unfolding memory_at_shown
as_instruction legend f count a m e = ap (λ (z : Form). memory_at_shown legend z count a m) (sym e)
