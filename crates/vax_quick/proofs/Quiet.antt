-- Results with which no trap follows.
use Rattle.std.proofs.Common.{◌≡◌, ℕ, Bool, false, refl, ap, subst, sym}
use Rattle.std.specs.Prelude.{◌&&◌}
use Rattle.vax_word.specs.declared.Codes.{Codes}
use Rattle.vax_word.specs.declared.Psl.{Psl}
use Rattle.vax_word.specs.declared.Size.{Size}
use Rattle.vax_word.specs.Arithmetic.{answer}
use Rattle.vax_word.specs.Status.{is_one}
use Rattle.vax_flat.specs.declared.Flow.{Flow}
use Rattle.vax_flat.specs.declared.Flow.TheVariants as flow
use Rattle.vax_flat.specs.State.{State, with_conditions}
use Rattle.vax_flat.specs.Accesses.{Accesses, Leaf}
use Rattle.vax_flat.specs.OverPort.{over_port}
use Rattle.vax_flat.specs.Port.{View}
use Rattle.vax_flat.specs.Rows.{settled, flow_of}
use Rattle.vax_quick.specs.Made.{IsQuiet}

pub settled_quiet : (by_zero : Bool) (codes : Codes) (s : State) (view : View) → IsQuiet by_zero codes s.core.psl → (next : Flow → State → Accesses Leaf) → over_port (settled by_zero codes s next) view ≡ over_port (next flow.Done (with_conditions s codes)) view
unfolding settled flow_of
settled_quiet by_zero codes s view quiet next = rw (quiet.zero, quiet.overflow) refl

pub quiet_still : (by_zero : Bool) (codes : Codes) (old new : Psl) → new ≡ old → IsQuiet by_zero codes old → IsQuiet by_zero codes new
quiet_still by_zero codes old new same quiet = subst (λ (p : Psl). IsQuiet by_zero codes p) (sym same) quiet

-- codes without V trap nothing
pub pushed_quiet : (size : Size) (x : ℕ) (c : Bool) (made : ℕ × Codes) (psl : Psl) → made ≡ answer size x false c → IsQuiet false made.1 psl
unfolding answer
pushed_quiet size x c made psl is = record { zero = refl; overflow = ap (λ (k : ℕ × Codes). k.1.v && is_one psl.0 5) is }
