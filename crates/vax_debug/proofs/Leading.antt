-- Where addresses lead, one `@` after the other.
use Rattle.std.proofs.Common.{◌≡◌, ◌<◌, ◌≤◌, ◌+◌, ◌-◌, ℕ, zero, suc, List, Option, None, Some, option_map, Result, Ok, Err, IfOk, slice_index, refl, sym, ap, subst, ◌∙◌, arith}
use Rattle.vax_word.specs.declared.Core.{Core}
use Rattle.vax_flat.specs.Step.{Flat}
use Rattle.vax_pager.specs.declared.calls.PageFault.{PageFault}
use Rattle.vax_console.specs.Ends.{Scene}
use Rattle.vax_console.proofs.Requested.{same_core}
use Rattle.vax_debug.specs.Calls.{TellsFrom, longword_at}
use Rattle.vax_debug_words.specs.declared.request.Base.{Base}
use Rattle.vax_debug_words.specs.declared.request.Expression.{Expression}
use Rattle.vax_debug_names.specs.Names.{number_of}
use Rattle.vax_debug_names.specs.declared.Legend.{Legend}
use Rattle.vax_debug.specs.Values.{based, evaluated, next_of, plus, through}

pub leads_first : (count : ℕ) (m : Flat) (address : ℕ) → through count m (Some address) ≡ through (count - 0) m (Some address)
leads_first count m address = let is : count ≡ count - 0 = omega arith in ap (λ (n : ℕ). through n m (Some address)) is

next_left : (count i : ℕ) (m : Flat) (a : Option ℕ) → i < count → through (count - i) m a ≡ through (count - (i + 1)) m (next_of m a)
unfolding through
next_left count i m a below = let more : count - i ≡ suc (count - (i + 1)) = omega (arith, below) in ap (λ (n : ℕ). through n m a) more

-- a longword is there
pub leads_on : (count i : ℕ) (m : Flat) (address here next : ℕ) → i < count → through count m (Some address) ≡ through (count - i) m (Some here) → Some next ≡ longword_at m here → through count m (Some address) ≡ through (count - (i + 1)) m (Some next)
leads_on count i m address here next below so is = so ∙ (next_left count i m (Some here) below ∙ ap (through (count - (i + 1)) m) (sym is))

-- nothing comes of nothing
pub from_none : (count : ℕ) (m : Flat) → through count m None ≡ None
unfolding through
from_none zero m = refl
from_none (suc count) m = from_none count m

-- none is there
pub leads_nowhere : (count i : ℕ) (m : Flat) (address here : ℕ) → i < count → through count m (Some address) ≡ through (count - i) m (Some here) → None ≡ longword_at m here → None ≡ through count m (Some address)
leads_nowhere count i m address here below so is =
    sym (so ∙ (next_left count i m (Some here) below ∙ (ap (through (count - (i + 1)) m) (sym is) ∙ from_none (count - (i + 1)) m)))

pub leads_there : (count i : ℕ) (m : Flat) (address here : ℕ) → count ≤ i → through count m (Some address) ≡ through (count - i) m (Some here) → Some here ≡ through count m (Some address)
unfolding through
leads_there count i m address here all so = let none : count - i ≡ zero = omega (arith, all) in sym (so ∙ ap (λ (n : ℕ). through n m (Some here)) none)

pub is_evaluated : (legend : Legend) (e : Expression) (m : Flat) (found value : Option ℕ) → found ≡ based legend m e.through e.base → value ≡ option_map (plus e.offset) found → value ≡ evaluated legend e m
unfolding evaluated
is_evaluated legend e m found value is told = told ∙ ap (option_map (plus e.offset)) is

-- what is told of a register by what it holds
pub from_held : (r : Result (Option ℕ) PageFault) (v : Scene) (count register value : ℕ) → value ≡ slice_index v.machine.cpu.core.regs register → IfOk r (TellsFrom v (λ (m : Flat). through count m (Some value))) → IfOk r (TellsFrom v (λ (m : Flat). through count m (Some (slice_index m.core.regs register))))
from_held (Ok x) v count register value is p = λ o s replies here.
    p o s replies here ∙ ap (λ (k : ℕ). through count s.machine (Some k)) (is ∙ ap (λ (core : Core). slice_index core.regs register) (sym (same_core v.machine v.file s.machine here.at.means)))
from_held (Err e) v count register value is p = tt

-- and of a name by its value
pub from_named : (r : Result (Option ℕ) PageFault) (v : Scene) (count : ℕ) (a b : Option ℕ) → a ≡ b → IfOk r (TellsFrom v (λ (m : Flat). through count m a)) → IfOk r (TellsFrom v (λ (m : Flat). through count m b))
from_named r v count a b e p = subst (λ (z : Option ℕ). IfOk r (TellsFrom v (λ (m : Flat). through count m z))) e p

pub from_no_name : (count : ℕ) (m : Flat) (found : Option ℕ) → None ≡ found → None ≡ through count m found
from_no_name count m found e = sym (from_none count m) ∙ ap (through count m) e

-- what is told of a base, by what it is
pub base_tells : (r : Result (Option ℕ) PageFault) (v : Scene) (legend : Legend) (count : ℕ) (base other : Base) → base ≡ other → IfOk r (TellsFrom v (λ (m : Flat). based legend m count other)) → IfOk r (TellsFrom v (λ (m : Flat). based legend m count base))
base_tells r v legend count base other e p = subst (λ (z : Base). IfOk r (TellsFrom v (λ (m : Flat). based legend m count z))) (sym e) p

pub name_tells : (r : Result (Option ℕ) PageFault) (v : Scene) (legend : Legend) (count : ℕ) (word name : List ℕ) → word ≡ name → IfOk r (TellsFrom v (λ (m : Flat). through count m (number_of legend.symbols.now word))) → IfOk r (TellsFrom v (λ (m : Flat). through count m (number_of legend.symbols.now name)))
name_tells r v legend count word name e p = subst (λ (z : List ℕ). IfOk r (TellsFrom v (λ (m : Flat). through count m (number_of legend.symbols.now z)))) e p
