-- What the types of conditions mean.
use Rattle.std.specs.Prelude.{◌≡◌, ℕ, List, Result, Ok, Err, Vec}
use Rattle.std.proofs.Common.{Bor}
use Rattle.std.specs.Global.{Global}
use Rattle.vax_macro.specs.Directives.{Iterated}
use Rattle.vax_macro.specs.Conditions as specs
use Rattle.vax_macro.specs.declared.error.FaultKind.{FaultKind}
use Rattle.vax_macro.specs.declared.conditions.Comparison as code_comparison
use Rattle.vax_macro.specs.declared.conditions.Comparison.TheVariants as comparisons
use Rattle.vax_macro.specs.declared.conditions.Condition as code_condition
use Rattle.vax_macro.specs.declared.conditions.Condition.TheVariants as conditions
use Rattle.vax_macro.specs.declared.conditions.Guarded as code_guarded
use Rattle.vax_macro.specs.declared.conditions.Refusal as code_refusal
use Rattle.vax_macro.specs.declared.conditions.Refusal.TheVariants as refusals

abbrev pub comparison_view : code_comparison.Comparison → specs.Comparison
comparison_view comparisons.Equal = specs.equal
comparison_view comparisons.NotEqual = specs.not_equal
comparison_view comparisons.Greater = specs.greater
comparison_view comparisons.Less = specs.less
comparison_view comparisons.GreaterOrEqual = specs.greater_or_equal
comparison_view comparisons.LessOrEqual = specs.less_or_equal

abbrev pub condition_view : code_condition.Condition → specs.Condition
condition_view (conditions.Compares c) = specs.compares (comparison_view c)
condition_view (conditions.Defined wanted) = specs.defined wanted
condition_view (conditions.Blank wanted) = specs.blank wanted
condition_view (conditions.Identical wanted) = specs.identical wanted

abbrev pub guarded_view : code_guarded.Guarded → specs.Guarded
guarded_view g = record { holds = g.holds; statement = g.statement }

-- the code's answer is this, unless memory was refused
abbrev pub Decides : {X Y : Type 0} → (X → Y) → Result X code_refusal.Refusal → Result Y FaultKind → Type 0
Decides view (Ok x) answer = answer ≡ Ok (view x)
Decides view (Err (refusals.Fault kind)) answer = answer ≡ Err kind
Decides view (Err refusals.NoMemory) answer = Unit {0}

abbrev pub same : {X : Type 0} → X → X
same x = x

-- a formal argument and the text for it
abbrev pub iterated_view : (Vec ℕ Global × Vec ℕ Global) → Iterated
iterated_view p = record { name = p.0.items; text = p.1.items }

abbrev pub listed_view : Result (Bor (List ℕ)) FaultKind → Result (List ℕ) FaultKind
listed_view (Ok s) = Ok s.now
listed_view (Err kind) = Err kind

-- a name and a text
abbrev pub pair_view : Result (Bor (List ℕ) × Bor (List ℕ)) FaultKind → Result Iterated FaultKind
pair_view (Ok p) = Ok (record { name = p.0.now; text = p.1.now })
pair_view (Err kind) = Err kind

-- memory was refused
abbrev pub refused : code_refusal.Refusal
refused = refusals.NoMemory
