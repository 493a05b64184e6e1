-- How arguments are passed by value, one after another.
use Rattle.std.proofs.Common.{◌≡◌, List, [], ◌∷◌, ◌++◌, Result, Ok, Err, refl, sym, ap, ◌∙◌, append_assoc, append-nil}
use Rattle.vax_lex.specs.Values.{Sense}
use Rattle.vax_macro.specs.ArgumentViews.{argument_view, arguments_view}
use Rattle.vax_macro.specs.Arguments.{Argument}
use Rattle.vax_macro.specs.ConditionViews.{Decides}
use Rattle.vax_macro.specs.Values.{all_by_value, by_value, then_all}
use Rattle.vax_macro.specs.declared.conditions.Refusal.{Refusal}
use Rattle.vax_macro.specs.declared.conditions.Refusal.TheVariants.{Fault, NoMemory}
use Rattle.vax_macro.specs.declared.error.FaultKind.{FaultKind}

-- arguments that were passed, and those to come
abbrev pub behind : List Argument → Result (List Argument) FaultKind → Result (List Argument) FaultKind
behind front (Ok arguments) = Ok (front ++ arguments)
behind front (Err kind) = Err kind

one_behind : (front : List Argument) (b : Argument) (r : Result (List Argument) FaultKind) → behind front (then_all (Ok b) r) ≡ behind (front ++ b ∷ []) r
one_behind front b (Ok arguments) = ap (λ (l : List Argument). let o : Result (List Argument) FaultKind = Ok l in o) (sym (append_assoc front (b ∷ []) arguments))
one_behind front b (Err kind) = refl

pub one_passed : (names : Sense) (front next : List Argument) (a b : Argument) (arguments rest : List Argument) (all : Result (List Argument) FaultKind) → arguments ≡ a ∷ rest → next ≡ front ++ b ∷ []
    → by_value names a ≡ Ok b → behind front (all_by_value names arguments) ≡ all → behind next (all_by_value names rest) ≡ all
unfolding all_by_value
one_passed names front next a b arguments rest all is pushed e same =
    ap (λ (l : List Argument). behind l (all_by_value names rest)) pushed
    ∙ sym (one_behind front b (all_by_value names rest))
    ∙ ap (λ (r : Result Argument FaultKind). behind front (then_all r (all_by_value names rest))) (sym e)
    ∙ ap (λ (l : List Argument). behind front (all_by_value names l)) (sym is)
    ∙ same

pub not_passed : (names : Sense) (front : List Argument) (a : Argument) (kind : FaultKind) (arguments rest : List Argument) (all : Result (List Argument) FaultKind) → arguments ≡ a ∷ rest
    → by_value names a ≡ Err kind → behind front (all_by_value names arguments) ≡ all → all ≡ Err kind
unfolding all_by_value
not_passed names front a kind arguments rest all is e same =
    sym same
    ∙ ap (λ (l : List Argument). behind front (all_by_value names l)) is
    ∙ ap (λ (r : Result Argument FaultKind). behind front (then_all r (all_by_value names rest))) e

pub all_passed : (names : Sense) (front : List Argument) (arguments : List Argument) (all : Result (List Argument) FaultKind) → arguments ≡ [] → behind front (all_by_value names arguments) ≡ all → all ≡ Ok front
unfolding all_by_value
all_passed names front arguments all is same =
    sym same
    ∙ ap (λ (l : List Argument). behind front (all_by_value names l)) is
    ∙ ap (λ (l : List Argument). let o : Result (List Argument) FaultKind = Ok l in o) (append-nil front)

pub refused_all : (names : Sense) (front : List Argument) (a : Argument) (arguments rest : List Argument) (all : Result (List Argument) FaultKind) (r : Refusal) → arguments ≡ a ∷ rest
    → Decides argument_view (Err r) (by_value names a) → behind front (all_by_value names arguments) ≡ all → Decides arguments_view (Err r) all
refused_all names front a arguments rest all (Fault kind) is e same = not_passed names front a kind arguments rest all is e same
refused_all names front a arguments rest all NoMemory is e same = tt
