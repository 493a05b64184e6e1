-- One argument after another.
use Rattle.std.proofs.Common.{◌≡◌, ◌<◌, ◌+◌, ◌-◌, ℕ, zero, suc, Bool, arith, List, [], ◌∷◌, ◌++◌, length, Option, Some, None, refl, ap, ◌∙◌, append_assoc, sym}
use Rattle.vax_macro.specs.Arguments.{Argument, ArgumentTaken, Following, nothing_more, another, unparted, argument, following, and_then, then_others, arguments_from, prepend}

-- arguments, and what is to come
abbrev pub joined : List Argument → Option (List Argument) → Option (List Argument)
joined front (Some arguments) = Some (front ++ arguments)
joined front None = None

joined_prepend : (front : List Argument) (a : Argument) (o : Option (List Argument)) → joined front (prepend a o) ≡ joined (front ++ a ∷ []) o
joined_prepend front a None = refl
joined_prepend front a (Some arguments) = ap (λ more. Some more) (sym (append_assoc front (a ∷ []) arguments))

another_argument : (front : List Argument) (n : ℕ) (larger : Bool) (is_keyword : List ℕ → Bool) (text next : List ℕ) (t : ArgumentTaken) → argument larger is_keyword text ≡ Some t → following larger t.rest ≡ another next
    → joined front (arguments_from (suc n) larger is_keyword text) ≡ joined (front ++ t.argument ∷ []) (arguments_from n larger is_keyword next)
unfolding arguments_from
another_argument front n larger is_keyword text next t e f =
    ap (λ (o : Option ArgumentTaken). joined front (then_others larger o (λ rest. arguments_from n larger is_keyword rest))) e
    ∙ ap (λ (o : Following). joined front (and_then t.argument o (λ rest. arguments_from n larger is_keyword rest))) f
    ∙ joined_prepend front t.argument (arguments_from n larger is_keyword next)

last_argument : (front : List Argument) (n : ℕ) (larger : Bool) (is_keyword : List ℕ → Bool) (text : List ℕ) (t : ArgumentTaken) → argument larger is_keyword text ≡ Some t → following larger t.rest ≡ nothing_more
    → joined front (arguments_from (suc n) larger is_keyword text) ≡ Some (front ++ t.argument ∷ [])
unfolding arguments_from
last_argument front n larger is_keyword text t e f =
    ap (λ (o : Option ArgumentTaken). joined front (then_others larger o (λ rest. arguments_from n larger is_keyword rest))) e
    ∙ ap (λ (o : Following). joined front (and_then t.argument o (λ rest. arguments_from n larger is_keyword rest))) f

unparted_argument : (front : List Argument) (n : ℕ) (larger : Bool) (is_keyword : List ℕ → Bool) (text : List ℕ) (t : ArgumentTaken) → argument larger is_keyword text ≡ Some t → following larger t.rest ≡ unparted
    → joined front (arguments_from (suc n) larger is_keyword text) ≡ None
unfolding arguments_from
unparted_argument front n larger is_keyword text t e f =
    ap (λ (o : Option ArgumentTaken). joined front (then_others larger o (λ rest. arguments_from n larger is_keyword rest))) e
    ∙ ap (λ (o : Following). joined front (and_then t.argument o (λ rest. arguments_from n larger is_keyword rest))) f

no_argument : (front : List Argument) (n : ℕ) (larger : Bool) (is_keyword : List ℕ → Bool) (text : List ℕ) → argument larger is_keyword text ≡ None
    → joined front (arguments_from (suc n) larger is_keyword text) ≡ None
unfolding arguments_from
no_argument front n larger is_keyword text e = ap (λ (o : Option ArgumentTaken). joined front (then_others larger o (λ rest. arguments_from n larger is_keyword rest))) e

joined_nothing : (o : Option (List Argument)) → joined [] o ≡ o
joined_nothing None = refl
joined_nothing (Some arguments) = refl

-- the loop over the arguments: before the first, and behind each
pub begun : (front : List Argument) (larger : Bool) (is_keyword : List ℕ → Bool) (text : List ℕ) → front ≡ [] → joined front (arguments_from (length text + 1) larger is_keyword text) ≡ arguments_from (length text + 1) larger is_keyword text
begun front larger is_keyword text e = rw e (joined_nothing (arguments_from (length text + 1) larger is_keyword text))

pub further : (front more : List Argument) (steps : ℕ) (larger : Bool) (is_keyword : List ℕ → Bool) (text next : List ℕ) (t : ArgumentTaken) (all : Option (List Argument))
    → 0 < steps → argument larger is_keyword text ≡ Some t → following larger t.rest ≡ another next → more ≡ front ++ t.argument ∷ []
    → joined front (arguments_from steps larger is_keyword text) ≡ all → joined more (arguments_from (steps - 1) larger is_keyword next) ≡ all
further front more zero larger is_keyword text next t all h e f m same = absurd (omega (arith, h))
further front more (suc n) larger is_keyword text next t all h e f m same =
    let less : suc n - 1 ≡ n = omega arith in
    rw (less, m) (sym (another_argument front n larger is_keyword text next t e f) ∙ same)

pub ended : (front more : List Argument) (steps : ℕ) (larger : Bool) (is_keyword : List ℕ → Bool) (text : List ℕ) (t : ArgumentTaken) (all : Option (List Argument))
    → 0 < steps → argument larger is_keyword text ≡ Some t → following larger t.rest ≡ nothing_more → more ≡ front ++ t.argument ∷ []
    → joined front (arguments_from steps larger is_keyword text) ≡ all → Some more ≡ all
ended front more zero larger is_keyword text t all h e f m same = absurd (omega (arith, h))
ended front more (suc n) larger is_keyword text t all h e f m same = ap (λ (arguments : List Argument). Some arguments) m ∙ sym (last_argument front n larger is_keyword text t e f) ∙ same

pub broken : (front : List Argument) (steps : ℕ) (larger : Bool) (is_keyword : List ℕ → Bool) (text : List ℕ) (t : ArgumentTaken) (all : Option (List Argument))
    → 0 < steps → argument larger is_keyword text ≡ Some t → following larger t.rest ≡ unparted
    → joined front (arguments_from steps larger is_keyword text) ≡ all → None ≡ all
broken front zero larger is_keyword text t all h e f same = absurd (omega (arith, h))
broken front (suc n) larger is_keyword text t all h e f same = sym (unparted_argument front n larger is_keyword text t e f) ∙ same

pub refused : (front : List Argument) (steps : ℕ) (larger : Bool) (is_keyword : List ℕ → Bool) (text : List ℕ) (all : Option (List Argument))
    → 0 < steps → argument larger is_keyword text ≡ None
    → joined front (arguments_from steps larger is_keyword text) ≡ all → None ≡ all
refused front zero larger is_keyword text all h e same = absurd (omega (arith, h))
refused front (suc n) larger is_keyword text all h e same = sym (no_argument front n larger is_keyword text e) ∙ same
