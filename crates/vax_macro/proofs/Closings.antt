-- One step of the search for a closing bracket.
use Rattle.std.proofs.Common.{◌≡◌, ◌<◌, ◌≤◌, ℕ, ◌+◌, List, length, get_or, drop, Option, Some, None, refl, ap, arith, ◌∙◌}
use Rattle.std.proofs.lemmas.List.{drop_more, drop_all}
use Rattle.vax_macro.specs.Arguments.{closing, closing_from, depth_after, one_further}

-- a place so many bytes further on
abbrev pub further : ℕ → Option ℕ → Option ℕ
further i (Some k) = Some (k + i)
further i None = None

further_one : (i : ℕ) (o : Option ℕ) → further i (one_further o) ≡ further (i + 1) o
further_one i None = refl
further_one i (Some k) = ap (λ (n : ℕ). Some n) (omega arith)

pub closes_later : (depth d i : ℕ) (text : List ℕ) → i < length text → depth_after depth (get_or text i 0) ≡ Some d → further i (closing depth (drop i text)) ≡ further (i + 1) (closing d (drop (i + 1) text))
unfolding closing
closes_later depth d i text h e =
    ap (λ (t : List ℕ). further i (closing depth t)) (drop_more text i 0 h)
    ∙ ap (λ (o : Option ℕ). further i (closing_from o (λ x. closing x (drop (i + 1) text)))) e
    ∙ further_one i (closing d (drop (i + 1) text))

pub closes_here : (depth i : ℕ) (text : List ℕ) → i < length text → depth_after depth (get_or text i 0) ≡ None → further i (closing depth (drop i text)) ≡ Some i
unfolding closing
closes_here depth i text h e =
    ap (λ (t : List ℕ). further i (closing depth t)) (drop_more text i 0 h)
    ∙ ap (λ (o : Option ℕ). further i (closing_from o (λ x. closing x (drop (i + 1) text)))) e
    ∙ ap (λ (n : ℕ). Some n) (omega arith)

pub never_closes : (depth i : ℕ) (text : List ℕ) → length text ≤ i → further i (closing depth (drop i text)) ≡ None
unfolding closing
never_closes depth i text h = ap (λ (t : List ℕ). further i (closing depth t)) (drop_all i text h)

pub further_none : (o : Option ℕ) → further 0 o ≡ o
further_none None = refl
further_none (Some k) = ap (λ (n : ℕ). Some n) (omega arith)
