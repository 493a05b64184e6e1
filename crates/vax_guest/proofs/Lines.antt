-- One line more of a workload.
use Rattle.std.proofs.Common.{◌≡◌, ℕ, suc, ◌+◌, ◌-◌, ◌<◌, ◌≤◌, List, ◌++◌, sym, ap, ◌∙◌, append_assoc, arith}
use Rattle.std.specs.List.{flat_map}
use Rattle.std.proofs.lemmas.List.{append-nil}
use Rattle.vax_guest.specs.Executive.{line}
use Rattle.vax_guest.specs.Workload.{following, numbers, instruction}

abbrev pub lines_of : List ℕ → List ℕ
lines_of xs = flat_map (λ x. line (instruction x)) xs

pub lines_more : (old new total : List ℕ) (x n i : ℕ) → i < n → old ++ lines_of (numbers x (n - i)) ≡ total → new ≡ old ++ line (instruction (following x))
    → new ++ lines_of (numbers (following x) (n - (i + 1))) ≡ total
unfolding numbers
lines_more old new total x n i lt before is =
    let one : n - i ≡ suc (n - (i + 1)) = omega arith in
    let at : old ++ (line (instruction (following x)) ++ lines_of (numbers (following x) (n - (i + 1)))) ≡ total = ap (λ k. old ++ lines_of (numbers x k)) (sym one) ∙ before in
    rw is (append_assoc old (line (instruction (following x))) (lines_of (numbers (following x) (n - (i + 1)))) ∙ at)

pub lines_all : (text total : List ℕ) (x n i : ℕ) → n ≤ i → text ++ lines_of (numbers x (n - i)) ≡ total → text ≡ total
unfolding numbers
lines_all text total x n i le before =
    let none : n - i ≡ 0 = omega arith in
    sym (append-nil text) ∙ ap (λ k. text ++ lines_of (numbers x k)) (sym none) ∙ before
