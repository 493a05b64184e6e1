-- Going back to where a statement began.
use Rattle.std.proofs.Common.{◌≡◌, ℕ, List, Some, map, take, ap, sym, ◌∙◌}
use Rattle.std.proofs.lemmas.List.{take-map}
use Rattle.vax_asm.specs.Walk.{Assembly}
use Rattle.vax_asm_check.specs.View.{IsMark}
use Rattle.vax_asm_first.specs.Fixups.{Assignment}
use Rattle.vax_asm_first.specs.Standing as standing
use Rattle.vax_asm_first.specs.View.{marked_standing}
use Rattle.vax_asm_first.specs.declared.types.Standing.{Standing}

-- what is there again is what was there
pub went_back : {X : Type 0} (of : X → Assignment) (s : Standing) (found : standing.Standing) (many : ℕ) (items after : List X) (before : Assembly)
    → after ≡ take many items → marked_standing s ≡ Some found → IsMark s before.standing → take many (map of items) ≡ before.assignments
    → record { standing = found; assignments = map of after } ≡ before
went_back of s found many items after before cut marked mark kept =
    let a : found ≡ before.standing = mark found marked in
    let b : map of after ≡ before.assignments = ap (map of) cut ∙ (sym (take-map of many items) ∙ kept) in
    λ k. record { standing = a k; assignments = b k }
