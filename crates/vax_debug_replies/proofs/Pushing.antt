-- Texts that are pushed one behind the other.
use Rattle.std.proofs.Common.{◌≡◌, ◌++◌, ◌∙◌, List, ℕ, ap, append_assoc}

pub pushed_behind : (before first rest all : List ℕ) (text : List ℕ) → first ≡ before ++ text → all ≡ first ++ rest → all ≡ before ++ (text ++ rest)
pushed_behind before first rest all text one others = others ∙ (ap (λ (z : List ℕ). z ++ rest) one ∙ append_assoc before text rest)
