-- A text whose last line ends.
use Rattle.std.proofs.Common.{◌≡◌, ◌==◌, ℕ, List, [], ◌∷◌, ◌++◌, refl, ap, sym, ◌∙◌}
use Rattle.vax_prelude.specs.Preludes.{ends}

by_last : (front : List ℕ) (last : ℕ) → ends (front ++ last ∷ []) ≡ (last == 10)
unfolding ends
by_last [] last = refl
by_last (c ∷ []) last = refl
by_last (c ∷ d ∷ cs) last = by_last (d ∷ cs) last

pub ends_by : (text front : List ℕ) (last : ℕ) → text ≡ front ++ last ∷ [] → (last == 10) ≡ ends text
ends_by text front last is = sym (ap ends is ∙ by_last front last)
