-- The first hundred.
use Rattle.std.proofs.Common.{◌≡◌, ◌≤◌, List, ◌++◌, length, take, ap, sym, ◌∙◌}
use Rattle.std.proofs.lemmas.List.{take-append-le}

-- of a list they are those of its front, where that has so many
pub cut_short : {X : Type 0} (front rest all : List X) → 100 ≤ length front → front ++ rest ≡ all → take 100 front ≡ take 100 all
cut_short front rest all many same = sym (take-append-le 100 front rest many) ∙ ap (take 100) same
