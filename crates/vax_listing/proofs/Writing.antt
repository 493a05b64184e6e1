-- A text on its way to Out.
use Rattle.std.proofs.Common.{◌≡◌, ℕ, List, [], ◌++◌, append_assoc, append-nil, Option, sym, ap, subst, ◌∙◌}
use Rattle.vax_outside.specs.Channels.{Channels, Grew, GrewByPrefix, only}
use Rattle.vax_outside.specs.declared.traits.Chan.TheVariants.{Out}
use Rattle.vax_outside.proofs.Growth.{grew_nothing, out_grew, prefix_within}
use Rattle.vax_listing.specs.Writing.{IsBetween}

only_nothing : (old : Option Channels) → Grew old old (only Out [])
only_nothing old = grew_nothing old

-- nothing was written
pub begun : (whole held rest : List ℕ) (old : Option Channels) → held ≡ [] → rest ≡ whole → IsBetween whole old old held rest
begun whole held rest old h r = record { sent = []; is = ap (λ (z : List ℕ). z ++ rest) h ∙ r; wrote = only_nothing old }

-- what was held back was written
pub written : (whole held rest new : List ℕ) (old mid now : Option Channels) → new ≡ [] → IsBetween whole old mid held rest → Grew mid now (only Out held) → IsBetween whole old now new rest
written whole held rest new old mid now n b g = record {
  sent = b.sent ++ held;
  is = append_assoc b.sent held (new ++ rest) ∙ (ap (λ (z : List ℕ). b.sent ++ (held ++ (z ++ rest))) n ∙ b.is);
  wrote = out_grew old mid now b.sent held b.wrote g;
}

-- more is held back
pub held_more : (whole held line rest more new : List ℕ) (old now : Option Channels) → new ≡ held ++ line → rest ≡ line ++ more → IsBetween whole old now held rest → IsBetween whole old now new more
held_more whole held line rest more new old now n e b = record {
  sent = b.sent;
  is = ap (λ (z : List ℕ). b.sent ++ z) (ap (λ (z : List ℕ). z ++ more) n ∙ (append_assoc held line more ∙ ap (λ (z : List ℕ). held ++ z) (sym e))) ∙ b.is;
  wrote = b.wrote;
}

-- a write failed
pub cut_short : (whole held rest : List ℕ) (old mid now : Option Channels) → IsBetween whole old mid held rest → GrewByPrefix mid now (only Out held) → GrewByPrefix old now (only Out whole)
cut_short whole held rest old mid now b p = prefix_within old mid now Out b.sent held rest whole b.is b.wrote p

-- all was written
pub finished : (whole held rest : List ℕ) (old mid now : Option Channels) → rest ≡ [] → IsBetween whole old mid held rest → Grew mid now (only Out held) → Grew old now (only Out whole)
finished whole held rest old mid now e b g =
    let is : b.sent ++ held ≡ whole = ap (λ (z : List ℕ). b.sent ++ z) (sym (append-nil held) ∙ ap (λ (z : List ℕ). held ++ z) (sym e)) ∙ b.is in
    subst (λ (z : List ℕ). Grew old now (only Out z)) is (out_grew old mid now b.sent held b.wrote g)
