-- Bytes on their way to State.
use Rattle.std.proofs.Common.{◌≡◌, ℕ, List, [], ◌++◌, append_assoc, append-nil, Option, refl, sym, ap, subst, ◌∙◌}
use Rattle.vax_outside.specs.Channels.{Channels, Grew, GrewByPrefix, only}
use Rattle.vax_outside.specs.declared.traits.Chan.TheVariants.{State}
use Rattle.vax_outside.proofs.Growth.{grew_nothing, prefix_stays, prefix_within, grew_only}
use Rattle.vax_save.specs.Stream.{Cuts, HasCut, HasPut, IsBetween, Leaves, HasBegun, HasWritten, Puts, Stream, stream}

-- nothing was written, and all is still to come
pub begun : (whole : List ℕ) (old : Option Channels) → IsBetween whole old (stream old []) (whole ++ [])
begun whole old = record { sent = []; is = append-nil whole; wrote = grew_nothing old }

-- what was held back was written
pub written : (held new : List ℕ) (mid now : Option Channels) → new ≡ [] → Grew mid now (only State held) → Puts [] (stream mid held) (stream now new)
written held new mid now n g whole rest first b = record {
  sent = b.sent ++ held;
  is = append_assoc b.sent held (new ++ rest) ∙ (ap (λ (z : List ℕ). b.sent ++ (held ++ (z ++ rest))) n ∙ b.is);
  wrote = grew_only first mid now State b.sent held b.wrote g;
}

-- more is held back
pub held_more : (held new bytes : List ℕ) (now : Option Channels) → new ≡ held ++ bytes → Puts bytes (stream now held) (stream now new)
held_more held new bytes now n whole rest first b = record {
  sent = b.sent;
  is = ap (λ (z : List ℕ). b.sent ++ z) (ap (λ (z : List ℕ). z ++ rest) n ∙ append_assoc held bytes rest) ∙ b.is;
  wrote = b.wrote;
}

-- bytes were written behind all that was held back
pub passed : (held bytes : List ℕ) (mid now : Option Channels) → held ≡ [] → Grew mid now (only State bytes) → Puts bytes (stream mid held) (stream now held)
passed held bytes mid now none g whole rest first b = record {
  sent = b.sent ++ bytes;
  is = append_assoc b.sent bytes (held ++ rest) ∙ (ap (λ (z : List ℕ). b.sent ++ (bytes ++ (z ++ rest))) none ∙ (ap (λ (z : List ℕ). b.sent ++ (z ++ (bytes ++ rest))) (sym none) ∙ b.is));
  wrote = grew_only first mid now State b.sent bytes b.wrote g;
}

-- a write of what was held back failed
pub lost : (held bytes : List ℕ) (mid now : Option Channels) → GrewByPrefix mid now (only State held) → Cuts bytes (stream mid held) now
lost held bytes mid now g whole rest first b = prefix_within first mid now State b.sent held (bytes ++ rest) whole b.is b.wrote g

-- a write behind all that was held back failed
pub passed_short : (held bytes : List ℕ) (mid now : Option Channels) → held ≡ [] → GrewByPrefix mid now (only State bytes) → Cuts bytes (stream mid held) now
passed_short held bytes mid now none g whole rest first b =
    prefix_within first mid now State b.sent bytes rest whole (ap (λ (z : List ℕ). b.sent ++ (z ++ (bytes ++ rest))) (sym none) ∙ b.is) b.wrote g

-- nothing more is written
pub given_up : (bytes : List ℕ) (s : Stream) → Cuts bytes s s.channels
given_up bytes s whole rest first b = prefix_stays first s.channels s.channels State b.sent (s.held ++ (bytes ++ rest)) whole b.is b.wrote refl

-- one behind the other
pub puts_then : (a b : List ℕ) (s t u : Stream) → Puts a s t → Puts b t u → Puts (a ++ b) s u
puts_then a b s t u p q whole rest first h = q whole rest first (p whole (b ++ rest) first (subst (IsBetween whole first s) (append_assoc a b rest) h))

pub cuts_then : (a b : List ℕ) (s t : Stream) (now : Option Channels) → Puts a s t → Cuts b t now → Cuts (a ++ b) s now
cuts_then a b s t now p q whole rest first h = q whole rest first (p whole (b ++ rest) first (subst (IsBetween whole first s) (append_assoc a b rest) h))

pub cuts_first : (a b : List ℕ) (s : Stream) (now : Option Channels) → Cuts a s now → Cuts (a ++ b) s now
cuts_first a b s now p whole rest first h = p whole (b ++ rest) first (subst (IsBetween whole first s) (append_assoc a b rest) h)

pub puts_nothing : (s : Stream) → Puts [] s s
puts_nothing s whole rest first h = h

-- in a loop: the next of the bytes that are left
pub leaves_next : (all field left : List ℕ) (s t u : Stream) → Leaves all (field ++ left) s t → Puts field t u → Leaves all left s u
leaves_next all field left s t u p q whole rest first h =
    q whole (left ++ rest) first (subst (IsBetween whole first t) (append_assoc field left rest) (p whole rest first h))

pub cuts_next : (all field left : List ℕ) (s t : Stream) (now : Option Channels) → Leaves all (field ++ left) s t → Cuts field t now → Cuts all s now
cuts_next all field left s t now p q whole rest first h =
    q whole (left ++ rest) first (subst (IsBetween whole first t) (append_assoc field left rest) (p whole rest first h))

-- all was written
pub finished : (whole : List ℕ) (old mid now : Option Channels) (held : List ℕ) → IsBetween whole old (stream mid held) [] → Grew mid now (only State held) → Grew old now (only State whole)
finished whole old mid now held b g =
    subst (λ (z : List ℕ). Grew old now (only State z)) (ap (λ (z : List ℕ). b.sent ++ z) (sym (append-nil held)) ∙ b.is) (grew_only old mid now State b.sent held b.wrote g)

pub cut_short : (whole : List ℕ) (old mid now : Option Channels) (held : List ℕ) → IsBetween whole old (stream mid held) [] → GrewByPrefix mid now (only State held) → GrewByPrefix old now (only State whole)
cut_short whole old mid now held b g = prefix_within old mid now State b.sent held [] whole b.is b.wrote g

-- the first of bytes was put, and the others are left
pub leaves_first : (a b : List ℕ) (s t : Stream) → Puts a s t → Leaves (a ++ b) b s t
leaves_first a b s t p whole rest first h = p whole (b ++ rest) first (subst (IsBetween whole first s) (append_assoc a b rest) h)

pub leaves_same : (a : List ℕ) (s : Stream) → Leaves a a s s
leaves_same a s whole rest first h = h

-- a whole from its beginning

start_of : (whole held : List ℕ) (old : Option Channels) → held ≡ [] → IsBetween whole old (stream old held) (whole ++ [])
start_of whole held old none = subst (λ (z : List ℕ). IsBetween whole old (stream old z) (whole ++ [])) (sym none) (begun whole old)

pub whole_cut : (whole held : List ℕ) (old now : Option Channels) → held ≡ [] → Cuts whole (stream old held) now → GrewByPrefix old now (only State whole)
whole_cut whole held old now none p = p whole [] old (start_of whole held old none)

pub whole_put : (whole held : List ℕ) (old now : Option Channels) (s : Stream) → held ≡ [] → Puts whole (stream old held) s → Grew s.channels now (only State s.held) → Grew old now (only State whole)
whole_put whole held old now s none p g = finished whole old s.channels now s.held (p whole [] old (start_of whole held old none)) g

pub whole_lost : (whole held : List ℕ) (old now : Option Channels) (s : Stream) → held ≡ [] → Puts whole (stream old held) s → GrewByPrefix s.channels now (only State s.held) → GrewByPrefix old now (only State whole)
whole_lost whole held old now s none p g = cut_short whole old s.channels now s.held (p whole [] old (start_of whole held old none)) g

-- some bytes, whatever they are

pub none_put : (s : Stream) → HasPut s s
none_put s = ([], leaves_same [] s)

pub put_more : (s t u : Stream) → HasPut s t → HasPut t u → HasPut s u
put_more s t u a b = (a.0 ++ b.0, puts_then a.0 b.0 s t u a.1 b.1)

pub cut_more : (s t : Stream) (now : Option Channels) → HasPut s t → HasCut t now → HasCut s now
cut_more s t now a b = (a.0 ++ b.0, cuts_then a.0 b.0 s t now a.1 b.1)

pub begun_cut : (held : List ℕ) (old now : Option Channels) → held ≡ [] → HasCut (stream old held) now → HasBegun old now
begun_cut held old now none h = (h.0, whole_cut h.0 held old now none h.1)

pub begun_lost : (held : List ℕ) (old now : Option Channels) (s : Stream) → held ≡ [] → HasPut (stream old held) s → GrewByPrefix s.channels now (only State s.held) → HasBegun old now
begun_lost held old now s none h g = (h.0, whole_lost h.0 held old now s none h.1 g)

pub written_put : (held : List ℕ) (old now : Option Channels) (s : Stream) → held ≡ [] → HasPut (stream old held) s → Grew s.channels now (only State s.held) → HasWritten old now
written_put held old now s none h g = (h.0, whole_put h.0 held old now s none h.1 g)

-- a state that can't be kept

pub kept_not : (old mid now : Option Channels) (bytes : List ℕ) → Grew old mid (only State bytes) → now ≡ mid → GrewByPrefix old now (only State bytes)
kept_not old mid now bytes p same = prefix_stays old mid now State bytes [] bytes (append-nil bytes) p same
