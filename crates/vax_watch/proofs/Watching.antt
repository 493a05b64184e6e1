-- The watches whose bytes were looked at again.
use Rattle.std.proofs.Common.{◌≡◌, ◌<◌, ℕ, zero, suc, take, drop, length, get_or, List, [], ◌∷◌, ◌++◌, Option, refl, subst, ◌∙◌, arith}
use Rattle.std.specs.Prelude.{slice_set}
use Rattle.vax_space.specs.declared.Area.{Area}
use Rattle.vax_outside.specs.Blocks.{BlockFile}
use Rattle.vax_flat.specs.Parts.{Place, machine_at}
use Rattle.vax_machine.specs.Machine.{Means}
use Rattle.vax_machine.specs.declared.engine.Engine.{Engine}
use Rattle.vax_watch.specs.Listing.{watch_line, watch_lines, watched}
use Rattle.vax_watch.specs.Plans.{AreLookedAt, IsLookedAt, LooksAgain, all_watched, changes_in, latest_in, watches_in}
use Rattle.vax_watch.specs.declared.watch.Seen.{Seen}

pub watches_kept : (m : Engine) (file : Option BlockFile) (old new : List Seen) → AreLookedAt m file old new → watches_in new ≡ watches_in old
unfolding AreLookedAt
watches_kept m file [] [] h = refl
watches_kept m file [] (y ∷ ys) h = absurd h
watches_kept m file (x ∷ xs) [] h = absurd h
watches_kept m file (x ∷ xs) (y ∷ ys) h = λ i. h.0.watch i ∷ watches_kept m file xs ys h.1 i

-- they are seen as memory is
pub latest_seen : (m : Engine) (file : Option BlockFile) (old new : List Seen) → AreLookedAt m file old new → (place : Place) → Means m file place → latest_in new ≡ all_watched (watches_in old) (machine_at place).memory
unfolding AreLookedAt
latest_seen m file [] [] h place means = refl
latest_seen m file [] (y ∷ ys) h place means = absurd h
latest_seen m file (x ∷ xs) [] h place means = absurd h
latest_seen m file (x ∷ xs) (y ∷ ys) h place means = λ i. h.0.latest place means i ∷ latest_seen m file xs ys h.1 place means i

-- and the changes are those from one memory to the other
pub changed : (m : Engine) (file : Option BlockFile) (old new : List Seen) → AreLookedAt m file old new → (before : List Area) → latest_in old ≡ all_watched (watches_in old) before → (place : Place) → Means m file place → changes_in new ≡ watch_lines (watches_in old) before (machine_at place).memory
unfolding AreLookedAt
changed m file [] [] h before seen place means = refl
changed m file [] (y ∷ ys) h before seen place means = absurd h
changed m file (x ∷ xs) [] h before seen place means = absurd h
changed m file (x ∷ xs) (y ∷ ys) h before seen place means =
    let first : x.latest.items ≡ watched before x.watch = cc in
    let rest : latest_in xs ≡ all_watched (watches_in xs) before = cc in
    let w = h.0.watch in
    let a = h.0.earlier ∙ first in
    let b = h.0.latest place means in
    λ i. watch_line (w i) (a i) (b i) ++ changed m file xs ys h.1 before rest place means i

-- one watch more is looked at

pub looked_then : (a b c : Engine) (x y z : Option BlockFile) → IsLookedAt a x b y → IsLookedAt b y c z → IsLookedAt a x c z
looked_then a b c x y z p q = record {
  cpu = q.cpu ∙ p.cpu;
  keeps = q.keeps ∙ p.keeps;
  same = q.same ∙ p.same;
  means = λ place m. q.means place (p.means place m);
  reads = q.reads ∙ p.reads;
}

pub looks_from : (a b : Engine) (x y : Option BlockFile) (old new : Seen) → IsLookedAt a x b y → LooksAgain b y old new → LooksAgain a x old new
looks_from a b x y old new l h = record { watch = h.watch; earlier = h.earlier; latest = λ place m. h.latest place (l.means place m) }

pub looks_next : (m : Engine) (file : Option BlockFile) (k : ℕ) (old items : List Seen) (d y : Seen) → k < length items → drop k items ≡ drop k old → LooksAgain m file (get_or items k d) y → AreLookedAt m file (take k old) (take k items) →
    AreLookedAt m file (take (suc k) old) (take (suc k) (slice_set items k y)) × (drop (suc k) (slice_set items k y) ≡ drop (suc k) old)
unfolding AreLookedAt
looks_next m file zero old [] d y low e h looked = absurd (omega (arith, low))
looks_next m file zero [] (i ∷ is) d y low e h looked = absurd (cc e)
looks_next m file zero (o ∷ os) (i ∷ is) d y low e h looked =
    let first : i ≡ o = cc in
    let rest : is ≡ os = cc in
    ((subst (λ (z : Seen). LooksAgain m file z y) first h, tt), rest)
looks_next m file (suc k) old [] d y low e h looked = absurd (omega (arith, low))
looks_next m file (suc k) [] (i ∷ is) d y low e h looked = absurd looked
looks_next m file (suc k) (o ∷ os) (i ∷ is) d y low e h looked =
    let r = looks_next m file k os is d y (omega (arith, low)) e h looked.1 in
    ((looked.0, r.0), r.1)
