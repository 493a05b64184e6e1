-- What is seen of watched bytes, one watch after the other.
use Rattle.std.proofs.Common.{◌≡◌, ℕ, ◌+◌, ◌<◌, ◌≤◌, ◌++◌, ◌||◌, Bool, true, false, List, [], ◌∷◌, length, take, get_or, Option, is_some, sym, ap, subst, ◌∙◌, arith, length-append}
use Rattle.std.specs.List.{list_any}
use Rattle.std.proofs.lemmas.List.{map_more, take_all}
use Rattle.vax_flat.specs.Step.{Flat}
use Rattle.vax_machine.specs.Console.{memory_from}
use Rattle.vax_debug.specs.Travel.{Stops, halts, is_stop}
use Rattle.vax_debug.specs.Watches.{are_other, is_changed, saw, seen_in, watched}
use Rattle.vax_debug.specs.declared.watches.Seen.{Seen}
use Rattle.vax_debug.specs.declared.watches.Watch.{Watch}

-- one more watch was looked at
one_more : (m : Flat) (watches : List Watch) (i : ℕ) (d : Watch) (seen : List Seen) (one : Seen) → i < length watches → seen ≡ seen_in (take i watches) m → one ≡ watched m (get_or watches i d) → seen ++ one ∷ [] ≡ seen_in (take (i + 1) watches) m
one_more m watches i d seen one below before is = (λ k. before k ++ is k ∷ []) ∙ sym (map_more (watched m) watches i d below)

pub seen_more : (m : Flat) (watches items : List Watch) (i : ℕ) (d : Watch) (seen after : List Seen) (one : Seen) → items ≡ watches → i < length items → seen ≡ seen_in (take i watches) m → one ≡ watched m (get_or items i d) → after ≡ seen ++ one ∷ [] → after ≡ seen_in (take (i + 1) watches) m
seen_more m watches items i d seen after one same below before is more =
    more
    ∙ one_more m watches i d seen one (subst (λ (ws : List Watch). i < length ws) same below) before
    (subst (λ (ws : List Watch). one ≡ watched m (get_or ws i d)) same is)

pub few_more : (i : ℕ) (seen after : List Seen) (one : Seen) → length seen ≤ i → after ≡ seen ++ one ∷ [] → length after ≤ i + 1
few_more i seen after one few more = omega (arith, few, ap length more, length-append seen (one ∷ []))

-- all were
pub seen_all : (m : Flat) (watches items : List Watch) (i : ℕ) (seen : List Seen) → items ≡ watches → length items ≤ i → seen ≡ seen_in (take i watches) m → seen ≡ seen_in watches m
seen_all m watches items i seen same all before =
    before ∙ ap (λ (ws : List Watch). seen_in ws m) (take_all i watches (subst (λ (ws : List Watch). length ws ≤ i) same all))

-- the bytes of a watch, as memory tells them
pub told_watch : (m : Flat) (watch : Watch) (cells : List (Option ℕ)) (n : ℕ) (told : Seen) → cells ≡ memory_from m.memory watch.address n → n ≡ watch.count → told ≡ saw watch.address cells → told ≡ watched m watch
told_watch m watch cells n told shown all is = is ∙ ap (saw watch.address) (shown ∙ ap (memory_from m.memory watch.address) all)

-- whether they are others than those that were seen
pub told_change : (m : Flat) (seen : Seen) (before cells : List (Option ℕ)) (n : ℕ) (told : Bool) → cells ≡ memory_from m.memory seen.address n → n ≡ length before → before ≡ seen.cells → told ≡ are_other before cells → told ≡ is_changed m seen
told_change m seen before cells n told shown all same is =
    let here : told ≡ are_other before (memory_from m.memory seen.address (length before)) = is ∙ ap (are_other before) (shown ∙ ap (memory_from m.memory seen.address) all) in
    subst (λ (xs : List (Option ℕ)). told ≡ are_other xs (memory_from m.memory seen.address (length xs))) same here

-- the first of some has a changed byte, or the others decide
pub first_changed : (m : Flat) (all : List Seen) (one : Seen) (more : List Seen) (told : Bool) → all ≡ one ∷ more → told ≡ is_changed m one → told ≡ true → true ≡ list_any (is_changed m) all
first_changed m all one more told is here so =
    subst (λ (z : List Seen). true ≡ list_any (is_changed m) z) (sym is) (ap (λ (b : Bool). b || list_any (is_changed m) more) (sym so ∙ here))

pub others_changed : (m : Flat) (all : List Seen) (one : Seen) (more : List Seen) (told rest : Bool) → all ≡ one ∷ more → told ≡ is_changed m one → told ≡ false → rest ≡ list_any (is_changed m) more → rest ≡ list_any (is_changed m) all
others_changed m all one more told rest is here so others =
    subst (λ (z : List Seen). rest ≡ list_any (is_changed m) z) (sym is) (others ∙ ap (λ (b : Bool). b || list_any (is_changed m) more) (sym so ∙ here))

-- it has ended, or is to stop, or the watched bytes decide

pub halts_ended : (stops : Stops) (m : Flat) → is_some m.ending ≡ true → true ≡ halts stops m
halts_ended stops m ended = sym (ap (λ (b : Bool). (b || is_stop stops m.core) || list_any (is_changed m) stops.seen) ended)

pub halts_there : (stops : Stops) (m : Flat) → is_some m.ending ≡ false → is_stop stops m.core ≡ true → true ≡ halts stops m
halts_there stops m going stop =
    sym (ap (λ (b : Bool). (b || is_stop stops m.core) || list_any (is_changed m) stops.seen) going
    ∙ ap (λ (b : Bool). b || list_any (is_changed m) stops.seen) stop)

pub halts_changed : (stops : Stops) (m : Flat) (told : Bool) → is_some m.ending ≡ false → is_stop stops m.core ≡ false → told ≡ list_any (is_changed m) stops.seen → told ≡ halts stops m
halts_changed stops m told going none is =
    is
    ∙ sym (ap (λ (b : Bool). (b || is_stop stops m.core) || list_any (is_changed m) stops.seen) going
    ∙ ap (λ (b : Bool). b || list_any (is_changed m) stops.seen) none)
