-- A machine stands between two steps where a run stopped by an ending or the limit of steps.
use Rattle.std.proofs.Common.{ℕ, ◌≡◌, ◌+◌, ◌^◌, ◌<◌, ◌≤◌, [], ap, sym, ◌∙◌, arith, inl, inr, Option, Some, None, Result, Ok, Err}
use Rattle.vax_outside.specs.Blocks.{BlockFile}
use Rattle.vax_outside.specs.Channels.{Channels}
use Rattle.vax_flat.specs.declared.Ending.{Ending}
use Rattle.vax_cpu.specs.Attempt.{IsOpenAfter}
use Rattle.vax_cpu.specs.declared.cpu.Attempt.{Attempt}
use Rattle.vax_cpu.specs.declared.cpu.Attempt.TheVariants as attempt
use Rattle.vax_cpu.specs.declared.cpu.Open.{Open}
use Rattle.vax_pager.specs.Meaning.{pages}
use Rattle.vax_pager.specs.Paging.{Paging}
use Rattle.vax_pager.specs.Steps.{settled}
use Rattle.vax_machine.proofs.Tracking.{several_are}
use Rattle.vax_machine.specs.Batch.{HasTriedSeveral}
use Rattle.vax_machine.specs.Conclusion.{Concludes}
use Rattle.vax_machine.specs.Console.{IsBetween, MayGoOn}
use Rattle.vax_machine.specs.Machine.{Keeping, Serves, keeping}
use Rattle.vax_machine.specs.Turn.{ServesAndLists}
use Rattle.vax_machine.specs.declared.engine.Engine.{Engine}
use Rattle.vax_machine.specs.declared.event.Applied.{Applied}
use Rattle.vax_machine.specs.declared.event.Applied.TheVariants.{Absent, Failed, Served}
use Rattle.vax_machine.specs.declared.event.Fault.{Fault}
use Rattle.vax_machine.specs.declared.event.Fault.TheVariants.{Page, Write}
use Rattle.vax_machine.specs.declared.held.Held.{Held}

settled_pins : (s u : Paging) → u ≡ settled s → u.pinned ≡ []
unfolding settled
settled_pins s u e = ap (λ (z : Paging). z.pinned) e

-- behind an attempt: one that completes a part alone, or misses a page, counts no step
pub concluded : (limit : ℕ) (last : Attempt) (mid new : Engine) (result : Applied) (before : Option Open) → Concludes last mid result new → IsOpenAfter last before mid.cpu.latch → mid.ended ≡ None → mid.steps < limit → MayGoOn limit new
concluded limit (attempt.Step sent) mid new result before c latch going low = inl (record { closed = ap (λ z. z.latch) c.cpu ∙ latch; unpinned = settled_pins (pages mid.pager) (pages new.pager) c.pages })
concluded limit attempt.Part mid new result before c latch going low = let s = c.steps in inr (c.ended ∙ going, omega (arith, s, low))
concluded limit (attempt.Absent page) mid new result before c latch going low = let s = c.steps in inr (c.ended ∙ going, omega (arith, s, low))
concluded limit (attempt.Ended e) mid new result before c latch going low = inl (record { closed = ap (λ z. z.latch) c.cpu ∙ latch; unpinned = settled_pins (pages mid.pager) (pages new.pager) c.pages })

-- a service counts none, and ends nothing
served_alike : (old new : Engine) (w : Option ℕ) (result : Applied) → Serves w (keeping old) result (keeping new) → (new.ended ≡ old.ended) × (new.steps ≡ old.steps)
served_alike old new None result x = (ap (λ (k : Keeping). k.ended) x.1, ap (λ (k : Keeping). k.steps) x.1)
served_alike old new (Some page) result (inl x) = (ap (λ (k : Keeping). k.ended) x.1, ap (λ (k : Keeping). k.steps) x.1)
served_alike old new (Some page) result (inr x) = (ap (λ (k : Keeping). k.ended) x.1, ap (λ (k : Keeping). k.steps) x.1)

missed : (old mid : Engine) (most page : ℕ) → old.ended ≡ None → old.steps + most < 2 ^ 64 → old.turns + most < 2 ^ 64 → HasTriedSeveral most old (Absent page) mid → (mid.ended ≡ None) × (mid.steps < old.steps + most)
missed old mid most page going low short h =
    let few = h.few in
    let k = several_are h.count (keeping old) (omega (arith, few, low)) (omega (arith, few, short)) in
    let s = ap (λ (z : Keeping). z.steps) h.keeps ∙ k.steps in
    (ap (λ (z : Keeping). z.ended) h.keeps ∙ (k.ended ∙ going), omega (arith, s, few))

served_on : (old mid new : Engine) (most page : ℕ) (result : Applied) → old.ended ≡ None → old.steps + most < 2 ^ 64 → old.turns + most < 2 ^ 64 → HasTriedSeveral most old (Absent page) mid → Serves mid.wanted (keeping mid) result (keeping new) → MayGoOn (old.steps + most) new
served_on old mid new most page result going low short h x =
    let m = missed old mid most page going low short h in
    let a = served_alike mid new mid.wanted result x in
    let s = a.1 in
    let f = m.1 in
    inr (a.0 ∙ m.0, omega (arith, s, f))

pub served_and_listed : (r : Result (Unit {0}) Fault) (old mid new : Engine) (most page : ℕ) (file after : Option BlockFile) (left next : Held) (was now : Option Channels) → old.ended ≡ None → old.steps + most < 2 ^ 64 → old.turns + most < 2 ^ 64 → HasTriedSeveral most old (Absent page) mid → ServesAndLists r mid file left was new after next now → MayGoOn (old.steps + most) new
served_and_listed (Ok x) old mid new most page file after left next was now going low short h s = served_on old mid new most page (Served s.page) going low short h s.serves
served_and_listed (Err Page) old mid new most page file after left next was now going low short h s = served_on old mid new most page Failed going low short h s.0
served_and_listed (Err Write) old mid new most page file after left next was now going low short h s = served_on old mid new most page (Served s.page) going low short h s.serves

pub wider : (a b : ℕ) (m : Engine) → a ≤ b → MayGoOn a m → MayGoOn b m
wider a b m le (inl h) = inl h
wider a b m le (inr h) = let s = h.1 in inr (h.0, omega (arith, s, le))

-- where a run stops

pub at_ending : (limit : ℕ) (m : Engine) (e : Ending) → m.ended ≡ Some e → MayGoOn limit m → IsBetween m
at_ending limit m e is (inl h) = h
at_ending limit m e is (inr h) = let bad : None ≡ Some e = sym h.0 ∙ is in cc

pub at_steps : (limit : ℕ) (m : Engine) → limit ≤ m.steps → MayGoOn limit m → IsBetween m
at_steps limit m le (inl h) = h
at_steps limit m le (inr h) = let s = h.1 in absurd (omega (arith, s, le))
