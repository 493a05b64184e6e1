-- What attempts write is written, or held back.
use Rattle.std.proofs.Common.{ℕ, suc, ◌≡◌, ◌+◌, ◌^◌, ◌<◌, Bool, true, false, List, refl, ap, sym, ◌∙◌, subst, inl, inr, Option, Some, None, Result, Ok, Err}
use Rattle.std.specs.Prelude.{is_some}
use Rattle.vax_outside.specs.Blocks.{BlockFile}
use Rattle.vax_outside.specs.declared.faults.Failures.{Failures}
use Rattle.vax_outside.specs.Channels.{Channels, GrewByPrefix, append}
use Rattle.vax_outside.specs.Faults.{Rose}
use Rattle.vax_pager.specs.Calls.{IsPaging}
use Rattle.vax_pager.specs.Meaning.{pages}
use Rattle.vax_space.specs.declared.Area.{Area}
use Rattle.vax_space.specs.Faults.{IsSpace}
use Rattle.vax_machine.proofs.Moving.{moved_again, moved_first}
use Rattle.vax_machine.proofs.Outputs.{part_more, pass_nothing, sends_more}
use Rattle.vax_machine.proofs.Serving.{gone_served, serve_done, serve_failed}
use Rattle.vax_machine.specs.Batch.{HasTriedSeveral}
use Rattle.vax_machine.specs.Blocks.{Moved}
use Rattle.vax_machine.specs.Machine.{IsSound, Keeping, KeepsPlace, Serves, ServesAs, keeping}
use Rattle.vax_machine.specs.Paged.{Paged}
use Rattle.vax_machine.specs.Residence.{victim}
use Rattle.vax_machine.specs.Touched.{PinsTouched}
use Rattle.vax_machine.specs.Turn.{AttemptsCut, AttemptsDone, AttemptsFollow, AttemptsLost, Finishes, Follows, HasGone, HasServed, IsServed, IsUnserved, ServesAndLists, attempted_times}
use Rattle.vax_machine.specs.Writing.{Counts, Origin, Passed, Passes, Puts, held_in, listed_by}
use Rattle.vax_machine.specs.declared.engine.Engine.{Engine}
use Rattle.vax_machine.specs.declared.event.Applied.{Applied}
use Rattle.vax_machine.specs.declared.event.Applied.TheVariants.{Absent, Failed, Served}
use Rattle.vax_machine.specs.declared.event.Fault.{Fault}
use Rattle.vax_machine.specs.declared.event.Fault.TheVariants.{Page, Write}
use Rattle.vax_machine.specs.declared.event.RunEnd.{RunEnd}
use Rattle.vax_machine.specs.declared.event.RunEnd.TheVariants.{WriteFault}
use Rattle.vax_machine.specs.declared.held.Held.{Held}

module _ (o : Origin) (p : Paged) (old new : Engine) (before after : Option BlockFile) (was : Option Channels) (left : Held) (most : ℕ) (f : Follows o p old before was left) where
  abbrev IsServedHere : (Bool → Channels) → Type 0
  IsServedHere more = IsServed most (pages old.pager).areas p more before new after

  moved_on : (q : Paged) → Moved (pages old.pager).areas p q before after → Moved o.areas o.at q o.file after
  moved_on q m = moved_again o.areas o.at p q o.file before after f.moved (subst (λ (z : List Area). Moved z p q before after) f.areas m)

  follow : (more : Bool → Channels) (now : Option Channels) (next : Held) → IsServedHere more → Passes (held_in left) (more o.listed) (held_in next) was now → next.listed ≡ left.listed → AttemptsFollow most o p new after now next
  follow more now next h pass same = record {
    count = h.count;
    few = h.few;
    whole = h.whole;
    follows = record {
      tracks = h.tracks;
      sends = sends_more o p (attempted_times (suc h.count) p) was (held_in left) f.sends (more o.listed) (held_in next) now (h.writes o.listed) pass;
      listed = same ∙ f.listed;
      areas = h.alike ∙ f.areas;
      moved = moved_on (attempted_times (suc h.count) p) h.moved;
    };
  }

  lost : (more : Bool → Channels) (now : Option Channels) → IsServedHere more → GrewByPrefix was now (append (held_in left) (more o.listed)) → AttemptsLost most o p after now
  lost more now h part = record {
    count = h.count;
    few = h.few;
    whole = h.whole;
    part = record {
      wrote = part_more o p (attempted_times (suc h.count) p) was (held_in left) f.sends (more o.listed) now (h.writes o.listed) part;
      moved = moved_first o.areas o.at (attempted_times (suc h.count) p) o.file after (moved_on (attempted_times (suc h.count) p) h.moved);
    };
  }

  -- what they write is passed on
  pub passed_on : (more : Bool → Channels) (now : Option Channels) (next : Held) (r : Result (Unit {0}) Fault) → IsServedHere more → Passed r (held_in left) (more o.listed) (held_in next) was now → next.listed ≡ left.listed → AttemptsDone r most o p new after now next
  passed_on more now next (Ok x) h pass same = follow more now next h pass same
  passed_on more now next (Err Page) h pass same = absurd pass
  passed_on more now next (Err Write) h pass same = lost more now h pass

-- the page that the last attempt missed is served, and the one that made room is listed
module _ (o : Origin) (p : Paged) (old mid new : Engine) (file after : Option BlockFile) (was : Option Channels) (left : Held) (most page : ℕ) (f : Follows o p old file was left) (going : old.ended ≡ None) (low : old.steps + most < 2 ^ 64) (short : old.turns + most < 2 ^ 64) (h : HasTriedSeveral most old (Absent page) mid) (paging : IsPaging (pages old.pager)) (space : IsSpace (pages old.pager).areas) (sound : IsSound mid) (pins : PinsTouched p.residence p.place) (facts : IsPaging (pages mid.pager)) where
  listed_on : (r : Result (Unit {0}) Fault) (now : Option Channels) (next : Held) → next.listed ≡ left.listed → HasServed r mid file left was new after next now → AttemptsDone r most o p new after now next
  listed_on r now next same s =
      let k = serve_done old mid p page file f.tracks going most low short h paging space sound pins facts new after s.page s.serves s.keeps s.moves in
      let e : listed_by left.listed (mid.turns + 1) s.page ≡ listed_by o.listed (mid.turns + 1) s.page = ap (λ (b : Bool). listed_by b (mid.turns + 1) s.page) f.listed in
      passed_on o p old new file after was left most f (λ listed. listed_by listed (mid.turns + 1) s.page) now next r k
      (subst (λ (c : Channels). Passed r (held_in left) c (held_in next) was now) e s.passes) same

  pub served_on : (r : Result (Unit {0}) Fault) (now : Option Channels) (next : Held) → next.listed ≡ left.listed → ServesAndLists r mid file left was new after next now → AttemptsDone r most o p new after now next
  served_on (Ok x) now next same s = listed_on (Ok x) now next same s
  served_on (Err Write) now next same s = listed_on (Err Write) now next same s
  served_on (Err Page) now next same s =
      let k = serve_failed old mid p page file f.tracks going most low short h paging space sound pins facts new after s.0 s.1 s.4 in
      let there = subst (λ (z : List Area). IsUnserved most z p file new after) f.areas k in
      let here : AttemptsCut most o p new after was left = record { before = file; unserved = there; moved = f.moved; sends = f.sends } in
      subst (λ (c : Option Channels). AttemptsCut most o p new after c next) (sym s.3) (subst (λ (c : Held). AttemptsCut most o p new after was c) (sym s.2) here)

-- how far it goes
pub gone_on : (r : Result (Unit {0}) Fault) (old mid new : Engine) (most : ℕ) (file after : Option BlockFile) (left next : Held) (was now : Option Channels) → HasGone most old mid → ServesAndLists r mid file left was new after next now → HasGone most old new
gone_on (Ok x) old mid new most file after left next was now g s = gone_served old mid new most (Served s.page) g s.serves
gone_on (Err Page) old mid new most file after left next was now g s = gone_served old mid new most Failed g s.0
gone_on (Err Write) old mid new most file after left next was now g s = gone_served old mid new most (Served s.page) g s.serves

-- a service that makes room for nothing lists nothing

pub none_listed : (listed : Bool) (turn : ℕ) (left : Channels) (now : Option Channels) → Passes left (listed_by listed turn None) left now now
none_listed true turn left now = pass_nothing left now
none_listed false turn left now = pass_nothing left now

-- the page that made room is listed, or the write failed

has_served : (r : Result (Unit {0}) Fault) (old new : Engine) (before after : Option BlockFile) (left next : Held) (was now : Option Channels) (v : Option ℕ) (turn : ℕ) → turn ≡ old.turns → Serves old.wanted (keeping old) (Served v) (keeping new) × KeepsPlace old before new after → ServesAs old.wanted (Served v) (pages old.pager) before (pages new.pager) after → Passed r (held_in left) (listed_by left.listed (turn + 1) v) (held_in next) was now → HasServed r old before left was new after next now
has_served r old new before after left next was now v turn e x moves pass = record {
  page = v;
  serves = x.0;
  keeps = x.1;
  moves = moves;
  passes = subst (λ (n : ℕ). Passed r (held_in left) (listed_by left.listed (n + 1) v) (held_in next) was now) e pass;
}

pub served_by : (r : Result (Unit {0}) Fault) (old new : Engine) (before after : Option BlockFile) (left next : Held) (was now : Option Channels) (v : Option ℕ) (turn : ℕ) → turn ≡ old.turns → Serves old.wanted (keeping old) (Served v) (keeping new) × KeepsPlace old before new after → ServesAs old.wanted (Served v) (pages old.pager) before (pages new.pager) after → Passed r (held_in left) (listed_by left.listed (turn + 1) v) (held_in next) was now → ServesAndLists r old before left was new after next now
served_by (Ok x) old new before after left next was now v turn e s moves pass = has_served (Ok x) old new before after left next was now v turn e s moves pass
served_by (Err Page) old new before after left next was now v turn e s moves pass = absurd pass
served_by (Err Write) old new before after left next was now v turn e s moves pass = has_served (Err Write) old new before after left next was now v turn e s moves pass

-- a service of a page that is wanted fails, or brings it in
pub never_else : (w : Option ℕ) (old new : Keeping) (result : Applied) → is_some w ≡ true → Serves w old result new → (result ≡ Failed → ⊥) → ((v : Option ℕ) → result ≡ Served v → ⊥) → ⊥
never_else None old new result some x fine none = let bad : false ≡ true = some in cc
never_else (Some page) old new result some (inl x) fine none = fine x.0
never_else (Some page) old new result some (inr x) fine none = none (victim old.residence) x.0

-- a service is no attempt
pub turns_stay : (old new : Keeping) (w : Option ℕ) (result : Applied) → Serves w old result new → new.turns ≡ old.turns
turns_stay old new None result x = ap (λ (k : Keeping). k.turns) x.1
turns_stay old new (Some page) result (inl x) = ap (λ (k : Keeping). k.turns) x.1
turns_stay old new (Some page) result (inr x) = ap (λ (k : Keeping). k.turns) x.1

-- and makes no step
pub steps_stay : (old new : Keeping) (w : Option ℕ) (result : Applied) → Serves w old result new → new.steps ≡ old.steps
steps_stay old new None result x = ap (λ (k : Keeping). k.steps) x.1
steps_stay old new (Some page) result (inl x) = ap (λ (k : Keeping). k.steps) x.1
steps_stay old new (Some page) result (inr x) = ap (λ (k : Keeping). k.steps) x.1

-- what is held back wasn't written
pub finish_lost : (end : RunEnd) (e : Fault) (left : Channels) (old new : Option Channels) (n a b : Failures) → Puts (Err e) left old new → Counts (Err e) n n a b → Finishes end WriteFault left old new (Rose a b)
finish_lost end Page left old new n a b p k = absurd p
finish_lost end Write left old new n a b p k = inr (refl, p, k.sink.cause)
