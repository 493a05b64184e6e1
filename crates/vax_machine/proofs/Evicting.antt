-- Several pages are made absent.
use Rattle.std.proofs.Common.{ℕ, ◌≡◌, ◌+◌, ◌<◌, ◌≤◌, List, [], ◌∷◌, ◌++◌, length, append_assoc, take, drop, get_or, ap, sym, ◌∙◌, subst, arith, Option, Some, Result, Ok, Err}
use Rattle.std.specs.List.{flat_map, slice_get}
use Rattle.std.proofs.lemmas.List.{length-append, take_all}
use Rattle.std.proofs.lemmas.Option.{get_or_from_slice_get, slice_get-get_or, slice_get_within}
use Rattle.vax_outside.specs.Blocks.{BlockFile}
use Rattle.vax_outside.specs.Channels.{Channels}
use Rattle.vax_outside.proofs.Growth.{flat_map-more, flat_map-split}
use Rattle.vax_machine.proofs.Listing.{grows_evicted}
use Rattle.vax_machine.proofs.Outputs.{IsErrLike, lost_on}
use Rattle.vax_machine.proofs.Tracking.{evicted_append, evicted_none}
use Rattle.vax_machine.specs.Paged.{Paged, all_evicted}
use Rattle.vax_machine.specs.Calling.{WritesFirst}
use Rattle.vax_machine.specs.Turn.{EvictedAll, Follows, IsBegun, LostPart}
use Rattle.vax_machine.specs.Writing.{Origin}
use Rattle.vax_machine.specs.declared.engine.Engine.{Engine}
use Rattle.vax_machine.specs.declared.event.Fault.{Fault}
use Rattle.vax_machine.specs.declared.event.Fault.TheVariants.{Page, Write}
use Rattle.vax_machine.specs.declared.held.Held.{Held}

module _ (o : Origin) (p : Paged) (m : Engine) (file : Option BlockFile) (now : Option Channels) (left : Held) where
  pub none_yet : Follows o p m file now left → Follows o (all_evicted [] p) m file now left
  none_yet f = subst (λ (z : Paged). Follows o z m file now left) (sym (evicted_none p)) f

-- some of the pages were made absent, and then a call failed

begun_in : (o : Origin) (p : Paged) (m : Engine) (file : Option BlockFile) (now : Option Channels) (left : Held) (done next rest all : List ℕ) → all ≡ done ++ (next ++ rest) → IsBegun o next (all_evicted done p) m file now left → IsBegun o all p m file now left
begun_in o p m file now left done next rest all e b = record {
  front = done ++ b.front;
  rest = b.rest ++ rest;
  splits =
      e ∙ (ap (λ (xs : List ℕ). done ++ (xs ++ rest)) b.splits
      ∙ (ap (λ (xs : List ℕ). done ++ xs) (append_assoc b.front b.rest rest) ∙ sym (append_assoc done b.front (b.rest ++ rest))));
  next = subst (WritesFirst (b.rest ++ rest)) (sym (evicted_append done b.front p)) (record {
    page = b.next.page;
    others = b.next.others ++ rest;
    is = ap (λ (xs : List ℕ). xs ++ rest) b.next.is;
    resident = b.next.resident;
    modified = b.next.modified;
  });
  follows = subst (λ (z : Paged). Follows o z m file now left) (sym (evicted_append done b.front p)) b.follows;
}

part_in : (o : Origin) (p : Paged) (file : Option BlockFile) (now : Option Channels) (done next rest all : List ℕ) → all ≡ done ++ (next ++ rest) → LostPart o (all_evicted next (all_evicted done p)) file now → LostPart o (all_evicted all p) file now
part_in o p file now done next rest all e w =
    let there : all_evicted all p ≡ all_evicted rest (all_evicted next (all_evicted done p)) =
    ap (λ (xs : List ℕ). all_evicted xs p) e ∙ (evicted_append done (next ++ rest) p ∙ evicted_append next rest (all_evicted done p)) in
    subst (λ (z : Paged). LostPart o z file now) (sym there)
    (lost_on o (all_evicted next (all_evicted done p)) (all_evicted rest (all_evicted next (all_evicted done p))) file now (grows_evicted o.listed rest (all_evicted next (all_evicted done p))) w)

pub failed_in : (o : Origin) (p : Paged) (m : Engine) (file : Option BlockFile) (now : Option Channels) (left : Held) (done next rest all : List ℕ) (r q : Result (Unit {0}) Fault) → IsErrLike r q → all ≡ done ++ (next ++ rest) → EvictedAll q o next (all_evicted done p) m file now left → EvictedAll r o all p m file now left
failed_in o p m file now left done next rest all (Ok x) (Ok y) l e h = absurd l
failed_in o p m file now left done next rest all (Ok x) (Err b) l e h = absurd l
failed_in o p m file now left done next rest all (Err a) (Ok y) l e h = absurd l
failed_in o p m file now left done next rest all (Err Page) (Err Page) l e h = begun_in o p m file now left done next rest all e h
failed_in o p m file now left done next rest all (Err Write) (Err Write) l e h = part_in o p file now done next rest all e h
failed_in o p m file now left done next rest all (Err Page) (Err Write) l e h = cc
failed_in o p m file now left done next rest all (Err Write) (Err Page) l e h = cc

-- lists of pages one behind another

module _ {X : Type 0} (f : X → List ℕ) (xs : List X) (i : ℕ) (x : X) (there : slice_get xs i ≡ Some x) (o : Origin) (p : Paged) (m : Engine) (file : Option BlockFile) (now : Option Channels) (left : Held) where
  is_there : get_or xs i x ≡ x
  is_there = get_or_from_slice_get xs i x x there

  pub next_list : Follows o (all_evicted (f x) (all_evicted (flat_map f (take i xs)) p)) m file now left → Follows o (all_evicted (flat_map f (take (i + 1) xs)) p) m file now left
  next_list t =
      let e : flat_map f (take i xs) ++ f x ≡ flat_map f (take (i + 1) xs) =
      ap (λ (z : X). flat_map f (take i xs) ++ f z) (sym is_there) ∙ flat_map-more f xs i x (slice_get_within xs i x there) in
      subst (λ (z : Paged). Follows o z m file now left) (sym (evicted_append (flat_map f (take i xs)) (f x) p) ∙ ap (λ (zs : List ℕ). all_evicted zs p) e) t

  pub failed_list : (r q : Result (Unit {0}) Fault) → IsErrLike r q → EvictedAll q o (f x) (all_evicted (flat_map f (take i xs)) p) m file now left → EvictedAll r o (flat_map f xs) p m file now left
  failed_list r q l h =
      failed_in o p m file now left (flat_map f (take i xs)) (f x) (flat_map f (drop (i + 1) xs)) (flat_map f xs) r q l
      (sym (ap (λ (z : X). flat_map f (take i xs) ++ (f z ++ flat_map f (drop (i + 1) xs))) (sym is_there) ∙ flat_map-split f xs i x (slice_get_within xs i x there))) h

pub all_lists : {X : Type 0} (f : X → List ℕ) (xs : List X) (i : ℕ) (o : Origin) (p : Paged) (m : Engine) (file : Option BlockFile) (now : Option Channels) (left : Held) → length xs ≤ i → Follows o (all_evicted (flat_map f (take i xs)) p) m file now left → Follows o (all_evicted (flat_map f xs) p) m file now left
all_lists f xs i o p m file now left past t = subst (λ zs. Follows o (all_evicted (flat_map f zs) p) m file now left) (take_all i xs past) t

-- an element that a list has at a place
pub told : {X : Type 0} (xs : List X) (i : ℕ) (x : X) → (i < length xs) × (x ≡ get_or xs i x) → slice_get xs i ≡ Some x
told {X} xs i x h = slice_get-get_or xs i x h.0 ∙ ap (λ (z : X). Some z) (sym h.1)

pub one_more : {X : Type 0} (xs : List X) (x : X) → length xs + 1 ≡ length (xs ++ x ∷ [])
one_more xs x = omega (arith, length-append xs (x ∷ []))
