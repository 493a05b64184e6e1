-- Evictions are listed.
use Rattle.std.proofs.Common.{ℕ, ◌≡◌, ◌+◌, arith, Bool, true, false, List, [], ◌∷◌, append-nil, refl, ap, sym, ◌∙◌, subst, inl, inr, Option, Some, Result, Ok, Err}
use Rattle.std.proofs.lemmas.Bool.{cases_Bool}
use Rattle.vax_space.specs.declared.Area.{Area}
use Rattle.vax_space.specs.Areas.{block_of}
use Rattle.vax_space.specs.Faults.{IsSpace}
use Rattle.vax_outside.specs.Blocks.{BlockFile}
use Rattle.vax_outside.specs.Channels.{Channels, append, only}
use Rattle.vax_outside.specs.declared.traits.Chan.TheVariants.{Record}
use Rattle.vax_flat.specs.Parts.{Place, machine_at}
use Rattle.vax_pager.specs.Calls.{IsPaging, wrote_back}
use Rattle.vax_pager.specs.Listing.{is_listed}
use Rattle.vax_pager.specs.Meaning.{pages}
use Rattle.vax_pager.specs.Paging.{Paging}
use Rattle.vax_machine.proofs.Moving.{evict_blocks, evict_cleans, frame_is, moved_again, moved_by, moved_first, writes_one, wrote_goes}
use Rattle.vax_machine.proofs.Outputs.{Grows, grows_again, grows_same, lines_one, output_by, part_more, sends_more}
use Rattle.vax_machine.proofs.Tracking.{evict_done, evict_gone, evict_none, evicted_away, evicted_one, evicted_there}
use Rattle.vax_machine.specs.Blocks.{Moved, write_to}
use Rattle.vax_machine.specs.Machine.{Evicts, EvictsFrom, Keeping, KeepsPlace, keeping, modified_of}
use Rattle.vax_machine.specs.Paged.{Paged, all_evicted, blocked_if, cleaned, evicted, eviction_of, page_bytes, some_if}
use Rattle.vax_machine.specs.Residence.{Residence}
use Rattle.vax_machine.specs.Run.{Tracks}
use Rattle.vax_machine.specs.Turn.{EvictedAll, Follows, LostPart}
use Rattle.vax_machine.specs.Writing.{Origin, Passed, held_in, listed_by, output_of}
use Rattle.vax_machine.specs.declared.engine.Engine.{Engine}
use Rattle.vax_machine.specs.declared.event.Applied.{Applied}
use Rattle.vax_machine.specs.declared.event.Applied.TheVariants.{Absent, Ended, Evicted, Failed, Flushed, Nothing, Parted, Served, Stepped}
use Rattle.vax_machine.specs.declared.event.Fault.{Fault}
use Rattle.vax_machine.specs.declared.event.Fault.TheVariants.{Page, Write}
use Rattle.vax_machine.specs.declared.held.Held.{Held}

-- what an eviction writes

same_output : (listed : Bool) (p q : Paged) → q ≡ p → output_of listed q ≡ output_of listed p
same_output listed p q e = ap (output_of listed) e

output_evicted : (listed : Bool) (page : ℕ) (p : Paged) → is_listed page p.residence.order ≡ true → output_of listed (evicted page p) ≡ append (output_of listed p) (listed_by listed (p.turns + 1) (Some page))
output_evicted listed page p h =
    let x = evicted_there page p h in
    output_by listed p (evicted page p) [] (eviction_of (p.turns + 1) page p ∷ []) (ap (λ (z : Place). (machine_at z).output) x.place ∙ sym (append-nil (machine_at p.place).output)) x.evictions
    ∙ ap (λ (zs : List ℕ). append (output_of listed p) (only Record zs)) (lines_one listed (p.turns + 1) (Some page) p)

grows_one : (listed : Bool) (page : ℕ) (p : Paged) → Grows listed p (evicted page p)
grows_one listed page p = elim (cases_Bool (is_listed page p.residence.order)) [
  | inl t ↦
      let x = evicted_there page p t in
      let n = x.reads in
      record { more = listed_by listed (p.turns + 1) (Some page); is = output_evicted listed page p t; made = eviction_of (p.turns + 1) page p ∷ []; evictions = x.evictions; later = omega (arith, n) }
  | inr f ↦ subst (λ (z : Paged). Grows listed p z) (sym (evicted_away page p f)) (grows_same listed p)
]

pub grows_evicted : (listed : Bool) (pages : List ℕ) (p : Paged) → Grows listed p (all_evicted pages p)
unfolding all_evicted
grows_evicted listed [] p = grows_same listed p
grows_evicted listed (page ∷ pages) p = grows_again listed p (evicted page p) (all_evicted pages (evicted page p)) (grows_one listed page p) (grows_evicted listed pages (evicted page p))

-- one eviction

module _ (o : Origin) (p : Paged) (old new : Engine) (before after : Option BlockFile) (was : Option Channels) (left : Held) (page : ℕ) (f : Follows o p old before was left) where
  abbrev Does : Applied → Type 0
  Does result = Evicts page (is_listed page (pages old.pager).order) (keeping old) result (keeping new) × KeepsPlace old before new after

  abbrev Leaves : Applied → Type 0
  Leaves result = EvictsFrom page result (pages old.pager) before (pages new.pager) after

  there_too : (b : Bool) → is_listed page (pages old.pager).order ≡ b → is_listed page p.residence.order ≡ b
  there_too b e = ap (λ (r : Residence). is_listed page r.order) (sym f.tracks.residence) ∙ e

  -- nothing was done
  untouched : (result : Applied) → Does result → (result ≡ Evicted → ⊥) → (pages new.pager ≡ pages old.pager) × (after ≡ before) → Follows o p new after was left
  untouched result h none x = record {
    tracks = evict_none old new before after p page result h none (let listed : Paging → ℕ → Bool = λ z other. is_listed other z.modified in ap listed x.0) (ap (λ (z : Paging). z.blocked) x.0) f.tracks;
    sends = f.sends;
    listed = f.listed;
    areas = ap (λ (z : Paging). z.areas) x.0 ∙ f.areas;
    moved = subst (λ (z : Option BlockFile). Moved o.areas o.at p o.file z) (sym x.1) f.moved;
  }

  failed_step : (b : Bool) → Evicts page b (keeping old) Failed (keeping new) → b ≡ true
  failed_step true x = refl
  failed_step false x = let bad : Failed ≡ Nothing = x.0 in cc

  pub evict_cut : Does Failed → Leaves Failed → EvictedAll (Err Page) o (page ∷ []) p new after was left
  unfolding all_evicted
  evict_cut h x = record {
    front = [];
    rest = page ∷ [];
    splits = refl;
    next = record {
      page = page;
      others = [];
      is = refl;
      resident = there_too true (failed_step (is_listed page (pages old.pager).order) h.0);
      modified = ap (λ (z : ℕ → Bool). z page) (sym f.tracks.modified) ∙ x.2;
    };
    follows = untouched Failed h (λ e. cc) (x.0, x.1);
  }

  away_step : (b : Bool) → Evicts page b (keeping old) Nothing (keeping new) → b ≡ false
  away_step true (inl x) = let bad : Nothing ≡ Failed = x.0 in cc
  away_step true (inr x) = let bad : Nothing ≡ Evicted = x.0 in cc
  away_step false x = refl

  nothing_done : Does Nothing → Leaves Nothing → Follows o (all_evicted (page ∷ []) p) new after was left
  nothing_done h x =
      let away = there_too false (away_step (is_listed page (pages old.pager).order) h.0) in
      subst (λ (z : Paged). Follows o z new after was left) (sym (evicted_one page p ∙ evicted_away page p away)) (untouched Nothing h (λ e. cc) x)

  pub evict_away : (result : Applied) → Does result → Leaves result → (result ≡ Failed → ⊥) → (result ≡ Evicted → ⊥) → Follows o (all_evicted (page ∷ []) p) new after was left
  evict_away (Stepped sent) h x fine none = absurd x
  evict_away Parted h x fine none = absurd x
  evict_away (Absent other) h x fine none = absurd x
  evict_away (Ended e) h x fine none = absurd x
  evict_away (Served v) h x fine none = absurd x
  evict_away Evicted h x fine none = absurd (none refl)
  evict_away Flushed h x fine none = absurd x
  evict_away Nothing h x fine none = nothing_done h x
  evict_away Failed h x fine none = absurd (fine refl)

  here_step : (b : Bool) → Evicts page b (keeping old) Evicted (keeping new) → b ≡ true
  here_step true x = refl
  here_step false x = let bad : Evicted ≡ Nothing = x.0 in cc

  module _ (h : Does Evicted) (x : Leaves Evicted) (paging : IsPaging (pages old.pager)) (space : IsSpace (pages old.pager).areas) where
    resident : is_listed page (pages old.pager).order ≡ true
    resident = here_step (is_listed page (pages old.pager).order) h.0

    here : is_listed page p.residence.order ≡ true
    here = there_too true resident

    cleans : modified_of new ≡ cleaned page (modified_of old)
    cleans = let listed : Paging → ℕ → Bool = λ z other. is_listed other z.modified in ap listed x.0 ∙ evict_cleans page (pages old.pager) resident

    blocks : (pages new.pager).blocked ≡ blocked_if (modified_of old page) page (pages old.pager).blocked
    blocks = ap (λ (z : Paging). z.blocked) x.0 ∙ evict_blocks page (pages old.pager) resident

    tracked : Tracks new after (evicted page p)
    tracked = evict_done old new before after p page h cleans blocks f.tracks

    -- its bytes are written where it is modified
    written : Moved o.areas p (evicted page p) before after
    written =
        let s = pages old.pager in
        let e = evicted_there page p here in
        let n = e.reads in
        let memory = (machine_at p.place).memory in
        let goes = wrote_goes page s before (page_bytes memory page) (frame_is s before memory page paging space resident f.tracks.means.memory) in
        let same : write_to (block_of s.areas page) (some_if (modified_of old page) (page_bytes memory page)) ≡ write_to (block_of o.areas page) (some_if (p.modified page) (page_bytes memory page)) =
        ap (λ (z : List Area). write_to (block_of z page) (some_if (modified_of old page) (page_bytes memory page))) f.areas
        ∙ ap (λ (z : ℕ → Bool). write_to (block_of o.areas page) (some_if (z page) (page_bytes memory page))) f.tracks.modified in
        subst (λ (z : Option BlockFile). Moved o.areas p (evicted page p) before z) (sym x.1)
        (moved_by o.areas p (evicted page p) before (wrote_back page s before) (eviction_of (p.turns + 1) page p ∷ []) _ 0 e.evictions (writes_one o.areas (eviction_of (p.turns + 1) page p) ∙ sym same) (omega (arith, n)) goes)

    all_written : Moved o.areas o.at (evicted page p) o.file after
    all_written = moved_again o.areas o.at p (evicted page p) o.file before after f.moved written

    listed_as : (now : Option Channels) (next : Held) → next.listed ≡ left.listed → (r : Result (Unit {0}) Fault) → Passed r (held_in left) (listed_by o.listed (p.turns + 1) (Some page)) (held_in next) was now → EvictedAll r o (page ∷ []) p new after now next
    listed_as now next same (Ok u) pass =
        subst (λ (z : Paged). Follows o z new after now next) (sym (evicted_one page p)) (record {
          tracks = tracked;
          sends = sends_more o p (evicted page p) was (held_in left) f.sends (listed_by o.listed (p.turns + 1) (Some page)) (held_in next) now (output_evicted o.listed page p here) pass;
          listed = same ∙ f.listed;
          areas = ap (λ (k : Keeping). k.areas) (evict_gone old new page (is_listed page (pages old.pager).order) h.0).1 ∙ f.areas;
          moved = all_written;
        })
    listed_as now next same (Err Page) pass = absurd pass
    listed_as now next same (Err Write) pass =
        subst (λ (z : Paged). LostPart o z after now) (sym (evicted_one page p)) (record {
          wrote = part_more o p (evicted page p) was (held_in left) f.sends (listed_by o.listed (p.turns + 1) (Some page)) now (output_evicted o.listed page p here) pass;
          moved = moved_first o.areas o.at (evicted page p) o.file after all_written;
        })

    -- it is listed, or the write failed
    pub evict_listed : (now : Option Channels) (next : Held) (turn : ℕ) (r : Result (Unit {0}) Fault) → turn ≡ old.turns → Passed r (held_in left) (listed_by left.listed (turn + 1) (Some page)) (held_in next) was now → next.listed ≡ left.listed → EvictedAll r o (page ∷ []) p new after now next
    evict_listed now next turn r t pass same =
        let e : listed_by left.listed (turn + 1) (Some page) ≡ listed_by o.listed (p.turns + 1) (Some page) =
        ap (λ (b : Bool). listed_by b (turn + 1) (Some page)) f.listed ∙ ap (λ (n : ℕ). listed_by o.listed (n + 1) (Some page)) (t ∙ f.tracks.turns) in
        let k : Passed r (held_in left) (listed_by o.listed (p.turns + 1) (Some page)) (held_in next) was now =
        subst (λ (c : Channels). Passed r (held_in left) c (held_in next) was now) e pass in
        listed_as now next same r k
