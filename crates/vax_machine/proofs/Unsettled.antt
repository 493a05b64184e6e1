-- An attempt that misses a page drops no pins where it touches all that are pinned.
use Rattle.std.proofs.Common.{ℕ, ◌≡◌, Bool, true, false, List, ap, sym, ◌∙◌, subst, inl, inr, Option, Some, None}
use Rattle.std.specs.Prelude.{is_some}
use Rattle.vax_space.specs.declared.Area.{Area}
use Rattle.vax_space.specs.Areas.{area_of}
use Rattle.vax_space.specs.Faults.{IsSpace}
use Rattle.vax_outside.specs.Blocks.{BlockFile}
use Rattle.vax_flat.specs.declared.Ending.{Ending}
use Rattle.vax_flat.specs.Parts.{Place}
use Rattle.vax_pager.specs.Calls.{IsPaging}
use Rattle.vax_pager.specs.Listing.{is_listed}
use Rattle.vax_pager.specs.Meaning.{pages}
use Rattle.vax_machine.proofs.Serving.{uneased}
use Rattle.vax_machine.proofs.Touching.{fewer_pins, page_small}
use Rattle.vax_machine.specs.Machine.{Applies, Evicts, Flushes, HasTried, IsSound, Keeping, Means, Serves, Tries, keeping, residence}
use Rattle.vax_machine.specs.Touched.{PinsTouched}
use Rattle.vax_machine.specs.declared.engine.Engine.{Engine}
use Rattle.vax_machine.specs.declared.event.Applied.{Applied}
use Rattle.vax_machine.specs.declared.event.Applied.TheVariants.{Absent, Evicted, Served}
use Rattle.vax_machine.specs.declared.event.Event.{Event}
use Rattle.vax_machine.specs.declared.event.Event.TheVariants as event

module _ (old new : Engine) (file : Option BlockFile) (place : Place) (page : ℕ) (sound : IsSound new) (f : IsPaging (pages old.pager)) (space : IsSpace (pages old.pager).areas) (means : Means old file place) (pins : PinsTouched (residence old) place) where
  keeps_pins : HasTried old (Absent page) new → residence new ≡ residence old
  keeps_pins h =
      let areas : (pages new.pager).areas ≡ (pages old.pager).areas = ap (λ (k : Keeping). k.areas) h.keeps in
      let inside : is_some (area_of (pages old.pager).areas page) ≡ true =
      subst (λ (z : List Area). is_some (area_of z page) ≡ true) areas (sound.pages.wanted page (ap (λ (k : Keeping). k.wanted) h.keeps)).0 in
      let few = fewer_pins (residence old) place page f.pinned_once f.pinned (λ other r. page_small (pages old.pager).areas other space (f.inside other r)) (page_small (pages old.pager).areas page space inside) pins (h.goes file place means).0 in
      ap (λ (k : Keeping). k.residence) h.keeps ∙ uneased (residence old) few

  tries_keep : (how : Option Ending) (result : Applied) → result ≡ Absent page → Tries how old result new → residence new ≡ residence old
  tries_keep (Some e) result is t = ap residence t.1
  tries_keep None result is t = keeps_pins (subst (λ (z : Applied). HasTried old z new) is t)

serve_not : (want : Option ℕ) (old new : Keeping) (result : Applied) (page : ℕ) → Serves want old result new → result ≡ Absent page → new.residence ≡ old.residence
serve_not None old new result page x is = ap (λ (k : Keeping). k.residence) x.1
serve_not (Some other) old new result page (inl x) is = ap (λ (k : Keeping). k.residence) x.1
serve_not (Some other) old new result page (inr x) is = let bad : Served _ ≡ Absent page = sym x.0 ∙ is in cc

evict_not : (other : ℕ) (b : Bool) (old new : Keeping) (result : Applied) (page : ℕ) → Evicts other b old result new → result ≡ Absent page → new.residence ≡ old.residence
evict_not other false old new result page x is = ap (λ (k : Keeping). k.residence) x.1
evict_not other true old new result page (inl x) is = ap (λ (k : Keeping). k.residence) x.1
evict_not other true old new result page (inr x) is = let bad : Evicted ≡ Absent page = sym x.0 ∙ is in cc

flush_not : (b : Bool) (old new : Keeping) (result : Applied) → Flushes b old result new → new.residence ≡ old.residence
flush_not false old new result x = ap (λ (k : Keeping). k.residence) x.1
flush_not true old new result x = ap (λ (k : Keeping). k.residence) x.1

pub unsettled_by : (e : Event) (old new : Engine) (before after : Option BlockFile) (result : Applied) (place : Place) (page : ℕ) → Applies e old before result new after → IsSound new → IsPaging (pages old.pager) → IsSpace (pages old.pager).areas → Means old before place → PinsTouched (residence old) place → result ≡ Absent page → residence new ≡ residence old
unsettled_by event.Attempt old new before after result place page h sound f space means pins is = tries_keep old new before place page sound f space means pins old.ended result is h.0
unsettled_by event.Serve old new before after result place page h sound f space means pins is = serve_not old.wanted (keeping old) (keeping new) result page h.0 is
unsettled_by (event.Evict other) old new before after result place page h sound f space means pins is = evict_not other (is_listed other (pages old.pager).order) (keeping old) (keeping new) result page h.0 is
unsettled_by (event.Flush other) old new before after result place page h sound f space means pins is = flush_not (is_listed other (pages old.pager).modified) (keeping old) (keeping new) result h.0
