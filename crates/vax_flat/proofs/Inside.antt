-- A tree stops over a port only for a page of an area that is absent, whatever memory the port stands for.
use Rattle.std.proofs.Common.{◌≡◌, ℕ, zero, suc, Bool, true, Option, Some, None, List, [], ◌∷◌, length, refl, ap, sym, ◌∙◌, inl, inr}
use Rattle.std.specs.Prelude.{is_some}
use Rattle.std.proofs.lemmas.Bool.{cases_Bool}
use Rattle.vax_space.specs.declared.Access.{Access}
use Rattle.vax_space.specs.declared.Access.TheVariants.{Read, Write}
use Rattle.vax_space.specs.declared.Area.{Area}
use Rattle.vax_space.specs.declared.Violation.{Violation}
use Rattle.vax_space.specs.Areas.{has_page, area_of}
use Rattle.vax_space.specs.Reference.{page_of, violation}
use Rattle.vax_flat.specs.declared.Stop.{Stop}
use Rattle.vax_flat.specs.declared.Cut.TheVariants.{Absent}
use Rattle.vax_flat.specs.Memory.{after, number, bytes_from, is_mapped}
use Rattle.vax_flat.specs.Accesses.{Accesses, Done, Raises, Checks, Asks, Reads, Writes, ReadsRun, WritesRun}
use Rattle.vax_flat.specs.Outcome.{is_allowed}
use Rattle.vax_flat.specs.Port.{View, first_absent, stop, stop_of, with_number, with_run}
use Rattle.vax_flat.specs.OverPort.{Arrival, Comes, Stops, unless_hindered, unless_forbidden, over_port}
use Rattle.vax_flat.specs.Inside.{IsMissing}
use Rattle.vax_flat.proofs.Memory.{allowed_first, mapped_where_accessible}

mapped_is : (areas : List Area) (page : ℕ) → is_mapped areas page ≡ true → is_some (area_of areas page) ≡ true
unfolding is_mapped area_of
mapped_is [] page h = cc
mapped_is (area ∷ areas) page h = elim (cases_Bool (has_page area page)) [
  | inl here ↦ rw here refl
  | inr other ↦ let rest : is_mapped areas page ≡ true = rw other at h in rw other (mapped_is areas page rest)
]

range_missing : (view : View) (addr len mode : ℕ) (access : Access) (page : ℕ) → violation view.areas addr len mode access ≡ None → first_absent view.resident addr len ≡ Some page → IsMissing view page
unfolding first_absent
range_missing view addr zero mode access page h e = cc
range_missing view addr (suc len) mode access page h e =
    let g = allowed_first view.areas addr len mode access h in
    elim (cases_Bool (view.resident (page_of addr))) [
      | inl t ↦ range_missing view (after addr) len mode access page g.1 (rw t at e)
      | inr f ↦
          let k : Some (page_of addr) ≡ Some page = rw f at e in
          let q : page_of addr ≡ page = cc in
          (ap view.resident (sym q) ∙ f, ap (λ (z : ℕ). is_some (area_of view.areas z)) (sym q) ∙ mapped_is view.areas (page_of addr) (mapped_where_accessible view.areas (page_of addr) mode access g.0))
    ]

hindered_missing : {A : Type 0} (now marked : ℕ → Bool) (view : View) (addr len mode : ℕ) (access : Access) (v : Option Violation) (m : Option ℕ) (rest : Arrival A) (page : ℕ) → violation view.areas addr len mode access ≡ v → first_absent view.resident addr len ≡ m → unless_hindered (stop_of v m) now rest ≡ Stops (Absent page) marked → (rest ≡ Stops (Absent page) marked → IsMissing view page) → IsMissing view page
hindered_missing now marked view addr len mode access (Some x) m rest page a b e more = cc
hindered_missing now marked view addr len mode access None (Some q) rest page a b e more =
    let k : q ≡ page = cc in range_missing view addr len mode access page a (b ∙ ap (λ (z : ℕ). Some z) k)
hindered_missing now marked view addr len mode access None None rest page a b e more = more e

forbidden_missing : {A : Type 0} (now marked : ℕ → Bool) (view : View) (v : Option Violation) (rest : Arrival A) (page : ℕ) → unless_forbidden v now rest ≡ Stops (Absent page) marked → (rest ≡ Stops (Absent page) marked → IsMissing view page) → IsMissing view page
forbidden_missing now marked view (Some x) rest page e more = cc
forbidden_missing now marked view None rest page e more = more e

pub stops_missing : {A : Type 0} (tree : Accesses A) (view : View) (page : ℕ) (marked : ℕ → Bool) → over_port tree view ≡ Stops (Absent page) marked → IsMissing view page
unfolding over_port
stops_missing (Done x) view page marked e = cc
stops_missing (Raises x) view page marked e = cc
stops_missing (Checks addr len mode access next) view page marked e = forbidden_missing view.marked marked view (violation view.areas addr len mode access) (over_port next view) page e (λ r. stops_missing next view page marked r)
stops_missing (Asks addr len mode access next) view page marked e = stops_missing (next (is_allowed (violation view.areas addr len mode access))) view page marked e
stops_missing (Reads addr len mode next) view page marked e = hindered_missing view.marked marked view addr len mode Read (violation view.areas addr len mode Read) (first_absent view.resident addr len) (over_port (next (number view.byte addr len)) view) page refl refl e (λ r. stops_missing (next (number view.byte addr len)) view page marked r)
stops_missing (Writes addr len value mode next) view page marked e = hindered_missing view.marked marked view addr len mode Write (violation view.areas addr len mode Write) (first_absent view.resident addr len) (over_port next (with_number view addr len value)) page refl refl e (λ r. stops_missing next (with_number view addr len value) page marked r)
stops_missing (ReadsRun addr len mode next) view page marked e = hindered_missing view.marked marked view addr len mode Read (violation view.areas addr len mode Read) (first_absent view.resident addr len) (over_port (next (bytes_from view.byte addr len)) view) page refl refl e (λ r. stops_missing (next (bytes_from view.byte addr len)) view page marked r)
stops_missing (WritesRun addr bytes mode next) view page marked e = hindered_missing view.marked marked view addr (length bytes) mode Write (violation view.areas addr (length bytes) mode Write) (first_absent view.resident addr (length bytes)) (over_port next (with_run view addr bytes)) page refl refl e (λ r. stops_missing next (with_run view addr bytes) page marked r)

-- a tree that comes to its end leaves the resident pages and the areas
abbrev Alike : View → View → Type 0
Alike after view = (after.resident ≡ view.resident) × (after.areas ≡ view.areas)

hindered_alike : {A : Type 0} (marked : ℕ → Bool) (stop : Option Stop) (rest : Arrival A) (x : A) (view after : View) → unless_hindered stop marked rest ≡ Comes x after → (rest ≡ Comes x after → Alike after view) → Alike after view
hindered_alike marked (Some s) rest x view after e more = cc
hindered_alike marked None rest x view after e more = more e

forbidden_alike : {A : Type 0} (marked : ℕ → Bool) (v : Option Violation) (rest : Arrival A) (x : A) (view after : View) → unless_forbidden v marked rest ≡ Comes x after → (rest ≡ Comes x after → Alike after view) → Alike after view
forbidden_alike marked (Some v) rest x view after e more = cc
forbidden_alike marked None rest x view after e more = more e

done_alike : {A : Type 0} (x y : A) (view after : View) → Comes x view ≡ Comes y after → Alike after view
done_alike x y view after e = let same : view ≡ after = cc in (ap (λ (v : View). v.resident) (sym same), ap (λ (v : View). v.areas) (sym same))

pub tree_alike : {A : Type 0} (tree : Accesses A) (view : View) (x : A) (after : View) → over_port tree view ≡ Comes x after → Alike after view
unfolding over_port
tree_alike (Done y) view x after e = done_alike y x view after e
tree_alike (Raises y) view x after e = cc
tree_alike (Checks addr len mode access next) view x after e = forbidden_alike view.marked (violation view.areas addr len mode access) (over_port next view) x view after e (λ r. tree_alike next view x after r)
tree_alike (Asks addr len mode access next) view x after e = tree_alike (next (is_allowed (violation view.areas addr len mode access))) view x after e
tree_alike (Reads addr len mode next) view x after e = hindered_alike view.marked (stop view addr len mode Read) (over_port (next (number view.byte addr len)) view) x view after e (λ r. tree_alike (next (number view.byte addr len)) view x after r)
tree_alike (Writes addr len value mode next) view x after e = hindered_alike view.marked (stop view addr len mode Write) (over_port next (with_number view addr len value)) x view after e (λ r. tree_alike next (with_number view addr len value) x after r)
tree_alike (ReadsRun addr len mode next) view x after e = hindered_alike view.marked (stop view addr len mode Read) (over_port (next (bytes_from view.byte addr len)) view) x view after e (λ r. tree_alike (next (bytes_from view.byte addr len)) view x after r)
tree_alike (WritesRun addr bytes mode next) view x after e = hindered_alike view.marked (stop view addr (length bytes) mode Write) (over_port next (with_run view addr bytes)) x view after e (λ r. tree_alike next (with_run view addr bytes) x after r)
