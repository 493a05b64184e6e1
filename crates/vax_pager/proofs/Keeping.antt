-- What calls of the port keep, and the bytes of a page whose frame is known.
use Rattle.std.proofs.Common.{ℕ, ◌≡◌, ◌+◌, ◌*◌, ◌%◌, ◌^◌, ◌<◌, ◌≤◌, true, List, take, drop, get_or, refl, ap, sym, ◌∙◌, arith, inl, inr, Option, Some, None}
use Rattle.std.specs.Prelude.{IfSome, Ok}
use Rattle.std.proofs.lemmas.Bool.{cases_Bool}
use Rattle.vax_space.specs.declared.Access.{Access}
use Rattle.vax_space.specs.declared.Access.TheVariants.{Read, Write}
use Rattle.vax_space.specs.declared.Area.{Area}
use Rattle.vax_space.specs.declared.Violation.{Violation}
use Rattle.vax_space.specs.Reference.{may_access, page_of, violation}
use Rattle.vax_space.proofs.References.{violation_in_page, writable_is_readable}
use Rattle.vax_flat.specs.Memory.{number}
use Rattle.vax_flat.specs.Port.{View, first_absent, loaded, stop, stop_of}
use Rattle.vax_undo.specs.Blocks.{number_in}
use Rattle.vax_undo.proofs.Accesses.{fine}
use Rattle.vax_pager.specs.declared.pager.Pager.{Pager}
use Rattle.vax_pager.specs.declared.store.Store.{Store}
use Rattle.vax_pager.specs.Listing.{is_listed}
use Rattle.vax_pager.specs.Meaning.{Since, pages}
use Rattle.vax_pager.specs.Paging.{Paging, view_of}
use Rattle.vax_pager.specs.Steps.{OnlyWritten}
use Rattle.vax_pager.specs.Store.{IsFrame, IsSound, LiesIn, held, paging}
use Rattle.vax_pager.proofs.Views.{number_there, only_itself, only_same, only_then, part_of, read_value}

-- what calls of the port keep

pub since_itself : (p : Pager) → Since p p
since_itself p = record { written = only_itself (pages p); held = refl }

pub lies_now : (p : Pager) (o : Option ℕ) (page mode : ℕ) → IfSome o (λ f. LiesIn p.store f page mode) → IfSome o (λ f. (start : Pager) × (LiesIn start.store f page mode × Since start p))
lies_now p None page mode h = tt
lies_now p (Some f) page mode h = (p, (h, since_itself p))

pub since_same : (p q r : Pager) → pages r ≡ pages q → held r.store ≡ held q.store → Since p q → Since p r
since_same p q r e frames h = record { written = only_same (pages p) (pages q) (pages r) e h.written; held = frames ∙ h.held }

pub since_then : (p q r : Pager) → OnlyWritten (pages q) (pages r) → held r.store ≡ held q.store → Since p q → Since p r
since_then p q r only frames h = record { written = only_then (pages p) (pages q) (pages r) h.written only; held = frames ∙ h.held }

pub only_since : (p q : Pager) → ((start : Pager) → Since start p → Since start q) → OnlyWritten (pages p) (pages q)
only_since p q keeps = (keeps p (since_itself p)).written

pub lies_since : (p q : Pager) (f page mode : ℕ) → LiesIn p.store f page mode → Since p q → LiesIn q.store f page mode
lies_since p q f page mode h w = record {
  held = ap (λ (g : ℕ → Option ℕ). g page) w.held ∙ h.held;
  resident = ap (is_listed page) w.written.order ∙ h.resident;
  may = ap (λ (z : List Area). may_access z page mode Read) w.written.areas ∙ h.may;
  low = h.low;
}

-- a page whose first byte may be read may be read

may_of : (areas : List Area) (addr mode : ℕ) (access : Access) (absent : Option ℕ) → stop_of (violation areas addr 1 mode access) absent ≡ None → may_access areas (page_of addr) mode access ≡ true
unfolding violation
may_of areas addr mode access absent = elim (cases_Bool (may_access areas (page_of addr) mode access)) [
  | inl t ↦ λ h. t
  | inr f ↦ rw f (λ h. absurd cc)
]

pub lies_by : (s t : Store) (addr mode f : ℕ) → addr < 2 ^ 32 → paging t ≡ paging s → IsFrame addr 1 mode Read f s t → LiesIn t f (page_of addr) mode
lies_by s t addr mode f small e h = record {
  held = h.held;
  resident = ap (λ (z : Paging). is_listed (page_of addr) z.order) e ∙ h.resident;
  may = ap (λ (z : Paging). may_access z.areas (page_of addr) mode Read) e ∙ may_of (paging s).areas addr mode Read _ h.free;
  low = omega arith;
}

pub lies_there : (s t : Store) (addr mode : ℕ) (o : Option ℕ) → addr < 2 ^ 32 → paging t ≡ paging s → IfSome o (λ f. IsFrame addr 1 mode Read f s t) → IfSome o (λ f. LiesIn t f (page_of addr) mode)
lies_there s t addr mode None small e h = tt
lies_there s t addr mode (Some f) small e h = lies_by s t addr mode f small e h

-- what may be written may be read

both_none : (v : Option Violation) (absent : Option ℕ) → stop_of v absent ≡ None → (v ≡ None) × (absent ≡ None)
both_none None None h = (refl, refl)
both_none None (Some page) h = absurd cc
both_none (Some v) absent h = absurd cc

pub readable : (view : View) (addr n mode : ℕ) (access : Access) → stop view addr n mode access ≡ None → stop view addr n mode Read ≡ None
readable view addr n mode Read h = h
readable view addr n mode Write h =
    let both = both_none (violation view.areas addr n mode Write) (first_absent view.resident addr n) h in
    rw (writable_is_readable view.areas addr n mode both.0, both.1) refl

-- the bytes of a page whose frame is known

pub code_number : (s : Store) (page place f v : ℕ) (frame bytes : List ℕ) → page < 2 ^ 23 → place ≤ 504 → held s page ≡ Some f → frame ≡ get_or s.frames.items f frame → bytes ≡ take 8 (drop place frame) → v ≡ number_in bytes → IsSound 0 s → v ≡ number (view_of (paging s)).byte (page * 512 + place) 8
code_number s page place f v frame bytes low within there here is value sound =
    let small : page * 512 + place < 2 ^ 32 = omega arith in
    let one_page : (page * 512 + place) % 512 + 8 ≤ 512 = omega arith in
    let same : page_of (page * 512 + place) ≡ page = omega arith in
    let from : place ≡ (page * 512 + place) % 512 = omega arith in
    let part = part_of s (page * 512 + place) 8 f frame small one_page (ap (held s) same ∙ there) here sound in
    number_there s (page * 512 + place) 8 v bytes (is ∙ ap (λ (k : ℕ). take 8 (drop k frame)) from ∙ part) value

pub code_loaded : (s : Store) (page place mode f v : ℕ) → place ≤ 504 → LiesIn s f page mode → v ≡ number (view_of (paging s)).byte (page * 512 + place) 8 → loaded (view_of (paging s)) (page * 512 + place) 8 mode ≡ Ok v
code_loaded s page place mode f v within h is =
    let small : page * 512 + place < 2 ^ 32 = omega (arith, h.low) in
    let one_page : (page * 512 + place) % 512 + 8 ≤ 512 = omega arith in
    let same : page_of (page * 512 + place) ≡ page = omega arith in
    let may = ap (λ (z : ℕ). may_access (paging s).areas z mode Read) same ∙ h.may in
    let allowed = sym (violation_in_page (paging s).areas (page * 512 + place) 8 mode Read small (omega arith) may) in
    let free = fine (view_of (paging s)) (page * 512 + place) 8 mode Read allowed small one_page (ap (λ (z : ℕ). is_listed z (paging s).order) same ∙ h.resident) in
    sym (read_value (view_of (paging s)) (page * 512 + place) 8 mode v free is)
