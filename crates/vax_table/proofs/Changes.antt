-- What a changed entry says, and what a change makes of the meaning of the tables.
use Rattle.std.proofs.Common.{◌≡◌, ℕ, ◌<◌, ◌≤◌, ◌^◌, Bool, true, false, refl, ◌∙◌, ap, sym, arith, nat_eq, inl, inr, List, Option, Some, None}
use Rattle.std.specs.Prelude.{option_map, if◌then◌else◌}
use Rattle.std.proofs.Math.Path.{fun_ext}
use Rattle.std.proofs.lemmas.Bool.{cases_eq, false≢true}
use Rattle.std.proofs.lemmas.Bool.Decides.{nat_tests}
use Rattle.vax_space.specs.declared.Area.{Area}
use Rattle.vax_space.specs.Areas.{prot_of}
use Rattle.vax_space.specs.Reference.{is_past_region}
use Rattle.vax_table.specs.declared.Walk.{Walk}
use Rattle.vax_table.specs.declared.Walk.TheVariants.{Resident, Absent, Outside}
use Rattle.vax_table.specs.declared.memory.Memory.{Memory}
use Rattle.vax_table.specs.Entry.{entry_at, said_by, kept_by, entry_with, prot_in, is_valid, is_modified, frame_in}
use Rattle.vax_table.specs.Layout.{walked_in, kept_in, place_of, IsSound}
use Rattle.vax_table.specs.Mapping.{changed, mapped, inside, is_inside, is_resident, frame_of, set_in, cleared, marked, dirty, Held}
use Rattle.vax_table.proofs.Entries.{valid_keeps_none, cleared_keeps_none, kept_keeps}
use Rattle.vax_table.proofs.Filled.{said_made}
use Rattle.vax_table.proofs.Walks.{said_at, walked_at, kept_at, kept_is, said_outside, changed_here, changed_other}

pub old_says : (memory : Memory) (page place : ℕ) → IsSound memory → place_of memory.p0_end memory.p1_start page ≡ Some place → walked_in memory page ≡ said_by (entry_at memory.bytes.items place)
old_says memory page place sound found = walked_at memory page sound ∙ ap (said_at memory.bytes.items) found

abbrev state : ℕ → Walk
state entry = if is_valid entry then Resident (frame_in entry) (prot_in entry) (is_modified entry) else Absent (prot_in entry)

said_named : (entry : ℕ) → (prot_in entry ≡ 1 → ⊥) → said_by entry ≡ state entry
unfolding said_by
said_named entry ne = let t : nat_eq (prot_in entry) 1 ≡ false = grind (arith, nat_tests) in rw t refl

named : (entry : ℕ) → is_inside (said_by entry) ≡ true → prot_in entry ≡ 1 → ⊥
named entry h e = false≢true (sym (ap is_inside (said_outside entry e)) ∙ h)

prot_fits : (entry : ℕ) → prot_in entry ≤ 15
prot_fits entry = omega arith

frame_fits : (entry : ℕ) → frame_in entry < 2 ^ 21
frame_fits entry = omega arith

set_state : (valid : Bool) (prot frame old : ℕ) (modified : Bool) → set_in (if valid then Resident old prot modified else Absent prot) frame ≡ Resident frame prot false
set_state true prot frame old modified = refl
set_state false prot frame old modified = refl

cleared_state : (valid : Bool) (prot old : ℕ) (modified : Bool) → cleared (if valid then Resident old prot modified else Absent prot) ≡ Absent prot
cleared_state true prot old modified = refl
cleared_state false prot old modified = refl

marked_state : (valid : Bool) (prot old : ℕ) (modified : Bool) → is_resident (if valid then Resident old prot modified else Absent prot) ≡ true → marked (if valid then Resident old prot modified else Absent prot) ≡ Resident old prot true
marked_state true prot old modified h = refl
marked_state false prot old modified h = absurd (false≢true h)

pub said_set : (old frame : ℕ) → is_inside (said_by old) ≡ true → frame < 32768 → said_by (entry_with true (prot_in old) false frame) ≡ set_in (said_by old) frame
said_set old frame h small =
    said_made true (prot_in old) false frame (prot_fits old) (named old h) (omega arith)
    ∙ sym (set_state (is_valid old) (prot_in old) frame (frame_in old) (is_modified old))
    ∙ ap (λ w. set_in w frame) (sym (said_named old (named old h)))

pub said_cleared : (old : ℕ) → is_inside (said_by old) ≡ true → said_by (entry_with false (prot_in old) false 0) ≡ cleared (said_by old)
said_cleared old h =
    said_made false (prot_in old) false 0 (prot_fits old) (named old h) (omega arith)
    ∙ sym (cleared_state (is_valid old) (prot_in old) (frame_in old) (is_modified old))
    ∙ ap cleared (sym (said_named old (named old h)))

resident_inside : (walk : Walk) → is_resident walk ≡ true → is_inside walk ≡ true
resident_inside (Resident frame prot modified) h = refl
resident_inside (Absent prot) h = refl
resident_inside (Outside past) h = h

pub resident_is_inside : (walk : ℕ → Walk) (page : ℕ) → is_resident (walk page) ≡ true → is_inside (walk page) ≡ true
resident_is_inside walk page h = resident_inside (walk page) h

pub said_marked : (old : ℕ) → is_resident (said_by old) ≡ true → said_by (entry_with true (prot_in old) true (frame_in old)) ≡ marked (said_by old)
said_marked old h =
    let ne = named old (resident_inside (said_by old) h) in
    let is = said_named old ne in
    said_made true (prot_in old) true (frame_in old) (prot_fits old) ne (frame_fits old)
    ∙ sym (marked_state (is_valid old) (prot_in old) (frame_in old) (is_modified old) (sym (ap is_resident is) ∙ h))
    ∙ ap marked (sym is)

-- a change of what is held of one page
mapped_changed : (areas : List Area) (held : ℕ → Option Held) (page : ℕ) (x : Option Held) → changed (mapped areas held) page (inside (prot_of areas page) (is_past_region areas page) x) ≡ mapped areas (changed held page x)
unfolding mapped
mapped_changed areas held page x = fun_ext (λ q. elim (cases_eq q page) [
  | inl e ↦ changed_here _ page _ q e ∙ rw (changed_here held page x q e, e) refl
  | inr ne ↦ changed_other _ page _ q ne ∙ rw (changed_other held page x q ne) refl
])

pub change_mapped : (areas : List Area) (held : ℕ → Option Held) (old new : ℕ → Walk) (page : ℕ) (step : Walk → Walk) (x : Option Held) → new ≡ changed old page (step (old page)) → step (mapped areas held page) ≡ inside (prot_of areas page) (is_past_region areas page) x → old ≡ mapped areas held → new ≡ mapped areas (changed held page x)
change_mapped areas held old new page step x is made e =
    is ∙ ap (λ w. changed w page (step (w page))) e ∙ ap (changed (mapped areas held) page) made ∙ mapped_changed areas held page x

set_inside : (prot : Option ℕ) (past : Bool) (held : Option Held) (frame : ℕ) → set_in (inside prot past held) frame ≡ inside prot past (Some (record { frame = frame; modified = false }))
set_inside None past held frame = refl
set_inside (Some prot) past None frame = refl
set_inside (Some prot) past (Some held) frame = refl

cleared_inside : (prot : Option ℕ) (past : Bool) (held : Option Held) → cleared (inside prot past held) ≡ inside prot past None
cleared_inside None past held = refl
cleared_inside (Some prot) past None = refl
cleared_inside (Some prot) past (Some held) = refl

marked_inside : (prot : Option ℕ) (past : Bool) (held : Option Held) → marked (inside prot past held) ≡ inside prot past (option_map dirty held)
marked_inside None past held = refl
marked_inside (Some prot) past None = refl
marked_inside (Some prot) past (Some held) = refl

pub set_mapped : (areas : List Area) (held : ℕ → Option Held) (page frame : ℕ) → set_in (mapped areas held page) frame ≡ inside (prot_of areas page) (is_past_region areas page) (Some (record { frame = frame; modified = false }))
unfolding mapped
set_mapped areas held page frame = set_inside (prot_of areas page) (is_past_region areas page) (held page) frame

pub cleared_mapped : (areas : List Area) (held : ℕ → Option Held) (page : ℕ) → cleared (mapped areas held page) ≡ inside (prot_of areas page) (is_past_region areas page) None
unfolding mapped
cleared_mapped areas held page = cleared_inside (prot_of areas page) (is_past_region areas page) (held page)

pub marked_mapped : (areas : List Area) (held : ℕ → Option Held) (page : ℕ) → marked (mapped areas held page) ≡ inside (prot_of areas page) (is_past_region areas page) (option_map dirty (held page))
unfolding mapped
marked_mapped areas held page = marked_inside (prot_of areas page) (is_past_region areas page) (held page)

pub none_outside : (memory : Memory) (page : ℕ) → IsSound memory → place_of memory.p0_end memory.p1_start page ≡ None → walked_in memory page ≡ Outside true
none_outside memory page sound none = walked_at memory page sound ∙ ap (said_at memory.bytes.items) none

pub said_kept : (old : ℕ) → is_inside (said_by old) ≡ true → said_by (entry_with false (prot_in old) true (frame_in old)) ≡ cleared (said_by old)
said_kept old h =
    said_made false (prot_in old) true (frame_in old) (prot_fits old) (named old h) (frame_fits old)
    ∙ sym (cleared_state (is_valid old) (prot_in old) (frame_in old) (is_modified old))
    ∙ ap cleared (sym (said_named old (named old h)))

-- what the entries that the calls write remember
pub keeps_none : (old frame : ℕ) (modified : Bool) → frame < 2 ^ 21 → kept_by (entry_with true (prot_in old) modified frame) ≡ None
keeps_none old frame modified small = valid_keeps_none (prot_in old) modified frame (prot_fits old) small

pub keeps_no_more : (old : ℕ) → kept_by (entry_with false (prot_in old) false 0) ≡ None
keeps_no_more old = cleared_keeps_none (prot_in old) 0 (prot_fits old) (omega arith)

pub keeps_frame : (old : ℕ) → kept_by (entry_with false (prot_in old) true (frame_in old)) ≡ Some (frame_in old)
keeps_frame old = kept_keeps (prot_in old) (frame_in old) (prot_fits old) (frame_fits old)

pub frame_fits_in : (old : ℕ) → frame_in old < 2 ^ 21
frame_fits_in old = frame_fits old

frame_state : (valid : Bool) (prot old : ℕ) (modified : Bool) → is_resident (if valid then Resident old prot modified else Absent prot) ≡ true → frame_of (if valid then Resident old prot modified else Absent prot) ≡ Some old
frame_state true prot old modified h = refl
frame_state false prot old modified h = absurd (false≢true h)

pub frame_said : (old : ℕ) → is_resident (said_by old) ≡ true → frame_of (said_by old) ≡ Some (frame_in old)
frame_said old h =
    let is = said_named old (named old (resident_inside (said_by old) h)) in
    ap frame_of is ∙ frame_state (is_valid old) (prot_in old) (frame_in old) (is_modified old) (sym (ap is_resident is) ∙ h)

pub old_keeps : (memory : Memory) (page place : ℕ) → IsSound memory → place_of memory.p0_end memory.p1_start page ≡ Some place → kept_in memory page ≡ kept_by (entry_at memory.bytes.items place)
old_keeps memory page place sound found = kept_is memory page sound ∙ ap (kept_at memory.bytes.items) found

pub none_keeps : (memory : Memory) (page : ℕ) → IsSound memory → place_of memory.p0_end memory.p1_start page ≡ None → kept_in memory page ≡ None
none_keeps memory page sound none = kept_is memory page sound ∙ ap (kept_at memory.bytes.items) none
