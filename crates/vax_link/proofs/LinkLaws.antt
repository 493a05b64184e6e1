-- Which image modules have, or which refusal comes first.
use Rattle.std.proofs.Common.{◌≡◌, ℕ, true, false, List, Some, None, refl, sym, ap}
use Rattle.std.specs.Prelude.{Ok, Err, option_map}
use Rattle.std.specs.List.{find}
use Rattle.vax_module.specs.declared.Module.{Module}
use Rattle.vax_space.specs.declared.Area.{Area}
use Rattle.vax_image.specs.declared.Base.{Base}
use Rattle.vax_image.specs.Image.{is_in}
use Rattle.vax_link.specs.declared.LinkError.TheVariants.{Duplicate, Undefined, Pages, NoTransfer, Reach}
use Rattle.vax_link.specs.Names.{Name, duplicate, undefined, is_at_fault, entries_from, externals}
use Rattle.vax_link.specs.Layout.{is_too_large, pieces_of}
use Rattle.vax_link.specs.Values.{filled_from, unreached_from}
use Rattle.vax_link.specs.Linked.{areas_of, linked, placed, transfer_from}

pub links_duplicate : (region : Base) (modules : List Module) (name : Name) → duplicate modules ≡ Some name → linked region modules ≡ Err (Duplicate name)
unfolding linked
links_duplicate region modules name found = rw found refl

pub links_undefined : (region : Base) (modules : List Module) (name : Name) → duplicate modules ≡ None → undefined modules ≡ Some name → linked region modules ≡ Err (Undefined name)
unfolding linked
links_undefined region modules name single found = rw (single, found) refl

pub links_pages : (region : Base) (modules : List Module) → duplicate modules ≡ None → undefined modules ≡ None → is_too_large region (pieces_of modules) ≡ true → linked region modules ≡ Err Pages
unfolding linked
links_pages region modules single known large = rw (single, known, large) refl

-- nothing is wrong with the names, and the sections have room
pub links_placed : (region : Base) (modules : List Module) → duplicate modules ≡ None → undefined modules ≡ None → is_too_large region (pieces_of modules) ≡ false → placed region modules ≡ linked region modules
unfolding linked
links_placed region modules single known room = sym (rw (single, known, room) refl)

-- the table's names are the modules'
pub undefined_is : (kept modules : List Module) → kept ≡ modules → option_map (λ e. e.name) (find (is_at_fault kept (entries_from 0 kept)) (externals kept)) ≡ undefined modules
unfolding undefined
undefined_is kept modules same = ap (λ (ms : List Module). option_map (λ e. e.name) (find (is_at_fault ms (entries_from 0 ms)) (externals ms))) same

-- ---- what the sections come to

abbrev pub areas_in : Base → List Module → List Area
areas_in region modules = areas_of region (pieces_of modules) (filled_from region modules 0 modules)

pub gives_no_transfer : (region : Base) (modules : List Module) → transfer_from region modules 0 modules ≡ None → placed region modules ≡ Err NoTransfer
unfolding placed
gives_no_transfer region modules begins = rw begins refl

pub gives_outside : (region : Base) (modules : List Module) (transfer : ℕ) → transfer_from region modules 0 modules ≡ Some transfer → is_in (areas_in region modules) transfer ≡ false → placed region modules ≡ Err NoTransfer
unfolding placed
gives_outside region modules transfer begins outside = rw (begins, outside) refl

pub gives_reach : (region : Base) (modules : List Module) (transfer address : ℕ) → transfer_from region modules 0 modules ≡ Some transfer → is_in (areas_in region modules) transfer ≡ true
    → unreached_from region modules 0 None modules ≡ Some address → placed region modules ≡ Err (Reach address)
unfolding placed
gives_reach region modules transfer address begins inside far = rw (begins, inside, far) refl

pub gives_image : (region : Base) (modules : List Module) (transfer : ℕ) → transfer_from region modules 0 modules ≡ Some transfer → is_in (areas_in region modules) transfer ≡ true
    → unreached_from region modules 0 None modules ≡ None → placed region modules ≡ Ok (record { base = region; transfer = transfer; areas = areas_in region modules })
unfolding placed
gives_image region modules transfer begins inside near = rw (begins, inside, near) refl
