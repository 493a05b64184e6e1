-- Plain memory as a port shows it.
use Rattle.std.specs.Prelude.{ℕ, Bool, true, ◌==◌, if◌then◌else◌, is_some}
use Rattle.vax_flat.specs.Memory.{byte_at}
use Rattle.vax_flat.specs.Port.{View}
use Rattle.vax_undo.specs.declared.plain.Plain.{Plain}
use Rattle.vax_undo.specs.Blocks.{memory_of, owner_of}

-- the areas, which pages are resident, and the bytes; every page counts as marked, since none is told apart
abbrev pub view_of : Plain → View
view_of plain = record {
  areas = plain.space;
  resident = λ page. is_some (owner_of plain.owners.items page);
  byte = byte_at (memory_of plain.space plain.blocks.items);
  marked = λ page. true;
}

-- one page is resident or not, and all else is as before
abbrev pub with_page : View → ℕ → Bool → View
with_page view page there = record view { resident = λ other. if other == page then there else view.resident other }
