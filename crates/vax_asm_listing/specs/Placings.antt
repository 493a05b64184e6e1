-- What a listing's code keeps.
use Rattle.std.specs.Prelude.{List, map}
use Rattle.vax_asm_listing.specs.Listing as specs
use Rattle.vax_asm_listing.specs.declared.lines.Placing.{Placing}
use Rattle.vax_asm_listing.specs.declared.types.Part.{Part}

abbrev pub placing_of : Placing → specs.Placing
placing_of p = record { areas = p.areas.now; places = p.places.now }

abbrev pub part_of : Part → specs.Part
part_of p = record {
  source = p.source.now;
  sections = p.module.now.sections;
  rows = p.notes.now.rows.items;
  labels = p.notes.now.labels.items;
}

abbrev pub parts_of : List Part → List specs.Part
parts_of parts = map part_of parts
