-- What the code's types mean.
use Rattle.std.specs.Prelude.{List, map}
use Rattle.vax_prelude.specs.Preludes as specs
use Rattle.vax_prelude.specs.declared.place.Place.{Place}
use Rattle.vax_prelude.specs.declared.place.Place.TheVariants as place
use Rattle.vax_prelude.specs.declared.types.Prelude.{Prelude}
use Rattle.vax_prelude.specs.declared.types.Title.{Title}

abbrev pub prelude_seen : Prelude → specs.Prelude
prelude_seen p = record { name = p.name.now; text = p.text.items }

abbrev pub preludes_seen : List Prelude → List specs.Prelude
preludes_seen preludes = map prelude_seen preludes

abbrev pub place_seen : Place → specs.Place
place_seen (place.Prelude number name line) = specs.InPrelude number name.now line
place_seen (place.Source line) = specs.InSource line

abbrev pub title_seen : Title → specs.Title
title_seen t = record { preludes = preludes_seen t.preludes.now; name = t.name.now }
