-- What the code's types mean.
use Rattle.std.specs.Prelude.{◌≡◌}
use Rattle.vax_asm_causes.specs.Counts.{never, often_in, with_names}
use Rattle.vax_asm_causes.specs.Remarks.{Asked, first_place, has_maker, names_in, start_of}
use Rattle.vax_asm_causes.specs.declared.made.Maker.TheVariants.{Joint, Split}
use Rattle.vax_asm_causes.specs.declared.remarks.Reading.{Reading}
use Rattle.vax_asm_causes.specs.declared.remarks.Wanted.{Wanted}

abbrev pub asked_by : Wanted → Asked
asked_by wanted = record { bare = wanted.bare; unused = wanted.unused; name = wanted.name.now }

-- The counts are those of all names of the source, the place is where the wanted name stands first, of what makes names in expansions each is there or not, and the start is where the source says that its program begins.
pub record IsRead (r : Reading) : Type 0 where
  pub counted : often_in r.counts ≡ with_names (names_in r.dialect r.source.now) never
  pub placed : r.place ≡ first_place r.dialect r.wanted.name.now r.source.now
  pub joined : r.has_joints ≡ has_maker r.dialect Joint r.source.now
  pub split : r.has_splits ≡ has_maker r.dialect Split r.source.now
  pub started : r.start.now ≡ start_of r.dialect r.source.now
