-- Calls that raise no exception.
use Rattle.std.specs.Prelude.{Result, Ok, Err}
use Rattle.vax_flat.specs.declared.Cut.{Cut}
use Rattle.vax_flat.specs.declared.Cut.TheVariants.{Absent, Event}

-- what cut it short, if something did, is an absent page
abbrev pub RaisedNothing : {X : Type 0} → Result X Cut → Type 0
RaisedNothing (Ok x) = Unit {0}
RaisedNothing (Err (Absent page)) = Unit {0}
RaisedNothing (Err (Event e)) = ⊥
