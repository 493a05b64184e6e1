-- What the ends of a tree come to.
use Rattle.std.proofs.Common.{◌≡◌, refl}
use Rattle.vax_flat.specs.declared.Exception.{Exception}
use Rattle.vax_flat.specs.declared.Cut.TheVariants.{Event}
use Rattle.vax_flat.specs.Port.{View}
use Rattle.vax_flat.specs.Accesses.{Raises, Leaf}
use Rattle.vax_flat.specs.OverPort.{Stops, over_port}

pub over_port_raises : (e : Exception) (view : View) → over_port {A = Leaf} (Raises e) view ≡ Stops (Event e) view.marked
unfolding over_port
over_port_raises e view = refl
