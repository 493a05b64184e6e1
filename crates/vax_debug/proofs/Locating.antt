-- Where the addresses of expressions lie.
use Rattle.std.proofs.Common.{◌≡◌, ℕ, List, [], ◌∷◌, Option, None, Some, Result, Ok, Err, IfOk, slice_index_or, refl, ap, ◌∙◌}
use Rattle.vax_flat.specs.Step.{Flat}
use Rattle.vax_machine.specs.Console.{memory_at, memory_from}
use Rattle.vax_console.specs.Ends.{Scene}
use Rattle.vax_pager.specs.declared.calls.PageFault.{PageFault}
use Rattle.vax_debug.specs.Calls.{TellsFrom}
use Rattle.vax_debug.specs.Sessions.{StaysHere}
use Rattle.vax_debug.specs.Places.{located, located_at, located_by, place_of}
use Rattle.vax_debug.specs.Values.{evaluated}
use Rattle.vax_debug.specs.declared.places.Place.{Place}
use Rattle.vax_debug.specs.declared.places.Place.TheVariants as place
use Rattle.vax_debug_words.specs.declared.request.Expression.{Expression}
use Rattle.vax_debug_names.specs.declared.Legend.{Legend}

-- the only byte that was shown
first_shown : (m : Flat) (address : ℕ) → memory_from m.memory address 1 ≡ memory_at m.memory address ∷ []
unfolding memory_from
first_shown m address = refl

pub told_place : (m : Flat) (address : ℕ) (cells : List (Option ℕ)) (found : Place) → cells ≡ memory_from m.memory address 1 → found ≡ place_of address (slice_index_or cells 0 None) → found ≡ located_at m address
unfolding located_at
told_place m address cells found shown is =
    is ∙ ap (λ (z : List (Option ℕ)). place_of address (slice_index_or z 0 None)) (shown ∙ first_shown m address)

-- an expression leads where its value lies
pub in_located : (legend : Legend) (e : Expression) (m : Flat) (address : ℕ) (found : Place) → Some address ≡ evaluated legend e m → found ≡ located_at m address → found ≡ located legend e m
unfolding located
in_located legend e m address found value is = is ∙ ap (located_by m) value

pub in_unknown : (legend : Legend) (e : Expression) (m : Flat) → None ≡ evaluated legend e m → place.Unknown ≡ located legend e m
unfolding located
in_unknown legend e m value = ap (located_by m) value

pub tells_located : (r : Result Place PageFault) (v w : Scene) (legend : Legend) (e : Expression) (address : ℕ) → StaysHere v w → TellsFrom v (evaluated legend e) (Some address) → IfOk r (TellsFrom w (λ (m : Flat). located_at m address)) → IfOk r (TellsFrom v (located legend e))
tells_located (Ok x) v w legend e address stays value p = λ o s replies here.
    in_located legend e s.machine address x (value o s replies here) (p o s replies (stays o s replies here))
tells_located (Err f) v w legend e address stays value p = tt
