use Rattle.std.proofs.Common.{◌≡◌, ◌++◌, ◌∷◌, List, ℕ, Some, take, ap, sym, ◌∙◌}
use Rattle.std.specs.List.{slice_get}
use Rattle.vax_debug_replies.specs.Places.{distance}
use Rattle.vax_debug_replies.proofs.Naming.{found_symbol, near_is, three_pushed}
use Rattle.vax_debug_replies.proofs.places.push_near.Goals as goal

pub returns-clause-exact : goal.returns-clause-exact
returns-clause-exact c =
    let symbols = c.args.symbols.now in
    let f = c.in-Some.found in
    let symbol = c.in-Some-get.symbol.now in
    let got : slice_get symbols f.index ≡ Some symbol = found_symbol symbols f.index c.get.result c.in-Some-get.symbol c.get.ensures.lookup c.in-Some-get.is in
    let name : take 31 c.as_slice.result.now ≡ take 31 symbol.name = ap (take 31) c.as_slice.ensures in
    three_pushed c.args.text.now c.push.new.self c.push_name.new.text (take 31 c.as_slice.result.now) c.push_distance.new.text (distance f.distance) c.push.ensures.exact c.push_name.ensures.exact c.push_distance.ensures.exact
    ∙ (ap (λ (z : List ℕ). c.args.text.now ++ 32 ∷ (z ++ distance f.distance)) name ∙ ap (λ (z : List ℕ). c.args.text.now ++ z) (sym (near_is symbols c.args.found f symbol c.in-Some.is got)))
