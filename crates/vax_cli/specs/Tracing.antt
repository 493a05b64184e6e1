-- What the words of a traced run say.
use Rattle.std.specs.Prelude.{ℕ, Bool, List, [], ◌∷◌, Option, None, Some}
use Rattle.std.specs.Option.{option_map, option_and_then}
use Rattle.std.specs.List.{slice_split}
use Rattle.vax_cli.specs.Table.{Text}
use Rattle.vax_cli.specs.Values.{address_of, at_most, is_comma}
use Rattle.vax_cli.specs.declared.command.DumpItem.{DumpItem}

-- what a traced run is given beside its options: the addresses before which it stops, the memory whose changes it lists, and whether the text of each
-- instruction is listed
pub record Tracing : Type 0 where
  pub breaks : List ℕ
  pub watches : List DumpItem
  pub texts : Bool

abbrev pub addresses : List Text → Option (List ℕ)
addresses [] = Some []
addresses (word ∷ words) = option_and_then (λ address. option_map (λ rest. address ∷ rest) (addresses words)) (address_of word)

-- one to sixteen addresses, with commas between them; none where nothing is said
abbrev pub breaks_of : Option Text → Option (List ℕ)
breaks_of None = Some []
breaks_of (Some word) = option_and_then (at_most 16) (addresses (slice_split is_comma word))
