-- What is watched, as it is shown.
use Rattle.std.specs.Prelude.{ℕ, List, [], ◌∷◌, codes}
use Rattle.std.specs.List.{flat_map}
use Rattle.vax_debug.specs.declared.watches.Watch.{Watch}
use Rattle.vax_debug_names.specs.declared.Legend.{Legend}
use Rattle.vax_debug_replies.specs.Stops.{watch_line}

abbrev pub watch_shown : Legend → Watch → List ℕ
watch_shown legend w = watch_line legend w.address w.count

-- what is watched, or that nothing is
unfoldable pub watches_shown : Legend → List Watch → List ℕ
watches_shown legend [] = codes "NO WATCHES\n"
watches_shown legend (w ∷ watches) = flat_map (watch_shown legend) (w ∷ watches)
