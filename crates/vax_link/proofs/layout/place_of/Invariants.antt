use Rattle.std.proofs.Common.{◌≡◌, ◌+◌, drop}
use Rattle.std.specs.List.{position_or_len}
use Rattle.std.specs.Str.{bytes_eq}
use Rattle.vax_link.specs.Layout.{names_in}
use Rattle.vax_link.proofs.layout.place_of.Given as goal

abbrev pub invariant-loop-place : goal.invariant-loop-place
invariant-loop-place l = position_or_len (λ n. bytes_eq n l.name) (names_in l.names) ≡ l.place + position_or_len (λ n. bytes_eq n l.name) (names_in (drop l.place l.names))
