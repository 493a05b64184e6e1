use Rattle.std.proofs.Common.{◌≡◌, drop}
use Rattle.std.specs.List.{list_any}
use Rattle.std.specs.Str.{bytes_eq}
use Rattle.vax_check.proofs.sources.is_named.Given as goal

abbrev pub invariant-loop-symbol : goal.invariant-loop-symbol
invariant-loop-symbol l = list_any (λ s. bytes_eq l.name s.name) (drop l.symbol-index l.symbols) ≡ list_any (λ s. bytes_eq l.name s.name) l.symbols
