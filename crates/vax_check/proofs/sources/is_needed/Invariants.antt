use Rattle.std.proofs.Common.{◌≡◌, drop}
use Rattle.std.specs.List.{list_any}
use Rattle.std.specs.Prelude.{◌&&◌, not}
use Rattle.std.specs.Str.{bytes_eq}
use Rattle.vax_check.proofs.sources.is_needed.Given as goal

abbrev pub invariant-loop-external : goal.invariant-loop-external
invariant-loop-external l =
    list_any (λ e. not e.weak && bytes_eq l.name e.name) (drop l.external-index l.externals) ≡ list_any (λ e. not e.weak && bytes_eq l.name e.name) l.externals
