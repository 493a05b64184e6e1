-- What has a mark keeps it where its names do.
use Rattle.std.proofs.Common.{◌≡◌, List, Option, Some, None}
use Rattle.vax_asm_names.specs.Names.{Names}
use Rattle.vax_asm_scope.specs.Scope.{Scope}
use Rattle.vax_asm_scope.specs.View.{both_marked}
use Rattle.vax_asm_values.specs.Values.{Source}

pub names_kept : (old new : Option Names) (sources : Option (List Source)) → ((n : Names) → new ≡ Some n → old ≡ Some n)
    → (m : Scope) → both_marked new sources ≡ Some m → both_marked old sources ≡ Some m
names_kept old None sources keeps m h = absurd cc
names_kept old (Some n) sources keeps m h = let same : old ≡ Some n = keeps n cc in rw same h
