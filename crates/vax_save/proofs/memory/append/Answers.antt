use Rattle.std.proofs.Common.{◌∙◌, ◌++◌, List, ℕ, Option, ap, sym}
use Rattle.std.specs.Borrow.{Bor}
use Rattle.vax_save.specs.Views.{filled_to, or_zeros}
use Rattle.vax_save.proofs.Filling.{zeros_more}
use Rattle.vax_save.proofs.memory.append.Goals as goal

pub returns-in-None-clause-filled : goal.returns-in-None-clause-filled
returns-in-None-clause-filled c =
    zeros_more c.args.count c.args.bytes.now.items c.requires.short
    ∙ ap (λ (z : Option (Bor (List ℕ))). filled_to c.args.count c.args.bytes.now.items ++ or_zeros z) (sym c.in-None.is)
