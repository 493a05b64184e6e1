use Rattle.std.proofs.Common.{rules}
use Rattle.std.proofs.lemmas.List.Sorted.{answers_always}
use Rattle.vax_asm_check.proofs.Ranking.{rank, sorted}
use Rattle.vax_asm_check.proofs.sorting.sort.Goals as goal

pub returns-in-Ok : goal.returns-in-Ok
returns-in-Ok c =
    sorted c.args.faults.now.items c.sort_by_key.new.self.items c.sort_by_key.ensures.permutation (c.in-Ok.ensures.sorted rank (answers_always _ _ _ (λ f a r g h. search rules)))
    (c.sort_by_key.ensures.stable rank (answers_always _ _ _ (λ f a r g h. search rules)))
