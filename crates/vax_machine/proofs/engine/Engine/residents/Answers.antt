use Rattle.std.proofs.Common.{ℕ, List, ap, length, subst, sym, ◌∙◌}
use Rattle.std.specs.List.Sorted.{IsPermutation}
use Rattle.vax_pager.specs.Meaning.{pages}
use Rattle.vax_pager.proofs.Told.{pager_is, space_is}
use Rattle.vax_machine.proofs.Residents.{residents_sorted, taken}
use Rattle.vax_machine.proofs.engine.Engine.residents.Goals as goal

pub returns-clause-pages : goal.returns-clause-pages
returns-clause-pages c =
    let s = pages c.args.self.now.pager in
    taken c.residents-count.result c.sort_unstable.new.self _ (c.sort_unstable.ensures.len ∙ ap length c.residents-count.ensures.pages ∙ sym c.residents-count.ensures.count)
    ∙ residents_sorted s.areas s.order c.sort_unstable.new.self (space_is c.args.self.now.pager) (pager_is c.args.self.now.pager).once (pager_is c.args.self.now.pager).inside
    (subst (λ (l : List ℕ). IsPermutation l c.sort_unstable.new.self) c.residents-count.ensures.pages c.sort_unstable.ensures.permutation) c.sort_unstable.ensures.sorted
