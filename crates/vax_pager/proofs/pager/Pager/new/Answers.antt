use Rattle.std.proofs.Common.{subst, sym}
use Rattle.vax_flat.specs.Start.{start_memory}
use Rattle.vax_pager.specs.Paging.{Backs, Paging}
use Rattle.vax_pager.proofs.Start.{backs_fresh}
use Rattle.vax_pager.proofs.pager.Pager.new.Goals as goal

pub returns-clause-stands : goal.returns-clause-stands
returns-clause-stands c = λ file. subst (λ (z : Paging). Backs z file (start_memory c.args.space)) (sym c.in_ok-store.ensures.paging) (backs_fresh c.args.space c.args.frames file c.in_ok-store.ensures.space)
