use Rattle.std.proofs.Common.{sym, ◌∙◌}
use Rattle.vax_pager.proofs.Effects.{read_none, read_one, comes_start, comes_block, not_both}
use Rattle.vax_pager.proofs.store.Store.fetch.Goals as goal

pub returns-in-None-clause-bytes : goal.returns-in-None-clause-bytes
returns-in-None-clause-bytes g c = comes_start _ _ _ _ (sym c.in-None.ensures.blocked) c.start_of.ensures

pub returns-in-None-clause-read : goal.returns-in-None-clause-read
returns-in-None-clause-read g c = sym (read_none _ _ _ (sym c.in-None.ensures.blocked))

pub returns-in-Ok-clause-bytes : goal.returns-in-Ok-clause-bytes
returns-in-Ok-clause-bytes g c = comes_block _ _ _ _ _ (sym c.in-Some.ensures.blocked) c.in-Some.ensures.block c.in-Ok.ensures.bytes

pub returns-in-Ok-clause-read : goal.returns-in-Ok-clause-read
returns-in-Ok-clause-read g c = c.in-Ok.ensures.ok ∙ sym (read_one _ _ _ (sym c.in-Some.ensures.blocked))

pub returns-in-Ok-clause-untouched : goal.returns-in-Ok-clause-untouched
returns-in-Ok-clause-untouched g c = λ e. absurd (not_both _ (sym c.in-Some.ensures.blocked) e)

pub returns-in-Err-clause-untouched : goal.returns-in-Err-clause-untouched
returns-in-Err-clause-untouched g c = λ e. absurd (not_both _ (sym c.in-Some.ensures.blocked) e)
