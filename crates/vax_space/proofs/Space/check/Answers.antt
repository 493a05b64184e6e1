use Rattle.std.proofs.Common.{sym, refl}
use Rattle.vax_space.proofs.References.{accessible_is, writable_is_readable}
use Rattle.vax_space.proofs.Space.check.Goals as goal

pub returns-then-is_free_page-clause-answer : goal.returns-then-is_free_page-clause-answer
returns-then-is_free_page-clause-answer c = sym (c.is_free_page.ensures.free c.if-is_free_page.true)

pub returns-then-is_free_page-clause-accessible : goal.returns-then-is_free_page-clause-accessible
returns-then-is_free_page-clause-accessible c = (λ _. accessible_is _ _ _ _ _ c.ranges.addr.fits (c.is_free_page.ensures.free c.if-is_free_page.true), λ _. refl)

pub returns-then-is_free_page-clause-readable : goal.returns-then-is_free_page-clause-readable
returns-then-is_free_page-clause-readable c = writable_is_readable _
