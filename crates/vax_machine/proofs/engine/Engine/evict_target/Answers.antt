use Rattle.std.specs.List.{flat_map}
use Rattle.vax_space.specs.Areas.{pages_of}
use Rattle.vax_pager.specs.Meaning.{pages}
use Rattle.vax_machine.proofs.Residents.{resident}
use Rattle.vax_machine.proofs.Skipping.{all_done, covered}
use Rattle.vax_machine.proofs.engine.Engine.evict_target.Goals as goal

pub returns-in-Page-clause-done : goal.returns-in-Page-clause-done
returns-in-Page-clause-done g c = λ o p f. rw c.in-Page.is (c.evict_one.ensures.done o p f)

pub returns-in-All-clause-done : goal.returns-in-All-clause-done
returns-in-All-clause-done g c = λ o p f. rw c.in-All.is (all_done (resident (pages c.args.self.now.pager).order) o (flat_map pages_of (pages c.args.self.now.pager).areas) _ p _ _ _ _ c.residents-count.ensures.pages (covered o p c.args.self.now _ _ _ f) c.evict_pages.result (c.evict_pages.ensures.done o p f))
