use Rattle.vax_space.specs.Reference.{page_of}
use Rattle.vax_pager.proofs.Keeping.{lies_now}
use Rattle.vax_pager.proofs.port.PagerPort.frame_of_code.Goals as goal

pub returns-clause-lies : goal.returns-clause-lies
returns-clause-lies c = lies_now _ _ (page_of c.args.addr) c.args.mode c.frame_of_code.ensures.lies
