use Rattle.vax_pager.proofs.Keeping.{since_then}
use Rattle.vax_pager.proofs.port.PagerPort.write.Goals as goal

pub returns-clause-since : goal.returns-clause-since
returns-clause-since c = λ start h. since_then _ _ _ c.write.ensures.only c.write.ensures.held h
