use Rattle.vax_pager.proofs.Keeping.{since_same}
use Rattle.vax_pager.proofs.port.PagerPort.read_run.Goals as goal

pub returns-clause-since : goal.returns-clause-since
returns-clause-since c = λ start h. since_same _ _ _ c.read_run.ensures.paging c.read_run.ensures.held h
