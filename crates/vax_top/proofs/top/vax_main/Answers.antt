use Rattle.vax_top.proofs.TopLaws.{large, line_fault, missing, not_plain, page_fault, read_fault, refused, usage, write_failed, write_fault}
use Rattle.vax_top.proofs.top.vax_main.Goals as goal

pub returns-clause-usage : goal.returns-clause-usage
returns-clause-usage g c = usage _ _ _ c.perform.ensures.headline

pub returns-clause-missing : goal.returns-clause-missing
returns-clause-missing g c = missing _ _ _ c.perform.ensures.headline

pub returns-clause-large : goal.returns-clause-large
returns-clause-large g c = large _ _ _ c.perform.ensures.headline

pub returns-clause-read : goal.returns-clause-read
returns-clause-read g c = read_fault _ _ _ c.perform.ensures.headline

pub returns-clause-page_fault : goal.returns-clause-page_fault
returns-clause-page_fault g c = page_fault _ _ _ c.perform.ensures.headline

pub returns-clause-line_fault : goal.returns-clause-line_fault
returns-clause-line_fault g c = line_fault _ _ _ c.perform.ensures.headline

pub returns-clause-write : goal.returns-clause-write
returns-clause-write g c = write_fault _ _ _ c.perform.ensures.headline

pub returns-clause-refused : goal.returns-clause-refused
returns-clause-refused g c = refused _ _ _ c.perform.ensures.headline

pub returns-clause-not_plain : goal.returns-clause-not_plain
returns-clause-not_plain g c = not_plain _ _ _ c.perform.ensures.headline

pub returns-clause-write_failed : goal.returns-clause-write_failed
returns-clause-write_failed g c = write_failed _ _ _ c.perform.ensures.headline
