use Rattle.vax_tb.proofs.Places.{have_modified, have_unmodified}
use Rattle.vax_tb.proofs.buffer.rights_at_once.Goals as goal

pub returns-then-modified : goal.returns-then-modified
returns-then-modified c = rw c.if-modified.true (have_modified _ c.requires)

pub returns-else-modified : goal.returns-else-modified
returns-else-modified c = rw c.if-modified.false (have_unmodified _ c.requires)
