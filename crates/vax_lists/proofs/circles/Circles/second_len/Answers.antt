use Rattle.vax_lists.proofs.Frames.{second-length}
use Rattle.vax_lists.proofs.circles.Circles.second_len.Goals as goal

pub returns : goal.returns
returns c = second-length _ _ _ _ _ c.self.view_is
