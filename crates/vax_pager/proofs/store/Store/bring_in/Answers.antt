use Rattle.std.proofs.Common.{rules}
use Rattle.vax_pager.proofs.Marking.{came_none, left_none, none_itself}
use Rattle.vax_pager.proofs.Told.{is_paging}
use Rattle.vax_pager.proofs.Poking.{alike_itself, came_alike, comes_served, comes_there, left_alike, served_in, was_in}
use Rattle.vax_pager.proofs.Effects.{on_err}
use Rattle.vax_pager.proofs.store.Store.bring_in.Goals as goal

pub returns-in_err-serve-clause-alike : goal.returns-in_err-serve-clause-alike
returns-in_err-serve-clause-alike g c = left_alike _ _ _ _ _ _ c.in_err-serve.ensures.err

pub returns-in_ok-serve-clause-alike : goal.returns-in_ok-serve-clause-alike
returns-in_ok-serve-clause-alike g c = came_alike _ c.args.page _ _ _ c.in_ok-serve.ensures.ok

pub returns-in_ok-serve-clause-brings : goal.returns-in_ok-serve-clause-brings
returns-in_ok-serve-clause-brings g c = served_in c.args.page _ _ (search rules) c.in_ok-serve.ensures.pinned (is_paging _ c.serve.ensures.sound)

pub returns-else-not-is_resident-clause-alike : goal.returns-else-not-is_resident-clause-alike
returns-else-not-is_resident-clause-alike g c = alike_itself _

pub returns-else-not-is_resident-clause-brings : goal.returns-else-not-is_resident-clause-brings
returns-else-not-is_resident-clause-brings g c = was_in c.args.page _ (search rules)

pub returns-in_err-serve-clause-marks : goal.returns-in_err-serve-clause-marks
returns-in_err-serve-clause-marks g c = left_none _ _ _ _ _ _ c.in_err-serve.ensures.err

pub returns-in_ok-serve-clause-marks : goal.returns-in_ok-serve-clause-marks
returns-in_ok-serve-clause-marks g c = came_none _ c.args.page _ _ _ _ _ c.in_ok-serve.ensures.ok c.in_ok-serve.ensures.file

pub returns-else-not-is_resident-clause-marks : goal.returns-else-not-is_resident-clause-marks
returns-else-not-is_resident-clause-marks g c = none_itself _ _

pub returns-in_ok-serve-clause-comes : goal.returns-in_ok-serve-clause-comes
returns-in_ok-serve-clause-comes g c = comes_served c.args.page _ _ (search rules) (record { paging = c.in_ok-serve.ensures.ok; file = c.in_ok-serve.ensures.file; bytes = c.in_ok-serve.ensures.bytes }) (is_paging _ c.requires.sound) c.requires.pins c.serve.ensures.keeps

pub returns-else-not-is_resident-clause-comes : goal.returns-else-not-is_resident-clause-comes
returns-else-not-is_resident-clause-comes g c = comes_there c.args.page _ (search rules) (is_paging _ c.requires.sound) c.requires.pins

pub returns-in_err-serve-clause-out : goal.returns-in_err-serve-clause-out
returns-in_err-serve-clause-out g c = on_err c.from_residual.result (record { away = search rules; stays = c.in_err-serve.ensures.err; fine = is_paging _ c.requires.sound; room = c.requires.pins })
