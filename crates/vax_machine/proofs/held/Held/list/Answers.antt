use Rattle.std.proofs.Common.{refl}
use Rattle.vax_sched.specs.Printed.{at_line}
use Rattle.vax_machine.proofs.Holding.{line_held, listed_behind, never_unlisted, only_passes, stuck, through, unlisted_passes}
use Rattle.vax_machine.proofs.Outputs.{counts_like, err_like, writes_nothing}
use Rattle.vax_machine.proofs.Passing.{none_listed}
use Rattle.vax_machine.proofs.held.Held.list.Goals as goal

pub returns-in_err-make_room-in-Some-clause-passes : goal.returns-in_err-make_room-in-Some-clause-passes
returns-in_err-make_room-in-Some-clause-passes g c = rw c.in-Some.is (stuck _ _ _ _ _ _ _ _ (listed_behind c.args.self.now c.args.turn c.in-Some.page c.if-self.true) c.from_residual.result c.make_room.result (err_like c.from_residual.result c.make_room.result _ c.from_residual.ensures.1 c.in_err-make_room-in-Some.was) c.make_room.ensures.passes)

pub returns-in_err-make_room-in-Some-clause-still : goal.returns-in_err-make_room-in-Some-clause-still
returns-in_err-make_room-in-Some-clause-still g c = record { listed = refl; only = only_passes _ _ _ c.make_room.result _ _ refl (never_unlisted _ c.if-self.true) refl c.make_room.ensures.passes }

pub returns-in_ok-make_room-in-Some-clause-passes : goal.returns-in_ok-make_room-in-Some-clause-passes
returns-in_ok-make_room-in-Some-clause-passes g c =
    let e = line_held c.args.self.now (record c.args.self.now { lines = c.push_at.new.text }) c.make_room.new.lines (at_line c.args.turn c.in-Some.page) refl c.if-self.true c.push_at.ensures.exact in
    rw c.in-Some.is (through _ _ _ _ _ _ _ _ e (listed_behind c.args.self.now c.args.turn c.in-Some.page c.if-self.true) c.in_ok-make_room-in-Some.ensures.passes)

pub returns-in_ok-make_room-in-Some-clause-still : goal.returns-in_ok-make_room-in-Some-clause-still
returns-in_ok-make_room-in-Some-clause-still g c = record { listed = refl; only = only_passes _ _ _ c.make_room.result _ _ refl (never_unlisted _ c.if-self.true) refl c.make_room.ensures.passes }

pub returns-else-self-clause-passes : goal.returns-else-self-clause-passes
returns-else-self-clause-passes g c = rw c.in-Some.is (unlisted_passes c.args.self.now c.args.turn c.in-Some.page _ c.if-self.false)

pub returns-else-self-clause-still : goal.returns-else-self-clause-still
returns-else-self-clause-still g c = writes_nothing _ _

pub returns-in_err-make_room-in-Some-clause-counts : goal.returns-in_err-make_room-in-Some-clause-counts
returns-in_err-make_room-in-Some-clause-counts g c = λ file.
    counts_like c.from_residual.result c.make_room.result _ _ _ _ (err_like c.from_residual.result c.make_room.result _ c.from_residual.ensures.1 c.in_err-make_room-in-Some.was) (c.make_room.ensures.counts file)

pub returns-in-None-clause-passes : goal.returns-in-None-clause-passes
returns-in-None-clause-passes g c = rw c.in-None.is (none_listed c.args.self.now.listed c.args.turn _ _)

pub returns-in-None-clause-still : goal.returns-in-None-clause-still
returns-in-None-clause-still g c = writes_nothing _ _
