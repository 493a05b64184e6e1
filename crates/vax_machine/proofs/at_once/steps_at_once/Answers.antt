use Rattle.std.proofs.Common.{refl}
use Rattle.vax_flat.specs.OverPort.{Present}
use Rattle.vax_undo.specs.Transaction.{state_of}
use Rattle.vax_cpu.proofs.Quick.{ran_quick}
use Rattle.vax_cpu.proofs.Runs.{at_start, reaches}
use Rattle.vax_cpu.specs.Attempt.{flat_of}
use Rattle.vax_cpu.specs.declared.cpu.Cpu.{Cpu}
use Rattle.vax_cpu.specs.Made.{Computer}
use Rattle.vax_pager.proofs.Keeping.{only_since}
use Rattle.vax_pager.proofs.Views.{only_itself}
use Rattle.vax_pager.specs.Meaning.{pages}
use Rattle.vax_pager.specs.Paging.{view_of}
use Rattle.vax_machine.proofs.Ahead.{are_steps}
use Rattle.vax_machine.proofs.at_once.steps_at_once.Goals as goal

pub returns-then-is_some-clause-steps : goal.returns-then-is_some-clause-steps
returns-then-is_some-clause-steps c = λ closed memory output st.
    let view = view_of (pages c.args.pager.now) in
    let m = flat_of c.args.cpu.now memory output in
    let old : Present = record { state = state_of c.args.cpu.now.core c.args.cpu.now.term; view = view } in
    let r = reaches view m 0 old old (at_start c.args.cpu.now.core c.args.cpu.now.term view m refl c.requires.unsent refl refl refl st) refl refl in
    are_steps view m 0 old r c.args.cpu.now view refl refl

pub returns-then-is_some-clause-written : goal.returns-then-is_some-clause-written
returns-then-is_some-clause-written c = only_itself (pages c.args.pager.now)

pub returns-clause-steps : goal.returns-clause-steps
returns-clause-steps c = λ closed memory output st.
    let view = view_of (pages c.args.pager.now) in
    let after = view_of (pages c.run.new.port) in
    let m = flat_of c.args.cpu.now memory output in
    let old : Present = record { state = state_of c.args.cpu.now.core c.args.cpu.now.term; view = view } in
    let new : Present = record { state = state_of c.run.new.core c.args.cpu.now.term; view = after } in
    let cpu : Cpu = record { core = c.run.new.core; term = c.args.cpu.now.term; latch = c.args.cpu.now.latch; log = c.args.cpu.now.log; scratch = c.args.cpu.now.scratch } in
    let before : Computer = record { core = c.args.cpu.now.core; view = view } in
    let behind : Computer = record { core = c.run.new.core; view = after } in
    let ran = ran_quick c.run.result before behind c.args.cpu.now.term c.requires.unsent c.run.ensures.ran in
    let r = reaches view m c.run.result old new (at_start c.args.cpu.now.core c.args.cpu.now.term view m refl c.requires.unsent refl refl refl st) refl ran in
    are_steps view m c.run.result new r cpu after refl refl

pub returns-clause-written : goal.returns-clause-written
returns-clause-written c = only_since c.args.pager.now _ c.run.ensures.since
