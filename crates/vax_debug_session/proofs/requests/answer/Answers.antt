use Rattle.std.proofs.Common.{refl}
use Rattle.vax_machine.specs.Meaning.{engine}
use Rattle.vax_console.specs.Ends.{scene}
use Rattle.vax_debug_acts.specs.Pages.{pages_at}
use Rattle.vax_debug_acts.specs.Acts.{done_line}
use Rattle.vax_debug_acts.proofs.Telling.{done}
use Rattle.vax_debug_session.specs.Requests.{answered, breaks_after}
use Rattle.vax_debug_session.proofs.Asking.{acts_as, breaks_as, breaks_same, rest_acts, rest_breaks}
use Rattle.vax_debug_views.proofs.Telling.{told_only}
use Rattle.vax_debug_session.proofs.requests.answer.Goals as goal

pub returns-in-DepositRegister-clause-acts : goal.returns-in-DepositRegister-clause-acts
unfolding answered
returns-in-DepositRegister-clause-acts g c =
    acts_as (scene (engine c.args.machine.now) (g.F.PageFile.contents c.args.file.now) (g.K.Sink.contents c.args.sink.now)) (scene (engine c.deposit_into_register.new.machine) (g.F.PageFile.contents c.deposit_into_register.new.file) (g.K.Sink.contents c.deposit_into_register.new.sink)) c.deposit_into_register.result c.args.setting.now.limits.now c.args.setting.now.legend.now c.args.breaks.now (pages_at (engine c.args.machine.now)) _ _ c.in-DepositRegister.is c.deposit_into_register.ensures.acts

pub returns-in-DepositRegister-clause-breaks : goal.returns-in-DepositRegister-clause-breaks
unfolding breaks_after
returns-in-DepositRegister-clause-breaks g c =
    breaks_same (scene (engine c.args.machine.now) (g.F.PageFile.contents c.args.file.now) (g.K.Sink.contents c.args.sink.now)) c.deposit_into_register.result c.args.setting.now.legend.now c.args.breaks.now _ _ c.in-DepositRegister.is (λ s. refl)

pub returns-in-DepositMemory-clause-acts : goal.returns-in-DepositMemory-clause-acts
unfolding answered
returns-in-DepositMemory-clause-acts g c =
    acts_as (scene (engine c.args.machine.now) (g.F.PageFile.contents c.args.file.now) (g.K.Sink.contents c.args.sink.now)) (scene (engine c.deposit_into_memory.new.machine) (g.F.PageFile.contents c.deposit_into_memory.new.file) (g.K.Sink.contents c.deposit_into_memory.new.sink)) c.deposit_into_memory.result c.args.setting.now.limits.now c.args.setting.now.legend.now c.args.breaks.now (pages_at (engine c.args.machine.now)) _ _ c.in-DepositMemory.is c.deposit_into_memory.ensures.acts

pub returns-in-DepositMemory-clause-breaks : goal.returns-in-DepositMemory-clause-breaks
unfolding breaks_after
returns-in-DepositMemory-clause-breaks g c =
    breaks_same (scene (engine c.args.machine.now) (g.F.PageFile.contents c.args.file.now) (g.K.Sink.contents c.args.sink.now)) c.deposit_into_memory.result c.args.setting.now.legend.now c.args.breaks.now _ _ c.in-DepositMemory.is (λ s. refl)

pub returns-in-Step-clause-acts : goal.returns-in-Step-clause-acts
unfolding answered
returns-in-Step-clause-acts g c =
    acts_as (scene (engine c.args.machine.now) (g.F.PageFile.contents c.args.file.now) (g.K.Sink.contents c.args.sink.now)) (scene (engine c.step.new.machine) (g.F.PageFile.contents c.step.new.file) (g.K.Sink.contents c.step.new.sink)) c.step.result c.args.setting.now.limits.now c.args.setting.now.legend.now c.args.breaks.now (pages_at (engine c.args.machine.now)) _ _ c.in-Step.is c.step.ensures.acts

pub returns-in-Step-clause-breaks : goal.returns-in-Step-clause-breaks
unfolding breaks_after
returns-in-Step-clause-breaks g c =
    breaks_same (scene (engine c.args.machine.now) (g.F.PageFile.contents c.args.file.now) (g.K.Sink.contents c.args.sink.now)) c.step.result c.args.setting.now.legend.now c.args.breaks.now _ _ c.in-Step.is (λ s. refl)

pub returns-in-Over-clause-acts : goal.returns-in-Over-clause-acts
unfolding answered
returns-in-Over-clause-acts g c =
    acts_as (scene (engine c.args.machine.now) (g.F.PageFile.contents c.args.file.now) (g.K.Sink.contents c.args.sink.now)) (scene (engine c.over.new.machine) (g.F.PageFile.contents c.over.new.file) (g.K.Sink.contents c.over.new.sink)) c.over.result c.args.setting.now.limits.now c.args.setting.now.legend.now c.args.breaks.now (pages_at (engine c.args.machine.now)) _ _ c.in-Over.is c.over.ensures.acts

pub returns-in-Over-clause-breaks : goal.returns-in-Over-clause-breaks
unfolding breaks_after
returns-in-Over-clause-breaks g c =
    breaks_same (scene (engine c.args.machine.now) (g.F.PageFile.contents c.args.file.now) (g.K.Sink.contents c.args.sink.now)) c.over.result c.args.setting.now.legend.now c.args.breaks.now _ _ c.in-Over.is (λ s. refl)

pub returns-in-Out-clause-acts : goal.returns-in-Out-clause-acts
unfolding answered
returns-in-Out-clause-acts g c =
    acts_as (scene (engine c.args.machine.now) (g.F.PageFile.contents c.args.file.now) (g.K.Sink.contents c.args.sink.now)) (scene (engine c.leave.new.machine) (g.F.PageFile.contents c.leave.new.file) (g.K.Sink.contents c.leave.new.sink)) c.leave.result c.args.setting.now.limits.now c.args.setting.now.legend.now c.args.breaks.now (pages_at (engine c.args.machine.now)) _ _ c.in-Out.is c.leave.ensures.acts

pub returns-in-Out-clause-breaks : goal.returns-in-Out-clause-breaks
unfolding breaks_after
returns-in-Out-clause-breaks g c =
    breaks_same (scene (engine c.args.machine.now) (g.F.PageFile.contents c.args.file.now) (g.K.Sink.contents c.args.sink.now)) c.leave.result c.args.setting.now.legend.now c.args.breaks.now _ _ c.in-Out.is (λ s. refl)

pub returns-in-Go-clause-acts : goal.returns-in-Go-clause-acts
unfolding answered
returns-in-Go-clause-acts g c =
    acts_as (scene (engine c.args.machine.now) (g.F.PageFile.contents c.args.file.now) (g.K.Sink.contents c.args.sink.now)) (scene (engine c.go.new.machine) (g.F.PageFile.contents c.go.new.file) (g.K.Sink.contents c.go.new.sink)) c.go.result c.args.setting.now.limits.now c.args.setting.now.legend.now c.args.breaks.now (pages_at (engine c.args.machine.now)) _ _ c.in-Go.is c.go.ensures.acts

pub returns-in-Go-clause-breaks : goal.returns-in-Go-clause-breaks
unfolding breaks_after
returns-in-Go-clause-breaks g c =
    breaks_same (scene (engine c.args.machine.now) (g.F.PageFile.contents c.args.file.now) (g.K.Sink.contents c.args.sink.now)) c.go.result c.args.setting.now.legend.now c.args.breaks.now _ _ c.in-Go.is (λ s. refl)

pub returns-in-Until-clause-acts : goal.returns-in-Until-clause-acts
unfolding answered
returns-in-Until-clause-acts g c =
    acts_as (scene (engine c.args.machine.now) (g.F.PageFile.contents c.args.file.now) (g.K.Sink.contents c.args.sink.now)) (scene (engine c.until.new.machine) (g.F.PageFile.contents c.until.new.file) (g.K.Sink.contents c.until.new.sink)) c.until.result c.args.setting.now.limits.now c.args.setting.now.legend.now c.args.breaks.now (pages_at (engine c.args.machine.now)) _ _ c.in-Until.is c.until.ensures.acts

pub returns-in-Until-clause-breaks : goal.returns-in-Until-clause-breaks
unfolding breaks_after
returns-in-Until-clause-breaks g c =
    breaks_same (scene (engine c.args.machine.now) (g.F.PageFile.contents c.args.file.now) (g.K.Sink.contents c.args.sink.now)) c.until.result c.args.setting.now.legend.now c.args.breaks.now _ _ c.in-Until.is (λ s. refl)

pub returns-in-Break-clause-acts : goal.returns-in-Break-clause-acts
unfolding answered
returns-in-Break-clause-acts g c =
    acts_as (scene (engine c.args.machine.now) (g.F.PageFile.contents c.args.file.now) (g.K.Sink.contents c.args.sink.now)) (scene (engine c.stop_at.new.machine) (g.F.PageFile.contents c.stop_at.new.file) (g.K.Sink.contents c.stop_at.new.sink)) c.stop_at.result c.args.setting.now.limits.now c.args.setting.now.legend.now c.args.breaks.now (pages_at (engine c.args.machine.now)) _ _ c.in-Break.is c.stop_at.ensures.acts

pub returns-in-Break-clause-breaks : goal.returns-in-Break-clause-breaks
unfolding breaks_after
returns-in-Break-clause-breaks g c =
    breaks_as (scene (engine c.args.machine.now) (g.F.PageFile.contents c.args.file.now) (g.K.Sink.contents c.args.sink.now)) c.stop_at.result c.stop_at.new.plan c.args.setting.now.legend.now c.args.breaks.now _ _ c.in-Break.is c.stop_at.ensures.breaks

pub returns-in-Watch-clause-acts : goal.returns-in-Watch-clause-acts
unfolding answered
returns-in-Watch-clause-acts g c =
    acts_as (scene (engine c.args.machine.now) (g.F.PageFile.contents c.args.file.now) (g.K.Sink.contents c.args.sink.now)) (scene (engine c.watch.new.machine) (g.F.PageFile.contents c.watch.new.file) (g.K.Sink.contents c.watch.new.sink)) c.watch.result c.args.setting.now.limits.now c.args.setting.now.legend.now c.args.breaks.now (pages_at (engine c.args.machine.now)) _ _ c.in-Watch.is c.watch.ensures.acts

pub returns-in-Watch-clause-breaks : goal.returns-in-Watch-clause-breaks
unfolding breaks_after
returns-in-Watch-clause-breaks g c =
    breaks_as (scene (engine c.args.machine.now) (g.F.PageFile.contents c.args.file.now) (g.K.Sink.contents c.args.sink.now)) c.watch.result c.watch.new.plan c.args.setting.now.legend.now c.args.breaks.now _ _ c.in-Watch.is c.watch.ensures.breaks

pub returns-in-Clear-clause-acts : goal.returns-in-Clear-clause-acts
unfolding answered
returns-in-Clear-clause-acts g c =
    acts_as (scene (engine c.args.machine.now) (g.F.PageFile.contents c.args.file.now) (g.K.Sink.contents c.args.sink.now)) (scene (engine c.clear.new.machine) (g.F.PageFile.contents c.clear.new.file) (g.K.Sink.contents c.clear.new.sink)) c.clear.result c.args.setting.now.limits.now c.args.setting.now.legend.now c.args.breaks.now (pages_at (engine c.args.machine.now)) _ _ c.in-Clear.is c.clear.ensures.acts

pub returns-in-Clear-clause-breaks : goal.returns-in-Clear-clause-breaks
unfolding breaks_after
returns-in-Clear-clause-breaks g c =
    breaks_as (scene (engine c.args.machine.now) (g.F.PageFile.contents c.args.file.now) (g.K.Sink.contents c.args.sink.now)) c.clear.result c.clear.new.breaks c.args.setting.now.legend.now c.args.breaks.now _ _ c.in-Clear.is c.clear.ensures.breaks

pub returns-in-Evict-clause-acts : goal.returns-in-Evict-clause-acts
unfolding answered
returns-in-Evict-clause-acts g c =
    acts_as (scene (engine c.args.machine.now) (g.F.PageFile.contents c.args.file.now) (g.K.Sink.contents c.args.sink.now)) (scene (engine c.evict_at.new.machine) (g.F.PageFile.contents c.evict_at.new.file) (g.K.Sink.contents c.evict_at.new.sink)) c.evict_at.result c.args.setting.now.limits.now c.args.setting.now.legend.now c.args.breaks.now (pages_at (engine c.args.machine.now)) _ _ c.in-Evict.is c.evict_at.ensures.acts

pub returns-in-Evict-clause-breaks : goal.returns-in-Evict-clause-breaks
unfolding breaks_after
returns-in-Evict-clause-breaks g c =
    breaks_same (scene (engine c.args.machine.now) (g.F.PageFile.contents c.args.file.now) (g.K.Sink.contents c.args.sink.now)) c.evict_at.result c.args.setting.now.legend.now c.args.breaks.now _ _ c.in-Evict.is (λ s. refl)

pub returns-in-EvictAll-clause-acts : goal.returns-in-EvictAll-clause-acts
unfolding answered
returns-in-EvictAll-clause-acts g c =
    acts_as (scene (engine c.args.machine.now) (g.F.PageFile.contents c.args.file.now) (g.K.Sink.contents c.args.sink.now)) (scene (engine c.evict_all.new.machine) (g.F.PageFile.contents c.evict_all.new.file) (g.K.Sink.contents c.evict_all.new.sink)) c.evict_all.result c.args.setting.now.limits.now c.args.setting.now.legend.now c.args.breaks.now (pages_at (engine c.args.machine.now)) _ _ c.in-EvictAll.is
    (λ o s replies here. done c.evict_all.result c.args.setting.now.limits.now.turns 0 o s s replies done_line (scene (engine c.evict_all.new.machine) (g.F.PageFile.contents c.evict_all.new.file) (g.K.Sink.contents c.evict_all.new.sink)) (c.evict_all.ensures.replies o s replies here))

pub returns-in-EvictAll-clause-breaks : goal.returns-in-EvictAll-clause-breaks
unfolding breaks_after
returns-in-EvictAll-clause-breaks g c =
    breaks_same (scene (engine c.args.machine.now) (g.F.PageFile.contents c.args.file.now) (g.K.Sink.contents c.args.sink.now)) c.evict_all.result c.args.setting.now.legend.now c.args.breaks.now _ _ c.in-EvictAll.is (λ s. refl)

pub returns-in-DepositStatus-clause-acts : goal.returns-in-DepositStatus-clause-acts
unfolding answered
returns-in-DepositStatus-clause-acts g c =
    acts_as (scene (engine c.args.machine.now) (g.F.PageFile.contents c.args.file.now) (g.K.Sink.contents c.args.sink.now)) (scene (engine c.deposit_into_status.new.machine) (g.F.PageFile.contents c.deposit_into_status.new.file) (g.K.Sink.contents c.deposit_into_status.new.sink)) c.deposit_into_status.result c.args.setting.now.limits.now c.args.setting.now.legend.now c.args.breaks.now (pages_at (engine c.args.machine.now)) _ _ c.in-DepositStatus.is c.deposit_into_status.ensures.acts

pub returns-in-DepositStatus-clause-breaks : goal.returns-in-DepositStatus-clause-breaks
unfolding breaks_after
returns-in-DepositStatus-clause-breaks g c =
    breaks_same (scene (engine c.args.machine.now) (g.F.PageFile.contents c.args.file.now) (g.K.Sink.contents c.args.sink.now)) c.deposit_into_status.result c.args.setting.now.legend.now c.args.breaks.now _ _ c.in-DepositStatus.is (λ s. refl)

pub returns-in-DepositField-clause-acts : goal.returns-in-DepositField-clause-acts
unfolding answered
returns-in-DepositField-clause-acts g c =
    acts_as (scene (engine c.args.machine.now) (g.F.PageFile.contents c.args.file.now) (g.K.Sink.contents c.args.sink.now)) (scene (engine c.deposit_into_field.new.machine) (g.F.PageFile.contents c.deposit_into_field.new.file) (g.K.Sink.contents c.deposit_into_field.new.sink)) c.deposit_into_field.result c.args.setting.now.limits.now c.args.setting.now.legend.now c.args.breaks.now (pages_at (engine c.args.machine.now)) _ _ c.in-DepositField.is c.deposit_into_field.ensures.acts

pub returns-in-DepositField-clause-breaks : goal.returns-in-DepositField-clause-breaks
unfolding breaks_after
returns-in-DepositField-clause-breaks g c =
    breaks_same (scene (engine c.args.machine.now) (g.F.PageFile.contents c.args.file.now) (g.K.Sink.contents c.args.sink.now)) c.deposit_into_field.result c.args.setting.now.legend.now c.args.breaks.now _ _ c.in-DepositField.is (λ s. refl)

pub returns-in-Turn-clause-acts : goal.returns-in-Turn-clause-acts
unfolding answered
returns-in-Turn-clause-acts g c =
    acts_as (scene (engine c.args.machine.now) (g.F.PageFile.contents c.args.file.now) (g.K.Sink.contents c.args.sink.now)) (scene (engine c.turn.new.machine) (g.F.PageFile.contents c.turn.new.file) (g.K.Sink.contents c.turn.new.sink)) c.turn.result c.args.setting.now.limits.now c.args.setting.now.legend.now c.args.breaks.now (pages_at (engine c.args.machine.now)) _ _ c.in-Turn.is c.turn.ensures.acts

pub returns-in-Turn-clause-breaks : goal.returns-in-Turn-clause-breaks
unfolding breaks_after
returns-in-Turn-clause-breaks g c =
    breaks_same (scene (engine c.args.machine.now) (g.F.PageFile.contents c.args.file.now) (g.K.Sink.contents c.args.sink.now)) c.turn.result c.args.setting.now.legend.now c.args.breaks.now _ _ c.in-Turn.is (λ s. refl)

pub returns-in_default-clause-acts : goal.returns-in_default-clause-acts
returns-in_default-clause-acts g c =
    rest_acts (scene (engine c.args.machine.now) (g.F.PageFile.contents c.args.file.now) (g.K.Sink.contents c.args.sink.now)) (scene (engine c.show.new.machine) (g.F.PageFile.contents c.show.new.file) (g.K.Sink.contents c.show.new.sink)) c.show.result c.args.setting.now.limits.now c.args.setting.now.legend.now c.args.breaks.now (pages_at (engine c.args.machine.now)) c.args.request.now c.in_default.not-DepositRegister c.in_default.not-DepositMemory c.in_default.not-Step c.in_default.not-Over c.in_default.not-Out c.in_default.not-Go c.in_default.not-Until c.in_default.not-Break c.in_default.not-Clear c.in_default.not-Evict c.in_default.not-EvictAll c.in_default.not-DepositStatus c.in_default.not-Turn c.in_default.not-Watch c.in_default.not-DepositField c.show.ensures.shows

pub returns-in_default-clause-breaks : goal.returns-in_default-clause-breaks
returns-in_default-clause-breaks g c =
    rest_breaks (scene (engine c.args.machine.now) (g.F.PageFile.contents c.args.file.now) (g.K.Sink.contents c.args.sink.now)) c.show.result c.args.setting.now.legend.now c.args.breaks.now c.args.request.now c.in_default.not-Break c.in_default.not-Clear c.in_default.not-Watch

pub returns-in_default-clause-only : goal.returns-in_default-clause-only
returns-in_default-clause-only g c = told_only _ _ c.show.ensures.shows.only
