use Rattle.std.proofs.Common.{refl}
use Rattle.vax_outside.proofs.Counting.{counts_still}
use Rattle.vax_pager.proofs.Told.{pager_is, space_is}
use Rattle.vax_machine.proofs.Attempts.{no_failure, not_failed}
use Rattle.vax_machine.proofs.Spending.{events_spend}
use Rattle.vax_machine.proofs.Unsettled.{unsettled_by}
use Rattle.vax_machine.specs.declared.event.Event.TheVariants as event
use Rattle.vax_machine.proofs.engine.Engine.apply.Goals as goal

pub returns-in-Attempt-clause-applies : goal.returns-in-Attempt-clause-applies
returns-in-Attempt-clause-applies g c = rw c.in-Attempt.is (c.attempt.ensures.applies _)

pub returns-in-Attempt-clause-counts : goal.returns-in-Attempt-clause-counts
returns-in-Attempt-clause-counts g c = counts_still (not_failed c.attempt.result (no_failure _ _ _ _ (c.attempt.ensures.applies (g.F.PageFile.contents c.args.file.now)).0)) refl

pub returns-in-Attempt-clause-moves : goal.returns-in-Attempt-clause-moves
returns-in-Attempt-clause-moves g c = rw c.in-Attempt.is refl

pub returns-in-Attempt-clause-spends : goal.returns-in-Attempt-clause-spends
returns-in-Attempt-clause-spends g c = λ turns low. events_spend event.Attempt c.args.self.now c.attempt.new.self _ _ c.attempt.result c.requires.sound.pages.pins (pager_is c.args.self.now.pager).pinned_once turns low (c.attempt.ensures.applies (g.F.PageFile.contents c.args.file.now))

pub returns-in-Serve-clause-spends : goal.returns-in-Serve-clause-spends
returns-in-Serve-clause-spends g c = λ turns low. events_spend event.Serve c.args.self.now c.serve.new.self _ _ c.serve.result c.requires.sound.pages.pins (pager_is c.args.self.now.pager).pinned_once turns low c.serve.ensures.applies

pub returns-in-Evict-clause-spends : goal.returns-in-Evict-clause-spends
returns-in-Evict-clause-spends g c = λ turns low. events_spend (event.Evict c.in-Evict.page) c.args.self.now c.evict.new.self _ _ c.evict.result c.requires.sound.pages.pins (pager_is c.args.self.now.pager).pinned_once turns low c.evict.ensures.applies

pub returns-in-Flush-clause-spends : goal.returns-in-Flush-clause-spends
returns-in-Flush-clause-spends g c = λ turns low. events_spend (event.Flush c.in-Flush.page) c.args.self.now c.flush.new.self _ _ c.flush.result c.requires.sound.pages.pins (pager_is c.args.self.now.pager).pinned_once turns low c.flush.ensures.applies

pub returns-in-Attempt-clause-unsettled : goal.returns-in-Attempt-clause-unsettled
returns-in-Attempt-clause-unsettled g c = λ place means pins page is. unsettled_by event.Attempt c.args.self.now c.attempt.new.self _ _ c.attempt.result place page (c.attempt.ensures.applies (g.F.PageFile.contents c.args.file.now)) c.attempt.ensures.sound (pager_is c.args.self.now.pager) (space_is c.args.self.now.pager) means pins is

pub returns-in-Serve-clause-unsettled : goal.returns-in-Serve-clause-unsettled
returns-in-Serve-clause-unsettled g c = λ place means pins page is. unsettled_by event.Serve c.args.self.now c.serve.new.self _ _ c.serve.result place page c.serve.ensures.applies c.serve.ensures.sound (pager_is c.args.self.now.pager) (space_is c.args.self.now.pager) means pins is

pub returns-in-Evict-clause-unsettled : goal.returns-in-Evict-clause-unsettled
returns-in-Evict-clause-unsettled g c = λ place means pins page is. unsettled_by (event.Evict c.in-Evict.page) c.args.self.now c.evict.new.self _ _ c.evict.result place page c.evict.ensures.applies c.evict.ensures.sound (pager_is c.args.self.now.pager) (space_is c.args.self.now.pager) means pins is

pub returns-in-Flush-clause-unsettled : goal.returns-in-Flush-clause-unsettled
returns-in-Flush-clause-unsettled g c = λ place means pins page is. unsettled_by (event.Flush c.in-Flush.page) c.args.self.now c.flush.new.self _ _ c.flush.result place page c.flush.ensures.applies c.flush.ensures.sound (pager_is c.args.self.now.pager) (space_is c.args.self.now.pager) means pins is
