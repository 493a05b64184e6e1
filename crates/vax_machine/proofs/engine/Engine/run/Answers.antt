use Rattle.std.proofs.Common.{refl, subst, ◌∙◌, Bool}
use Rattle.vax_pager.specs.Meaning.{pages}
use Rattle.vax_pager.proofs.Told.{pager_is, space_is}
use Rattle.vax_machine.specs.GoingOn.{GoneOn, by_page}
use Rattle.vax_machine.specs.Run.{begun, origin}
use Rattle.vax_machine.specs.Writing.{OnlyWrote}
use Rattle.vax_machine.specs.declared.event.RunEnd.{RunEnd}
use Rattle.vax_machine.proofs.Ending.{changed_rose}
use Rattle.vax_machine.proofs.Outputs.{then_wrote}
use Rattle.vax_machine.proofs.Running.{at_start, begins_bounded, ends_so, lost_turns}
use Rattle.vax_machine.proofs.engine.Engine.run.Goals as goal

pub returns-in-WriteFault-clause-ends : goal.returns-in-WriteFault-clause-ends
returns-in-WriteFault-clause-ends g c = λ place m pins.
    let start = at_start c.args.limits.now _ c.args.self.now (g.F.PageFile.contents c.args.file.now) place (g.K.Sink.contents c.args.sink.now) c.new-held.result c.new-held.ensures.nothing c.new-held.ensures.listed refl m in
    let o = origin c.args.limits.now (pages c.args.self.now.pager).areas (begun c.args.self.now place) (g.F.PageFile.contents c.args.file.now) (g.K.Sink.contents c.args.sink.now) in
    let gone = c.go_on.ensures.goes o (begun c.args.self.now place) start pins in
    lost_turns c.args.limits.now _ c.args.schedule.now (begun c.args.self.now place) (g.F.PageFile.contents c.args.file.now) c.go_on.new.self (g.F.PageFile.contents c.go_on.new.file) (g.K.Sink.contents c.args.sink.now) (g.K.Sink.contents c.go_on.new.sink) c.go_on.new.held
    (begins_bounded c.args.self.now _ place (pager_is c.args.self.now.pager) (space_is c.args.self.now.pager) m pins) (space_is c.args.self.now.pager)
    (subst (λ (z : RunEnd). GoneOn c.args.limits.now o (pages c.args.self.now.pager).areas c.args.schedule.now (begun c.args.self.now place) z c.go_on.new.self (g.F.PageFile.contents c.go_on.new.file) (g.K.Sink.contents c.go_on.new.sink) c.go_on.new.held) c.in-WriteFault.is gone)

pub returns-in_default-clause-ends : goal.returns-in_default-clause-ends
returns-in_default-clause-ends g c = λ place m pins.
    let start = at_start c.args.limits.now _ c.args.self.now (g.F.PageFile.contents c.args.file.now) place (g.K.Sink.contents c.args.sink.now) c.new-held.result c.new-held.ensures.nothing c.new-held.ensures.listed refl m in
    let o = origin c.args.limits.now (pages c.args.self.now.pager).areas (begun c.args.self.now place) (g.F.PageFile.contents c.args.file.now) (g.K.Sink.contents c.args.sink.now) in
    let gone = c.go_on.ensures.goes o (begun c.args.self.now place) start pins in
    ends_so c.args.limits.now _ c.args.schedule.now (begun c.args.self.now place) (g.F.PageFile.contents c.args.file.now) c.go_on.new.self (g.F.PageFile.contents c.go_on.new.file) (g.K.Sink.contents c.args.sink.now) (g.K.Sink.contents c.go_on.new.sink) c.go_on.new.held
    (begins_bounded c.args.self.now _ place (pager_is c.args.self.now.pager) (space_is c.args.self.now.pager) m pins) (space_is c.args.self.now.pager)
    c.go_on.result c.finish.result _ _ gone c.in_default.not-WriteFault c.finish.ensures.done

pub returns-in_default-clause-only : goal.returns-in_default-clause-only
returns-in_default-clause-only g c =
    let w = c.go_on.ensures.writes in
    then_wrote c.args.limits.now.listed _ _ _ (subst (λ (b : Bool). OnlyWrote b (g.K.Sink.contents c.args.sink.now) (g.K.Sink.contents c.go_on.new.sink)) c.new-held.ensures.listed w.only)
    (subst (λ (b : Bool). OnlyWrote b (g.K.Sink.contents c.go_on.new.sink) (g.K.Sink.contents c.finish.new.sink)) (w.listed ∙ c.new-held.ensures.listed) c.finish.ensures.only)

pub returns-in-WriteFault-clause-failed : goal.returns-in-WriteFault-clause-failed
returns-in-WriteFault-clause-failed g c = λ n. changed_rose (by_page c.go_on.result) _ _ c.go_on.ensures.counts.file n

pub returns-in_default-clause-failed : goal.returns-in_default-clause-failed
returns-in_default-clause-failed g c = λ n. changed_rose (by_page c.go_on.result) _ _ c.go_on.ensures.counts.file n
