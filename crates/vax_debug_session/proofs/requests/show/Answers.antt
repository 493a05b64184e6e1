use Rattle.std.proofs.Common.{refl}
use Rattle.vax_flat.specs.Step.{Flat}
use Rattle.vax_machine.specs.Meaning.{engine}
use Rattle.vax_console.specs.Ends.{scene}
use Rattle.vax_debug_replies.specs.Help.{breaks_shown, help}
use Rattle.vax_debug_acts.specs.Pages.{pages_at}
use Rattle.vax_debug_views.specs.Pages.{pages_shown}
use Rattle.vax_debug_views.specs.Watches.{watches_shown}
use Rattle.vax_debug_views.proofs.Telling.{replied_shows}
use Rattle.vax_debug_session.proofs.Asking.{nothing_shown, shown_as}
use Rattle.vax_debug_session.proofs.requests.show.Goals as goal

pub returns-in-ExamineRegister-clause-shows : goal.returns-in-ExamineRegister-clause-shows
returns-in-ExamineRegister-clause-shows g c =
    shown_as _ _ _ c.args.legend.now c.args.breaks.now (pages_at (engine c.args.machine.now)) _ _ c.in-ExamineRegister.is c.show_register.ensures.shows

pub returns-in-ExamineStatus-clause-shows : goal.returns-in-ExamineStatus-clause-shows
returns-in-ExamineStatus-clause-shows g c =
    shown_as _ _ _ c.args.legend.now c.args.breaks.now (pages_at (engine c.args.machine.now)) _ _ c.in-ExamineStatus.is c.show_status.ensures.shows

pub returns-in-ExamineField-clause-shows : goal.returns-in-ExamineField-clause-shows
returns-in-ExamineField-clause-shows g c =
    shown_as _ _ _ c.args.legend.now c.args.breaks.now (pages_at (engine c.args.machine.now)) _ _ c.in-ExamineField.is c.show_field.ensures.shows

pub returns-in-ExamineMemory-clause-shows : goal.returns-in-ExamineMemory-clause-shows
returns-in-ExamineMemory-clause-shows g c =
    shown_as _ _ _ c.args.legend.now c.args.breaks.now (pages_at (engine c.args.machine.now)) _ _ c.in-ExamineMemory.is c.show_memory.ensures.shows

pub returns-in-Disassemble-clause-shows : goal.returns-in-Disassemble-clause-shows
returns-in-Disassemble-clause-shows g c =
    shown_as _ _ _ c.args.legend.now c.args.breaks.now (pages_at (engine c.args.machine.now)) _ _ c.in-Disassemble.is c.disassemble_at.ensures.shows

pub returns-in-Where-clause-shows : goal.returns-in-Where-clause-shows
returns-in-Where-clause-shows g c =
    shown_as _ _ _ c.args.legend.now c.args.breaks.now (pages_at (engine c.args.machine.now)) _ _ c.in-Where.is c.show_frames.ensures.shows

pub returns-in-Stack-clause-shows : goal.returns-in-Stack-clause-shows
returns-in-Stack-clause-shows g c =
    shown_as _ _ _ c.args.legend.now c.args.breaks.now (pages_at (engine c.args.machine.now)) _ _ c.in-Stack.is c.show_stack.ensures.shows

pub returns-in-Queue-clause-shows : goal.returns-in-Queue-clause-shows
returns-in-Queue-clause-shows g c =
    shown_as _ _ _ c.args.legend.now c.args.breaks.now (pages_at (engine c.args.machine.now)) _ _ c.in-Queue.is c.show_queue.ensures.shows

pub returns-in-Show-clause-shows : goal.returns-in-Show-clause-shows
returns-in-Show-clause-shows g c =
    shown_as _ _ _ c.args.legend.now c.args.breaks.now (pages_at (engine c.args.machine.now)) _ _ c.in-Show.is
    (replied_shows (scene (engine c.args.machine.now) (g.F.PageFile.contents c.args.file.now) (g.K.Sink.contents c.args.sink.now)) (g.K.Sink.contents c.show_breaks.new.sink) c.show_breaks.result (breaks_shown c.args.legend.now c.args.breaks.now.breaks) (λ (m : Flat). (breaks_shown c.args.legend.now c.args.breaks.now.breaks)) (λ sink o s replies here. refl) c.show_breaks.ensures.replied)

pub returns-in-ShowWatches-clause-shows : goal.returns-in-ShowWatches-clause-shows
returns-in-ShowWatches-clause-shows g c =
    shown_as _ _ _ c.args.legend.now c.args.breaks.now (pages_at (engine c.args.machine.now)) _ _ c.in-ShowWatches.is
    (replied_shows (scene (engine c.args.machine.now) (g.F.PageFile.contents c.args.file.now) (g.K.Sink.contents c.args.sink.now)) (g.K.Sink.contents c.show_watches.new.sink) c.show_watches.result (watches_shown c.args.legend.now c.args.breaks.now.watches) (λ (m : Flat). (watches_shown c.args.legend.now c.args.breaks.now.watches)) (λ sink o s replies here. refl) c.show_watches.ensures.replied)

pub returns-in-Help-clause-shows : goal.returns-in-Help-clause-shows
returns-in-Help-clause-shows g c =
    shown_as _ _ _ c.args.legend.now c.args.breaks.now (pages_at (engine c.args.machine.now)) _ _ c.in-Help.is
    (replied_shows (scene (engine c.args.machine.now) (g.F.PageFile.contents c.args.file.now) (g.K.Sink.contents c.args.sink.now)) (g.K.Sink.contents c.show_help.new.sink) c.show_help.result (help c.in-Help.command) (λ (m : Flat). (help c.in-Help.command)) (λ sink o s replies here. refl) c.show_help.ensures.replied)

pub returns-in-Pages-clause-shows : goal.returns-in-Pages-clause-shows
returns-in-Pages-clause-shows g c =
    shown_as _ _ _ c.args.legend.now c.args.breaks.now (pages_at (engine c.args.machine.now)) _ _ c.in-Pages.is
    (replied_shows (scene (engine c.args.machine.now) (g.F.PageFile.contents c.args.file.now) (g.K.Sink.contents c.args.sink.now)) (g.K.Sink.contents c.show_pages.new.sink) c.show_pages.result (pages_shown c.args.legend.now (pages_at (engine c.args.machine.now))) (λ (m : Flat). pages_shown c.args.legend.now (pages_at (engine c.args.machine.now))) (λ sink o s replies here. refl) c.show_pages.ensures.replied)

pub returns-in_default-clause-shows : goal.returns-in_default-clause-shows
returns-in_default-clause-shows g c =
    nothing_shown (scene (engine c.args.machine.now) (g.F.PageFile.contents c.args.file.now) (g.K.Sink.contents c.args.sink.now)) c.args.legend.now c.args.breaks.now (pages_at (engine c.args.machine.now)) c.args.request.now c.in_default.not-ExamineRegister c.in_default.not-ExamineStatus c.in_default.not-ExamineMemory c.in_default.not-Disassemble c.in_default.not-Show c.in_default.not-Where c.in_default.not-Stack c.in_default.not-Queue c.in_default.not-Help c.in_default.not-Pages c.in_default.not-ShowWatches c.in_default.not-ExamineField
