use Rattle.std.proofs.Common.{refl}
use Rattle.vax_cli.specs.Said.{texts}
use Rattle.vax_cli.specs.Words.{command_of}
use Rattle.vax_command.specs.Around.{around, beside, change}
use Rattle.vax_top.proofs.TopLaws.{plain_words, words_unread}
use Rattle.vax_top.proofs.top.perform.Goals as goal

pub returns-in-Err-NoMemory-clause-headline : goal.returns-in-Err-NoMemory-clause-headline
returns-in-Err-NoMemory-clause-headline g c =
    words_unread (beside (change g.L.Lines.faults g.L.Lines.rest c.args.lines.now c.args.lines.now) (around (change g.S.Files.faults g.S.Files.contents c.args.files.now c.args.files.now) (change g.K.Sink.faults g.K.Sink.contents c.args.sink.now c.refuse-in-Err-NoMemory.new.sink) (change g.F.PageFile.faults g.F.PageFile.contents c.args.pages.now c.args.pages.now))) (texts c.args.words.now) c.refuse-in-Err-NoMemory.result
    (plain_words (command_of (texts c.args.words.now)) (λ none. let e = c.in-Err-NoMemory.ensures.not_plain none in cc)) refl c.refuse-in-Err-NoMemory.ensures
