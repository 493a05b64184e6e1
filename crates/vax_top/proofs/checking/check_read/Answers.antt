use Rattle.std.proofs.Common.{ap, ◌∙◌}
use Rattle.vax_check.specs.View.{titles_of}
use Rattle.vax_command.specs.Around.{change}
use Rattle.vax_command.specs.ReadingView.{texts}
use Rattle.vax_prelude.specs.View.{preludes_seen}
use Rattle.vax_top.specs.Loaded.{joined_files}
use Rattle.vax_top.proofs.CheckLaws.{told_behind}
use Rattle.vax_top.proofs.checking.check_read.Goals as goal

pub returns : goal.returns
returns g c =
    let preludes = preludes_seen c.args.preludes.now in
    told_behind (change g.K.Sink.faults g.K.Sink.contents c.args.sink.now c.tell.new.sink) c.args.target c.args.count (titles_of preludes c.args.names.now) (joined_files preludes (texts c.args.texts.now)) c.tell.result
    c.is_bare.result c.base_for-base.result (texts c.deref.result.now) c.is_bare.ensures c.base_for-base.ensures (ap texts c.deref.ensures.value ∙ c.in-Ok.ensures.joined) c.tell.ensures
