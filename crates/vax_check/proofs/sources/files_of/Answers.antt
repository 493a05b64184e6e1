use Rattle.std.proofs.Common.{drop}
use Rattle.vax_check.proofs.Gathering.{none_behind}
use Rattle.vax_check.specs.View.{files_seen, titles_of}
use Rattle.vax_prelude.specs.View.{preludes_seen}
use Rattle.vax_check.proofs.sources.files_of.Goals as goal

pub returns-in_default : goal.returns-in_default
returns-in_default c =
    none_behind (titles_of (preludes_seen c.args.files.preludes.now) (drop c.loop-name.name-index c.args.files.names.now)) c.loop-name.rest.now (files_seen c.loop-name.all.items) _ c.in_default.len_below c.loop-name.invariant
