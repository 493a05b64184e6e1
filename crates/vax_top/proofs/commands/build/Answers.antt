use Rattle.std.proofs.Common.{◌≡◌, List, ℕ, Ok, subst}
use Rattle.std.specs.Global.{Vec}
use Rattle.vax_outside.specs.Channels.{only}
use Rattle.vax_outside.specs.declared.traits.Chan.TheVariants.{Out}
use Rattle.vax_cli.specs.Said.{names_of}
use Rattle.vax_cli.specs.Words.{Text}
use Rattle.vax_image.specs.declared.Base.{Base}
use Rattle.vax_command.specs.Around.{around, change, untouched, with_preludes}
use Rattle.vax_command.specs.Ends.{Ends}
use Rattle.vax_command.specs.ReadingView.{texts}
use Rattle.vax_command.specs.declared.status.Status.TheVariants.{Done}
use Rattle.vax_prelude.specs.View.{preludes_seen}
use Rattle.vax_top.specs.Loaded.{image_for}
use Rattle.vax_top.proofs.TopLaws.{image_built}
use Rattle.vax_top.proofs.commands.build.Goals as goal

pub returns-in-Ok-image_bytes-clause-carries : goal.returns-in-Ok-image_bytes-clause-carries
returns-in-Ok-image_bytes-clause-carries g c =
    let image = c.in-Ok-load_image_for.image in
    let files = texts c.in-Ok.texts.items in
    let seen = with_preludes (preludes_seen c.args.preludes.now) (around (change g.S.Files.faults g.S.Files.contents c.args.files.now c.load_files.new.files) (change g.K.Sink.faults g.K.Sink.contents c.args.sink.now c.show.new.sink) untouched) in
    let read = subst (λ (list : List (Vec ℕ)). image_for seen.preludes c.args.target.dialect c.base_for.result (texts list) ≡ Ok image) c.deref.ensures.value c.in-Ok-load_image_for.ensures.image in
    let is = subst (λ (region : Base). image_for seen.preludes c.args.target.dialect region files ≡ Ok image) c.base_for.ensures read in
    image_built seen c.show.result (names_of c.args.names.now) c.args.target files c.in-Ok.ensures.ok tt c.args.format image c.in-Ok-image_bytes.bytes.items is c.in-Ok-image_bytes.ensures
    (subst (λ (shown : Text). Ends seen.sink Done (only Out shown) c.show.result) c.deref-in-Ok-image_bytes.ensures.value c.show.ensures)
