use Rattle.std.proofs.Common.{◌≡◌, List, ℕ, Ok, subst, refl}
use Rattle.std.specs.Global.{Vec}
use Rattle.vax_cli.specs.Said.{names_of}
use Rattle.vax_image.specs.declared.Base.{Base}
use Rattle.vax_command.specs.Around.{around, change, untouched, with_preludes}
use Rattle.vax_command.specs.ReadingView.{texts}
use Rattle.vax_prelude.specs.View.{preludes_seen}
use Rattle.vax_top.specs.Loaded.{image_for}
use Rattle.vax_listing.specs.Listing.{listing}
use Rattle.vax_top.proofs.TopLaws.{image_listed}
use Rattle.vax_top.proofs.commands.list.Goals as goal

pub returns-in-Ok-load_image_for-clause-carries : goal.returns-in-Ok-load_image_for-clause-carries
returns-in-Ok-load_image_for-clause-carries g c =
    let image = c.in-Ok-load_image_for.image in
    let files = texts c.in-Ok.texts.items in
    let seen = with_preludes (preludes_seen c.args.preludes.now) (around (change g.S.Files.faults g.S.Files.contents c.args.files.now c.load_files.new.files) (change g.K.Sink.faults g.K.Sink.contents c.args.sink.now c.show_listing.new.sink) untouched) in
    let read = subst (λ (list : List (Vec ℕ)). image_for seen.preludes c.args.target.dialect c.base_for.result (texts list) ≡ Ok image) c.deref.ensures.value c.in-Ok-load_image_for.ensures.image in
    let is = subst (λ (region : Base). image_for seen.preludes c.args.target.dialect region files ≡ Ok image) c.base_for.ensures read in
    image_listed seen c.show_listing.result (names_of c.args.names.now) c.args.target files c.in-Ok.ensures.ok tt image (listing image.areas) is refl c.show_listing.ensures
