use Rattle.std.proofs.Common.{ℕ, List, subst}
use Rattle.std.specs.Global.{Vec}
use Rattle.vax_outside.specs.Channels.{only}
use Rattle.vax_outside.specs.declared.traits.Chan.TheVariants.{Out}
use Rattle.vax_asm_listing.specs.Listed.{IsListing}
use Rattle.vax_cli.specs.Said.{names_of}
use Rattle.vax_cli.specs.Words.{Text}
use Rattle.vax_image.specs.declared.Base.{Base}
use Rattle.vax_command.specs.Around.{around, change, untouched}
use Rattle.vax_command.specs.Ends.{Ends}
use Rattle.vax_command.specs.ReadingView.{texts}
use Rattle.vax_command.specs.declared.status.Status.TheVariants.{Done}
use Rattle.vax_top.proofs.TopLaws.{sources_listed}
use Rattle.vax_top.proofs.commands.list_sources.Goals as goal

pub returns-in-Ok-load_listing-clause-carries : goal.returns-in-Ok-load_listing-clause-carries
returns-in-Ok-load_listing-clause-carries g c =
    let target = c.args.target in
    let text = c.in-Ok-load_listing.text.items in
    let files = texts c.in-Ok.texts.items in
    let seen = around (change g.S.Files.faults g.S.Files.contents c.args.files.now c.load_files.new.files) (change g.K.Sink.faults g.K.Sink.contents c.args.sink.now c.show.new.sink) untouched in
    let read = subst (λ (list : List (Vec ℕ)). IsListing target.dialect c.base_for.result (texts list) text) c.deref.ensures.value c.in-Ok-load_listing.ensures.listing in
    sources_listed seen c.show.result (names_of c.args.names.now) target files c.in-Ok.ensures.ok tt text
    (subst (λ (region : Base). IsListing target.dialect region files text) c.base_for.ensures read)
    (subst (λ (shown : Text). Ends seen.sink Done (only Out shown) c.show.result) c.deref-in-Ok-load_listing.ensures.value c.show.ensures)
