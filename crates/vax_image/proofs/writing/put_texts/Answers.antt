use Rattle.std.proofs.Common.{◌<◌, ◌^◌, length, subst, arith}
use Rattle.std.proofs.lemmas.List.{length-map}
use Rattle.vax_image.specs.Texts.{Text}
use Rattle.vax_image.specs.Views.{text}
use Rattle.vax_image.proofs.SecondVersion.{nothing}
use Rattle.vax_image.proofs.Taking.{text_at_place}
use Rattle.vax_image.proofs.writing.put_texts.Goals as goal

pub put_counted-requires : goal.put_counted-requires
put_counted-requires c =
    let len = length-map c.args.texts.now text in
    subst (λ (t : Text). length t.bytes < 2 ^ 32) (text_at_place c.args.texts.now c.loop-text.text-index _ c.loop-text-test.true) (c.requires c.loop-text.text-index nothing (omega arith))
