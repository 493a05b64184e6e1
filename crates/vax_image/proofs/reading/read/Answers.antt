use Rattle.std.proofs.Common.{subst, arith, inl, inr}
use Rattle.vax_image.specs.Reading.{Gives}
use Rattle.vax_image.proofs.Whole.{is_found, is_image, image_again}
use Rattle.vax_image.proofs.reading.read.Goals as goal

pub returns-clause-found : goal.returns-clause-found
returns-clause-found c = is_found c.args.bytes.now c.image_of.result (λ i. omega (arith, c.type_inv.bytes i)) c.image_of.ensures

pub returns-clause-first : goal.returns-clause-first
returns-clause-first c = λ image file. subst (λ f. Gives (λ i. i) c.image_of.result f) (image_again image c.args.bytes.now (inl file)) c.image_of.ensures

pub returns-clause-second : goal.returns-clause-second
returns-clause-second c = λ image file. subst (λ f. Gives (λ i. i) c.image_of.result f) (image_again image c.args.bytes.now (inr file)) c.image_of.ensures

pub returns-clause-image : goal.returns-clause-image
returns-clause-image c = is_image c.args.bytes.now c.image_of.result (λ i. omega (arith, c.type_inv.bytes i)) c.image_of.ensures
