use Rattle.std.proofs.Common.{subst}
use Rattle.vax_elf.specs.Faults.{Gives}
use Rattle.vax_elf.proofs.Executables.{is_found, read_again}
use Rattle.vax_elf.proofs.Images.{is_image}
use Rattle.vax_elf.proofs.reading.read.Goals as goal

pub returns-clause-found : goal.returns-clause-found
returns-clause-found c = is_found c.args.file.now c.image_of.result c.image_of.ensures

pub returns-clause-image : goal.returns-clause-image
returns-clause-image c = is_image c.args.file.now c.image_of.result c.image_of.ensures

pub returns-clause-first : goal.returns-clause-first
returns-clause-first c = λ image file. subst (λ f. Gives (λ i. i) c.image_of.result f) (read_again c.args.file.now image file) c.image_of.ensures
