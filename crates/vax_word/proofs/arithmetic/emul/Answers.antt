use Rattle.std.proofs.Common.{◌∙◌, ap, not, w64, FitsSigned, rules}
use Rattle.std.proofs.lemmas.Int.{to_z-of_z}
use Rattle.vax_word.specs.Arithmetic.{extended_product}
use Rattle.vax_word.proofs.ProductLemmas.{product_fits, extended_product_fits, fits_quadword, signed_answer-v}
use Rattle.vax_word.proofs.arithmetic.emul.Goals as goal

pub returns-clause-exact : goal.returns-clause-exact
unfolding extended_product
returns-clause-exact c =
    let x = c.extend.result in
    let y = c.extend-2.result in
    let z = c.extend-3.result in
    let x_fits : FitsSigned w64 x = search rules in
    let y_fits : FitsSigned w64 y = search rules in
    let z_fits : FitsSigned w64 z = search rules in
    let product = product_fits x y c.extend.ensures.bound c.extend-2.ensures.bound in
    let fits = extended_product_fits x y z c.extend.ensures.bound c.extend-2.ensures.bound c.extend-3.ensures.bound in
    let narrowed = rw (to_z-of_z _ _ x_fits, to_z-of_z _ _ y_fits, to_z-of_z _ _ product, to_z-of_z _ _ z_fits, to_z-of_z _ _ fits) at c.narrow.ensures.exact in
    cc

pub returns-clause-no_overflow : goal.returns-clause-no_overflow
returns-clause-no_overflow c =
    let x = c.extend.result in
    let y = c.extend-2.result in
    let z = c.extend-3.result in
    let x_fits : FitsSigned w64 x = search rules in
    let y_fits : FitsSigned w64 y = search rules in
    let z_fits : FitsSigned w64 z = search rules in
    let product = product_fits x y c.extend.ensures.bound c.extend-2.ensures.bound in
    let fits = extended_product_fits x y z c.extend.ensures.bound c.extend-2.ensures.bound c.extend-3.ensures.bound in
    let narrowed = rw (to_z-of_z _ _ x_fits, to_z-of_z _ _ y_fits, to_z-of_z _ _ product, to_z-of_z _ _ z_fits, to_z-of_z _ _ fits) at c.narrow.ensures.exact in
    ap (λ r. r.1.v) narrowed ∙ signed_answer-v _ _ ∙ ap not (fits_quadword _ fits)
