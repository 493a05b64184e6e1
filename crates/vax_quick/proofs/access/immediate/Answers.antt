use Rattle.vax_isa.specs.declared.Letter.TheVariants.{Read}
use Rattle.vax_flat.specs.declared.Form.TheVariants as form
use Rattle.vax_flat.specs.Operand.{fetched, read_at}
use Rattle.vax_operand.specs.Addressed.{located}
use Rattle.vax_quick.specs.Made.{computer}
use Rattle.vax_quick.proofs.Trees.{gives_by, immediate_is}
use Rattle.vax_quick.proofs.access.immediate.Goals as goal

pub returns-clause-exact : goal.returns-clause-exact
returns-clause-exact g c =
    let width = c.args.width in
    let before = computer g.P.Port.view c.args.core.now c.args.port.now in
    gives_by (λ s next. located Read width (form.Increment 15) s (λ addr s. read_at addr width s next)) (fetched width)
    c.fetch.result before _ (λ s next. immediate_is width s next) c.fetch.ensures.exact
