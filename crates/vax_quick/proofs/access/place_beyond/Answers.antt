use Rattle.vax_isa.specs.declared.Letter.TheVariants.{Write}
use Rattle.vax_flat.specs.declared.Operand.TheVariants.{Memory}
use Rattle.vax_flat.specs.Operand.{form_of, formed}
use Rattle.vax_flat.specs.Rows.{write_of}
use Rattle.vax_operand.specs.Addressed.{located}
use Rattle.vax_operand.proofs.Addresses.{place_located}
use Rattle.vax_quick.specs.Made.{computer}
use Rattle.vax_quick.proofs.Trees.{gives_by}
use Rattle.vax_quick.proofs.access.place_beyond.Goals as goal

pub returns-clause-exact : goal.returns-clause-exact
returns-clause-exact g c =
    let width = c.args.width in
    let shape = form_of c.args.byte in
    let before = computer g.P.Port.view c.args.core.now c.args.port.now in
    gives_by (formed (write_of width) shape) (λ s next. located Write width shape s (λ addr s. next (Memory addr) s))
    c.place_there.result before _ (λ s next. place_located width shape s next c.requires.memory) c.place_there.ensures.exact
