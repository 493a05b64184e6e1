use Rattle.std.proofs.Common.{sym, subst}
use Rattle.vax_isa.specs.declared.Letter.TheVariants.{Read}
use Rattle.vax_flat.specs.Operand.{read_at}
use Rattle.vax_operand.specs.Addressed.{located}
use Rattle.vax_quick.specs.Made.{Gives, computer}
use Rattle.vax_quick.proofs.Trees.{is_deferred, is_near}
use Rattle.vax_quick.proofs.access.value_there.Goals as goal

pub returns-in-6-clause-exact : goal.returns-in-6-clause-exact
returns-in-6-clause-exact g c =
    let width = c.args.width in
    let before = computer g.P.Port.view c.args.core.now c.args.port.now in
    let after = computer g.P.Port.view c.value_deferred.new.core c.value_deferred.new.port in
    subst (λ shape. Gives (λ s next. located Read width shape s (λ addr s. read_at addr width s next)) c.value_deferred.result before after) (sym (is_deferred c.args.byte c.in-6.is)) c.value_deferred.ensures.exact

pub returns-in-10-clause-exact : goal.returns-in-10-clause-exact
returns-in-10-clause-exact g c =
    let width = c.args.width in
    let before = computer g.P.Port.view c.args.core.now c.args.port.now in
    let after = computer g.P.Port.view c.value_near.new.core c.value_near.new.port in
    subst (λ shape. Gives (λ s next. located Read width shape s (λ addr s. read_at addr width s next)) c.value_near.result before after) (sym (is_near c.args.byte c.in-10.is)) c.value_near.ensures.exact
