use Rattle.std.proofs.Common.{◌∙◌, ◌+◌, sym, ap, drop, Option}
use Rattle.vax_debug_names.specs.Names.{nearest_from}
use Rattle.vax_debug_names.specs.declared.Near.{Near}
use Rattle.vax_debug_names.proofs.Going.{nearest_last, nearest_next}
use Rattle.vax_debug_names.proofs.nearest.Goals as goal

pub loop-index-preserved : goal.loop-index-preserved
loop-index-preserved c =
    c.loop-index.invariant
    ∙ nearest_next c.args.symbols.now c.args.address c.loop-index.index c.loop-index.found c.index-symbols-index.result c.loop-index-test.true c.index-symbols-index.is
    ∙ ap (λ (found : Option Near). nearest_from (c.loop-index.index + 1) c.args.address found (drop (c.loop-index.index + 1) c.args.symbols.now)) (sym c.nearer-found.ensures)

pub returns : goal.returns
returns c = sym (c.loop-index.invariant ∙ nearest_last c.args.symbols.now c.args.address c.loop-index.index c.loop-index.found c.loop-index-test.false)
