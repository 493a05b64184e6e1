use Rattle.std.proofs.Common.{◌≡◌, ◌∙◌, sym, true, false}
use Rattle.std.specs.Str.{bytes_eq}
use Rattle.vax_debug_names.proofs.Going.{value_here, value_last, value_not_here}
use Rattle.vax_debug_names.proofs.value_of.Goals as goal

pub returns-then-eq : goal.returns-then-eq
returns-then-eq c =
    let is : bytes_eq c.symbol-item.result.name c.args.name.now ≡ true = cc in
    sym (c.loop-symbol.invariant ∙ value_here c.args.symbols.now c.args.name.now c.loop-symbol.symbol-index c.symbol-item.result c.loop-symbol-test.true c.symbol-item.is is)

pub loop-symbol-preserved : goal.loop-symbol-preserved
loop-symbol-preserved c =
    let is : bytes_eq c.symbol-item.result.name c.args.name.now ≡ false = cc in
    c.loop-symbol.invariant ∙ value_not_here c.args.symbols.now c.args.name.now c.loop-symbol.symbol-index c.symbol-item.result c.loop-symbol-test.true c.symbol-item.is is

pub returns : goal.returns
returns c = sym (c.loop-symbol.invariant ∙ value_last c.args.symbols.now c.args.name.now c.loop-symbol.symbol-index c.loop-symbol-test.false)
