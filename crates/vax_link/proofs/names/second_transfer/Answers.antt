use Rattle.std.proofs.Common.{◌+◌, List, length, take, sym, ap, ◌∙◌}
use Rattle.std.proofs.lemmas.Bool.{false≢true}
use Rattle.std.proofs.lemmas.List.{length_push}
use Rattle.vax_module.specs.declared.Symbol.{Symbol}
use Rattle.vax_link.specs.Names.{transfers}
use Rattle.vax_link.proofs.NameLaws.{few_transfers, no_second, second_at, transfers_kept, transfers_more}
use Rattle.vax_link.proofs.names.second_transfer.Goals as goal
use Rattle.vax_link.proofs.names.second_transfer.Goals.{in-Some+else-found, in_default}

pub returns-then-found : goal.returns-then-found
returns-then-found c =
    second_at c.args.modules.now c.loop-module.module-index c.module-item.result c.in-Some.symbol c.as_slice.result.now c.loop-module-test.true c.module-item.is (c.loop-module.invariant.one c.if-found.true) c.in-Some.is
    c.as_slice.ensures

pub loop-module-preserved : goal.loop-module-preserved
loop-module-preserved c =
    let modules = c.args.modules.now in
    let i = c.loop-module.module-index in
    elim c.match-module.branch [
      | in-Some+else-found w ↦ record {
        none = λ e. absurd (false≢true (sym e ∙ w.found-is));
        one = λ e.
            ap length (transfers_more modules i c.module-item.result w.in-Some.symbol c.loop-module-test.true c.module-item.is w.in-Some.is) ∙ length_push (transfers (take i modules)) w.in-Some.symbol
            ∙ ap (λ (xs : List Symbol). length xs + 1) (c.loop-module.invariant.none w.if-found.false);
      }
      | in_default w ↦
          let kept = transfers_kept modules i c.module-item.result c.loop-module-test.true c.module-item.is w.in_default.is in
          record {
            none = λ e. kept ∙ c.loop-module.invariant.none (sym w.found-is ∙ e);
            one = λ e. ap length kept ∙ c.loop-module.invariant.one (sym w.found-is ∙ e);
          }
    ]

pub returns : goal.returns
returns c =
    no_second c.args.modules.now
    (few_transfers c.loop-module.found c.args.modules.now c.loop-module.module-index c.loop-module-test.false c.loop-module.invariant.none c.loop-module.invariant.one)
