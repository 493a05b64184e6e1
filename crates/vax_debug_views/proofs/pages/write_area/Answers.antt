use Rattle.std.proofs.Common.{◌+◌, ◌%◌, ◌^◌, ◌∙◌, arith, rules}
use Rattle.vax_outside.proofs.Counting.{counts_then}
use Rattle.vax_outside.proofs.Growth.{grew_next_number, grew_numbers, on_err, prefix_next_number}
use Rattle.vax_outside.specs.declared.traits.Chan.TheVariants.{Report}
use Rattle.vax_machine.specs.Meaning.{engine}
use Rattle.vax_debug.specs.Pages.{pages_at}
use Rattle.vax_debug_views.specs.Pages.{page_shown}
use Rattle.vax_debug_views.proofs.pages.write_area.Goals as goal

pub returns-in_err-write_page-clause-prefix : goal.returns-in_err-write_page-clause-prefix
returns-in_err-write_page-clause-prefix g c =
    on_err c.from_residual.result (prefix_next_number _ _ _ Report (λ k. page_shown c.args.legend.now (pages_at (engine c.args.machine.now)) ((c.args.area.now.first + k) % 2 ^ 32)) c.args.area.now.pages c.loop-k.k (omega arith) c.loop-k.invariant.grew c.in_err-write_page.ensures.prefix)

pub loop-k-preserved : goal.loop-k-preserved
loop-k-preserved g c = record {
  quiet = c.in_ok-write_page.ensures.counts.quiet ∙ c.loop-k.invariant.quiet;
  grew = grew_next_number _ _ _ Report (λ k. page_shown c.args.legend.now (pages_at (engine c.args.machine.now)) ((c.args.area.now.first + k) % 2 ^ 32)) c.args.area.now.pages c.loop-k.k (omega arith) c.loop-k.invariant.grew c.in_ok-write_page.ensures.ok;
}

pub returns-clause-ok : goal.returns-clause-ok
returns-clause-ok g c =
    grew_numbers _ _ Report (λ k. page_shown c.args.legend.now (pages_at (engine c.args.machine.now)) ((c.args.area.now.first + k) % 2 ^ 32)) c.args.area.now.pages c.loop-k.k (omega arith) c.loop-k.invariant.grew

pub returns-in_err-write_page-clause-counts : goal.returns-in_err-write_page-clause-counts
returns-in_err-write_page-clause-counts g c = counts_then (search rules) c.loop-k.invariant.quiet c.in_err-write_page.ensures.counts
