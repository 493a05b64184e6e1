use Rattle.std.proofs.Common.{◌≡◌, ◌∙◌}
use Rattle.vax_debug.proofs.Watching.{few_more, seen_all, seen_more}
use Rattle.vax_debug.proofs.watches.look.Goals as goal

pub returns-in-Err-clause-stays : goal.returns-in-Err-clause-stays
returns-in-Err-clause-stays g c = λ sink o s replies here. c.look_at.ensures.stays sink o s replies (c.loop-watch.invariant.stays sink o s replies here)

pub loop-watch-preserved : goal.loop-watch-preserved
loop-watch-preserved g c = record {
  few = few_more c.loop-watch.watch-index c.loop-watch.seen c.add.new.self c.in-Ok.bytes c.loop-watch.invariant.few c.add.ensures;
  saw = λ sink o s replies here.
      let same : c.as_slice-watch-items.result.now ≡ c.args.watches.now = cc in
      seen_more s.machine c.args.watches.now c.as_slice-watch-items.result.now c.loop-watch.watch-index (record { address = 0; count = 0 }) c.loop-watch.seen c.add.new.self c.in-Ok.bytes same c.loop-watch-test.true (c.loop-watch.invariant.saw sink o s replies here)
      (c.in-Ok.ensures.tells sink o s replies (c.loop-watch.invariant.stays sink o s replies here)) c.add.ensures;
  stays = λ sink o s replies here. c.look_at.ensures.stays sink o s replies (c.loop-watch.invariant.stays sink o s replies here);
  quiet = c.in-Ok.ensures.counts.quiet ∙ c.loop-watch.invariant.quiet;
}

pub returns-clause-tells : goal.returns-clause-tells
returns-clause-tells g c = λ sink o s replies here.
    let same : c.as_slice-watch-items.result.now ≡ c.args.watches.now = cc in
    seen_all s.machine c.args.watches.now c.as_slice-watch-items.result.now c.loop-watch.watch-index c.loop-watch.seen same c.loop-watch-test.false (c.loop-watch.invariant.saw sink o s replies here)
