use Rattle.std.proofs.Common.{◌≡◌, ◌+◌, ◌*◌, ◌∙◌, ℕ, ap, arith}
use Rattle.vax_debug.specs.Calls.{longword_at}
use Rattle.vax_debug_views.specs.Views.{argument, beyond, first_arguments}
use Rattle.vax_debug_views.proofs.Keeping.{argument_more, few_arguments}
use Rattle.vax_debug_views.proofs.contents.first_arguments.Goals as goal

pub returns-in-Err-clause-stays : goal.returns-in-Err-clause-stays
returns-in-Err-clause-stays g c = λ sink o s replies here. c.longword.ensures.stays sink o s replies (c.loop-place.invariant.stays sink o s replies here)

pub loop-place-preserved : goal.loop-place-preserved
loop-place-preserved g c = record {
  few = few_arguments c.loop-place.place c.loop-place.arguments c.add.new.self c.in-Ok.argument c.loop-place.invariant.few c.add.ensures;
  told = λ sink o s replies here.
      let there = c.loop-place.invariant.stays sink o s replies here in
      let same : c.from.result ≡ c.loop-place.place = c.from.ensures in
      let is : c.in-Ok.argument ≡ argument c.args.frame s.machine c.loop-place.place = c.in-Ok.ensures.tells sink o s replies there ∙ ap (λ (n : ℕ). longword_at s.machine (beyond c.args.frame.ap (4 * n + 4))) same in
      argument_more c.args.frame s.machine c.loop-place.place c.loop-place.arguments c.add.new.self c.in-Ok.argument (c.loop-place.invariant.told sink o s replies here) is c.add.ensures;
  stays = λ sink o s replies here. c.longword.ensures.stays sink o s replies (c.loop-place.invariant.stays sink o s replies here);
  quiet = c.in-Ok.ensures.counts.quiet ∙ c.loop-place.invariant.quiet;
}

pub returns-clause-tells : goal.returns-clause-tells
returns-clause-tells g c = λ sink o s replies here.
    let all : c.loop-place.place ≡ c.args.count = omega arith in
    c.loop-place.invariant.told sink o s replies here ∙ ap (λ (n : ℕ). first_arguments n c.args.frame s.machine) all
