use Rattle.std.proofs.lemmas.Result.{IfOk-weaker}
use Rattle.vax_debug.proofs.Watching.{first_changed, others_changed}
use Rattle.vax_debug.proofs.watches.+has_changed.Goals as goal

pub returns-in-Ok-true-clause-tells : goal.returns-in-Ok-true-clause-tells
returns-in-Ok-true-clause-tells g t c = λ sink o s replies here.
    first_changed s.machine c.args.seen.now c.in-Some.first.now c.in-Some.rest.now c.in-Ok-true.field-0 c.in-Some.ensures.cases.0 (c.in-Ok-true.ensures.tells sink o s replies here) c.in-Ok-true.field-0-test

pub returns-in-Ok-false-clause-tells : goal.returns-in-Ok-false-clause-tells
returns-in-Ok-false-clause-tells g t c = λ sink.
    IfOk-weaker c.has_changed.result _ _ (λ rest tells o s replies here.
    others_changed s.machine c.args.seen.now c.in-Some.first.now c.in-Some.rest.now c.in-Ok-false.field-0 rest c.in-Some.ensures.cases.0 (c.in-Ok-false.ensures.tells sink o s replies here) c.in-Ok-false.field-0-test
    (tells o s replies (c.is_changed.ensures.stays sink o s replies here)))
    (c.has_changed.ensures.tells sink)

pub returns-in-Ok-false-clause-stays : goal.returns-in-Ok-false-clause-stays
returns-in-Ok-false-clause-stays g t c = λ sink o s replies here. c.has_changed.ensures.stays sink o s replies (c.is_changed.ensures.stays sink o s replies here)
