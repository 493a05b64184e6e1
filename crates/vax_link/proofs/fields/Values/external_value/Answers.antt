use Rattle.std.proofs.Common.{ap, ◌∙◌}
use Rattle.vax_link.specs.Placed.{bytes_in}
use Rattle.vax_link.proofs.FieldLaws.{external_found, external_past, found_at, past_at, values_at}
use Rattle.vax_link.proofs.fields.Values.external_value.Goals as goal

pub returns-in-None-get : goal.returns-in-None-get
returns-in-None-get c = λ region modules values.
    let owner = c.args.owner in
    let v = c.in-Some.values.now in
    let at = found_at c.deref.result.now owner c.get.result c.in-Some.values c.get.ensures.lookup c.in-Some.is in
    let items = values_at region modules c.deref.result.now owner v (ap bytes_in c.deref.ensures.value ∙ values.externals) at in
    external_past region modules owner c.args.index c.deref-in-Some.result.now (c.deref-in-Some.ensures.value ∙ items)
    (past_at c.deref-in-Some.result.now c.args.index c.get-in-Some.result c.get-in-Some.ensures.lookup c.in-None-get.is)

pub returns-in-Some-get : goal.returns-in-Some-get
returns-in-Some-get c = λ region modules values.
    let owner = c.args.owner in
    let v = c.in-Some.values.now in
    let at = found_at c.deref.result.now owner c.get.result c.in-Some.values c.get.ensures.lookup c.in-Some.is in
    let items = values_at region modules c.deref.result.now owner v (ap bytes_in c.deref.ensures.value ∙ values.externals) at in
    external_found region modules owner c.args.index c.deref-in-Some.result.now c.in-Some-get.value.now (c.deref-in-Some.ensures.value ∙ items)
    (found_at c.deref-in-Some.result.now c.args.index c.get-in-Some.result c.in-Some-get.value c.get-in-Some.ensures.lookup c.in-Some-get.is)
