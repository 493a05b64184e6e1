use Rattle.std.proofs.Common.{◌≡◌, Option, Some, ap, ◌∙◌, rules}
use Rattle.std.specs.Option.{option_map}
use Rattle.vax_cli.specs.Words.{vectors}
use Rattle.vax_cli.specs.declared.vectors.VectorRequest.{VectorRequest}
use Rattle.vax_cli.proofs.plain.vectors_of.Goals as goal

pub returns-clause-said : goal.returns-clause-said
returns-clause-said c =
    let is : Some c.in_ok-request_of.field-0 ≡ c.request_of.result = search rules in
    ap (λ (o : Option VectorRequest). option_map vectors o) is
    ∙ rw (← c.value_in.ensures, ← c.value_in-2.ensures, ← c.value_in-3.ensures, ← c.value_in-4.ensures, ← c.value_in-5.ensures) (ap (λ (o : Option VectorRequest). option_map vectors o) c.request_of.ensures)
