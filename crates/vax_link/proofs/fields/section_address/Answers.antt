use Rattle.std.proofs.Common.{◌≤◌, ℕ, List, length, subst}
use Rattle.vax_link.proofs.FieldLaws.{address_past, past_at}
use Rattle.vax_link.proofs.fields.section_address.Goals as goal

pub returns-in-None : goal.returns-in-None
returns-in-None c = λ region modules layout.
    let past = past_at c.deref.result.now c.args.owner c.get.result c.get.ensures.lookup c.in-None.is in
    address_past region modules c.args.layout.now.firsts.items c.args.owner c.args.section layout.firsts (subst (λ (xs : List ℕ). length xs ≤ c.args.owner) c.deref.ensures.value past)
