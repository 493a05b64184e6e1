use Rattle.std.proofs.Common.{◌≡◌, ap, ◌∙◌, length, arith}
use Rattle.vax_undo.proofs.Ranges.{bytes_length}
use Rattle.vax_pager.proofs.Views.{number_there}
use Rattle.vax_pager.proofs.store.Store.number_in.Goals as goal

pub number_of-requires-clause-some : goal.number_of-requires-clause-some
number_of-requires-clause-some c =
    let e : length c.part.result.now ≡ c.args.n = ap length c.part.ensures ∙ bytes_length _ _ _ in
    omega (arith, c.requires.some)

pub number_of-requires-clause-few : goal.number_of-requires-clause-few
number_of-requires-clause-few c =
    let e : length c.part.result.now ≡ c.args.n = ap length c.part.ensures ∙ bytes_length _ _ _ in
    omega (arith, c.requires.few)

pub returns : goal.returns
returns c = number_there c.args.self.now c.args.addr c.args.n _ c.part.result.now c.part.ensures c.number_of.ensures.value
