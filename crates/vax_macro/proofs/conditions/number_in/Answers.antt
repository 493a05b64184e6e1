use Rattle.std.proofs.Common.{◌≡◌, ◌∙◌, map}
use Rattle.std.proofs.lemmas.List.Elements.{All-same}
use Rattle.vax_lex.specs.Tokens.{IsTokenOf}
use Rattle.vax_macro.specs.Conditions.{token_of}
use Rattle.vax_macro.proofs.Tokens.{tokens_fit}
use Rattle.vax_macro.proofs.conditions.number_in.Goals as goal

pub evaluate-requires : goal.evaluate-requires
evaluate-requires g c =
    let same : c.deref.result.now ≡ map token_of c.args.pieces.now = c.deref.ensures.value ∙ c.in_ok-tokens.ensures in
    All-same (IsTokenOf c.args.text.now) _ _ same (tokens_fit c.args.text.now c.args.pieces.now c.requires)
