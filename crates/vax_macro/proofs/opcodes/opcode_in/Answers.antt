use Rattle.std.proofs.lemmas.List.Elements.{All-rest}
use Rattle.vax_lex.specs.Tokens.{IsPieceOf}
use Rattle.vax_macro.proofs.opcodes.opcode_in.Goals as goal

pub opcode_behind-requires : goal.opcode_behind-requires
opcode_behind-requires g c =
    let rest = All-rest (IsPieceOf c.args.text.now) c.in-Some.first.now c.in-Some.rest.now c.args.pieces.now c.in-Some.ensures.cases.0 c.requires in
    c.behind_name.ensures.within c.args.text.now rest
