use Rattle.std.proofs.Common.{sym, subst, List, map}
use Rattle.std.specs.Prelude.{All, AllPairs}
use Rattle.vax_lex.specs.Tokens.{IsPieceOf, PiecePrecedes, Covers, piece_span}
use Rattle.vax_lex.specs.declared.token.Piece.{Piece}
use Rattle.vax_lex.proofs.Scans.{scan_within, scan_in_order, scan_covers}
use Rattle.vax_dialect.specs.declared.Dialect.TheVariants.{Vax}
use Rattle.vax_lex.specs.Tokens.{pieces_of}
use Rattle.vax_lex.proofs.Reading.{the_pieces}
use Rattle.vax_lex.proofs.line.scan.Goals as goal

pub returns-in_default-clause-written : goal.returns-in_default-clause-written
returns-in_default-clause-written c = (pieces_of Vax c.args.line.now, the_pieces Vax c.args.line.now, tt)

pub returns-clause-within : goal.returns-clause-within
returns-clause-within c = scan_within c.args.line.now c.deref.result.now c.tokens_in.result c.tokens_in.ensures (let P : List Piece → Type 0 = λ ps. All (IsPieceOf c.args.line.now) ps in subst P (sym c.deref.ensures.value) c.in-Ok.ensures.within)

pub returns-clause-in_order : goal.returns-clause-in_order
returns-clause-in_order c = scan_in_order c.deref.result.now c.tokens_in.result c.tokens_in.ensures (let P : List Piece → Type 0 = λ ps. AllPairs PiecePrecedes ps in subst P (sym c.deref.ensures.value) c.in-Ok.ensures.in_order)

pub returns-clause-covers : goal.returns-clause-covers
returns-clause-covers c = scan_covers c.args.line.now c.deref.result.now c.tokens_in.result c.tokens_in.ensures (let P : List Piece → Type 0 = λ ps. Covers c.args.line.now (map piece_span ps) in subst P (sym c.deref.ensures.value) c.in-Ok.ensures.covers)
