use Rattle.std.proofs.Common.{List, map, ap, ◌∙◌}
use Rattle.std.specs.Borrow.{Bor}
use Rattle.vax_lex.specs.declared.token.Token.{Token}
use Rattle.vax_asm_statement.specs.Parts.{parts}
use Rattle.vax_asm_labels.proofs.Listing.{no_name}
use Rattle.vax_asm_labels.proofs.Parts.{part_at}
use Rattle.vax_asm_labels.proofs.entries.appear_all.Goals as goal

pub name_of-requires : goal.name_of-requires
name_of-requires c =
    let now : Bor (List Token) → List Token = λ s. s.now in
    part_at c.args.line.now (parts c.args.operands.now) c.deref-part-items.result.now c.loop-part.part-index _
    (ap (map now) c.deref-part-items.ensures.value ∙ c.in-Ok.ensures.parts) (c.in-Ok.ensures.within c.args.line.now c.requires.tokens) c.loop-part-test.true

pub returns-in-None-clause-scope : goal.returns-in-None-clause-scope
returns-in-None-clause-scope c =
    no_name c.args.linkage c.args.line.now _ _ c.deref-part-items.result.now c.loop-part.part-index _ c.loop-part-test.true c.in-None.ensures c.loop-part.invariant.names
