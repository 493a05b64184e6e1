use Rattle.std.proofs.Common.{◌∙◌, ℕ, Option, ap}
use Rattle.std.proofs.lemmas.List.{length-map}
use Rattle.vax_lex.specs.declared.value.Value.{Value}
use Rattle.vax_asm_values.specs.Definitions.{sources_of}
use Rattle.vax_asm_values.specs.Values.{worth}
use Rattle.vax_asm_values.specs.View.{source_of, written_of, lists_in}
use Rattle.vax_asm_values.proofs.Seen.{values_are}
use Rattle.vax_asm_values.proofs.definitions.Definitions.evaluate.Goals as goal

pub returns : goal.returns
returns c =
    let board = c.args.self.now.board in
    c.evaluate.ensures
    ∙ ap (λ (f : ℕ → Option Value). worth f (written_of c.args.expression.now))
    (values_are (sources_of c.args.self.now) board.values.items (lists_in board.waiting) (rw (length-map board.sources.items source_of) c.args.self.now.values) c.args.self.now.settled)
