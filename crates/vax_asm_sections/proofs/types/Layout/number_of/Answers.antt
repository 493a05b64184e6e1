use Rattle.std.proofs.Common.{◌∙◌}
use Rattle.vax_asm_sections.proofs.Numbering.{number_within, numbered_placed}
use Rattle.vax_asm_sections.proofs.types.Layout.number_of.Goals as goal

pub returns-clause-number : goal.returns-clause-number
returns-clause-number g c = c.copied.ensures ∙ c.get.ensures.value ∙ c.args.self.now.known c.args.name.now ∙ numbered_placed 0 c.args.name.now c.args.self.now.sections.items

pub returns-clause-within : goal.returns-clause-within
returns-clause-within g c = number_within c.args.name.now c.args.self.now.sections.items c.copied.result (c.copied.ensures ∙ c.get.ensures.value ∙ c.args.self.now.known c.args.name.now)
