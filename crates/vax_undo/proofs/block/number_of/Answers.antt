use Rattle.std.proofs.Common.{arith, ap, ◌∙◌, append-nil}
use Rattle.vax_undo.specs.Blocks.{number_in}
use Rattle.vax_undo.proofs.Numbers.{number_1, number_2, number_4, number_8}
use Rattle.vax_undo.proofs.block.number_of.Goals as goal

pub returns-in-len1 : goal.returns-in-len1
returns-in-len1 c = record { value = omega (arith, number_1 c.args.bytes.now (omega arith)) }

pub returns-in-len2 : goal.returns-in-len2
returns-in-len2 c = record { value = omega (arith, number_2 c.args.bytes.now (omega arith)) }

pub returns-in-len4 : goal.returns-in-len4
returns-in-len4 c = record { value = omega (arith, number_4 c.args.bytes.now (omega arith)) }

pub returns-in-len8 : goal.returns-in-len8
returns-in-len8 c = record { value = omega (arith, number_8 c.args.bytes.now (omega arith)) }

pub returns-in_default : goal.returns-in_default
returns-in_default c = record { value = c.number_of_parts.ensures ∙ ap number_in (simp append-nil) }
