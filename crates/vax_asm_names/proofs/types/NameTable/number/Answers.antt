use Rattle.std.proofs.Common.{sym, ap, ◌∙◌}
use Rattle.std.specs.Option.{option_copied}
use Rattle.vax_asm_names.specs.ByName.{by_name}
use Rattle.vax_asm_names.proofs.Changing.{in_table}
use Rattle.vax_asm_names.proofs.types.NameTable.number.Goals as goal

pub returns-in-Some-clause-within : goal.returns-in-Some-clause-within
returns-in-Some-clause-within c =
    in_table (by_name c.args.self.now.content.numbers) c.args.self.now.content.names.items c.args.text.now _ c.args.self.now.in_range (sym c.get.ensures.value ∙ ap option_copied c.in-Some.is)
