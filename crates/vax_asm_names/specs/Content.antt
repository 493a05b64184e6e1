-- What the content of the table means.
use Rattle.std.specs.Prelude.{◌∷◌, map}
use Rattle.vax_asm_names.specs.ByName.{by_name}
use Rattle.vax_asm_names.specs.Names as specs
use Rattle.vax_asm_names.specs.declared.types.Name.{Name}
use Rattle.vax_asm_names.specs.declared.types.Content.{Content}

abbrev pub name_of : Name → specs.Name
name_of n = record { text = n.text.items; definition = n.definition; defined_by = n.defined_by; global = n.global; external = n.external; weak = n.weak }

abbrev pub names_in : Content → specs.Names
names_in c = record { numbers = by_name c.numbers; all = map name_of c.names.items; blocks = by_name c.masks ∷ by_name c.first_block ∷ map by_name c.further_blocks.items; block = c.block; assumes_external = c.assumes_external }
