-- What the code's types mean.
use Rattle.vax_asm_data.specs.Data as specs
use Rattle.vax_asm_data.specs.declared.texts.TextForm.{TextForm}
use Rattle.vax_asm_data.specs.declared.texts.TextForm.TheVariants as form

abbrev pub ending_of : TextForm → specs.Ending
ending_of form.Plain = specs.Plain
ending_of form.CountFirst = specs.Counted_first
ending_of form.ZeroLast = specs.Zero_last
ending_of form.DescriptorFirst = specs.Described
