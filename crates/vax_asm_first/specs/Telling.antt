-- An expression that is made of what is known of its names (VAX MACRO and Instruction Set Reference Manual, "Terms and expressions").
use Rattle.vax_asm_first.specs.Standing.{Told, unless_certain}
use Rattle.vax_asm_scope.specs.Scope.{Scope}
use Rattle.vax_asm_values.specs.Certain.{certain}
use Rattle.vax_asm_values.specs.Values.{Written, value_of, worth}

abbrev pub told_as : Written → Scope → Told
told_as w s = record {
  written = w;
  value = worth (value_of s.sources) w;
  settled = unless_certain (certain (value_of s.sources) w) (worth (value_of s.sources) w);
  scope = s;
}
