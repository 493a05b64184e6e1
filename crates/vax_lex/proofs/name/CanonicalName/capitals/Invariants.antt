use Rattle.std.proofs.Common.{◌≡◌, length, take}
use Rattle.std.specs.Prelude.{map}
use Rattle.std.specs.Char.{to_ascii_uppercase}
use Rattle.vax_lex.proofs.name.CanonicalName.capitals.Given as goal

abbrev pub invariant-loop-i : goal.invariant-loop-i
invariant-loop-i l = record {
  same_length : length l.bytes ≡ 31;
  so_far : take l.i l.bytes ≡ map to_ascii_uppercase (take l.i l.text);
}
