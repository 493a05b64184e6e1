use Rattle.std.proofs.Common.{◌≡◌, ◌<◌, ◌^◌, drop}
use Rattle.vax_lex.specs.Characters.{number_of, number_after}
use Rattle.vax_lex.proofs.head.number_of.Given as goal

abbrev pub invariant-loop-digit : goal.invariant-loop-digit
invariant-loop-digit l = record {
  in_range : l.number < 2 ^ 64;
  so_far : number_after l.radix l.number (drop l.digit-index l.digits) ≡ number_of l.radix l.digits;
}
