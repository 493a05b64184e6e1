use Rattle.std.proofs.Common.{◌≡◌, ◌≤◌, drop, take, nat_lt}
use Rattle.std.specs.List.{list_all}
use Rattle.std.specs.Char.{digit_value}
use Rattle.std.specs.Str.Parse.{digits_value}
use Rattle.vax_lines.proofs.numbers.number_in.Given as goal

-- the value of the digits so far, and what is left decides
abbrev pub invariant-loop-byte : goal.invariant-loop-byte
invariant-loop-byte l = record {
  value : l.value ≡ digits_value l.radix (take l.byte-index l.word);
  small : l.value ≤ l.most;
  digits : list_all (λ c. nat_lt (digit_value c) l.radix) (drop l.byte-index l.word) ≡ list_all (λ c. nat_lt (digit_value c) l.radix) l.word;
}
