use Rattle.std.proofs.Common.{◌≡◌, ◌+◌, ◌*◌, ◌++◌, length, take}
use Rattle.std.specs.List.{flat_map}
use Rattle.vax_save.specs.Saved.{longword}
use Rattle.vax_save.proofs.fields.push_longwords.Given as goal

-- the numbers so far stand behind what was there
abbrev pub invariant-loop-n : goal.invariant-loop-n
invariant-loop-n l = record {
  exact : l.fields.items ≡ l.fn.fields.items ++ flat_map longword (take l.n-index l.numbers);
  len : length l.fields.items ≡ length l.fn.fields.items + 4 * l.n-index;
}
