use Rattle.std.proofs.Common.{◌≡◌, take}
use Rattle.std.specs.List.{fold}
use Rattle.vax_isa.specs.Buckets.{hash_more}
use Rattle.vax_isa.proofs.buckets.hash.Given as goal

abbrev pub invariant-loop-byte : goal.invariant-loop-byte
invariant-loop-byte l = l.hash ≡ fold hash_more 0 (take l.byte-index l.byte-items)
