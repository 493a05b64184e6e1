-- What is packed is unpacked.
use Rattle.std.proofs.Common.{ℕ, ◌≡◌, ◌<◌, ◌/◌, ◌%◌, List, refl, sym, arith}
use Rattle.vax_strpart.specs.declared.packing.Progress.{Progress}
use Rattle.vax_strpart.specs.declared.packing.Layout.{Layout}
use Rattle.vax_strpart.specs.declared.packing.Layout.TheVariants.{Moves, Compares, Searches, Scans, Translates}
use Rattle.vax_strpart.specs.Packing.{layout_of, packed, packed_as, unpacked, unpacked_as, first_word, third_word, IsProper, AreUnusedZero}

same_progress : (op len1 addr1 byte len2 addr2 table done delta : ℕ) (p : Progress) → op ≡ p.op → len1 ≡ p.len1 → addr1 ≡ p.addr1 → byte ≡ p.byte → len2 ≡ p.len2 → addr2 ≡ p.addr2 → table ≡ p.table → done ≡ p.done → delta ≡ p.delta → record { op = op; len1 = len1; addr1 = addr1; byte = byte; len2 = len2; addr2 = addr2; table = table; done = done; delta = delta } ≡ p
same_progress op len1 addr1 byte len2 addr2 table done delta p a b c d e f g h i = rw (a, b, c, d, e, f, g, h, i)

first_len : (p : Progress) → p.len1 < 0x10000 → first_word p % 0x10000 ≡ p.len1
first_len p l = omega arith

first_byte : (p : Progress) → p.len1 < 0x10000 → p.byte < 0x100 → (first_word p / 0x10000) % 0x100 ≡ p.byte
first_byte p l b = omega arith

first_delta : (p : Progress) → p.len1 < 0x10000 → p.byte < 0x100 → first_word p / 0x1000000 ≡ p.delta
first_delta p l b = omega arith

second_len : (p : Progress) → p.len2 < 0x10000 → third_word p % 0x10000 ≡ p.len2
second_len p l = omega arith

second_done : (p : Progress) → p.len2 < 0x10000 → third_word p / 0x10000 ≡ p.done
second_done p l = omega arith

by_layout : (layout : Layout) (p : Progress) (old : List ℕ) → p.len1 < 0x10000 → p.byte < 0x100 → p.len2 < 0x10000 → AreUnusedZero layout p → unpacked_as layout p.op (packed_as layout p old) ≡ p
by_layout Moves p old l b m u = same_progress _ _ _ _ _ _ _ _ _ p refl (first_len p l) refl (first_byte p l b) (second_len p m) refl (sym u) (second_done p m) (first_delta p l b)
by_layout Compares p old l b m u = same_progress _ _ _ _ _ _ _ _ _ p refl (first_len p l) refl (first_byte p l b) (second_len p m) refl (sym u) (second_done p m) (first_delta p l b)
by_layout Searches p old l b m u = same_progress _ _ _ _ _ _ _ _ _ p refl (first_len p l) refl (first_byte p l b) (sym u.len2_is) (sym u.addr2_is) (sym u.table_is) (sym u.done_is) (first_delta p l b)
by_layout Scans p old l b m u = same_progress _ _ _ _ _ _ _ _ _ p refl (first_len p l) refl (first_byte p l b) (sym u.len2_is) (sym u.addr2_is) refl (sym u.done_is) (first_delta p l b)
by_layout Translates p old l b m u = same_progress _ _ _ _ _ _ _ _ _ p refl (first_len p l) refl (first_byte p l b) (second_len p m) refl refl (second_done p m) (first_delta p l b)

pub unpacked-packed : (p : Progress) (old : List ℕ) → IsProper p → unpacked p.op (packed p old) ≡ p
unfolding unpacked packed
unpacked-packed p old proper = by_layout (layout_of p.op) p old proper.len1 proper.byte proper.len2 proper.unused

pub ruleset packing_laws = (unpacked-packed)
