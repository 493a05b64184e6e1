-- How many units there are at most.
use Rattle.std.proofs.Common.{◌≡◌, ℕ, suc, zero, ◌-◌, ◌*◌, ◌^◌, ◌<◌, ◌≤◌, Bool, true, false, if◌then◌else◌, ◌==◌, nat_lt, List, [], ◌∷◌, length, inl, inr, arith}
use Rattle.std.proofs.lemmas.Bool.{cases_lt}
use Rattle.std.proofs.lemmas.Bool.Decides.{nat_tests}
use Rattle.vax_space.specs.declared.Area.{Area}
use Rattle.vax_strpart.specs.declared.packing.Progress.{Progress}
use Rattle.vax_strpart.specs.Kernels.{is_escape}
use Rattle.vax_flat.specs.declared.Rest.{Rest}
use Rattle.vax_flat.specs.Memory.{after, byte_at, bytes_from}
use Rattle.vax_flat.specs.Operand.{plus}
use Rattle.vax_flat.specs.StringSearch.{is_sought}
use Rattle.vax_flat.specs.StringCompare.{behind, first_of, second_of, pairs_of}
use Rattle.vax_flat.specs.StringMove.{moved_count}
use Rattle.vax_flat.specs.StringMatch.{at_next_place, places_of}
use Rattle.vax_flat.proofs.StringSearch.{length_run}
use Rattle.vax_flat.proofs.StringGoing.{Family, Seeking, Scanning, Comparing, Moving, Escaping, Matching}
use Rattle.vax_flat_units.specs.Units.{byte_of, is_marked, to_first, search_units, scan_units, pair_units, compare_units, move_units, escape_units, place_units, stands_at, places_units, match_units}
use Rattle.vax_flat_units.proofs.Reaching.{few_reached}
use Rattle.vax_flat_units.proofs.Reached.{reached_by, violates_by}
use Rattle.vax_flat_units.proofs.Families.{units_by}

few_or_one : (b : Bool) (x y : ℕ) → x ≤ y → (if b then 1 else suc x) ≤ suc y
few_or_one true x y h = omega arith
few_or_one false x y h = omega arith

more_or_one : (b : Bool) (x y : ℕ) → x ≤ y → (if b then suc x else 1) ≤ suc y
more_or_one true x y h = omega arith
more_or_one false x y h = omega arith

none_or : (b : Bool) (x y : ℕ) → x ≤ y → (if b then 0 else x) ≤ y
none_or true x y h = omega arith
none_or false x y h = h

few_first : (found : ℕ → Bool) (xs : List ℕ) → to_first found xs ≤ length xs
unfolding to_first
few_first found [] = omega arith
few_first found (x ∷ xs) = few_or_one (found x) (to_first found xs) (length xs) (few_first found xs)

few_pairs : (byte : ℕ → ℕ) (fill pairs : ℕ) (a b : Rest) → pair_units byte fill pairs a b ≤ pairs
unfolding pair_units
few_pairs byte fill zero a b = omega arith
few_pairs byte fill (suc pairs) a b = more_or_one (byte_of byte fill a == byte_of byte fill b) _ pairs (few_pairs byte fill pairs (behind 1 a) (behind 1 b))

few_place : (byte : ℕ → ℕ) (count a b : ℕ) → place_units byte count a b ≤ count
unfolding place_units
few_place byte zero a b = omega arith
few_place byte (suc count) a b = more_or_one (byte a == byte b) _ count (few_place byte count (after a) (after b))

few_places : (byte : ℕ → ℕ) (places : ℕ) (p : Progress) → p.len1 ≤ 65535 → places_units byte places p ≤ places * 65535
unfolding places_units
few_places byte zero p small = omega arith
few_places byte (suc places) p small =
    let here = few_place byte (p.len1 - p.done) (plus p.addr1 p.done) (plus p.addr2 p.done) in
    let rest = none_or (stands_at byte (p.len1 - p.done) (plus p.addr1 p.done) (plus p.addr2 p.done)) (places_units byte places (at_next_place p)) (places * 65535) (few_places byte places (at_next_place p) small) in
    omega (arith, here, rest)

places_few : (p : Progress) → p.len2 < 65536 → places_of p ≤ 65536
unfolding places_of
places_few p small = elim (cases_lt p.len2 p.len1) [
  | inl l ↦ let t : nat_lt p.len2 p.len1 ≡ true = grind (arith, nat_tests) in rw t (omega arith)
  | inr g ↦ let f : nat_lt p.len2 p.len1 ≡ false = grind (arith, nat_tests) in rw f (omega arith)
]

-- the units of any string instruction are a number of 32 bits
pub units_few : (f : Family) (p : Progress) (m : List Area) → p.len1 < 0x10000 → p.len2 < 0x10000 → units_by f p m < 2 ^ 32
unfolding search_units scan_units compare_units move_units escape_units match_units
units_few (Seeking equal) p m small1 small2 =
    let xs = bytes_from (byte_at m) p.addr1 p.len1 in
    omega (arith, few_first (is_sought equal p.byte) xs, length_run (byte_at m) p.addr1 p.len1)
units_few (Scanning some) p m small1 small2 =
    let xs = bytes_from (byte_at m) p.addr1 p.len1 in
    omega (arith, few_first (is_marked some p m) xs, length_run (byte_at m) p.addr1 p.len1)
units_few Comparing p m small1 small2 =
    omega (arith, few_pairs (byte_at m) p.byte (pairs_of p - p.done) (behind p.done (first_of p)) (behind p.done (second_of p)))
units_few (Moving translate) p m small1 small2 = omega arith
units_few Escaping p m small1 small2 =
    let xs = bytes_from (byte_at m) (plus p.addr1 p.done) (moved_count p - p.done) in
    omega (arith, few_first (is_escape (bytes_from (byte_at m) p.table 256) p.byte) xs, length_run (byte_at m) (plus p.addr1 p.done) (moved_count p - p.done))
units_few Matching p m small1 small2 = omega (arith, few_places (byte_at m) (places_of p) p (omega arith), places_few p small2)

pub reached_few : (f : Family) (p : Progress) (in_mode : ℕ) (m : List Area) → p.len1 < 0x10000 → p.len2 < 0x10000 → reached_by f p in_mode m < 2 ^ 32
reached_few f p in_mode m small1 small2 = omega (arith, few_reached (violates_by f p in_mode m) (units_by f p m), units_few f p m small1 small2)
