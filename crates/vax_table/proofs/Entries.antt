-- What an entry that was made says.
use Rattle.std.proofs.Common.{◌≡◌, ℕ, ◌<◌, ◌≤◌, ◌^◌, Bool, true, false, Some, None, refl, arith}
use Rattle.std.proofs.lemmas.Bool.Decides.{nat_tests}
use Rattle.vax_table.specs.Entry.{entry_with, kept_by, prot_in, is_valid, is_modified, frame_in}

pub prot_made : (valid : Bool) (prot : ℕ) (modified : Bool) (frame : ℕ) → prot ≤ 15 → frame < 2 ^ 21 → prot_in (entry_with valid prot modified frame) ≡ prot
unfolding entry_with
prot_made true prot true frame p f = omega arith
prot_made true prot false frame p f = omega arith
prot_made false prot true frame p f = omega arith
prot_made false prot false frame p f = omega arith

pub frame_made : (valid : Bool) (prot : ℕ) (modified : Bool) (frame : ℕ) → frame < 2 ^ 21 → frame_in (entry_with valid prot modified frame) ≡ frame
unfolding entry_with
frame_made true prot true frame f = omega arith
frame_made true prot false frame f = omega arith
frame_made false prot true frame f = omega arith
frame_made false prot false frame f = omega arith

pub valid_made : (valid : Bool) (prot : ℕ) (modified : Bool) (frame : ℕ) → prot ≤ 15 → frame < 2 ^ 21 → is_valid (entry_with valid prot modified frame) ≡ valid
unfolding entry_with
valid_made true prot true frame p f = grind (arith, nat_tests)
valid_made true prot false frame p f = grind (arith, nat_tests)
valid_made false prot true frame p f = grind (arith, nat_tests)
valid_made false prot false frame p f = grind (arith, nat_tests)

pub modified_made : (valid : Bool) (prot : ℕ) (modified : Bool) (frame : ℕ) → prot ≤ 15 → frame < 2 ^ 21 → is_modified (entry_with valid prot modified frame) ≡ modified
unfolding entry_with
modified_made true prot true frame p f = grind (arith, nat_tests)
modified_made true prot false frame p f = grind (arith, nat_tests)
modified_made false prot true frame p f = grind (arith, nat_tests)
modified_made false prot false frame p f = grind (arith, nat_tests)

-- what it remembers
pub valid_keeps_none : (prot : ℕ) (modified : Bool) (frame : ℕ) → prot ≤ 15 → frame < 2 ^ 21 → kept_by (entry_with true prot modified frame) ≡ None
unfolding kept_by
valid_keeps_none prot modified frame p f = rw (valid_made true prot modified frame p f) refl

pub cleared_keeps_none : (prot frame : ℕ) → prot ≤ 15 → frame < 2 ^ 21 → kept_by (entry_with false prot false frame) ≡ None
unfolding kept_by
cleared_keeps_none prot frame p f = rw (valid_made false prot false frame p f, modified_made false prot false frame p f) refl

pub kept_keeps : (prot frame : ℕ) → prot ≤ 15 → frame < 2 ^ 21 → kept_by (entry_with false prot true frame) ≡ Some frame
unfolding kept_by
kept_keeps prot frame p f = rw (valid_made false prot true frame p f, modified_made false prot true frame p f, frame_made false prot true frame f) refl
