-- A part of any string instruction counts right.
use Rattle.std.proofs.Common.{◌≡◌, ℕ, Bool, true, false, if◌then◌else◌, List, refl, ap, ◌∙◌, arith}
use Rattle.vax_space.specs.declared.Access.TheVariants.{Read, Write}
use Rattle.vax_space.specs.declared.Area.{Area}
use Rattle.vax_isa.specs.declared.actions.Text.{Text}
use Rattle.vax_isa.specs.declared.actions.Text.TheVariants as text
use Rattle.vax_strpart.specs.declared.packing.Progress.{Progress}
use Rattle.vax_strpart.specs.declared.packing.Layout.TheVariants.{Moves, Translates}
use Rattle.vax_strpart.specs.Packing.{layout_of}
use Rattle.vax_flat.specs.State.{State}
use Rattle.vax_flat.specs.Accesses.{Accesses, Leaf}
use Rattle.vax_flat.specs.Outcome.{outcome_of}
use Rattle.vax_flat.specs.String.{IsReady}
use Rattle.vax_flat.specs.StringMove.{by_table, is_reserved, moved_count, table_checked, move_checked, move_start}
use Rattle.vax_flat.specs.StringEscape.{is_escape_reserved, escape_start}
use Rattle.vax_flat.proofs.Listed.{first_by}
use Rattle.vax_flat.proofs.StringGoing.{Family, Seeking, Scanning, Comparing, Moving, Escaping, Matching, IsSound, fin, behind_fin, part_of}
use Rattle.vax_flat.proofs.StringBeginning.{family_of, opcode_of, IsFresh}
use Rattle.vax_flat_units.specs.Units.{Counts, search_units, scan_units, compare_units, move_units, escape_units, match_units, units_left}
use Rattle.vax_flat_units.proofs.Counting.{Right, if_right, check_right}
use Rattle.vax_flat_units.proofs.Searching.{search_right, scan_right}
use Rattle.vax_flat_units.proofs.Comparing.{compare_right}
use Rattle.vax_flat_units.proofs.Moving.{move_right}
use Rattle.vax_flat_units.proofs.Escaping.{escape_right}
use Rattle.vax_flat_units.proofs.Matching.{match_right}

abbrev pub units_by : Family → Progress → List Area → ℕ
units_by (Seeking equal) p m = search_units equal p m
units_by (Scanning some) p m = scan_units some p m
units_by Comparing p m = compare_units p m
units_by (Moving translate) p m = move_units p m
units_by Escaping p m = escape_units p m
units_by Matching p m = match_units p m

pub left_is : (t : Text) (p : Progress) (m : List Area) → units_left (opcode_of t) p m ≡ units_by (family_of t) p m
unfolding units_left
left_is text.Move p m = refl
left_is text.MoveFilled p m = refl
left_is text.MoveTranslated p m = refl
left_is text.MoveTranslatedUntil p m = refl
left_is text.Compare p m = refl
left_is text.CompareFilled p m = refl
left_is text.Locate p m = refl
left_is text.Skip p m = refl
left_is text.Scan p m = refl
left_is text.Span p m = refl
left_is text.Match p m = refl

pub counts : (f : Family) (p : Progress) (s : State) (m : List Area) → IsReady s → IsSound f p s m → Counts (units_by f) p.op (units_by f p m) (outcome_of (part_of f p s fin) m)
counts (Seeking equal) p s m ready i = search_right equal p s m fin behind_fin ready.full i.proper i.holds.1
counts (Scanning some) p s m ready i = scan_right some p s m fin behind_fin ready.full i.proper i.holds.1 i.holds.2
counts Comparing p s m ready i = compare_right p s m fin behind_fin ready.full i.proper i.holds.0
counts (Moving translate) p s m ready i = move_right translate p s m fin behind_fin ready.full i.proper i.holds.0.layout i.holds.2
counts Escaping p s m ready i = escape_right p s m fin behind_fin ready.full i.proper i.holds.0.layout i.holds.0.addr1 i.holds.0.addr2 i.holds.0.table i.holds.1.apart i.holds.2
counts Matching p s m ready i = match_right p s m fin behind_fin ready.full i.proper i.holds.0 i.holds.1

-- with the checks before the first byte is moved
checked_right : (units : Progress → List Area → ℕ) (opcode all : ℕ) (translate : Bool) (p : Progress) (written : ℕ) (s : State) (m : List Area) (k : State → Accesses Leaf) → Right units opcode all s (k s) m → Right units opcode all s (move_checked translate p written s k) m
unfolding move_checked table_checked
checked_right units opcode all translate p written s m k r =
    let last = check_right units opcode all s p.addr2 written Write k m r in
    check_right units opcode all s p.addr1 (moved_count p) Read _ m
    (if_right units opcode all s (by_table translate p) _ _ m (λ yes'. check_right units opcode all s p.table 256 Read _ m last) (λ no'. last))

move_start_right : (translate : Bool) (t : Text) (p : Progress) (s : State) (m : List Area) → IsReady s → IsFresh t p → layout_of (opcode_of t) ≡ (if translate then Translates else Moves) → Right move_units p.op (move_units p m) s (move_start translate p s fin) m
unfolding move_start outcome_of
move_start_right translate t p s m ready f layout =
    if_right move_units p.op _ s (is_reserved translate p) _ _ m (λ reserved. tt)
    (λ fine. checked_right move_units p.op _ translate p p.len2 s m _ (move_right translate p s m fin behind_fin ready.full f.proper (ap layout_of f.op ∙ layout) (let z = f.none in omega arith)))

escape_start_right : (t : Text) (p : Progress) (s : State) (m : List Area) → IsReady s → IsFresh t p → layout_of (opcode_of t) ≡ Translates → Right escape_units p.op (escape_units p m) s (escape_start p s fin) m
unfolding escape_start outcome_of
escape_start_right t p s m ready f layout =
    if_right escape_units p.op _ s (is_escape_reserved p) _ _ m (λ reserved. tt)
    (λ fine. checked_right escape_units p.op _ true p (moved_count p) s m _ (escape_right p s m fin behind_fin ready.full f.proper (ap layout_of f.op ∙ layout) f.addr1 f.addr2 f.table fine (let z = f.none in omega arith)))

-- the first part
pub first_right : (t : Text) (p : Progress) (s : State) (m : List Area) → IsReady s → IsFresh t p → Counts (units_by (family_of t)) p.op (units_by (family_of t) p m) (outcome_of (first_by t p s fin) m)
unfolding first_by layout_of
first_right text.Move p s m ready f = move_start_right false text.Move p s m ready f refl
first_right text.MoveFilled p s m ready f = move_start_right false text.MoveFilled p s m ready f refl
first_right text.MoveTranslated p s m ready f = move_start_right true text.MoveTranslated p s m ready f refl
first_right text.MoveTranslatedUntil p s m ready f = escape_start_right text.MoveTranslatedUntil p s m ready f refl
first_right text.Compare p s m ready f = compare_right p s m fin behind_fin ready.full f.proper (ap layout_of f.op)
first_right text.CompareFilled p s m ready f = compare_right p s m fin behind_fin ready.full f.proper (ap layout_of f.op)
first_right text.Locate p s m ready f = search_right true p s m fin behind_fin ready.full f.proper f.addr1
first_right text.Skip p s m ready f = search_right false p s m fin behind_fin ready.full f.proper f.addr1
first_right text.Scan p s m ready f = scan_right true p s m fin behind_fin ready.full f.proper f.addr1 f.table
first_right text.Span p s m ready f = scan_right false p s m fin behind_fin ready.full f.proper f.addr1 f.table
first_right text.Match p s m ready f = match_right p s m fin behind_fin ready.full f.proper (ap layout_of f.op) (let z = f.none in omega arith)
