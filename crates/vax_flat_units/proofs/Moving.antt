-- A part of a move counts right.
use Rattle.std.proofs.Common.{◌≡◌, ℕ, ◌+◌, ◌/◌, ◌%◌, ◌<◌, ◌≤◌, min, Bool, true, false, ◌==◌, nat_lt, if◌then◌else◌, List, length, replicate, refl, arith}
use Rattle.std.proofs.lemmas.Bool.Decides.{nat_tests}
use Rattle.vax_space.specs.declared.Area.{Area}
use Rattle.vax_strpart.specs.declared.packing.Progress.{Progress}
use Rattle.vax_strpart.specs.declared.packing.Layout.TheVariants.{Moves, Translates}
use Rattle.vax_strpart.specs.Packing.{layout_of, IsProper}
use Rattle.vax_flat.specs.declared.Flow.{Flow}
use Rattle.vax_flat.specs.State.{State}
use Rattle.vax_flat.specs.Accesses.{Accesses, Leaf}
use Rattle.vax_flat.specs.Outcome.{outcome_of}
use Rattle.vax_flat.specs.Operand.{plus}
use Rattle.vax_flat.specs.Bound.{LeavesNoPart}
use Rattle.vax_flat.specs.String.{completed, room_up, room_down}
use Rattle.vax_flat.specs.StringAgree.{IsBehind}
use Rattle.vax_flat.specs.StringMove.{moved_count, is_backward, moved, lowest, run_room, move_room, move_end, table_applied, move_run, fill_room, fill_run, move_part}
use Rattle.vax_flat.proofs.StringMove.{some_up, unused_alike}
use Rattle.vax_flat_units.specs.Units.{move_units}
use Rattle.vax_flat_units.proofs.Counting.{Right, none_right, if_right, any_right, span_written_right, written_right, left_right}

pub moved_proper : (translate : Bool) (p : Progress) (n : ℕ) → layout_of p.op ≡ (if translate then Translates else Moves) → IsProper p → IsProper (record p { done = p.done + n })
moved_proper translate p n layout proper = record { len1 = proper.len1; byte = proper.byte; len2 = proper.len2; unused = unused_alike p n (layout_of p.op) translate layout proper.unused }

some_down : (addr page : ℕ) → 0 < room_down addr page
unfolding room_down
some_down addr page = by_page (addr / 512 == page + 1)
  where
    by_page : (b : Bool) → 0 < (if b then 512 else addr % 512 + 1)
    by_page true = omega arith
    by_page false = omega arith

some_run : (p : Progress) (a b : ℕ) → 0 < run_room p a b
unfolding run_room
some_run p a b = by_way (is_backward p)
  where
    by_way : (back : Bool) → 0 < (if back then min (room_down a (b / 512)) (room_down b (a / 512)) else min (room_up a (b / 512)) (room_up b (a / 512)))
    by_way true = let h = some_down a (b / 512) in let k = some_down b (a / 512) in omega arith
    by_way false = let h = some_up a (b / 512) in let k = some_up b (a / 512) in omega arith

room : (p : Progress) → p.done < moved_count p → (0 < move_room p) × (p.done + move_room p ≤ moved_count p)
unfolding move_room
room p h = let r = some_run p (plus p.addr1 (lowest p 1)) (plus p.addr2 (lowest p 1)) in (omega arith, omega arith)

fill : (p : Progress) → p.done < p.len2 → (0 < fill_room p) × (p.done + fill_room p ≤ p.len2)
unfolding fill_room
fill p h = (omega arith, omega arith)

fewer : (p : Progress) (count : ℕ) (m n : List Area) → p.done + count ≤ p.len2 → move_units p m ≡ count + move_units (record p { done = p.done + count }) n
unfolding move_units
fewer p count m n few = omega arith

some_left : (p : Progress) (n : List Area) → p.done < p.len2 → 1 ≤ move_units p n
unfolding move_units
some_left p n h = omega arith

-- MOVC3, MOVC5, MOVTC
module _ (translate : Bool) (p : Progress) (s : State) (m : List Area) (next : Flow → State → Accesses Leaf) (behind : IsBehind next) (full : length s.core.regs ≡ 16) (proper : IsProper p) (layout : layout_of p.op ≡ (if translate then Translates else Moves)) (within : p.done ≤ p.len2) where
  abbrev total : ℕ
  total = move_units p m

  abbrev Fine : Accesses Leaf → List Area → Type 0
  Fine tree n = Right move_units p.op total s tree n

  done : (n : List Area) → LeavesNoPart (outcome_of (moved translate p s next) n)
  unfolding moved completed
  done n = behind.done _ n

  end_right : (count : ℕ) (n : List Area) → 0 < count → p.done + count ≤ p.len2 → Fine (move_end translate p count s next) n
  unfolding move_end
  end_right count n some few =
      if_right move_units p.op total s (p.done + count == p.len2) _ _ n (λ all. none_right move_units p.op total s _ (done n))
      (λ part. left_right move_units p.op total s next behind full (record p { done = p.done + count }) count n refl (moved_proper translate p count layout proper) some (some_left (record p { done = p.done + count }) n (let less : p.done + count < p.len2 = grind (arith, nat_tests) in less)) (fewer p count m n few))

  applied_right : (bytes : List ℕ) (k : List ℕ → State → Accesses Leaf) → ((xs : List ℕ) → Fine (k xs s) m) → Fine (table_applied translate p bytes s k) m
  unfolding table_applied
  applied_right bytes k r = if_right move_units p.op total s translate _ _ m (λ by. any_right move_units p.op total s p.table 256 _ m (λ table. r _)) (λ as_is. r bytes)

  run_is_right : (count : ℕ) → 0 < count → p.done + count ≤ p.len2 → Fine (move_run translate p count s next) m
  unfolding move_run
  run_is_right count some few =
      any_right move_units p.op total s _ count _ m (λ raw.
      applied_right raw _ (λ bytes.
      span_written_right move_units p.op total s (plus p.addr2 (lowest p count)) bytes _ m (omega arith) (λ n kept. end_right count n some few)))

  fill_is_right : (count : ℕ) → 0 < count → p.done + count ≤ p.len2 → Fine (fill_run translate p count s next) m
  unfolding fill_run
  fill_is_right count some few =
      written_right move_units p.op total s (plus p.addr2 p.done) (replicate count p.byte) _ m (omega arith) (λ n kept. end_right count n some few)

  not_all : (p.done == p.len2) ≡ false → p.done < p.len2
  not_all e = grind (arith, nat_tests)

  pub move_right : Fine (move_part translate p s next) m
  unfolding move_part
  move_right =
      if_right move_units p.op total s (p.done == p.len2) _ _ m (λ all. none_right move_units p.op total s _ (done m))
      (λ part.
      let left = not_all part in
      if_right move_units p.op total s (nat_lt p.done (moved_count p)) _ _ m
      (λ less. let h : p.done < moved_count p = grind (arith, nat_tests) in let r = room p h in run_is_right (move_room p) r.0 (omega arith))
      (λ behind. let r = fill p left in fill_is_right (fill_room p) r.0 r.1))
