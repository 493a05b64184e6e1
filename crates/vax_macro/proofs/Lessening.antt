-- What is left of a line to be read again is less than it.
use Rattle.std.proofs.Common.{◌≡◌, ◌<◌, ◌≤◌, ◌+◌, ◌*◌, ℕ, Bool, true, false, cond, length, drop, Some, ap, arith}
use Rattle.std.proofs.lemmas.List.{length-drop}
use Rattle.vax_macro.specs.LineViews.{remainder_of, reading_of}
use Rattle.vax_macro.specs.Lines.{Reading}
use Rattle.vax_macro.specs.Rest.{weight}
use Rattle.vax_macro.specs.Readings.{left_of}
use Rattle.vax_macro.specs.Expansion.{whole}
use Rattle.vax_macro.specs.declared.line_types.Reading as code_reading
use Rattle.vax_macro.specs.declared.line_types.Remainder as code_remainder

left_if : (t : Bool) (n : ℕ) → n * 2 + cond t 1 2 ≡ n * 2 + cond t 0 1 + 1
left_if true n = omega arith
left_if false n = omega arith

-- a line that is read again
pub read_again : (left : code_remainder.Remainder) (line : code_reading.Reading) → reading_of line ≡ whole (remainder_of left) → left_of line < weight (Some (remainder_of left))
read_again left line e =
    omega (arith, left_if left.labelled (length left.text.items), ap (λ (r : Reading). length r.text * 2 + cond r.labelled 0 1) e)

at_most : (t : Bool) (n : ℕ) → n * 2 + cond t 0 1 ≤ n * 2 + 1
at_most true n = omega arith
at_most false n = omega arith

-- a line of the source or an expansion
pub left_at_most : (line : code_reading.Reading) → left_of line ≤ length line.text.items * 2 + 1
left_at_most line = at_most line.labelled (length line.text.items)

at_least : (t : Bool) (n : ℕ) → n * 2 ≤ n * 2 + cond t 0 1
at_least true n = omega arith
at_least false n = omega arith

-- the statement of an `.IIF`
pub cut_less : (line : code_reading.Reading) (at : ℕ) → 0 < at → 0 < length line.text.items → length (drop at line.text.items) * 2 + 2 ≤ left_of line
cut_less line at h some = omega (arith, h, some, length-drop at line.text.items, at_least line.labelled (length line.text.items))

unlabelled : (t : Bool) (n : ℕ) → t ≡ false → n * 2 + 1 ≤ n * 2 + cond t 0 1
unlabelled true n e = absurd cc
unlabelled false n e = omega arith

-- a line whose label was handed out
pub label_less : (line : code_reading.Reading) → line.labelled ≡ false → length line.text.items * 2 + 1 ≤ left_of line
label_less line e = unlabelled line.labelled (length line.text.items) e

turned_if : (t : Bool) (n m : ℕ) → n < m → n * 2 + cond t 1 2 ≤ m * 2 + cond t 0 1
turned_if true n m h = omega (arith, h)
turned_if false n m h = omega (arith, h)

-- a line that is read again as a shorter text
pub turned_less : (line : code_reading.Reading) (n : ℕ) → n < length line.text.items → n * 2 + cond line.labelled 1 2 ≤ left_of line
turned_less line n h = turned_if line.labelled n (length line.text.items) h
