-- Bytes that are written in runs of at most eight, each as a number.
use Rattle.std.proofs.Common.{ℕ, zero, suc, ◌≡◌, ◌+◌, ◌-◌, ◌*◌, ◌/◌, ◌%◌, ◌^◌, ◌<◌, ◌≤◌, ◌==◌, if◌then◌else◌, List, [], ◌∷◌, length, take, drop, refl, ap, ◌∙◌, arith}
use Rattle.std.proofs.Math.Nat.{pow-suc}
use Rattle.std.proofs.Math.Path.{fun_ext}
use Rattle.std.specs.Prelude.{slice_index}
use Rattle.vax_space.specs.declared.Access.TheVariants.{Write}
use Rattle.vax_flat.specs.Memory.{after}
use Rattle.vax_flat.specs.Port.{View, marking, put, put_run, stop}
use Rattle.vax_flat.specs.State.{State, mode}
use Rattle.vax_flat.specs.Accesses.{Accesses, Leaf}
use Rattle.vax_flat.specs.Operand.{plus, write_at}
use Rattle.vax_flat.specs.String.{write_run_at}
use Rattle.vax_flat.specs.StringMove.{pieces_of, write_pieces}
use Rattle.vax_flat.proofs.StringMemory.{take_all}
use Rattle.vax_undo.specs.Blocks.{low_bytes, number_in}
use Rattle.vax_undo.specs.Trail.{Trail, noted, over_trail, unless_hindered, writing}

pub number_below : (xs : List ℕ) → ((k : ℕ) → slice_index xs k < 256) → number_in xs < 256 ^ length xs
unfolding number_in
number_below [] each = omega arith
number_below (x ∷ xs) each = rw pow-suc (omega (arith, each 0, number_below xs (λ k. each (suc k))))

low_byte : (x r : ℕ) → x < 256 → (x + 256 * r) % 256 ≡ x
low_byte x r h = omega arith

high_bytes : (x r : ℕ) → x < 256 → (x + 256 * r) / 256 ≡ r
high_bytes x r h = omega arith

number_put : (f : ℕ → ℕ) (addr : ℕ) (xs : List ℕ) (place : ℕ) → ((k : ℕ) → slice_index xs k < 256) → put_run f addr xs place ≡ put f addr (length xs) (number_in xs) place
unfolding put put_run number_in
number_put f addr [] place each = refl
number_put f addr (x ∷ xs) place each =
    let h = each 0 in
    rw (low_byte x (number_in xs) h, high_bytes x (number_in xs) h)
    (ap (λ y. if place == addr then x else y) (number_put f (after addr) xs place (λ k. each (suc k))))

-- the bytes of the number that a list of bytes is
low_bytes_of : (xs : List ℕ) → ((k : ℕ) → slice_index xs k < 256) → xs ≡ low_bytes (length xs) (number_in xs)
unfolding low_bytes number_in
low_bytes_of [] each = refl
low_bytes_of (x ∷ xs) each =
    let h = each 0 in
    rw (low_byte x (number_in xs) h, high_bytes x (number_in xs) h)
    (ap (λ ys. x ∷ ys) (low_bytes_of xs (λ k. each (suc k))))

-- a run of bytes is written as the number that they are
pub as_number : (addr : ℕ) (xs : List ℕ) (s : State) (next : State → Accesses Leaf) (view : View) (trail : Trail) → ((k : ℕ) → slice_index xs k < 256) → over_trail (write_run_at addr xs s next) view trail ≡ over_trail (write_at addr (length xs) (number_in xs) s next) view trail
unfolding over_trail write_run_at write_at
as_number addr xs s next view trail each =
    ap (λ (byte : ℕ → ℕ). unless_hindered (stop view addr (length xs) (mode s) Write) view.marked trail (over_trail (next s) (record view { byte = byte; marked = marking view.marked addr (length xs) }) (noted trail (writing addr xs)))) (fun_ext λ place. number_put view.byte addr xs place each)
    ∙ ap (λ bytes. unless_hindered (stop view addr (length xs) (mode s) Write) view.marked trail (over_trail (next s) (record view { byte = put view.byte addr (length xs) (number_in xs); marked = marking view.marked addr (length xs) }) (noted trail (writing addr bytes)))) (low_bytes_of xs each)

last_by : (count addr : ℕ) (xs : List ℕ) (s : State) (next : State → Accesses Leaf) → count ≡ 1 → length xs ≤ 8 → write_pieces count addr xs s next ≡ write_run_at addr xs s next
unfolding write_pieces
last_by zero addr xs s next one few = absurd (omega arith)
last_by (suc zero) addr xs s next one few = rw (take_all 8 xs few) refl
last_by (suc (suc count)) addr xs s next one few = absurd (omega arith)

pub last_piece : (addr : ℕ) (xs : List ℕ) (s : State) (next : State → Accesses Leaf) → 1 ≤ length xs → length xs ≤ 8 → write_pieces (pieces_of xs) addr xs s next ≡ write_run_at addr xs s next
last_piece addr xs s next some few = last_by (pieces_of xs) addr xs s next (omega arith) few

next_by : (count more addr : ℕ) (xs : List ℕ) (s : State) (next : State → Accesses Leaf) → count ≡ suc more → write_pieces count addr xs s next ≡ write_run_at addr (take 8 xs) s (λ s. write_pieces more (plus addr 8) (drop 8 xs) s next)
unfolding write_pieces
next_by zero more addr xs s next is = absurd (omega arith)
next_by (suc count) more addr xs s next is =
    let c : count ≡ more = omega arith in
    rw c refl

pub next_piece : (addr : ℕ) (xs low high : List ℕ) (s : State) (next : State → Accesses Leaf) → low ≡ take 8 xs → high ≡ drop 8 xs → 8 < length xs → length high ≡ length xs - 8 → write_pieces (pieces_of xs) addr xs s next ≡ write_run_at addr low s (λ s. write_pieces (pieces_of high) (plus addr 8) high s next)
next_piece addr xs low high s next is_low is_high many len =
    next_by (pieces_of xs) (pieces_of high) addr xs s next (omega arith)
    ∙ rw (is_low, is_high) refl
