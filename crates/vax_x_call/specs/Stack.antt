-- Registers and frames, pushed and popped one after the other.
use Rattle.std.specs.Prelude.{ℕ, Bool, if◌then◌else◌, [], ◌∷◌}
use Rattle.vax_flat.specs.State.{State, register}
use Rattle.vax_flat.specs.Accesses.{Accesses, Leaf}
use Rattle.vax_flat.specs.Call.{named, pushed_one, restored, saved}

-- a register is pushed, if it is to be
abbrev pub saved_if : Bool → ℕ → ℕ → State → (ℕ → State → Accesses Leaf) → Accesses Leaf
saved_if named n top s next = if named then pushed_one (register s n) top s next else next top s

-- a register is popped, if it is to be
abbrev pub restored_if : Bool → ℕ → ℕ → State → (ℕ → State → Accesses Leaf) → Accesses Leaf
restored_if named n addr s next = if named then restored (n ∷ []) addr s next else next addr s

-- the registers that a mask names, PC, FP, AP and two longwords, as they are before the first is pushed
abbrev pub links_pushed : ℕ → ℕ → ℕ → State → (ℕ → State → Accesses Leaf) → Accesses Leaf
links_pushed mask word top s next =
    saved (named 12 mask) top s (λ top t.
    pushed_one (register s 15) top t (λ top t.
    pushed_one (register s 13) top t (λ top t.
    pushed_one (register s 12) top t (λ top t.
    pushed_one word top t (λ top t.
    pushed_one 0 top t next)))))

-- AP, FP, PC and the registers that a mask names
abbrev pub links_restored : ℕ → ℕ → State → (ℕ → State → Accesses Leaf) → Accesses Leaf
links_restored mask addr s next =
    restored (12 ∷ []) addr s (λ addr s.
    restored (13 ∷ []) addr s (λ addr s.
    restored (15 ∷ []) addr s (λ addr s.
    restored (named 12 mask) addr s next)))
