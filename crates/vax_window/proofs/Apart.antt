-- The parts of two processes have no block in common.
use Rattle.std.proofs.Common.{◌≡◌, ◌<◌, ◌≤◌, ℕ, ◌^◌, sym, ap, ◌∙◌, arith}
use Rattle.std.specs.FinMap.{get}
use Rattle.vax_window.specs.Windows.{LieApart, OthersStay, first_block, shifted, unshifted}
use Rattle.vax_window.proofs.Seen.{forth, get_seen}

pub lie_apart : LieApart
lie_apart i j fi fj other a b la lb same = omega arith

-- the block of another process has a number outside
outside : (i j n : ℕ) → i < 8 → j < 8 → (i ≡ j → ⊥) → n < 69632 → 69632 ≤ unshifted (first_block i) (shifted (first_block j) n)
outside i j n fi fj other l = omega arith

numbered : (first n : ℕ) → unshifted first n < 2 ^ 32
numbered first n = omega arith

pub others_stay : OthersStay
others_stay i j fi fj other before after same n l =
    let k = shifted (first_block j) n in
    let m = unshifted (first_block i) k in
    let here : n < 2 ^ 32 = omega arith in
    let back : shifted (first_block i) m ≡ k = forth (first_block i) k (omega arith) in
    let there : m < 2 ^ 32 = numbered (first_block i) k in
    get_seen (first_block j) n after.blocks here
    ∙ ap (get after.blocks) (sym back)
    ∙ sym (get_seen (first_block i) m after.blocks there)
    ∙ same m (outside i j n fi fj other l)
    ∙ get_seen (first_block i) m before.blocks there
    ∙ ap (get before.blocks) back
    ∙ sym (get_seen (first_block j) n before.blocks here)
