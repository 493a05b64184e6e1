-- What the bytes that were seen, and single accesses, do for a tree.
use Rattle.std.proofs.Common.{◌≡◌, ℕ, ◌-◌, ◌/◌, ◌%◌, ◌^◌, ◌<◌, ◌≤◌, Option, Some, None, Ok, Err, length, refl, sym, ap, subst, ◌∙◌, arith, length-set}
use Rattle.std.proofs.lemmas.List.{get_or-set_same, get_or-set_other}
use Rattle.std.specs.Prelude.{slice_set, slice_index}
use Rattle.vax_space.specs.declared.Access.{Access}
use Rattle.vax_space.specs.declared.Access.TheVariants.{Read, Write}
use Rattle.vax_space.specs.Reference.{violation}
use Rattle.vax_word.specs.declared.Core.{Core}
use Rattle.vax_word.specs.Status.{mode_of}
use Rattle.vax_flat.specs.declared.Stop.{Stop}
use Rattle.vax_flat.specs.Memory.{number}
use Rattle.vax_flat.specs.State.{State, register, with_register, mode}
use Rattle.vax_flat.specs.Accesses.{Accesses, Leaf}
use Rattle.vax_flat.specs.Operand.{plus, fetched, read_at, write_at, check_at}
use Rattle.vax_flat.specs.OverPort.{over_port}
use Rattle.vax_flat.specs.Port.{View, AreBytes, first_absent, loaded, loaded_by, stop, stored, unless_cut, with_number}
use Rattle.vax_undo.specs.Answers.{replaced}
use Rattle.vax_undo.proofs.Undo.{is_free}
use Rattle.vax_quick.specs.declared.window.Window.{Window}
use Rattle.vax_quick.specs.Made.{IsSeen}
use Rattle.vax_quick.proofs.Parts.{neither, low_seen, rest_seen, loaded_small}

-- what a look answers
pub looked : (before after : View) (core : Core) (bytes left m : ℕ) → after ≡ before → AreBytes before.byte → slice_index core.regs 15 < 2 ^ 32 → 15 < length core.regs → m ≡ mode_of core.psl → Ok bytes ≡ loaded before (slice_index core.regs 15) left m →
    IsSeen after core (record { bytes = bytes; left = left })
looked before after core bytes left m same are small long is answer =
    let there : loaded before (slice_index core.regs 15) left (mode_of core.psl) ≡ Ok bytes = subst (λ k. loaded before (slice_index core.regs 15) left k ≡ Ok bytes) is (sym answer) in
    subst (λ (v : View). IsSeen v core (record { bytes = bytes; left = left })) (sym same) (record { small = small; long = long; seen = there; bytes = are })

-- the same of a port that shows the same
pub seen_still : (before after : View) (core : Core) (window : Window) → after ≡ before → IsSeen before core window → IsSeen after core window
seen_still before after core window same seen = subst (λ (v : View). IsSeen v core window) (sym same) seen

-- another register leaves what was seen
pub seen_apart : (view : View) (core : Core) (window : Window) (n v : ℕ) → n < 15 → IsSeen view core window → IsSeen view (record core { regs = slice_set core.regs n v }) window
seen_apart view core window n v other seen =
    let here : slice_index (slice_set core.regs n v) 15 ≡ slice_index core.regs 15 = get_or-set_other core.regs n 15 v 0 (λ e. omega arith) in
    record {
      small = rw here seen.small;
      long = rw length-set seen.long;
      seen = rw here seen.seen;
      bytes = seen.bytes;
    }

-- PC behind the bytes that were taken
pub passed : (view : View) (core : Core) (window : Window) (n : ℕ) → n ≤ window.left → IsSeen view core window → IsSeen view (record core { regs = slice_set core.regs 15 (plus (slice_index core.regs 15) n) }) (record { bytes = window.bytes / 256 ^ n; left = window.left - n })
passed view core window n within seen =
    let here : slice_index (slice_set core.regs 15 (plus (slice_index core.regs 15) n)) 15 ≡ plus (slice_index core.regs 15) n = get_or-set_same core.regs 15 (plus (slice_index core.regs 15) n) 0 seen.long in
    record {
      small = rw here (omega arith);
      long = rw length-set seen.long;
      seen = rw here (rest_seen view (slice_index core.regs 15) window.left n (mode_of core.psl) window.bytes seen.bytes seen.small within seen.seen);
      bytes = seen.bytes;
    }

-- A read that is answered goes on with its number.
pub read_loaded : (view : View) (s : State) (addr n x : ℕ) → loaded view addr n (mode s) ≡ Ok x → (next : ℕ → State → Accesses Leaf) → over_port (read_at addr n s next) view ≡ over_port (next x s) view
unfolding read_at over_port
read_loaded view s addr n x h next =
    let fine = neither (violation view.areas addr n (mode s) Read) (first_absent view.resident addr n) (number view.byte addr n) x h in
    rw (fine.0, fine.1.0, fine.1.1) refl

pub read_there : (before after : View) (s : State) (addr n m x : ℕ) → after ≡ before → m ≡ mode s → Ok x ≡ loaded before addr n m → (next : ℕ → State → Accesses Leaf) → over_port (read_at addr n s next) before ≡ over_port (next x s) after
read_there before after s addr n m x same is answer next =
    read_loaded before s addr n x (subst (λ k. loaded before addr n k ≡ Ok x) is (sym answer)) next ∙ ap (over_port (next x s)) (sym same)

pub loaded_fits : (view : View) (addr n m x : ℕ) → AreBytes view.byte → Ok x ≡ loaded view addr n m → x < 256 ^ n
loaded_fits view addr n m x bytes h = loaded_small view addr n m x bytes (sym h)

-- a fetch of bytes that were seen
pub fetched_seen : (view : View) (s : State) (window : Window) (n : ℕ) → n ≤ window.left → IsSeen view s.core window → (next : ℕ → State → Accesses Leaf) →
    over_port (fetched n s next) view ≡ over_port (next (window.bytes % 256 ^ n) (with_register s 15 (plus (register s 15) n))) view
unfolding fetched
fetched_seen view s window n within seen next =
    read_loaded view s (register s 15) n (window.bytes % 256 ^ n) (low_seen view (register s 15) window.left n (mode s) window.bytes seen.bytes seen.small within seen.seen) (λ x t. next x (with_register t 15 (plus (register t 15) n)))

pub done_by : (st : Option Stop) (old new after : View) (value y : ℕ) → Ok y ≡ loaded_by st value → after ≡ unless_cut st old new → (None ≡ st) × (after ≡ new)
done_by None old new after value y h k = (refl, k)
done_by (Some s) old new after value y h k = absurd (let z : ⊥ = cc in z)

undone_by : (st : Option Stop) (old new after : View) (value : ℕ) (e : Stop) → Err e ≡ loaded_by st value → after ≡ unless_cut st old new → after ≡ old
undone_by None old new after value e h k = absurd (let z : ⊥ = cc in z)
undone_by (Some s) old new after value e h k = k

-- A write that is done goes on.
pub write_done : (view : View) (s : State) (addr n x : ℕ) → None ≡ stop view addr n (mode s) Write → (next : State → Accesses Leaf) → over_port (write_at addr n x s next) view ≡ over_port (next s) (with_number view addr n x)
unfolding write_at over_port
write_done view s addr n x free next =
    let fine = is_free view addr n (mode s) free in
    rw (fine.0, fine.1) refl

pub write_there : (before after : View) (s : State) (addr n m x y : ℕ) → m ≡ mode s → Ok y ≡ replaced before addr n m → after ≡ stored before addr n x m → (next : State → Accesses Leaf) → over_port (write_at addr n x s next) before ≡ over_port (next s) after
write_there before after s addr n m x y is answer kept next =
    let done = done_by (stop before addr n m Write) before (with_number before addr n x) after (number before.byte addr n) y answer kept in
    let free : None ≡ stop before addr n (mode s) Write = subst (λ k. None ≡ stop before addr n k Write) is done.0 in
    write_done before s addr n x free next ∙ ap (over_port (next s)) (sym done.1)

pub write_failed : (before after : View) (addr n m x : ℕ) (e : Stop) → Err e ≡ replaced before addr n m → after ≡ stored before addr n x m → after ≡ before
write_failed before after addr n m x e answer kept = undone_by (stop before addr n m Write) before (with_number before addr n x) after (number before.byte addr n) e answer kept

-- a check that is passed
pub check_there : (view : View) (s : State) (addr n m : ℕ) (access : Access) → m ≡ mode s → None ≡ violation view.areas addr n m access → (next : State → Accesses Leaf) → over_port (check_at addr n access s next) view ≡ over_port (next s) view
unfolding check_at over_port
check_there view s addr n m access is free next =
    let fine : violation view.areas addr n (mode s) access ≡ None = subst (λ k. violation view.areas addr n k access ≡ None) is (sym free) in
    rw fine refl
