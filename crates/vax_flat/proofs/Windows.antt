-- Where PC and the stack pointer are in their windows, and what an access adds to what is touched.
use Rattle.std.proofs.Common.{◌≡◌, ◌≢◌, ◌⊎◌, ℕ, suc, zero, ◌+◌, ◌-◌, ◌*◌, ◌%◌, ◌^◌, ◌<◌, ◌≤◌, Bool, true, false, List, [], ◌∷◌, refl, ap, sym, subst, ◌∙◌, inl, inr, arith, zero-add}
use Rattle.std.specs.Prelude.{slice_index, slice_set, if◌then◌else◌}
use Rattle.std.proofs.lemmas.List.{get_or-set_other}
use Rattle.vax_space.specs.Reference.{byte_after}
use Rattle.vax_flat.specs.State.{State, register, with_register}
use Rattle.vax_flat.specs.Accesses.{Accesses, Leaf}
use Rattle.vax_flat.specs.Operand.{plus, read_at, write_at, read_in, fetched}
use Rattle.vax_flat.specs.Bound.{place, IsWithin, IsCovered, IsClosed}

-- a register that is set has the value, or the list of registers is too short and it reads as before
set_read : (xs : List ℕ) (n v : ℕ) → (slice_index (slice_set xs n v) n ≡ v) ⊎ (slice_index (slice_set xs n v) n ≡ slice_index xs n)
set_read [] n v = inr refl
set_read (x ∷ xs) zero v = inl refl
set_read (x ∷ xs) (suc n) v = set_read xs n v

pub set_other : (xs : List ℕ) (n k v : ℕ) → k ≢ n → slice_index (slice_set xs n v) k ≡ slice_index xs k
set_other xs n k v apart = get_or-set_other xs n k v 0 apart

-- PC is at most so far behind the beginning of a window
pub record IsPcNear (s : State) (window count : ℕ) : Type 0 where
  pub offset : ℕ
  pub near : offset ≤ count
  pub is : register s 15 ≡ place window offset

pub near_later : (s : State) (window count more : ℕ) → count ≤ more → IsPcNear s window count → IsPcNear s window more
near_later s window count more h p = record { offset = p.offset; near = (let n = p.near in omega arith); is = p.is }

-- so far behind a place of a window is a place of it
pub place_behind : (window offset width : ℕ) → 1 ≤ width → plus (place window offset) width ≡ place window (offset + width)
place_behind window zero width h = subst (λ k. plus window width ≡ place window k) (sym (zero-add width)) (places width h)
  where
    places : (width : ℕ) → 1 ≤ width → plus window width ≡ place window width
    places zero h = absurd (omega arith)
    places (suc width) h = refl
place_behind window (suc offset) width h =
    let e : suc offset + width ≡ suc (offset + width) = omega arith in
    subst (λ k. plus (place window (suc offset)) width ≡ place window k) (sym e) (omega arith)

pub near_past : (s : State) (window count width : ℕ) → 1 ≤ width → IsPcNear s window count → IsPcNear (with_register s 15 (plus (register s 15) width)) window (count + width)
near_past s window count width h p =
    elim (set_read s.core.regs 15 (plus (register s 15) width)) [
      | inl e ↦ record {
        offset = p.offset + width;
        near = (let n = p.near in omega arith);
        is = e ∙ (ap (λ x. plus x width) p.is ∙ place_behind window p.offset width h);
      }
      | inr e ↦ record { offset = p.offset; near = (let n = p.near in omega arith); is = e ∙ p.is }
    ]

pub near_other : (s : State) (window count n v : ℕ) → n ≢ 15 → IsPcNear s window count → IsPcNear (with_register s n v) window count
near_other s window count n v apart p = record { offset = p.offset; near = p.near; is = set_other s.core.regs n 15 v (λ e. apart (sym e)) ∙ p.is }

-- a window that begins at PC
pub near_here : (s : State) → IsPcNear s (register s 15) 0
near_here s = record { offset = 0; near = omega arith; is = refl }

-- SP is so far behind the beginning of a window that so many longwords lie below it there
pub record IsStackNear (s : State) (window count : ℕ) : Type 0 where
  pub offset : ℕ
  pub room : 4 * count < offset
  pub near : offset ≤ 512
  pub is : register s 14 % 2 ^ 32 ≡ byte_after window offset

-- a window that ends at SP
abbrev pub stack_window : State → ℕ
stack_window s = plus (register s 14) (2 ^ 32 - 512)

pub stack_here : (s : State) (count : ℕ) → count ≤ 127 → IsStackNear s (stack_window s) count
stack_here s count h = record { offset = 512; room = omega arith; near = omega arith; is = ends (register s 14) }
  where
    ends : (sp : ℕ) → sp % 2 ^ 32 ≡ byte_after (plus sp (2 ^ 32 - 512)) 512
    ends sp = omega arith

module _ (s : State) (window count : ℕ) (p : IsStackNear s window (suc count)) where
  -- the longword below SP is in the window
  pub stack_below : IsWithin window (plus (register s 14) (2 ^ 32 - 4)) 4
  stack_below = record {
    offset = p.offset - 4;
    begins = (let r = p.room in let e = p.is in at p.offset (register s 14) r e);
    ends = (let r = p.room in let n = p.near in omega arith);
  }
    where
      at : (offset sp : ℕ) → 4 * suc count < offset → sp % 2 ^ 32 ≡ byte_after window offset → plus sp (2 ^ 32 - 4) ≡ place window (offset - 4)
      at offset sp r e = step (offset - 5) (omega arith)
        where
          step : (k : ℕ) → offset ≡ suc k + 4 → plus sp (2 ^ 32 - 4) ≡ place window (offset - 4)
          step k o = let here : offset - 4 ≡ suc k = omega arith in rw here (omega arith)

  pub stack_pushed : (t : State) → t.core.regs ≡ s.core.regs → IsStackNear (with_register t 14 (plus (register s 14) (2 ^ 32 - 4))) window count
  stack_pushed t same =
      elim (set_read t.core.regs 14 (plus (register s 14) (2 ^ 32 - 4))) [
        | inl e ↦ record {
          offset = p.offset - 4;
          room = (let r = p.room in omega arith);
          near = (let n = p.near in omega arith);
          is = (let r = p.room in let i = p.is in below p.offset (register s 14) _ r i e);
        }
        | inr e ↦ record {
          offset = p.offset;
          room = (let r = p.room in omega arith);
          near = p.near;
          is = ap (λ x. x % 2 ^ 32) (e ∙ ap (λ (regs : List ℕ). slice_index regs 14) same) ∙ p.is;
        }
      ]
    where
      below : (offset sp value : ℕ) → 4 * suc count < offset → sp % 2 ^ 32 ≡ byte_after window offset → value ≡ plus sp (2 ^ 32 - 4) → value % 2 ^ 32 ≡ byte_after window (offset - 4)
      below offset sp value r e is = omega arith

module _ (Q : List ℕ → ℕ → Accesses Leaf → Type 0) (c : IsClosed Q) where
  -- a range of its own
  own : (addr len : ℕ) (ws : List ℕ) → len ≤ 512 → IsCovered (addr ∷ ws) addr len
  own addr len ws h = inl (record { offset = 0; begins = refl; ends = (omega arith) })

  pub read_adds : (ws : List ℕ) (n addr len : ℕ) (s : State) (next : ℕ → State → Accesses Leaf) → len ≤ 512 → ((x : ℕ) → Q ws n (next x s)) → Q ws (suc n) (read_at addr len s next)
  unfolding read_at
  read_adds ws n addr len s next h q = c.opens addr ws n _ (c.reads _ n addr len _ _ (own addr len ws h) (λ x. c.wider addr ws n _ (q x)))

  pub write_adds : (ws : List ℕ) (n addr len value : ℕ) (s : State) (next : State → Accesses Leaf) → len ≤ 512 → Q ws n (next s) → Q ws (suc n) (write_at addr len value s next)
  unfolding write_at
  write_adds ws n addr len value s next h q = c.opens addr ws n _ (c.writes _ n addr len value _ _ (own addr len ws h) (c.wider addr ws n _ q))

  pub read_in_adds : (ws : List ℕ) (n addr len mode : ℕ) (s : State) (next : ℕ → State → Accesses Leaf) → len ≤ 512 → ((x : ℕ) → Q ws n (next x s)) → Q ws (suc n) (read_in addr len mode s next)
  unfolding read_in
  read_in_adds ws n addr len mode s next h q = c.opens addr ws n _ (c.reads _ n addr len _ _ (own addr len ws h) (λ x. c.wider addr ws n _ (q x)))

  -- a piece of the instruction lies in the window at PC
  pub fetched_adds : (w : ℕ) (ws : List ℕ) (n width count : ℕ) (s : State) (next : ℕ → State → Accesses Leaf) → 1 ≤ width → count + width ≤ 512 → IsPcNear s w count →
      ((x : ℕ) (t : State) → IsPcNear t w (count + width) → Q (w ∷ ws) n (next x t)) → Q (w ∷ ws) n (fetched width s next)
  unfolding fetched read_at
  fetched_adds w ws n width count s next some h p q =
      c.reads _ n _ width _ _ (inl (record { offset = p.offset; begins = p.is; ends = (let near = p.near in omega arith) }))
      (λ x. q x _ (near_past s w count width some p))

  pub at_most : (ws : List ℕ) (n m : ℕ) (tree : Accesses Leaf) → n ≤ m → Q ws n tree → Q ws m tree
  at_most ws n m tree h q = subst (λ x. Q ws x tree) (let e : m - n + n ≡ m = omega arith in e) (more (m - n))
    where
      more : (k : ℕ) → Q ws (k + n) tree
      more zero = subst (λ x. Q ws x tree) (sym (zero-add n)) q
      more (suc k) = subst (λ x. Q ws x tree) (let e : suc (k + n) ≡ suc k + n = omega arith in e) (c.fewer ws (k + n) tree (more k))

  pub either : (ws : List ℕ) (n : ℕ) (b : Bool) (x y : Accesses Leaf) → (b ≡ true → Q ws n x) → (b ≡ false → Q ws n y) → Q ws n (if b then x else y)
  either ws n true x y qx qy = qx refl
  either ws n false x y qx qy = qy refl
