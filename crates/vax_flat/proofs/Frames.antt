-- Longwords that are pushed or popped one after the other lie in one window.
use Rattle.std.proofs.Common.{◌≡◌, ℕ, suc, zero, ◌+◌, ◌-◌, ◌*◌, ◌/◌, ◌%◌, ◌^◌, ◌<◌, ◌≤◌, Bool, true, false, cond, List, [], ◌∷◌, length, refl, ap, ◌∙◌, inl, arith}
use Rattle.std.specs.List.{filter, range_with_len}
use Rattle.std.proofs.lemmas.List.{length-append, length-map, length-reverse}
use Rattle.vax_word.specs.Status.{is_one}
use Rattle.vax_space.specs.Reference.{byte_after}
use Rattle.vax_flat.specs.State.{State}
use Rattle.vax_flat.specs.Accesses.{Accesses, Leaf}
use Rattle.vax_flat.specs.Operand.{plus, read_at, write_at}
use Rattle.vax_flat.specs.Call.{pushed_one, pushed_below, popped_from, named, frame}
use Rattle.vax_flat.specs.Bound.{place, IsWithin, IsClosed}
use Rattle.vax_flat.proofs.Windows.{place_behind}

-- an address is so far behind the beginning of a window that so many longwords lie below it there
pub record IsTopNear (top window count : ℕ) : Type 0 where
  pub offset : ℕ
  pub room : 4 * count < offset
  pub near : offset ≤ 512
  pub is : top % 2 ^ 32 ≡ byte_after window offset

-- a window that ends at an address
abbrev pub window_below : ℕ → ℕ
window_below top = plus top (2 ^ 32 - 512)

pub top_here : (top count : ℕ) → count ≤ 127 → IsTopNear top (window_below top) count
top_here top count h = record { offset = 512; room = omega arith; near = omega arith; is = omega arith }

pub top_fewer : (top window count fewer : ℕ) → fewer ≤ count → IsTopNear top window count → IsTopNear top window fewer
top_fewer top window count fewer h p = record { offset = p.offset; room = (let r = p.room in omega arith); near = p.near; is = p.is }

-- the multiple of 4 at or below an address
pub top_aligned : (top window count : ℕ) → IsTopNear top window (suc count) → IsTopNear (top / 4 * 4) window count
top_aligned top window count p = record {
  offset = p.offset - top % 4;
  room = (let r = p.room in omega arith);
  near = (let n = p.near in omega arith);
  is = (let r = p.room in let i = p.is in at p.offset r i);
}
  where
    at : (offset : ℕ) → 4 * suc count < offset → top % 2 ^ 32 ≡ byte_after window offset → top / 4 * 4 % 2 ^ 32 ≡ byte_after window (offset - top % 4)
    at offset r i = omega arith

module _ (top window count : ℕ) (p : IsTopNear top window (suc count)) where
  -- the longword just below is in the window
  pub below_within : IsWithin window (plus top (2 ^ 32 - 4)) 4
  below_within = record {
    offset = p.offset - 4;
    begins = (let r = p.room in let e = p.is in at p.offset r e);
    ends = (let r = p.room in let n = p.near in omega arith);
  }
    where
      at : (offset : ℕ) → 4 * suc count < offset → top % 2 ^ 32 ≡ byte_after window offset → plus top (2 ^ 32 - 4) ≡ place window (offset - 4)
      at offset r e = step (offset - 5) (omega arith)
        where
          step : (k : ℕ) → offset ≡ suc k + 4 → plus top (2 ^ 32 - 4) ≡ place window (offset - 4)
          step k o = let here : offset - 4 ≡ suc k = omega arith in rw here (omega arith)

  pub below_near : IsTopNear (plus top (2 ^ 32 - 4)) window count
  below_near = record {
    offset = p.offset - 4;
    room = (let r = p.room in omega arith);
    near = (let n = p.near in omega arith);
    is = (let r = p.room in let i = p.is in at p.offset r i);
  }
    where
      at : (offset : ℕ) → 4 * suc count < offset → top % 2 ^ 32 ≡ byte_after window offset → plus top (2 ^ 32 - 4) % 2 ^ 32 ≡ byte_after window (offset - 4)
      at offset r i = omega arith

-- an address is a place of a window in which so many longwords lie above it
pub record IsRoomAbove (addr window count : ℕ) : Type 0 where
  pub offset : ℕ
  pub is : addr ≡ place window offset
  pub fits : offset + 4 * count ≤ 512

pub room_here : (addr count : ℕ) → count ≤ 128 → IsRoomAbove addr addr count
room_here addr count h = record { offset = 0; is = refl; fits = omega arith }

-- so many bytes behind the beginning of a window
pub room_behind : (window width count : ℕ) → 1 ≤ width → width + 4 * count ≤ 512 → IsRoomAbove (plus window width) window count
room_behind window width count some h = record { offset = 0 + width; is = place_behind window 0 width some; fits = omega arith }

pub room_later : (addr window count : ℕ) → IsRoomAbove addr window (suc count) → IsRoomAbove (plus addr 4) window count
room_later addr window count p = record {
  offset = p.offset + 4;
  is = ap (λ x. plus x 4) p.is ∙ place_behind window p.offset 4 (omega arith);
  fits = (let f = p.fits in omega arith);
}

pub room_within : (addr window count : ℕ) → IsRoomAbove addr window (suc count) → IsWithin window addr 4
room_within addr window count p = record { offset = p.offset; begins = p.is; ends = (let f = p.fits in omega arith) }

-- at most so many registers are named
few_kept : (p : ℕ → Bool) (a count : ℕ) → length (filter p (range_with_len a count)) ≤ count
few_kept p a zero = omega arith
few_kept p a (suc count) =
    let few = few_kept p (a + 1) count in
    elim (p a) as (λ (b : Bool). length (cond b (a ∷ filter p (range_with_len (a + 1) count)) (filter p (range_with_len (a + 1) count))) ≤ suc count) [
      | true ↦ omega arith
      | false ↦ omega arith
    ]

pub few_named : (count mask : ℕ) → length (named count mask) ≤ count
unfolding named
few_named count mask = few_kept (is_one mask) 0 count

pub few_framed : (mask word : ℕ) (s : State) → length (frame mask word s) ≤ 17
unfolding frame
few_framed mask word s =
    let few = few_named 12 mask in
    simp (length-append, length-map, length-reverse) (omega arith)

module _ (Q : List ℕ → ℕ → Accesses Leaf → Type 0) (c : IsClosed Q) (window : ℕ) (ws : List ℕ) (n : ℕ) where
  -- a longword in the window is read
  pub read_within : (addr : ℕ) (s : State) (next : ℕ → State → Accesses Leaf) → IsWithin window addr 4 → ((x : ℕ) → Q (window ∷ ws) n (next x s)) → Q (window ∷ ws) n (read_at addr 4 s next)
  unfolding read_at
  read_within addr s next i q = c.reads _ n addr 4 _ _ (inl i) q

  pub one_adds : (x top : ℕ) (s : State) (next : ℕ → State → Accesses Leaf) → IsWithin window (plus top (2 ^ 32 - 4)) 4 → Q (window ∷ ws) n (next (plus top (2 ^ 32 - 4)) s) → Q (window ∷ ws) n (pushed_one x top s next)
  unfolding pushed_one write_at
  one_adds x top s next i q = c.writes _ n _ 4 x _ _ (inl i) q

  pub pushes_add : (xs : List ℕ) (top : ℕ) (s : State) (next : ℕ → State → Accesses Leaf) → IsTopNear top window (length xs) → ((bottom : ℕ) → Q (window ∷ ws) n (next bottom s)) → Q (window ∷ ws) n (pushed_below xs top s next)
  unfolding pushed_below
  pushes_add [] top s next p q = q top
  pushes_add (x ∷ xs) top s next p q =
      one_adds x top s _ (below_within top window (length xs) p) (pushes_add xs _ s next (below_near top window (length xs) p) q)

  pub pops_add : (count addr : ℕ) (s : State) (next : List ℕ → ℕ → State → Accesses Leaf) → IsRoomAbove addr window count → ((xs : List ℕ) (behind : ℕ) → Q (window ∷ ws) n (next xs behind s)) → Q (window ∷ ws) n (popped_from count addr s next)
  unfolding popped_from
  pops_add zero addr s next p q = q [] addr
  pops_add (suc count) addr s next p q =
      read_within addr s _ (room_within addr window count p) (λ x. pops_add count _ s _ (room_later addr window count p) (λ xs behind. q (x ∷ xs) behind))
