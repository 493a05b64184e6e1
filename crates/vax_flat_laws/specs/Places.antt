-- What stands in a field, a queue and on a stack, once it was put there.
use Rattle.std.specs.Prelude.{◌≡◌, ℕ, ◌+◌, ◌-◌, ◌^◌, ◌<◌, ◌&&◌, Bool, not, false, List, ◌≤◌, length, slice_index_or}
use Rattle.vax_word.specs.declared.Codes.{Codes}
use Rattle.vax_space.specs.declared.Area.{Area}
use Rattle.vax_space.specs.Reference.{violation}
use Rattle.vax_flat.specs.declared.Operand.{Operand}
use Rattle.vax_flat.specs.Memory.{byte_at, IsWhole}
use Rattle.vax_flat.specs.Port.{AreBytes, put}
use Rattle.vax_flat.specs.State.{State}
use Rattle.vax_flat.specs.Accesses.{Accesses, Leaf}
use Rattle.vax_flat.specs.Call.{registers_pushed, registers_popped}
use Rattle.vax_flat.specs.Field.{inserted, field_bits, widened}
use Rattle.vax_flat.specs.Operand.{plus}
use Rattle.vax_flat.specs.Queue.{inserted as queued, removed}
use Rattle.vax_flat.specs.Outcome.{is_allowed}
use Rattle.vax_flat.specs.System.{accessing}
use Rattle.vax_flat.specs.Step.{leaf}
use Rattle.vax_flat_laws.specs.Machines.{longword_at, AreApart}

-- PUSHR, and then POPR with the same mask
abbrev pub pushed_and_popped : ℕ → State → Accesses Leaf
pushed_and_popped mask s = registers_pushed mask s (λ how t. registers_popped mask t leaf)

-- INSQUE of an entry, and then REMQUE of it
abbrev pub put_and_removed : ℕ → ℕ → Operand → State → Accesses Leaf
put_and_removed entry predecessor place s = queued entry predecessor s (λ how t. removed entry place t leaf)

-- an entry comes between two neighbours that point to each other, and shares no longword with them
pub record IsOutside (entry predecessor : ℕ) (memory : List Area) : Type 0 where
  pub whole : IsWhole memory
  pub bytes : AreBytes (byte_at memory)
  pub first : entry < 2 ^ 32
  pub successor : longword_at memory predecessor < 2 ^ 32
  pub before : longword_at memory (plus (longword_at memory predecessor) 4) ≡ predecessor
  pub links : AreApart (plus entry 4) entry
  pub forward : AreApart entry predecessor
  pub forward_back : AreApart (plus entry 4) predecessor
  pub backward : AreApart entry (plus (longword_at memory predecessor) 4)
  pub backward_back : AreApart (plus entry 4) (plus (longword_at memory predecessor) 4)
  pub neighbours : AreApart (plus (longword_at memory predecessor) 4) predecessor

-- INSV, and then EXTZV of the same field, of which the value alone counts
abbrev pub put_and_extracted : ℕ → ℕ → ℕ → Operand → State → (ℕ → Accesses Leaf) → Accesses Leaf
put_and_extracted source position size base s next =
    inserted source position size base s (λ how t. field_bits position size base t (λ bits u. next (widened false bits)))

-- the bytes of a memory but for an entry's two links
abbrev pub with_links : ℕ → ℕ → List Area → ℕ → ℕ
with_links entry predecessor memory =
    put (put (byte_at memory) entry 4 (longword_at memory predecessor)) (plus entry 4) 4 predecessor

-- whether PROBE finds a byte accessible
abbrev pub is_accessible : Bool → ℕ → ℕ → List Area → Bool
is_accessible writing mode addr memory = is_allowed (violation memory addr 1 mode (accessing writing))

-- the codes after PROBE of so many bytes, with the carry that was
abbrev pub probe_codes : Bool → ℕ → ℕ → ℕ → List Area → Bool → Codes
probe_codes writing mode length base memory carry = record {
  n = false;
  z = not (is_accessible writing mode base memory && is_accessible writing mode (plus base (length + (2 ^ 32 - 1))) memory);
  v = false;
  c = carry;
}

-- the first of these bits that is so, or their number where none is
pub record IsFirstBit (set : Bool) (bits : List Bool) (k : ℕ) : Type 0 where
  pub few : k ≤ length bits
  pub before : (j : ℕ) → j < k → slice_index_or bits j set ≡ not set
  pub here : k < length bits → slice_index_or bits k (not set) ≡ set
