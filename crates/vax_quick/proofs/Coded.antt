-- Bytes of a page of which the frame is known.
use Rattle.std.proofs.Common.{◌≡◌, ℕ, ◌+◌, ◌*◌, ◌^◌, ◌<◌, Ok, IfSome, Option, Some, None, length, subst, slice_index}
use Rattle.vax_word.specs.declared.Core.{Core}
use Rattle.vax_word.specs.Status.{mode_of}
use Rattle.vax_flat.specs.Port.{View, AreBytes, loaded}
use Rattle.vax_quick.specs.Made.{IsSeen, eight}

seen_in_page : (view : View) (core : Core) (page place m bytes : ℕ) → page * 512 + place ≡ slice_index core.regs 15 → m ≡ mode_of core.psl → slice_index core.regs 15 < 2 ^ 32 → 15 < length core.regs → AreBytes view.byte
    → loaded view (page * 512 + place) 8 m ≡ Ok bytes → IsSeen view core (eight bytes)
seen_in_page view core page place m bytes at is small long are answer = record {
  small = small;
  long = long;
  seen = subst (λ k. loaded view (slice_index core.regs 15) 8 k ≡ Ok bytes) is (subst (λ pc. loaded view pc 8 m ≡ Ok bytes) at answer);
  bytes = are;
}

pub seen_if : (view : View) (core : Core) (page place m : ℕ) (r : Option ℕ) → page * 512 + place ≡ slice_index core.regs 15 → m ≡ mode_of core.psl → slice_index core.regs 15 < 2 ^ 32 → 15 < length core.regs
    → IfSome r (λ x. AreBytes view.byte) → IfSome r (λ x. loaded view (page * 512 + place) 8 m ≡ Ok x) → IfSome r (λ bytes. IsSeen view core (eight bytes))
seen_if view core page place m None at is small long are answer = tt
seen_if view core page place m (Some x) at is small long are answer = seen_in_page view core page place m x at is small long are answer
