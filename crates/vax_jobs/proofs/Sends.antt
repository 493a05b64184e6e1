-- Bytes on their way to Out.
use Rattle.std.proofs.Common.{◌≡◌, ℕ, List, [], ◌∷◌, ◌++◌, append_assoc, append-nil, Option, inl, inr, sym, ap, subst, ◌∙◌}
use Rattle.vax_outside.specs.Channels.{Channels, Grew, GrewByPrefix, only}
use Rattle.vax_outside.specs.declared.traits.Chan.TheVariants.{Out}
use Rattle.vax_outside.proofs.Growth.{grew_nothing, out_grew, out_last}
use Rattle.vax_jobs.specs.Sending.{Finishes, HasSent, Holds, OnlySent, Sends}
use Rattle.vax_jobs.specs.declared.ends.JobsEnd.{JobsEnd}
use Rattle.vax_outside.specs.declared.faults.Failures.{Failures}

pub nothing_sent : (first : Option Channels) (sent held : List ℕ) → sent ≡ [] → held ≡ [] → Sends first sent held first
nothing_sent first sent held a b = record { written = []; is = a ∙ sym b; wrote = grew_nothing first }

pub holds_only : (byte : ℕ) (now : Option Channels) (held left : List ℕ) → left ≡ held ++ byte ∷ [] → Holds byte now held now left
holds_only byte now held left e = record { written = []; is = sym e; wrote = grew_nothing now }

pub holds_none : (byte : ℕ) (before now : Option Channels) (held all left : List ℕ) → all ≡ held ++ byte ∷ [] → left ≡ [] → Grew before now (only Out all) → Holds byte before held now left
holds_none byte before now held all left e none g = record {
  written = all;
  is = sym e ∙ sym (append-nil all) ∙ ap (λ z. all ++ z) (sym none);
  wrote = g;
}

pub sends_more : (first before now : Option Channels) (sent held left : List ℕ) (byte : ℕ) → Sends first sent held before → Holds byte before held now left → Sends first (sent ++ byte ∷ []) left now
sends_more first before now sent held left byte s h = record {
  written = s.written ++ h.written;
  is =
      ap (λ z. z ++ byte ∷ []) s.is ∙ append_assoc s.written held (byte ∷ []) ∙ ap (λ z. s.written ++ z) h.is
      ∙ sym (append_assoc s.written h.written left);
  wrote = out_grew first before now s.written h.written s.wrote h.wrote;
}

pub sends_all : (first before now : Option Channels) (sent held : List ℕ) → Sends first sent held before → Grew before now (only Out held) → Grew first now (only Out sent)
sends_all first before now sent held s g =
    subst (λ z. Grew first now (only Out z)) (sym s.is) (out_grew first before now s.written held s.wrote g)

pub sends_part : (first before now : Option Channels) (sent held : List ℕ) → Sends first sent held before → GrewByPrefix before now (only Out held) → GrewByPrefix first now (only Out sent)
sends_part first before now sent held s g =
    subst (λ z. GrewByPrefix first now (only Out z)) (sym s.is) (out_last first before now s.written held s.wrote g)

pub sends_lost : (first before now : Option Channels) (sent held : List ℕ) (byte : ℕ) → Sends first sent held before → GrewByPrefix before now (only Out (held ++ byte ∷ [])) → GrewByPrefix first now (only Out (sent ++ byte ∷ []))
sends_lost first before now sent held byte s g =
    subst (λ z. GrewByPrefix first now (only Out z)) (sym (ap (λ z. z ++ byte ∷ []) s.is ∙ append_assoc s.written held (byte ∷ [])))
    (out_last first before now s.written (held ++ byte ∷ []) s.wrote g)

-- where a run ends, whatever was sent
pub only_end : (end result : JobsEnd) (held : List ℕ) (first now new : Option Channels) (a b : Failures) → ((bytes : List ℕ) → Grew first new (only Out bytes) → OnlySent end first new) → HasSent first held now → Finishes end result held now new a b → OnlySent result first new
only_end end result held first now new a b whole h (inl f) =
    subst (λ (r : JobsEnd). OnlySent r first new) (sym f.answer) (whole h.0 (sends_all first now new h.0 held h.1 f.wrote))
only_end end result held first now new a b whole h (inr f) =
    subst (λ (r : JobsEnd). OnlySent r first new) (sym f.answer) (h.0, sends_part first now new h.0 held h.1 f.wrote)
