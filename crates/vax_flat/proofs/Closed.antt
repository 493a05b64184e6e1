-- The touches of trees, and the parts that they leave, are properties that are kept where a tree grows by an access.
use Rattle.std.proofs.Common.{ℕ, Option, Some, None, List, [], ◌∷◌, ◌++◌, length, inl, inr, arith}
use Rattle.vax_space.specs.declared.Area.{Area}
use Rattle.vax_space.specs.declared.Access.TheVariants.{Read, Write}
use Rattle.vax_space.specs.declared.Violation.{Violation}
use Rattle.vax_space.specs.Reference.{violation}
use Rattle.vax_flat.specs.Accesses.{Leaf}
use Rattle.vax_flat.specs.Memory.{byte_at, number, bytes_from, written, written_run}
use Rattle.vax_flat.specs.Outcome.{Outcome, Range, outcome_of, touches_of, is_allowed, unless_stopped, unless_violated}
use Rattle.vax_flat.proofs.StringSearch.{length_run}
use Rattle.vax_flat.specs.Bound.{IsCovered, AreCovered, LieIn, IsClosed, LeavesNoPart}

-- what is covered stays so with more windows around
pub covered_behind : (ws more : List ℕ) (addr len : ℕ) → IsCovered ws addr len → IsCovered (ws ++ more) addr len
covered_behind [] more addr len c = absurd c
covered_behind (w ∷ ws) more addr len (inl here) = inl here
covered_behind (w ∷ ws) more addr len (inr rest) = inr (covered_behind ws more addr len rest)

covered_among : (w : ℕ) (ws others : List ℕ) (addr len : ℕ) → IsCovered (ws ++ others) addr len → IsCovered (ws ++ w ∷ others) addr len
covered_among w [] others addr len c = inr c
covered_among w (v ∷ ws) others addr len (inl here) = inl here
covered_among w (v ∷ ws) others addr len (inr rest) = inr (covered_among w ws others addr len rest)

-- a window may stand anywhere
covered_moved : (w : ℕ) (ws others : List ℕ) (addr len : ℕ) → IsCovered (w ∷ ws ++ others) addr len → IsCovered (ws ++ w ∷ others) addr len
covered_moved w [] others addr len c = c
covered_moved w (v ∷ ws) others addr len (inl here) = inr (covered_moved w ws others addr len (inl here))
covered_moved w (v ∷ ws) others addr len (inr (inl there)) = inl there
covered_moved w (v ∷ ws) others addr len (inr (inr rest)) = inr (covered_moved w ws others addr len (inr rest))

pub all_covered : (ws vs : List ℕ) (f : (addr len : ℕ) → IsCovered ws addr len → IsCovered vs addr len) (ranges : List Range) → AreCovered ws ranges → AreCovered vs ranges
all_covered ws vs f [] c = tt
all_covered ws vs f (range ∷ ranges) c = (f range.addr range.len c.0, all_covered ws vs f ranges c.1)

pub touches_lie : IsClosed (λ ws n t. (memory : List Area) → LieIn ws n (touches_of t memory))
unfolding touches_of
touches_lie = record {
  fewer = λ ws n t q memory. let l = q memory in record { others = l.others; few = (let h = l.few in omega arith); covered = l.covered };
  wider = λ w ws n t q memory. let l = q memory in record { others = l.others; few = l.few; covered = all_covered (ws ++ l.others) (w ∷ ws ++ l.others) (λ addr len c. inr c) _ l.covered };
  opens = λ w ws n t q memory. let l = q memory in record { others = w ∷ l.others; few = (let h = l.few in omega arith); covered = all_covered (w ∷ ws ++ l.others) (ws ++ w ∷ l.others) (covered_moved w ws l.others) _ l.covered };
  raises = λ ws n e memory. record { others = []; few = omega arith; covered = tt };
  checks = λ ws n addr len mode access next q memory. stopped ws n (violation memory addr len mode access) _ (q memory);
  asks = λ ws n addr len mode access next q memory. q (is_allowed (violation memory addr len mode access)) memory;
  reads = λ ws n addr len mode next c q memory. stopped ws n (violation memory addr len mode Read) _ (first ws n _ _ c (q (number (byte_at memory) addr len) memory));
  writes = λ ws n addr len value mode next c q memory. stopped ws n (violation memory addr len mode Write) _ (first ws n _ _ c (q (written memory addr len value)));
  reads_run = λ ws n addr len mode next c q memory. stopped ws n (violation memory addr len mode Read) _ (first ws n _ _ c (q (bytes_from (byte_at memory) addr len) (length_run (byte_at memory) addr len) memory));
  writes_run = λ ws n addr bytes mode next c q memory. stopped ws n (violation memory addr (length bytes) mode Write) _ (first ws n _ _ c (q (written_run memory addr bytes)));
}
  where
    stopped : (ws : List ℕ) (n : ℕ) (v : Option Violation) (ranges : List Range) → LieIn ws n ranges → LieIn ws n (unless_stopped v ranges)
    stopped ws n (Some v) ranges l = record { others = []; few = omega arith; covered = tt }
    stopped ws n None ranges l = l

    first : (ws : List ℕ) (n : ℕ) (range : Range) (ranges : List Range) → IsCovered ws range.addr range.len → LieIn ws n ranges → LieIn ws n (range ∷ ranges)
    first ws n range ranges c l = record { others = l.others; few = l.few; covered = (covered_behind ws l.others range.addr range.len c, l.covered) }

pub leaves_no_part : IsClosed (λ ws n t. (memory : List Area) → LeavesNoPart (outcome_of t memory))
unfolding outcome_of
leaves_no_part = record {
  fewer = λ ws n t q. q;
  wider = λ w ws n t q. q;
  opens = λ w ws n t q. q;
  raises = λ ws n e memory. tt;
  checks = λ ws n addr len mode access next q memory. violated (violation memory addr len mode access) _ (q memory);
  asks = λ ws n addr len mode access next q memory. q (is_allowed (violation memory addr len mode access)) memory;
  reads = λ ws n addr len mode next c q memory. violated (violation memory addr len mode Read) _ (q (number (byte_at memory) addr len) memory);
  writes = λ ws n addr len value mode next c q memory. violated (violation memory addr len mode Write) _ (q (written memory addr len value));
  reads_run = λ ws n addr len mode next c q memory. violated (violation memory addr len mode Read) _ (q (bytes_from (byte_at memory) addr len) (length_run (byte_at memory) addr len) memory);
  writes_run = λ ws n addr bytes mode next c q memory. violated (violation memory addr (length bytes) mode Write) _ (q (written_run memory addr bytes));
}
  where
    violated : (v : Option Violation) (outcome : Outcome Leaf) → LeavesNoPart outcome → LeavesNoPart (unless_violated v outcome)
    violated (Some v) outcome q = tt
    violated None outcome q = q
