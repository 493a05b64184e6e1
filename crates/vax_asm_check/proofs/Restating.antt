-- Statements carried out once more.
use Rattle.std.proofs.Common.{◌≡◌, ◌<◌, ◌≤◌, ◌+◌, ℕ, suc, add-one, List, [], ◌∷◌, ◌++◌, length, map, take, drop, Option, Some, None, refl, sym, ap, ◌∙◌, drop-cons}
use Rattle.std.proofs.lemmas.List.{drop_all, map-append}
use Rattle.std.proofs.Math.Seq.{take-append_seam, take-length}
use Rattle.std.specs.Global.{Vec}
use Rattle.std.specs.Prelude.{slice_index_or}
use Rattle.vax_asm.specs.Placing.{FaultyLabel, Faulty, Placed, Stands, waiting_in}
use Rattle.vax_asm.specs.Walk.{Assembly, nothing}
use Rattle.vax_asm_check.specs.Restating.{Said, left_behind, restated}
use Rattle.vax_asm_check.specs.View.{AreKept, left_of, said_of}
use Rattle.vax_asm_check.specs.declared.left.Left.{Left}
use Rattle.vax_asm_check.specs.declared.left.Stated.{Stated}
use Rattle.vax_asm_circles.specs.Growing.{IsIndexed, steps_in}
use Rattle.vax_asm_circles.specs.declared.growing.Steps.{Steps}
use Rattle.vax_asm_faults.specs.Survey.{left_by}
use Rattle.vax_asm_first.specs.Circles.{steps_by}
use Rattle.vax_asm_first.specs.Fixups.{Assignment}
use Rattle.vax_asm_first.specs.Standing.{Standing}
use Rattle.vax_asm_labels.specs.Naming.{with_waiting}
use Rattle.vax_dialect.specs.declared.Dialect.{Dialect}

abbrev standing_in : Standing → Placed → Standing
standing_in other (Stands s waiting) = s
standing_in other (FaultyLabel kind) = other
standing_in other (Faulty kind waiting) = other

pub stands_again : (p : Placed) (a : Assembly) (after : Standing) (more : List Assignment) → p ≡ Stands after (waiting_in p) → more ≡ with_waiting (waiting_in p) a.assignments
    → record { standing = after; assignments = more } ≡ left_by p a
stands_again (Stands s waiting) a after more e f = rw (f, ap (standing_in after) e) refl
stands_again (FaultyLabel kind) a after more e f = absurd cc
stands_again (Faulty kind waiting) a after more e f = absurd cc

pub one_restated : (stood : List Stated) (i : ℕ) (x : Stated) (before after all : Assembly) → i < length stood → x ≡ slice_index_or stood i x → after ≡ left_behind (said_of x) before
    → restated (map said_of (drop i stood)) before ≡ all → restated (map said_of (drop (i + 1) stood)) after ≡ all
unfolding restated
one_restated stood i x before after all h at e same =
    let split : drop i stood ≡ x ∷ drop (i + 1) stood = rw add-one (drop-cons stood i x h ∙ ap (λ (y : Stated). y ∷ drop (suc i) stood) (sym at)) in
    ap (restated (map said_of (drop (i + 1) stood))) e ∙ sym (ap (λ (l : List Stated). restated (map said_of l) before) split) ∙ same

pub all_restated : (stood : List Stated) (i : ℕ) (a all : Assembly) → length stood ≤ i → restated (map said_of (drop i stood)) a ≡ all → a ≡ all
unfolding restated
all_restated stood i a all h same = ap (λ (l : List Stated). restated (map said_of l) a) (sym (drop_all i stood h)) ∙ same

restated_more : (said : List Said) (s : Said) (a : Assembly) → restated (said ++ s ∷ []) a ≡ left_behind s (restated said a)
unfolding restated
restated_more [] s a = refl
restated_more (t ∷ said) s a = restated_more said s (left_behind t a)

-- one more statement that stands
pub kept_more : (stood : List Stated) (s : Stated) (start before after : Assembly) → restated (map said_of stood) start ≡ before → after ≡ left_behind (said_of s) before
    → restated (map said_of (stood ++ s ∷ [])) start ≡ after
kept_more stood s start before after kept e =
    ap (λ (l : List Said). restated l start) (map-append said_of stood (s ∷ []))
    ∙ restated_more (map said_of stood) (said_of s) start
    ∙ ap (left_behind (said_of s)) kept
    ∙ sym e

kept_none : (stood : List Stated) (start a : Assembly) → stood ≡ [] → a ≡ start → restated (map said_of stood) start ≡ a
unfolding restated
kept_none stood start a e f = rw (e, f) refl

-- at the start
pub none_kept : (dialect : Dialect) (list : Vec Stated) (left : Left) (all : Steps) → list.items ≡ [] → left_of left ≡ nothing dialect → steps_in all ≡ [] → IsIndexed all → AreKept dialect list left all
none_kept dialect list left all stood start none indexed = record {
  stood = kept_none list.items (nothing dialect) (left_of left) stood start;
  steps = none ∙ ap (λ (a : Assembly). steps_by a.assignments) (sym start);
  indexed = indexed;
}

-- where as much stands as before
pub same_kept : (dialect : Dialect) (list : Vec Stated) (old new : Left) (before after : Steps) → AreKept dialect list old before → left_of new ≡ left_of old → steps_in after ≡ steps_in before → IsIndexed after
    → AreKept dialect list new after
same_kept dialect list old new before after kept left same indexed = record {
  stood = kept.stood ∙ sym left;
  steps = same ∙ kept.steps ∙ ap (λ (a : Assembly). steps_by a.assignments) (sym left);
  indexed = indexed;
}

-- the assignments before one more
pub first_waiting : (o : Option Assignment) (xs : List Assignment) (n : ℕ) → n ≡ length xs → take n (with_waiting o xs) ≡ xs
first_waiting (Some a) xs n e = ap (λ (k : ℕ). take k (xs ++ a ∷ [])) e ∙ take-append_seam xs (a ∷ [])
first_waiting None xs n e = ap (λ (k : ℕ). take k xs) e ∙ take-length xs
