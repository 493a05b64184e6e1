-- Preludes, one more at a time.
use Rattle.std.proofs.Common.{◌≡◌, ◌<◌, ◌≤◌, ◌+◌, ◌⊎◌, inl, inr, ℕ, suc, add-one, List, [], ◌∷◌, ◌++◌, append-nil, append_assoc, length, map, min, drop, drop-cons, ap, arith, refl, sym, ◌∙◌}
use Rattle.std.proofs.lemmas.Bool.{cases_lt}
use Rattle.std.proofs.lemmas.List.{drop_all}
use Rattle.std.specs.Borrow.{Bor}
use Rattle.std.specs.Global.{Vec}
use Rattle.std.specs.List.{flat_map}
use Rattle.std.specs.Prelude.{slice_index_or}
use Rattle.vax_prelude.specs.Preludes as specs
use Rattle.vax_prelude.specs.Preludes.{ended, preludes_of}
use Rattle.vax_prelude.specs.View.{preludes_seen}
use Rattle.vax_prelude.specs.declared.types.Prelude.{Prelude}

here : {X : Type 0} (list : List X) (i : ℕ) (x : X) → i < length list → x ≡ slice_index_or list i x → drop i list ≡ x ∷ drop (i + 1) list
here {X} list i x h at = rw add-one (drop-cons list i x h ∙ ap (λ (y : X). y ∷ drop (suc i) list) (sym at))

abbrev all_of : List (Bor (List ℕ)) → List (Vec ℕ) → List specs.Prelude
all_of names texts = preludes_of (map (λ name. name.now) names) (map (λ v. v.items) texts)

pub prelude_more : (names : List (Bor (List ℕ))) (texts : List (Vec ℕ)) (i : ℕ) (n : Bor (List ℕ)) (t : Vec ℕ) (before after all : List specs.Prelude)
    → i < length names → i < length texts → n ≡ slice_index_or names i n → t ≡ slice_index_or texts i t → after ≡ before ++ record { name = n.now; text = ended t.items } ∷ []
    → before ++ all_of (drop i names) (drop i texts) ≡ all → after ++ all_of (drop (i + 1) names) (drop (i + 1) texts) ≡ all
prelude_more names texts i n t before after all hn ht en et more same =
    let one : specs.Prelude = record { name = n.now; text = ended t.items } in
    ap (λ (l : List specs.Prelude). l ++ all_of (drop (i + 1) names) (drop (i + 1) texts)) more
    ∙ append_assoc before (one ∷ []) (all_of (drop (i + 1) names) (drop (i + 1) texts))
    ∙ ap (λ (l : List (Bor (List ℕ))). before ++ all_of l (t ∷ drop (i + 1) texts)) (sym (here names i n hn en))
    ∙ ap (λ (l : List (Vec ℕ)). before ++ all_of (drop i names) l) (sym (here texts i t ht et))
    ∙ same

no_texts : (names : List (Bor (List ℕ))) → all_of names [] ≡ []
no_texts [] = refl
no_texts (n ∷ names) = refl

done_by : (names : List (Bor (List ℕ))) (texts : List (Vec ℕ)) (i : ℕ) (before all : List specs.Prelude) → (length names ≤ i) ⊎ (length texts ≤ i) → before ++ all_of (drop i names) (drop i texts) ≡ all → before ≡ all
done_by names texts i before all (inl few) same =
    sym (append-nil before) ∙ ap (λ (l : List (Bor (List ℕ))). before ++ all_of l (drop i texts)) (sym (drop_all i names few)) ∙ same
done_by names texts i before all (inr few) same =
    sym (append-nil before) ∙ ap (λ (l : List specs.Prelude). before ++ l) (sym (no_texts (drop i names))) ∙ ap (λ (l : List (Vec ℕ)). before ++ all_of (drop i names) l) (sym (drop_all i texts few)) ∙ same

past_by : (names texts i stop : ℕ) → stop ≡ min names texts → stop ≤ i → (i < names) ⊎ (names ≤ i) → (i < texts) ⊎ (texts ≤ i) → (names ≤ i) ⊎ (texts ≤ i)
past_by names texts i stop e h (inr few) other = inl few
past_by names texts i stop e h (inl more) (inr few) = inr few
past_by names texts i stop e h (inl more) (inl others) = absurd (omega (arith, e, h, more, others))

pub preludes_done : (names : List (Bor (List ℕ))) (texts : List (Vec ℕ)) (i stop : ℕ) (before all : List specs.Prelude) → stop ≡ min (length names) (length texts) → stop ≤ i
    → before ++ all_of (drop i names) (drop i texts) ≡ all → before ≡ all
preludes_done names texts i stop before all e h same =
    done_by names texts i before all (past_by (length names) (length texts) i stop e h (cases_lt i (length names)) (cases_lt i (length texts))) same

abbrev text_of : List Prelude → List ℕ
text_of preludes = flat_map (λ p. p.text) (preludes_seen preludes)

pub text_added : (preludes : List Prelude) (i : ℕ) (p : Prelude) (before after all : List ℕ) → i < length preludes → p ≡ slice_index_or preludes i p → after ≡ before ++ p.text.items
    → before ++ text_of (drop i preludes) ≡ all → after ++ text_of (drop (i + 1) preludes) ≡ all
text_added preludes i p before after all h at more same =
    ap (λ (l : List ℕ). l ++ text_of (drop (i + 1) preludes)) more
    ∙ append_assoc before p.text.items (text_of (drop (i + 1) preludes))
    ∙ ap (λ (l : List Prelude). before ++ text_of l) (sym (here preludes i p h at))
    ∙ same

pub texts_added : (preludes : List Prelude) (i : ℕ) (before all : List ℕ) → length preludes ≤ i → before ++ text_of (drop i preludes) ≡ all → before ≡ all
texts_added preludes i before all h same = sym (append-nil before) ∙ ap (λ (l : List Prelude). before ++ text_of l) (sym (drop_all i preludes h)) ∙ same
