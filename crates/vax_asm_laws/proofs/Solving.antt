-- The values of definitions solve them, and are the fewest that do.
use Rattle.std.proofs.Common.{◌≡◌, ◌⊎◌, ◌≤◌, ◌<◌, ◌+◌, ℕ, zero, suc, List, [], ◌∷◌, length, Option, Some, None, inl, inr, ⊎_elim, refl, sym, ap, subst, ◌∙◌, arith}
use Rattle.std.specs.Prelude.{replicate, slice_set}
use Rattle.std.proofs.lemmas.Bool.{cases_lt}
use Rattle.std.proofs.lemmas.List.{get_or_past, length-replicate, length-set}
use Rattle.vax_lex.specs.declared.value.Value.{Value}
use Rattle.vax_asm_values.specs.Values.{Source, ToCome, known_after, source_at, value_of, value_under}
use Rattle.vax_asm_values.specs.Waiting.{count, known}
use Rattle.vax_asm_values.proofs.Rounds.{Closed, count_more, known_before, rounds_give, rounds_kept, under_kept}
use Rattle.vax_asm_laws.specs.Solving.{AreIn, Solve}

count_within : (values : List (Option Value)) → count values ≤ length values
count_within [] = omega arith
count_within (Some v ∷ values) = omega (arith, count_within values)
count_within (None ∷ values) = omega (arith, count_within values)

same_value : (a b : Option Value) → ((v : Value) → a ≡ Some v → b ≡ Some v) → ((v : Value) → b ≡ Some v → a ≡ Some v) → a ≡ b
same_value (Some x) b there back = sym (there x refl)
same_value None (Some y) there back = back y refl
same_value None None there back = refl

same_some : (o : Option Value) (u v : Value) → o ≡ Some u → o ≡ Some v → u ≡ v
same_some o u v a b = let same : Some u ≡ Some v = sym a ∙ b in cc

rounds_within : (n : ℕ) (sources : List Source) (values : ℕ → Option Value) → Closed sources values → AreIn (known_after n sources) values
unfolding known_after
rounds_within zero sources values h = λ i v e. absurd cc
rounds_within (suc n) sources values h = λ i v e. h i v (under_kept (known_after n sources) values (rounds_within n sources values h) (source_at sources i) v e)

next_round : (n : ℕ) (sources : List Source) (i : ℕ) → known_after (suc n) sources i ≡ value_under (known_after n sources) (source_at sources i)
unfolding known_after
next_round n sources i = refl

first_round : (sources : List Source) (i : ℕ) → known_after 0 sources i ≡ None
unfolding known_after
first_round sources i = refl

module _ (sources : List Source) where
  -- some values that the rounds give
  record Given (values : List (Option Value)) : Type 0 where
    long : length values ≡ length sources
    backed : AreIn (known values) (known_after (count values) sources)

  -- a value that is still to be known
  record Next (values : List (Option Value)) : Type 0 where
    at : ℕ
    less : at < length sources
    new : known values at ≡ None
    worth : Value
    is : value_under (known values) (source_at sources at) ≡ Some worth

  later : (values : List (Option Value)) (g : Given values) (i : ℕ) (v : Value) → value_under (known values) (source_at sources i) ≡ Some v → known_after (suc (count values)) sources i ≡ Some v
  later values g i v e = next_round (count values) sources i ∙ under_kept (known values) (known_after (count values) sources) g.backed (source_at sources i) v e

  kept : (values : List (Option Value)) (g : Given values) (i : ℕ) (v : Value) → known values i ≡ Some v → known_after (suc (count values)) sources i ≡ Some v
  kept values g i v e = rounds_kept (count values) (suc (count values)) sources sources (omega arith) (λ k. inr refl) i v (g.backed i v e)

  more : (values : List (Option Value)) → Given values → (n : Next values) → Given (slice_set values n.at (Some n.worth))
  more values g n = record {
    long = length-set values n.at (Some n.worth) ∙ g.long;
    backed = λ i u e. subst (λ (c : ℕ). known_after c sources i ≡ Some u) (sym (count_more values n.at n.worth (let less = n.less in omega (arith, g.long)) n.new)) (either i u (known_before values n.at n.worth i u e));
  } where
    either : (i : ℕ) (u : Value) → ((i ≡ n.at) × (u ≡ n.worth)) ⊎ (known values i ≡ Some u) → known_after (suc (count values)) sources i ≡ Some u
    either i u (inl h) = later values g i u (subst (λ (j : ℕ). value_under (known values) (source_at sources j) ≡ Some u) (sym h.0) (n.is ∙ ap (λ (v : Value). Some v) (sym h.1)))
    either i u (inr h) = kept values g i u h

  -- whether a definition has a value that is still to be known
  abbrev IsOpen : List (Option Value) → ℕ → Type 0
  IsOpen values i = (v : Value) → value_under (known values) (source_at sources i) ≡ Some v → known values i ≡ Some v

  look : (values : List (Option Value)) (g : Given values) (i : ℕ) (known_so worth : Option Value) → i < length sources → known values i ≡ known_so → value_under (known values) (source_at sources i) ≡ worth → Next values ⊎ IsOpen values i
  look values g i (Some u) worth less e f = inr (λ v h. e ∙ ap (λ (w : Value). Some w) (same_some (known_after (suc (count values)) sources i) u v (kept values g i u e) (later values g i v h)))
  look values g i None (Some v) less e f = inl (record { at = i; less = less; new = e; worth = v; is = f })
  look values g i None None less e f = inr (λ v h. absurd (let none : None ≡ Some v = sym f ∙ h in cc))

  look_all : (values : List (Option Value)) (g : Given values) (n : ℕ) → n ≤ length sources → Next values ⊎ ((i : ℕ) → i < n → IsOpen values i)
  look_all values g zero less = inr (λ i h. absurd (omega arith))
  look_all values g (suc n) less = both (look values g n (known values n) (value_under (known values) (source_at sources n)) (omega arith) refl refl) (look_all values g n (omega arith)) where
    either : (i : ℕ) → IsOpen values n → ((j : ℕ) → j < n → IsOpen values j) → i < suc n → (i < n) ⊎ (n ≤ i) → IsOpen values i
    either i here rest h (inl low) = rest i low
    either i here rest h (inr high) = let same : n ≡ i = omega arith in subst (IsOpen values) same here

    both : Next values ⊎ IsOpen values n → Next values ⊎ ((i : ℕ) → i < n → IsOpen values i) → Next values ⊎ ((i : ℕ) → i < suc n → IsOpen values i)
    both (inl next) rest = inl next
    both (inr here) (inl next) = inl next
    both (inr here) (inr rest) = inr (λ i h. either i here rest h (cases_lt i n))

  nothing_past : (values : ℕ → Option Value) (i : ℕ) → length sources ≤ i → value_under values (source_at sources i) ≡ None
  nothing_past values i h = ap (value_under values) (get_or_past sources i ToCome h)

  closed_by : (values : List (Option Value)) → ((i : ℕ) → i < length sources → IsOpen values i) → Closed sources (known values)
  closed_by values h i v e = either (cases_lt i (length sources)) where
    either : (i < length sources) ⊎ (length sources ≤ i) → known values i ≡ Some v
    either (inl low) = h i low v e
    either (inr high) = absurd (let none : None ≡ Some v = sym (nothing_past (known values) i high) ∙ e in cc)

  record Whole : Type 0 where
    values : List (Option Value)
    given : Given values
    closed : Closed sources (known values)

  added : (values : List (Option Value)) → Given values → (n : Next values) → count (slice_set values n.at (Some n.worth)) ≡ suc (count values)
  added values g n = count_more values n.at n.worth (let less = n.less in omega (arith, g.long)) n.new

  complete : (left : ℕ) (values : List (Option Value)) → length sources ≤ count values + left → Given values → Whole
  complete zero values enough g =
      ⊎_elim
      (λ n. absurd (omega (arith, added values g n, count_within (slice_set values n.at (Some n.worth)), length-set values n.at (Some n.worth), g.long)))
      (λ all. record { values = values; given = g; closed = closed_by values all })
      (look_all values g (length sources) (omega arith))
  complete (suc left) values enough g =
      ⊎_elim
      (λ n. complete left (slice_set values n.at (Some n.worth)) (omega (arith, added values g n)) (more values g n))
      (λ all. record { values = values; given = g; closed = closed_by values all })
      (look_all values g (length sources) (omega arith))

  none_known : (n i : ℕ) → known (replicate n None) i ≡ None
  none_known zero i = refl
  none_known (suc n) zero = refl
  none_known (suc n) (suc i) = none_known n i

  begun : Given (replicate (length sources) None)
  begun = record { long = length-replicate (length sources) None; backed = λ i v e. absurd (let none : None ≡ Some v = sym (none_known (length sources) i) ∙ e in cc) }

  whole : Whole
  whole = complete (length sources) (replicate (length sources) None) (omega arith) begun

  values_are : known whole.values ≡ value_of sources
  values_are = λ p. λ i. rounds_give sources whole.values whole.given.long whole.closed whole.given.backed i p

  from_round : (n i : ℕ) (u : Value) → known_after n sources i ≡ Some u → value_under (known whole.values) (source_at sources i) ≡ Some u
  from_round zero i u e = absurd (let none : None ≡ Some u = sym (first_round sources i) ∙ e in cc)
  from_round (suc n) i u e = under_kept (known_after n sources) (known whole.values) (rounds_within n sources (known whole.values) whole.closed) (source_at sources i) u (sym (next_round n sources i) ∙ e)

  known_solve : Solve (known whole.values) sources
  known_solve i = same_value (known whole.values i) (value_under (known whole.values) (source_at sources i)) (λ u e. from_round (count whole.values) i u (whole.given.backed i u e)) (whole.closed i)

  pub solve : Solve (value_of sources) sources
  solve = subst (λ (values : ℕ → Option Value). Solve values sources) values_are known_solve

  pub fewest : (others : ℕ → Option Value) → Solve others sources → AreIn (value_of sources) others
  unfolding value_of
  fewest others h = rounds_within (length sources) sources others (λ i v e. h i ∙ e)
