-- What rounds give, and how more values change it.
use Rattle.std.proofs.Common.{◌≡◌, ◌≤◌, ◌<◌, ℕ, zero, suc, Bool, true, false, List, [], ◌∷◌, length, Option, Some, None, Result, Ok, Err, refl, ap, sym, arith, ⊎_elim, ◌⊎◌, inl, inr}
use Rattle.std.specs.Prelude.{slice_set, if◌then◌else◌}
use Rattle.std.specs.Result.{result_ok}
use Rattle.std.specs.Str.{bytes_eq}
use Rattle.vax_lex.specs.declared.value.Value.{Value}
use Rattle.vax_lex.specs.declared.value.ExprError.{ExprError}
use Rattle.vax_asm_values.specs.Values.{value_in, Meaning, Source, ToCome, Given, Worked, named, worth, source_at, value_under, known_after, value_of}
use Rattle.vax_asm_values.specs.Waiting.{known, count}
use Rattle.vax_asm_values.proofs.Keeping.{Keeps, value_kept}

branch_kept : (b : Bool) (x y p q : Option Value) (v : Value) → (x ≡ Some v → p ≡ Some v) → (y ≡ Some v → q ≡ Some v) → (if b then x else y) ≡ Some v → (if b then p else q) ≡ Some v
branch_kept true x y p q v left right e = left e
branch_kept false x y p q v left right e = right e

names_kept : (f g : ℕ → Option Value) → Keeps f g → (names : List Meaning) → Keeps (named f names) (named g names)
names_kept f g h [] = λ name v e. e
names_kept f g h (m ∷ names) = λ name v e.
    branch_kept (bytes_eq m.name name) (f m.definition) (named f names name) (g m.definition) (named g names name) v (h m.definition v) (names_kept f g h names name v) e

pub is_ok : (r : Result Value ExprError) (v : Value) → result_ok r ≡ Some v → r ≡ Ok v
is_ok (Ok x) v e = cc
is_ok (Err d) v e = absurd cc

pub under_kept : (f g : ℕ → Option Value) → Keeps f g → (s : Source) (v : Value) → value_under f s ≡ Some v → value_under g s ≡ Some v
unfolding value_in
under_kept f g h ToCome v e = e
under_kept f g h (Given u) v e = e
under_kept f g h (Worked w) v e = ap result_ok (value_kept w.dialect (named f w.names) (named g w.names) (names_kept f g h w.names) w.symbols v (is_ok (worth f w) v e))

-- the one list has the definitions of the other, and some that were to come
abbrev pub Extends : List Source → List Source → Type 0
Extends sources more = (i : ℕ) → (source_at sources i ≡ ToCome) ⊎ (source_at more i ≡ source_at sources i)

to_come_never : (f g : ℕ → Option Value) (s t : Source) (v : Value) → s ≡ ToCome → value_under f s ≡ Some v → value_under g t ≡ Some v
to_come_never f g s t v is e = let none : None ≡ Some v = rw is at e in absurd cc

pub rounds_kept : (n m : ℕ) (sources more : List Source) → n ≤ m → Extends sources more → Keeps (known_after n sources) (known_after m more)
unfolding known_after
rounds_kept zero m sources more less same = λ i v e. absurd cc
rounds_kept (suc n) zero sources more less same = absurd (omega (arith, less))
rounds_kept (suc n) (suc m) sources more less same = λ i v e.
    ⊎_elim
    (λ first. to_come_never (known_after n sources) (known_after m more) (source_at sources i) (source_at more i) v first e)
    (λ is. rw is (under_kept (known_after n sources) (known_after m more) (rounds_kept n m sources more (omega (arith, less)) same) (source_at sources i) v e))
    (same i)

-- whatever a definition is worth is known
abbrev pub Closed : List Source → (ℕ → Option Value) → Type 0
Closed sources values = (i : ℕ) (v : Value) → value_under values (source_at sources i) ≡ Some v → values i ≡ Some v

rounds_within : (n : ℕ) (sources : List Source) (values : ℕ → Option Value) → Closed sources values → Keeps (known_after n sources) values
unfolding known_after
rounds_within zero sources values h = λ i v e. absurd cc
rounds_within (suc n) sources values h = λ i v e.
    h i v (under_kept (known_after n sources) values (rounds_within n sources values h) (source_at sources i) v e)

same_value : (a b : Option Value) → ((v : Value) → a ≡ Some v → b ≡ Some v) → ((v : Value) → b ≡ Some v → a ≡ Some v) → a ≡ b
same_value (Some x) b there back = sym (there x refl)
same_value None (Some y) there back = back y refl
same_value None None there back = refl

count_within : (values : List (Option Value)) → count values ≤ length values
count_within [] = omega arith
count_within (Some v ∷ values) = omega (arith, count_within values)
count_within (None ∷ values) = omega (arith, count_within values)

-- the values are those that the rounds give
pub rounds_give : (sources : List Source) (values : List (Option Value)) → length values ≡ length sources → Closed sources (known values) → Keeps (known values) (known_after (count values) sources)
    → (i : ℕ) → known values i ≡ value_of sources i
unfolding value_of
rounds_give sources values same closed backed i =
    same_value (known values i) (known_after (length sources) sources i)
    (λ v e. rounds_kept (count values) (length sources) sources sources (omega (arith, count_within values, same)) (λ k. inr refl) i v (backed i v e))
    (rounds_within (length sources) sources (known values) closed i)

-- one more value is known

pub count_more : (values : List (Option Value)) (i : ℕ) (v : Value) → i < length values → known values i ≡ None → count (slice_set values i (Some v)) ≡ suc (count values)
count_more [] i v h n = absurd (omega (arith, h))
count_more (Some x ∷ values) zero v h n = absurd cc
count_more (None ∷ values) zero v h n = refl
count_more (Some x ∷ values) (suc i) v h n = ap suc (count_more values i v (omega (arith, h)) n)
count_more (None ∷ values) (suc i) v h n = count_more values i v (omega (arith, h)) n

pub more_known : (values : List (Option Value)) (i : ℕ) (v : Value) → known values i ≡ None → (j : ℕ) (u : Value) → known values j ≡ Some u → known (slice_set values i (Some v)) j ≡ Some u
more_known [] i v n j u e = e
more_known (x ∷ values) zero v n zero u e = absurd cc
more_known (x ∷ values) zero v n (suc j) u e = e
more_known (x ∷ values) (suc i) v n zero u e = e
more_known (x ∷ values) (suc i) v n (suc j) u e = more_known values i v n j u e

-- a value that is known then is the new one or was known before
pub known_before : (values : List (Option Value)) (i : ℕ) (v : Value) (j : ℕ) (u : Value) → known (slice_set values i (Some v)) j ≡ Some u → ((j ≡ i) × (u ≡ v)) ⊎ (known values j ≡ Some u)
known_before [] i v j u e = inr e
known_before (x ∷ values) zero v zero u e = inl (refl, cc)
known_before (x ∷ values) zero v (suc j) u e = inr e
known_before (x ∷ values) (suc i) v zero u e = inr e
known_before (x ∷ values) (suc i) v (suc j) u e =
    ⊎_elim (λ h. inl (ap suc h.0, h.1)) (λ h. inr h) (known_before values i v j u e)
