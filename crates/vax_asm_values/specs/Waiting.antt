-- What is kept beside definitions whose expressions wait for others.
use Rattle.std.specs.Prelude.{◌≡◌, ◌⊎◌, ℕ, suc, ◌+◌, Bool, true, false, ◌==◌, ◌||◌, List, [], ◌∷◌, All, length, slice_index_or, Option, Some, None}
use Rattle.vax_lex.specs.declared.value.Value.{Value}
use Rattle.vax_asm_values.specs.Values.{Source, ToCome, Given, Worked, source_at, value_under, known_after}

-- the values so far
abbrev pub known : List (Option Value) → ℕ → Option Value
known values i = slice_index_or values i None

-- how many there are
abbrev pub count : List (Option Value) → ℕ
count [] = 0
count (Some v ∷ values) = suc (count values)
count (None ∷ values) = count values

abbrev pub listed : ℕ → List ℕ → Bool
listed i [] = false
listed i (k ∷ ks) = (i == k) || listed i ks

-- the definitions whose expressions have this one in them
abbrev pub waiters : List (List ℕ) → ℕ → List ℕ
waiters waiting i = slice_index_or waiting i []

abbrev pub Watches : List (List ℕ) → ℕ → Source → Type 0
Watches waiting i ToCome = Unit {0}
Watches waiting i (Given v) = Unit {0}
Watches waiting i (Worked w) = All (λ m. listed i (waiters waiting m.definition) ≡ true) w.names

-- A definition that has a value by the values so far has it; each value so far is one by the values so far, and one that
-- the rounds give; and each expression waits for the definitions in it.
pub record Settled (sources : List Source) (values : List (Option Value)) (waiting : List (List ℕ)) : Type 0 where
  pub closed : (i : ℕ) (v : Value) → value_under (known values) (source_at sources i) ≡ Some v → known values i ≡ Some v
  pub consistent : (i : ℕ) (v : Value) → known values i ≡ Some v → value_under (known values) (source_at sources i) ≡ Some v
  pub backed : (i : ℕ) (v : Value) → known values i ≡ Some v → known_after (count values) sources i ≡ Some v
  pub watched : (i : ℕ) → Watches waiting i (source_at sources i)

-- whatever a definition is worth is known, but at those that are still to be looked at
pub record Standing (sources : List Source) (values : List (Option Value)) (waiting : List (List ℕ)) (work : List ℕ) : Type 0 where
  pub closed : (i : ℕ) (v : Value) → value_under (known values) (source_at sources i) ≡ Some v → (known values i ≡ Some v) ⊎ (listed i work ≡ true)
  pub consistent : (i : ℕ) (v : Value) → known values i ≡ Some v → value_under (known values) (source_at sources i) ≡ Some v
  pub backed : (i : ℕ) (v : Value) → known values i ≡ Some v → known_after (count values) sources i ≡ Some v
  pub watched : (i : ℕ) → Watches waiting i (source_at sources i)

-- more definitions wait for each
abbrev pub Grown : List (List ℕ) → List (List ℕ) → Type 0
Grown waiting more = (k j : ℕ) → listed j (waiters waiting k) ≡ true → listed j (waiters more k) ≡ true

-- how many definitions wait for those that have no value
abbrev pub weight : List (Option Value) → List (List ℕ) → ℕ
weight [] waiting = 0
weight (v ∷ values) [] = 0
weight (Some v ∷ values) (w ∷ waiting) = weight values waiting
weight (None ∷ values) (w ∷ waiting) = length w + weight values waiting
