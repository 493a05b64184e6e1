-- Maps with names as keys, as functions.
use Rattle.std.specs.Prelude.{ℕ, cond, List, Option}
use Rattle.std.specs.Global.{Vec}
use Rattle.std.specs.BTreeMap.{BTreeMap, get_by}
use Rattle.std.specs.Ordering.{nat_cmp}
use Rattle.std.specs.Cmp.Lexicographic.{slice_cmp}
use Rattle.std.specs.Str.{bytes_eq}

abbrev pub by_name : {X : Type 0} → BTreeMap (Vec ℕ) X → List ℕ → Option X
by_name m text = get_by (λ k. slice_cmp nat_cmp text k.items) m

-- these values, but x at the name
abbrev pub with_entry : {X : Type 0} → List ℕ → Option X → (List ℕ → Option X) → List ℕ → Option X
with_entry text x entries t = cond (bytes_eq text t) x (entries t)
