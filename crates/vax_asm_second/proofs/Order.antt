-- The first of faults.
use Rattle.std.proofs.Common.{◌≡◌, ◌<◌, ◌≤◌, ◌+◌, ℕ, suc, add-one, Bool, true, false, List, [], ◌∷◌, ◌++◌, length, map, drop, refl, sym, ap, ◌∙◌, drop-cons, arith}
use Rattle.std.proofs.lemmas.List.{drop_all}
use Rattle.std.specs.Prelude.{Option, Some, None, if◌then◌else◌, nat_lt, ◌==◌, ◌||◌, ◌&&◌, slice_index_or}
use Rattle.std.proofs.lemmas.Bool.Decides.{nat_tests}
use Rattle.vax_macro.specs.Fault.{code_of}
use Rattle.vax_asm_second.specs.Faults.{precedes, earlier, first, first_of, fault_at, kind_of, value_in, assigned_faults}
use Rattle.vax_asm_second.specs.declared.types.Fault.{Fault}
use Rattle.vax_asm_first.specs.View.{assignment_of}
use Rattle.vax_asm_first.specs.declared.types.Assignment.{Assignment}
use Rattle.vax_asm_values.specs.Values.{Source}

-- of two the second, where it goes before the first
abbrev pick : {X : Type 0} → (X → X → Bool) → X → X → X
pick t a b = if t b a then b else a

pick_by : {X : Type 0} (t : X → X → Bool) → ((a b c : X) → t b a ≡ true → t c b ≡ true → t c a ≡ true) → ((a b c : X) → t b a ≡ false → t c b ≡ false → t c a ≡ false)
    → (a b c : X) (p q : Bool) → t b a ≡ p → t c b ≡ q → pick t (pick t a b) c ≡ pick t a (pick t b c)
pick_by t both neither a b c true true e f = let g = both a b c e f in simp (e, f, g)
pick_by t both neither a b c true false e f = simp (e, f)
pick_by t both neither a b c false true e f = simp (e, f)
pick_by t both neither a b c false false e f = let g = neither a b c e f in simp (e, f, g)

abbrev before : (p m q n : ℕ) → Bool
before p m q n = nat_lt p q || (p == q && nat_lt m n)

before_both : (p m q n r o : ℕ) → before q n p m ≡ true → before r o q n ≡ true → before r o p m ≡ true
before_both p m q n r o h k = grind (arith, nat_tests)

before_neither : (p m q n r o : ℕ) → before q n p m ≡ false → before r o q n ≡ false → before r o p m ≡ false
before_neither p m q n r o h k = grind (arith, nat_tests)

earlier_joined : (a b c : Fault) → earlier (earlier a b) c ≡ earlier a (earlier b c)
earlier_joined a b c =
    pick_by precedes
    (λ (x y z : Fault). before_both x.origin.place (code_of x.kind) y.origin.place (code_of y.kind) z.origin.place (code_of z.kind))
    (λ (x y z : Fault). before_neither x.origin.place (code_of x.kind) y.origin.place (code_of y.kind) z.origin.place (code_of z.kind))
    a b c (precedes b a) (precedes c b) refl refl

pub first_joined : (a b c : Option Fault) → first (first a b) c ≡ first a (first b c)
first_joined None b c = refl
first_joined (Some a) None c = refl
first_joined (Some a) (Some b) None = refl
first_joined (Some a) (Some b) (Some c) = ap (λ (f : Fault). Some f) (earlier_joined a b c)

pub first_of_both : (xs ys : List Fault) → first_of (xs ++ ys) ≡ first (first_of xs) (first_of ys)
first_of_both [] ys = refl
first_of_both (x ∷ xs) ys = ap (first (Some x)) (first_of_both xs ys) ∙ sym (first_joined (Some x) (first_of xs) (first_of ys))

pub first_alone : (a : Option Fault) → first a None ≡ a
first_alone None = refl
first_alone (Some a) = refl

-- ---- assignments, one more at a time

assignment_split : (sources : List Source) (assignments : List Assignment) (i : ℕ) (a : Assignment) → i < length assignments → a ≡ slice_index_or assignments i a
    → first_of (assigned_faults sources (map assignment_of (drop i assignments)))
    ≡ first (first_of (fault_at a.origin (kind_of (value_in sources (assignment_of a).written)))) (first_of (assigned_faults sources (map assignment_of (drop (i + 1) assignments))))
assignment_split sources assignments i a h at =
    let split : drop i assignments ≡ a ∷ drop (i + 1) assignments = rw add-one (drop-cons assignments i a h ∙ ap (λ (x : Assignment). x ∷ drop (suc i) assignments) (sym at)) in
    ap (λ (l : List Assignment). first_of (assigned_faults sources (map assignment_of l))) split
    ∙ first_of_both (fault_at a.origin (kind_of (value_in sources (assignment_of a).written))) (assigned_faults sources (map assignment_of (drop (i + 1) assignments)))

pub assignment_seen : (sources : List Source) (assignments : List Assignment) (i : ℕ) (a : Assignment) (found fault all : Option Fault) → i < length assignments → a ≡ slice_index_or assignments i a
    → fault ≡ first_of (fault_at a.origin (kind_of (value_in sources (assignment_of a).written)))
    → first found (first_of (assigned_faults sources (map assignment_of (drop i assignments)))) ≡ all
    → first (first found fault) (first_of (assigned_faults sources (map assignment_of (drop (i + 1) assignments)))) ≡ all
assignment_seen sources assignments i a found fault all h at e same =
    let rest = first_of (assigned_faults sources (map assignment_of (drop (i + 1) assignments))) in
    first_joined found fault rest
    ∙ ap (λ (f : Option Fault). first found (first f rest)) e
    ∙ ap (first found) (sym (assignment_split sources assignments i a h at))
    ∙ same

pub assignments_seen : (sources : List Source) (assignments : List Assignment) (i : ℕ) (found all : Option Fault) → length assignments ≤ i
    → first found (first_of (assigned_faults sources (map assignment_of (drop i assignments)))) ≡ all → found ≡ all
assignments_seen sources assignments i found all h same =
    sym (first_alone found) ∙ ap (λ (l : List Assignment). first found (first_of (assigned_faults sources (map assignment_of l)))) (sym (drop_all i assignments h)) ∙ same
