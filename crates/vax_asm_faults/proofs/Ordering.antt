-- Which of several faults is told.
use Rattle.std.proofs.Common.{◌≡◌, ◌<◌, ◌≤◌, ◌⊎◌, inl, inr, ℕ, suc, Bool, true, false, cond, List, [], ◌∷◌, ◌++◌, Option, Some, None, refl, sym, ap, ◌∙◌, arith}
use Rattle.std.specs.Prelude.{◌==◌, IfSome, if◌then◌else◌, min, nat_lt}
use Rattle.std.proofs.lemmas.Bool.{eqb-false, eqb-true, ltb-false, ltb-true}
use Rattle.vax_asm.specs.Walk.{behind_circle, least}
use Rattle.vax_asm_faults.proofs.Circling.{or_origin}
use Rattle.vax_asm_faults.specs.Refusal.{earlier, first_line, or_earlier}
use Rattle.vax_asm_first.specs.Faults.{first_of}
use Rattle.vax_asm_first.specs.declared.types.Origin.{Origin}
use Rattle.vax_asm_second.specs.declared.types.Fault.{Fault}
use Rattle.vax_macro.specs.Fault.{code_of}
use Rattle.vax_macro.specs.declared.error.FaultKind.{FaultKind}
use Rattle.vax_macro.specs.declared.error.FaultKind.TheVariants.{Token, UnknownOperator, Count, Form, Undefined, Duplicate, Range, Nesting, Depth, Lines, Large, Message}

-- ---- kinds

kind_at : ℕ → FaultKind
kind_at n =
    if n == 1 then Token else (if n == 2 then UnknownOperator else (if n == 3 then Count else (if n == 4 then Form else (if n == 5 then Undefined
    else (if n == 6 then Duplicate else (if n == 7 then Range else (if n == 8 then Nesting else (if n == 9 then Depth else (if n == 10 then Lines else (if n == 11 then Large else Message))))))))))

kind_back : (k : FaultKind) → kind_at (code_of k) ≡ k
unfolding kind_at
kind_back Token = refl
kind_back UnknownOperator = refl
kind_back Count = refl
kind_back Form = refl
kind_back Undefined = refl
kind_back Duplicate = refl
kind_back Range = refl
kind_back Nesting = refl
kind_back Depth = refl
kind_back Lines = refl
kind_back Large = refl
kind_back Message = refl

same_kind : (a b : FaultKind) → code_of a ≡ code_of b → a ≡ b
same_kind a b e = sym (kind_back a) ∙ ap kind_at e ∙ kind_back b

lower_code : (t : Bool) (a b : FaultKind) → nat_lt (code_of b) (code_of a) ≡ t → code_of (cond t b a) ≡ min (code_of a) (code_of b)
lower_code true a b e = let less = ltb-true (code_of b) (code_of a) e in omega arith
lower_code false a b e = let more = ltb-false (code_of b) (code_of a) e in omega arith

first_code : (a b : FaultKind) → code_of (first_of a b) ≡ min (code_of a) (code_of b)
first_code a b = lower_code (nat_lt (code_of b) (code_of a)) a b refl

first_swap : (a b : FaultKind) → first_of a b ≡ first_of b a
first_swap a b = same_kind (first_of a b) (first_of b a) (first_code a b ∙ least_swap (code_of a) (code_of b) ∙ sym (first_code b a))
  where
    least_swap : (m n : ℕ) → min m n ≡ min n m
    least_swap m n = omega arith

first_later : (a b c : FaultKind) → first_of (first_of a b) c ≡ first_of (first_of a c) b
first_later a b c = same_kind (first_of (first_of a b) c) (first_of (first_of a c) b)
    (first_code (first_of a b) c ∙ ap (λ (n : ℕ). min n (code_of c)) (first_code a b) ∙ three (code_of a) (code_of b) (code_of c) ∙ sym (first_code (first_of a c) b ∙ ap (λ (n : ℕ). min n (code_of b)) (first_code a c)))
  where
    three : (l m n : ℕ) → min (min l m) n ≡ min (min l n) m
    three l m n = omega arith

first_again : (a b : FaultKind) → first_of (first_of a b) b ≡ first_of a b
first_again a b = same_kind (first_of (first_of a b) b) (first_of a b) (first_code (first_of a b) b ∙ ap (λ (n : ℕ). min n (code_of b)) (first_code a b) ∙ twice (code_of a) (code_of b) ∙ sym (first_code a b))
  where
    twice : (l m : ℕ) → min (min l m) m ≡ min l m
    twice l m = omega arith

-- ---- places

same_test : (b : Bool) (m n : ℕ) → (m == n) ≡ b → m ≡ n → b ≡ true
same_test true m n is e = refl
same_test false m n is e = absurd (eqb-false m n is e)

less_test : (b : Bool) (m n : ℕ) → (m == n) ≡ b → m < n → b ≡ false
less_test true m n is less = absurd (let e = eqb-true m n is in omega arith)
less_test false m n is less = refl

more_test : (b : Bool) (m n : ℕ) → (m == n) ≡ b → n < m → b ≡ false
more_test true m n is less = absurd (let e = eqb-true m n is in omega arith)
more_test false m n is less = refl

not_below : (b : Bool) (m n : ℕ) → nat_lt m n ≡ b → n ≤ m → b ≡ false
not_below true m n is le = absurd (let less = ltb-true m n is in omega arith)
not_below false m n is le = refl

abbrev pub fault : Origin → FaultKind → Fault
fault o kind = record { origin = o; kind = kind }

abbrev with_kind : Fault → FaultKind → Fault
with_kind f kind = record f { kind = kind }

pub earlier_less : (f g : Fault) → f.origin.place < g.origin.place → earlier f g ≡ f
earlier_less f g less =
    let below = not_below (nat_lt g.origin.place f.origin.place) g.origin.place f.origin.place refl (omega arith) in
    let apart = more_test (g.origin.place == f.origin.place) g.origin.place f.origin.place refl less in
    ap (λ b. cond b g (cond (g.origin.place == f.origin.place) (with_kind f (first_of f.kind g.kind)) f)) below ∙ ap (λ b. cond b (with_kind f (first_of f.kind g.kind)) f) apart

earlier_same : (f g : Fault) → f.origin.place ≡ g.origin.place → earlier f g ≡ with_kind f (first_of f.kind g.kind)
earlier_same f g same =
    let below = not_below (nat_lt g.origin.place f.origin.place) g.origin.place f.origin.place refl (omega arith) in
    let equal = same_test (g.origin.place == f.origin.place) g.origin.place f.origin.place refl (sym same) in
    ap (λ b. cond b g (cond (g.origin.place == f.origin.place) (with_kind f (first_of f.kind g.kind)) f)) below ∙ ap (λ b. cond b (with_kind f (first_of f.kind g.kind)) f) equal

circle_same : (x : Origin) (f : Fault) → f.origin.place ≡ x.place → behind_circle (Some x) f ≡ with_kind f (first_of f.kind Form)
circle_same x f same = ap (λ b. cond b (with_kind f (first_of f.kind Form)) (fault x Form)) (same_test (f.origin.place == x.place) f.origin.place x.place refl same)

circle_other : (x : Origin) (f : Fault) → x.place < f.origin.place → behind_circle (Some x) f ≡ fault x Form
circle_other x f less = ap (λ b. cond b (with_kind f (first_of f.kind Form)) (fault x Form)) (more_test (f.origin.place == x.place) f.origin.place x.place refl less)

least_same : (f : Fault) (o : Origin) (kind : FaultKind) → f.origin.place ≡ o.place → least (Some f) o kind ≡ with_kind f (first_of f.kind kind)
least_same f o kind same = ap (λ b. cond b (with_kind f (first_of f.kind kind)) f) (same_test (f.origin.place == o.place) f.origin.place o.place refl same)

least_other : (f : Fault) (o : Origin) (kind : FaultKind) → f.origin.place < o.place → least (Some f) o kind ≡ f
least_other f o kind less = ap (λ b. cond b (with_kind f (first_of f.kind kind)) f) (less_test (f.origin.place == o.place) f.origin.place o.place refl less)

-- ---- what is told of a circle and of a fault that was met

abbrev pub told : Option Origin → Option Fault → Option Fault
told None met = met
told (Some x) None = Some (fault x Form)
told (Some x) (Some f) = Some (behind_circle (Some x) f)

-- it stands before, or is the same
abbrev pub Comes : Origin → Origin → Type 0
Comes x o = (x.place < o.place) ⊎ (x ≡ o)

abbrev pub InOrder : Option Origin → Option Fault → Type 0
InOrder (Some x) (Some f) = Comes x f.origin
InOrder (Some x) None = Unit {0}
InOrder None met = Unit {0}

place_same : {x y : Origin} → x ≡ y → x.place ≡ y.place
place_same e = ap (λ (o : Origin). o.place) e

one_met : (f : Fault) (o : Origin) (kind : FaultKind) → Comes f.origin o → earlier f (fault o kind) ≡ least (Some f) o kind
one_met f o kind (inl less) = earlier_less f (fault o kind) less ∙ sym (least_other f o kind less)
one_met f o kind (inr e) = earlier_same f (fault o kind) (place_same e) ∙ sym (least_same f o kind (place_same e))

one_circle : (x o : Origin) (kind : FaultKind) → Comes x o → earlier (fault x Form) (fault o kind) ≡ behind_circle (Some x) (fault o kind)
one_circle x o kind (inl less) = earlier_less (fault x Form) (fault o kind) less ∙ sym (circle_other x (fault o kind) less)
one_circle x o kind (inr e) =
    earlier_same (fault x Form) (fault o kind) (place_same e) ∙ ap (fault x) (first_swap Form kind) ∙ ap (λ (p : Origin). fault p (first_of kind Form)) e ∙ sym (circle_same x (fault o kind) (sym (place_same e)))

both_told : (x : Origin) (f : Fault) (o : Origin) (kind : FaultKind) → Comes x f.origin → Comes f.origin o → earlier (behind_circle (Some x) f) (fault o kind) ≡ behind_circle (Some x) (least (Some f) o kind)
both_told x f o kind (inl xf) (inl fo) =
    ap (λ (g : Fault). earlier g (fault o kind)) (circle_other x f xf) ∙ earlier_less (fault x Form) (fault o kind) (omega arith) ∙ sym (ap (behind_circle (Some x)) (least_other f o kind fo) ∙ circle_other x f xf)
both_told x f o kind (inl xf) (inr fo) =
    let same : f.origin.place ≡ o.place = place_same fo in
    ap (λ (g : Fault). earlier g (fault o kind)) (circle_other x f xf) ∙ earlier_less (fault x Form) (fault o kind) (omega arith)
    ∙ sym (ap (behind_circle (Some x)) (least_same f o kind same) ∙ circle_other x (with_kind f (first_of f.kind kind)) xf)
both_told x f o kind (inr xf) (inl fo) =
    let same : f.origin.place ≡ x.place = sym (place_same xf) in
    ap (λ (g : Fault). earlier g (fault o kind)) (circle_same x f same) ∙ earlier_less (with_kind f (first_of f.kind Form)) (fault o kind) fo ∙ sym (ap (behind_circle (Some x)) (least_other f o kind fo) ∙ circle_same x f same)
both_told x f o kind (inr xf) (inr fo) =
    let same : f.origin.place ≡ x.place = sym (place_same xf) in
    let on : f.origin.place ≡ o.place = place_same fo in
    ap (λ (g : Fault). earlier g (fault o kind)) (circle_same x f same) ∙ earlier_same (with_kind f (first_of f.kind Form)) (fault o kind) on ∙ ap (with_kind f) (first_later f.kind Form kind)
    ∙ sym (ap (behind_circle (Some x)) (least_same f o kind on) ∙ circle_same x (with_kind f (first_of f.kind kind)) same)

-- one more fault
pub told_more : (k : Option Origin) (met : Option Fault) (o : Origin) (kind : FaultKind) → IfSome k (λ x. Comes x o) → IfSome met (λ f. Comes f.origin o) → InOrder k met
    → Some (or_earlier (told k met) (fault o kind)) ≡ told k (Some (least met o kind))
told_more None None o kind a b c = refl
told_more None (Some f) o kind a b c = ap Some (one_met f o kind b)
told_more (Some x) None o kind a b c = ap Some (one_circle x o kind a)
told_more (Some x) (Some f) o kind a b c = ap Some (both_told x f o kind c b)

again_circle : (x o : Origin) → Comes x o → earlier (fault x Form) (fault o Form) ≡ fault x Form
again_circle x o (inl less) = earlier_less (fault x Form) (fault o Form) less
again_circle x o (inr e) = earlier_same (fault x Form) (fault o Form) (place_same e)

again_both : (x : Origin) (f : Fault) (o : Origin) → Comes x f.origin → f.origin ≡ o → earlier (behind_circle (Some x) f) (fault o Form) ≡ behind_circle (Some x) f
again_both x f o (inl xf) e =
    let on : f.origin.place ≡ o.place = place_same e in
    ap (λ (g : Fault). earlier g (fault o Form)) (circle_other x f xf) ∙ earlier_less (fault x Form) (fault o Form) (omega arith) ∙ sym (circle_other x f xf)
again_both x f o (inr xf) e =
    let same : f.origin.place ≡ x.place = sym (place_same xf) in
    let on : f.origin.place ≡ o.place = place_same e in
    ap (λ (g : Fault). earlier g (fault o Form)) (circle_same x f same) ∙ earlier_same (with_kind f (first_of f.kind Form)) (fault o Form) on ∙ ap (with_kind f) (first_again f.kind Form) ∙ sym (circle_same x f same)

-- one more circle, on the line of the fault that was met
pub told_circle : (k : Option Origin) (met : Option Fault) (b : Bool) (o : Origin) → IfSome k (λ x. Comes x o) → IfSome met (λ f. f.origin ≡ o) → InOrder k met
    → first_line (told k met) (cond b (fault o Form ∷ []) []) ≡ told (or_origin k b o) met
told_circle None met false o a e c = refl
told_circle (Some x) met false o a e c = refl
told_circle None None true o a e c = refl
told_circle None (Some f) true o a e c =
    let same : f.origin.place ≡ o.place = place_same e in
    ap Some (earlier_same f (fault o Form) same ∙ sym (circle_same o f same))
told_circle (Some x) None true o a e c = ap Some (again_circle x o a)
told_circle (Some x) (Some f) true o a e c = ap Some (again_both x f o c e)

-- ---- lists

abbrev pub AllFrom : ℕ → List Fault → Type 0
AllFrom n [] = Unit {0}
AllFrom n (f ∷ faults) = (n ≤ f.origin.place) × AllFrom n faults

pub from_both : (n : ℕ) (xs ys : List Fault) → AllFrom n xs → AllFrom n ys → AllFrom n (xs ++ ys)
from_both n [] ys a b = b
from_both n (x ∷ xs) ys a b = (a.0, from_both n xs ys a.1 b)

pub from_less : (n m : ℕ) (xs : List Fault) → n ≤ m → AllFrom m xs → AllFrom n xs
from_less n m [] le a = tt
from_less n m (x ∷ xs) le a = let h = a.0 in (omega (arith, h, le), from_less n m xs le a.1)

-- later lines change nothing
pub first_stays : (g : Fault) (faults : List Fault) → AllFrom (suc g.origin.place) faults → first_line (Some g) faults ≡ Some g
first_stays g [] a = refl
first_stays g (f ∷ faults) a = let h = a.0 in ap (λ (k : Fault). first_line (Some k) faults) (earlier_less g f (omega (arith, h))) ∙ first_stays g faults a.1

pub first_joined : (o : Option Fault) (xs ys : List Fault) → first_line o (xs ++ ys) ≡ first_line (first_line o xs) ys
first_joined o [] ys = refl
first_joined o (x ∷ xs) ys = first_joined (Some (or_earlier o x)) xs ys

pub circle_place : (k : Option Origin) (f : Fault) → InOrder k (Some f) → (behind_circle k f).origin.place ≤ f.origin.place
circle_place None f c = omega arith
circle_place (Some x) f (inl less) = let e = ap (λ (g : Fault). g.origin.place) (circle_other x f less) in omega (arith, e)
circle_place (Some x) f (inr same) = let e = ap (λ (g : Fault). g.origin.place) (circle_same x f (sym (place_same same))) in omega (arith, e)

pub told_met : (k : Option Origin) (f : Fault) → told k (Some f) ≡ Some (behind_circle k f)
told_met None f = refl
told_met (Some x) f = refl
