-- One line after the other.
use Rattle.std.proofs.Common.{◌≡◌, ℕ, ◌+◌, true, false, List, [], ◌∷◌, ◌++◌, Some, None, Result, Ok, Err, length, refl, sym, ap, ◌∙◌, subst, arith, append_assoc, if◌then◌else◌}
use Rattle.std.proofs.lemmas.Bool.{and_from}
use Rattle.std.proofs.lemmas.List.{append-nil}
use Rattle.std.proofs.lemmas.List.Folds.{list_all-append}
use Rattle.std.proofs.lemmas.List.Elements.{filter_map-append}
use Rattle.std.specs.Prelude.{IsErrAnd}
use Rattle.std.specs.List.{filter_map, list_all}
use Rattle.vax_lines.specs.Lines.{Text, lines}
use Rattle.vax_order.specs.declared.line.Line.{Line}
use Rattle.vax_order.specs.declared.line.Reading.{Reading}
use Rattle.vax_order.specs.declared.line.Reading.TheVariants.{Silent, Says, Strange, Malformed}
use Rattle.vax_order.specs.declared.order.OrderError.{OrderError}
use Rattle.vax_order.specs.declared.order.OrderError.TheVariants.{Fault, NoMemory}
use Rattle.vax_order.specs.Orders.{IsFaultOf, IsOrder, Reads, first_fault, is_line, is_proper, kind_of, line_of, names_all, or_later, order_of, readings, said}

-- what was read of a text up to a line, and what is left of it
pub record HasRead (jobs : ℕ) (text rest : Text) (number : ℕ) (order : List Line) : Type 0 where
  pub faults : first_fault 1 (readings jobs text) ≡ first_fault (number + 1) (readings jobs rest)
  pub taken : filter_map said (readings jobs text) ≡ order ++ filter_map said (readings jobs rest)
  pub count : length (lines text) ≡ number + length (lines rest)
  pub proper : list_all (is_line jobs) order ≡ true

pub begins : (jobs : ℕ) (text : Text) → HasRead jobs text text 0 []
begins jobs text = record { faults = refl; taken = refl; count = omega arith; proper = refl }

some : {A : Type 0} (x : A) (xs : List A) → length (x ∷ xs) ≡ length xs + 1
some x xs = grind arith

-- the readings of what is left, by that of its first line
first_of : (jobs : ℕ) (rest line behind : Text) (r : Reading) → lines rest ≡ line ∷ lines behind → r ≡ line_of jobs line → readings jobs rest ≡ r ∷ readings jobs behind
first_of jobs rest line behind r l is =
    let first : readings jobs rest ≡ line_of jobs line ∷ readings jobs behind = rw l refl in
    first ∙ ap (λ x. x ∷ readings jobs behind) (sym is)

fault_first : (n : ℕ) (r : Reading) (rs : List Reading) → first_fault n (r ∷ rs) ≡ or_later n (kind_of r) (first_fault (n + 1) rs)
unfolding first_fault
fault_first n r rs = refl

proper_more : (jobs : ℕ) (r : Reading) → is_proper jobs r ≡ true → list_all (is_line jobs) (filter_map said (r ∷ [])) ≡ true
proper_more jobs Silent p = refl
proper_more jobs (Says line) p = and_from _ true p refl
proper_more jobs Strange p = refl
proper_more jobs Malformed p = refl

-- a line without fault
pub reads_next : (jobs : ℕ) (text rest line behind : Text) (number : ℕ) (order more : List Line) (r : Reading) → HasRead jobs text rest number order → lines rest ≡ line ∷ lines behind → r ≡ line_of jobs line → is_proper jobs r ≡ true → kind_of r ≡ None → more ≡ order ++ filter_map said (r ∷ []) → HasRead jobs text behind (number + 1) more
reads_next jobs text rest line behind number order more r h l is proper good m =
    let first = first_of jobs rest line behind r l is in
    record {
      faults =
          h.faults ∙ ap (first_fault (number + 1)) first ∙ fault_first (number + 1) r (readings jobs behind)
          ∙ ap (λ k. or_later (number + 1) k (first_fault (number + 1 + 1) (readings jobs behind))) good;
      taken =
          h.taken ∙ ap (λ rs. order ++ filter_map said rs) first ∙ ap (λ xs. order ++ xs) (filter_map-append said (r ∷ []) (readings jobs behind))
          ∙ sym (append_assoc order (filter_map said (r ∷ [])) (filter_map said (readings jobs behind)))
          ∙ ap (λ xs. xs ++ filter_map said (readings jobs behind)) (sym m);
      count = omega (arith, h.count, ap length l, some line (lines behind));
      proper = ap (list_all (is_line jobs)) m ∙ list_all-append (is_line jobs) order (filter_map said (r ∷ [])) ∙ and_from _ _ h.proper (proper_more jobs r proper);
    }

-- the first line with a fault
stops_at : (jobs : ℕ) (text rest line behind : Text) (number kind : ℕ) (order : List Line) (r : Reading) → HasRead jobs text rest number order → lines rest ≡ line ∷ lines behind → r ≡ line_of jobs line → kind_of r ≡ Some kind → order_of jobs text ≡ Err (number + 1, kind)
unfolding order_of
stops_at jobs text rest line behind number kind order r h l is bad =
    let first = first_of jobs rest line behind r l is in
    let found : first_fault 1 (readings jobs text) ≡ Some (number + 1, kind) =
    h.faults ∙ ap (first_fault (number + 1)) first ∙ fault_first (number + 1) r (readings jobs behind)
    ∙ ap (λ k. or_later (number + 1) k (first_fault (number + 1 + 1) (readings jobs behind))) bad in
    rw found refl

pub stops_by : (jobs : ℕ) (text rest line behind : Text) (number : ℕ) (order : List Line) (r : Reading) (e : OrderError) → HasRead jobs text rest number order → lines rest ≡ line ∷ lines behind → r ≡ line_of jobs line → IsFaultOf (number + 1) r e → Reads jobs text (Err e)
stops_by jobs text rest line behind number order r (Fault at kind) h l is bad =
    subst (λ (k : ℕ). order_of jobs text ≡ Err (k, kind)) (sym bad.0) (stops_at jobs text rest line behind number kind order r h l is bad.1)
stops_by jobs text rest line behind number order r NoMemory h l is bad = tt

no_fault : (n : ℕ) → first_fault n [] ≡ None
unfolding first_fault
no_fault n = refl

-- no line is left
abbrev at_end : ℕ → ℕ → List Line → Result (List Line) (ℕ × ℕ)
at_end jobs number order = if names_all jobs order then Ok order else Err (number + 1, 3)

ends : (jobs : ℕ) (text rest : Text) (number : ℕ) (order : List Line) → HasRead jobs text rest number order → lines rest ≡ [] → order_of jobs text ≡ at_end jobs number order
unfolding order_of
ends jobs text rest number order h l =
    let none : readings jobs rest ≡ [] = rw l refl in
    let sound : first_fault 1 (readings jobs text) ≡ None = h.faults ∙ ap (first_fault (number + 1)) none ∙ no_fault (number + 1) in
    let whole : filter_map said (readings jobs text) ≡ order = h.taken ∙ ap (λ rs. order ++ filter_map said rs) none ∙ append-nil order in
    let count : length (lines text) ≡ number = omega (arith, h.count, ap length l) in
    rw (sound, whole, count) refl

pub ends_missing : (jobs : ℕ) (text rest : Text) (number line : ℕ) (order : List Line) → HasRead jobs text rest number order → lines rest ≡ [] → names_all jobs order ≡ false → line ≡ number + 1 → Reads jobs text (Err (Fault line 3))
ends_missing jobs text rest number line order h l gone is =
    ends jobs text rest number order h l ∙ rw (gone, is) refl

pub ends_whole : (jobs : ℕ) (text rest : Text) (number : ℕ) (order : List Line) → HasRead jobs text rest number order → lines rest ≡ [] → names_all jobs order ≡ true → Reads jobs text (Ok order)
ends_whole jobs text rest number order h l named = ends jobs text rest number order h l ∙ rw named refl

pub is_order : (jobs : ℕ) (text rest : Text) (number : ℕ) (order : List Line) → HasRead jobs text rest number order → names_all jobs order ≡ true → IsOrder jobs order
is_order jobs text rest number order h named = record { proper = h.proper; named = named }

pub err_same : {T : Type 0} (r : Result T OrderError) (e : OrderError) → IsErrAnd r (λ x. x ≡ e) → r ≡ Err e
err_same (Ok x) e h = absurd h
err_same (Err y) e h = ap Err h
