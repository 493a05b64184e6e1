-- One place after the other.
use Rattle.std.proofs.Common.{◌≡◌, ◌<◌, ◌≤◌, ℕ, zero, suc, ◌+◌, true, false, List, [], ◌∷◌, Some, None, length, drop, get_or, refl, sym, ap, ◌∙◌, subst, arith, add-one}
use Rattle.std.specs.Prelude.{slice_get}
use Rattle.std.specs.List.{list_all}
use Rattle.std.proofs.Math.Seq.{drop-cons}
use Rattle.std.proofs.lemmas.Bool.{and_parts}
use Rattle.std.proofs.lemmas.Option.{slice_get-get_or}
use Rattle.vax_machine.specs.Machine.{Keeping}
use Rattle.vax_jobs.specs.Pooling.{first_free, is_among, is_pair, is_pinned, is_there}
use Rattle.vax_jobs.specs.declared.pool.Pair.{Pair}
use Rattle.vax_jobs.proofs.Rooms.{less}

next_of : (pairs : List Pair) (n : ℕ) (x : Pair) → n < length pairs → x ≡ get_or pairs n x → drop n pairs ≡ x ∷ drop (n + 1) pairs
next_of pairs n x l is = rw add-one (drop-cons pairs n x l ∙ ap (λ y. y ∷ drop (suc n) pairs) (sym is))

pub here : (pairs : List Pair) (n : ℕ) (x : Pair) → n < length pairs → x ≡ get_or pairs n x → slice_get pairs n ≡ Some x
here pairs n x l is = slice_get-get_or pairs n x l ∙ ap Some (sym is)

first_held : (processes : List Keeping) (x : Pair) (rest : List Pair) → is_pinned processes x ≡ true → first_free processes (x ∷ rest) ≡ first_free processes rest
unfolding first_free
first_held processes x rest held = rw held refl

first_other : (processes : List Keeping) (x : Pair) (rest : List Pair) → is_pinned processes x ≡ false → first_free processes (x ∷ rest) ≡ Some x
unfolding first_free
first_other processes x rest free = rw free refl

first_none : (processes : List Keeping) → first_free processes [] ≡ None
unfolding first_free
first_none processes = refl

pub held_next : (processes : List Keeping) (pairs : List Pair) (n : ℕ) (x : Pair) → n < length pairs → x ≡ get_or pairs n x → first_free processes pairs ≡ first_free processes (drop n pairs) → is_pinned processes x ≡ true → first_free processes pairs ≡ first_free processes (drop (n + 1) pairs)
held_next processes pairs n x l is so held = so ∙ ap (first_free processes) (next_of pairs n x l is) ∙ first_held processes x (drop (n + 1) pairs) held

pub free_here : (processes : List Keeping) (pairs : List Pair) (n : ℕ) (x : Pair) → n < length pairs → x ≡ get_or pairs n x → first_free processes pairs ≡ first_free processes (drop n pairs) → is_pinned processes x ≡ false → first_free processes pairs ≡ slice_get pairs n
free_here processes pairs n x l is so free =
    so ∙ ap (first_free processes) (next_of pairs n x l is) ∙ first_other processes x (drop (n + 1) pairs) free ∙ sym (here pairs n x l is)

none_left : {A : Type 0} (xs : List A) (n : ℕ) → length xs ≤ n → drop n xs ≡ []
none_left [] zero l = refl
none_left [] (suc n) l = refl
none_left (x ∷ xs) zero l = absurd (omega arith)
none_left (x ∷ xs) (suc n) l = none_left xs n (omega arith)

pub none_free_left : (processes : List Keeping) (pairs : List Pair) (n : ℕ) → length pairs ≤ n → first_free processes pairs ≡ first_free processes (drop n pairs) → first_free processes pairs ≡ None
none_free_left processes pairs n l so = so ∙ ap (first_free processes) (none_left pairs n l) ∙ first_none processes

pub not_here : (pairs : List Pair) (n : ℕ) (x : Pair) (job page : ℕ) → n < length pairs → x ≡ get_or pairs n x → is_there pairs job page ≡ is_there (drop n pairs) job page → is_pair job page x ≡ false → is_there pairs job page ≡ is_there (drop (n + 1) pairs) job page
not_here pairs n x job page l is so other =
    so ∙ ap (λ ps. is_there ps job page) (next_of pairs n x l is) ∙ rw other refl

pub nowhere : (pairs : List Pair) (n job page : ℕ) → length pairs ≤ n → is_there pairs job page ≡ is_there (drop n pairs) job page → is_there pairs job page ≡ false
nowhere pairs n job page l so = so ∙ ap (λ ps. is_there ps job page) (none_left pairs n l)

pub it_is : (x : Pair) (job page : ℕ) → x.job ≡ job → x.page ≡ page → x ≡ record { job = job; page = page }
it_is x job page a b = λ i. record { job = a i; page = b i }

-- each page is of one of the processes
pub among_at : (count : ℕ) (pairs : List Pair) (n : ℕ) (x : Pair) → list_all (is_among count) pairs ≡ true → n < length pairs → x ≡ get_or pairs n x → x.job < count
among_at count [] n x all l is = absurd (omega arith)
among_at count (y ∷ pairs) zero x all l is =
    let parts = and_parts (is_among count y) (list_all (is_among count) pairs) all in
    subst (λ (p : Pair). p.job < count) (sym is) (less y.job count parts.0)
among_at count (y ∷ pairs) (suc n) x all l is =
    let parts = and_parts (is_among count y) (list_all (is_among count) pairs) all in
    among_at count pairs n x parts.1 (omega arith) is
