-- A list of blocks as a map of their numbers.
use Rattle.std.proofs.Common.{◌≡◌, ◌<◌, ℕ, ◌+◌, true, false, cond, List, [], ◌∷◌, length, set, Option, None, Some, Bor, refl, sym, ap, ◌∙◌, arith, zero, suc, ◌++◌, get_or, replicate}
use Rattle.std.proofs.lemmas.List.{replicate_more}
use Prim.Native.Nat.compare
use Rattle.std.specs.Option.{IfSome, option_map}
use Rattle.std.specs.Slice.{IsGetResult}
use Rattle.std.proofs.lemmas.Option.{slice_get-get_or, slice_get_past, slice_get_read}
use Rattle.vax_outside.specs.Blocks.{BlockFile, after_write, numbered}
use Rattle.std.specs.List.{slice_get, enumerate_from}
use Rattle.std.specs.Ordering.{nat_cmp, eq_by_cmp, is_eq}
use Rattle.std.specs.declared.cmp.Ordering.TheVariants.{Less, Equal, Greater}
use Rattle.std.specs.Cmp.{nat_cmp_total, nat_cmp_is}
use Rattle.std.specs.FinMap.{insert, get, find, get-from_entries, get-insert, same_map, nat_cmp-IsAntisymmetric}

same_number : (n : ℕ) → eq_by_cmp nat_cmp n n ≡ true
same_number n = ap is_eq (sym (nat_cmp_is n n Equal refl))

above : (q n : ℕ) → n < q → eq_by_cmp nat_cmp q n ≡ false
above q n l = ap is_eq (sym (nat_cmp_is q n Greater l))

below : (q n : ℕ) → q < n → eq_by_cmp nat_cmp q n ≡ false
below q n l = ap is_eq (sym (nat_cmp_is q n Less l))

-- the block with this number
pub find-enumerate_from : {X : Type 0} (xs : List X) (from q k : ℕ) → k ≡ from + q → find nat_cmp k (enumerate_from from xs) ≡ slice_get xs q
find-enumerate_from [] from q k e = refl
find-enumerate_from (x ∷ xs) from zero k e =
    let same : k ≡ from = omega arith in
    rw same (rw (same_number from) refl)
find-enumerate_from (x ∷ xs) from (suc q) k e =
    rw (above k from (omega arith)) (find-enumerate_from xs (from + 1) q k (omega arith))

-- a number's block is what stands at that place of the list
pub get-numbered : (xs : List (List ℕ)) (n : ℕ) → get (numbered xs) n ≡ slice_get xs n
get-numbered xs n = get-from_entries nat_cmp_total (enumerate_from 0 xs) n ∙ find-enumerate_from xs 0 n n (omega arith)

-- a block that was set, and each other block
pub slice_get-set : {X : Type 0} (xs : List X) (n q : ℕ) (x : X) → n < length xs → slice_get (set xs n x) q ≡ cond (eq_by_cmp nat_cmp q n) (Some x) (slice_get xs q)
slice_get-set [] n q x l = absurd (omega arith)
slice_get-set (y ∷ ys) zero zero x l = refl
slice_get-set (y ∷ ys) zero (suc q) x l = rw (above (suc q) 0 (omega arith)) refl
slice_get-set (y ∷ ys) (suc n) zero x l = rw (below 0 (suc n) (omega arith)) refl
slice_get-set (y ∷ ys) (suc n) (suc q) x l = simp compare.suc-suc (slice_get-set ys n q x (omega arith))

-- to set one block is to insert it
pub numbered-set : (xs : List (List ℕ)) (n : ℕ) (x : List ℕ) → n < length xs → numbered (set xs n x) ≡ insert (numbered xs) n x
numbered-set xs n x l = same_map nat_cmp_total nat_cmp-IsAntisymmetric _ _ (λ q.
    get-numbered (set xs n x) q
    ∙ slice_get-set xs n q x l
    ∙ ap (cond (eq_by_cmp nat_cmp q n) (Some x)) (sym (get-numbered xs q))
    ∙ sym (get-insert nat_cmp_total (numbered xs) n x q))

-- what stands at a number is the block of that number
pub gives_block : (xs : List (List ℕ)) (n : ℕ) (x : List ℕ) → n < length xs → x ≡ get_or xs n x → IfSome (get (numbered xs) n) (λ block. x ≡ block)
gives_block xs n x l e =
    let found : get (numbered xs) n ≡ Some (get_or xs n x) = get-numbered xs n ∙ slice_get-get_or xs n x l in
    rw found e

-- the file with these blocks
abbrev file : List (List ℕ) → List (ℕ × List ℕ) → ℕ → BlockFile
file xs writes reads = record { blocks = numbered xs; writes = writes; reads = reads }

-- the file after a write
pub written : (xs : List (List ℕ)) (n : ℕ) (x : List ℕ) (old new : List (ℕ × List ℕ)) (reads : ℕ) → n < length xs → new ≡ old ++ (n, x) ∷ [] →
    Some (file (set xs n x) new reads) ≡ Some (after_write n x (file xs old reads))
written xs n x old new reads l e i = Some (record { blocks = numbered-set xs n x l i; writes = e i; reads = reads })

-- what a look-up by place gives
pub item_at : {X : Type 0} (xs : List X) (n : ℕ) (r : Option (Bor X)) → IsGetResult xs n n r → option_map (λ x. x.now) r ≡ slice_get xs n
item_at xs n None h = sym (slice_get_past xs n h.3)
item_at xs n (Some x) h = sym (slice_get_read xs (length xs) n x.now refl h.3.0 h.1)

-- one more of the same
pub replicate_next : {X : Type 0} (xs ys : List X) (n : ℕ) (x : X) → xs ≡ replicate n x → ys ≡ xs ++ x ∷ [] → ys ≡ replicate (n + 1) x
replicate_next xs ys n x e p = p ∙ ap (λ t. t ++ x ∷ []) e ∙ replicate_more n x
