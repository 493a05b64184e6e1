-- What a part of a page file has of the file's blocks.
use Rattle.std.proofs.Common.{◌≡◌, ◌<◌, ◌≤◌, ℕ, ◌^◌, ◌==◌, false, List, [], ◌∷◌, ◌++◌, Option, Some, None, map, refl, sym, ap, ◌∙◌, subst, arith, inl, inr}
use Rattle.std.specs.Prelude.{cond, nat_lt, IfSome, Result, Ok, Err, OnOk}
use Rattle.std.proofs.lemmas.Bool.{cases_eq, cases_lt, eq-eqb, ne_eqb, lt-ltb}
use Rattle.std.proofs.lemmas.Bool.Decides.{nat_tests}
use Rattle.std.specs.List.{filter}
use Rattle.std.proofs.lemmas.List.{map-append}
use Rattle.std.specs.Ordering.{nat_cmp, eq_by_cmp}
use Rattle.std.specs.Cmp.{nat_cmp_total, unsigned_tied}
use Rattle.std.specs.FinMap.{FinMap, entries, find, get, get-entries, get-from_entries, get-insert, insert, nat_cmp-IsAntisymmetric, same_map}
use Rattle.vax_outside.specs.Blocks.{BlockFile, GivesBlock, PutsBlock, after_write}
use Rattle.vax_window.specs.Windows.{blocks_seen, entry_seen, file_seen, is_numbered, shifted, unshifted, window_of}

pub back : (first n : ℕ) → n < 2 ^ 32 → unshifted first (shifted first n) ≡ n
back first n l = omega arith

pub forth : (first k : ℕ) → k < 2 ^ 32 → shifted first (unshifted first k) ≡ k
forth first k l = omega arith

tests_same : (a b c d : ℕ) → (a ≡ b → c ≡ d) → (c ≡ d → a ≡ b) → (a == b) ≡ (c == d)
tests_same a b c d f g = elim (cases_eq a b) [
  | inl e ↦ eq-eqb a b e ∙ sym (eq-eqb c d (f e))
  | inr o ↦ ne_eqb a b o ∙ sym (ne_eqb c d (λ e. o (g e)))
]

key_seen : (first n k : ℕ) → n < 2 ^ 32 → k < 2 ^ 32 → eq_by_cmp nat_cmp n (unshifted first k) ≡ eq_by_cmp nat_cmp (shifted first n) k
key_seen first n k l m =
    unsigned_tied n (unshifted first k)
    ∙ tests_same n (unshifted first k) (shifted first n) k (λ e. ap (shifted first) e ∙ forth first k m) (λ e. sym (back first n l) ∙ ap (unshifted first) e)
    ∙ sym (unsigned_tied (shifted first n) k)

apart_keys : (m k : ℕ) → (m ≡ k → ⊥) → eq_by_cmp nat_cmp m k ≡ false
apart_keys m k o = unsigned_tied m k ∙ ne_eqb m k o

not_numbered : (k : ℕ) → 2 ^ 32 ≤ k → nat_lt k (2 ^ 32) ≡ false
not_numbered k l = grind (arith, nat_tests)

find_seen : (first n : ℕ) (es : List (ℕ × List ℕ)) → n < 2 ^ 32 → find nat_cmp n (map (entry_seen first) (filter is_numbered es)) ≡ find nat_cmp (shifted first n) es
find_seen first n [] l = refl
find_seen first n (e ∷ es) l = elim (cases_lt e.0 (2 ^ 32)) [
  | inl small ↦ rw (lt-ltb e.0 (2 ^ 32) small, key_seen first n e.0 l small, find_seen first n es l) refl
  | inr large ↦ rw (not_numbered e.0 large, apart_keys (shifted first n) e.0 (λ same. omega arith), find_seen first n es l) refl
]

find_far : (first n : ℕ) (es : List (ℕ × List ℕ)) → 2 ^ 32 ≤ n → find nat_cmp n (map (entry_seen first) (filter is_numbered es)) ≡ None
find_far first n [] l = refl
find_far first n (e ∷ es) l = elim (cases_lt e.0 (2 ^ 32)) [
  | inl small ↦ rw (lt-ltb e.0 (2 ^ 32) small, apart_keys n (unshifted first e.0) (λ same. omega arith), find_far first n es l) refl
  | inr large ↦ rw (not_numbered e.0 large, find_far first n es l) refl
]

-- a block of the part is one of the file
pub get_seen : (first n : ℕ) (blocks : FinMap nat_cmp (List ℕ)) → n < 2 ^ 32 → get (blocks_seen first blocks) n ≡ get blocks (shifted first n)
unfolding blocks_seen
get_seen first n blocks l =
    get-from_entries nat_cmp_total (map (entry_seen first) (filter is_numbered (entries blocks))) n
    ∙ find_seen first n (entries blocks) l
    ∙ sym (get-entries blocks (shifted first n))

-- the part has no others
pub get_far : (first n : ℕ) (blocks : FinMap nat_cmp (List ℕ)) → 2 ^ 32 ≤ n → get (blocks_seen first blocks) n ≡ None
unfolding blocks_seen
get_far first n blocks l =
    get-from_entries nat_cmp_total (map (entry_seen first) (filter is_numbered (entries blocks))) n ∙ find_far first n (entries blocks) l

same_key : (first n q : ℕ) → n < 2 ^ 32 → q < 2 ^ 32 → eq_by_cmp nat_cmp (shifted first q) (shifted first n) ≡ eq_by_cmp nat_cmp q n
same_key first n q l m =
    unsigned_tied (shifted first q) (shifted first n)
    ∙ tests_same (shifted first q) (shifted first n) q n (λ e. sym (back first q m) ∙ ap (unshifted first) e ∙ back first n l) (λ e. ap (shifted first) e)
    ∙ sym (unsigned_tied q n)

-- a block that is written in the part
insert_seen : (first n : ℕ) (block : List ℕ) (blocks : FinMap nat_cmp (List ℕ)) → n < 2 ^ 32 → blocks_seen first (insert blocks (shifted first n) block) ≡ insert (blocks_seen first blocks) n block
insert_seen first n block blocks l = same_map nat_cmp_total nat_cmp-IsAntisymmetric _ _ (λ q. elim (cases_lt q (2 ^ 32)) [
  | inl small ↦
      get_seen first q (insert blocks (shifted first n) block) small
      ∙ get-insert nat_cmp_total blocks (shifted first n) block (shifted first q)
      ∙ ap (λ b. cond b (Some block) (get blocks (shifted first q))) (same_key first n q l small)
      ∙ ap (cond (eq_by_cmp nat_cmp q n) (Some block)) (sym (get_seen first q blocks small))
      ∙ sym (get-insert nat_cmp_total (blocks_seen first blocks) n block q)
  | inr large ↦
      get_far first q (insert blocks (shifted first n) block) large
      ∙ sym (get_far first q blocks large)
      ∙ ap (λ b. cond b (Some block) (get (blocks_seen first blocks) q)) (sym (apart_keys q n (λ same. omega arith)))
      ∙ sym (get-insert nat_cmp_total (blocks_seen first blocks) n block q)
])

file_wrote : (first n : ℕ) (block : List ℕ) (file : BlockFile) → n < 2 ^ 32 → file_seen first (after_write (shifted first n) block file) ≡ after_write n block (file_seen first file)
file_wrote first n block file l =
    let blocks = insert_seen first n block file.blocks l in
    let entry : entry_seen first (shifted first n, block) ≡ (n, block) = ap (λ (k : ℕ). (k, block)) (back first n l) in
    let writes : map (entry_seen first) (file.writes ++ (shifted first n, block) ∷ []) ≡ map (entry_seen first) file.writes ++ (n, block) ∷ [] =
    map-append (entry_seen first) file.writes ((shifted first n, block) ∷ []) ∙ ap (λ e. map (entry_seen first) file.writes ++ e ∷ []) entry in
    λ i. record { blocks = blocks i; writes = writes i; reads = file.reads }

-- the clauses of a page file

pub gives_seen : (first n place : ℕ) (bytes : List ℕ) (old : Option BlockFile) → n < 2 ^ 32 → place ≡ shifted first n → GivesBlock old place bytes → GivesBlock (window_of first old) n bytes
gives_seen first n place bytes None l is h = tt
gives_seen first n place bytes (Some file) l is h =
    let P : Option (List ℕ) → Type 0 = λ o. IfSome o (λ block. bytes ≡ block) in
    subst P (ap (get file.blocks) is ∙ sym (get_seen first n file.blocks l)) h

pub writes_seen : (first n place : ℕ) (bytes : List ℕ) (old new : Option BlockFile) → n < 2 ^ 32 → place ≡ shifted first n → PutsBlock place bytes old new → PutsBlock n bytes (window_of first old) (window_of first new)
writes_seen first n place bytes None new l is e = ap (window_of first) e
writes_seen first n place bytes (Some file) new l is e =
    ap (window_of first) e ∙ ap (λ (k : ℕ). Some (file_seen first (after_write k bytes file))) is ∙ ap Some (file_wrote first n bytes file l)

pub on_ok : {A E : Type 0} {P Q : Type 0} (r : Result A E) → (P → Q) → OnOk r P → OnOk r Q
on_ok (Ok x) f h = f h
on_ok (Err e) f h = tt
