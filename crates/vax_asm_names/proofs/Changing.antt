-- How the table of names changes.
use Rattle.std.proofs.Common.{◌≡◌, ℕ, suc, ◌<◌, ◌+◌, List, [], ◌∷◌, ◌++◌, length, map, slice_index_or, slice_set, Bool, true, false, cond, Option, Some, None, Result, Ok, Err, Vec, sym, ap, subst, ◌∙◌, arith}
use Rattle.std.proofs.lemmas.List.{map-set, get_or-map, map-append, length-map, length-append}
use Rattle.std.proofs.Math.Seq.{map-set_same}
use Rattle.std.specs.Option.{ForSome}
use Rattle.std.specs.Result.{OnOk, OnErr}
use Rattle.std.specs.Str.{bytes_eq}
use Rattle.vax_space.specs.declared.NoMemory.{NoMemory}
use Rattle.std.specs.BTreeMap.{BTreeMap}
use Rattle.std.specs.Global.{Global}
use Rattle.vax_asm_names.proofs.Maps.{nothing_named}
use Rattle.vax_asm_names.specs.ByName.{by_name, with_entry}
use Rattle.vax_asm_names.specs.Names as specs
use Rattle.vax_asm_names.specs.Names.{no_locals}
use Rattle.vax_asm_names.specs.View.{name_of, Becomes, Leaves}
use Rattle.vax_asm_names.specs.declared.types.Duplicate.{Duplicate}
use Rattle.vax_asm_names.specs.declared.types.Linkage.{Linkage}
use Rattle.vax_asm_names.specs.declared.types.Local.{Local}
use Rattle.vax_asm_names.specs.declared.types.Name.{Name}

abbrev pub Block : Type 0
Block = BTreeMap (Vec ℕ Global) Local

pub name_added : (xs : List Name) (n : Name) → map name_of (xs ++ n ∷ []) ≡ map name_of xs ++ name_of n ∷ []
name_added xs n = map-append name_of xs (n ∷ [])

-- a number in the table is one of a name
pub in_table : (f : List ℕ → Option ℕ) (xs : List Name) (text : List ℕ) (i : ℕ) → ((t : List ℕ) → ForSome (f t) (λ k. k < length xs)) → f text ≡ Some i → i < length (map name_of xs)
in_table f xs text i h e = rw (length-map xs name_of) (h text i e)

some_is : {X : Type 0} {x y : X} → Some x ≡ Some y → x ≡ y
some_is {X} {x} e = ap (λ (o : Option X). elim o [ Some z ↦ z | None ↦ x ]) e

-- one more number
in_longer : (b : Bool) (o : Option ℕ) (n i : ℕ) → ((k : ℕ) → o ≡ Some k → k < n) → cond b (Some n) o ≡ Some i → i < n + 1
in_longer true o n i h e = omega (arith, some_is e)
in_longer false o n i h e = omega (arith, h i e)

still_in_table : (f : List ℕ → Option ℕ) (text : List ℕ) (n : ℕ) → ((t : List ℕ) → ForSome (f t) (λ k. k < n)) → (t : List ℕ) → ForSome (with_entry text (Some n) f t) (λ k. k < n + 1)
still_in_table f text n h t = λ i e. in_longer (bytes_eq text t) (f t) n i (h t) e

put_or_kept : (r : Result Unit NoMemory) (f g : List ℕ → Option ℕ) (text : List ℕ) (n : ℕ) → OnOk r (g ≡ with_entry text (Some n) f) → OnErr r (g ≡ f)
    → ((t : List ℕ) → ForSome (f t) (λ k. k < n)) → (t : List ℕ) → ForSome (g t) (λ k. k < n + 1)
put_or_kept (Ok u) f g text n put kept h t = λ i e. still_in_table f text n h t i (ap (λ (q : List ℕ → Option ℕ). q t) (sym put) ∙ e)
put_or_kept (Err e) f g text n put kept h t = λ i is. omega (arith, h t i (ap (λ (q : List ℕ → Option ℕ). q t) (sym kept) ∙ is))

-- a name more, and its number
pub numbered_more : (r : Result Unit NoMemory) (f g : List ℕ → Option ℕ) (text : List ℕ) (xs ys : List Name) (x : Name) (n : ℕ) → n ≡ length xs → ys ≡ xs ++ x ∷ []
    → OnOk r (g ≡ with_entry text (Some n) f) → OnErr r (g ≡ f) → ((t : List ℕ) → ForSome (f t) (λ k. k < length xs)) → (t : List ℕ) → ForSome (g t) (λ k. k < length ys)
numbered_more r f g text xs ys x n is more put kept h t =
    let longer : length ys ≡ n + 1 = ap length more ∙ length-append xs (x ∷ []) ∙ ap (λ k. k + 1) (sym is) in
    let P : ℕ → Type 0 = λ k. ForSome (g t) (λ i. i < k) in
    let Q : ℕ → Type 0 = λ k. (q : List ℕ) → ForSome (f q) (λ i. i < k) in
    subst P (sym longer) (put_or_kept r f g text n put kept (subst Q (sym is) h) t)

pub numbered_as_before : (f : List ℕ → Option ℕ) (xs ys : List Name) → ys ≡ xs → ((t : List ℕ) → ForSome (f t) (λ k. k < length xs)) → (t : List ℕ) → ForSome (f t) (λ k. k < length ys)
numbered_as_before f xs ys e h = let Q : List Name → Type 0 = λ zs. (t : List ℕ) → ForSome (f t) (λ k. k < length zs) in subst Q (sym e) h

-- a name is seen, and one of many becomes another
pub name_seen : (xs : List Name) (i : ℕ) (d : Name) → i < length (map name_of xs) → specs.name_at (map name_of xs) i ≡ name_of (slice_index_or xs i d)
name_seen xs i d h = get_or-map name_of xs i d (specs.first_seen true [] 0) (subst (λ n. i < n) (length-map xs name_of) h)

pub one_becomes : (r : Result Unit Duplicate) (s : specs.Names) (xs : List Name) (i : ℕ) (x b : Name) (f : specs.Name → Result specs.Name Duplicate) → i < length (map name_of xs) → x ≡ slice_index_or xs i x
    → Becomes r (name_of x) (name_of b) (f (name_of x))
    → Leaves r (record s { all = map name_of xs }) (record s { all = map name_of (slice_set xs i b) }) (specs.changed i (record s { all = map name_of xs }) (f (specs.name_at (map name_of xs) i)))
one_becomes (Ok done) s xs i x b f h is e =
    ap (λ n. specs.changed i (record s { all = map name_of xs }) (f n)) (name_seen xs i x h ∙ ap name_of (sym is))
    ∙ ap (specs.changed i (record s { all = map name_of xs })) e
    ∙ ap (λ l. Ok (record s { all = l })) (sym (map-set name_of xs i b))
one_becomes (Err u) s xs i x b f h is e = (
  ap (λ n. specs.changed i (record s { all = map name_of xs }) (f n)) (name_seen xs i x h ∙ ap name_of (sym is)) ∙ ap (specs.changed i (record s { all = map name_of xs })) e.0,
  ap (λ (l : List specs.Name). record s { all = l }) (map-set_same name_of xs i b x (e.1 ∙ ap name_of is)),
)

pub one_is_linked : (linkage : Linkage) (s : specs.Names) (xs : List Name) (i : ℕ) (x b : Name) → i < length (map name_of xs) → x ≡ slice_index_or xs i x → name_of b ≡ specs.linked linkage (name_of x)
    → record s { all = map name_of (slice_set xs i b) } ≡ specs.with_change i (record s { all = map name_of xs }) (specs.linked linkage (specs.name_at (map name_of xs) i))
one_is_linked linkage s xs i x b h is e =
    ap (λ (l : List specs.Name). record s { all = l })
    (map-set name_of xs i b ∙ ap (slice_set (map name_of xs) i) (e ∙ ap (specs.linked linkage) (ap name_of is ∙ sym (name_seen xs i x h))))

-- one more block of local labels
pub block_added : (xs : List Block) (b : Block) → b.entries ≡ [] → map by_name (xs ++ b ∷ []) ≡ map by_name xs ++ no_locals ∷ []
block_added xs b e = map-append by_name xs (b ∷ []) ∙ ap (λ (l : List ℕ → Option Local). map by_name xs ++ l ∷ []) (nothing_named b e)

add-two : (i : ℕ) → i + 2 ≡ suc (suc i)
add-two i = omega arith

-- the labels of a further block are seen, and become others
further_seen : (xs : List Block) (i : ℕ) (d : Block) → i < length xs → slice_index_or (map by_name xs) i no_locals ≡ by_name (slice_index_or xs i d)
further_seen xs i d h = get_or-map by_name xs i d no_locals h

pub block_seen : (m f : Block) (xs : List Block) (block i : ℕ) (d : Block) → i < length xs → block ≡ i + 2 → slice_index_or (by_name m ∷ by_name f ∷ map by_name xs) block no_locals ≡ by_name (slice_index_or xs i d)
block_seen m f xs block i d h e = ap (λ (k : ℕ). slice_index_or (by_name m ∷ by_name f ∷ map by_name xs) k no_locals) (e ∙ add-two i) ∙ further_seen xs i d h

further_put : (xs : List Block) (i : ℕ) (text : List ℕ) (l : Local) (d b : Block) → i < length xs → by_name b ≡ with_entry text (Some l) (by_name (slice_index_or xs i d))
    → map by_name (slice_set xs i b) ≡ slice_set (map by_name xs) i (with_entry text (Some l) (slice_index_or (map by_name xs) i no_locals))
further_put xs i text l d b h e =
    map-set by_name xs i b ∙ ap (slice_set (map by_name xs) i) (e ∙ ap (with_entry text (Some l)) (sym (further_seen xs i d h)))

pub label_put : (m f : Block) (xs : List Block) (block i : ℕ) (text : List ℕ) (l : Local) (x b : Block) → i < length xs → block ≡ i + 2 → x ≡ slice_index_or xs i x → by_name b ≡ with_entry text (Some l) (by_name x)
    → by_name m ∷ by_name f ∷ map by_name (slice_set xs i b) ≡ slice_set (by_name m ∷ by_name f ∷ map by_name xs) block (with_entry text (Some l) (slice_index_or (by_name m ∷ by_name f ∷ map by_name xs) block no_locals))
label_put m f xs block i text l x b h is old e =
    ap (λ (t : List (List ℕ → Option Local)). by_name m ∷ by_name f ∷ t) (further_put xs i text l x b h (e ∙ ap (λ (y : Block). with_entry text (Some l) (by_name y)) old))
    ∙ ap (λ (k : ℕ). slice_set (by_name m ∷ by_name f ∷ map by_name xs) k (with_entry text (Some l) (slice_index_or (by_name m ∷ by_name f ∷ map by_name xs) k no_locals))) (sym (is ∙ add-two i))
