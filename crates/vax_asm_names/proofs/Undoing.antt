-- How the table goes back to its mark.
use Rattle.std.proofs.Common.{◌≡◌, ℕ, suc, max, ◌<◌, ◌≤◌, ◌+◌, ◌-◌, List, [], ◌∷◌, ◌++◌, length, map, take, slice_get, slice_index_or, slice_set, Bool, true, false, cond, Option, Some, None, refl, sym, ap, subst, ◌∙◌, arith}
use Rattle.std.specs.Prelude.{if◌then◌else◌}
use Rattle.std.specs.Option.{ForSome}
use Rattle.std.specs.Str.{bytes_eq}
use Rattle.std.specs.Cmp.Lexicographic.{bytes_decides}
use Rattle.std.proofs.lemmas.List.{length-append, length-map, map-append, get_or-set_same, map-set, set-set, set-get_or, take-map}
use Rattle.std.proofs.lemmas.Option.{slice_get-get_or}
use Rattle.std.proofs.Math.Path.{fun_ext}
use Rattle.std.proofs.Math.Seq.{get_or-append_seam, take-append_seam}
use Rattle.vax_asm_names.proofs.Changing.{Block, name_seen}
use Rattle.vax_asm_names.specs.ByName.{by_name, with_entry}
use Rattle.vax_asm_names.specs.Content.{name_of, names_in}
use Rattle.vax_asm_names.specs.Journal.{IsSound, Notes, marked_in, said_of, undo, undone, with_said, without_name}
use Rattle.vax_asm_names.specs.Names as specs
use Rattle.vax_asm_names.specs.Names.{Names, first_seen, in_next_block, name_at, no_locals, with_change, with_name}
use Rattle.vax_asm_names.specs.declared.journal.Journal.{Journal}
use Rattle.vax_asm_names.specs.declared.journal.Said.{Said}
use Rattle.vax_asm_names.specs.declared.journal.Step.{Step}
use Rattle.vax_asm_names.specs.declared.journal.Step.TheVariants.{Added, Changed, Begun}
use Rattle.vax_asm_names.specs.declared.types.Content.{Content}
use Rattle.vax_asm_names.specs.declared.types.Local.{Local}
use Rattle.vax_asm_names.specs.declared.types.Name.{Name}

-- the last of all steps is undone first
pub undone_last : (steps : List Step) (step : Step) (n : Names) → undone (steps ++ step ∷ []) n ≡ undone steps (undo step n)
unfolding undone
undone_last [] step n = refl
undone_last (s ∷ steps) step n = ap (undo s) (undone_last steps step n)

-- nothing is left where there was nothing to take
pub none_left : (steps : List Step) (n : Names) → length steps ≡ 0 → undone steps n ≡ n
unfolding undone
none_left [] n e = refl
none_left (s ∷ steps) n e = absurd (omega (arith, e))

pub undone_none : (n : Names) → undone [] n ≡ n
unfolding undone
undone_none n = refl

some_is : {X : Type 0} {x y : X} → Some x ≡ Some y → x ≡ y
some_is {X} {x} e = ap (λ (o : Option X). elim o [ Some z ↦ z | None ↦ x ]) e

there : {X : Type 0} (b : Bool) (x m : X) → (if b then Some x else None) ≡ Some m → (b ≡ true) × (x ≡ m)
there true x m e = (refl, some_is e)
there false x m e = absurd (cc)

there_too : {X : Type 0} (b : Bool) (x m : X) → b ≡ true → x ≡ m → (if b then Some x else None) ≡ Some m
there_too true x m is e = ap Some e
there_too false x m is e = absurd (cc)

-- a change that is noted keeps the mark
pub noted : (step : Step) (a b : Journal) (old new m : Names) → Notes step a b → (b.marked ≡ true → undo step new ≡ old) → marked_in b new ≡ Some m → marked_in a old ≡ Some m
noted step a b old new m notes back e =
    let is = there b.marked (undone b.steps.items new) m e in
    let before = notes is.0 in
    there_too a.marked (undone a.steps.items old) m before.0
    (ap (undone a.steps.items) (sym (back is.0)) ∙ sym (undone_last a.steps.items step new) ∙ ap (λ steps. undone steps new) (sym before.1) ∙ is.1)

-- without a mark there is nothing to keep
pub dropped : {P : Type 0} (j : Journal) (n m : Names) → j.marked ≡ false → marked_in j n ≡ Some m → P
dropped j n m is e = absurd (let h : true ≡ false = sym (there j.marked (undone j.steps.items n) m e).0 ∙ is in cc)

-- what is marked now
pub marked_here : (j : Journal) (n : Names) → j.marked ≡ true → j.steps.items ≡ [] → marked_in j n ≡ Some n
marked_here j n is none = there_too j.marked (undone j.steps.items n) n is (ap (λ steps. undone steps n) none ∙ undone_none n)

-- the last one of a list
last_got : {X : Type 0} (xs : List X) (x : X) → slice_get (xs ++ x ∷ []) (length (xs ++ x ∷ []) - 1) ≡ Some x
last_got xs x =
    let at : length (xs ++ x ∷ []) - 1 ≡ length xs = omega (arith, length-append xs (x ∷ [])) in
    let within : length xs < length (xs ++ x ∷ []) = omega (arith, length-append xs (x ∷ [])) in
    ap (slice_get (xs ++ x ∷ [])) at ∙ slice_get-get_or (xs ++ x ∷ []) (length xs) x within ∙ ap Some (get_or-append_seam xs x [] x)

last_taken : {X : Type 0} (xs : List X) (x : X) → take (length (xs ++ x ∷ []) - 1) (xs ++ x ∷ []) ≡ xs
last_taken xs x =
    let at : length (xs ++ x ∷ []) - 1 ≡ length xs = omega (arith, length-append xs (x ∷ [])) in
    ap (λ (k : ℕ). take k (xs ++ x ∷ [])) at ∙ take-append_seam xs (x ∷ [])

taken_back : (b : Bool) (o p : Option ℕ) → (b ≡ true → None ≡ p) → cond b None (cond b o p) ≡ p
taken_back true o p none = none refl
taken_back false o p none = refl

-- a name that was added is taken away
pub added_undone : (text : List ℕ) (definition : ℕ) (n : Names) → n.numbers text ≡ None → undo Added (with_name text definition n) ≡ n
added_undone text definition n none =
    let x = first_seen n.assumes_external text definition in
    let new = with_name text definition n in
    let numbers : with_entry text None new.numbers ≡ n.numbers =
    fun_ext λ t. taken_back (bytes_eq text t) (Some (length n.all)) (n.numbers t) (λ is. sym none ∙ ap n.numbers ((bytes_decides text t).0 is)) in
    ap (λ (o : Option specs.Name). without_name o new) (last_got n.all x)
    ∙ ap (λ (f : List ℕ → Option ℕ). record n { numbers = f; all = take (length new.all - 1) new.all }) numbers
    ∙ ap (λ (l : List specs.Name). record n { all = l }) (last_taken n.all x)

-- a name is as before again, whatever became of all but its text
same_again : (was name : specs.Name) → name.text ≡ was.text → with_said (said_of was) name ≡ was
same_again was name e = ap (λ (text : List ℕ). record was { text = text }) e

pub change_undone : (s : Names) (xs : List Name) (i : ℕ) (x b : Name) → i < length (map name_of xs) → x ≡ slice_index_or xs i x → b.text ≡ x.text
    → undo (Changed i (said_of (name_at (map name_of xs) i))) (record s { all = map name_of (slice_set xs i b) }) ≡ record s { all = map name_of xs }
change_undone s xs i x b h is e =
    let all = map name_of xs in
    let was = name_at all i in
    let seen : was ≡ name_of x = name_seen xs i x h ∙ ap name_of (sym is) in
    let now : name_at (map name_of (slice_set xs i b)) i ≡ name_of b =
    ap (λ l. name_at l i) (map-set name_of xs i b) ∙ get_or-set_same all i (name_of b) (first_seen true [] 0) h in
    let back : with_said (said_of was) (name_at (map name_of (slice_set xs i b)) i) ≡ was =
    ap (with_said (said_of was)) now ∙ same_again was (name_of b) (ap (λ v. v.items) e ∙ ap (λ (n : specs.Name). n.text) (sym seen)) in
    ap (λ (l : List specs.Name). record s { all = l })
    (ap (slice_set (map name_of (slice_set xs i b)) i) back
    ∙ ap (λ (l : List specs.Name). slice_set l i was) (map-set name_of xs i b)
    ∙ set-set all i (name_of b) was
    ∙ set-get_or all i (first_seen true [] 0))

-- a block that began is taken away
two_stay : (k : ℕ) → max 2 (suc (suc k) - 1) ≡ suc (suc (k - 1))
two_stay k = omega arith

blocks_taken : {X : Type 0} (m f : X) (xs : List X) → take (max 2 (length (m ∷ f ∷ xs) - 1)) (m ∷ f ∷ xs) ≡ m ∷ f ∷ take (length xs - 1) xs
blocks_taken m f xs = ap (λ (k : ℕ). take k (m ∷ f ∷ xs)) (two_stay (length xs))

abbrev Labels : Type 0
Labels = List ℕ → Option Local

pub block_undone : (n : Names) (m f : Labels) (xs ys : List Labels) (k : ℕ) → ys ≡ xs ++ no_locals ∷ [] → undo (Begun n.block) (record n { blocks = m ∷ f ∷ ys; block = k }) ≡ record n { blocks = m ∷ f ∷ xs }
block_undone n m f xs ys k more =
    ap (λ (l : List Labels). record n { blocks = l })
    (blocks_taken m f ys ∙ ap (λ (l : List Labels). m ∷ f ∷ take (length l - 1) l) more ∙ ap (λ (l : List Labels). m ∷ f ∷ l) (last_taken xs no_locals))

-- a block that is taken away
pub block_taken : (n : Names) (m f : Labels) (xs ys : List Block) (block : ℕ) → ys ≡ take (length xs - 1) xs
    → record n { blocks = m ∷ f ∷ map by_name ys; block = block } ≡ undo (Begun block) (record n { blocks = m ∷ f ∷ map by_name xs })
block_taken n m f xs ys block less =
    ap (λ (l : List Labels). record n { blocks = l; block = block })
    (ap (λ (l : List Block). m ∷ f ∷ map by_name l) less
    ∙ ap (λ (l : List Labels). m ∷ f ∷ l) (sym (take-map by_name (length xs - 1) xs) ∙ ap (λ (k : ℕ). take (k - 1) (map by_name xs)) (sym (length-map xs by_name)))
    ∙ sym (blocks_taken m f (map by_name xs)))

-- a name that is taken away
pub name_taken : (n : Names) (xs ys : List Name) (numbers : List ℕ → Option ℕ) (x : Name) → xs ≡ ys ++ x ∷ [] → numbers ≡ with_entry x.text.items None n.numbers
    → record n { numbers = numbers; all = map name_of ys } ≡ undo Added (record n { all = map name_of xs })
name_taken n xs ys numbers x last is =
    let all = map name_of ys ++ name_of x ∷ [] in
    let seen : map name_of xs ≡ all = ap (map name_of) last ∙ map-append name_of ys (x ∷ []) in
    ap (λ (f : List ℕ → Option ℕ). record n { numbers = f; all = map name_of ys }) is
    ∙ ap (λ (l : List specs.Name). record n { numbers = with_entry x.text.items None n.numbers; all = l }) (sym (last_taken (map name_of ys) (name_of x)))
    ∙ ap (λ (o : Option specs.Name). without_name o (record n { all = all })) (sym (last_got (map name_of ys) (name_of x)))
    ∙ ap (λ (l : List specs.Name). undo Added (record n { all = l })) (sym seen)

-- a name of which is said what was
pub name_restored : (n : Names) (xs : List Name) (i : ℕ) (was : Said) (x b : Name) → i < length xs → x ≡ slice_index_or xs i x → name_of b ≡ with_said was (name_of x)
    → record n { all = map name_of (slice_set xs i b) } ≡ undo (Changed i was) (record n { all = map name_of xs })
name_restored n xs i was x b h is e =
    let within : i < length (map name_of xs) = omega (arith, h, length-map xs name_of) in
    ap (λ (l : List specs.Name). record n { all = l })
    (map-set name_of xs i b ∙ ap (slice_set (map name_of xs) i) (e ∙ ap (with_said was) (ap name_of is ∙ sym (name_seen xs i x within))))

-- the table's numbers and its block are in range where the names are sound
pub is_sound : (c : Content) → ((text : List ℕ) → ForSome (by_name c.numbers text) (λ i. i < length c.names.items)) → c.block ≤ length c.further_blocks.items + 1 → IsSound (names_in c)
is_sound c numbers block = (
  λ text i e. rw (length-map c.names.items name_of) (numbers text i e),
  omega (arith, block, length-map c.further_blocks.items by_name),
)

pub numbers_in_range : (c : Content) → IsSound (names_in c) → (text : List ℕ) → ForSome (by_name c.numbers text) (λ i. i < length c.names.items)
numbers_in_range c sound text i e = omega (arith, sound.0 text i e, length-map c.names.items name_of)

pub block_in_range : (c : Content) → IsSound (names_in c) → c.block ≤ length c.further_blocks.items + 1
block_in_range c sound = omega (arith, sound.1, length-map c.further_blocks.items by_name)

pub sound_here : (j : Journal) (n : Names) → j.marked ≡ true → j.steps.items ≡ [] → IsSound n → (m : Names) → marked_in j n ≡ Some m → IsSound m
sound_here j n is none sound m e = let same : n ≡ m = some_is (sym (marked_here j n is none) ∙ e) in subst IsSound same sound

-- what is marked is got by undoing all
pub undone_is : (j : Journal) (n m : Names) → j.marked ≡ true → m ≡ undone j.steps.items n → marked_in j n ≡ Some m
undone_is j n m is e = there_too j.marked (undone j.steps.items n) m is (sym e)

-- names that are the same have the same mark
pub same_marked : (j : Journal) (old new m : Names) → new ≡ old → marked_in j new ≡ Some m → marked_in j old ≡ Some m
same_marked j old new m e is = subst (λ n. marked_in j n ≡ Some m) e is

-- what is added, changed or begun keeps the mark
pub added_keeps : (a b : Journal) (text : List ℕ) (definition : ℕ) (old new m : Names) → Notes Added a b → (b.marked ≡ true → old.numbers text ≡ None) → new ≡ with_name text definition old
    → marked_in b new ≡ Some m → marked_in a old ≡ Some m
added_keeps a b text definition old new m notes fresh is = noted Added a b old new m notes (λ marked. ap (undo Added) is ∙ added_undone text definition old (fresh marked))

pub change_keeps : (a b : Journal) (s m : Names) (seen xs : List Name) (i : ℕ) (x y : Name) → i < length (map name_of xs) → x ≡ slice_index_or xs i x → y.text ≡ x.text → seen ≡ xs
    → Notes (Changed i (said_of (name_at (map name_of seen) i))) a b → marked_in b (record s { all = map name_of (slice_set xs i y) }) ≡ Some m → marked_in a (record s { all = map name_of xs }) ≡ Some m
change_keeps a b s m seen xs i x y h is e same notes =
    let P : List Name → Type 0 = λ l. Notes (Changed i (said_of (name_at (map name_of l) i))) a b in
    noted (Changed i (said_of (name_at (map name_of xs) i))) a b (record s { all = map name_of xs }) (record s { all = map name_of (slice_set xs i y) }) m (subst P same notes) (λ marked. change_undone s xs i x y h is e)

pub block_keeps : (a b : Journal) (n k : Names) (m f : Labels) (xs ys : List Labels) (block : ℕ) → Notes (Begun n.block) a b → ys ≡ xs ++ no_locals ∷ []
    → marked_in b (record n { blocks = m ∷ f ∷ ys; block = block }) ≡ Some k → marked_in a (record n { blocks = m ∷ f ∷ xs }) ≡ Some k
block_keeps a b n k m f xs ys block notes more =
    noted (Begun n.block) a b (record n { blocks = m ∷ f ∷ xs }) (record n { blocks = m ∷ f ∷ ys; block = block }) k notes (λ marked. block_undone n m f xs ys block more)
