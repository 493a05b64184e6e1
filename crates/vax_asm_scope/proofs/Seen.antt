-- What the code's lists are in the definitions' terms.
use Rattle.std.proofs.Common.{◌≡◌, ◌<◌, ◌≤◌, arith, ℕ, List, [], ◌∷◌, ◌++◌, length, map, sym, ap, ◌∙◌, subst, refl, Option, Some, None, Ok, Err, true}
use Rattle.std.proofs.lemmas.List.{get_or-map, length-map, length-set, map-append}
use Rattle.std.proofs.Math.Seq.{get_or-append_seam}
use Rattle.std.specs.Global.{Vec}
use Rattle.std.specs.Prelude.{slice_index_or, slice_set}
use Rattle.vax_asm_names.specs.Names as specs
use Rattle.vax_asm_names.specs.Names.{assigned, changed, labelled}
use Rattle.vax_asm_names.specs.View.{name_of}
use Rattle.vax_asm_names.specs.declared.types.DefinedBy.TheVariants.{Assignment, Label}
use Rattle.vax_asm_names.specs.declared.types.Duplicate.{Duplicate}
use Rattle.vax_asm_names.specs.declared.types.Name.{Name}
use Rattle.vax_asm_scope.specs.Scope.{Scope, entry, entry_by, is_missing}
use Rattle.vax_asm_values.specs.Values.{Written, Means, Worked}
use Rattle.vax_asm_values.specs.View.{meaning_of}
use Rattle.vax_asm_values.specs.declared.types.Meaning.{Meaning}

pub definition_seen : (xs : List Name) (all : List specs.Name) (i : ℕ) (d : Name) → map name_of xs ≡ all → i < length all → (slice_index_or xs i d).definition ≡ (specs.name_at all i).definition
definition_seen xs all i d is h =
    let within : i < length xs = subst (λ n. i < n) (length-map xs name_of) (subst (λ (l : List specs.Name). i < length l) (sym is) h) in
    ap (λ (n : specs.Name). n.definition) (sym (get_or-map name_of xs i d (specs.first_seen true [] 0) within) ∙ ap (λ (l : List specs.Name). specs.name_at l i) is)

pub missing_seen : (xs : List Name) (all : List specs.Name) (i : ℕ) (d : Name) → map name_of xs ≡ all → i < length all → is_missing (name_of (slice_index_or xs i d)) ≡ is_missing (specs.name_at all i)
missing_seen xs all i d is h =
    let within : i < length xs = subst (λ n. i < n) (length-map xs name_of) (subst (λ (l : List specs.Name). i < length l) (sym is) h) in
    ap is_missing (sym (get_or-map name_of xs i d (specs.first_seen true [] 0) within) ∙ ap (λ (l : List specs.Name). specs.name_at l i) is)

pub meaning_added : (ms : List Meaning) (m : Meaning) → map meaning_of (ms ++ m ∷ []) ≡ map meaning_of ms ++ meaning_of m ∷ []
meaning_added ms m = map-append meaning_of ms (m ∷ [])

pub within_changed : (xs : List specs.Name) (i : ℕ) (n : specs.Name) → i < length xs → i < length (slice_set xs i n)
within_changed xs i n h = rw (length-set xs i n) h

-- what is there stays there
pub means_more : (w : Written) (n m : ℕ) → Means n (Worked w) → n ≤ m → Means m (Worked w)
means_more w n m h less = λ i d l. omega (arith, h i d l, less)

pub text_added : (vs : List (Vec ℕ)) (v : Vec ℕ) (t : List ℕ) → v.items ≡ t → map (λ (w : Vec ℕ). w.items) (vs ++ v ∷ []) ≡ map (λ (w : Vec ℕ). w.items) vs ++ t ∷ []
text_added vs v t e = map-append (λ (w : Vec ℕ). w.items) vs (v ∷ []) ∙ ap (λ (x : List ℕ). map (λ (w : Vec ℕ). w.items) vs ++ x ∷ []) e

pub texts_count : (vs : List (Vec ℕ)) → length (map (λ (w : Vec ℕ). w.items) vs) ≡ length vs
texts_count vs = length-map vs (λ (w : Vec ℕ). w.items)

-- a name that is defined has appeared
appeared_by : (text : List ℕ) (s : Scope) (o : Option ℕ) (e : Duplicate)
    → changed (entry_by text s o).number (entry_by text s o).scope.names (labelled (specs.name_at (entry_by text s o).scope.names.all (entry_by text s o).number)) ≡ Err e
    → (entry_by text s o).scope ≡ s
appeared_by text s (Some i) e h = refl
appeared_by text s None e h =
    let fresh = specs.first_seen s.names.assumes_external text (length s.sources) in
    let last : specs.name_at (s.names.all ++ fresh ∷ []) (length s.names.all) ≡ fresh = get_or-append_seam s.names.all fresh [] (specs.first_seen true [] 0) in
    let names = specs.with_name text (length s.sources) s.names in
    let is : Ok (specs.with_change (length s.names.all) names (record fresh { defined_by = Label })) ≡ Err e =
    ap (λ (n : specs.Name). changed (length s.names.all) names (labelled n)) (sym last) ∙ h in
    cc

pub second_label : (text : List ℕ) (s : Scope) (e : Duplicate)
    → changed (entry text s).number (entry text s).scope.names (labelled (specs.name_at (entry text s).scope.names.all (entry text s).number)) ≡ Err e
    → (entry text s).scope ≡ s
second_label text s e h = appeared_by text s (s.names.numbers text) e h

-- a name that is a label has appeared
label_by : (text : List ℕ) (s : Scope) (o : Option ℕ) (fresh : ℕ) (e : Duplicate)
    → changed (entry_by text s o).number (entry_by text s o).scope.names (assigned fresh (specs.name_at (entry_by text s o).scope.names.all (entry_by text s o).number)) ≡ Err e
    → (entry_by text s o).scope ≡ s
label_by text s (Some i) fresh e h = refl
label_by text s None fresh e h =
    let first = specs.first_seen s.names.assumes_external text (length s.sources) in
    let last : specs.name_at (s.names.all ++ first ∷ []) (length s.names.all) ≡ first = get_or-append_seam s.names.all first [] (specs.first_seen true [] 0) in
    let names = specs.with_name text (length s.sources) s.names in
    let is : Ok (specs.with_change (length s.names.all) names (record first { defined_by = Assignment })) ≡ Err e =
    ap (λ (n : specs.Name). changed (length s.names.all) names (assigned fresh n)) (sym last) ∙ h in
    cc

pub label_assigned : (text : List ℕ) (s : Scope) (fresh : ℕ) (e : Duplicate)
    → changed (entry text s).number (entry text s).scope.names (assigned fresh (specs.name_at (entry text s).scope.names.all (entry text s).number)) ≡ Err e
    → (entry text s).scope ≡ s
label_assigned text s fresh e h = label_by text s (s.names.numbers text) fresh e h
