-- Names that nothing defines are told one behind another.
use Rattle.std.proofs.Common.{◌≡◌, ◌<◌, ◌+◌, ℕ, suc, add-one, Bool, true, false, List, [], ◌∷◌, ◌++◌, length, map, drop, refl, sym, ap, ◌∙◌, drop-cons, append_assoc, arith}
use Rattle.std.proofs.lemmas.List.{append-nil, length-append}
use Rattle.std.specs.Prelude.{pos, if◌then◌else◌, slice_index_or}
use Rattle.vax_lex.specs.declared.value.Value.TheVariants.{External}
use Rattle.vax_asm_names.specs.Names as table
use Rattle.vax_asm_names.specs.View.{name_of}
use Rattle.vax_asm_names.specs.declared.types.Name.{Name}
use Rattle.vax_asm_scope.specs.Scope.{is_external, external_names, with_externals}
use Rattle.vax_asm_values.specs.Values.{Source, Given, with_source}

either_name : (b : Bool) (text : List ℕ) (rest : List (List ℕ)) → (if b then text ∷ rest else rest) ≡ (if b then text ∷ [] else []) ++ rest
either_name true text rest = refl
either_name false text rest = refl

names_more : (x : table.Name) (xs : List table.Name) → external_names (x ∷ xs) ≡ external_names (x ∷ []) ++ external_names xs
names_more x xs = either_name (is_external x) x.text (external_names xs)

either_source : (b : Bool) (text : List ℕ) (k : ℕ) (xs : List table.Name) (given old : List Source)
    → (if b then with_externals (k + 1) xs given else with_externals k xs old) ≡ with_externals (k + length (if b then text ∷ [] else [])) xs (if b then given else old)
either_source true text k xs given old = refl
either_source false text k xs given old = ap (λ (n : ℕ). with_externals n xs old) (omega arith)

sources_more : (k : ℕ) (x : table.Name) (xs : List table.Name) (s : List Source) → with_externals k (x ∷ xs) s ≡ with_externals (k + length (external_names (x ∷ []))) xs (with_externals k (x ∷ []) s)
sources_more k x xs s = either_source (is_external x) x.text k xs (with_source x.definition (Given (External k (pos 0))) s) s

split_at : (names : List Name) (i : ℕ) (n : Name) → i < length names → n ≡ slice_index_or names i n → map name_of (drop i names) ≡ name_of n ∷ map name_of (drop (i + 1) names)
split_at names i n h at =
    let split : drop i names ≡ n ∷ drop (i + 1) names = rw add-one (drop-cons names i n h ∙ ap (λ (x : Name). x ∷ drop (suc i) names) (sym at)) in
    ap (map name_of) split

pub externals_told : (before after all : List (List ℕ)) (names : List Name) (i : ℕ) (n : Name) → i < length names → n ≡ slice_index_or names i n
    → after ≡ before ++ external_names (name_of n ∷ []) → before ++ external_names (map name_of (drop i names)) ≡ all
    → after ++ external_names (map name_of (drop (i + 1) names)) ≡ all
externals_told before after all names i n h at more same =
    let rest = external_names (map name_of (drop (i + 1) names)) in
    ap (λ (l : List (List ℕ)). l ++ rest) more
    ∙ append_assoc before (external_names (name_of n ∷ [])) rest
    ∙ ap (λ (l : List (List ℕ)). before ++ l) (sym (names_more (name_of n) (map name_of (drop (i + 1) names))) ∙ ap external_names (sym (split_at names i n h at)))
    ∙ same

pub externals_given : (before after : List (List ℕ)) (old new all : List Source) (names : List Name) (i : ℕ) (n : Name) → i < length names → n ≡ slice_index_or names i n
    → after ≡ before ++ external_names (name_of n ∷ []) → new ≡ with_externals (length before) (name_of n ∷ []) old
    → with_externals (length before) (map name_of (drop i names)) old ≡ all
    → with_externals (length after) (map name_of (drop (i + 1) names)) new ≡ all
externals_given before after old new all names i n h at more given same =
    let rest = map name_of (drop (i + 1) names) in
    let longer : length after ≡ length before + length (external_names (name_of n ∷ [])) = ap length more ∙ length-append before (external_names (name_of n ∷ [])) in
    ap (λ (k : ℕ). with_externals k rest new) longer
    ∙ ap (λ (s : List Source). with_externals (length before + length (external_names (name_of n ∷ []))) rest s) given
    ∙ sym (sources_more (length before) (name_of n) rest old)
    ∙ ap (λ (l : List table.Name). with_externals (length before) l old) (sym (split_at names i n h at))
    ∙ same

pub no_name : (texts : List (List ℕ)) → texts ≡ texts ++ []
no_name texts = sym (append-nil texts)
